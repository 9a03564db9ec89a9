-- Offering the neighbours of a node as far as a radius, link by link.
use Rattle.surf_near.proofs.Common.{ℕ, ◌<◌, ◌≤◌, ◌≡◌, ◌≢◌, ◌+◌, arith, List, length, set, Some, refl, Graph, Entries, entry_of, lesser, link_at, IsRow, IsOfferedSome, offered_none, link_skip, link_more, offered_all, never, IsTrimmed, OffersNear}
use Rattle.surf_near.proofs.Trimming.{trim_offered, trim_passed}

-- the first n of them have been offered
abbrev pub OffersSome : Graph → (ℕ → ℕ) → (ℕ → ℕ) → ℕ → ℕ → ℕ → List (ℕ × ℕ) → Entries → Entries → ℕ → Type 0
OffersSome g len dist v d radius links old new n = (wide : Entries) → IsTrimmed radius wide old →
    (wider : Entries)
    × IsOfferedSome g len dist v d wide wider (λ k. (link_at links k).0) (λ k. (link_at links k).1) n
    × IsTrimmed radius wider new

module _ (g : Graph) (len dist : ℕ → ℕ) (v d radius : ℕ) (links : List (ℕ × ℕ)) (row : IsRow g v links) (old : Entries) where
  pub offers_none : OffersSome g len dist v d radius links old old 0
  offers_none wide trimmed = (wide, offered_none g len dist v d links row wide, trimmed)

  pub offers_all : (new : Entries) (n : ℕ) → length links ≤ n → OffersSome g len dist v d radius links old new n →
      OffersNear g len dist v d radius old new
  offers_all new n all some wide trimmed =
      let done = some wide trimmed in
      (done.0, offered_all g len dist v d links row wide done.0 n all done.1, done.2)

  module _ (heap : Entries) (n w e : ℕ) (l : n < length links) (is : link_at links n ≡ (w, e))
      (some : OffersSome g len dist v d radius links old heap n) where
    pub offers_skip : dist w ≢ never → OffersSome g len dist v d radius links old heap (n + 1)
    offers_skip settled wide trimmed =
        let done = some wide trimmed in
        (done.0, link_skip g len dist v d links row wide done.0 n done.1 l w e is settled, done.2)

    module _ (free : dist w ≡ never) (place : w < length heap) where
      pub offers_more : d + len e ≤ radius →
          OffersSome g len dist v d radius links old (set heap w (Some (lesser (entry_of heap w) (d + len e) 0))) (n + 1)
      offers_more within wide trimmed =
          let done = some wide trimmed in
          let same = done.2.same_length in
          let wider = set done.0 w (Some (lesser (entry_of done.0 w) (d + len e) 0)) in (
            wider,
            link_more g len dist v d links row wide done.0 n done.1 l w e is wider free (omega arith) refl,
            trim_offered radius done.0 heap done.2 w (d + len e) place within,
          )

      pub offers_passed : radius < d + len e → OffersSome g len dist v d radius links old heap (n + 1)
      offers_passed past wide trimmed =
          let done = some wide trimmed in
          let same = done.2.same_length in
          let wider = set done.0 w (Some (lesser (entry_of done.0 w) (d + len e) 0)) in (
            wider,
            link_more g len dist v d links row wide done.0 n done.1 l w e is wider free (omega arith) refl,
            trim_passed radius done.0 heap done.2 w (d + len e) place past,
          )
