-- From the least vertex at which a round is shortest the chosen walk is read back.
use Rattle.surf_cotree.proofs.Common.{◌≡◌, ℕ, ◌<◌, ◌≤◌, List, ◌∷◌, reverse, sym, ◌∙◌, subst, arith, inl, inr, cases_lt, Split, IsSplit, Mesh, IsSurface, ArePositive, IsClosed, walk_length, cells_of, walk_signature}
use Rattle.surf_cover.proofs.Common.{IsSet, IsSignedDistance, AreSignedDistances, IsLeastBase, IsReadBack, signed_distances_exist, read_back_is_chosen, Start, IsLeastStart}
use Rattle.surf_classes.specs.Shortest.{IsChosenWalk}

-- there is one least length
pub distance_one : (mesh : Mesh) (lengths : List ℕ) (d : Split) (x v set n m : ℕ) →
    IsSignedDistance mesh lengths d x v set n → IsSignedDistance mesh lengths d x v set m → n ≡ m
distance_one mesh lengths d x v set n m a b =
    let (walk, leads, size) = a.reached in
    let (other, there, long) = b.reached in
    let one : n ≤ walk_length mesh lengths other = a.least other there in
    let two : m ≤ walk_length mesh lengths walk = b.least walk leads in
    omega (arith, one, two, size, long)

-- of all vertices it is the base of the chosen walk
module _ (mesh : Mesh) (lengths : List ℕ) (d : Split) (surface : IsSurface mesh) (positive : ArePositive mesh lengths)
    (split : IsSplit (cells_of mesh) d) (set : ℕ) (is_set : IsSet d set) where
  all_rounds : (y : ℕ) → (n : ℕ) × (y < mesh.vertices → IsSignedDistance mesh lengths d y y set n)
  all_rounds y = elim (cases_lt y mesh.vertices) [
    | inl l ↦
        let (n, is) = signed_distances_exist mesh lengths d surface positive split y y set l l is_set in
        (n, λ _. is)
    | inr past ↦ (0, λ l. absurd (omega arith))
  ]

  module _ (start : Start) (is : IsLeastStart mesh lengths d set start) where
    first_round : (all_rounds start.vertex).0 ≡ start.length
    first_round =
        distance_one mesh lengths d start.vertex start.vertex set (all_rounds start.vertex).0 start.length
        ((all_rounds start.vertex).1 is.start_in) is.round

    least_base : IsLeastBase mesh lengths d set (λ y. (all_rounds y).0) start.vertex
    least_base = record {
      rounds = λ y l. (all_rounds y).1 l;
      base_in = is.start_in;
      shortest = λ y l. rw first_round (is.least y (all_rounds y).0 l ((all_rounds y).1 l)).0;
      least = λ y l same. (is.least y (all_rounds y).0 l ((all_rounds y).1 l)).1 (same ∙ first_round);
    }

    -- and what is read back from there is that walk
    pub chosen_at : (walk : List ℕ) → IsClosed mesh walk → walk_signature mesh d walk ≡ set → (table : ℕ → ℕ → ℕ) →
        AreSignedDistances mesh lengths d start.vertex table → (before : List ℕ) →
        IsReadBack mesh lengths d start.vertex table start.vertex set before →
        IsChosenWalk mesh lengths walk (reverse (start.vertex ∷ before))
        × (walk_length mesh lengths (reverse (start.vertex ∷ before)) ≡ start.length)
    chosen_at walk closed own table distances before read =
        let base : IsLeastBase mesh lengths d (walk_signature mesh d walk) (λ y. (all_rounds y).0) start.vertex =
        subst (λ s. IsLeastBase mesh lengths d s (λ y. (all_rounds y).0) start.vertex) (sym own) least_base in
        let back : IsReadBack mesh lengths d start.vertex table start.vertex (walk_signature mesh d walk) before =
        subst (λ s. IsReadBack mesh lengths d start.vertex table start.vertex s before) (sym own) read in
        let read_back = read_back_is_chosen mesh lengths d walk surface positive split closed (λ y. (all_rounds y).0)
        start.vertex table before base distances back in
        (read_back.0, read_back.1 ∙ first_round)
