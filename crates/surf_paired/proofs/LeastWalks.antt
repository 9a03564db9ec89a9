-- Closed walks that are odd on cocycles which are paired with the walks of a least basis.
use Rattle.surf_surfaces.proofs.Common.{◌≡◌, ℕ, zero, suc, ◌<◌, Bool, true, false, cond, List, [], ◌∷◌, length, get_or, map, filter, refl, sym, ap, ◌∙◌, arith, inl, inr, cases_lt, leb, leb-true, AllByRecursion, true≢false, xor, odd, Chain, chosen, Mesh, edge_count, IsSurface, parity, walk_length}
use Rattle.surf_surfaces.specs.Homology.{IsLeastBasis}
use Rattle.surf_surfaces.proofs.classes.ShortSumLaws.{bases_are_least_by_short_sums}
use Rattle.surf_surfaces.proofs.classes.SumLaws.{sum_from_total}
use Rattle.surf_sheets.specs.Sheets.{ArePaired, AreByLength}
use Rattle.surf_sheets.proofs.Oddness.{odd_in, odd_sum, odd_parity, boundary_even_in}
use Rattle.surf_paired.specs.Laws.{OddWalksAreNoShorterThanLeast}

-- what passes a test has a property, where each member that passes has it
passing_all : {X : Type 0} (d : X) (P : X → Type 0) (fits : X → Bool) (xs : List X) →
    ((j : ℕ) → j < length xs → fits (get_or xs j d) ≡ true → P (get_or xs j d)) → AllByRecursion P (filter fits xs)
passing_all d P fits [] each = tt
passing_all d P fits (x ∷ xs) each =
    split (fits x) refl (passing_all d P fits xs (λ j l fit. each (suc j) (omega (arith, l)) fit))
  where
    split : (b : Bool) → fits x ≡ b → AllByRecursion P (filter fits xs) →
        AllByRecursion P (cond b (x ∷ filter fits xs) (filter fits xs))
    split true fit rest = (each zero (omega arith) fit, rest)
    split false out rest = rest

-- a sum of walks that are even on a set
none_odd : (mesh : Mesh) (set : Chain) (choice : List Bool) (walks : List (List ℕ)) →
    AllByRecursion (λ v. odd_in (edge_count mesh) set (parity mesh v) ≡ false) walks →
    odd (map (λ x. odd_in (edge_count mesh) set x) (map (parity mesh) (chosen choice walks))) ≡ false
none_odd mesh set [] walks even = refl
none_odd mesh set (b ∷ choice) [] even = refl
none_odd mesh set (false ∷ choice) (v ∷ walks) even = none_odd mesh set choice walks even.1
none_odd mesh set (true ∷ choice) (v ∷ walks) even =
    ap (λ b. xor b (odd (map (λ x. odd_in (edge_count mesh) set x) (map (parity mesh) (chosen choice walks))))) even.0
    ∙ none_odd mesh set choice walks even.1

module _ (mesh : Mesh) (lengths : List ℕ) (walks : List (List ℕ)) (cocycles : ℕ → Chain) (surface : IsSurface mesh)
    (least : IsLeastBasis mesh lengths walks) (by_length : AreByLength mesh lengths walks)
    (paired : ArePaired mesh walks cocycles) (i : ℕ) (limit : ℕ)
    (shorter : limit < walk_length mesh lengths (get_or walks i [])) where
  -- walks that are no longer come before it
  comes_before : (j : ℕ) → j < length walks → leb (walk_length mesh lengths (get_or walks j [])) limit ≡ true → j < i
  comes_before j l fit = elim (cases_lt j i) [
    | inl before ↦ before
    | inr after ↦
        let short = leb-true (walk_length mesh lengths (get_or walks j [])) limit fit in
        elim (cases_lt i j) [
          | inl later ↦ let order = by_length i j later l in absurd (omega (arith, order, short, shorter))
          | inr same ↦
              let is : i ≡ j = omega (arith, after, same) in
              let size : walk_length mesh lengths (get_or walks i []) ≡ walk_length mesh lengths (get_or walks j []) =
              ap (λ k. walk_length mesh lengths (get_or walks k [])) is in
              absurd (omega (arith, size, short, shorter))
        ]
  ]

  -- so they are even on its cocycle
  pub short_even : i < length walks →
      AllByRecursion (λ v. odd_in (edge_count mesh) (cocycles i) (parity mesh v) ≡ false)
      (filter (λ v. leb (walk_length mesh lengths v) limit) walks)
  short_even i_in =
      passing_all [] (λ v. odd_in (edge_count mesh) (cocycles i) (parity mesh v) ≡ false)
      (λ v. leb (walk_length mesh lengths v) limit) walks (λ j l fit.
      sym (odd_parity mesh surface (cocycles i) (get_or walks j []) (least.is_basis.closed j [] l))
      ∙ paired.later j i (comes_before j l fit) i_in)

pub odd_walks_are_no_shorter_than_least : OddWalksAreNoShorterThanLeast
odd_walks_are_no_shorter_than_least mesh lengths walks cocycles surface positive least by_length are_cocycles paired i i_in w
    closed on =
    let limit = walk_length mesh lengths w in
    elim (cases_lt limit (walk_length mesh lengths (get_or walks i []))) [
      | inr no_less ↦ no_less
      | inl shorter ↦
          let fits : List ℕ → Bool = λ v. leb (walk_length mesh lengths v) limit in
          let set = cocycles i in
          let (choice, null) =
          (bases_are_least_by_short_sums mesh lengths walks surface positive least.is_basis).0 least w closed in
          let some = chosen choice (filter fits walks) in
          let even = boundary_even_in mesh surface set (are_cocycles i i_in)
          _ (sum_from_total mesh (w ∷ some) null) in
          let sums = odd_sum (edge_count mesh) set (map (parity mesh) (w ∷ some)) in
          let rest : odd (map (λ x. odd_in (edge_count mesh) set x) (map (parity mesh) some)) ≡ false =
          none_odd mesh set choice (filter fits walks)
          (short_even mesh lengths walks cocycles surface least by_length paired i limit shorter i_in) in
          let own : odd_in (edge_count mesh) set (parity mesh w) ≡ true = sym (odd_parity mesh surface set w closed) ∙ on in
          absurd (true≢false (sym (ap (λ b. xor b false) own)
          ∙ sym (ap (xor (odd_in (edge_count mesh) set (parity mesh w))) rest) ∙ sym sums ∙ even))
    ]
