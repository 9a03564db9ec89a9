-- The labels of the sides at one vertex more are numbered.
use Rattle.surf_slit.proofs.Common.{◌≡◌, ◌≢◌, ℕ, ◌+◌, ◌<◌, ◌^◌, sym, subst, ap, ◌∙◌, List, [], ◌∷◌, ◌++◌, length, get_or, arith, Mesh, side_count, length-append, get_or-append-add, set}
use Rattle.surf_cutter.proofs.Common.{all_corners, nobody, label_at, AreCounted, AreSortedTo, IsRowAt, AreNumberedTo}
use Rattle.surf_cutter.proofs.Counted.{counted_none, counted_on, counted_again, counted_new}
use Rattle.surf_cutter.proofs.Sorted.{sorted_none, sorted_more, sorted_few}

-- the labels of the sides that begin at the first v vertices are numbered, and those of the first n in a row of others
abbrev pub AreNumberedIn : Mesh → ℕ → List ℕ → ℕ → List ℕ → List ℕ → List ℕ → Type 0
AreNumberedIn mesh v ring_row n labels numbers origins =
    (order : List ℕ) × AreSortedTo mesh v order
    × AreCounted (order ++ ring_row) labels (all_corners mesh) (length order + n) numbers origins

pub numbered_none : (mesh : Mesh) (labels numbers : List ℕ) → ((l : ℕ) → l < length numbers → get_or numbers l 0 ≡ nobody) → AreNumberedTo mesh 0 labels numbers []
numbered_none mesh labels numbers none = ([], sorted_none mesh, counted_none [] labels (all_corners mesh) numbers none)

pub numbered_start : (mesh : Mesh) (v : ℕ) (ring_row labels numbers origins : List ℕ) → AreNumberedTo mesh v labels numbers origins → AreNumberedIn mesh v ring_row 0 labels numbers origins
numbered_start mesh v ring_row labels numbers origins are =
    let order = are.0 in
    let same : length order ≡ length order + 0 = omega arith in
    (order, are.1, subst (λ n. AreCounted (order ++ ring_row) labels (all_corners mesh) n numbers origins) same (counted_on order ring_row labels (all_corners mesh) numbers origins are.2))

pub numbered_done : (mesh : Mesh) (v n : ℕ) (ring_row labels numbers origins : List ℕ) → IsRowAt mesh v ring_row → n ≡ length ring_row → AreNumberedIn mesh v ring_row n labels numbers origins → AreNumberedTo mesh (v + 1) labels numbers origins
numbered_done mesh v n ring_row labels numbers origins is all are =
    let order = are.0 in
    let same : length order + n ≡ length (order ++ ring_row) = let l = length-append order ring_row in omega arith in
    (order ++ ring_row, sorted_more mesh v order ring_row are.1 is, subst (λ n. AreCounted (order ++ ring_row) labels (all_corners mesh) n numbers origins) same are.2)

-- a place of a row is one of the whole list
pub place_few : (mesh : Mesh) (v n : ℕ) (order ring_row : List ℕ) → AreSortedTo mesh v order → IsRowAt mesh v ring_row → n < length ring_row → length order + n < side_count mesh
place_few mesh v n order ring_row are is lt =
    let few = sorted_few mesh (v + 1) (order ++ ring_row) (sorted_more mesh v order ring_row are is) in
    let l = length-append order ring_row in
    omega arith

-- one side more is counted
module _ (mesh : Mesh) (v i : ℕ) (ring_row labels numbers origins : List ℕ) (is : IsRowAt mesh v ring_row) (few : side_count mesh < 2 ^ 30) (lt : i < length ring_row) (inside : label_at ring_row labels i < length numbers)
    (are : AreNumberedIn mesh v ring_row i labels numbers origins) where
  at : label_at (are.0 ++ ring_row) labels (length are.0 + i) ≡ label_at ring_row labels i
  at = ap (λ s. get_or labels s 0) (get_or-append-add are.0 ring_row i 0)

  more : length are.0 + i + 1 ≡ length are.0 + (i + 1)
  more = omega arith

  small : length are.0 + i < nobody
  small = let p = place_few mesh v i are.0 ring_row are.1 is lt in omega (arith, p, few)

  -- its label has a number
  pub numbered_again : get_or numbers (label_at ring_row labels i) 0 ≢ nobody → AreNumberedIn mesh v ring_row (i + 1) labels numbers origins
  numbered_again known =
      let next = counted_again (are.0 ++ ring_row) labels (all_corners mesh) numbers origins (length are.0 + i) are.2 small (subst (λ k. k < length numbers) (sym at) inside) (λ e. known (ap (λ k. get_or numbers k 0) (sym at) ∙ e)) in
      (are.0, are.1, subst (λ k. AreCounted (are.0 ++ ring_row) labels (all_corners mesh) k numbers origins) more next)

  -- its label has none yet
  pub numbered_new : get_or numbers (label_at ring_row labels i) 0 ≡ nobody → AreNumberedIn mesh v ring_row (i + 1) labels (set numbers (label_at ring_row labels i) (length origins)) (origins ++ v ∷ [])
  numbered_new unknown =
      let order = are.0 ++ ring_row in
      let n = length are.0 + i in
      let own : v ≡ get_or (all_corners mesh) (get_or order n 0) 0 = sym (ap (λ s. get_or (all_corners mesh) s 0) (get_or-append-add are.0 ring_row i 0) ∙ (is.begin i lt).1) in
      let next = counted_new order labels (all_corners mesh) numbers origins n are.2 small (subst (λ k. k < length numbers) (sym at) inside) (ap (λ k. get_or numbers k 0) at ∙ unknown) v own in (
        are.0,
        are.1,
        subst (λ k. AreCounted order labels (all_corners mesh) k (set numbers (label_at ring_row labels i) (length origins)) (origins ++ v ∷ [])) more
            (subst (λ l. AreCounted order labels (all_corners mesh) (n + 1) (set numbers l (length origins)) (origins ++ v ∷ [])) at next),
      )
