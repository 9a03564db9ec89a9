-- Linear tests of signatures are cocycles.
use Rattle.surf_surfaces.proofs.Common.{◌≡◌, ℕ, bit_xor, inl, inr, get_or, arith, Chain, IsClosed, ends, Bool, true, false, List, [], ◌∷◌, map, sym, ap, ◌∙◌, refl, AllByRecursion, recursion_from_All, numbers, sum_of, chosen, xor, odd, sides, steps, face_at, edge_number}
use Rattle.surf_surfaces.specs.Signature.{edge_signature}
use Rattle.surf_surfaces.proofs.classes.SignatureLaws.{signatures_are_classes}
use Rattle.surf_surfaces.proofs.walks.FaceWalkLaws.{faces_sum_to_zero}
use Rattle.surf_sheets.specs.Sheets.{is_odd_on}
use Rattle.surf_sheetorder.specs.Searches.{IsLinear, edges_passing}
use Rattle.surf_sheetorder.specs.Laws.{TestsAreCocycles, TestsPairWalks, LabelledEdgesShow, SumsPassNone, SumsKeepTests}
use Rattle.surf_sheetorder.proofs.Orders.{served_sets_show}
use Rattle.surf_sheetorder.proofs.RoundLaws.{alike_sets_are_odd_alike}

-- the test of a sum
test_sum : {X : Type 0} (test : ℕ → Bool) (class : X → ℕ) (xs : List X) → IsLinear test →
    odd (map (λ x. test (class x)) xs) ≡ test (sum_of numbers (map class xs))
test_sum test class [] linear = sym linear.none
test_sum test class (x ∷ xs) linear =
    ap (xor (test (class x))) (test_sum test class xs linear)
    ∙ sym (linear.sum (class x) (sum_of numbers (map class xs)))

pub tests_are_cocycles : TestsAreCocycles
tests_are_cocycles mesh d test surface split linear = (
  λ f f_in.
      test_sum test (λ s. edge_signature mesh d (edge_number mesh s)) (sides (face_at mesh f)) linear
      ∙ ap test (faces_sum_to_zero mesh d surface split f f_in) ∙ linear.none,
  λ walk closed.
      test_sum test (λ s. edge_signature mesh d (edge_number mesh s)) (steps walk) linear
      ∙ ap test (signatures_are_classes mesh d surface walk closed.is_walk),
)

-- a sum of what doesn't pass
no_sum : (test : ℕ → Bool) (choice : List Bool) (rows : List ℕ) → IsLinear test →
    AllByRecursion (λ row. test row ≡ false) rows → test (sum_of numbers (chosen choice rows)) ≡ false
no_sum test [] [] linear none = linear.none
no_sum test [] (row ∷ rows) linear none = linear.none
no_sum test (b ∷ bs) [] linear none = linear.none
no_sum test (false ∷ bs) (row ∷ rows) linear none = no_sum test bs rows linear none.1
no_sum test (true ∷ bs) (row ∷ rows) linear none =
    linear.sum row (sum_of numbers (chosen bs rows))
    ∙ ap (λ b. xor b (test (sum_of numbers (chosen bs rows)))) none.0
    ∙ no_sum test bs rows linear none.1

pub sums_pass_none : SumsPassNone
sums_pass_none test rows class linear none (choice, is) =
    ap test (sym is) ∙ no_sum test choice rows linear (recursion_from_All (λ row. test row ≡ false) rows none)

xor_none : (a b : Bool) → b ≡ false → xor a b ≡ a
xor_none true b none = rw none refl
xor_none false b none = rw none refl

pub sums_keep_tests : SumsKeepTests
sums_keep_tests test rows choice class linear none =
    linear.sum class (sum_of numbers (chosen choice rows))
    ∙ xor_none (test class) (test (sum_of numbers (chosen choice rows)))
    (no_sum test choice rows linear (recursion_from_All (λ row. test row ≡ false) rows none))

pub tests_pair_walks : TestsPairWalks
tests_pair_walks mesh d lengths walks tests surface split linear closed count by_place own later = record {
  closed = closed;
  count = count;
  by_place = by_place;
  are_cocycles = λ i l. (tests_are_cocycles mesh d (tests i) surface split (linear i)).0;
  paired = record {
    own = λ i l.
        (tests_are_cocycles mesh d (tests i) surface split (linear i)).1 (get_or walks i []) (closed i [] l) ∙ own i l;
    later = λ i j lt l.
        (tests_are_cocycles mesh d (tests j) surface split (linear j)).1 (get_or walks i [])
        (closed i [] (omega (arith, lt, l))) ∙ later i j lt l;
  };
}

pub labelled_edges_show : LabelledEdgesShow
labelled_edges_show mesh d lengths test labels place surface linear each walk closed on =
    served_sets_show mesh lengths labelled place surface
    (λ e e_in passes. elim (each e e_in passes) [
      | inl shown ↦ inl (λ w w_closed over odd_on. shown w w_closed over (sym (same w w_closed) ∙ odd_on))
      | inr shown ↦ inr (λ w w_closed over odd_on. shown w w_closed over (sym (same w w_closed) ∙ odd_on))
    ]) walk closed (same walk closed ∙ on)
  where
    labelled : Chain
    labelled e = test (bit_xor (bit_xor (labels (ends mesh e).0) (labels (ends mesh e).1)) (edge_signature mesh d e))

    same : (w : List ℕ) → IsClosed mesh w →
        is_odd_on mesh labelled w ≡ is_odd_on mesh (edges_passing mesh d test) w
    same w w_closed =
        alike_sets_are_odd_alike mesh (edges_passing mesh d test) labelled w surface (
          (λ v. test (labels v)),
          (λ e l.
              linear.sum (bit_xor (labels (ends mesh e).0) (labels (ends mesh e).1)) (edge_signature mesh d e)
              ∙ ap (λ b. xor b (test (edge_signature mesh d e)))
              (linear.sum (labels (ends mesh e).0) (labels (ends mesh e).1))),
        ) w_closed
