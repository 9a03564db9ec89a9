-- Evidence on small meshes.
use Rattle.surf_surfaces.proofs.Common.{◌≡◌, ℕ, ◌<◌, Bool, true, false, ◌&&◌, List, [], ◌∷◌, refl, arith, Contains, AllByRecursion, and_parts, All-from_recursion, xor, any_below, any_below-none, xor_equal, pair_lt, among, edges, face_count, edge_count, boundary, parity}
use Rattle.surf_surfaces.specs.SmallMeshes.{three_torus}
use Rattle.surf_surfaces.specs.Pillow.{pillow}
use Rattle.surf_surfaces.proofs.meshes.PairLaws.{Rising}
use Rattle.surf_surfaces.proofs.meshes.EdgeLaws.{rising_at, contains_from_among}
use Rattle.surf_classes.specs.Evidence.{is_listed, has_odd_sides, is_odd_in, IsOddEvidence, IsChosenNull}
use Rattle.surf_classes.specs.SmallCases.{torus_pairs}
use Rattle.surf_classes.proofs.Listed.{climbing_at}

faces_even : any_below (face_count three_torus) (has_odd_sides three_torus torus_pairs) ≡ false
faces_even = refl

chain_odd : is_odd_in three_torus (parity three_torus (0 ∷ 1 ∷ 2 ∷ 0 ∷ [])) torus_pairs ≡ true
chain_odd = refl

null_bounds : any_below (edge_count three_torus)
    (λ e. xor (boundary three_torus (is_listed (6 ∷ [])) e) (parity three_torus (3 ∷ 6 ∷ 7 ∷ 3 ∷ []) e)) ≡ false
null_bounds = refl

pillow_bounds : any_below (edge_count pillow)
    (λ e. xor (boundary pillow (is_listed (1 ∷ [])) e) (parity pillow (0 ∷ 1 ∷ 2 ∷ 0 ∷ []) e)) ≡ false
pillow_bounds = refl

empty_bounds : any_below (edge_count pillow)
    (λ e. xor (boundary pillow (is_listed []) e) (parity pillow (0 ∷ 1 ∷ 0 ∷ []) e)) ≡ false
empty_bounds = refl

-- all pairs pass, and each is before all later ones
abbrev pass : (ℕ × ℕ → Bool) → List (ℕ × ℕ) → Bool
pass test [] = true
pass test (p ∷ ps) = test p && pass test ps

abbrev rise : List (ℕ × ℕ) → Bool
rise [] = true
rise (p ∷ ps) = pass (pair_lt p) ps && rise ps

all_pass : (test : ℕ × ℕ → Bool) (ps : List (ℕ × ℕ)) → pass test ps ≡ true → AllByRecursion (λ p. test p ≡ true) ps
all_pass test [] h = tt
all_pass test (p ∷ ps) h = let both = and_parts (test p) (pass test ps) h in (both.0, all_pass test ps both.1)

all_rise : (ps : List (ℕ × ℕ)) → rise ps ≡ true → Rising ps
all_rise [] h = tt
all_rise (p ∷ ps) h =
    let both = and_parts (pass (pair_lt p) ps) (rise ps) h in (all_pass (pair_lt p) ps both.0, all_rise ps both.1)

all_edges : (ps : List (ℕ × ℕ)) → AllByRecursion (λ p. among p (edges three_torus) ≡ true) ps →
    AllByRecursion (Contains (edges three_torus)) ps
all_edges [] h = tt
all_edges (p ∷ ps) h = (contains_from_among p (edges three_torus) h.0, all_edges ps h.1)

pub torus_odd : IsOddEvidence three_torus (parity three_torus (0 ∷ 1 ∷ 2 ∷ 0 ∷ [])) torus_pairs
torus_odd = record {
  rises = rising_at torus_pairs (all_rise torus_pairs refl);
  are_edges = All-from_recursion (Contains (edges three_torus)) torus_pairs
      (all_edges torus_pairs (all_pass (λ p. among p (edges three_torus)) torus_pairs refl));
  faces_even = any_below-none (face_count three_torus) (has_odd_sides three_torus torus_pairs) faces_even;
  chain_odd = chain_odd;
}

pub torus_null : IsChosenNull three_torus (parity three_torus (3 ∷ 6 ∷ 7 ∷ 3 ∷ [])) (6 ∷ [])
torus_null = record {
  evidence = record {
    rises = climbing_at (6 ∷ []) (tt, tt);
    are_faces = All-from_recursion (λ f. f < face_count three_torus) (6 ∷ []) (omega arith, tt);
    bounds = λ e l. xor_equal (boundary three_torus (is_listed (6 ∷ [])) e)
        (parity three_torus (3 ∷ 6 ∷ 7 ∷ 3 ∷ []) e)
        (any_below-none (edge_count three_torus) (λ h. xor (boundary three_torus (is_listed (6 ∷ [])) h)
        (parity three_torus (3 ∷ 6 ∷ 7 ∷ 3 ∷ []) h)) null_bounds e l);
  };
  without_first = refl;
}

pub pillow_null : IsChosenNull pillow (parity pillow (0 ∷ 1 ∷ 2 ∷ 0 ∷ [])) (1 ∷ [])
pillow_null = record {
  evidence = record {
    rises = climbing_at (1 ∷ []) (tt, tt);
    are_faces = All-from_recursion (λ f. f < face_count pillow) (1 ∷ []) (omega arith, tt);
    bounds = λ e l. xor_equal (boundary pillow (is_listed (1 ∷ [])) e) (parity pillow (0 ∷ 1 ∷ 2 ∷ 0 ∷ []) e)
        (any_below-none (edge_count pillow) (λ h. xor (boundary pillow (is_listed (1 ∷ [])) h)
        (parity pillow (0 ∷ 1 ∷ 2 ∷ 0 ∷ []) h)) pillow_bounds e l);
  };
  without_first = refl;
}

pub pillow_empty : IsChosenNull pillow (parity pillow (0 ∷ 1 ∷ 0 ∷ [])) []
pillow_empty = record {
  evidence = record {
    rises = climbing_at [] tt;
    are_faces = All-from_recursion (λ f. f < face_count pillow) [] tt;
    bounds = λ e l. xor_equal (boundary pillow (is_listed []) e) (parity pillow (0 ∷ 1 ∷ 0 ∷ []) e)
        (any_below-none (edge_count pillow) (λ h. xor (boundary pillow (is_listed []) h)
        (parity pillow (0 ∷ 1 ∷ 0 ∷ []) h)) empty_bounds e l);
  };
  without_first = refl;
}
