-- Evidence as it is counted.
use Rattle.surf_cert.proofs.Common.{◌≡◌, ◌≢◌, ℕ, ◌<◌, ◌≤◌, Bool, true, false, suc, List, [], ◌∷◌, get_or, AllPairs, All, Contains, Result, Ok, Err, Some, None, IfErr, refl, sym, ap, ◌∙◌, subst, arith, position, get_or_default, xor, Chain, Mesh, edges, pair_lt, face_count, edge_count, faces_of, ends, IsSurface, boundary, edge_number, position-Some, surfaces_are_cells, edges_are_numbered}
use Rattle.surf_class.proofs.Common.{HoldsBelow, FailsFirst, AreFlags, is_flagged, Evidence, IsEvidence, IsRising, IsNullEvidence, IsOddEvidence, is_listed, has_odd_sides, is_odd_in, IsNoBoundary, IsOddFace, IsEvenNumber, AgreesAt, IsClassFault, ClassFault, Face, Boundary, Pair, OddFace, Even}
use Rattle.surf_class.proofs.Lists.{none_passes}
use Rattle.surf_classes.proofs.FirstFaults.{faults_are_told}
use Rattle.surf_class.specs.declared.fault.ClassFault.TheVariants.{Memory}

-- a pair that is an edge has a number
edge_in : (mesh : Mesh) → IsSurface mesh → (p : ℕ × ℕ) → Contains (edges mesh) p → edge_number mesh p < edge_count mesh
edge_in mesh surface p (k, l, is) =
    let at : ends mesh k ≡ p = get_or_default (edges mesh) k (0, 0) p l ∙ is in
    subst (λ (n : ℕ). n < edge_count mesh)
    (sym (ap (edge_number mesh) (sym at) ∙ (edges_are_numbered mesh surface.is_mesh).number_of_ends k l)) l

module _ (mesh : Mesh) (surface : IsSurface mesh) (chain : Chain) (flags : List Bool) (are : AreFlags (edge_count mesh) chain flags) where
  module _ (faces : List ℕ) (inside : List Bool) (set : AreFlags (face_count mesh) (is_listed faces) inside) where
    -- the boundary by flags
    same_boundary : (e : ℕ) → e < edge_count mesh → boundary mesh (is_flagged inside) e ≡ boundary mesh (is_listed faces) e
    same_boundary e l =
        let both = (surfaces_are_cells mesh surface).complex.dual_ends e l in
        ap (λ b. xor b (is_flagged inside (faces_of mesh e).1)) (set.each (faces_of mesh e).0 both.0)
        ∙ ap (xor (is_listed faces (faces_of mesh e).0)) (set.each (faces_of mesh e).1 both.1)

    agrees : (e : ℕ) → e < edge_count mesh → AgreesAt mesh inside flags e → boundary mesh (is_listed faces) e ≡ chain e
    agrees e l is = sym (same_boundary e l) ∙ is ∙ are.each e l

    pub null_right : AllPairs (λ f g. f < g) faces → All (λ f. f < face_count mesh) faces →
        HoldsBelow (edge_count mesh) (AgreesAt mesh inside flags) → IsNullEvidence mesh chain faces
    null_right rises within all = record {
      rises = rises;
      are_faces = within;
      bounds = λ e l. agrees e l (all e l);
    }

    pub null_wrong : (edge u v : ℕ) → All (λ f. f < face_count mesh) faces → (u, v) ≡ ends mesh edge →
        FailsFirst (edge_count mesh) (AgreesAt mesh inside flags) edge → IsNoBoundary mesh chain faces u v
    null_wrong edge u v within ends_are first = record {
      are_faces = within;
      edge = edge;
      is_edge = first.below;
      its_ends = sym ends_are;
      differs = λ same. first.fails (same_boundary edge first.below ∙ same ∙ sym (are.each edge first.below));
      least = λ e l. agrees e (omega (arith, l, first.below)) (first.before e l);
    }

  module _ (pairs : List (ℕ × ℕ)) (are_edges : All (Contains (edges mesh)) pairs) where
    -- the chain by flags
    pub same_odd : is_odd_in mesh (is_flagged flags) pairs ≡ is_odd_in mesh chain pairs
    same_odd = each pairs are_edges
      where
        each : (ps : List (ℕ × ℕ)) → All (Contains (edges mesh)) ps → is_odd_in mesh (is_flagged flags) ps ≡ is_odd_in mesh chain ps
        each [] all = refl
        each (p ∷ ps) all =
            ap (λ b. xor b (is_odd_in mesh (is_flagged flags) ps)) (are.each (edge_number mesh p) (edge_in mesh surface p (all 0 p (omega arith))))
            ∙ ap (xor (chain (edge_number mesh p))) (each ps (λ k d l. all (suc k) d (omega arith)))

    module _ (odds : List Bool) (sides : AreFlags (face_count mesh) (has_odd_sides mesh pairs) odds) where
      even_below : (n : ℕ) → n ≤ face_count mesh → ((k : ℕ) → k < n → get_or odds k false ≡ false) → (f : ℕ) → f < n →
          has_odd_sides mesh pairs f ≡ false
      even_below n few off f l = sym (sides.each f (omega (arith, l, few))) ∙ off f l

      pub odd_face_at : (f : ℕ) → position (λ b. b) odds ≡ Some f → IsOddFace mesh pairs f
      odd_face_at f is =
          let found = position-Some (λ b. b) odds f false is in
          let below : f < face_count mesh = omega (arith, found.0, sides.count) in
          record {
            are_edges = are_edges;
            is_face = below;
            odd_sides = sym (sides.each f below) ∙ found.1;
            least = even_below f (omega (arith, below)) found.2;
          }

      all_even : position (λ b. b) odds ≡ None → (f : ℕ) → f < face_count mesh → has_odd_sides mesh pairs f ≡ false
      all_even none = even_below (face_count mesh) (omega arith) (λ k l. none_passes (λ b. b) odds false none k (omega (arith, l, sides.count)))

      pub odd_right : AllPairs (λ p q. pair_lt p q ≡ true) pairs → position (λ b. b) odds ≡ None →
          is_odd_in mesh (is_flagged flags) pairs ≡ true → IsOddEvidence mesh chain pairs
      odd_right rises none on = record {
        rises = rises;
        are_edges = are_edges;
        faces_even = all_even none;
        chain_odd = sym same_odd ∙ on;
      }

      pub odd_wrong : position (λ b. b) odds ≡ None → is_odd_in mesh (is_flagged flags) pairs ≡ false →
          IsEvenNumber mesh chain pairs
      odd_wrong none off = record { are_edges = are_edges; faces_even = all_even none; chain_even = sym same_odd ∙ off }

-- a fault excludes that the evidence is right
pub excluded : (mesh : Mesh) (chain : Chain) (evidence : Evidence) → IsRising evidence → (fault : ClassFault) →
    IsClassFault mesh chain evidence fault → fault ≢ Memory → IsEvidence mesh chain evidence → ⊥
excluded mesh chain evidence rises (Face f) is other right = (faults_are_told mesh chain evidence rises).not_both right _ is
excluded mesh chain evidence rises (Boundary u v) is other right = (faults_are_told mesh chain evidence rises).not_both right _ is
excluded mesh chain evidence rises (Pair u v) is other right = (faults_are_told mesh chain evidence rises).not_both right _ is
excluded mesh chain evidence rises (OddFace f) is other right = (faults_are_told mesh chain evidence rises).not_both right _ is
excluded mesh chain evidence rises Even is other right = (faults_are_told mesh chain evidence rises).not_both right _ is
excluded mesh chain evidence rises Memory is other right = other refl

pub if_err_map : {A F : Type 0} (r : Result A F) (P Q : F → Type 0) → ((e : F) → P e → Q e) → IfErr r P → IfErr r Q
if_err_map (Ok x) P Q f h = h
if_err_map (Err e) P Q f h = f e h
