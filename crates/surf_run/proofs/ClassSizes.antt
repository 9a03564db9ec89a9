-- Right evidence fits the line of a text, and how long that is.
use Rattle.surf_answers.proofs.Common.{◌≡◌, ◌<◌, ◌≤◌, ◌+◌, ◌*◌, ◌++◌, ℕ, zero, suc, true, List, [], ◌∷◌, length, get_or, map, refl, sym, ap, ◌∙◌, subst, arith, inl, inr, codes, decimal, cases_order, get_or_default, get_or-map, length-map, recursion_from_All, Mesh, IsMesh, pair_lt, edges, face_count, edge_count, ends, edge_number, Chain, All, AllPairs, Contains, AllByRecursion, evidence_head_text, both_ends, evidence_text, EvidenceFits, Evidence, null_faces, odd_pairs, IsEvidence, edges-rise, rising_at, among-contains, pair_lt-trans, pair_lt-irreflexive}
use Rattle.surf_answers.proofs.Commands.{numbers_text}
use Rattle.surf_records.specs.Fits.{IsNumber, IsPair}
use Rattle.surf_surfaces.proofs.LawProofs.{edges_are_numbered}
use Rattle.surf_surfaces.proofs.meshes.SurfaceLaws.{edge_below}
use Rattle.surf_run.proofs.CertSizes.{length_of_three, number_short, numbers_short}

-- ---- how much right evidence lists

-- increasing numbers are at least their places
at_least : (xs : List ℕ) → AllPairs (λ a b. a < b) xs → (k : ℕ) → k < length xs → k ≤ get_or xs k 0
at_least xs rises zero l = omega arith
at_least xs rises (suc k) l =
    let before = at_least xs rises k (omega (arith, l)) in
    let above = rises k (suc k) 0 (omega arith) l in
    omega (arith, before, above)

few_below : (xs : List ℕ) (n : ℕ) → AllPairs (λ a b. a < b) xs → All (λ a. a < n) xs → length xs ≤ n
few_below [] n rises all = omega arith
few_below (x ∷ xs) n rises all =
    let least = at_least (x ∷ xs) rises (length xs) (omega arith) in
    let below = all (length xs) 0 (omega arith) in
    omega (arith, least, below)

module _ (mesh : Mesh) (is_mesh : IsMesh mesh) where
  -- the number of an edge, by its pair
  numbered : (p : ℕ × ℕ) → Contains (edges mesh) p →
      (edge_number mesh p < edge_count mesh) × (ends mesh (edge_number mesh p) ≡ p)
  numbered p (k, l, is) =
      let at : ends mesh k ≡ p = get_or_default (edges mesh) k (0, 0) p l ∙ is in
      let same : edge_number mesh p ≡ k = ap (edge_number mesh) (sym at)
      ∙ (edges_are_numbered mesh is_mesh).number_of_ends k l in
      (subst (λ (n : ℕ). n < edge_count mesh) (sym same) l, ap (ends mesh) same ∙ at)

  in_order : (p q : ℕ × ℕ) → Contains (edges mesh) p → Contains (edges mesh) q → pair_lt p q ≡ true →
      edge_number mesh p < edge_number mesh q
  in_order p q inp inq less =
      let (below_p, at_p) = numbered p inp in
      let (below_q, at_q) = numbered q inq in
      elim (cases_order (edge_number mesh p) (edge_number mesh q)) [
        | inl same ↦ absurd (pair_lt-irreflexive p q less (sym at_p ∙ ap (ends mesh) same ∙ at_q))
        | inr (inl first) ↦ first
        | inr (inr second) ↦ absurd (
            let turned : pair_lt q p ≡ true =
            subst (λ (r : ℕ × ℕ). pair_lt r p ≡ true) at_q
            (subst (λ (r : ℕ × ℕ). pair_lt (ends mesh (edge_number mesh q)) r ≡ true) at_p
            (rising_at (edges mesh) (edges-rise mesh) (edge_number mesh q) (edge_number mesh p) (0, 0) second below_p)) in
            pair_lt-irreflexive p p (pair_lt-trans p q p less turned) refl)
      ]

  few_edges : (ps : List (ℕ × ℕ)) → AllPairs (λ p q. pair_lt p q ≡ true) ps → All (Contains (edges mesh)) ps →
      length ps ≤ edge_count mesh
  few_edges ps rises all =
      let size : length (map (edge_number mesh) ps) ≡ length ps = length-map ps (edge_number mesh) in
      let at : (k d : ℕ) → k < length ps →
      get_or (map (edge_number mesh) ps) k d ≡ edge_number mesh (get_or ps k (0, 0)) =
      λ k d l. get_or-map (edge_number mesh) ps k (0, 0) d l in
      let few = few_below (map (edge_number mesh) ps) (edge_count mesh)
      (λ i j d less l.
      let j_in : j < length ps = omega (arith, l, size) in
      let i_in : i < length ps = omega (arith, less, j_in) in
      rw (at i d i_in, at j d j_in)
      (in_order (get_or ps i (0, 0)) (get_or ps j (0, 0)) (all i (0, 0) i_in) (all j (0, 0) j_in)
      (rises i j (0, 0) less j_in)))
      (λ k d l.
      let k_in : k < length ps = omega (arith, l, size) in
      rw (at k d k_in) (numbered (get_or ps k (0, 0)) (all k (0, 0) k_in)).0) in
      omega (arith, few, size)

  -- ---- it fits

  module _ (few_vertices : mesh.vertices ≤ 1000000) (few_faces : face_count mesh ≤ 2000000)
      (few : edge_count mesh ≤ 3001022) where
    pair_fits : (p : ℕ × ℕ) → Contains (edges mesh) p → IsPair p
    pair_fits p there =
        let below = edge_below mesh is_mesh p (among-contains p (edges mesh) there) in
        record { ordered = below.0; number = let last = below.1 in omega (arith, last, few_vertices) }

    pub evidence_fits : (chain : Chain) (evidence : Evidence) → IsEvidence mesh chain evidence → EvidenceFits evidence
    evidence_fits chain (null_faces faces) right =
        let count = few_below faces (face_count mesh) right.rises right.are_faces in
        record {
          count = omega (arith, count, few_faces);
          numbers = λ k d l. let below = right.are_faces k d l in omega (arith, below, few_faces);
          rises = right.rises;
        }
    evidence_fits chain (odd_pairs pairs) right =
        let count = few_edges pairs right.rises right.are_edges in
        record {
          count = omega (arith, count, few);
          ends = λ k d l. pair_fits (get_or pairs k d) (right.are_edges k d l);
          rises = right.rises;
        }

    -- ---- its line is short

    line_short : (word : List ℕ) (n : ℕ) (ns : List ℕ) → length word ≤ 4 → IsNumber n → AllByRecursion IsNumber ns →
        length (evidence_head_text word n ++ (numbers_text ns ++ codes "\n")) ≤ 16 + 11 * length ns
    line_short word n ns small count all =
        let whole = length_of_three (evidence_head_text word n) (numbers_text ns) (codes "\n") in
        let head = length_of_three word (codes " ") (decimal n) in
        let digits = number_short n count in
        let numbers = numbers_short ns all in
        omega (arith, whole, head, digits, numbers, small)

    both_numbers : (ps : List (ℕ × ℕ)) → AllByRecursion IsPair ps → AllByRecursion IsNumber (both_ends ps)
    both_numbers [] all = tt
    both_numbers (p ∷ ps) all =
        let order = all.0.ordered in
        let most = all.0.number in
        (omega (arith, order, most), (most, both_numbers ps all.1))

    two_each : (ps : List (ℕ × ℕ)) → length (both_ends ps) ≡ 2 * length ps
    two_each [] = refl
    two_each (p ∷ ps) = let rest = two_each ps in omega (arith, rest)

    pub evidence_short : (chain : Chain) (evidence : Evidence) → IsEvidence mesh chain evidence →
        length (evidence_text (codes "null") (codes "odd") evidence) ≤ 268435456
    evidence_short chain (null_faces faces) right =
        let fits = evidence_fits chain (null_faces faces) right in
        let line = line_short (codes "null") (length faces) faces (omega arith) fits.count
        (recursion_from_All IsNumber faces fits.numbers) in
        let count = few_below faces (face_count mesh) right.rises right.are_faces in
        omega (arith, line, count, few_faces)
    evidence_short chain (odd_pairs pairs) right =
        let fits = evidence_fits chain (odd_pairs pairs) right in
        let line =
        line_short (codes "odd") (length pairs) (both_ends pairs) (omega arith) fits.count
        (both_numbers pairs (recursion_from_All IsPair pairs fits.ends)) in
        let count = few_edges pairs right.rises right.are_edges in
        let two = two_each pairs in
        omega (arith, line, count, two, few)
