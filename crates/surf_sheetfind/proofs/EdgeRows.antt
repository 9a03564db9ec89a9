-- The edges of cocycles in a certificate: one edge more, and the sets of all edges.
use Rattle.surf_surfaces.proofs.Common.{◌≡◌, ◌≢◌, ℕ, ◌+◌, ◌<◌, ◌^◌, ◌++◌, true, List, [], ◌∷◌, length, get_or, map, bit_xor, refl, sym, ap, ◌∙◌, subst, arith, inl, inr, All, AllPairs, Contains, AllByRecursion, recursion_from_All, cases_eq, cases_lt, get_or_append_left, get_or_push, get_or_default, length-append, slice_index, numbers, sum_of, IsSplit, Split, cells_of, edge_signature, walk_signature, Mesh, pair_of, pair_lt, edges, steps, sides, edge_count, face_count, face_at, ends, edge_number, place_of, IsSurface, IsClosed, IsFace, pair, steps_from, lt-ltb, le-ltb}
use Rattle.surf_z2.proofs.Span.{four, meet, add_zero}
use Rattle.surf_surfaces.specs.Walk.{last_from}
use Rattle.surf_surfaces.proofs.LawProofs.{edges_are_in_order}
use Rattle.surf_surfaces.proofs.meshes.EdgeLaws.{place_of-among, place_of-ends}
use Rattle.surf_surfaces.proofs.walks.FaceWalkLaws.{faces_sum_to_zero, round_closed}
use Rattle.surf_treecheck.proofs.Common.{among-contains}
use Rattle.surf_base.specs.Tables.{nobody}
use Rattle.surf_records.specs.Fits.{LeftFits}
use Rattle.surf_sheets.specs.Rows.{SheetCert}
use Rattle.surf_sheetcheck.specs.Cocycles.{set_of, edge_set, steps_set, walk_set, face_set}
use Rattle.surf_sheetcheck.specs.Tables.{IsSlot}
use Rattle.surf_sheetcheck.proofs.Slots.{slot_set, no_slot_set}
use Rattle.surf_paired.specs.Paired.{image}
use Rattle.surf_paired.proofs.Rows.{images_add, image_none}
use Rattle.surf_sheetfind.specs.Pairs.{class_by}
use Rattle.surf_sheetfind.specs.Listed.{edge_image, numbers_below, IsEdgeRow, AreEdgeRows}
use Rattle.surf_sheetfind.proofs.Numbers.{pairs_push, numbers_make}

-- an edge by its ends
pub ends_one : (mesh : Mesh) (e f : ℕ) → e < edge_count mesh → f < edge_count mesh → ends mesh e ≡ ends mesh f → e ≡ f
ends_one mesh e f le lf same =
    sym (place_of-ends mesh e le) ∙ ap (λ p. place_of p (edges mesh)) same ∙ place_of-ends mesh f lf

module _ (mesh : Mesh) (sets : ℕ → ℕ) (k : ℕ) where
  pub edges_none : AreEdgeRows mesh sets k 0 [] []
  edges_none = record {
    as_many = refl;
    few = omega arith;
    each = λ j l. absurd (omega (arith, l));
    there = λ e l some. absurd (omega (arith, l));
    rises = λ i j d lt l. absurd (omega (arith, l));
  }

  wider : (n : ℕ) (pair : ℕ × ℕ) (row : List ℕ) → IsEdgeRow mesh sets k n pair row →
      IsEdgeRow mesh sets k (n + 1) pair row
  wider n pair row r =
      let below = r.below in
      record { edge = r.edge; below = omega (arith, below); its_ends = r.its_ends; some = r.some; row_is = r.row_is }

  -- an edge whose image is empty
  pub edges_skip : (n : ℕ) (list : List (ℕ × ℕ)) (numbers : List (List ℕ)) → sets n ≡ 0 →
      AreEdgeRows mesh sets k n list numbers → AreEdgeRows mesh sets k (n + 1) list numbers
  edges_skip n list numbers none a =
      let few = a.few in
      record {
        as_many = a.as_many;
        few = omega (arith, few);
        each = λ j l. wider n (get_or list j (0, 0)) (get_or numbers j []) (a.each j l);
        there = λ e l some. elim (cases_eq e n) [
          | inl same ↦ absurd (some (ap sets same ∙ none))
          | inr ne ↦ a.there e (omega (arith, l, ne)) some
        ];
        rises = a.rises;
      }

  module _ (n : ℕ) (list new_list : List (ℕ × ℕ)) (numbers new_numbers : List (List ℕ)) (row : List ℕ)
      (n_in : n < edge_count mesh) (some : sets n ≢ 0)
      (row_is : row ≡ numbers_below (sets n) k)
      (list_is : new_list ≡ list ++ ends mesh n ∷ []) (numbers_are : new_numbers ≡ numbers ++ row ∷ [])
      (a : AreEdgeRows mesh sets k n list numbers) where
    list_size : length new_list ≡ length list + 1
    list_size = ap length list_is ∙ length-append list (ends mesh n ∷ [])

    numbers_size : length new_numbers ≡ length numbers + 1
    numbers_size = ap length numbers_are ∙ length-append numbers (row ∷ [])

    old_pair : (j : ℕ) (d : ℕ × ℕ) → j < length list → get_or new_list j d ≡ get_or list j d
    old_pair j d l = ap (λ xs. get_or xs j d) list_is ∙ get_or_append_left list (ends mesh n ∷ []) d j l

    new_pair : get_or new_list (length list) (0, 0) ≡ ends mesh n
    new_pair = ap (λ xs. get_or xs (length list) (0, 0)) list_is ∙ get_or_push list (ends mesh n) (0, 0) (length list) refl

    old_row : (j : ℕ) → j < length list → get_or new_numbers j [] ≡ get_or numbers j []
    old_row j l =
        let many = a.as_many in
        ap (λ xs. get_or xs j []) numbers_are ∙ get_or_append_left numbers (row ∷ []) [] j (omega (arith, l, many))

    new_row : get_or new_numbers (length list) [] ≡ row
    new_row = ap (λ xs. get_or xs (length list) []) numbers_are ∙ get_or_push numbers row [] (length list) a.as_many

    last_row : IsEdgeRow mesh sets k (n + 1) (ends mesh n) row
    last_row = record { edge = n; below = omega arith; its_ends = refl; some = some; row_is = row_is }

    in_order : All (λ p. pair_lt p (ends mesh n) ≡ true) list
    in_order k d l =
        let r = a.each k l in
        let below = r.below in
        subst (λ p. pair_lt p (ends mesh n) ≡ true) (sym r.its_ends ∙ get_or_default list k (0, 0) d l)
        (edges_are_in_order mesh r.edge n (0, 0) below n_in)

    pub edges_more : AreEdgeRows mesh sets k (n + 1) new_list new_numbers
    edges_more =
        let many = a.as_many in
        let few = a.few in
        record {
          as_many = omega (arith, list_size, numbers_size, many);
          few = omega (arith, list_size, few);
          each = λ j l. elim (cases_lt j (length list)) [
            | inl less ↦
                subst (λ p. IsEdgeRow mesh sets k (n + 1) p (get_or new_numbers j [])) (sym (old_pair j (0, 0) less))
                (subst (IsEdgeRow mesh sets k (n + 1) (get_or list j (0, 0))) (sym (old_row j less))
                (wider n (get_or list j (0, 0)) (get_or numbers j []) (a.each j less)))
            | inr past ↦
                let same : length list ≡ j = omega (arith, l, past, list_size) in
                subst (λ m. IsEdgeRow mesh sets k (n + 1) (get_or new_list m (0, 0)) (get_or new_numbers m [])) same
                (subst (λ p. IsEdgeRow mesh sets k (n + 1) p (get_or new_numbers (length list) [])) (sym new_pair)
                (subst (IsEdgeRow mesh sets k (n + 1) (ends mesh n)) (sym new_row) last_row))
          ];
          there = λ e l on. elim (cases_eq e n) [
            | inl same ↦ (length list, omega (arith, list_size), new_pair ∙ ap (ends mesh) (sym same))
            | inr ne ↦
                let (j, below, is) = a.there e (omega (arith, l, ne)) on in
                (j, omega (arith, below, list_size), old_pair j (0, 0) below ∙ is)
          ];
          rises = subst (AllPairs (λ p q. pair_lt p q ≡ true)) (sym list_is)
              (pairs_push (λ p q. pair_lt p q ≡ true) list (ends mesh n) a.rises in_order);
        }

-- ---- sums of the signatures of steps

pub step_inside : (mesh : Mesh) (s : ℕ × ℕ) → Contains (edges mesh) (pair_of s) → edge_number mesh s < edge_count mesh
step_inside mesh s has = (place_of-among (pair_of s) (edges mesh) (0, 0) (among-contains (pair_of s) (edges mesh) has)).0

module _ (mesh : Mesh) (signatures : List ℕ) (d : Split)
    (signed : (e : ℕ) → e < edge_count mesh → slice_index signatures e ≡ edge_signature mesh d e) where
  pub signed_sum : (ss : List (ℕ × ℕ)) → AllByRecursion (λ s. Contains (edges mesh) (pair_of s)) ss →
      sum_of numbers (map (λ s. slice_index signatures (edge_number mesh s)) ss)
      ≡ sum_of numbers (map (λ s. edge_signature mesh d (edge_number mesh s)) ss)
  signed_sum [] along = refl
  signed_sum (s ∷ ss) along =
      ap (λ x. bit_xor x (sum_of numbers (map (λ t. slice_index signatures (edge_number mesh t)) ss)))
      (signed (edge_number mesh s) (step_inside mesh s along.0))
      ∙ ap (bit_xor (edge_signature mesh d (edge_number mesh s))) (signed_sum ss along.1)

  pub class_is : (walk : List ℕ) → All (λ s. Contains (edges mesh) (pair_of s)) (steps walk) →
      class_by mesh signatures walk ≡ walk_signature mesh d walk
  class_is walk along =
      signed_sum (steps walk) (recursion_from_All (λ s. Contains (edges mesh) (pair_of s)) (steps walk) along)

-- ---- the sets of edges

module _ (mesh : Mesh) (cert : SheetCert) (sets : ℕ → ℕ) (k : ℕ) (few : edge_count mesh < 2 ^ 30)
    (fits : LeftFits (length cert.edges) cert.edges)
    (a : AreEdgeRows mesh sets k (edge_count mesh) cert.edges cert.numbers)
    (small : (e : ℕ) → e < edge_count mesh → sets e < 2 ^ k) where
  pub edge_set_is : (e : ℕ) → e < edge_count mesh → edge_set mesh cert e ≡ sets e
  edge_set_is e l = elim (cases_eq (sets e) 0) [
    | inl none ↦
        let slot : IsSlot cert (length cert.edges) (ends mesh e) nobody =
        record {
          none = λ is j below same.
              let r = a.each j below in
              r.some (ap sets (ends_one mesh r.edge e r.below l (sym r.its_ends ∙ same)) ∙ none);
          some = λ ne. absurd (ne refl);
        } in
        no_slot_set mesh cert fits e nobody a.as_many slot refl ∙ sym none
    | inr some ↦
        let (j, below, is) = a.there e l some in
        let listed = a.few in
        let real : j ≢ nobody = λ same. omega (arith, same, below, listed, few) in
        let slot : IsSlot cert (length cert.edges) (ends mesh e) j =
        record { none = λ same. absurd (real same); some = λ ne. (below, is) } in
        let r = a.each j below in
        let same : r.edge ≡ e = ends_one mesh r.edge e r.below l (sym r.its_ends ∙ is) in
        slot_set mesh cert fits e j slot real
        ∙ ap set_of (r.row_is ∙ ap (λ f. numbers_below (sets f) k) same)
        ∙ numbers_make (sets e) k (small e l)
  ]

-- ---- labels cancel round a walk

labels_meet : (a b c d e : ℕ) →
    bit_xor (bit_xor a (bit_xor c d)) (bit_xor b (bit_xor d e)) ≡ bit_xor (bit_xor a b) (bit_xor c e)
labels_meet a b c d e =
    four numbers a (bit_xor c d) b (bit_xor d e)
    ∙ ap (bit_xor (bit_xor a b)) (ap (λ x. bit_xor x (bit_xor d e)) (numbers.comm c d) ∙ meet numbers d c e)

module _ (mesh : Mesh) (cert : SheetCert) (rows signatures labels : List ℕ)
    (each : (e : ℕ) → e < edge_count mesh → edge_set mesh cert e ≡ edge_image mesh rows signatures labels e) where
  -- the labels of the ends of a step
  pair_labels : (u w : ℕ) → bit_xor (slice_index labels (pair u w).0) (slice_index labels (pair u w).1)
      ≡ bit_xor (slice_index labels u) (slice_index labels w)
  pair_labels u w = elim (cases_lt u w) [
    | inl less ↦ rw (lt-ltb u w less) refl
    | inr more ↦ rw (le-ltb u w more) (numbers.comm (slice_index labels w) (slice_index labels u))
  ]

  step_set : (u w : ℕ) → Contains (edges mesh) (pair u w) →
      edge_set mesh cert (edge_number mesh (u, w))
      ≡ bit_xor (image rows (slice_index signatures (edge_number mesh (u, w))))
      (bit_xor (slice_index labels u) (slice_index labels w))
  step_set u w has =
      let there = place_of-among (pair u w) (edges mesh) (0, 0) (among-contains (pair u w) (edges mesh) has) in
      let sig = image rows (slice_index signatures (edge_number mesh (u, w))) in
      each (edge_number mesh (u, w)) there.0
      ∙ ap (λ (p : ℕ × ℕ). bit_xor sig (bit_xor (slice_index labels p.0) (slice_index labels p.1))) there.1
      ∙ ap (bit_xor sig) (pair_labels u w)

  sum_is : (u : ℕ) (rest : List ℕ) → AllByRecursion (λ s. Contains (edges mesh) (pair_of s)) (steps_from u rest) →
      steps_set mesh cert (steps_from u rest)
      ≡ bit_xor (image rows (sum_of numbers (map (λ s. slice_index signatures (edge_number mesh s)) (steps_from u rest))))
      (bit_xor (slice_index labels u) (slice_index labels (last_from u rest)))
  sum_is u [] along =
      sym (ap (λ x. bit_xor x (bit_xor (slice_index labels u) (slice_index labels u))) (image_none rows)
      ∙ numbers.unit (bit_xor (slice_index labels u) (slice_index labels u)) ∙ numbers.self (slice_index labels u))
  sum_is u (w ∷ rest) along =
      let sig : ℕ = slice_index signatures (edge_number mesh (u, w)) in
      let later = sum_of numbers (map (λ t. slice_index signatures (edge_number mesh t)) (steps_from w rest)) in
      let l : ℕ → ℕ = slice_index labels in
      ap (λ x. bit_xor x (steps_set mesh cert (steps_from w rest))) (step_set u w along.0)
      ∙ ap (bit_xor (bit_xor (image rows sig) (bit_xor (l u) (l w)))) (sum_is w rest along.1)
      ∙ labels_meet (image rows sig) (image rows later) (l u) (l w) (l (last_from w rest))
      ∙ ap (λ x. bit_xor x (bit_xor (l u) (l (last_from w rest)))) (sym (images_add rows sig later))

  pub walk_set_is : (walk : List ℕ) → IsClosed mesh walk →
      walk_set mesh cert walk ≡ image rows (class_by mesh signatures walk)
  walk_set_is [] closed = absurd (omega (arith, closed.is_walk.begins))
  walk_set_is (u ∷ rest) closed =
      let class = class_by mesh signatures (u ∷ rest) in
      sum_is u rest
      (recursion_from_All (λ s. Contains (edges mesh) (pair_of s)) (steps_from u rest) closed.is_walk.along_edges)
      ∙ ap (λ v. bit_xor (image rows class) (bit_xor (slice_index labels u) (slice_index labels v))) (sym closed.returns)
      ∙ ap (bit_xor (image rows class)) (numbers.self (slice_index labels u)) ∙ add_zero numbers (image rows class)

  module _ (d : Split) (surface : IsSurface mesh) (split : IsSplit (cells_of mesh) d)
      (signed : (e : ℕ) → e < edge_count mesh → slice_index signatures e ≡ edge_signature mesh d e) where
    -- each face has an even number of the edges of each cocycle
    pub face_even : (f : ℕ) → f < face_count mesh → face_set mesh cert f ≡ 0
    face_even f f_in = by_corners (face_at mesh f) refl
      where
        by_corners : (corners : List ℕ) → face_at mesh f ≡ corners → face_set mesh cert f ≡ 0
        by_corners [] is =
            let large = (subst (IsFace mesh.vertices) is (surface.is_mesh f [] f_in)).large in absurd (omega (arith, large))
        by_corners (u ∷ rest) is =
            let round = round_closed mesh surface f f_in u rest is in
            let along = round.is_walk.along_edges in
            ap (λ corners. steps_set mesh cert (sides corners)) is
            ∙ walk_set_is (u ∷ (rest ++ u ∷ [])) round
            ∙ ap (image rows) (class_is mesh signatures d signed (u ∷ (rest ++ u ∷ [])) along
            ∙ ap (λ corners. sum_of numbers (map (λ s. edge_signature mesh d (edge_number mesh s)) (sides corners))) (sym is)
            ∙ faces_sum_to_zero mesh d surface split f f_in) ∙ image_none rows
