-- What is sewn of a mesh that was cut is that mesh.
use Rattle.surf_sew.proofs.Common.{◌≡◌, ◌≢◌, ◌<◌, ◌≤◌, ◌+◌, ◌^◌, ℕ, Bool, false, List, [], ◌∷◌, ◌++◌, length, get_or, map, Option, None, Ok, Err, refl, sym, ◌∙◌, ap, subst, append_assoc, length-append, arith, inl, inr, cond, eq-eqb, ◌==◌, slice_index, AllPairs, get_or-map-range_with_len, length-map-range_with_len, sum_by-cons, Mesh, IsFace, edge_count, side_count, bytes_eq-Decides, All, list_any, sum_by, cases_lt, ne_eqb, not_from_true, ext_get_or, length-map, get_or-map, get_or_past, get_or_append_left, All-tail, All-head, All-map, list_any_at, list_any_none, IsVertexLine, IsOffParts, OffParts, off_without_limits, lines_at, mesh_text, other_default, AllFaces, all_faces, short_faces, opened_again, CopyCount, SewFault, ◌>>=◌, counted, copies_in, first_copy, first_like, first_copies, different, HaveCopies, line_fault, sewn_face, sewn_faces, unless, sewn_mesh, sewn_of, sewn_lines, sewn_text, WasCut, opened, opened_parts, text_cut, OpenedAreReread, CopiesAreReread, OpenedAreSewn, LinesAreSewn, SewnAreReread}
use Rattle.std.proofs.lemmas.List.{get_or_at}
use Rattle.surf_disc.proofs.TableLaws.{edges_within}
use Rattle.surf_off.specs.Off.{first_repeat}
use Rattle.surf_sew.specs.Sewing.{repeat_from}
use Rattle.surf_sew.proofs.Gaps.{among_copy, copy_origin, different_few, no_more, no_gap}
use Rattle.surf_sew.proofs.Firsts.{like_few}
use Rattle.surf_sew.proofs.Faults.{no_line, sewn_sides, mesh_is, repeat_or}
use Rattle.surf_sew.proofs.Rereads.{lines_count, all_lines, sewn_again}
use Rattle.surf_sew.proofs.CutTexts.{cut_again}

-- No vertex of a face stands before.
first_none : (seen us : List ℕ) → AllPairs (λ a b. a ≢ b) (seen ++ us) → first_repeat seen us ≡ None
unfolding first_repeat
first_none seen [] differ = refl
first_none seen (u ∷ us) differ =
    let n = length seen in
    let at : get_or (seen ++ u ∷ us) n 0 ≡ u = get_or_at seen u us 0 n refl in
    let new : list_any (λ s. s == u) seen ≡ false = list_any_none (λ s. s == u) seen (λ k d lt. ne_eqb _ _ (λ same.
    differ k n 0 lt (omega (arith, length-append seen (u ∷ us))) (get_or_append_left seen (u ∷ us) 0 k lt ∙ other_default seen k 0 d lt ∙ same ∙ sym at))) in
    rw new (first_none (seen ++ u ∷ []) us (subst (λ (xs : List ℕ). AllPairs (λ a b. a ≢ b) xs) (sym (append_assoc seen (u ∷ []) us)) differ))

no_repeats : (n f : ℕ) (faces : List (List ℕ)) → All (IsFace n) faces → repeat_from f faces ≡ None
unfolding repeat_from
no_repeats n f [] good = refl
no_repeats n f (face ∷ faces) good =
    let here : first_repeat [] face ≡ None = first_none [] face (All-head (IsFace n) face faces good).distinct in
    ap (λ (o : Option ℕ). repeat_or f o (repeat_from (f + 1) faces)) here ∙ no_repeats n (f + 1) faces (All-tail (IsFace n) face faces good)

few_faces : (n : ℕ) (faces : List (List ℕ)) → All (IsFace n) faces → length faces ≤ sum_by length faces
few_faces n [] good = omega arith
few_faces n (face ∷ faces) good =
    let later = few_faces n faces (All-tail (IsFace n) face faces good) in
    let here = (All-head (IsFace n) face faces good).large in
    omega (arith, later, here, sum_by-cons length face faces)

module _ (parts : OffParts) (mesh : Mesh) (origins : List ℕ) (faces : List (List ℕ)) (cut : WasCut parts mesh origins faces) where
  pub cut_have : HaveCopies origins mesh.vertices
  cut_have v lt = let c = cut.opening.every_vertex v lt in list_any_at (λ o. o == v) origins c.0 v c.1 (eq-eqb _ _ c.2)

  -- Each copy is a corner, so its origin is a vertex.
  cut_inside : All (λ v. v < mesh.vertices) origins
  cut_inside c d lt =
      let corner = cut.opening.is_disc.no_isolated c lt in
      let f = corner.0 in
      let face = get_or faces f [] in
      let k = corner.1.1.0 in
      let within : k < length face = corner.1.1.1 in
      let few : f < length mesh.faces = omega (arith, cut.opening.same_faces, corner.1.0) in
      let whole : map (slice_index origins) face ≡ get_or mesh.faces f [] = cut.opening.same_corners f few in
      let there : k < length (get_or mesh.faces f []) = omega (arith, ap length whole, length-map face (slice_index origins)) in
      let small : get_or (get_or mesh.faces f []) k 0 < mesh.vertices = (cut.is_mesh f [] few).inside k 0 there in
      let is : get_or (get_or mesh.faces f []) k 0 ≡ get_or origins c 0 = ap (λ (us : List ℕ). get_or us k 0) (sym whole) ∙ get_or-map (slice_index origins) face k c 0 within ∙ ap (slice_index origins) corner.1.1.2 in
      omega (arith, small, is, other_default origins c d 0 lt)

  cut_faces : sewn_faces origins faces ≡ mesh.faces
  cut_faces = ext_get_or [] (sewn_faces origins faces) mesh.faces (length-map faces (sewn_face origins) ∙ cut.opening.same_faces) (λ i lt.
      let few : i < length faces = omega (arith, length-map faces (sewn_face origins)) in
      get_or-map (sewn_face origins) faces i [] [] few ∙ cut.opening.same_corners i (omega (arith, cut.opening.same_faces)))

  cut_vertices : mesh.vertices ≡ different origins
  cut_vertices = no_more origins mesh.vertices cut_have cut_inside

  line_of : (c : ℕ) → c < length origins → get_or (lines_at parts.vertex_lines origins) c [] ≡ get_or parts.vertex_lines (get_or origins c 0) []
  line_of c lt = get_or-map (λ v. get_or parts.vertex_lines v []) origins c 0 [] lt

  no_line_differs : line_fault (lines_at parts.vertex_lines origins) origins ≡ None
  no_line_differs = no_line (lines_at parts.vertex_lines origins) origins (length origins) (λ c lt.
      let few = like_few origins c lt in
      let same : get_or (lines_at parts.vertex_lines origins) c [] ≡ get_or (lines_at parts.vertex_lines origins) (first_like origins c) [] = line_of c lt ∙ ap (λ (v : ℕ). get_or parts.vertex_lines v []) (sym (copy_origin origins (get_or origins c 0) few)) ∙ sym (line_of (first_like origins c) few) in
      not_from_true _ ((bytes_eq-Decides _ _).1 same)) (omega arith)

  pub cut_sewn : sewn_of (lines_at parts.vertex_lines origins) (opened origins faces) origins ≡ Ok mesh
  cut_sewn =
      let none : repeat_from 0 (sewn_faces origins faces) ≡ None = ap (repeat_from 0) cut_faces ∙ no_repeats mesh.vertices 0 mesh.faces cut.is_mesh in
      let made = Ok (sewn_mesh origins faces) in
      let later = unless (line_fault (lines_at parts.vertex_lines origins) origins) (unless (repeat_from 0 (sewn_faces origins faces)) made) in
      ap (λ (o : Option SewFault). unless o later) (no_gap origins mesh.vertices cut_have cut_vertices)
      ∙ ap (λ (o : Option SewFault). unless o (unless (repeat_from 0 (sewn_faces origins faces)) made)) no_line_differs
      ∙ ap (λ (o : Option SewFault). unless o made) none
      ∙ ap (λ (m : Mesh). Ok m) (mesh_is mesh (different origins) (sewn_faces origins faces) cut_vertices (sym cut_faces))

  pub cut_lines : sewn_lines (lines_at parts.vertex_lines origins) origins mesh.vertices ≡ parts.vertex_lines
  cut_lines =
      let lines = lines_at parts.vertex_lines origins in
      let firsts = first_copies origins 0 mesh.vertices in
      ext_get_or [] (sewn_lines lines origins mesh.vertices) parts.vertex_lines (lines_count lines origins mesh.vertices ∙ sym cut.lines) (λ v lt.
      let few : v < mesh.vertices = omega (arith, lines_count lines origins mesh.vertices) in
      let copy = among_copy origins v (cut_have v few) in
      get_or-map (λ c. get_or lines c []) firsts v 0 [] (omega (arith, length-map-range_with_len (first_copy origins) 0 mesh.vertices))
      ∙ ap (λ (c : ℕ). get_or lines c []) (get_or-map-range_with_len (first_copy origins) 0 mesh.vertices v v 0 few (omega arith))
      ∙ line_of (first_copy origins v) copy
      ∙ ap (λ (u : ℕ). get_or parts.vertex_lines u []) (copy_origin origins v copy))

  few_sides : side_count (opened origins faces) < 2 ^ 30
  few_sides = omega (arith, sewn_sides origins faces, ap (sum_by length) cut_faces, cut.few_sides)

  -- A disc has no more vertices than sides.
  few_copies : length origins < 2 ^ 31
  few_copies = omega (arith, cut.opening.is_disc.characteristic_one, edges_within (opened origins faces), few_sides)

  small_origin : (k : ℕ) → slice_index origins k < 2 ^ 32
  small_origin k = elim (cases_lt k (length origins)) [
    | inl lt ↦ let h : get_or origins k 0 < mesh.vertices = cut_inside k 0 lt in omega (arith, h, cut_vertices, different_few origins, few_copies)
    | inr le ↦ let none : get_or origins k 0 ≡ 0 = get_or_past origins k 0 le in omega (arith, none)
  ]

  good : All (IsFace (length origins)) faces
  good = cut.opening.is_disc.is_mesh

  few_faces_cut : length faces < 2 ^ 30
  few_faces_cut = omega (arith, few_faces (length origins) faces good, few_sides)

  within : All (λ v. v < length parts.vertex_lines) origins
  within = subst (λ (m : ℕ). All (λ v. v < m) origins) (sym cut.lines) cut_inside

  short : All (λ f. length f < 2 ^ 64) faces
  short = short_faces faces (2 ^ 64) (omega (arith, few_sides))

  same_colours : length faces ≡ length parts.colours
  same_colours = cut.opening.same_faces ∙ sym cut.colours

  few_vertices : mesh.vertices < 2 ^ 31
  few_vertices = omega (arith, cut_vertices, different_few origins, few_copies)

  few_edges : edge_count (opened origins faces) < 2 ^ 30
  few_edges = omega (arith, edges_within (opened origins faces), few_sides)

  pub cut_reread : off_without_limits (text_cut parts origins faces) ≡ Ok (opened_parts parts origins, opened origins faces)
  cut_reread =
      opened_again parts origins faces (edge_count (opened origins faces)) cut.clean within good short same_colours (omega (arith, few_copies)) (omega (arith, cut.lines, few_vertices)) (omega (arith, few_faces_cut)) (omega (arith, few_edges))

  pub cut_copies : copies_in (text_cut parts origins faces) (length origins) ≡ Ok origins
  cut_copies =
      let lines = lines_at parts.vertex_lines origins in
      let n = length origins in
      let count : length lines ≡ n = length-map origins _ in
      let all : AllFaces (length lines) faces parts.colours = subst (λ (v : ℕ). AllFaces v faces parts.colours) (sym count) (all_faces n faces parts.colours (omega (arith, few_copies)) good short cut.clean.colours same_colours) in
      let read = cut_again parts.header lines faces parts.colours (edge_count (opened origins faces)) origins (all_lines parts.vertex_lines origins cut.clean.vertex_lines within) all (omega (arith, count, few_copies)) (omega (arith, few_faces_cut)) (omega (arith, few_edges)) (omega (arith, few_copies)) small_origin in
      ap (λ r. r >>= counted n) read ∙ ap (λ (b : Bool). cond b (Ok origins) (Err (CopyCount n))) (eq-eqb n n refl)

  clean_copies : IsOffParts (opened_parts parts origins)
  clean_copies = record {
    vertex_lines = All-map IsVertexLine (λ v. get_or parts.vertex_lines v []) origins (λ k d lt. cut.clean.vertex_lines (get_or origins k d) [] (within k d lt));
    colours = cut.clean.colours;
  }

  pub cut_written : off_without_limits (sewn_text (opened_parts parts origins) origins mesh) ≡ Ok (parts, mesh)
  cut_written =
      let lines = lines_at parts.vertex_lines origins in
      let count : length origins ≡ length lines = sym (length-map origins _) in
      let sides = short_faces mesh.faces (2 ^ 64) (omega (arith, cut.few_sides)) in
      let some = few_faces mesh.vertices mesh.faces cut.is_mesh in
      sewn_again (opened_parts parts origins) origins mesh clean_copies count cut_have cut.is_mesh sides (sym cut.colours) (omega (arith, few_vertices)) (omega (arith, some, cut.few_sides)) (omega (arith, edges_within mesh, cut.few_sides))
      ∙ ap (λ (ls : List (List ℕ)). Ok (record { header = parts.header; vertex_lines = ls; colours = parts.colours }, mesh)) cut_lines

pub opened_are_reread : OpenedAreReread
opened_are_reread parts mesh origins faces cut = cut_reread parts mesh origins faces cut

pub sewn_are_reread : SewnAreReread
sewn_are_reread parts mesh origins faces cut = cut_written parts mesh origins faces cut

pub copies_are_reread : CopiesAreReread
copies_are_reread parts mesh origins faces cut = cut_copies parts mesh origins faces cut

pub opened_are_sewn : OpenedAreSewn
opened_are_sewn parts mesh origins faces cut = (cut_sewn parts mesh origins faces cut, cut_have parts mesh origins faces cut)

pub lines_are_sewn : LinesAreSewn
lines_are_sewn parts mesh origins faces cut =
    let same = cut_lines parts mesh origins faces cut in
    (same, ap (λ (ls : List (List ℕ)). mesh_text (record parts { vertex_lines = ls }) mesh.faces (edge_count mesh)) same)
