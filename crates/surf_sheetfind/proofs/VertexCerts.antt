-- A certificate by elimination and single vertices has no fault.
use Rattle.surf_surfaces.proofs.Common.{◌≡◌, ◌≢◌, ℕ, zero, ◌-◌, ◌<◌, ◌≤◌, ◌^◌, true, false, List, [], length, get_or, bit_xor, xor_lt, refl, sym, ap, ◌∙◌, subst, arith, inl, inr, Contains, cases_lt, get_or_default, get_or-map, slice_index, nil_from_length, has, IsSplit, Split, cells_of, edge_signature, Mesh, pair_of, edges, steps, edge_count, face_count, ends, edge_number, IsSurface, IsClosed, ArePositive, Result, Ok, Err, IfErr, lt-ltb}
use Rattle.surf_surfaces.specs.Homology.{IsLeastBasis}
use Rattle.surf_surfaces.proofs.meshes.CellLaws.{ends_below, ends_in}
use Rattle.surf_treecheck.specs.First.{HoldsBelow}
use Rattle.surf_treecheck.specs.declared.fault.CertPart.{CertPart}
use Rattle.surf_treecheck.specs.declared.fault.CertPart.TheVariants.{Vertices, Faces, Loops, Base}
use Rattle.surf_certcheck.proofs.Placing.{has_none, has_above}
use Rattle.surf_records.specs.Fits.{IsNumber, IsPair, LeftFits}
use Rattle.surf_sheets.specs.Rows.{SheetRow, SheetCert}
use Rattle.surf_sheets.specs.Sheets.{IsCocycle, ArePaired, AreByLength}
use Rattle.surf_sheetcheck.specs.Cocycles.{cocycle, edge_set, walk_set, IsPairEdge}
use Rattle.surf_sheetcheck.specs.Parts.{no_row, sheet_at, size_at, part_of, HasRowForm, HasForm}
use Rattle.surf_sheetcheck.specs.Valid.{IsEvenFace, IsPaired, IsLongAt, Holds, IsEdgeServed}
use Rattle.surf_sheetcheck.specs.Rule.{FollowsRule}
use Rattle.surf_sheetcheck.specs.Faults.{IsSheetShapeFault, IsSheetFault, AreWalksRight, AreRowsRight, IsShortFirst}
use Rattle.surf_sheetcheck.specs.Fits.{NumbersFit, SheetFits, SheetCertFits}
use Rattle.surf_sheetcheck.specs.declared.fault.SheetFault.{SheetFault}
use Rattle.surf_sheetcheck.specs.declared.fault.SheetFault.TheVariants.{Shape, NotClosed, Falling, Pair, Cocycle}
use Rattle.surf_sheetcheck.specs.declared.fault.SheetFault.TheVariants.{Unpaired, Form, Short, Unserved, Memory}
use Rattle.surf_sheetcheck.proofs.SetLaws.{has_sum}
use Rattle.surf_surfaces.proofs.Common.{sides, face_at}
use Rattle.surf_paired.specs.Paired.{image}
use Rattle.surf_paired.proofs.Rows.{image_small}
use Rattle.surf_sheetfind.specs.Pairs.{class_by, classes_of}
use Rattle.surf_sheetfind.specs.Listed.{edge_image, vertex_row, IsVertexCert}
use Rattle.surf_finder.specs.Signing.{AreSigned, signs_of}
use Rattle.surf_cotree.specs.Tables.{CotreeTables}
use Rattle.surf_sheetfind.proofs.ClassLaws.{signed_at}
use Rattle.surf_sheetfind.proofs.Numbers.{numbers_fit}
use Rattle.surf_sheetfind.proofs.EdgeRows.{edge_set_is, walk_set_is, face_even}
use Rattle.surf_sheetfind.proofs.Rules.{vertex_long}

-- what a certificate is made for
pub record IsMadeFor (mesh : Mesh) (lengths signatures : List ℕ) (d : Split) (cert : SheetCert) : Type 0 where
  pub surface : IsSurface mesh
  pub positive : ArePositive mesh lengths
  pub vertices_few : IsNumber mesh.vertices
  pub faces_few : IsNumber (face_count mesh)
  pub edges_few : edge_count mesh < 2 ^ 30
  pub loops_few : IsNumber (length cert.cycles)
  pub least : IsLeastBasis mesh lengths cert.cycles
  pub by_length : AreByLength mesh lengths cert.cycles
  pub split : IsSplit (cells_of mesh) d
  pub signed : (e : ℕ) → e < edge_count mesh → slice_index signatures e ≡ edge_signature mesh d e

pub made_for : (mesh : Mesh) (lengths : List ℕ) (t : CotreeTables) (cert : SheetCert) → IsSurface mesh →
    ArePositive mesh lengths → mesh.vertices < 2 ^ 32 → face_count mesh < 2 ^ 30 → edge_count mesh < 2 ^ 30 →
    IsLeastBasis mesh lengths cert.cycles → AreByLength mesh lengths cert.cycles →
    (s : AreSigned mesh (signs_of t) (length cert.cycles)) → IsMadeFor mesh lengths t.signatures s.split cert
made_for mesh lengths t cert surface positive vertices faces edges_few least by_length s =
    let full = least.is_basis.count in
    record {
      surface = surface;
      positive = positive;
      vertices_few = omega (arith, vertices);
      faces_few = omega (arith, faces);
      edges_few = edges_few;
      loops_few = omega (arith, full, edges_few);
      least = least;
      by_length = by_length;
      split = s.is_split;
      signed = signed_at mesh t (length cert.cycles) s;
    }

module _ (mesh : Mesh) (lengths signatures : List ℕ) (d : Split) (cert : SheetCert)
    (given : IsMadeFor mesh lengths signatures d cert) (made : IsVertexCert mesh signatures cert) where
  abbrev k : ℕ
  k = length cert.cycles

  -- ---- the lists fit

  ends_fit : (e : ℕ) → e < edge_count mesh → IsPair (ends mesh e)
  ends_fit e l =
      let below = ends_below mesh given.surface.is_mesh e l in
      let most = given.vertices_few in
      record { ordered = below.0; number = omega (arith, below.1, most) }

  left_fits : LeftFits (length cert.edges) cert.edges
  left_fits = record {
    count = refl;
    pairs = λ j d' l.
        let r = made.edges.each j l in
        subst IsPair (sym r.its_ends ∙ get_or_default cert.edges j (0, 0) d' l) (ends_fit r.edge r.below);
    rises = made.edges.rises;
  }

  abbrev sets : ℕ → ℕ
  sets = edge_image mesh made.rows signatures made.labels

  sets_small : (e : ℕ) → e < edge_count mesh → edge_image mesh made.rows signatures made.labels e < 2 ^ k
  sets_small e l =
      let m = length made.rows in
      let inside = ends_in mesh given.surface e l in
      subst (λ n. edge_image mesh made.rows signatures made.labels e < 2 ^ n) made.as_many
      (xor_lt m (image made.rows (slice_index signatures e))
      (bit_xor (slice_index made.labels (ends mesh e).0) (slice_index made.labels (ends mesh e).1))
      (image_small made.rows (slice_index signatures e) m made.paired.small)
      (xor_lt m (slice_index made.labels (ends mesh e).0) (slice_index made.labels (ends mesh e).1)
      (made.labels_small (ends mesh e).0 inside.0) (made.labels_small (ends mesh e).1 inside.1)))

  set_is : (e : ℕ) → e < edge_count mesh → edge_set mesh cert e ≡ edge_image mesh made.rows signatures made.labels e
  set_is e l =
      edge_set_is mesh cert (edge_image mesh made.rows signatures made.labels) k given.edges_few left_fits made.edges sets_small
      e l

  rows_fit : (j : ℕ) → j < length cert.edges → NumbersFit k (get_or cert.numbers j [])
  rows_fit j l =
      let r = made.edges.each j l in
      subst (NumbersFit k) (sym r.row_is) (numbers_fit (sets r.edge) k (sets_small r.edge r.below) r.some)

  first_in : (j : ℕ) → j < length cert.edges → (get_or cert.edges j (0, 0)).0 < mesh.vertices
  first_in j l =
      let r = made.edges.each j l in
      let below = ends_below mesh given.surface.is_mesh r.edge r.below in
      subst (λ (q : ℕ × ℕ). q.0 < mesh.vertices) (sym r.its_ends) (omega (arith, below.0, below.1))

  -- a sheet is that over a vertex
  row_at_vertex : (s : ℕ) → s < length cert.sheets →
      (x : ℕ) × (x < mesh.vertices) × (sheet_at cert s ≡ vertex_row k x)
  row_at_vertex s l =
      let (j, below, is) = made.sheets.each s l in ((get_or cert.edges j (0, 0)).0, first_in j below, is)

  sheet_fits : (x : ℕ) → x < mesh.vertices → SheetFits (vertex_row k x)
  sheet_fits x l =
      let most = given.vertices_few in
      let few = given.loops_few in
      record {
        from = omega arith;
        to = few;
        walk = omega arith;
        first = omega (arith, l, most);
        last = omega (arith, l, most);
        margin = omega arith;
      }

  no_edges : cert.cycles ≡ [] → (j : ℕ) → j < length cert.edges → ⊥
  no_edges none j l =
      let fit = rows_fit j l in
      let empty : k ≡ 0 = ap length none in
      let some = fit.some in
      let one = fit.each zero 0 (omega (arith, some)) in
      omega (arith, one.0, one.1, empty)

  pub cert_fits : SheetCertFits cert
  cert_fits =
      let as_many = made.edges.as_many in
      let few = made.edges.few in
      let edges_few = given.edges_few in
      let sheets_few = made.sheets.few in
      record {
        vertices = subst IsNumber (sym made.vertices) given.vertices_few;
        faces = subst IsNumber (sym made.faces) given.faces_few;
        count = given.loops_few;
        cycles = λ i w l.
            let closed = given.least.is_basis.closed i w l in
            record {
              some = closed.is_walk.begins;
              numbers = λ n d' m.
                  let inside = closed.is_walk.vertices n d' m in
                  let most = given.vertices_few in
                  omega (arith, inside, most);
            };
        edge_count = omega (arith, few, edges_few);
        edges = left_fits;
        as_many = as_many;
        numbers = λ j row l.
            subst (NumbersFit k) (get_or_default cert.numbers j [] row l) (rows_fit j (omega (arith, l, as_many)));
        sheet_count = omega (arith, sheets_few, few, edges_few);
        sheets = λ s row l.
            let (x, x_in, is) = row_at_vertex s l in
            subst SheetFits (sym is ∙ get_or_default cert.sheets s no_row row l) (sheet_fits x x_in);
        none = λ none. (
          nil_from_length cert.edges (elim (cases_lt 0 (length cert.edges)) [
            | inl some ↦ absurd (no_edges none 0 some)
            | inr gone ↦ omega (arith, gone)
          ]),
          nil_from_length cert.sheets (elim (cases_lt 0 (length cert.edges)) [
            | inl some ↦ absurd (no_edges none 0 some)
            | inr gone ↦ omega (arith, gone, sheets_few)
          ]),
        );
      }

  -- ---- the walks

  closed_at : (i : ℕ) → i < k → IsClosed mesh (get_or cert.cycles i [])
  closed_at i l = given.least.is_basis.closed i [] l

  walks_right : AreWalksRight mesh lengths cert
  walks_right = record {
    shape = record { vertices = made.vertices; faces = made.faces; loops = given.least.is_basis.count };
    closed = λ i l.
        let is = closed_at i l in
        record { begins = is.is_walk.begins; along_edges = is.is_walk.along_edges; returns = is.returns };
    by_length = λ i l. elim (cases_lt 0 i) [
      | inl some ↦ given.by_length (i - 1) i (omega (arith, some)) l
      | inr first ↦
          let same : i - 1 ≡ i = omega (arith, first) in
          subst (λ j. size_at mesh lengths cert j ≤ size_at mesh lengths cert i) (sym same) (omega arith)
    ];
  }

  -- ---- the cocycles

  pairs_right : HoldsBelow (length cert.edges) (IsPairEdge mesh cert)
  pairs_right j l =
      let r = made.edges.each j l in
      let below = ends_below mesh given.surface.is_mesh r.edge r.below in
      subst (λ p. Contains (edges mesh) (pair_of p)) (sym r.its_ends)
      (subst (Contains (edges mesh)) (ordered (ends mesh r.edge) below.0)
      (r.edge, r.below, get_or_default (edges mesh) r.edge (ends mesh r.edge) (0, 0) r.below))
    where
      ordered : (p : ℕ × ℕ) → p.0 < p.1 → p ≡ pair_of p
      ordered p less = rw (lt-ltb p.0 p.1 less) refl

  faces_right : HoldsBelow (face_count mesh) (IsEvenFace mesh cert)
  faces_right f l =
      face_even mesh cert made.rows signatures made.labels set_is d given.surface given.split given.signed f l

  own_image : (i : ℕ) → i < k →
      walk_set mesh cert (get_or cert.cycles i []) ≡ image made.rows (slice_index (classes_of mesh signatures cert.cycles) i)
  own_image i l =
      walk_set_is mesh cert made.rows signatures made.labels set_is (get_or cert.cycles i []) (closed_at i l)
      ∙ ap (image made.rows) (sym (get_or-map (class_by mesh signatures) cert.cycles i [] 0 l))

  paired_right : HoldsBelow k (IsPaired mesh cert)
  paired_right i l = record {
    own = ap (λ x. has x i) (own_image i l) ∙ made.paired.own i l;
    later = λ j less j_in. ap (λ x. has x j) (own_image i l) ∙ made.paired.later i j l less;
  }

  forms_right : HoldsBelow (length cert.sheets) (HasForm mesh cert)
  forms_right s l =
      let (x, x_in, is) = row_at_vertex s l in
      let sheets_few = made.sheets.few in
      let some : 0 < k = elim (cases_lt 0 k) [
        | inl some ↦ some
        | inr none ↦
            absurd (no_edges (nil_from_length cert.cycles (omega (arith, none))) 0 (omega (arith, l, sheets_few)))
      ] in
      subst (HasRowForm mesh cert) (sym is) (record {
        some = some;
        numbered = omega arith;
        part = record { twice = refl; inside = x_in };
      })

  rows_right : AreRowsRight mesh lengths cert
  rows_right = record {
    walks = walks_right;
    pairs = pairs_right;
    cocycles = faces_right;
    paired = paired_right;
    forms = forms_right;
  }

  -- ---- the sheets

  cocycles_are : (i : ℕ) → i < k → IsCocycle mesh (cocycle mesh cert i)
  cocycles_are i l f lf =
      sym (has_sum (λ s. edge_set mesh cert (edge_number mesh s)) (sides (face_at mesh f)) i)
      ∙ ap (λ x. has x i) (faces_right f lf) ∙ has_none i

  are_paired : ArePaired mesh cert.cycles (cocycle mesh cert)
  are_paired = record {
    own = λ i l. sym (has_sum (λ s. edge_set mesh cert (edge_number mesh s)) (steps (get_or cert.cycles i [])) i)
        ∙ (paired_right i l).own;
    later = λ i j less l. sym (has_sum (λ s. edge_set mesh cert (edge_number mesh s)) (steps (get_or cert.cycles i [])) j)
        ∙ (paired_right i (omega (arith, less, l))).later j less l;
  }

  none_short : (s : ℕ) (p : ℕ × ℕ) → IsShortFirst mesh lengths cert s p → ⊥
  none_short s p short =
      let (x, x_in, is) = row_at_vertex s short.below in
      let rule = subst (λ row. FollowsRule mesh lengths cert row short.distance short.label) is
      short.short.rule in
      let long = vertex_long mesh lengths cert x short.distance short.label given.surface given.positive given.by_length rule given.least
      cocycles_are are_paired x_in short.edge short.short.edge.below in
      short.short.edge.fails
      (subst (λ row. IsLongAt mesh lengths cert row short.distance short.label short.edge)
      (sym is) long)

  all_served : HoldsBelow (length cert.sheets) (Holds mesh lengths cert) → (e : ℕ) → e < edge_count mesh →
      IsEdgeServed mesh lengths cert e
  all_served holds e e_in i on =
      let on_image : has (edge_image mesh made.rows signatures made.labels e) i ≡ true =
      ap (λ x. has x i) (sym (set_is e e_in)) ∙ on in
      let some : edge_image mesh made.rows signatures made.labels e ≢ 0 =
      λ none. no (sym (ap (λ x. has x i) none ∙ has_none i) ∙ on_image) in
      let (j, j_in, pair_is) = made.edges.there e e_in some in
      let (s, s_in, is) = made.sheets.there j j_in in
      let i_in : i < k = elim (cases_lt i k) [
        | inl less ↦ less
        | inr past ↦
            absurd (no (sym (has_above k (edge_image mesh made.rows signatures made.labels e) i (sets_small e e_in) past)
            ∙ on_image))
      ] in
      let (dist, label, with) = holds s s_in in
      let x = (get_or cert.edges j (0, 0)).0 in
      let same : x ≡ (ends mesh e).0 = ap (λ (p : ℕ × ℕ). p.0) pair_is in
      let near : dist (ends mesh e).0 ≡ 0 =
      ap dist (sym same) ∙ with.rule.distances.on_part x (subst (λ row. Contains (part_of cert row) x) (sym is) (zero, omega arith, refl)) in (
        s,
        s_in,
        record {
          from = subst (λ (row : SheetRow). row.from ≤ i) (sym is) (omega arith);
          to = subst (λ (row : SheetRow). i < row.to) (sym is) i_in;
          near = inl (dist, with.rule.distances, omega (arith, near));
        },
      )
    where
      no : false ≡ true → ⊥
      no e = cc

  -- ---- no fault

  no_shape_fault : (part : CertPart) → IsSheetShapeFault mesh cert part → ⊥
  no_shape_fault Vertices is = is made.vertices
  no_shape_fault Faces is = is.1 made.faces
  no_shape_fault Loops is = is.2 given.least.is_basis.count
  no_shape_fault Base is = is

  only_memory : (fault : SheetFault) → IsSheetFault mesh lengths cert fault → fault ≡ Memory
  only_memory (Shape part) is = absurd (no_shape_fault part is)
  only_memory (NotClosed i) is = absurd (is.1.fails (walks_right.closed i is.1.below))
  only_memory (Falling i) is = absurd (is.2.fails (walks_right.by_length i is.2.below))
  only_memory (Pair u v) is = let (j, same, first) = is.1 in absurd (first.fails (pairs_right j first.below))
  only_memory (Cocycle f) is = absurd (is.2.fails (faces_right f is.2.below))
  only_memory (Unpaired i) is = absurd (is.3.fails (paired_right i is.3.below))
  only_memory (Form s) is = absurd (is.4.fails (forms_right s is.4.below))
  only_memory (Short s u v) is = absurd (none_short s (u, v) is.1)
  only_memory (Unserved u v) is =
      let (e, same, first) = is.2 in absurd (first.fails (all_served is.1 e first.below))
  only_memory Memory is = refl

  pub memory_where_err : (r : Result ℕ SheetFault) → IfErr r (IsSheetFault mesh lengths cert) →
      IfErr r (λ e. e ≡ Memory)
  memory_where_err (Ok t) is = tt
  memory_where_err (Err e) is = only_memory e is
