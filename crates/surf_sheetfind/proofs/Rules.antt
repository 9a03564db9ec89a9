-- A sheet over a single vertex holds, by any distances and labels that follow the rule.
use Rattle.surf_surfaces.proofs.Common.{◌≡◌, ℕ, zero, suc, ◌+◌, ◌-◌, ◌*◌, ◌<◌, ◌≤◌, ◌⊎◌, false, eqb, List, [], ◌∷◌, length, take, bit_xor, refl, sym, ap, ◌∙◌, subst, arith, inl, inr, Contains, cases_eq, cases_lt, xor, odd_below-none, has, has-xor, IsJoined, edge_between, edge_between_is, walk_chain, graph_walk_length, joins_turned, joined_in, primal, cells_of, Mesh, edge_count, edge_length, IsSurface, ArePositive}
use Rattle.surf_surfaces.proofs.meshes.CellLaws.{surfaces_are_cells}
use Rattle.surf_surfaces.specs.Homology.{IsLeastBasis}
use Rattle.surf_z2.proofs.ParityLaws.{odd_below-xor-and, odd_below-at}
use Rattle.surf_certcheck.proofs.Placing.{has_none}
use Rattle.surf_sheets.specs.Rows.{SheetCert}
use Rattle.surf_sheets.specs.Sheets.{IsCocycle, ArePaired, AreByLength, Sheet}
use Rattle.surf_sheets.proofs.Oddness.{odd_in, odd_same}
use Rattle.surf_sheetcheck.specs.Cocycles.{cocycle, edge_set, walk_set}
use Rattle.surf_sheetcheck.specs.Parts.{size_at, limit_of}
use Rattle.surf_sheetcheck.specs.Rule.{FollowsRule}
use Rattle.surf_sheetcheck.specs.Valid.{IsLongAt}
use Rattle.surf_sheetcheck.proofs.ValidLaws.{sheet_with}
use Rattle.surf_paired.specs.Paired.{HasWayTo, IsFarOff}
use Rattle.surf_paired.proofs.VertexSheets.{Way, step, after, vertices_are_sheets}
use Rattle.surf_sheetfind.specs.Listed.{vertex_row}

-- the walk of a part that is one vertex has no step
one_none : (mesh : Mesh) (cert : SheetCert) (x m : ℕ) → walk_set mesh cert (take m (x ∷ [])) ≡ 0
one_none mesh cert x zero = refl
one_none mesh cert x (suc zero) = refl
one_none mesh cert x (suc (suc m)) = refl

module _ (mesh : Mesh) (lengths : List ℕ) (cert : SheetCert) (x : ℕ) (d p : ℕ → ℕ) (surface : IsSurface mesh)
    (positive : ArePositive mesh lengths) (by_length : AreByLength mesh lengths cert.cycles)
    (rule : FollowsRule mesh lengths cert (vertex_row (length cert.cycles) x) d p) where
  abbrev k : ℕ
  k = length cert.cycles

  abbrev sheet : Sheet
  sheet = sheet_with (vertex_row (length cert.cycles) x) d p

  abbrev limit : ℕ
  limit = limit_of mesh lengths cert (vertex_row (length cert.cycles) x)

  abbrev Reached : ℕ → Type 0
  Reached v = HasWayTo mesh lengths (cocycle mesh cert) sheet x v ⊎ IsFarOff mesh lengths cert.cycles sheet v

  -- no walk is longer than the last one
  last_longest : (i : ℕ) → i < k → size_at mesh lengths cert i ≤ size_at mesh lengths cert (k - 1)
  last_longest i l = elim (cases_lt i (k - 1)) [
    | inl before ↦ by_length i (k - 1) before (omega (arith, l))
    | inr past ↦
        let same : i ≡ k - 1 = omega (arith, l, past) in
        subst (λ j. size_at mesh lengths cert i ≤ size_at mesh lengths cert j) same (omega arith)
  ]

  far_off : (v : ℕ) → limit ≤ d v → IsFarOff mesh lengths cert.cycles sheet v
  far_off v far i in_range i_in =
      let longest = last_longest i i_in in
      let half : size_at mesh lengths cert (k - 1) ≤ 2 * limit = omega arith in
      omega (arith, longest, half, far)

  at_vertex : (v : ℕ) → v < mesh.vertices → d v < limit → v ≡ x → HasWayTo mesh lengths (cocycle mesh cert) sheet x v
  at_vertex v v_in near same =
      let there : Contains (x ∷ []) v = (zero, omega arith, sym same) in
      let none : d v ≡ 0 = rule.distances.on_part v there in
      let empty : p v ≡ 0 = rule.labels.on_part v v_in near there ∙ one_none mesh cert x _ in
      record {
        over = [];
        runs = sym same;
        size = sym none;
        odd = λ i in_range.
            odd_below-none (edge_count mesh) (λ e. false) (λ e l. refl) ∙ sym (has_none i)
            ∙ ap (λ set. has set i) (sym empty);
      }

  -- over an edge to the next vertex
  next_way : (v u e : ℕ) → e < edge_count mesh → IsJoined (primal (cells_of mesh)) u v →
      edge_between (primal (cells_of mesh)) u v ≡ e → d u + edge_length lengths e ≡ d v →
      p v ≡ bit_xor (p u) (edge_set mesh cert e) → HasWayTo mesh lengths (cocycle mesh cert) sheet x u →
      HasWayTo mesh lengths (cocycle mesh cert) sheet x v
  next_way v u e e_in j same adds label w =
      let g = primal (cells_of mesh) in
      let len = edge_length lengths in
      let E = edge_count mesh in
      let m = edge_between g u v in
      let simple = (surfaces_are_cells mesh surface).one_edge in
      let before : Way g len x u (walk_chain g x w.over) (graph_walk_length g len x w.over) =
      record { over = w.over; runs = w.runs; chain_is = λ f. refl; size_is = refl } in
      let whole = after g len simple x u v (walk_chain g x w.over) (eqb m) (graph_walk_length g len x w.over) (len m)
      before (step g len simple u v j) in
      let size : graph_walk_length g len x whole.over ≡ graph_walk_length g len x w.over + len m = whole.size_is in
      let first : graph_walk_length g len x w.over ≡ d u = w.size in
      let long : len m ≡ len e = ap len same in
      record {
        over = whole.over;
        runs = whole.runs;
        size = omega (arith, size, first, long, adds);
        odd = λ i in_range.
            let set = cocycle mesh cert i in
            odd_same E set (walk_chain g x whole.over) (λ f. xor (walk_chain g x w.over f) (eqb m f))
            (λ f l. whole.chain_is f)
            ∙ odd_below-xor-and E (walk_chain g x w.over) (λ f. eqb m f) set
            ∙ ap (λ t. xor t (odd_in E set (λ f. eqb m f))) (w.odd i in_range)
            ∙ ap (xor (has (p u) i)) (odd_below-at E m set (subst (λ f. f < E) (sym same) e_in) ∙ ap set same)
            ∙ sym (has-xor (p u) (edge_set mesh cert e) i) ∙ ap (λ y. has y i) (sym label);
      }

  step_way : (v : ℕ) → v < mesh.vertices → ((u : ℕ) → u < mesh.vertices → d u < d v → Reached u) → Reached v
  step_way v v_in before = elim (cases_lt (d v) limit) [
    | inr far ↦ inr (far_off v far)
    | inl near ↦ elim (cases_eq v x) [
      | inl same ↦ inl (at_vertex v v_in near same)
      | inr ne ↦
          let g = primal (cells_of mesh) in
          let (u, e, parent, label) = rule.labels.others v v_in near (λ has_it. ne (only has_it)) in
          let tight = parent.tight in
          let adds : d u + edge_length lengths e ≡ d v = tight.is in
          let long = positive e tight.edge_in in
          let less : d u < d v = omega (arith, adds, long) in
          let turned = joins_turned g v u e tight.joined in
          let j : IsJoined g u v = (e, tight.edge_in, turned) in
          let u_in : u < mesh.vertices =
          joined_in g (surfaces_are_cells mesh surface).complex.primal_ends v u (e, tight.edge_in, tight.joined) in
          let is = edge_between_is g u v j in
          let same : edge_between g u v ≡ e =
          (surfaces_are_cells mesh surface).one_edge u v (edge_between g u v) e is.0 tight.edge_in is.1 turned in
          elim (before u u_in less) [
            | inl way ↦ inl (next_way v u e tight.edge_in j same adds label way)
            | inr far ↦ inr (λ i in_range i_in.
                let bound = far i in_range i_in in omega (arith, bound, less))
          ]
    ]
  ]
    where
      only : {w : ℕ} → Contains (x ∷ []) w → w ≡ x
      only (zero, l, is) = sym is
      only (suc m, l, is) = absurd (omega (arith, l))

  ways : (fuel v : ℕ) → v < mesh.vertices → d v ≤ fuel → Reached v
  ways zero v v_in le = step_way v v_in (λ u u_in less. absurd (omega (arith, less, le)))
  ways (suc fuel) v v_in le = step_way v v_in (λ u u_in less. ways fuel u u_in (omega (arith, less, le)))

  pub vertex_long : IsLeastBasis mesh lengths cert.cycles →
      ((i : ℕ) → i < length cert.cycles → IsCocycle mesh (cocycle mesh cert i)) →
      ArePaired mesh cert.cycles (cocycle mesh cert) → x < mesh.vertices → (e : ℕ) → e < edge_count mesh →
      IsLongAt mesh lengths cert (vertex_row (length cert.cycles) x) d p e
  vertex_long least are_cocycles paired x_in e e_in i from to crossed =
      (vertices_are_sheets mesh lengths cert.cycles (cocycle mesh cert) sheet x surface positive least by_length are_cocycles
      paired x_in refl rule.distances.slack (λ v v_in. ways (d v) v v_in (omega arith))).long i e (from, to) to e_in crossed
