-- The distances of a search are those of the rule, and are the only ones.
use Rattle.surf_surfaces.proofs.Common.{◌≡◌, ◌≢◌, ℕ, zero, suc, ◌<◌, ◌≤◌, ◌+◌, true, List, refl, sym, ap, ◌∙◌, subst, arith, inl, inr, cases_eq, cases_lt, eq-eqb, ne_eqb, primal, cells_of, joins, joins_ends, joins_turned, joined_below, one_of, Mesh, edge_count, ends, IsSurface}
use Rattle.surf_surfaces.proofs.meshes.CellLaws.{surfaces_are_cells}
use Rattle.surf_surfaces.specs.Walk.{edge_length, ArePositive}
use Rattle.surf_base.specs.Tables.{at}
use Rattle.surf_sheetcheck.specs.Rule.{AreDistances}
use Rattle.surf_sheetcheck.specs.Searches.{far, AreSettled}
use Rattle.surf_sheetcheck.specs.Tables.{distance_in}

module _ (mesh : Mesh) (lengths part : List ℕ) (limit : ℕ) (dist order : List ℕ) (surface : IsSurface mesh)
    (settled : AreSettled (primal (cells_of mesh)) (edge_length lengths) part limit dist order) where
  told : (v : ℕ) → at dist v ≢ far → distance_in limit dist v ≡ at dist v
  told v ne = rw (ne_eqb (at dist v) far ne) refl

  untold : (v : ℕ) → at dist v ≡ far → distance_in limit dist v ≡ limit
  untold v e = rw (eq-eqb (at dist v) far e) refl

  up_to : (v : ℕ) → v < mesh.vertices → distance_in limit dist v ≤ limit
  up_to v l = elim (cases_eq (at dist v) far) [
    | inl none ↦ let a = untold v none in omega (arith, a)
    | inr ne ↦ let a = told v ne in let b = settled.below v l ne in omega (arith, a, b)
  ]

  -- no farther over an edge
  over : (u w e : ℕ) → u < mesh.vertices → w < mesh.vertices → e < edge_count mesh →
      joins (primal (cells_of mesh)) u w e ≡ true →
      distance_in limit dist w ≤ distance_in limit dist u + edge_length lengths e
  over u w e lu lw le join = elim (cases_eq (at dist u) far) [
    | inl none ↦ let a = untold u none in let b = up_to w lw in omega (arith, a, b)
    | inr ne ↦
        let a = told u ne in
        elim (cases_lt (at dist u + edge_length lengths e) limit) [
          | inl less ↦
              let near = settled.near u w e lu lw le join ne less in
              let b = told w near.0 in
              omega (arith, a, b, near.1)
          | inr more ↦ let b = up_to w lw in omega (arith, a, b, more)
        ]
  ]

  pub distances_are : AreDistances mesh lengths part limit (distance_in limit dist)
  distances_are = record {
    on_part = λ v on.
        let zero_there = settled.on_part v on in
        told v (λ e. absurd (omega (arith, zero_there, e))) ∙ zero_there;
    limited = up_to;
    slack = λ e l.
        let inside = (surfaces_are_cells mesh surface).complex.primal_ends e l in
        let there = joins_ends (primal (cells_of mesh)) e in (
          over (ends mesh e).1 (ends mesh e).0 e inside.1 inside.0 l (joins_turned (primal (cells_of mesh)) (ends mesh e).0 (ends mesh e).1 e there),
          over (ends mesh e).0 (ends mesh e).1 e inside.0 inside.1 l there,
        );
    reached = λ v l below.
        let some : at dist v ≢ far = λ none. let a = untold v none in omega (arith, a, below) in
        elim (settled.reached v l some) [
          | inl on ↦ inl on
          | inr r ↦ inr (
            r.before,
            r.edge,
            record {
              edge_in = r.edge_in;
              joined = r.joined;
              is = ap (λ d. d + edge_length lengths r.edge) (told r.before r.settled) ∙ sym r.is ∙ sym (told v some);
            },
          )
        ];
  }

-- ---- one distance

module _ (mesh : Mesh) (lengths part : List ℕ) (limit : ℕ) (surface : IsSurface mesh) (positive : ArePositive mesh lengths) where
  -- over a tight edge what is below stays below
  pub below : (d e : ℕ → ℕ) → AreDistances mesh lengths part limit d → AreDistances mesh lengths part limit e →
      (n v : ℕ) → v < mesh.vertices → e v < n → d v ≤ e v
  below d e are_d are_e zero v l less = absurd (omega (arith, less))
  below d e are_d are_e (suc n) v l less = elim (cases_lt (e v) limit) [
    | inr at_limit ↦ let a = are_d.limited v l in omega (arith, a, at_limit)
    | inl under ↦ elim (are_e.reached v l under) [
      | inl on ↦ let a = are_d.on_part v on in omega (arith, a)
      | inr (u, f, tight) ↦
          let long = positive f tight.edge_in in
          let inside = in_range u v f tight.edge_in tight.joined in
          let less_u : e u < n = let is = tight.is in omega (arith, is, long, less) in
          let before = below d e are_d are_e n u inside less_u in
          let slack = over_edge d are_d v u f tight.edge_in tight.joined in
          let is = tight.is in
          omega (arith, before, slack, is)
    ]
  ]
    where
      in_range : (u w f : ℕ) → f < edge_count mesh → joins (primal (cells_of mesh)) w u f ≡ true → u < mesh.vertices
      in_range u w f lf join = joined_below (primal (cells_of mesh)) (surfaces_are_cells mesh surface).complex.primal_ends u w
          (f, lf, joins_turned (primal (cells_of mesh)) w u f join)

      over_edge : (h : ℕ → ℕ) → AreDistances mesh lengths part limit h → (w u f : ℕ) → f < edge_count mesh →
          joins (primal (cells_of mesh)) w u f ≡ true → h w ≤ h u + edge_length lengths f
      over_edge h are w u f lf join = elim (one_of (primal (cells_of mesh)) w u f join) [
        | inl (is_w, is_u) ↦ let s = (are.slack f lf).0 in subst (λ x. h x ≤ h u + edge_length lengths f) is_w
            (subst (λ x. h (ends mesh f).0 ≤ h x + edge_length lengths f) is_u s)
        | inr (is_u, is_w) ↦ let s = (are.slack f lf).1 in subst (λ x. h x ≤ h u + edge_length lengths f) is_w
            (subst (λ x. h (ends mesh f).1 ≤ h x + edge_length lengths f) is_u s)
      ]

  pub one_distance : (d e : ℕ → ℕ) → AreDistances mesh lengths part limit d → AreDistances mesh lengths part limit e →
      (v : ℕ) → v < mesh.vertices → d v ≡ e v
  one_distance d e are_d are_e v l =
      let a = below d e are_d are_e (suc (e v)) v l (omega arith) in
      let b = below e d are_e are_d (suc (d v)) v l (omega arith) in
      omega (arith, a, b)
