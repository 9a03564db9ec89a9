-- The part and the limit of a sheet that has its form.
use Rattle.surf_surfaces.proofs.Common.{ℕ, zero, suc, ◌<◌, ◌≤◌, ◌+◌, ◌-◌, ◌*◌, ◌/◌, List, [], ◌∷◌, length, get_or, take, drop, sym, ◌∙◌, subst, arith, inl, inr, All, Contains, MatchBool, cases_eq, eq-eqb, ne_eqb, get_or_default, Mesh, pair_of, edges, steps, IsSurface, ArePositive}
use Rattle.surf_treecheck.specs.First.{HoldsBelow}
use Rattle.surf_sheets.specs.Rows.{SheetRow, SheetCert}
use Rattle.surf_sheetcheck.specs.Parts.{cycle_at, size_at, IsVertexPart, IsWalkPart, HasRowForm, part_of, limit_of}
use Rattle.surf_sheetcheck.specs.Valid.{IsCycleClosed, IsPaired}
use Rattle.surf_sheetcheck.proofs.Steps.{some_step, some_length, walk_inside, between_length, between_at, between_along}

-- a list of vertices along edges, not empty
pub record IsPart (mesh : Mesh) (part : List ℕ) : Type 0 where
  pub begins : 0 < length part
  pub inside : All (λ v. v < mesh.vertices) part
  pub along : All (λ s. Contains (edges mesh) (pair_of s)) (steps part)

one_vertex : (mesh : Mesh) (v : ℕ) → v < mesh.vertices → IsPart mesh (v ∷ [])
one_vertex mesh v l = record {
  begins = omega arith;
  inside = one;
  along = λ k d m. absurd (omega (arith, m));
}
  where
    one : (k d : ℕ) → k < 1 → get_or (v ∷ []) k d < mesh.vertices
    one zero d m = l
    one (suc k) d m = absurd (omega (arith, m))

module _ (mesh : Mesh) (lengths : List ℕ) (cert : SheetCert) (surface : IsSurface mesh)
    (closed : HoldsBelow (length cert.cycles) (IsCycleClosed mesh cert))
    (paired : HoldsBelow (length cert.cycles) (IsPaired mesh cert)) where
  stretch : (k a n : ℕ) → k < length cert.cycles → a + n ≤ length (cycle_at cert k) → 0 < n →
      IsPart mesh (take n (drop a (cycle_at cert k)))
  stretch k a n l room some =
      let walk = cycle_at cert k in
      let two = some_step mesh cert walk k (paired k l).own in
      let size = between_length walk a n room in
      record {
        begins = omega (arith, size, some);
        inside = λ j d m.
            let here : j < n = omega (arith, m, size) in
            subst (λ v. v < mesh.vertices) (sym (between_at walk a n room j here) ∙ get_or_default (take n (drop a walk)) j 0 d m)
            (walk_inside mesh walk surface (closed k l).along_edges two (a + j) (omega (arith, here, room)));
        along = between_along walk a n room mesh (closed k l).along_edges some;
      }

  pub part_is : (row : SheetRow) → HasRowForm mesh cert row → IsPart mesh (part_of cert row)
  part_is row form = elim (cases_eq row.walk 0) [
    | inl none ↦
        let test = eq-eqb row.walk 0 none in
        let part : IsVertexPart mesh row = subst (λ b. MatchBool b (IsVertexPart mesh row) (IsWalkPart cert row)) test form.part in
        rw test (one_vertex mesh row.first part.inside)
    | inr some ↦
        let test = ne_eqb row.walk 0 some in
        let part : IsWalkPart cert row = subst (λ b. MatchBool b (IsVertexPart mesh row) (IsWalkPart cert row)) test form.part in
        let fits = part.walk in
        let ordered = part.ordered in
        let places = part.places in
        rw test (stretch (row.walk - 1) row.first (row.last + 1 - row.first) (omega (arith, fits, some))
        (omega (arith, ordered, places)) (omega (arith, ordered)))
  ]

  pub limit_more : ArePositive mesh lengths → (row : SheetRow) → HasRowForm mesh cert row →
      row.margin < limit_of mesh lengths cert row
  limit_more positive row form =
      let k : ℕ = row.to - 1 in
      let l : k < length cert.cycles = omega (arith, form.some, form.numbered) in
      let walk = cycle_at cert k in
      let long = some_length mesh lengths walk positive (closed k l).along_edges (some_step mesh cert walk k (paired k l).own) in
      let size : ℕ = size_at mesh lengths cert k in
      let some : 1 ≤ size = long in
      let goal : row.margin < (size + 2 * row.margin + 1) / 2 = omega (arith, some) in
      goal
