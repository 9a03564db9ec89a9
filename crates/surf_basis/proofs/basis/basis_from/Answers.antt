use Rattle.surf_basis.proofs.Common.{AreCyclesOf, AreKeptOver, refl, HasBases, as_loops, IsTheBasis, ◌≡◌, ◌<◌, ◌≤◌, ◌^◌, ℕ, List, length, sym, ap, ◌∙◌, subst, arith, IfOk-weaker, edge_count, IsSurface, ArePositive, AreBases, lengths_positive, Chosen, SurfaceTables, AreSigned}
use Rattle.surf_basis.proofs.Whole.{both_hold, the_basis}
use Rattle.surf_basis.proofs.basis.basis_from.Goals as goal

pub choose-requires-clause-signed : goal.choose-requires-clause-signed
choose-requires-clause-signed c =
    let wide : c.in_ok-choice.choice.width ≡ c.args.count = ap (λ (k : Chosen). k.width) c.in_ok-choice.ensures in
    let is = c.requires.finder in
    subst (λ (f : SurfaceTables). AreSigned f.mesh f.signs c.in_ok-choice.choice.width) (sym is)
    (subst (AreSigned c.args.surface.now.mesh.now c.args.surface.now.signatures.now) (sym wide) c.requires.signed)

pub choose-requires-clause-width : goal.choose-requires-clause-width
choose-requires-clause-width c =
    ap (λ (k : Chosen). k.width) c.in_ok-least.ensures ∙ sym (ap (λ (k : Chosen). k.width) c.in_ok-choice.ensures)

pub choose-requires-clause-positive : goal.choose-requires-clause-positive
choose-requires-clause-positive c =
    let mesh = c.args.surface.now.mesh.now in
    let lengths = c.args.surface.now.lengths.now in
    let is = c.requires.finder in
    subst (λ (f : SurfaceTables). IsSurface f.mesh × ArePositive f.mesh f.lengths) (sym is)
    (c.law_of_surface.ensures.surface, lengths_positive mesh lengths c.law_of_lengths.ensures.lengths c.requires.lengths)

pub choose-requires-clause-few : goal.choose-requires-clause-few
choose-requires-clause-few c =
    let is = c.requires.finder in
    let law = c.law_of_surface.ensures in
    subst (λ (f : SurfaceTables). (f.mesh.vertices < 2 ^ 32) × (edge_count f.mesh ≤ 2 ^ 32)) (sym is)
    (law.vertices, omega (arith, law.edges))

pub choose-requires-clause-bases : goal.choose-requires-clause-bases
choose-requires-clause-bases c =
    let is = c.requires.finder in
    subst (λ (f : SurfaceTables). AreBases f.mesh c.deref.result.now) (sym is)
    (subst (AreBases c.args.surface.now.mesh.now) (sym c.deref.ensures.value) c.in_ok-bases.ensures.increasing)

pub choose-requires-clause-has : goal.choose-requires-clause-has
choose-requires-clause-has c = subst (λ (xs : List ℕ). HasBases xs c.args.found.now) (sym c.deref.ensures.value) c.in_ok-bases.ensures.bases

pub returns : goal.returns
returns c =
    let args = c.args.surface.now in
    let mesh = args.mesh.now in
    let lengths = args.lengths.now in
    let surface = c.law_of_surface.ensures.surface in
    let positive = lengths_positive mesh lengths c.law_of_lengths.ensures.lengths c.requires.lengths in
    let found = c.args.found.now in
    let is = c.requires.finder in
    let bases = c.deref.result.now in
    let kept = c.choose.new.choice.kept in
    let Kept = AreKeptOver c.args.finder.now.mesh c.args.finder.now.lengths c.args.finder.now.signs found bases (length bases) kept in
    let has = subst (λ (xs : List ℕ). HasBases xs found) (sym c.deref.ensures.value) c.in_ok-bases.ensures.bases in
    record {
      chosen = IfOk-weaker c.choose.result (λ cycles. Kept × AreCyclesOf c.args.finder.now.mesh c.args.finder.now.lengths kept cycles.items) (λ cycles. IsTheBasis mesh lengths (as_loops cycles.items))
          (λ cycles both. the_basis mesh lengths surface positive args.signatures.now c.args.count c.requires.signed found bases kept kept cycles.items
          has c.requires.places (subst (λ (f : SurfaceTables). AreKeptOver f.mesh f.lengths f.signs found bases (length bases) kept) is both.0) refl
          (subst (λ (f : SurfaceTables). AreCyclesOf f.mesh f.lengths kept cycles.items) is both.1))
          (both_hold c.choose.result (λ cycles. Kept) (λ cycles. AreCyclesOf c.args.finder.now.mesh c.args.finder.now.lengths kept cycles.items)
          c.choose.ensures.kept c.choose.ensures.cycles);
    }
