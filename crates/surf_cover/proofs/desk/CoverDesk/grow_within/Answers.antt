use Rattle.surf_cotree.proofs.Common.{◌≡◌, ◌<◌, ◌≤◌, ◌+◌, ◌*◌, ℕ, List, sym, ap, ◌∙◌, subst, arith, row_fits, Mesh}
use Rattle.surf_cover.proofs.Common.{CoverTables, IsCoverable}
use Rattle.surf_cover.proofs.Covering.{searchable, some_set}
use Rattle.surf_cover.proofs.desk.CoverDesk.grow_within.Goals as goal

-- what the desk has inside covers the mesh
inside : (mesh : Mesh) (lengths : List ℕ) (t u : CoverTables) → t ≡ u → IsCoverable mesh lengths u.sets u.signs →
    IsCoverable mesh lengths t.sets t.signs
inside mesh lengths t u same can = subst (λ x. IsCoverable mesh lengths x.sets x.signs) (sym same) can

pub settle_within-requires-clause-valid : goal.settle_within-requires-clause-valid
settle_within-requires-clause-valid c =
    rw c.deref.ensures.value
    (inside c.args.mesh.now c.args.lengths.now _ c.args.self.now c.self.view_is c.requires.coverable)

pub settle_within-requires-clause-searchable : goal.settle_within-requires-clause-searchable
settle_within-requires-clause-searchable c =
    let mesh = c.args.mesh.now in
    let t = c.self.inside in
    let can = inside mesh c.args.lengths.now _ c.args.self.now c.self.view_is c.requires.coverable in
    rw c.deref.ensures.value (searchable mesh can.split t.sets t.signs.items can.signed can.surface c.args.lengths.now
    c.law_of_lengths.ensures.lengths can.few)

pub settle_within-requires-clause-base : goal.settle_within-requires-clause-base
settle_within-requires-clause-base c =
    let mesh = c.args.mesh.now in
    let t = c.self.inside in
    let can = inside mesh c.args.lengths.now _ c.args.self.now c.self.view_is c.requires.coverable in
    let some : 0 < t.sets = some_set mesh can.split t.sets t.signs.items can.signed in
    let fits : c.args.base * t.sets + t.sets ≤ mesh.vertices * t.sets =
    row_fits c.args.base t.sets mesh.vertices t.sets c.requires.base (omega arith) in
    rw c.number.ensures (omega (arith, fits, some))

pub settle_within-requires-clause-nodes : goal.settle_within-requires-clause-nodes
settle_within-requires-clause-nodes c =
    let t = c.self.inside in
    let vertices : t.vertices ≡ c.args.mesh.now.vertices =
    ap (λ (x : CoverTables). x.vertices) c.self.view_is ∙ c.requires.made.vertices in
    c.self.invariant.nodes ∙ ap (λ n. n * t.sets) vertices

pub settle_within-requires-clause-room : goal.settle_within-requires-clause-room
settle_within-requires-clause-room c =
    let t = c.self.inside in
    let vertices : t.vertices ≡ c.args.mesh.now.vertices =
    ap (λ (x : CoverTables). x.vertices) c.self.view_is ∙ c.requires.made.vertices in
    let same : t.vertices * t.sets ≡ c.args.mesh.now.vertices * t.sets = ap (λ n. n * t.sets) vertices in
    omega (arith, c.self.invariant.room, same)

pub settle_within-requires-clause-places : goal.settle_within-requires-clause-places
settle_within-requires-clause-places c =
    let t = c.self.inside in
    let vertices : t.vertices ≡ c.args.mesh.now.vertices =
    ap (λ (x : CoverTables). x.vertices) c.self.view_is ∙ c.requires.made.vertices in
    c.self.invariant.places ∙ c.self.invariant.nodes ∙ ap (λ n. n * t.sets) vertices
