use Rattle.std.proofs.Common.{ℕ, List, ◌-◌, length, take, drop, ap, ◌∙◌, arith}
use Rattle.surf_cutter.proofs.FaceTables.{end_within, span_of, row_of}
use Rattle.surf_cutter.proofs.faces.OpenFaces.row.Goals as goal

pub index-requires : goal.index-requires
index-requires c = let e = end_within c.self.inside.starts.items c.self.inside.corners.items c.self.invariant c.args.self.now c.self.view_is c.args.f c.requires in omega (arith, e)

pub overflow_add-f : goal.overflow_add-f
overflow_add-f c =
    let e = end_within c.self.inside.starts.items c.self.inside.corners.items c.self.invariant c.args.self.now c.self.view_is c.args.f c.requires in
    let small = c.self.inside.starts.small in
    omega (arith, e, small)

pub index-requires-2 : goal.index-requires-2
index-requires-2 c = let e = end_within c.self.inside.starts.items c.self.inside.corners.items c.self.invariant c.args.self.now c.self.view_is c.args.f c.requires in omega (arith, e)

pub part-requires-clause-ordered : goal.part-requires-clause-ordered
part-requires-clause-ordered c =
    (span_of c.self.inside.starts.items c.self.inside.corners.items c.self.invariant c.args.self.now c.self.view_is c.args.f c.requires c.index.result.now c.index.ensures c.index-2.result.now c.index-2.ensures).0

pub part-requires-clause-inside : goal.part-requires-clause-inside
part-requires-clause-inside c =
    let s = span_of c.self.inside.starts.items c.self.inside.corners.items c.self.invariant c.args.self.now c.self.view_is c.args.f c.requires c.index.result.now c.index.ensures c.index-2.result.now c.index-2.ensures in
    omega (arith, s.1, ap length c.deref.ensures.value)

pub returns : goal.returns
returns c =
    c.part.ensures
    ∙ ap (λ (xs : List ℕ). take (c.index-2.result.now - c.index.result.now) (drop c.index.result.now xs)) c.deref.ensures.value
    ∙ row_of c.self.inside.starts.items c.self.inside.corners.items c.self.invariant c.args.self.now c.self.view_is c.args.f c.requires c.index.result.now c.index.ensures c.index-2.result.now c.index-2.ensures
