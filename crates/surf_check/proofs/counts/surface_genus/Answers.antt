use Rattle.std.proofs.Common.{◌≡◌, ◌+◌, ◌-◌, ◌*◌, ◌/◌, ap, ◌∙◌, arith, pos}
use Rattle.surf_orientation.specs.Statements.{genus_of}
use Rattle.surf_orientation.proofs.GenusLaws.{counts_are_at_most_two_more, genus_is_half}
use Rattle.surf_check.specs.Growth.{flag_of}
use Rattle.surf_check.proofs.counts.surface_genus.Goals as goal

pub overflow_sub-result : goal.overflow_sub-result
overflow_sub-result c =
    let few = counts_are_at_most_two_more c.args.mesh.now c.edges.ensures.surface in
    omega (arith, few, c.edges.ensures.count, c.vertices.ensures.count, c.faces.ensures.count)

pub returns-clause-twice : goal.returns-clause-twice
returns-clause-twice c =
    let mesh = c.args.mesh.now in
    let same : (c.edges.result + 2 - (c.vertices.result + c.faces.result)) / 2 ≡ genus_of mesh =
    rw (c.edges.ensures.count, c.vertices.ensures.count, c.faces.ensures.count) in
    ap (λ n. pos (2 * n)) same ∙ genus_is_half mesh (flag_of c.args.turning.now) c.edges.ensures.surface c.requires
