use Rattle.surf_search.proofs.Common.{refl, sym, ◌∙◌, arith, degree_few, degrees_none, is_signed}
use Rattle.surf_finder.proofs.Marked.{ends_inside}
use Rattle.surf_finder.proofs.Signed.{signed_none, signed_some}
use Rattle.surf_search.proofs.Counted.{degrees_raised, ends_apart, raised}
use Rattle.surf_search.proofs.degrees.count_edge.Goals as goal

pub count_at-requires : goal.count_at-requires
count_at-requires c =
    let mesh = c.args.mesh.now in
    let law = c.law_of_surface.ensures in
    let inside = ends_inside mesh law.surface c.args.edge c.requires.edge c.ends-low.result c.ends-low.ensures in
    let few = degree_few mesh (is_signed c.args.signatures.now) c.args.edge c.ends-low.result.0 c.args.degrees.now c.requires.so_far inside.0 in
    record {
      vertex = omega (arith, inside.0, c.requires.size);
      few = omega (arith, few, c.requires.edge, law.edges);
    }

pub count_at-requires-then-is_signed : goal.count_at-requires-then-is_signed
count_at-requires-then-is_signed c =
    let mesh = c.args.mesh.now in
    let law = c.law_of_surface.ensures in
    let e = c.args.edge in
    let inside = ends_inside mesh law.surface e c.requires.edge c.ends-low.result c.ends-low.ensures in
    let few = degree_few mesh (is_signed c.args.signatures.now) e c.ends-low.result.1 c.args.degrees.now c.requires.so_far inside.1 in
    let first = raised c.ends-low.result.0 c.args.degrees.now c.count_at.new.degrees (omega (arith, inside.0, c.requires.size)) c.count_at.ensures in
    let same = first.others c.ends-low.result.1 (ends_apart mesh law.surface e c.requires.edge c.ends-low.result c.ends-low.ensures) in
    record {
      vertex = omega (arith, inside.1, c.requires.size, first.size);
      few = omega (arith, same, few, c.requires.edge, law.edges);
    }

pub returns-then-is_signed : goal.returns-then-is_signed
returns-then-is_signed c =
    let mesh = c.args.mesh.now in
    let law = c.law_of_surface.ensures in
    let s = c.args.signatures.now in
    let e = c.args.edge in
    let p = c.ends-low.result in
    let inside = ends_inside mesh law.surface e c.requires.edge p c.ends-low.ensures in
    let first = raised p.0 c.args.degrees.now c.count_at.new.degrees (omega (arith, inside.0, c.requires.size)) c.count_at.ensures in
    let second = raised p.1 c.count_at.new.degrees c.count_at-then-is_signed.new.degrees (omega (arith, inside.1, c.requires.size, first.size)) c.count_at-then-is_signed.ensures in
    let some = signed_some s e (sym c.is_signed.ensures.signed ∙ c.if-is_signed.true) in
    degrees_raised mesh s e c.args.degrees.now c.count_at.new.degrees c.count_at-then-is_signed.new.degrees p
    (ends_apart mesh law.surface e c.requires.edge p c.ends-low.ensures) c.ends-low.ensures some c.requires.so_far first second

pub returns-else-is_signed : goal.returns-else-is_signed
returns-else-is_signed c =
    let none = signed_none c.args.signatures.now c.args.edge (sym c.is_signed.ensures.signed ∙ c.if-is_signed.false) in
    degrees_none c.args.mesh.now (is_signed c.args.signatures.now) c.args.edge c.args.degrees.now c.requires.so_far (rw none refl)
