use Rattle.surf_surfaces.proofs.Common.{◌≡◌, [], length, get_or, get_or-map, get_or_default, length-map, sym, ap, ◌∙◌, subst, arith}
use Rattle.surf_validity.specs.Bases.{IsClosedList}
use Rattle.surf_paired.proofs.Rows.{units_pair_none}
use Rattle.surf_sheetfind.specs.Pairs.{class_by, classes_of}
use Rattle.surf_sheetfind.proofs.pairing.paired_rows.Goals as goal

pub loop-n-init : goal.loop-n-init
loop-n-init c = record {
  rows = record { width = c.in_ok-rows.ensures.width; count_is = c.in_ok-rows.ensures.count };
  paired = units_pair_none (classes_of c.args.mesh.now c.args.signatures.now.signatures c.args.cycles.now)
      c.in_ok-rows.rows.sets c.in_ok-rows.ensures.units;
}

pub class_of-class-requires-clause-closed : goal.class_of-class-requires-clause-closed
class_of-class-requires-clause-closed c =
    let n = c.loop-n.n in
    subst (IsClosedList c.args.mesh.now)
    (sym (c.vertices.ensures ∙ c.index-cycles-n.is
    ∙ get_or_default c.args.cycles.now n c.index-cycles-n.result [] c.loop-n-test.true))
    (c.requires.closed n c.loop-n-test.true)

pub loop-n-preserved : goal.loop-n-preserved
loop-n-preserved c =
    let mesh = c.args.mesh.now in
    let table = c.args.signatures.now.signatures in
    let cycles = c.args.cycles.now in
    let n = c.loop-n.n in
    let inside = c.loop-n-test.true in
    let walk : c.vertices.result.now ≡ get_or cycles n [] =
    c.vertices.ensures ∙ c.index-cycles-n.is ∙ get_or_default cycles n c.index-cycles-n.result [] inside in
    let size : length (classes_of mesh table cycles) ≡ length cycles = length-map cycles (class_by mesh table) in
    record {
      rows = c.pair_next.ensures.rows;
      paired = c.pair_next.ensures.paired (classes_of mesh table cycles) (record {
        are = c.requires.classes;
        as_many = c.loop-n.invariant.rows.count_is ∙ sym size;
        here = omega (arith, inside, size);
        is = get_or-map (class_by mesh table) cycles n [] 0 inside ∙ ap (class_by mesh table) (sym walk)
            ∙ sym c.class_of-class.ensures.class;
        paired = c.loop-n.invariant.paired;
      });
    }
