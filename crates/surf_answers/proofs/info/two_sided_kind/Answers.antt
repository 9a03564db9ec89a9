use Rattle.surf_answers.proofs.Common.{◌/◌, arith, common_steps, genus_is_loop_count, HasGenus, ends_as}
use Rattle.surf_answers.proofs.info.two_sided_kind.Goals as goal

pub returns : goal.returns
returns c =
    let mesh = c.args.kind.now in
    let loops = c.kind_loop_count.result in
    ends_as (HasGenus mesh) c.yes.result _ c.yes.ensures
    (record {
      two_sided = c.requires;
      genus = loops / 2;
      twice = omega (
        arith,
        c.kind_loop_count.ensures.loops,
        genus_is_loop_count mesh c.requires.0 c.law_of_kind.ensures.surface c.requires.1,
      );
      text = grind (arith, common_steps);
    })
