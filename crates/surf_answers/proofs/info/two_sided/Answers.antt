use Rattle.surf_answers.proofs.Common.{◌*◌, subst, sym, arith, ℕ, IsLoopCount, common_steps, genus_is_loop_count, HasGenus, ends_as}
use Rattle.surf_check.specs.Growth.{flag_of}
use Rattle.surf_answers.proofs.info.two_sided.Goals as goal

pub returns : goal.returns
returns c =
    ends_as (HasGenus c.args.mesh.now) c.yes.result _ c.yes.ensures
    (record {
      two_sided = (flag_of c.args.turning.now, c.requires);
      genus = c.surface_genus.result;
      twice = subst (λ (n : ℕ). IsLoopCount c.args.mesh.now (2 * n)) (sym c.surface_genus.ensures.is)
          (genus_is_loop_count c.args.mesh.now (flag_of c.args.turning.now) c.law_of_surface.ensures.surface c.requires);
      text = grind (arith, common_steps);
    })
