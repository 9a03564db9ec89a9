use Rattle.surf_surfaces.proofs.Common.{◌≡◌, false, get_or, ap, sym, ◌∙◌, arith, xor, xor-false, dual, on_path, cells_of, path_root}
use Rattle.surf_cotree.specs.Tables.{cotree_of}
use Rattle.surf_class.proofs.Cocycles.{turned_up}
use Rattle.surf_class.proofs.cocycle.turn_way.Goals as goal

pub loop-parent-preserved : goal.loop-parent-preserved
loop-parent-preserved c =
    let t = cotree_of c.args.cotree.now in
    let inv = c.loop-parent.invariant in
    let up = c.in-Some.ensures.above in
    record {
      within = c.in-Some.ensures.inside.0;
      count = omega (arith, inv.count, c.turn.auto.flags);
      way = λ e.
          turned_up (dual (cells_of c.args.mesh.now)) t c.requires.grown.split.cotree_is c.loop-parent.at _ _ c.index.result e
          (get_or c.loop-parent.flags e false) (get_or c.turn.new.flags e false) inv.within up.0 up.1 up.2 c.index.ensures
          (c.turn.ensures.turned e)
          ∙ inv.way e;
    }

pub returns : goal.returns
returns c =
    let t = cotree_of c.args.cotree.now in
    record {
      turned = λ e.
          let flag = get_or c.loop-parent.flags e false in
          let none : on_path t c.loop-parent.at e ≡ false =
          ap (λ n. on_path t n e) c.in_default.ensures.above ∙ path_root t e in
          sym (ap (xor flag) none ∙ xor-false flag) ∙ c.loop-parent.invariant.way e;
    }
