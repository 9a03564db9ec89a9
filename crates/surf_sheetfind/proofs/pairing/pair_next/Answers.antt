use Rattle.surf_surfaces.proofs.Common.{sym, ◌∙◌}
use Rattle.surf_sheetfind.proofs.PairLaws.{can_still}
use Rattle.surf_sheetfind.proofs.pairing.pair_next.Goals as goal

pub returns : goal.returns
returns c = record {
  rows = c.take_others.ensures.rows;
  paired = λ classes can.
      let own = c.give_own.ensures.own classes can in
      c.take_others.ensures.paired classes
      (can_still classes c.args.rows.now.sets c.args.n c.args.class.now can c.give_own.new.rows.sets
      (c.give_own.ensures.rows.count_is ∙ sym c.requires.rows.count_is) own.paired) own;
}
