use Rattle.surf_finder.proofs.Common.{reached_at}
use Rattle.surf_finder.proofs.Numbered.{item_settled}
use Rattle.surf_finder.proofs.Told.{lists_more}
use Rattle.surf_finder.proofs.told_loops.list_loops.Goals as goal

pub loop-v-preserved : goal.loop-v-preserved
loop-v-preserved c =
    let settled = c.args.reached.now.desk.now.settled in
    let it = item_settled c.settled-v-items.result.now settled c.loop-v.v-index c.v-item.result c.settled-v-items.ensures.settled c.loop-v-test.true c.v-item.is in
    record {
      listed = c.in_ok-list_at.ensures.listed;
      all = lists_more c.args.ties (reached_at c.args.reached.now) c.args.limit.now settled c.loop-v.v-index c.v-item.result c.loop-v.found.items
          c.list_at.new.found.items c.loop-v.invariant.all c.in_ok-list_at.ensures.kept c.in_ok-list_at.ensures.here it.1;
    }
