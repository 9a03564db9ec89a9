use Rattle.surf_basis.proofs.Common.{ap, Signed}
use Rattle.surf_basis.proofs.Based.{based_more}
use Rattle.surf_basis.proofs.base_loops.list_based.Goals as goal

pub loop-signed-preserved : goal.loop-signed-preserved
loop-signed-preserved c =
    let s = c.signed-item.result in
    let own : Signed = record {
      candidate = record { length = s.candidate.length; base = c.args.base; edge = s.candidate.edge };
      from = s.from;
      signature = c.copy.result;
    } in
    based_more c.args.base c.args.found.now c.loop-signed.signed-index s own c.loop-signed.based.items c.push.new.self.items c.loop-signed.invariant
    c.loop-signed-test.true c.signed-item.is
    (ap (λ n. record { candidate = own.candidate; from = s.from; signature = n }) c.copy.ensures.same) c.in_ok-push.ensures.items
