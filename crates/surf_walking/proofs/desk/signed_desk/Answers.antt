use Rattle.surf_answers.proofs.Common.{ap}
use Rattle.surf_loops.specs.Loops.{LoopTables}
use Rattle.surf_cover.proofs.Signed.{signed_after}
use Rattle.surf_walking.proofs.desk.signed_desk.Goals as goal

pub returns : goal.returns
returns c = record {
  signed = signed_after c.args.mesh.now c.in_ok-desk.desk.cotree c.sign.new.self.cotree c.in_ok-desk.ensures.chosen.grown
      (ap (λ (t : LoopTables). t.cotree) c.sign.ensures.rest) c.sign.ensures.made c.sign.ensures.signed;
}
