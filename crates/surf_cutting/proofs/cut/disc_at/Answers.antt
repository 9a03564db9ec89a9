use Rattle.surf_cutter.specs.Kinds.{kind_of}
use Rattle.surf_cutting.proofs.cut.disc_at.Goals as goal

pub returns-in-Err-Near-clause-tells : goal.returns-in-Err-Near-clause-tells
returns-in-Err-Near-clause-tells c = c.in_ok-held.ensures.near (kind_of c.args.kind) (c.in-Err-Near.ensures.near c.in-Err-Near.field-0-is)

pub returns-clause-lines : goal.returns-clause-lines
returns-clause-lines c = c.in_ok-held.ensures.origins (kind_of c.args.kind) c.in-Ok.opened c.in-Ok.ensures.chosen
