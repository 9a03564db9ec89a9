use Rattle.surf_text.proofs.First.{first_is}
use Rattle.surf_text.proofs.places.first_sign.Goals as goal

pub returns-clause-place : goal.returns-clause-place
returns-clause-place c = first_is _ c.args.bytes.now c.memchr2.result c.memchr2.ensures
