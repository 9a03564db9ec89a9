use Rattle.surf_text.proofs.First.{first_is}
use Rattle.surf_sew.proofs.copies.comment_sign.Goals as goal

pub returns : goal.returns
returns c = record { place = first_is _ c.args.bytes.now c.memchr.result c.memchr.ensures }
