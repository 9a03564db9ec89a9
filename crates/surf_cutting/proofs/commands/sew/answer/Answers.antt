use Rattle.std.proofs.Common.{refl}
use Rattle.surf_answers.proofs.Composing.{begun, over_as, ended}
use Rattle.surf_cutting.proofs.commands.sew.answer.Goals as goal

pub returns-clause-tells : goal.returns-clause-tells
returns-clause-tells g c =
    let bytes = c.in_ok-bytes in
    ended (over_as begun bytes.bytes.items refl bytes.ensures.tells bytes.ensures.later _ c.deref.ensures.value)
    c.sew_text.result c.sew_text.ensures
