use Rattle.std.proofs.Common.{rules}
use Rattle.std.proofs.lemmas.Fmt.{length-decimal-le}
use Rattle.surf_text.proofs.page.Page.push_whole.Goals as goal

pub put_whole-requires : goal.put_whole-requires
put_whole-requires c = search (rules, length-decimal-le 20)
