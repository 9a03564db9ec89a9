use Rattle.std.proofs.Common.{sym, ◌∙◌, arith}
use Rattle.surf_class.proofs.LineSizes.{few_tokens}
use Rattle.surf_class.proofs.read.read_evidence.Goals as goal

pub read_line-requires : goal.read_line-requires
read_line-requires c =
    let few = few_tokens c.args.text.now _ c.next_line.new.self (sym c.over-lines.ensures.lines ∙ c.in-Some.ensures.next) in
    record { few = omega (arith, few, c.requires.short) }
