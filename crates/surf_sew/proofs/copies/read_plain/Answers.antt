use Rattle.std.proofs.Common.{sym, ◌∙◌}
use Rattle.surf_sew.proofs.PlainLines.{plain_origin, same_some}
use Rattle.surf_sew.proofs.copies.read_plain.Goals as goal

pub returns : goal.returns
returns c = record {
  origin = same_some c.origin_at.result _ (plain_origin _ _ _ _ c.args.place c.in_ok-copy-2.copy c.in_ok-vertex.vertex c.in_ok-numbers.ensures.behind c.in_ok-copy.ensures.parts (sym c.in_ok-copy-2.ensures.number) (sym c.in_ok-vertex.ensures.number) ∙ sym c.origin_at.ensures.origin);
}
