use Rattle.std.proofs.Common.{List, sym, subst, ◌∙◌}
use Rattle.surf_text.specs.Text.{TextLine}
use Rattle.surf_text.specs.Walks.{lines_ahead}
use Rattle.surf_lengths.specs.Naming.{IsFirstNaming}
use Rattle.surf_lengths.proofs.Naming.{head_same}
use Rattle.surf_lengths.proofs.file.earlier_line.Goals as goal

pub returns : goal.returns
returns c = record {
  first = λ head is n f.
      c.first_naming.ensures.first n
      (subst (λ (es : List TextLine). IsFirstNaming c.args.mesh.now c.args.edge es n)
      (head_same head (record { default = c.in_ok-lines.field-0-0; entries = lines_ahead c.in_ok-lines.lines }) (sym is ∙ c.in_ok-lines.ensures.head)) f);
}
