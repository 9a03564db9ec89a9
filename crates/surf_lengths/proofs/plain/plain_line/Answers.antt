use Rattle.std.proofs.Common.{◌∷◌, ◌++◌, ℕ, List, ◌∙◌, ap, refl}
use Rattle.surf_lengths.proofs.PlainLines.{plain_line}
use Rattle.surf_lengths.proofs.plain.plain_line.Goals as goal

pub returns : goal.returns
returns c =
    let one = c.in_ok-u.ensures.before in
    let two = c.in_ok-v.ensures.before in
    let three = c.in_ok-n.ensures.before in
    record {
      plain = plain_line one.word two.word three.word c.in_ok-n.behind.now c.in_ok-u.u c.in_ok-v.v c.in_ok-n.n one.short two.short three.short c.args.text.now
          (one.is ∙ ap (λ (t : List ℕ). one.word ++ 32 ∷ t) (two.is ∙ ap (λ (t : List ℕ). two.word ++ 32 ∷ t) three.is))
          _ refl;
    }
