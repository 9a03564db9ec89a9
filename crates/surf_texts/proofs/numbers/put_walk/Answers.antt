use Rattle.std.proofs.Common.{◌++◌, ◌∙◌, ℕ, List, append-nil, ap, codes, decimal, subst, Err}
use Rattle.std.proofs.lemmas.Result.{err_from_is_err_and}
use Rattle.surf_texts.specs.Fills.{Fills}
use Rattle.surf_texts.proofs.Filling.{stopped}
use Rattle.surf_texts.proofs.numbers.put_walk.Goals as goal

pub returns-in_err-push_pieces : goal.returns-in_err-push_pieces
returns-in_err-push_pieces c =
    let p = err_from_is_err_and c.from_residual.result c.from_residual.ensures.1 in
    let fault = c.in_err-push_pieces.field-0.0 in
    let text = append-nil (decimal c.index.result) ∙ ap decimal (c.index.ensures ∙ c.v-item.is) in
    rw (p.1, p.2) (record {
      fills = stopped c.args.page.now c.loop-v.page c.push_pieces.new.self (λ v. codes " " ++ decimal v) c.args.walk.now c.loop-v.v-index c.v-item.result fault
          c.loop-v-test.true c.loop-v.invariant
          (subst (λ (t : List ℕ). Fills {A = Unit {0}} c.loop-v.page c.push_pieces.new.self (codes " " ++ t) (Err fault)) text c.in_err-push_pieces.ensures.puts);
    })
