use Rattle.surf_sew.proofs.Common.{◌≡◌, ◌+◌, ℕ, length, drop, ◌∙◌, ap, arith, first_copy}
use Rattle.surf_sew.proofs.Firsts.{table_is}
use Rattle.surf_sew.proofs.first.list_first.Goals as goal

pub returns : goal.returns
returns c =
    let vs = c.args.origins.now in
    let done : c.loop-c.c ≡ 0 = omega arith in
    let same : length c.loop-c.table ≡ length c.args.table.now = omega arith in
    record {
      first = table_is vs c.loop-c.table c.args.from (length c.args.table.now) same (λ k lt.
          let none : 0 + first_copy vs (c.args.from + k) ≡ first_copy vs (c.args.from + k) = omega arith in
          c.loop-c.invariant k (omega arith) ∙ ap (λ (i : ℕ). i + first_copy (drop i vs) (c.args.from + k)) done ∙ none);
    }
