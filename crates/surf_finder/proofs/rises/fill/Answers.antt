use Rattle.surf_finder.proofs.Common.{◌≡◌, ◌+◌, ◌-◌, ◌++◌, ◌∷◌, [], length, replicate, ap, ◌∙◌, arith}
use Rattle.std.proofs.lemmas.List.{append_assoc, replicate_more}
use Rattle.surf_finder.proofs.rises.fill.Goals as goal

pub loop-place-preserved : goal.loop-place-preserved
loop-place-preserved c =
    let old = c.args.starts.now.items in
    let n = c.loop-place._place - length old in
    let h = c.loop-place.invariant in
    let next : n + 1 ≡ c.loop-place._place + 1 - length old = omega (arith, h.from) in
    record {
      from = omega (arith, h.from);
      no_farther = omega (arith, h.from, c.loop-place-test.true);
      filled = c.in_ok-push.ensures.items ∙ ap (λ xs. xs ++ c.args.number ∷ []) h.filled
          ∙ append_assoc old (replicate n c.args.number) (c.args.number ∷ []) ∙ ap (λ xs. old ++ xs) (replicate_more n c.args.number)
          ∙ ap (λ m. old ++ replicate m c.args.number) next;
    }

pub returns : goal.returns
returns c =
    let old = c.args.starts.now.items in
    let h = c.loop-place.invariant in
    let all : c.loop-place._place - length old ≡ c.args.many - length old = omega (arith, h.no_farther, c.loop-place-test.false) in
    record { filled = h.filled ∙ ap (λ m. old ++ replicate m c.args.number) all }
