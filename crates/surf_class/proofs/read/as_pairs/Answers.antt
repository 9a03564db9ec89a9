use Rattle.surf_surfaces.proofs.Common.{◌<◌, ◌*◌, ◌/◌, ◌++◌, ◌∷◌, [], length, get_or, ap, sym, ◌∙◌, arith, take_all}
use Rattle.surf_class.specs.Evidences.{two_by_two}
use Rattle.surf_class.proofs.Lists.{take_next}
use Rattle.surf_class.proofs.Pairing.{two_at, two_length}
use Rattle.surf_class.proofs.read.as_pairs.Goals as goal

pub loop-i-preserved : goal.loop-i-preserved
loop-i-preserved c =
    let ns = c.args.numbers.now in
    let i = c.loop-i.i in
    let few : i < length ns / 2 = c.loop-i-test.true in
    let all = two_length ns in
    c.in_ok-push.ensures.items
    ∙ ap (λ p. c.loop-i.pairs.items ++ (p, c.new-v.result) ∷ []) c.new-u.ensures
    ∙ ap (λ p. c.loop-i.pairs.items ++ (get_or ns (2 * i) 0, p) ∷ []) c.new-v.ensures
    ∙ ap (λ p. c.loop-i.pairs.items ++ p ∷ []) (sym (two_at ns i (omega (arith, few))))
    ∙ ap (λ xs. xs ++ get_or (two_by_two ns) i (0, 0) ∷ []) c.loop-i.invariant
    ∙ sym (take_next (two_by_two ns) i (0, 0) (omega (arith, few, all)))

pub returns : goal.returns
returns c =
    let ns = c.args.numbers.now in
    let all = two_length ns in
    record { pairs = c.loop-i.invariant ∙ take_all c.loop-i.i (two_by_two ns) (omega (arith, all, c.loop-i-test.false)) }
