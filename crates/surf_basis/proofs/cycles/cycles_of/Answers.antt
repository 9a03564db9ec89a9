use Rattle.surf_basis.proofs.Common.{AreCyclesOf, ArePutIn, HaveWalks, cycles_with, written_back, IfOk-weaker, ◌≡◌, sym, ap, ◌∙◌, subst, arith}
use Rattle.surf_basis.proofs.Cycled.{cycles_have, put_written}
use Rattle.surf_basis.proofs.Kept.{cycles_are}
use Rattle.surf_basis.proofs.cycles.cycles_of.Goals as goal

pub put_walks-requires : goal.put_walks-requires
put_walks-requires c = record { none = c.deref_mut.ensures.value ∙ c.in_ok-walks.ensures.none }

pub write_walks-requires-clause-before : goal.write_walks-requires-clause-before
write_walks-requires-clause-before c =
    let f = c.args.finder.now in
    let kept = c.args.kept.now in
    let whole = c.deref_mut-2.ensures.value ∙ written_back c.put_walks.new.walks _ _ (omega (arith, c.put_walks.auto.walks, c.deref_mut.ensures.len)) in
    put_written c.args.before.items kept f.mesh f.lengths c.deref_mut-2.result.now c.requires.before
    (subst (ArePutIn c.args.before.items kept) (sym whole) c.put_walks.ensures.put)

pub returns-clause-cycles : goal.returns-clause-cycles
returns-clause-cycles c =
    let f = c.args.finder.now in
    let kept = c.args.kept.now in
    let walks = c.write_walks.new.walks in
    let whole = written_back walks _ _ (omega (arith, c.write_walks.auto.walks, c.deref_mut-2.ensures.len, c.put_walks.auto.walks, c.deref_mut.ensures.len)) in
    IfOk-weaker c.cycles_with.result (λ cycles. cycles.items ≡ cycles_with kept _) (λ cycles. AreCyclesOf f.mesh f.lengths kept cycles.items)
    (λ cycles is. subst (AreCyclesOf f.mesh f.lengths kept) (sym (is ∙ ap (cycles_with kept) whole))
    (cycles_are f.mesh f.lengths kept walks c.in_ok-write_walks.ensures.walks)) c.cycles_with.ensures.cycles

pub returns-clause-walks : goal.returns-clause-walks
returns-clause-walks c =
    let f = c.args.finder.now in
    let kept = c.args.kept.now in
    let walks = c.write_walks.new.walks in
    let whole = written_back walks _ _ (omega (arith, c.write_walks.auto.walks, c.deref_mut-2.ensures.len, c.put_walks.auto.walks, c.deref_mut.ensures.len)) in
    IfOk-weaker c.cycles_with.result (λ cycles. cycles.items ≡ cycles_with kept _) (λ cycles. HaveWalks f.mesh f.lengths cycles.items)
    (λ cycles is. subst (HaveWalks f.mesh f.lengths) (sym (is ∙ ap (cycles_with kept) whole))
    (cycles_have f.mesh f.lengths kept walks c.in_ok-write_walks.ensures.walks)) c.cycles_with.ensures.cycles
