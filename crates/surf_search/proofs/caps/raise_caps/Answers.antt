use Rattle.surf_search.proofs.Common.{◌≡◌, ◌<◌, List, All, sym, ◌∙◌, subst, arith, All-permutation, edge_count, Ask, AreAsks, HasCappedEnd}
use Rattle.surf_search.proofs.Capping.{asks_capped}
use Rattle.surf_finder.proofs.Signed.{signs_long}
use Rattle.surf_finder.proofs.Marked.{written_back}
use Rattle.surf_search.proofs.caps.raise_caps.Goals as goal

pub count_signed-requires-clause-table : goal.count_signed-requires-clause-table
count_signed-requires-clause-table c =
    signs_long c.args.surface.now.mesh.now c.args.surface.now.signatures.now c.args.choice.now.width c.requires.signed

pub raise_all-requires-clause-edges : goal.raise_all-requires-clause-edges
raise_all-requires-clause-edges c =
    let mesh = c.args.surface.now.mesh.now in
    let value : c.deref-2.result.now ≡ c.sort_asks.new.asks = c.deref-2.ensures.value
    ∙ written_back c.sort_asks.new.asks _ c.in_ok-asks.asks.len (omega (arith, c.sort_asks.auto.asks, c.deref_mut-2.ensures.len)) in
    subst (λ (xs : List Ask). All (λ a. a.edge < edge_count mesh) xs) (sym value)
    (All-permutation (λ (a : Ask). a.edge < edge_count mesh) c.deref_mut-2.result.now c.sort_asks.new.asks c.sort_asks.ensures.same
    (subst (λ (xs : List Ask). All (λ a. a.edge < edge_count mesh) xs) (sym c.deref_mut-2.ensures.value) c.in_ok-asks.ensures.inside))

pub returns-clause-capped : goal.returns-clause-capped
returns-clause-capped c =
    let mesh = c.args.surface.now.mesh.now in
    let s = c.args.surface.now.signatures.now in
    let kept = c.args.choice.now.kept in
    let value : c.deref-2.result.now ≡ c.sort_asks.new.asks = c.deref-2.ensures.value
    ∙ written_back c.sort_asks.new.asks _ c.in_ok-asks.asks.len (omega (arith, c.sort_asks.auto.asks, c.deref_mut-2.ensures.len)) in
    asks_capped mesh s kept c.args.most c.raise_all.new.caps c.deref_mut-2.result.now c.sort_asks.new.asks
    (subst (λ (xs : List Ask). AreAsks s kept c.args.most (edge_count mesh) xs) (sym c.deref_mut-2.ensures.value) c.in_ok-asks.ensures.asks)
    c.sort_asks.ensures.same
    (subst (λ (xs : List Ask). All (λ a. HasCappedEnd mesh c.raise_all.new.caps a.length a.edge) xs) value c.raise_all.ensures.capped)
