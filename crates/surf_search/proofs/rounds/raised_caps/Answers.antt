use Rattle.surf_search.proofs.Common.{ℕ, List, length, sym, ap, ◌∙◌, subst, arith, AreCapped}
use Rattle.surf_finder.proofs.Marked.{written_back}
use Rattle.surf_search.proofs.rounds.raised_caps.Goals as goal

pub returns-clause-capped : goal.returns-clause-capped
returns-clause-capped c =
    let caps = c.raise_caps.new.caps in
    subst (AreCapped c.args.surface.now.mesh.now c.args.surface.now.signatures.now c.args.choice.now.kept c.args.most)
    (sym (written_back caps _ _ (omega (arith, c.raise_caps.ensures.count, c.deref_mut.ensures.len)))) c.in_ok-raise_caps.ensures.capped

pub returns-clause-count : goal.returns-clause-count
returns-clause-count c =
    let caps = c.raise_caps.new.caps in
    ap (λ (xs : List ℕ). length xs) (written_back caps _ _ (omega (arith, c.raise_caps.ensures.count, c.deref_mut.ensures.len)))
    ∙ c.raise_caps.ensures.count ∙ ap (λ (xs : List ℕ). length xs) (c.deref_mut-2.ensures.value
    ∙ written_back c.raise_hubs.new.caps _ _ (omega (arith, c.raise_hubs.ensures.count, c.deref_mut.ensures.len)))
    ∙ c.raise_hubs.ensures.count ∙ ap (λ (xs : List ℕ). length xs) (c.deref_mut.ensures.value
    ∙ c.in_ok-caps.ensures.items_if_clones_equal (λ x y same. same))
