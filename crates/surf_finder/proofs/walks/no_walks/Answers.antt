use Rattle.surf_finder.proofs.Common.{◌≡◌, ◌++◌, ◌∷◌, [], List, ℕ, replicate, ap, ◌∙◌, subst, arith, replicate_more}
use Rattle.surf_finder.proofs.walks.no_walks.Goals as goal

pub loop-preserved : goal.loop-preserved
loop-preserved c =
    let old = c.loop.walks.items in
    c.in_ok-push.ensures.items ∙ ap (λ (w : List ℕ). old ++ w ∷ []) (c.from_vertices.ensures ∙ c.new.ensures.items)
    ∙ ap (λ (ws : List (List ℕ)). ws ++ [] ∷ []) c.loop.invariant ∙ replicate_more c.loop.counter []

pub returns : goal.returns
returns c =
    let all : c.loop.counter ≡ c.args.count = omega (arith, c.loop-test.false, c.loop.auto.counter-end) in
    record { none = subst (λ n. c.loop.walks.items ≡ replicate n []) all c.loop.invariant }
