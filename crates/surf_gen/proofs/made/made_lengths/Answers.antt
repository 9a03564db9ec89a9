use Rattle.surf_surfaces.proofs.Common.{◌≡◌, ◌≢◌, ℕ, length, All, ap, sym, ◌∙◌, subst, arith, map-range_with_len_more, length-map-range_with_len}
use Rattle.surf_gen.specs.Made.{made_length}
use Rattle.surf_gen.proofs.MadeLaws.{made_are_positive}
use Rattle.surf_gen.proofs.made.made_lengths.Goals as goal

pub loop-edge-preserved : goal.loop-edge-preserved
loop-edge-preserved c =
    let more = map-range_with_len_more (made_length c.args.scatter) 0 c.loop-edge.edge c.loop-edge.edge (omega arith) in
    cc (more, c.in_ok-push.ensures.items, c.made_length.ensures.length)

pub from_values-requires-clause-few : goal.from_values-requires-clause-few
from_values-requires-clause-few c =
    let long : length c.loop-edge.values.items ≡ c.loop-edge.edge =
    ap length c.loop-edge.invariant ∙ length-map-range_with_len (made_length c.args.scatter) 0 c.loop-edge.edge in
    omega arith

pub from_values-requires-clause-positive : goal.from_values-requires-clause-positive
from_values-requires-clause-positive c =
    subst (λ xs. All (λ (m : ℕ). m ≢ 0) xs) (sym c.loop-edge.invariant)
    (made_are_positive c.args.scatter c.loop-edge.edge)

pub returns-clause-count : goal.returns-clause-count
returns-clause-count c =
    let long : length c.from_values.result ≡ c.loop-edge.edge =
    ap length (c.from_values.ensures.values ∙ c.loop-edge.invariant)
    ∙ length-map-range_with_len (made_length c.args.scatter) 0 c.loop-edge.edge in
    omega arith
