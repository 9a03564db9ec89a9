use Rattle.surf_search.proofs.Common.{rules, w64, ◌<◌, ◌^◌, ℕ, IsNonDecreasingBy-from_sort_by_key, cap_at, fall_order, get_or}
use Rattle.std.specs.Int.{w32}
use Rattle.std.proofs.Common.{Fits}
use Rattle.surf_search.proofs.Rounded.{caps_fall}
use Rattle.surf_search.proofs.round.sort_falling.Goals as goal

fits : (n : ℕ) → Fits w64 n → n < 2 ^ 64
fits n h = search rules

fits_short : (n : ℕ) → Fits w32 n → n < 2 ^ 32
fits_short n h = search rules

pub returns-clause-falling : goal.returns-clause-falling
returns-clause-falling c i j d le l =
    let caps = c.args.caps.now in
    let ranks = c.args.ranks.now in
    let list = c.sort_unstable_by_key.new.self in
    let u = get_or list i d in
    let v = get_or list j d in
    let sorted = IsNonDecreasingBy-from_sort_by_key (fall_order caps ranks) list c.sort_unstable_by_key.ensures.sorted
    (λ a r q k. search rules) in
    caps_fall caps ranks u v (fits (cap_at caps u) (c.type_inv.caps u)) (fits (cap_at caps v) (c.type_inv.caps v))
    (fits_short (cap_at ranks u) (c.type_inv.ranks u)) (fits_short (cap_at ranks v) (c.type_inv.ranks v)) (sorted i j d le l)
