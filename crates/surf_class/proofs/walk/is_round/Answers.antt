use Rattle.surf_surfaces.proofs.Common.{◌≡◌, ◌<◌, ◌-◌, length, eqb, ap, ◌∙◌, arith, get_or_default, first, last}
use Rattle.surf_treecheck.proofs.Steps.{first_at, last_at}
use Rattle.surf_class.proofs.walk.is_round.Goals as goal

pub returns-in-len2-up : goal.returns-in-len2-up
returns-in-len2-up c =
    let list = c.args.list.now in
    let end = length list - 1 in
    let some : 0 < length list = omega (arith, c.in-len2-up.len_at_least) in
    let near : c.first-item.result ≡ first list =
    c.first-item.is ∙ get_or_default list 0 c.first-item.result 0 some ∙ first_at list some in
    let far : c.last-item.result ≡ last list =
    c.last-item.is ∙ get_or_default list end c.last-item.result 0 (omega (arith, some)) ∙ last_at list end (omega (arith, some)) in
    record { round = c.eq.ensures ∙ ap (λ n. eqb n c.last-item.result) near ∙ ap (eqb (first list)) far }
