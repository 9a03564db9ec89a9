use Rattle.surf_surfaces.proofs.Common.{◌≡◌, ◌-◌, length, get_or, ◌∙◌, arith, get_or_default, first, last}
use Rattle.surf_certcheck.proofs.Bases.{same_tells}
use Rattle.surf_treecheck.proofs.Steps.{first_at, last_at}
use Rattle.surf_certcheck.proofs.cycles.is_round.Goals as goal

pub returns : goal.returns
returns c =
    let list = c.args.list.now in
    let end = length list - 1 in
    let near : c.index-list-0.result ≡ get_or list 0 0 =
    c.index-list-0.is ∙ get_or_default list 0 c.index-list-0.result 0 c.requires.some in
    let far : c.index-list-list.result ≡ get_or list end 0 =
    c.index-list-list.is ∙ get_or_default list end c.index-list-list.result 0 (omega (arith, c.requires.some)) in
    record {
      round = same_tells c.eq.result c.index-list-0.result c.index-list-list.result (first list) (last list) c.eq.ensures
          (near ∙ first_at list c.requires.some) (far ∙ last_at list end (omega (arith, c.requires.some)));
    }
