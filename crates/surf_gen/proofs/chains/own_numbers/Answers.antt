use Rattle.surf_surfaces.proofs.Common.{◌≡◌, ◌+◌, [], ◌∷◌, ◌++◌, ap, ◌∙◌, arith, range_with_len}
use Rattle.surf_tori.proofs.TorusLaws.{range_more}
use Rattle.surf_gen.proofs.chains.own_numbers.Goals as goal

pub loop-v-preserved : goal.loop-v-preserved
loop-v-preserved c =
    let v = c.loop-v.v in
    let more : range_with_len 0 (v + 1) ≡ range_with_len 0 v ++ v ∷ [] =
    range_more 0 v ∙ ap (λ n. range_with_len 0 v ++ n ∷ []) (omega arith) in
    cc (more, c.in_ok-push.ensures.items, c.new.ensures)
