use Rattle.surf_surfaces.proofs.Common.{◌+◌, ◌≡◌, ◌++◌, ◌∷◌, [], ap, sym, ◌∙◌, rules, arith, range_with_len, map-id, map-range_with_len_more}
use Rattle.surf_certcheck.proofs.sums.all_vertices.Goals as goal

pub loop-v-preserved : goal.loop-v-preserved
loop-v-preserved c =
    let n = c.loop-v.v in
    let items : c.push.new.self.items ≡ c.loop-v.all.items ++ n ∷ [] = search rules in
    let more = map-range_with_len_more (λ x. x) 0 n n (omega arith) in
    items ∙ ap (λ xs. xs ++ n ∷ []) (c.loop-v.invariant ∙ sym (map-id (range_with_len 0 n))) ∙ sym more ∙ map-id (range_with_len 0 (n + 1))
