use Rattle.std.proofs.Common.{◌≡◌, ◌++◌, ◌∷◌, [], ap, ◌∙◌, rules}
use Rattle.surf_soup.proofs.Order.{range_more}
use Rattle.surf_soup.proofs.forest.lone_numbers.Goals as goal

pub loop-number-preserved : goal.loop-number-preserved
loop-number-preserved c =
    let n = c.loop-number.number in
    let items : c.push.new.self.items ≡ c.loop-number.parents.items ++ n ∷ [] = search rules in
    items ∙ ap (λ xs. xs ++ n ∷ []) c.loop-number.invariant ∙ range_more n
