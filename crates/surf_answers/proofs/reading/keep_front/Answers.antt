use Rattle.surf_surfaces.proofs.Common.{◌≡◌, ◌≤◌, ℕ, List, length, take, sym, ◌∙◌, subst, length-take-le}
use Rattle.surf_off.specs.Places.{AreWithin}
use Rattle.surf_answers.proofs.reading.keep_front.Goals as goal

pub returns-clause-within : goal.returns-clause-within
returns-clause-within c =
    let text = c.args.bytes.now.items in
    let kept = c.shrink_to_fit.new.self.items in
    let kept_is : kept ≡ take c.front.result text = c.shrink_to_fit.ensures.items ∙ c.truncate.ensures.items in
    subst (λ (t : List ℕ). AreWithin (length t) c.args.places.now) (sym kept_is) (c.front.ensures.within text c.requires.within)

pub returns-clause-least : goal.returns-clause-least
returns-clause-least c = λ n inside.
    let text = c.args.bytes.now.items in
    let kept = c.shrink_to_fit.new.self.items in
    let kept_is : kept ≡ take c.front.result text = c.shrink_to_fit.ensures.items ∙ c.truncate.ensures.items in
    let far : c.front.result ≤ n = c.front.ensures.least n inside in
    let all : c.front.result ≤ length text = c.front.ensures.least (length text) c.requires.within in
    rw (kept_is, length-take-le c.front.result text all) far
