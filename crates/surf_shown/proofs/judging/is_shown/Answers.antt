use Rattle.surf_surfaces.proofs.Common.{arith, refl}
use Rattle.surf_shown.proofs.Judged.{first_more, shown_begun}
use Rattle.surf_shown.proofs.judging.is_shown.Goals as goal

pub show_records-requires-clause-least : goal.show_records-requires-clause-least
show_records-requires-clause-least c = λ v l.
    let here = c.fill.ensures.clones v 0 (omega (arith, l)) refl in
    omega (arith, here)

pub show_records-requires-clause-shown : goal.show_records-requires-clause-shown
show_records-requires-clause-shown c =
    shown_begun c.args.claim.now c.args.from c.fill.new.self
    (λ v l. c.fill.ensures.clones v 0 (let count = c.requires.count in omega (arith, l, count)) refl) c.requires.first

pub returns-clause-first : goal.returns-clause-first
returns-clause-first c = λ on.
    first_more c.args.claim.now c.args.round.now.labels c.args.from c.args.round.now.end c.show_records.new.ends
    c.law_of_surface.ensures.surface c.requires.first c.show_records.ensures.shown (c.are_served.ensures.served on)
