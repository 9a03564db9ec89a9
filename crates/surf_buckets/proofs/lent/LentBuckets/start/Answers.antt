use Rattle.std.proofs.Common.{ℕ, ◌<◌, ◌≡◌, get_or, length, ap, arith, refl}
use Rattle.surf_buckets.specs.Circles.{nothing}
use Rattle.surf_buckets.specs.Lent.{LentTables}
use Rattle.surf_buckets.proofs.LentViews.{begins}
use Rattle.surf_buckets.proofs.lent.LentBuckets.start.Goals as goal

pub returns-clause-filing : goal.returns-clause-filing
returns-clause-filing c =
    let b = c.self.inside in
    let places_is = ap (λ (t : LentTables). t.places) c.self.view_is in
    let free : (p : ℕ) → p < b.places → get_or c.fill.new.self p 0 ≡ nothing = λ p l. c.fill.ensures.clones p 0 (omega (arith, places_is, c.requires.room)) refl in
    (begins c.lay_out.new.links.items b.places c.fill.new.self c.self.invariant.0 (omega (arith, places_is, c.requires.room)) c.lay_out.ensures.alone free).filing

pub returns-clause-waiting : goal.returns-clause-waiting
returns-clause-waiting c =
    let b = c.self.inside in
    let places_is = ap (λ (t : LentTables). t.places) c.self.view_is in
    let free : (p : ℕ) → p < b.places → get_or c.fill.new.self p 0 ≡ nothing = λ p l. c.fill.ensures.clones p 0 (omega (arith, places_is, c.requires.room)) refl in
    let long : length c.fill.new.self ≡ length c.args.keys.now = omega arith in
    rw (← long) (begins c.lay_out.new.links.items b.places c.fill.new.self c.self.invariant.0 (omega (arith, places_is, c.requires.room)) c.lay_out.ensures.alone free).waits

pub returns-clause-settled : goal.returns-clause-settled
returns-clause-settled c =
    let b = c.self.inside in
    let places_is = ap (λ (t : LentTables). t.places) c.self.view_is in
    let free : (p : ℕ) → p < b.places → get_or c.fill.new.self p 0 ≡ nothing = λ p l. c.fill.ensures.clones p 0 (omega (arith, places_is, c.requires.room)) refl in
    let long : length c.fill.new.self ≡ length c.args.keys.now = omega arith in
    rw (← long) (begins c.lay_out.new.links.items b.places c.fill.new.self c.self.invariant.0 (omega (arith, places_is, c.requires.room)) c.lay_out.ensures.alone free).settles
