use Rattle.std.proofs.Common.{◌≡◌, List, ℕ, refl, subst, sym, arith}
use Rattle.std.proofs.lemmas.List.{with_items_is}
use Rattle.surf_buckets.specs.Lent.{IsFiling, LentTables}
use Rattle.surf_buckets.proofs.LentViews.{tables, TakesNone, TakesOne, takes_none, takes_one}
use Rattle.surf_buckets.proofs.lent.LentBuckets.take_least.Goals as goal

-- nothing is taken of what the tables are seen as
none : (c : goal.In-None) {t : LentTables} (keys : List ℕ) → tables c.self.inside.links.items c.self.inside.places c.self.inside.now c.self.inside.last ≡ t → IsFiling t keys → TakesNone t keys
none c keys is f =
    let b = c.self.inside in
    subst (λ t. TakesNone t keys) is (takes_none b.links.items b.places b.now b.last keys (subst (λ t. IsFiling t keys) (sym is) f) (rw c.deref.ensures.value at c.in-None.ensures))

pub returns-in-None-clause-taken : goal.returns-in-None-clause-taken
returns-in-None-clause-taken c = λ keys f. ((none c keys c.self.view_is f).empty, refl)

pub returns-in-None-clause-settled : goal.returns-in-None-clause-settled
returns-in-None-clause-settled c = λ keys f. let all = (none c keys c.self.view_is f).settles in (all, all)

-- the nearest is taken of them
one : (c : goal.After-self-in-Some-1) {t : LentTables} (keys : List ℕ) → tables c.self.inside.links.items c.self.inside.places c.self.inside.now c.self.inside.last ≡ t → IsFiling t keys →
    TakesOne t (tables c.settle.new.links c.self.inside.places c.in-Some.key c.self.inside.last) keys c.in-Some.place c.in-Some.key
one c keys is f =
    let b = c.self.inside in
    let new = c.settle.new.links in
    let inner = subst (λ t. IsFiling t keys) (sym is) f in
    let settle = rw c.deref_mut.ensures.value at c.settle.ensures in
    subst (λ t. TakesOne t (tables new b.places c.in-Some.key b.last) keys c.in-Some.place c.in-Some.key) is
    (takes_one b.links.items b.places b.now b.last keys inner new c.in-Some.place c.in-Some.key (rw c.deref.ensures.value at c.in-Some.ensures)
    (settle.circles keys inner.circles) (settle.waiting keys inner.circles) (settle.settled keys inner.circles))

pub returns-in-Some-clause-filing : goal.returns-in-Some-clause-filing
returns-in-Some-clause-filing c = λ keys f. rw (with_items_is c.self.inside.links c.settle.new.links (omega arith)) (one c keys c.self.view_is f).filing

pub returns-in-Some-clause-taken : goal.returns-in-Some-clause-taken
returns-in-Some-clause-taken c = λ keys f.
    let all = one c keys c.self.view_is f in
    rw (with_items_is c.self.inside.links c.settle.new.links (omega arith)) (all.nearest, all.gone)

pub returns-in-Some-clause-settled : goal.returns-in-Some-clause-settled
returns-in-Some-clause-settled c = λ keys f. rw (with_items_is c.self.inside.links c.settle.new.links (omega arith)) (one c keys c.self.view_is f).settles
