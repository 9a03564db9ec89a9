use Rattle.surf_finder.proofs.Common.{◌≡◌, Some, length, sym, ap, ◌∙◌, arith, on_ok_weaker}
use Rattle.surf_finder.proofs.Keyed.{listed_stands, listed_null, listed_pushed}
use Rattle.surf_finder.proofs.told_loops.add_loop.Goals as goal

pub returns-in-Met-Some : goal.returns-in-Met-Some
returns-in-Met-Some c =
    let place_is = c.in-Met-Some.field-0-is ∙ ap Some (sym c.in-Met-Some.k-is) in
    let took = c.take_first.ensures in
    let (listed, kept, here) = listed_stands c.args.reached.now c.args.ties c.args.limit.now c.args.found.now.items c.args.keys.now
    c.args.rise.now.edge c.key_of-key.result c.candidate_of-candidate.result c.requires.listed c.key_of-key.ensures.key
    c.deref.result.now c.in-Met-Some.field-0 _ c.index_mut.result.now c.take_first.new.listed c.deref.ensures.value
    c.in-Met-Some.ensures.standing place_is c.index_mut.ensures.value c.requires.rise.edge_in c.requires.between
    c.candidate_of-candidate.ensures.told (sym c.if-not-is_sought.ensures.sought) took.rest took.either took.first took.old_first in
    record { listed = listed; kept = kept; here = λ on. here }

pub returns-in-Null-clause-listed : goal.returns-in-Null-clause-listed
returns-in-Null-clause-listed c =
    on_ok_weaker c.note.result
    (λ push. listed_null c.args.reached.now c.args.ties c.args.limit.now c.args.found.now.items c.args.keys.now c.args.rise.now.edge
    c.key_of-key.result c.candidate_of-candidate.result c.requires.listed c.key_of-key.ensures.key c.note.new.self push c.in-Null.ensures.standing)
    c.note.ensures.noted

pub returns-in_ok-push-in-New : goal.returns-in_ok-push-in-New
returns-in_ok-push-in-New c =
    let many : c.len.result ≡ length c.args.found.now.items = omega (arith, c.len.ensures, c.args.found.now.ok) in
    let (listed, kept, here) = listed_pushed c.args.reached.now c.args.ties c.args.limit.now c.args.found.now.items c.args.keys.now
    c.args.rise.now.edge c.key_of-key.result c.candidate_of-candidate.result c.requires.listed c.key_of-key.ensures.key
    c.push.new.self.items c.base.result _ c.len.result c.note-in-New.new.self c.in_ok-push-in-New.ensures.items
    c.in_ok-note-in-New.ensures.noted many c.in-New.ensures.standing c.requires.rise.edge_in c.requires.between
    c.candidate_of-candidate.ensures.told (sym c.if-not-is_sought.ensures.sought) c.base.ensures.base in
    record { listed = listed; kept = kept; here = λ on. here }
