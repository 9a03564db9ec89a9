use Rattle.surf_choice.proofs.Common.{◌≡◌, take, length, length-map, ap, ◌∙◌, subst, arith, numbers, List, Spanned, Signed, signatures}
use Rattle.surf_choice.specs.declared.candidate.Candidate.{Candidate}
use Rattle.surf_choice.proofs.Changed.{pass_keys, pass_offered, pass_ended, pass_changes, rows_span_front}
use Rattle.surf_choice.proofs.Fronts.{rows_fresh}
use Rattle.surf_choice.proofs.Sifted.{as_many}
use Rattle.surf_choice.proofs.merging.first_change.Goals as goal

pub spans-requires-clause-count : goal.spans-requires-clause-count
spans-requires-clause-count c =
    let n = as_many c.args.kept.now c.args.rows.now.rows c.requires.rows in
    let many : length c.args.keys.now ≡ length c.args.kept.now =
    ap (λ (xs : List Candidate). length xs) c.requires.keys ∙ length-map c.args.kept.now (λ (s : Signed). s.candidate) in
    let le = c.pass-place.ensures.within.1 in
    omega (arith, n, many, le)

pub loop-fresh-preserved : goal.loop-fresh-preserved
loop-fresh-preserved c =
    let kept = c.args.kept.now in
    let offered = c.args.offered.now in
    let x = c.index-offered-fresh.result in
    let place = c.pass-place.result in
    let fresh = c.loop-fresh.fresh in
    let rows = c.args.rows.now.rows in
    let at = pass_keys kept offered c.args.keys.now c.loop-fresh.place place fresh x c.loop-fresh.invariant
    (rows_fresh rows (signatures kept) c.law_of_echelon.ensures.independent c.requires.rows) c.requires.keys c.loop-fresh-test.true c.index-offered-fresh.is
    c.pass-place.ensures.within.0 c.pass-place.ensures.within.1 c.pass-place.ensures.before c.pass-place.ensures.next in
    let sum : Spanned numbers (take place rows) x.signature =
    subst (Spanned numbers (take place rows)) c.bits.ensures (rw c.if-not-spans.false at c.spans.ensures.sum) in
    pass_offered kept offered place fresh x at.0 c.loop-fresh-test.true c.index-offered-fresh.is at.1
    ((rows_span_front rows kept place x.signature c.requires.rows).0 sum)

pub returns-then-not-spans : goal.returns-then-not-spans
returns-then-not-spans c =
    let kept = c.args.kept.now in
    let offered = c.args.offered.now in
    let x = c.index-offered-fresh.result in
    let place = c.pass-place.result in
    let fresh = c.loop-fresh.fresh in
    let rows = c.args.rows.now.rows in
    let at = pass_keys kept offered c.args.keys.now c.loop-fresh.place place fresh x c.loop-fresh.invariant
    (rows_fresh rows (signatures kept) c.law_of_echelon.ensures.independent c.requires.rows) c.requires.keys c.loop-fresh-test.true c.index-offered-fresh.is
    c.pass-place.ensures.within.0 c.pass-place.ensures.within.1 c.pass-place.ensures.before c.pass-place.ensures.next in
    let free : Spanned numbers (take place rows) x.signature → ⊥ =
    subst (λ n. Spanned numbers (take place rows) n → ⊥) c.bits.ensures (rw c.if-not-spans.true at c.spans.ensures.sum) in
    record {
      change = pass_changes kept offered place fresh x at.0 c.loop-fresh-test.true c.index-offered-fresh.is at.1
          (λ sum. free ((rows_span_front rows kept place x.signature c.requires.rows).1 sum));
    }

pub returns : goal.returns
returns c = record {
  change = pass_ended c.args.kept.now c.args.offered.now c.loop-fresh.place c.loop-fresh.fresh c.loop-fresh.invariant
      (rows_fresh c.args.rows.now.rows (signatures c.args.kept.now) c.law_of_echelon.ensures.independent c.requires.rows) c.loop-fresh-test.false;
}
