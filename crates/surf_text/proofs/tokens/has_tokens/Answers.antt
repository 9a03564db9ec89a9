use Rattle.std.proofs.Common.{◌≡◌, false, sym, ◌∙◌, ap, get_or, arith, inl, inr, not}
use Rattle.std.specs.Prelude.{nat_le}
use Rattle.surf_text.specs.Text.{is_blank, is_comment_sign}
use Rattle.surf_text.proofs.Counting.{count_is, count_stops, count_ends, some_missing, still_missing, still_within, first_within, last_found, at_space, one_found, none_left}
use Rattle.surf_text.proofs.tokens.has_tokens.Goals as goal
use Rattle.surf_text.proofs.tokens.has_tokens.Goals.{then-dark+then-not-inside, else-dark, else-dark-via-then-dark+else-not-inside, else-dark-via-else-dark}

pub loop-b-init : goal.loop-b-init
loop-b-init c = ap (λ n. nat_le c.args.least n) (count_is c.args.line.now)

pub returns-then-is_comment_sign : goal.returns-then-is_comment_sign
returns-then-is_comment_sign c =
    let l = c.loop-b in
    let none = count_stops c.args.line.now l.b-index c.loop-b-test.true l.inside (sym c.is_comment_sign.ensures.sign ∙ c.if-is_comment_sign.true) in
    record { count = some_missing l.missing c.if-missing-eq0.false ∙ ap (nat_le l.missing) (sym none) ∙ l.invariant }

pub loop-b-preserved-then-inside : goal.loop-b-preserved-then-inside
loop-b-preserved-then-inside c =
    let l = c.loop-b in
    still_within c.args.line.now l.b-index l.missing l.inside c.loop-b-test.true c.if-b-gt35.true c.if-inside.true ∙ l.invariant

pub returns-then-missing-le1 : goal.returns-then-missing-le1
returns-then-missing-le1 c =
    let l = c.loop-b in
    record { count = last_found c.args.line.now l.b-index l.missing l.inside c.loop-b-test.true c.if-b-gt35.true c.if-inside.false c.if-missing-le1.true ∙ l.invariant }

pub loop-b-preserved-then-b-gt35 : goal.loop-b-preserved-then-b-gt35
loop-b-preserved-then-b-gt35 c =
    let l = c.loop-b in
    first_within c.args.line.now l.b-index l.missing l.inside c.loop-b-test.true c.if-b-gt35.true c.if-inside.false (omega (arith, c.if-missing-le1.false)) ∙ l.invariant

pub loop-b-preserved-then-b-eq32 : goal.loop-b-preserved-then-b-eq32
loop-b-preserved-then-b-eq32 c =
    let l = c.loop-b in
    at_space c.args.line.now l.b-index l.missing l.inside c.loop-b-test.true c.if-b-eq32.true ∙ l.invariant

pub loop-b-preserved : goal.loop-b-preserved
loop-b-preserved c =
    let line = c.args.line.now in
    let l = c.loop-b in
    let i = l.b-index in
    let dark = not c.is_blank-dark.result in
    let plain : is_comment_sign (get_or line i 0) ≡ false = sym c.is_comment_sign.ensures.sign ∙ c.if-is_comment_sign.false in
    let tested : dark ≡ not (is_blank (get_or line i 0)) = ap not c.is_blank-dark.ensures.blank in
    let still = still_missing line i l.missing l.inside dark c.loop-b-test.true plain tested in
    elim c.if-dark.branch [
      | then-dark+then-not-inside w ↦
          rw (w.missing-is, w.inside-is) (one_found line i l.missing l.inside dark c.loop-b-test.true plain tested c.if-missing-eq0.false (ap not w.if-dark.true) w.if-not-inside.true ∙ l.invariant)
      | else-dark w ↦ elim w.else-dark.branch [
        | else-dark-via-then-dark+else-not-inside w' ↦ rw (w.missing-is, w.inside-is) (still (inr (ap not w'.if-dark.true, w'.if-not-inside.false)) ∙ l.invariant)
        | else-dark-via-else-dark w' ↦ rw (w.missing-is, w.inside-is) (still (inl (ap not w'.if-dark.false)) ∙ l.invariant)
      ]
    ]

pub returns : goal.returns
returns c =
    let l = c.loop-b in
    record { count = none_left l.missing ∙ ap (nat_le l.missing) (sym (count_ends c.args.line.now l.b-index l.inside c.loop-b-test.false)) ∙ l.invariant }
