use Rattle.std.proofs.Common.{◌≡◌, ◌<◌, ◌+◌, ◌-◌, [], length, take, drop, refl, sym, ◌∙◌, ap, subst, arith}
use Rattle.std.specs.List.{before_first, position_or_len}
use Rattle.surf_text.specs.Text.{is_line_end, trimmed, uncommented}
use Rattle.surf_text.specs.Walks.{PlacedWalk, lines_ahead, StandsAt}
use Rattle.surf_text.proofs.Ahead.{first_len, first_bytes, none_ahead}
use Rattle.surf_text.proofs.Spans.{behind_place}
use Rattle.surf_text.proofs.Words.{line_empty, line_there}
use Rattle.surf_text.proofs.placed.PlacedLines.next_line.Goals as goal

pub pass_line-number-requires : goal.pass_line-number-requires
pass_line-number-requires c =
    let w = c.loop-self.self in
    let l = c.first_line-line.result in
    let len = subst (λ (w : PlacedWalk). l.len ≡ position_or_len is_line_end (take (length w.text - w.at) (drop w.at w.text))) c.self.view_is c.first_line-line.ensures.len in
    record { inside = subst (λ (w : PlacedWalk). w.at < length w.text) c.self.view_is c.loop-self-test.true; line = first_len w.text w.at l.len len }

pub loop-self-init : goal.loop-self-init
loop-self-init c = record { text = refl; same = refl }

pub returns-then-not-is_empty : goal.returns-then-not-is_empty
returns-then-not-is_empty c =
    let w = c.loop-self.self in
    let l = c.first_line-line.result in
    let len = subst (λ (w : PlacedWalk). l.len ≡ position_or_len is_line_end (take (length w.text - w.at) (drop w.at w.text))) c.self.view_is c.first_line-line.ensures.len in
    let has = subst (λ (w : PlacedWalk). l.bytes.now ≡ trimmed (uncommented (before_first is_line_end (take (length w.text - w.at) (drop w.at w.text))))) c.self.view_is c.first_line-line.ensures.bytes in
    let there = line_there c.pass_line-number.result (take l.len (drop w.at w.text)) l.bytes.now (lines_ahead c.pass_line-number.new.self) (first_bytes w.text l.bytes.now w.at l.len len has) (sym c.is_empty.ensures ∙ c.if-not-is_empty.true) in
    let text = c.self.inside.text.now in
    let at = c.self.inside.at in
    let place : StandsAt text l.bytes.now (at + l.start) = behind_place text l.bytes.now at l.start (omega (arith, c.loop-self-test.true)) c.first_line-line.ensures.place in
    record {
      next = sym c.loop-self.invariant.same ∙ c.pass_line-number.ensures.ahead ∙ there;
      text = c.pass_line-number.ensures.text ∙ c.loop-self.invariant.text;
      place = subst (λ t. StandsAt t l.bytes.now (at + l.start)) (ap (λ (w : PlacedWalk). w.text) c.self.view_is ∙ c.loop-self.invariant.text) place;
      short = omega (arith, c.self.invariant, ap length (ap (λ (w : PlacedWalk). w.text) c.self.view_is), ap length c.loop-self.invariant.text);
    }

pub loop-self-smaller : goal.loop-self-smaller
loop-self-smaller c =
    let inside = subst (λ (w : PlacedWalk). w.at < length w.text) c.self.view_is c.loop-self-test.true in
    omega (arith, c.pass_line-number.ensures.onward, ap length c.pass_line-number.ensures.text, inside)

pub loop-self-preserved : goal.loop-self-preserved
loop-self-preserved c =
    let w = c.loop-self.self in
    let l = c.first_line-line.result in
    let len = subst (λ (w : PlacedWalk). l.len ≡ position_or_len is_line_end (take (length w.text - w.at) (drop w.at w.text))) c.self.view_is c.first_line-line.ensures.len in
    let has = subst (λ (w : PlacedWalk). l.bytes.now ≡ trimmed (uncommented (before_first is_line_end (take (length w.text - w.at) (drop w.at w.text))))) c.self.view_is c.first_line-line.ensures.bytes in
    let none = line_empty c.pass_line-number.result (take l.len (drop w.at w.text)) l.bytes.now (lines_ahead c.pass_line-number.new.self) (first_bytes w.text l.bytes.now w.at l.len len has) (sym c.is_empty.ensures ∙ c.if-not-is_empty.false) in
    record {
      text = c.pass_line-number.ensures.text ∙ c.loop-self.invariant.text;
      same = sym (c.pass_line-number.ensures.ahead ∙ none) ∙ c.loop-self.invariant.same;
    }

pub returns : goal.returns
returns c =
    let none = subst (λ (w : PlacedWalk). lines_ahead w ≡ []) c.self.view_is (none_ahead c.self.inside.text.now c.self.inside.at _ c.loop-self-test.false) in
    record {
      next = (sym c.loop-self.invariant.same ∙ none, none);
      text = c.loop-self.invariant.text;
      place = tt;
      short = omega (arith, c.self.invariant, ap length (ap (λ (w : PlacedWalk). w.text) c.self.view_is), ap length c.loop-self.invariant.text);
    }
