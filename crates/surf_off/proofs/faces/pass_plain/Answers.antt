use Rattle.surf_surfaces.proofs.Common.{◌≡◌, ◌+◌, ◌-◌, ℕ, length, take, drop, ◌∙◌, ap, subst, arith, position_or_len}
use Rattle.surf_text.specs.Text.{is_line_end, tokens_of, trimmed, uncommented, onto_lines}
use Rattle.surf_text.specs.Walks.{lines_ahead, StandsAt}
use Rattle.surf_off.proofs.Places.{behind_line, behind_place}
use Rattle.surf_off.proofs.faces.pass_plain.Goals as goal

pub pass_line-line-requires-clause-line : goal.pass_line-line-requires-clause-line
pass_line-line-requires-clause-line c =
    let w = c.args.lines.now in
    let line = behind_line w.text c.args.behind.now w.at c.place-from.ensures.within c.requires.behind in
    omega (arith, line, ap length c.rest.ensures.bytes, c.first_line-colour.ensures.len)

pub returns : goal.returns
returns c =
    let w = c.args.lines.now in
    let behind = c.args.behind.now in
    let colour = c.first_line-colour.result in
    let rest = drop w.at w.text in
    let before = length c.rest.result.now - length behind in
    let start : w.at + (length rest - length behind + colour.start) ≡ c.place-from.result + (before + colour.start) = omega (arith, c.place-from.ensures.place, ap length c.rest.ensures.bytes) in
    let place = subst (λ (k : ℕ). StandsAt w.text colour.bytes.now k) start (behind_place w.text behind w.at c.place-from.ensures.within c.requires.behind colour.bytes.now colour.start c.first_line-colour.ensures.place) in
    let len : before + colour.len ≡ length rest - length behind + position_or_len is_line_end behind = omega (arith, ap length c.rest.ensures.bytes, c.first_line-colour.ensures.len) in
    record {
      text = c.pass_line-line.ensures.text;
      within = place.within;
      colour = place.same ∙ c.first_line-colour.ensures.bytes;
      ahead = c.pass_line-line.ensures.ahead ∙ ap (λ (k : ℕ). onto_lines (record { number = c.pass_line-line.result; bytes = trimmed (uncommented (take k rest)) }) (tokens_of (take k rest)) (lines_ahead c.pass_line-line.new.self)) len;
    }
