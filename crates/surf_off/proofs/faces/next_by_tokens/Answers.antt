use Rattle.std.proofs.Common.{◌≡◌, ℕ, List, drop, ◌∙◌, ap, sym, Ok, arith}
use Rattle.surf_text.specs.Walks.{placed_line, lines_ahead}
use Rattle.surf_off.proofs.CleanParts.{face_colour}
use Rattle.surf_off.proofs.Places.{clean_ahead, rest_drop, end_fits, end_place}
use Rattle.surf_off.proofs.faces.next_by_tokens.Goals as goal

pub overflow_sub-result : goal.overflow_sub-result
overflow_sub-result c =
    let line = c.in-Some.line in
    let clean = clean_ahead c.args.lines.now (placed_line line) (lines_ahead c.next_line.new.self) c.in-Some.ensures.next in
    let end = (face_colour (λ part. (n : ℕ) × (part ≡ drop n line.bytes.now)) _ c.args.vertices c.args.sides (placed_line line) (λ k. rest_drop k line.bytes.now clean)).colour _ c.in_ok-colour.ensures.face in
    omega (arith, end_fits line.bytes.now c.in_ok-colour.colour.now end.0 end.1)

pub overflow_cast-result-2 : goal.overflow_cast-result-2
overflow_cast-result-2 c =
    let line = c.in-Some.line in
    let clean = clean_ahead c.args.lines.now (placed_line line) (lines_ahead c.next_line.new.self) c.in-Some.ensures.next in
    let end = (face_colour (λ part. (n : ℕ) × (part ≡ drop n line.bytes.now)) _ c.args.vertices c.args.sides (placed_line line) (λ k. rest_drop k line.bytes.now clean)).colour _ c.in_ok-colour.ensures.face in
    omega (arith, end_fits line.bytes.now c.in_ok-colour.colour.now end.0 end.1, c.in-Some.ensures.place.within, c.in-Some.ensures.short)

pub returns : goal.returns
returns c =
    let line = c.in-Some.line in
    let colour = c.in_ok-colour.colour.now in
    let clean = clean_ahead c.args.lines.now (placed_line line) (lines_ahead c.next_line.new.self) c.in-Some.ensures.next in
    let end = (face_colour (λ part. (n : ℕ) × (part ≡ drop n line.bytes.now)) _ c.args.vertices c.args.sides (placed_line line) (λ k. rest_drop k line.bytes.now clean)).colour _ c.in_ok-colour.ensures.face in
    let place = end_place c.args.lines.now.text line.bytes.now colour line.start end.0 c.in-Some.ensures.place end.1 in
    let good = c.in_ok-colour.ensures.face ∙ ap (λ (part : List ℕ). Ok (record { corners = c.read_by_tokens.new.corners.items; colour = part })) (sym place.same) in
    record {
      face = (placed_line line, c.in-Some.ensures.next, good);
      text = c.next_line.ensures.text;
      within = place.within;
      corners = c.in_ok-colour.ensures.corners;
      few = c.in_ok-colour.ensures.few;
      marks = c.in_ok-colour.ensures.marks;
    }
