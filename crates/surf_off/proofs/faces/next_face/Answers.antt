use Rattle.surf_surfaces.proofs.Common.{◌≤◌, ◌-◌, ℕ, List, length, drop, Ok, sym, ◌∙◌, ap, subst, Option, IfSome, err_from_is_err_and}
use Rattle.std.specs.Borrow.{Bor}
use Rattle.surf_text.specs.Text.{trimmed, uncommented}
use Rattle.surf_text.specs.Walks.{lines_ahead}
use Rattle.surf_off.specs.Plain.{IsPlain, line_before}
use Rattle.surf_off.proofs.PlainLines.{behind_is, plain_ahead, plain_good, plain_bad}
use Rattle.surf_off.proofs.faces.next_face.Goals as goal

pub pass_plain-line-requires : goal.pass_plain-line-requires
pass_plain-line-requires c =
    let w = c.args.lines.now in
    let us = c.read_plain.new.corners.items in
    let behind = c.in-Some.behind.now in
    let read : IsPlain c.args.vertices c.rest.result.now us behind = subst (λ (o : Option (Bor (List ℕ))). IfSome o (λ b. IsPlain c.args.vertices c.rest.result.now us b.now)) c.in-Some.is c.in_ok-behind.ensures.read in
    let plain = subst (λ (text : List ℕ). IsPlain c.args.vertices text us behind) c.rest.ensures.bytes read in
    record { behind = behind_is c.args.vertices (drop w.at w.text) us behind plain }

pub returns-in_err-refuse_repeats-clause-face : goal.returns-in_err-refuse_repeats-clause-face
returns-in_err-refuse_repeats-clause-face c =
    let w = c.args.lines.now in
    let v = c.args.vertices in
    let us = c.read_plain.new.corners.items in
    let behind = c.in-Some.behind.now in
    let n = c.pass_plain-line.result.0 in
    let rest = drop w.at w.text in
    let lines = lines_ahead c.pass_plain-line.new.lines in
    let read : IsPlain v c.rest.result.now us behind = subst (λ (o : Option (Bor (List ℕ))). IfSome o (λ b. IsPlain v c.rest.result.now us b.now)) c.in-Some.is c.in_ok-behind.ensures.read in
    let plain = subst (λ (text : List ℕ). IsPlain v text us behind) c.rest.ensures.bytes read in
    let size : (3 ≤ length us) × (length us ≤ 6000000 - c.args.sides) = subst (λ (o : Option (Bor (List ℕ))). IfSome o (λ b. (3 ≤ length us) × (length us ≤ 6000000 - c.args.sides))) c.in-Some.is c.in_ok-behind.ensures.size in
    let p = err_from_is_err_and c.from_residual-in_err-refuse_repeats.result c.from_residual-in_err-refuse_repeats.ensures.1 in
    rw (p.1, p.2) (λ other. (
      record { number = n; bytes = trimmed (uncommented (line_before rest behind)) },
      lines,
      c.pass_plain-line.ensures.ahead ∙ plain_ahead v rest us behind plain n lines,
      plain_bad v rest us behind plain c.args.sides n c.requires.few size.0 size.1 c.in_err-refuse_repeats.field-0.0 (rw c.deref.ensures.value at (c.in_err-refuse_repeats.ensures.distinct other)),
    ))

pub returns-clause-face : goal.returns-clause-face
returns-clause-face c =
    let w = c.args.lines.now in
    let v = c.args.vertices in
    let us = c.read_plain.new.corners.items in
    let behind = c.in-Some.behind.now in
    let n = c.pass_plain-line.result.0 in
    let rest = drop w.at w.text in
    let lines = lines_ahead c.pass_plain-line.new.lines in
    let read : IsPlain v c.rest.result.now us behind = subst (λ (o : Option (Bor (List ℕ))). IfSome o (λ b. IsPlain v c.rest.result.now us b.now)) c.in-Some.is c.in_ok-behind.ensures.read in
    let plain = subst (λ (text : List ℕ). IsPlain v text us behind) c.rest.ensures.bytes read in
    let size : (3 ≤ length us) × (length us ≤ 6000000 - c.args.sides) = subst (λ (o : Option (Bor (List ℕ))). IfSome o (λ b. (3 ≤ length us) × (length us ≤ 6000000 - c.args.sides))) c.in-Some.is c.in_ok-behind.ensures.size in
    let good = plain_good v rest us behind plain c.args.sides n c.requires.few size.0 size.1 (rw c.deref.ensures.value at c.in_ok-refuse_repeats.ensures.distinct) in (
      record { number = n; bytes = trimmed (uncommented (line_before rest behind)) },
      c.pass_plain-line.ensures.ahead ∙ plain_ahead v rest us behind plain n lines,
      good ∙ ap (λ (colour : List ℕ). Ok (record { corners = us; colour = colour })) (sym c.pass_plain-line.ensures.colour),
    )
