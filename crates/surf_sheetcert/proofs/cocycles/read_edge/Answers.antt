use Rattle.surf_cert.proofs.Common.{ℕ, List, Some, Ok, sym, ap, ◌∙◌, drop, err_from_is_err_and, tokens_of, numbers_of}
use Rattle.surf_cert.proofs.Numbers.{formed_ok}
use Rattle.surf_sheetcert.specs.Lines.{cocycles_among}
use Rattle.surf_sheetcert.proofs.ReadLines.{form_stays, form_given, form_bad}
use Rattle.surf_sheetcert.proofs.cocycles.read_edge.Goals as goal

pub returns-in_err-numbers-clause-edge : goal.returns-in_err-numbers-clause-edge
returns-in_err-numbers-clause-edge c =
    let p = err_from_is_err_and c.from_residual.result c.from_residual.ensures.1 in
    rw (p.1, p.2) (λ other. form_stays (cocycles_among c.args.k c.args.before) (numbers_of (tokens_of c.args.line.now.bytes.now)) c.args.line.now.number
    c.in_err-numbers.field-0.0 (c.in_err-numbers.ensures.numbers other))

pub returns-in-Some-clause-edge : goal.returns-in-Some-clause-edge
returns-in-Some-clause-edge c =
    let tokens = tokens_of c.args.line.now.bytes.now in
    let is = formed_ok c.args.line.now.number (numbers_of tokens) c.in_ok-numbers.numbers.items c.in_ok-numbers.ensures.numbers
    ∙ ap (λ (xs : List ℕ). Some xs) (sym c.deref.ensures.value) in
    form_given (cocycles_among c.args.k c.args.before) (numbers_of tokens) c.args.line.now.number c.deref.result.now
    (c.in-Some.edge, drop 2 c.deref.result.now) is c.in-Some.ensures.edge
    ∙ ap (λ (xs : List ℕ). Ok (c.in-Some.edge, drop 2 xs)) c.deref.ensures.value

pub returns-in-None-clause-edge : goal.returns-in-None-clause-edge
returns-in-None-clause-edge c =
    let tokens = tokens_of c.args.line.now.bytes.now in
    let is = formed_ok c.args.line.now.number (numbers_of tokens) c.in_ok-numbers.numbers.items c.in_ok-numbers.ensures.numbers
    ∙ ap (λ (xs : List ℕ). Some xs) (sym c.deref.ensures.value) in
    λ other. form_bad (cocycles_among c.args.k c.args.before) (numbers_of tokens) c.args.line.now.number c.deref.result.now is c.in-None.ensures.edge
