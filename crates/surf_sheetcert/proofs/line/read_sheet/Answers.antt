use Rattle.surf_cert.proofs.Common.{Some, sym, ap, ◌∙◌, tokens_of, TokenWalk}
use Rattle.surf_sheets.specs.Rows.{SheetRow}
use Rattle.surf_sheetcert.proofs.SheetLines.{sheet_given, sheet_bad, sheet_long}
use Rattle.surf_sheetcert.proofs.line.read_sheet.Goals as goal

pub returns-in_err-margin : goal.returns-in_err-margin
returns-in_err-margin c = record {
  sheet = c.from_residual-in_err-margin.ensures ∙ sheet_bad (tokens_of c.args.line.now) _ _ _ _ _ _ _ _ _ _ _ _
      (ap (λ (w : TokenWalk). w.tokens) (sym c.over-tokens.ensures.tokens) ∙ c.in_ok-next_token.ensures.next) c.in_ok-next_token-2.ensures.next
      c.in_ok-next_token-3.ensures.next c.in_ok-next_token-4.ensures.next c.in_ok-next_token-5.ensures.next c.in_ok-next_token-6.ensures.next
      c.in_err-margin.ensures.number;
}

pub returns-then-is_empty : goal.returns-then-is_empty
returns-then-is_empty c = record {
  sheet = ap (λ (row : SheetRow). Some row) c.make.ensures.row ∙ sheet_given (tokens_of c.args.line.now) _ _ _ _ _ _ _ _ _ _ _ _
      (ap (λ (w : TokenWalk). w.tokens) (sym c.over-tokens.ensures.tokens) ∙ c.in_ok-next_token.ensures.next) c.in_ok-next_token-2.ensures.next
      c.in_ok-next_token-3.ensures.next c.in_ok-next_token-4.ensures.next c.in_ok-next_token-5.ensures.next c.in_ok-next_token-6.ensures.next
      c.in_ok-from.from c.in_ok-to.to c.in_ok-walk.walk c.in_ok-first.first c.in_ok-last.last c.in_ok-margin.margin
      c.in_ok-from.ensures.number c.in_ok-to.ensures.number c.in_ok-walk.ensures.number c.in_ok-first.ensures.number c.in_ok-last.ensures.number
      c.in_ok-margin.ensures.number c.if-is_empty.ensures.empty;
}

pub returns-else-is_empty : goal.returns-else-is_empty
returns-else-is_empty c = record {
  sheet = sheet_long (tokens_of c.args.line.now) _ _ _ _ _ _ _ _ _ _ _ _
      (ap (λ (w : TokenWalk). w.tokens) (sym c.over-tokens.ensures.tokens) ∙ c.in_ok-next_token.ensures.next) c.in_ok-next_token-2.ensures.next
      c.in_ok-next_token-3.ensures.next c.in_ok-next_token-4.ensures.next c.in_ok-next_token-5.ensures.next c.in_ok-next_token-6.ensures.next
      c.if-is_empty.ensures.empty;
}
