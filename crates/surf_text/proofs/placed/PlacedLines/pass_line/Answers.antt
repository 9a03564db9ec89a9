use Rattle.std.proofs.Common.{◌≡◌, ◌<◌, ◌+◌, length, drop, sym, subst, arith}
use Rattle.std.specs.List.{position_or_len}
use Rattle.surf_text.specs.Text.{is_line_end}
use Rattle.surf_text.specs.Walks.{PlacedWalk}
use Rattle.surf_text.proofs.Ahead.{line_passed, line_fits}
use Rattle.surf_text.proofs.placed.PlacedLines.pass_line.Goals as goal

pub overflow_add-self-inside : goal.overflow_add-self-inside
overflow_add-self-inside c =
    let s = c.self.inside in
    let inside = subst (λ (w : PlacedWalk). w.at < length w.text) (sym c.self.view_is) c.requires.inside in
    let line = subst (λ (w : PlacedWalk). position_or_len is_line_end (drop w.at w.text) ≡ c.args.len) (sym c.self.view_is) c.requires.line in
    omega (arith, line_fits s.text.now s.at c.args.len inside line)

pub overflow_add-self-inside-2 : goal.overflow_add-self-inside-2
overflow_add-self-inside-2 c =
    let s = c.self.inside in
    let inside = subst (λ (w : PlacedWalk). w.at < length w.text) (sym c.self.view_is) c.requires.inside in
    let line = subst (λ (w : PlacedWalk). position_or_len is_line_end (drop w.at w.text) ≡ c.args.len) (sym c.self.view_is) c.requires.line in
    omega (arith, line_fits s.text.now s.at c.args.len inside line)

pub returns-clause-ahead : goal.returns-clause-ahead
returns-clause-ahead c =
    let s = c.self.inside in
    let inside = subst (λ (w : PlacedWalk). w.at < length w.text) (sym c.self.view_is) c.requires.inside in
    let line = subst (λ (w : PlacedWalk). position_or_len is_line_end (drop w.at w.text) ≡ c.args.len) (sym c.self.view_is) c.requires.line in
    rw (← c.self.view_is) (line_passed s.text.now s.at (s.number + 1) c.args.len _ inside line c.min-self-inside.ensures)
