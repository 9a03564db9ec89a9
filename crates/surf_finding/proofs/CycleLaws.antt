-- The texts of cycles.
use Rattle.surf_answers.proofs.Common.{◌≡◌, List, [], ◌∷◌, ◌++◌, length, map, refl, ap, ◌∙◌, arith, sum, flat_map}
use Rattle.surf_answers.proofs.Common.{measured_line, total_lines, measured_text}
use Rattle.surf_basis.specs.Cycles.{as_loops}
use Rattle.surf_basis.specs.declared.cycle.Cycle.{Cycle}
use Rattle.surf_finding.specs.CycleTexts.{cycle_found_line}

pub as_long : (cs : List Cycle) → map (λ c. c.size) (as_loops cs) ≡ map (λ c. c.length) cs
as_long [] = refl
as_long (c ∷ cs) = ap (λ xs. c.length ∷ xs) (as_long cs)

as_many : (cs : List Cycle) → length (as_loops cs) ≡ length cs
as_many [] = refl
as_many (c ∷ cs) = let rest = as_many cs in omega (arith, rest)

same_lines : (cs : List Cycle) → flat_map (λ c. measured_line "cycle " c.size c.walk) (as_loops cs) ≡ flat_map cycle_found_line cs
same_lines [] = refl
same_lines (c ∷ cs) = ap (λ xs. cycle_found_line c ++ xs) (same_lines cs)

pub text_of_cycles : (cs : List Cycle) → (measured_text "cycles " "cycle ") (as_loops cs) ≡ total_lines "cycles " (length cs) (sum (map (λ c. c.length) cs)) ++ flat_map cycle_found_line cs
text_of_cycles cs =
    ap (λ n. total_lines "cycles " n (sum (map (λ c. c.size) (as_loops cs))) ++ flat_map (λ c. measured_line "cycle " c.size c.walk) (as_loops cs)) (as_many cs)
    ∙ ap (λ xs. total_lines "cycles " (length cs) (sum xs) ++ flat_map (λ c. measured_line "cycle " c.size c.walk) (as_loops cs)) (as_long cs)
    ∙ ap (λ xs. total_lines "cycles " (length cs) (sum (map (λ c. c.length) cs)) ++ xs) (same_lines cs)
