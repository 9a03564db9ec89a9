use Rattle.surf_cert.proofs.Common.{arith, ◌∙◌, sym, ap, ℕ, List, Option, Ok, nat_tests, common_steps, tokens_of, numbers_of, ok_or, Form}
use Rattle.surf_cert.proofs.Numbers.{cycle_none, cycle_some, formed_ok}
use Rattle.surf_cert.proofs.next.read_cycle.Goals as goal

pub returns-then-is_empty : goal.returns-then-is_empty
returns-then-is_empty c =
    let tokens = tokens_of c.args.line.now.bytes.now in
    let is = formed_ok c.args.line.now.number (numbers_of tokens) c.in_ok-vertices.vertices.items c.in_ok-vertices.ensures.vertices in
    record { cycle = λ other. ap (λ (ns : Option (List ℕ)). ok_or ns (Form c.args.line.now.number)) (cycle_none tokens c.in_ok-vertices.vertices.items is (grind (arith, common_steps, nat_tests))) }

pub returns : goal.returns
returns c =
    let tokens = tokens_of c.args.line.now.bytes.now in
    let is = formed_ok c.args.line.now.number (numbers_of tokens) c.in_ok-vertices.vertices.items c.in_ok-vertices.ensures.vertices in
    record { cycle = ap (λ (ns : Option (List ℕ)). ok_or ns (Form c.args.line.now.number)) (cycle_some tokens c.in_ok-vertices.vertices.items is (grind (arith, common_steps, nat_tests))) ∙ ap (λ (ns : List ℕ). Ok ns) (sym c.from_vertices.ensures) }
