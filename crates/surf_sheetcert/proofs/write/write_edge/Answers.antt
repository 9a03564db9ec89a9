use Rattle.surf_cert.proofs.Common.{ℕ, List, ◌++◌, refl, subst, codes, decimal, err_from_is_err_and, Puts, puts_more, puts_stop, numbers_text}
use Rattle.surf_sheetcert.proofs.WrittenRows.{edge_text}
use Rattle.surf_sheetcert.proofs.write.write_edge.Goals as goal

-- the text of both ends
abbrev ends_text : ℕ × ℕ → List ℕ
ends_text edge = decimal edge.0 ++ (codes " " ++ decimal edge.1)

pub returns-in_err-write_ends : goal.returns-in_err-write_ends
returns-in_err-write_ends c =
    let r = c.from_residual.result in
    let p = err_from_is_err_and r c.from_residual.ensures.1 in
    record {
      puts = subst (λ (t : List ℕ). Puts c.args.page.now c.write_ends.new.page t r) (edge_text c.args.edge c.args.numbers.now)
          (puts_stop c.args.page.now c.write_ends.new.page (ends_text c.args.edge) (numbers_text c.args.numbers.now ++ codes "\n") c.write_ends.result c.in_err-write_ends.field-0.0 r c.in_err-write_ends.was (rw (p.1, p.2) refl) c.write_ends.ensures.puts);
    }

pub returns-in_err-write_numbers : goal.returns-in_err-write_numbers
returns-in_err-write_numbers c =
    let r = c.from_residual-in_err-write_numbers.result in
    let p = err_from_is_err_and r c.from_residual-in_err-write_numbers.ensures.1 in
    record {
      puts = subst (λ (t : List ℕ). Puts c.args.page.now c.write_numbers.new.page t r) (edge_text c.args.edge c.args.numbers.now)
          (puts_more c.args.page.now c.write_ends.new.page c.write_numbers.new.page (ends_text c.args.edge) (numbers_text c.args.numbers.now ++ codes "\n") c.write_ends.result c.in_ok-write_ends.field-0 r c.in_ok-write_ends.was c.write_ends.ensures.puts
          (puts_stop c.write_ends.new.page c.write_numbers.new.page (numbers_text c.args.numbers.now) (codes "\n") c.write_numbers.result c.in_err-write_numbers.field-0.0 r c.in_err-write_numbers.was (rw (p.1, p.2) refl) c.write_numbers.ensures.puts));
    }

pub returns : goal.returns
returns c =
    let r = c.push_bytes.result in
    record {
      puts = subst (λ (t : List ℕ). Puts c.args.page.now c.push_bytes.new.self t r) (edge_text c.args.edge c.args.numbers.now)
          (puts_more c.args.page.now c.write_ends.new.page c.push_bytes.new.self (ends_text c.args.edge) (numbers_text c.args.numbers.now ++ codes "\n") c.write_ends.result c.in_ok-write_ends.field-0 r c.in_ok-write_ends.was c.write_ends.ensures.puts
          (puts_more c.write_ends.new.page c.write_numbers.new.page c.push_bytes.new.self (numbers_text c.args.numbers.now) (codes "\n") c.write_numbers.result c.in_ok-write_numbers.field-0 r c.in_ok-write_numbers.was c.write_numbers.ensures.puts
          c.push_bytes.ensures.puts));
    }
