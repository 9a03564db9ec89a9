use Rattle.surf_cert.proofs.Common.{◌≡◌, ℕ, List, ◌++◌, refl, ◌∙◌, subst, codes, decimal, get_or, drop, err_from_is_err_and, take_rest, Puts, puts_more, puts_stop, numbers_text, cycle_line}
use Rattle.surf_cert.proofs.WrittenRows.{cycle_first}
use Rattle.surf_cert.proofs.write.write_cycle.Goals as goal

pub returns-in_err-push_whole : goal.returns-in_err-push_whole
returns-in_err-push_whole c =
    let v = get_or c.args.vertices.now 0 c.index-vertices-0.result in
    let vs = drop 1 c.args.vertices.now in
    let is : decimal v ++ (numbers_text vs ++ codes "\n") ≡ cycle_line c.args.vertices.now = cycle_first c.args.vertices.now c.index-vertices-0.result c.requires.some in
    let r = c.from_residual.result in
    let p = err_from_is_err_and r c.from_residual.ensures.1 in
    record { puts = subst (λ (t : List ℕ). Puts c.args.page.now c.push_whole.new.self t r) is (puts_stop c.args.page.now c.push_whole.new.self (decimal v) ((numbers_text vs) ++ (codes "\n")) c.push_whole.result c.in_err-push_whole.field-0.0 r c.in_err-push_whole.was (rw (p.1, p.2) refl) (subst (λ (n : ℕ). Puts c.args.page.now c.push_whole.new.self (decimal n) c.push_whole.result) (c.index.ensures ∙ c.index-vertices-0.is) c.push_whole.ensures.puts)) }

pub returns-in_err-write_numbers : goal.returns-in_err-write_numbers
returns-in_err-write_numbers c =
    let v = get_or c.args.vertices.now 0 c.index-vertices-0.result in
    let vs = drop 1 c.args.vertices.now in
    let is : decimal v ++ (numbers_text vs ++ codes "\n") ≡ cycle_line c.args.vertices.now = cycle_first c.args.vertices.now c.index-vertices-0.result c.requires.some in
    let r = c.from_residual-in_err-write_numbers.result in
    let p = err_from_is_err_and r c.from_residual-in_err-write_numbers.ensures.1 in
    record {
      puts = subst (λ (t : List ℕ). Puts c.args.page.now c.write_numbers.new.page t r) is (puts_more c.args.page.now c.push_whole.new.self c.write_numbers.new.page (decimal v) ((numbers_text vs) ++ (codes "\n")) c.push_whole.result c.in_ok-push_whole.field-0 r c.in_ok-push_whole.was (subst (λ (n : ℕ). Puts c.args.page.now c.push_whole.new.self (decimal n) c.push_whole.result) (c.index.ensures ∙ c.index-vertices-0.is) c.push_whole.ensures.puts)
          (puts_stop c.push_whole.new.self c.write_numbers.new.page (numbers_text vs) (codes "\n") c.write_numbers.result c.in_err-write_numbers.field-0.0 r c.in_err-write_numbers.was (rw (p.1, p.2) refl) (subst (λ (xs : List ℕ). Puts c.push_whole.new.self c.write_numbers.new.page (numbers_text xs) c.write_numbers.result) (take_rest c.args.vertices.now 1) c.write_numbers.ensures.puts)));
    }

pub returns : goal.returns
returns c =
    let v = get_or c.args.vertices.now 0 c.index-vertices-0.result in
    let vs = drop 1 c.args.vertices.now in
    let is : decimal v ++ (numbers_text vs ++ codes "\n") ≡ cycle_line c.args.vertices.now = cycle_first c.args.vertices.now c.index-vertices-0.result c.requires.some in
    let r = c.push_bytes.result in
    record {
      puts = subst (λ (t : List ℕ). Puts c.args.page.now c.push_bytes.new.self t r) is (puts_more c.args.page.now c.push_whole.new.self c.push_bytes.new.self (decimal v) ((numbers_text vs) ++ (codes "\n")) c.push_whole.result c.in_ok-push_whole.field-0 r c.in_ok-push_whole.was (subst (λ (n : ℕ). Puts c.args.page.now c.push_whole.new.self (decimal n) c.push_whole.result) (c.index.ensures ∙ c.index-vertices-0.is) c.push_whole.ensures.puts)
          (puts_more c.push_whole.new.self c.write_numbers.new.page c.push_bytes.new.self (numbers_text vs) (codes "\n") c.write_numbers.result c.in_ok-write_numbers.field-0 r c.in_ok-write_numbers.was (subst (λ (xs : List ℕ). Puts c.push_whole.new.self c.write_numbers.new.page (numbers_text xs) c.write_numbers.result) (take_rest c.args.vertices.now 1) c.write_numbers.ensures.puts)
          c.push_bytes.ensures.puts));
    }
