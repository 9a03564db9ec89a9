use Rattle.surf_sew.proofs.Common.{◌≡◌, ◌<◌, ◌≤◌, ◌+◌, ◌-◌, ℕ, List, ◌++◌, length, take, drop, Ok, refl, sym, ◌∙◌, ap, subst, arith, err_from_is_err_and, length-map-range_with_len, take_at, length-take-le, All, Puts, puts_more, puts_stop, lines_text, lines_at, first_copy, first_copies}
use Rattle.surf_sew.proofs.Windows.{copies_few, more_lines, all_lines}
use Rattle.surf_sew.proofs.write.write_lines.Goals as goal

-- what a front of a table is that was written in whole
front_is : (vs table rest first : List ℕ) (from n : ℕ) → n ≤ length first → table ≡ first_copies vs from (length (take n first)) → take n (table ++ rest) ≡ first_copies vs from n
front_is vs table rest first from n le is =
    let short : length (take n first) ≡ n = length-take-le n first le in
    let all : table ≡ first_copies vs from n = is ∙ ap (first_copies vs from) short in
    take_at table rest n (ap length all ∙ length-map-range_with_len (first_copy vs) from n) ∙ all

pub returns-in_err-from : goal.returns-in_err-from
returns-in_err-from c =
    let e = err_from_is_err_and c.from_residual.result c.from_residual.ensures.1 in
    record { puts = rw (e.1, e.2) c.in_err-from.ensures.puts }

pub write_copies-requires-clause-within : goal.write_copies-requires-clause-within
write_copies-requires-clause-within c =
    let vs = c.args.origins.now in
    let n = c.min-count.result in
    let small : n ≤ 16384 = omega (arith, c.min-count.ensures) in
    let more : c.loop-from.from + n ≤ c.args.vertices = omega (arith, c.min-count.ensures, c.loop-from-test.true) in
    let is = front_is vs c.list_first.new.table (drop n c.loop-from.first) c.loop-from.first c.loop-from.from n (omega (arith, small, c.min-count.array_long)) c.list_first.ensures.first in
    subst (λ (cs : List ℕ). All (λ k. k < length c.args.text.now.vertex_lines) cs) (sym is) (subst (λ (m : ℕ). All (λ k. k < m) (first_copies vs c.loop-from.from n)) c.requires.origins (copies_few vs c.loop-from.from n (λ v lt. c.requires.copies v (omega arith))))

pub returns-in_err-write_copies : goal.returns-in_err-write_copies
returns-in_err-write_copies c =
    let vs = c.args.origins.now in
    let lines = c.args.text.now.vertex_lines in
    let from = c.loop-from.from in
    let n = c.min-count.result in
    let small : n ≤ 16384 = omega (arith, c.min-count.ensures) in
    let more : from + n ≤ c.args.vertices = omega (arith, c.min-count.ensures, c.loop-from-test.true) in
    let is = front_is vs c.list_first.new.table (drop n c.loop-from.first) c.loop-from.first from n (omega (arith, small, c.min-count.array_long)) c.list_first.ensures.first in
    let before = lines_text (lines_at lines (first_copies vs 0 from)) in
    let some = lines_text (lines_at lines (first_copies vs from n)) in
    let rest = lines_text (lines_at lines (first_copies vs (from + n) (c.args.vertices - (from + n)))) in
    let p0 = c.args.page.now in
    let p1 = c.loop-from.page in
    let p2 = c.write_copies.new.page in
    let r = c.from_residual-in_err-write_copies.result in
    let e = err_from_is_err_and r c.from_residual-in_err-write_copies.ensures.1 in
    let one : Puts p1 p2 some c.write_copies.result = subst (λ (cs : List ℕ). Puts p1 p2 (lines_text (lines_at lines cs)) c.write_copies.result) is c.write_copies.ensures.puts in
    record {
      puts = subst (λ (t : List ℕ). Puts p0 p2 t r) (all_lines lines vs from n (c.args.vertices - (from + n)) c.args.vertices (omega arith))
          (puts_more p0 p1 p2 before (some ++ rest) (Ok tt) (tt {0}) r refl c.loop-from.invariant.puts (puts_stop p1 p2 some rest c.write_copies.result c.in_err-write_copies.field-0.0 r c.in_err-write_copies.was (rw (e.1, e.2) refl) one));
    }

pub loop-from-preserved : goal.loop-from-preserved
loop-from-preserved c =
    let vs = c.args.origins.now in
    let lines = c.args.text.now.vertex_lines in
    let from = c.loop-from.from in
    let n = c.min-count.result in
    let small : n ≤ 16384 = omega (arith, c.min-count.ensures) in
    let more : from + n ≤ c.args.vertices = omega (arith, c.min-count.ensures, c.loop-from-test.true) in
    let is = front_is vs c.list_first.new.table (drop n c.loop-from.first) c.loop-from.first from n (omega (arith, small, c.min-count.array_long)) c.list_first.ensures.first in
    let before = lines_text (lines_at lines (first_copies vs 0 from)) in
    let some = lines_text (lines_at lines (first_copies vs from n)) in
    let p0 = c.args.page.now in
    let p1 = c.loop-from.page in
    let p2 = c.write_copies.new.page in
    let one : Puts {A = Unit {0}} p1 p2 some (Ok tt) = subst (λ (cs : List ℕ). Puts {A = Unit {0}} p1 p2 (lines_text (lines_at lines cs)) (Ok tt)) is c.in_ok-write_copies.ensures.puts in
    record {
      within = more;
      puts = subst (λ (t : List ℕ). Puts {A = Unit {0}} p0 p2 t (Ok tt)) (sym (more_lines lines vs from n)) (puts_more p0 p1 p2 before some (Ok (tt {0})) (tt {0}) (Ok (tt {0})) refl c.loop-from.invariant.puts one);
    }
