use Rattle.surf_sew.proofs.Common.{◌≡◌, ◌<◌, ◌+◌, ◌-◌, ℕ, List, ◌++◌, length, get_or, Ok, Err, refl, sym, ◌∙◌, subst, arith, err_from_is_err_and, Puts, puts_more, puts_stop, lines_text, lines_at, other_default, first_copies}
use Rattle.surf_sew.proofs.Windows.{one_copy, below_more, more_lines, all_lines}
use Rattle.surf_sew.proofs.write.write_ordered.Goals as goal
use Rattle.surf_sew.proofs.write.write_ordered.Goals.{then-v-next-2+in_ok-write_copies, else-v-next-2}

pub returns-in_err-write_copies-clause-puts : goal.returns-in_err-write_copies-clause-puts
returns-in_err-write_copies-clause-puts c =
    let vs = c.args.origins.now in
    let lines = c.args.text.now.vertex_lines in
    let next : ℕ = c.loop-c.next in
    let i : ℕ = c.loop-c.c in
    let lt : i < length vs = omega arith in
    let here : get_or vs i 0 ≡ next = sym (other_default vs i c.index-origins-c.result 0 lt) ∙ sym c.index-origins-c.is ∙ sym c.index-v.ensures ∙ c.if-v-next-2.true in
    let is = one_copy vs i next lt c.loop-c.invariant.before here in
    let before = lines_text (lines_at lines (first_copies vs 0 next)) in
    let some = lines_text (lines_at lines (first_copies vs next 1)) in
    let left : ℕ = c.args.vertices - (next + 1) in
    let all : next + 1 + left ≡ c.args.vertices = omega (arith, c.if-next-vertices.false, c.loop-c.invariant.few) in
    let rest = lines_text (lines_at lines (first_copies vs (next + 1) left)) in
    let p0 = c.args.page.now in
    let p1 = c.loop-c.page in
    let p2 = c.write_copies.new.page in
    let fault = c.in_err-write_copies.field-0.0 in
    let p = err_from_is_err_and c.from_residual.result c.from_residual.ensures.1 in
    let failed : c.from_residual.result ≡ Err fault = rw (p.1, p.2) refl in
    let one : Puts p1 p2 some c.write_copies.result = subst (λ (cs : List ℕ). Puts p1 p2 (lines_text (lines_at lines cs)) c.write_copies.result) (sym is) c.write_copies.ensures.puts in
    rw failed (subst (λ (t : List ℕ). Puts {A = ℕ} p0 p2 t (Err fault)) (all_lines lines vs next 1 left c.args.vertices all)
    (puts_more {B = ℕ} p0 p1 p2 before (some ++ rest) (Ok tt) (tt {0}) (Err fault) refl c.loop-c.invariant.puts (puts_stop {B = ℕ} p1 p2 some rest c.write_copies.result fault (Err fault) c.in_err-write_copies.was refl one)))

pub loop-c-preserved : goal.loop-c-preserved
loop-c-preserved c =
    let vs = c.args.origins.now in
    let lines = c.args.text.now.vertex_lines in
    let next : ℕ = c.loop-c.next in
    let i : ℕ = c.loop-c.c in
    let lt : i < length vs = omega arith in
    let at : get_or vs i 0 ≡ c.index-v.result = sym (other_default vs i c.index-origins-c.result 0 lt) ∙ sym c.index-origins-c.is ∙ sym c.index-v.ensures in
    let p0 = c.args.page.now in
    let p1 = c.loop-c.page in
    elim c.if-v-next-2.branch [
      | then-v-next-2+in_ok-write_copies w ↦
          let here : get_or vs i 0 ≡ next = at ∙ w.if-v-next-2.true in
          let is = one_copy vs i next lt c.loop-c.invariant.before here in
          let before = lines_text (lines_at lines (first_copies vs 0 next)) in
          let some = lines_text (lines_at lines (first_copies vs next 1)) in
          let p2 = w.write_copies.new.page in
          let one : Puts {A = Unit {0}} p1 p2 some (Ok tt) = subst (λ (cs : List ℕ). Puts {A = Unit {0}} p1 p2 (lines_text (lines_at lines cs)) (Ok tt)) (sym is) w.in_ok-write_copies.ensures.puts in
          rw (w.next-is, w.page-is) (record {
            few = omega (arith, c.if-next-vertices.false, c.loop-c.invariant.few);
            before = below_more vs i next (next + 1) c.loop-c.invariant.before (omega arith) (omega (arith, here));
            puts = subst (λ (t : List ℕ). Puts {A = Unit {0}} p0 p2 t (Ok tt)) (sym (more_lines lines vs next 1)) (puts_more p0 p1 p2 before some (Ok (tt {0})) (tt {0}) (Ok (tt {0})) refl c.loop-c.invariant.puts one);
          })
      | else-v-next-2 w ↦ rw (w.next-is, w.page-is) (record {
        few = c.loop-c.invariant.few;
        before = below_more vs i next next c.loop-c.invariant.before (omega arith) (omega (arith, at, c.if-v-next.false, w.if-v-next-2.false));
        puts = c.loop-c.invariant.puts;
      })
    ]
