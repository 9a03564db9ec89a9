use Rattle.surf_basis.proofs.Common.{ℕ, ◌≡◌, ◌≢◌, ◌<◌, true, false, slice_index, sym, ap, ◌∙◌, subst, arith, inl, inr, ◌⊎◌, slice_index_or, cases_lt, ends, edge_count, by_degree, ends_inside, either_below}
use Rattle.surf_basis.proofs.Ended.{end_stays, either_marked}
use Rattle.surf_search.proofs.Counted.{as_read_or_turned}
use Rattle.surf_finder.proofs.Signed.{signed_none, signed_some}
use Rattle.surf_basis.proofs.ends.mark_ends.Goals as goal
use Rattle.surf_basis.proofs.ends.mark_ends.Goals.{then-is_signed, else-is_signed}

pub lesser_first-less-requires-clause-low : goal.lesser_first-less-requires-clause-low
lesser_first-less-requires-clause-low c =
    let e_in : c.new-edge.result < edge_count c.args.mesh.now = omega (arith, c.new-edge.ensures, c.loop-e-test.true, c.edges-e-end.ensures.count) in
    let inside = ends_inside c.args.mesh.now c.law_of_surface.ensures.surface c.new-edge.result e_in c.ends-low.result c.ends-low.ensures in
    omega (arith, inside.0, c.requires.degrees)

pub lesser_first-less-requires-clause-high : goal.lesser_first-less-requires-clause-high
lesser_first-less-requires-clause-high c =
    let e_in : c.new-edge.result < edge_count c.args.mesh.now = omega (arith, c.new-edge.ensures, c.loop-e-test.true, c.edges-e-end.ensures.count) in
    let inside = ends_inside c.args.mesh.now c.law_of_surface.ensures.surface c.new-edge.result e_in c.ends-low.result c.ends-low.ensures in
    omega (arith, inside.1, c.requires.degrees)

pub mark_one-requires : goal.mark_one-requires
mark_one-requires c =
    let mesh = c.args.mesh.now in
    let e_in : c.new-edge.result < edge_count mesh = omega (arith, c.new-edge.ensures, c.loop-e-test.true, c.edges-e-end.ensures.count) in
    let inside = ends_inside mesh c.law_of_surface.ensures.surface c.new-edge.result e_in c.ends-low.result c.ends-low.ensures in
    let both = either_below mesh.vertices c.ends-low.result.0 c.ends-low.result.1 c.lesser_first-less.result
    (as_read_or_turned (slice_index c.args.degrees.now) c.ends-low.result c.lesser_first-less.result c.lesser_first-less.ensures) inside.0 inside.1 in
    record { inside = (omega (arith, both.0, c.loop-e.invariant.count), omega (arith, both.1, c.loop-e.invariant.count)) }

pub loop-e-preserved : goal.loop-e-preserved
loop-e-preserved c =
    let mesh = c.args.mesh.now in
    let n = c.loop-e.e in
    let inv = c.loop-e.invariant in
    let at : c.new-edge.result ≡ n = c.new-edge.ensures in
    elim c.if-is_signed.branch [
      | then-is_signed w ↦
          let is = w.ends-low.ensures ∙ ap (ends mesh) at in
          let e_in : n < edge_count mesh = omega (arith, c.loop-e-test.true, c.edges-e-end.ensures.count) in
          let signed : slice_index c.args.signatures.now.signatures n ≢ 0 =
          subst (λ e. slice_index c.args.signatures.now.signatures e ≢ 0) at
          (signed_some c.args.signatures.now c.new-edge.result (sym c.is_signed.ensures.signed ∙ w.if-is_signed.true)) in
          rw w.marked-is (record {
            count = w.mark_one.ensures.count ∙ inv.count;
            ends = λ e l some. elim (cases_lt e n) [
              | inl less ↦ end_stays mesh _ _ e w.mark_one.ensures.stay (inv.ends e less some)
              | inr more ↦
                  let same : n ≡ e = omega arith in
                  subst (λ (p : ℕ × ℕ). (slice_index_or w.mark_one.new.marked p.0 false ≡ true) ⊎ (slice_index_or w.mark_one.new.marked p.1 false ≡ true))
                  (is ∙ ap (ends mesh) same) (either_marked w.mark_one.new.marked w.ends-low.result.0 w.ends-low.result.1 w.lesser_first-less.result
                  (as_read_or_turned (slice_index c.args.degrees.now) w.ends-low.result w.lesser_first-less.result w.lesser_first-less.ensures) w.mark_one.ensures.one)
            ];
            only = λ v on. elim (w.mark_one.ensures.only v on) [
              | inl was ↦ inv.only v was
              | inr new ↦ inr (
                n,
                e_in,
                signed,
                sym (new ∙ ap (λ (p : ℕ × ℕ). p.1) w.lesser_first-less.ensures
                    ∙ ap (λ (p : ℕ × ℕ). (by_degree (slice_index c.args.degrees.now) p).1) is),
              )
            ];
          })
      | else-is_signed w ↦
          let zero : slice_index c.args.signatures.now.signatures n ≡ 0 =
          ap (slice_index c.args.signatures.now.signatures) (sym at)
          ∙ signed_none c.args.signatures.now c.new-edge.result (sym c.is_signed.ensures.signed ∙ w.if-is_signed.false) in
          rw w.marked-is (record {
            count = inv.count;
            ends = λ e l some. elim (cases_lt e n) [
              | inl less ↦ inv.ends e less some
              | inr more ↦ let same : n ≡ e = omega arith in absurd (some (ap (slice_index c.args.signatures.now.signatures) (sym same) ∙ zero))
            ];
            only = inv.only;
          })
    ]
