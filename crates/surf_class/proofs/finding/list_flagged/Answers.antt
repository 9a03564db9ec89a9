use Rattle.surf_cert.proofs.Common.{◌≡◌, ◌∙◌, ◌++◌, ◌∷◌, [], true, false, ap, sym, subst, List, ℕ, Bool, AllPairs, All, ◌<◌, map, filter, arith, range_with_len, map-append, pair_lt, ends}
use Rattle.surf_class.proofs.Common.{is_flagged, passing_taken, passing_left}
use Rattle.surf_class.proofs.EdgeLists.{edges_rise, edges_ordered}
use Rattle.surf_class.proofs.finding.list_flagged.Goals as goal
use Rattle.surf_class.proofs.finding.list_flagged.Goals.{then-flags-e+in_ok-push, else-flags-e}

pub loop-e-preserved : goal.loop-e-preserved
loop-e-preserved c =
    let mesh = c.args.flagged.now.mesh.now in
    let pass : ℕ → Bool = is_flagged c.args.flagged.now.flags.now in
    let e = c.loop-e.e in
    let front = filter pass (range_with_len 0 e) in
    elim c.if-flags-e.branch [
      | then-flags-e+in_ok-push w ↦
          let on : pass e ≡ true = w.if-flags-e.true in
          rw w.pairs-is (w.in_ok-push.ensures.items
          ∙ ap (λ p. c.loop-e.pairs.items ++ p ∷ []) (w.ends.ensures ∙ ap (ends mesh) w.new.ensures)
          ∙ ap (λ xs. xs ++ ends mesh e ∷ []) c.loop-e.invariant
          ∙ sym (map-append (ends mesh) front (e ∷ []))
          ∙ ap (map (ends mesh)) (sym (passing_taken pass e on)))
      | else-flags-e w ↦
          let off : pass e ≡ false = w.if-flags-e.false in
          rw w.pairs-is (c.loop-e.invariant ∙ ap (map (ends mesh)) (sym (passing_left pass e off)))
    ]

pub from_pairs-requires-clause-rises : goal.from_pairs-requires-clause-rises
from_pairs-requires-clause-rises c =
    let pass : ℕ → Bool = is_flagged c.args.flagged.now.flags.now in
    subst (λ (xs : List (ℕ × ℕ)). AllPairs (λ a b. pair_lt a b ≡ true) xs) (sym c.loop-e.invariant)
    (edges_rise c.args.flagged.now.mesh.now pass c.loop-e.e (omega (arith, c.loop-e.auto.e-end, c.edges-e-end.ensures.count)))

pub from_pairs-requires-clause-ordered : goal.from_pairs-requires-clause-ordered
from_pairs-requires-clause-ordered c =
    let pass : ℕ → Bool = is_flagged c.args.flagged.now.flags.now in
    subst (λ (xs : List (ℕ × ℕ)). All (λ a. a.0 < a.1) xs) (sym c.loop-e.invariant)
    (edges_ordered c.args.flagged.now.mesh.now c.edges-e-end.ensures.surface pass c.loop-e.e (omega (arith, c.loop-e.auto.e-end, c.edges-e-end.ensures.count)))
