use Rattle.surf_cotree.proofs.Common.{◌≡◌, ◌∙◌, ◌++◌, ◌∷◌, [], List, ℕ, true, false, not, ap, sym, outside, passing_taken, passing_left}
use Rattle.surf_cotree.proofs.edges.list_unmarked.Goals as goal
use Rattle.surf_cotree.proofs.edges.list_unmarked.Goals.{then-not-marks-edge+in_ok-push, else-not-marks-edge}

pub loop-edge-preserved : goal.loop-edge-preserved
loop-edge-preserved c =
    let pass = outside c.args.marks.now in
    let e = c.loop-edge.edge in
    elim c.if-not-marks-edge.branch [
      | then-not-marks-edge+in_ok-push w ↦
          let on : pass e ≡ true = ap not w.if-not-marks-edge.true in
          rw w.left-is (w.in_ok-push.ensures.items ∙ ap (λ (x : ℕ). c.loop-edge.left.items ++ x ∷ []) w.new.ensures ∙ ap (λ (xs : List ℕ). xs ++ e ∷ []) c.loop-edge.invariant ∙ sym (passing_taken pass e on))
      | else-not-marks-edge w ↦
          let off : pass e ≡ false = ap not w.if-not-marks-edge.false in
          rw w.left-is (c.loop-edge.invariant ∙ sym (passing_left pass e off))
    ]
