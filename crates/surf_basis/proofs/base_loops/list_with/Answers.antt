use Rattle.surf_basis.proofs.Common.{[], ◌∷◌, ◌++◌, cond, sym, ap, ◌∙◌, append-nil, Signed}
use Rattle.surf_basis.proofs.Based.{with_more}
use Rattle.surf_basis.proofs.base_loops.list_with.Goals as goal
use Rattle.surf_basis.proofs.base_loops.list_with.Goals.{then-has_length+in_ok-push, else-has_length}

pub loop-signed-preserved : goal.loop-signed-preserved
loop-signed-preserved c =
    let s = c.signed-item.result in
    let old = c.loop-signed.loops.items in
    elim c.if-has_length.branch [
      | then-has_length+in_ok-push w ↦
          rw w.loops-is (with_more c.args.lengths.now c.args.chosen.now c.loop-signed.signed-index s old w.push.new.self.items c.loop-signed.invariant
          c.loop-signed-test.true c.signed-item.is
          (w.in_ok-push.ensures.items ∙ ap (λ (x : Signed). old ++ x ∷ []) w.copy_of.ensures.same
          ∙ ap (λ b. old ++ cond b (s ∷ []) []) (sym w.if-has_length.true ∙ c.has_length.ensures.has)))
      | else-has_length w ↦
          rw w.loops-is (with_more c.args.lengths.now c.args.chosen.now c.loop-signed.signed-index s old old c.loop-signed.invariant
          c.loop-signed-test.true c.signed-item.is
          (sym (append-nil old) ∙ ap (λ b. old ++ cond b (s ∷ []) []) (sym w.if-has_length.false ∙ c.has_length.ensures.has)))
    ]
