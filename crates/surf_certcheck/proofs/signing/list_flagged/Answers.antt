use Rattle.surf_treecheck.proofs.Common.{rules, ◌≡◌, ◌∙◌, ◌++◌, ◌∷◌, [], true, false, ap, sym, is_flagged}
use Rattle.surf_certcheck.proofs.Common.{passing_taken, passing_left}
use Rattle.surf_certcheck.proofs.signing.list_flagged.Goals as goal
use Rattle.surf_certcheck.proofs.signing.list_flagged.Goals.{then-flags-e+in_ok-push, else-flags-e}

pub loop-e-preserved : goal.loop-e-preserved
loop-e-preserved c =
    let pass = is_flagged c.args.flags.now in
    let e = c.loop-e.e in
    elim c.if-flags-e.branch [
      | then-flags-e+in_ok-push w ↦
          let on : pass e ≡ true = search rules in
          rw w.listed-is (w.in_ok-push.ensures.items
          ∙ ap (λ x. c.loop-e.listed.items ++ x ∷ []) w.new.ensures ∙ ap (λ xs. xs ++ e ∷ []) c.loop-e.invariant
          ∙ sym (passing_taken pass e on))
      | else-flags-e w ↦
          let off : pass e ≡ false = search rules in
          rw w.listed-is (c.loop-e.invariant ∙ sym (passing_left pass e off))
    ]
