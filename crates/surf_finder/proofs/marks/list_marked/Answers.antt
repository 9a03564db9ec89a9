use Rattle.std.proofs.Common.{ℕ, refl, ap, ◌∙◌, ◌++◌, ◌∷◌, []}
use Rattle.surf_finder.proofs.Marked.{marked_more, marked_less}
use Rattle.surf_finder.proofs.marks.list_marked.Goals as goal
use Rattle.surf_finder.proofs.marks.list_marked.Goals.{then-marked-v+in_ok-push, else-marked-v}

pub loop-v-preserved : goal.loop-v-preserved
loop-v-preserved c =
    let marked = c.args.marked.now in
    let list = c.loop-v.list.items in
    elim c.if-marked-v.branch [
      | then-marked-v+in_ok-push w ↦ rw w.list-is
          (marked_more marked c.loop-v.v list w.push.new.self.items c.loop-v.invariant
          (w.in_ok-push.ensures.items ∙ ap (λ (v : ℕ). list ++ v ∷ []) w.new.ensures) w.if-marked-v.true)
      | else-marked-v w ↦ rw w.list-is (marked_less marked c.loop-v.v list list c.loop-v.invariant refl w.if-marked-v.false)
    ]
