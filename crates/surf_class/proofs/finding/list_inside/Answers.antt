use Rattle.surf_cert.proofs.Common.{◌≡◌, ◌∙◌, ◌++◌, ◌∷◌, [], true, false, ap, sym, subst, List, ℕ, AllPairs, ◌<◌}
use Rattle.surf_class.proofs.Common.{passing_taken, passing_left, climbing_at, passing_climb, is_inside, side_at}
use Rattle.surf_class.proofs.FaceSides.{inside_is}
use Rattle.surf_class.proofs.finding.list_inside.Goals as goal
use Rattle.surf_class.proofs.finding.list_inside.Goals.{then-eq+in_ok-push, else-eq}

pub loop-f-preserved : goal.loop-f-preserved
loop-f-preserved c =
    let pass = is_inside c.args.parted.now.sides.now in
    let f = c.loop-f.f in
    let test = c.eq.ensures ∙ inside_is (side_at c.args.parted.now.sides.now f) in
    elim c.if-eq.branch [
      | then-eq+in_ok-push w ↦
          let on : pass f ≡ true = sym test ∙ w.if-eq.true in
          rw w.faces-is (w.in_ok-push.ensures.items
          ∙ ap (λ x. c.loop-f.faces.items ++ x ∷ []) w.new.ensures ∙ ap (λ xs. xs ++ f ∷ []) c.loop-f.invariant
          ∙ sym (passing_taken pass f on))
      | else-eq w ↦
          let off : pass f ≡ false = sym test ∙ w.if-eq.false in
          rw w.faces-is (c.loop-f.invariant ∙ sym (passing_left pass f off))
    ]

pub from_faces-requires : goal.from_faces-requires
from_faces-requires c =
    let pass = is_inside c.args.parted.now.sides.now in
    record {
      rises = subst (λ (xs : List ℕ). AllPairs (λ a b. a < b) xs) (sym c.loop-f.invariant)
          (climbing_at _ (passing_climb pass 0 c.loop-f.f));
    }
