use Rattle.surf_surfaces.proofs.Common.{◌≡◌, ◌<◌, ◌≤◌, ℕ, List, All, AllPairs, subst, sym, arith, get_or_default, face_count}
use Rattle.surf_classes.specs.Faults.{IsNoFace}
use Rattle.surf_class.proofs.LeastFaults.{no_face_at}
use Rattle.surf_class.proofs.check.first_outside.Goals as goal

pub returns-then-faces-number : goal.returns-then-faces-number
returns-then-faces-number c =
    let mesh = c.args.mesh.now in
    let items = c.faces-face-items.result.now in
    let same : items ≡ c.args.list.now = c.faces-face-items.ensures.list in
    let rises : AllPairs (λ a b. a < b) items =
    subst (λ (xs : List ℕ). AllPairs (λ a b. a < b) xs) (sym same) c.faces-face-items.ensures.rises in
    let outside : face_count mesh ≤ c.face-item.result =
    omega (arith, c.if-faces-number.true, c.number.ensures, c.faces.ensures.count) in
    record {
      face = subst (λ (xs : List ℕ). IsNoFace mesh xs c.face-item.result) same
          (no_face_at mesh items c.loop-face.face-index c.face-item.result rises
          c.loop-face-test.true c.face-item.is outside c.loop-face.invariant);
    }

pub returns : goal.returns
returns c =
    let mesh = c.args.mesh.now in
    let items = c.faces-face-items.result.now in
    let all : All (λ f. f < face_count mesh) items = λ k d l.
    subst (λ (n : ℕ). n < face_count mesh) (sym (get_or_default items k d 0 l))
    (c.loop-face.invariant k (omega (arith, l, c.loop-face-test.false))) in
    record { face = subst (λ (xs : List ℕ). All (λ f. f < face_count mesh) xs) c.faces-face-items.ensures.list all }
