use Rattle.std.proofs.Common.{◌≡◌, ◌+◌, ◌∙◌, ◌&&◌, true, false, eqb, ltb, ap, sym, arith, subst, inl, inr, eq-eqb, ne_eqb, lt-ltb}
use Rattle.surf_surfaces.proofs.Common.{get_or_default, cases_eq, le-ltb, xor, between, dual, cells_of}
use Rattle.surf_base.specs.Tables.{at}
use Rattle.surf_signatures.specs.Signs.{sign_bit, has_left}
use Rattle.surf_signatures.specs.Tables.{face_tree}
use Rattle.surf_signatures.proofs.Toggling.{both_turns, no_turns, below_more}
use Rattle.surf_signatures.proofs.signing.write_signs.Goals as goal

pub loop-k-preserved : goal.loop-k-preserved
loop-k-preserved c =
    let g = dual (cells_of c.args.tree.now.mesh.now) in
    let t = face_tree c.args.tree.now.parent.now c.args.tree.now.up.now c.args.tree.now.depth.now in
    let k = c.loop-k.k in
    let edge = at c.args.left.now k in
    let same : c.index-left-k.result ≡ edge = c.index-left-k.is ∙ get_or_default c.args.left.now k c.index-left-k.result 0 c.loop-k-test.true in
    let ends = c.faces_beside.result in
    let tail : ends.0 ≡ g.from edge = c.faces_beside.ensures.near ∙ ap g.from same in
    let head : ends.1 ≡ g.to edge = c.faces_beside.ensures.far ∙ ap g.to same in
    λ e j l.
    let a = eqb edge e in
    let b = between t (g.from edge) (g.to edge) e in
    let old = sign_bit c.loop-k.signs c.args.words e j in
    let now = sign_bit c.turn_between.new.signs c.args.words e j in
    let one = sign_bit c.toggle.new.signs c.args.words e j in
    let second : now ≡ xor one (b && eqb k j) =
    c.turn_between.ensures.turned e j l ∙ ap (λ n. xor one (between t n ends.1 e && eqb k j)) tail
    ∙ ap (λ n. xor one (between t (g.from edge) n e && eqb k j)) head in
    let first : one ≡ xor old (a && eqb k j) =
    subst (λ m. one ≡ xor old (eqb m e && eqb k j)) (c.index.ensures ∙ same) (c.toggle.ensures.turned e j l) in
    let whole : now ≡ xor (xor old (a && eqb k j)) (b && eqb k j) = second ∙ ap (λ x. xor x (b && eqb k j)) first in
    whole ∙ elim (cases_eq j k) [
      | inl same ↦
          let off : old ≡ false = c.loop-k.invariant e j l ∙ ap (λ x. x && has_left g t (at c.args.left.now j) e) (le-ltb j k (omega arith)) in
          let on : eqb k j ≡ true = eq-eqb k j (sym same) in
          let below : ltb j (k + 1) ≡ true = lt-ltb j (k + 1) (omega arith) in
          rw (off, on, below) (both_turns a b ∙ ap (λ m. has_left g t (at c.args.left.now m) e) (sym same))
      | inr ne ↦
          let on : eqb k j ≡ false = ne_eqb k j (λ x. ne (sym x)) in
          rw (on, below_more j k ne) (no_turns old a b ∙ c.loop-k.invariant e j l)
    ]
