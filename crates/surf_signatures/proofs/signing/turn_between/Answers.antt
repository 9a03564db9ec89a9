use Rattle.surf_surfaces.proofs.Common.{◌≡◌, ◌≢◌, ◌<◌, ◌∙◌, ◌&&◌, eqb, ap, sym, inl, inr, xor, dual, between, IsTree, cells_of}
use Rattle.surf_signatures.specs.Signs.{sign_bit}
use Rattle.surf_signatures.specs.Tables.{face_tree}
use Rattle.surf_signatures.proofs.Meeting.{climbed, either_first, none_between}
use Rattle.surf_signatures.proofs.Toggling.{two_turns, nothing_turned}
use Rattle.surf_signatures.proofs.signing.turn_between.Goals as goal
use Rattle.surf_signatures.proofs.signing.turn_between.Goals.{After-deeper_first-face}

-- the two faces of a step are below the number of faces
both_in : (c : After-deeper_first-face) → (c.deeper_first-face.result.0 < (dual (cells_of c.args.tree.now.mesh.now)).nodes)
    × (c.deeper_first-face.result.1 < (dual (cells_of c.args.tree.now.mesh.now)).nodes)
both_in c =
    let inv = c.loop-near.invariant in
    elim c.deeper_first-face.ensures.both [
      | inl same ↦ rw (same.0, same.1) (inv.near_in, inv.far_in)
      | inr turned ↦ rw (turned.0, turned.1) (inv.far_in, inv.near_in)
    ]

pub loop-near-preserved : goal.loop-near-preserved
loop-near-preserved c =
    let g = dual (cells_of c.args.tree.now.mesh.now) in
    let t = face_tree c.args.tree.now.parent.now c.args.tree.now.up.now c.args.tree.now.depth.now in
    let tree : IsTree g t = c.args.tree.now.spans in
    let face = c.deeper_first-face.result.0 in
    let other = c.deeper_first-face.result.1 in
    let ne : face ≢ 0 = c.deeper_first-face.ensures.below in
    let inside = both_in (goal.at.loop-near-preserved c).After-deeper_first-face in
    let words = c.args.words in
    let k = c.args.k in
    record {
      near_in = tree.parent_in face inside.0 ne;
      far_in = inside.1;
      rest = λ e j l.
          let old = sign_bit c.loop-near.signs words e j in
          let above = between t (t.parent face) other e in
          let step : xor (eqb (t.up face) e) above ≡ between t c.loop-near.near c.loop-near.far e =
          climbed g t tree face other e inside.0 ne
          ∙ either_first t c.loop-near.near c.loop-near.far face other e c.deeper_first-face.ensures.both in
          rw (c.toggle.ensures.turned e j l)
          (two_turns old (eqb (t.up face) e) above (eqb k j) ∙ ap (λ b. xor old (b && eqb k j)) step
          ∙ c.loop-near.invariant.rest e j l);
    }

pub returns : goal.returns
returns c =
    let t = face_tree c.args.tree.now.parent.now c.args.tree.now.up.now c.args.tree.now.depth.now in
    record {
      turned = λ e j l.
          let old = sign_bit c.loop-near.signs c.args.words e j in
          let none = none_between t c.loop-near.near c.loop-near.far e c.loop-near-test.false in
          sym (ap (λ b. xor old (b && eqb c.args.k j)) none ∙ nothing_turned old) ∙ c.loop-near.invariant.rest e j l;
    }
