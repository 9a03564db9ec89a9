use Rattle.surf_surfaces.proofs.Common.{◌≡◌, ◌<◌, ◌+◌, ◌*◌, ◌&&◌, ℕ, eqb, xor, between, face_count}
use Rattle.surf_base.specs.Tables.{at}
use Rattle.surf_signatures.specs.Signs.{sign_bit}
use Rattle.surf_signatures.specs.Tables.{face_tree}
use Rattle.surf_signatures.proofs.signing.turn_between.Given as goal

-- the bits and what is still to turn make up the edges between the two faces
abbrev pub invariant-loop-near : goal.invariant-loop-near
invariant-loop-near l = record {
  near_in : l.near < face_count l.tree.mesh.now;
  far_in : l.far < face_count l.tree.mesh.now;
  rest : (e j : ℕ) → j < 64 * l.words →
      xor (sign_bit l.signs l.words e j) (between (face_tree l.tree.parent.now l.tree.up.now l.tree.depth.now) l.near l.far e && eqb l.k j) ≡ xor (sign_bit l.initial.signs l.words e j) (between (face_tree l.tree.parent.now l.tree.up.now l.tree.depth.now) l.fn.ends.0 l.fn.ends.1 e && eqb l.k j);
}

abbrev pub decreases-loop-near : goal.decreases-loop-near
decreases-loop-near l = at l.tree.depth.now l.near + at l.tree.depth.now l.far
