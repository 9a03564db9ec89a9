use Rattle.surf_surfaces.proofs.Common.{◌≡◌, ◌<◌, ◌*◌, ◌&&◌, ℕ, ltb, dual, cells_of}
use Rattle.surf_base.specs.Tables.{at}
use Rattle.surf_signatures.specs.Signs.{sign_bit, has_left}
use Rattle.surf_signatures.specs.Tables.{face_tree}
use Rattle.surf_signatures.proofs.signing.write_signs.Given as goal

abbrev pub invariant-loop-k : goal.invariant-loop-k
invariant-loop-k l = (e j : ℕ) → j < 64 * l.words → sign_bit l.signs l.words e j ≡ (ltb j l.k && has_left (dual (cells_of l.tree.mesh.now)) (face_tree l.tree.parent.now l.tree.up.now l.tree.depth.now) (at l.left j) e)
