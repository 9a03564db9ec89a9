use Rattle.surf_surfaces.proofs.Common.{◌≡◌, ◌≤◌, map, take, vec_capacity, loop_length}
use Rattle.surf_tree.specs.Tables.{tree_of}
use Rattle.surf_loops.specs.Heads.{head_of}
use Rattle.surf_loops.proofs.heads.fill_heads.Given as goal

abbrev pub invariant-loop-edge : goal.invariant-loop-edge
invariant-loop-edge l = record {
  listed : l.heads.items ≡ map (head_of (loop_length l.loops.mesh.now l.loops.lengths.now (tree_of l.loops.tree.now))) (take l.edge-index l.left);
  room : vec_capacity l.fn.heads ≤ vec_capacity l.heads;
}
