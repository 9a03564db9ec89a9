use Rattle.surf_surfaces.proofs.Common.{◌≡◌, ◌<◌, ℕ, false, length, get_or, xor, on_path, edge_count, face_count}
use Rattle.surf_cotree.specs.Tables.{cotree_of}
use Rattle.surf_class.proofs.cocycle.turn_way.Given as goal

-- the flags and what is still to turn make up the way
abbrev pub invariant-loop-parent : goal.invariant-loop-parent
invariant-loop-parent l = record {
  within : l.at < face_count l.mesh;
  count : length l.flags ≡ edge_count l.mesh;
  way : (e : ℕ) → xor (get_or l.flags e false) (on_path (cotree_of l.cotree) l.at e)
      ≡ xor (get_or l.initial.flags e false) (on_path (cotree_of l.cotree) l.fn.face e);
}

abbrev pub decreases-loop-parent : goal.decreases-loop-parent
decreases-loop-parent l = get_or l.cotree.depths l.at 0
