use Rattle.surf_search.proofs.Common.{◌≡◌, ◌<◌, ℕ, IsTrue, slice_index, surface_of, is_marked, IsBarring, IsFirstIn}
use Rattle.surf_search.proofs.first_loops.first_passed.Given as goal

abbrev pub invariant-loop-v : goal.invariant-loop-v
invariant-loop-v l = record {
  barring : IsBarring (surface_of l.surface) l.finder l.marks.items;
  first : IsFirstIn l.surface.mesh.now l.surface.lengths.now l.surface.signatures.now (is_marked l.marks.items) l.first;
  all : (i : ℕ) → i < l.v-index → IsTrue (is_marked l.marks.items (slice_index l.vertices i));
}
