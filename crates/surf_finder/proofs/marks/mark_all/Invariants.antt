use Rattle.surf_finder.proofs.Common.{◌≡◌, ◌⊎◌, ℕ, ◌<◌, Contains, length, IsTrue, slice_index, AgreeOff, is_marked, AreNoShorter, AreShut}
use Rattle.surf_finder.proofs.marks.mark_all.Given as goal

abbrev pub invariant-loop-v : goal.invariant-loop-v
invariant-loop-v l = record {
  only : (v : ℕ) → IsTrue (is_marked l.marks v) → IsTrue (is_marked l.fn.marks v) ⊎ Contains l.list v;
  all : (i : ℕ) → i < l.v-index → IsTrue (is_marked l.marks (slice_index l.list i));
  stay : (v : ℕ) → IsTrue (is_marked l.fn.marks v) → IsTrue (is_marked l.marks v);
  count : length l.marks ≡ length l.fn.marks;
  shut : AreShut l.fn.links.mesh l.links.lengths l.fn.marks l.marks;
  off : AgreeOff l.fn.links.mesh l.fn.links.lengths l.links.lengths (is_marked l.marks);
  no_shorter : AreNoShorter l.fn.links.mesh l.fn.links.lengths l.links.lengths;
  mesh : l.links.mesh ≡ l.fn.links.mesh;
  given : l.links.given ≡ l.fn.links.given;
}
