use Rattle.surf_surfaces.proofs.Common.{◌≤◌, ◌*◌, take, length, sum_by}
use Rattle.surf_soup.specs.Vertices.{all_corners}
use Rattle.surf_disc.specs.Border.{AreNeighbours}
use Rattle.surf_disc.proofs.border.border_rows.Given as goal

abbrev pub invariant-loop-v : goal.invariant-loop-v
invariant-loop-v l = record {
  rows : AreNeighbours l.corners.soup.now l.next l.prev l.across (all_corners l.corners.soup.now) l.v l.rows;
  total : sum_by length l.rows ≤ 2 * sum_by length (take l.v l.at_vertex);
}
