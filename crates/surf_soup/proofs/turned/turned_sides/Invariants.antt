use Rattle.surf_surfaces.proofs.Common.{◌≡◌, first_side}
use Rattle.surf_soup.specs.Ring.{AreTurned, place_by}
use Rattle.surf_soup.proofs.turned.turned_sides.Given as goal

abbrev pub invariant-loop-f : goal.invariant-loop-f
invariant-loop-f l = record {
  turned : AreTurned (place_by l.turn) l.soup l.f l.table.items;
  first : l.first ≡ first_side l.soup l.f;
}
