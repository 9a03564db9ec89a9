use Rattle.surf_surfaces.proofs.Common.{◌≡◌, ◌*◌, flat_map, range_with_len}
use Rattle.surf_tori.specs.Torus.{cell_faces}
use Rattle.surf_gen.proofs.tori.torus.Given as goal

abbrev pub invariant-loop-cell : goal.invariant-loop-cell
invariant-loop-cell l = record {
  vertices : l.soup.vertices ≡ l.a * l.b;
  faces : l.soup.faces ≡ flat_map (cell_faces l.a l.b) (range_with_len 0 l.cell);
}
