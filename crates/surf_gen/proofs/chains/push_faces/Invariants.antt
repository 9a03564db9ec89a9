use Rattle.surf_surfaces.proofs.Common.{◌≡◌, ◌+◌, ◌-◌, ◌*◌, ◌++◌, map, take, drop, slice_index, side_count}
use Rattle.surf_tori.specs.Torus.{torus_faces}
use Rattle.surf_gen.proofs.chains.push_faces.Given as goal

abbrev pub invariant-loop-f : goal.invariant-loop-f
invariant-loop-f l = record {
  vertices : l.soup.vertices ≡ l.initial.soup.vertices;
  faces : l.soup.faces
      ≡ l.initial.soup.faces
      ++ map (map (slice_index l.numbers))
      (take (l.f - l.from) (drop l.from (torus_faces l.grid.rows l.grid.columns)));
  sides : side_count l.soup ≡ side_count l.initial.soup + 3 * (l.f - l.from);
}
