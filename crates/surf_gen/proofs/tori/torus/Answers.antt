use Rattle.surf_surfaces.proofs.Common.{◌≡◌, ℕ, ◌*◌, List, ◌++◌, length, ap, sym, ◌∙◌, arith, range_with_len, sum_by, length-range_with_len, Mesh, side_count}
use Rattle.surf_tori.specs.Torus.{cell_faces}
use Rattle.surf_tori.proofs.TorusLaws.{cells_more, cells_sides}
use Rattle.surf_gen.proofs.tori.torus.Goals as goal

pub push_cell-requires-clause-few_sides : goal.push_cell-requires-clause-few_sides
push_cell-requires-clause-few_sides c =
    let cells = range_with_len 0 c.loop-cell.cell in
    let sides : side_count c.loop-cell.soup ≡ 6 * length cells =
    ap (sum_by length) c.loop-cell.invariant.faces ∙ cells_sides c.args.a c.args.b cells in
    let long : length cells ≡ c.loop-cell.cell = length-range_with_len 0 c.loop-cell.cell in
    omega (arith, sides, long)

pub loop-cell-preserved : goal.loop-cell-preserved
loop-cell-preserved c =
    let pushed = c.in_ok-push_cell.ensures.ok in
    let faces = cell_faces c.args.a c.args.b c.loop-cell.cell in
    record {
      vertices = ap (λ (mesh : Mesh). mesh.vertices) pushed ∙ c.loop-cell.invariant.vertices;
      faces =
          ap (λ (mesh : Mesh). mesh.faces) pushed ∙ ap (λ (xs : List (List ℕ)). xs ++ faces) c.loop-cell.invariant.faces
          ∙ sym (cells_more c.args.a c.args.b c.loop-cell.cell);
    }
