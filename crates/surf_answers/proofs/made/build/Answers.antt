use Rattle.std.proofs.Common.{arith}
use Rattle.surf_words.proofs.ShapeLaws.{shape_vertices, shape_faces}
use Rattle.surf_answers.proofs.made.build.Goals as goal

pub chain-requires-clause-few_vertices : goal.chain-requires-clause-few_vertices
chain-requires-clause-few_vertices c =
    let same = shape_vertices c.args.shape c.law_of_shape.ensures.shape in
    let most = c.requires.vertices in
    rw (c.tori-tori.ensures, c.rows-rows.ensures, c.columns-columns.ensures) (omega (arith, same, most))

pub chain-requires-clause-few_faces : goal.chain-requires-clause-few_faces
chain-requires-clause-few_faces c =
    let same = shape_faces c.args.shape c.law_of_shape.ensures.shape in
    let most = c.requires.faces in
    rw (c.tori-tori.ensures, c.rows-rows.ensures, c.columns-columns.ensures) (omega (arith, same, most))
