use Rattle.surf_basis.proofs.Common.{IsFirstPlace, IfOk-weaker, lengths_positive, IsFirstAmong}
use Rattle.surf_basis.proofs.Placed.{first_placed}
use Rattle.surf_basis.proofs.shortest.first_place.Goals as goal

pub returns : goal.returns
returns c =
    let mesh = c.args.surface.now.mesh.now in
    let lengths = c.args.surface.now.lengths.now in
    let s = c.args.surface.now.signatures.now in
    let vertices = c.args.vertices.now in
    let positive = lengths_positive mesh lengths c.law_of_lengths.ensures.lengths c.requires.lengths in
    record {
      first = IfOk-weaker c.first_among.result (IsFirstAmong mesh lengths s vertices) (IsFirstPlace mesh lengths)
          (first_placed mesh lengths c.law_of_surface.ensures.surface positive s c.args.count c.requires.signed vertices c.requires.met)
          c.first_among.ensures.first;
    }
