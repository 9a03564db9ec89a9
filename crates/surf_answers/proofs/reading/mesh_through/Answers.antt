use Rattle.surf_answers.proofs.Common.{Ok, sym, subst, Option, IfSome}
use Rattle.surf_answers.proofs.Commands.{Files, Reads, mesh_taken, mesh_held}
use Rattle.surf_answers.proofs.reading.mesh_through.Goals as goal

pub returns-clause-tells : goal.returns-clause-tells
returns-clause-tells g c =
    mesh_taken (g.S.Shelf.holds c.args.shelf.now) c.args.name.now c.read_into.new.room.items c.deref.result.now c.deref.ensures.value
    c.in_ok-read_into.ensures.tells _ _ c.soup_of.result c.soup_of.ensures

pub returns-clause-held : goal.returns-clause-held
returns-clause-held g c =
    let bytes = c.read_into.new.room.items in
    let read = subst (λ (holds : Option Files). IfSome holds (λ files. Reads c.args.name.now files (Ok bytes))) (sym c.read_into.ensures.holds)
    c.in_ok-read_into.ensures.tells in
    mesh_held (g.S.Shelf.holds c.read_into.new.shelf) c.args.name.now bytes c.deref.result.now c.deref.ensures.value read c.soup_of.result c.soup_of.ensures
