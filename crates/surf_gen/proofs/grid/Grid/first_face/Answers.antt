use Rattle.surf_gen.proofs.grid.Grid.first_face.Goals as goal

pub returns-clause-face : goal.returns-clause-face
returns-clause-face c =
    rw (c.vertex.ensures.vertex, c.vertex-2.ensures.vertex, c.vertex-3.ensures.vertex)
    ((c.law_of_tori.ensures.faces c.args.self.rows c.args.self.columns c.args.self.tall c.args.self.wide).first
    c.args.cell c.requires)
