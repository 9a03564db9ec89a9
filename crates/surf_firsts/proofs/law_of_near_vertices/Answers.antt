use Rattle.surf_firsts.proofs.NearVertices.{near_vertices_need_no_more}
use Rattle.surf_firsts.proofs.law_of_near_vertices.Goals as goal

pub returns : goal.returns
returns c = record { near = near_vertices_need_no_more }
