use Rattle.surf_near.proofs.Common.{◌≡◌, ◌∙◌, take, arith, take_all, length-map}
use Rattle.surf_near.proofs.Linking.{link_over, links_over}
use Rattle.surf_near.proofs.RowCounts.{row_length}
use Rattle.surf_near.proofs.links.list_links.Goals as goal

pub returns-clause-links : goal.returns-clause-links
returns-clause-links c =
    let edges = c.ring_edges-edges.result.now in
    let all : take c.loop-e.e-index edges ≡ edges = take_all c.loop-e.e-index edges (omega arith) in
    rw (c.loop-e.invariant, all) (links_over c.args.mesh.now c.args.lengths.now c.args.v edges c.requires.mesh c.ring_edges-edges.ensures.edges)

pub returns-clause-few : goal.returns-clause-few
returns-clause-few c =
    let edges = c.ring_edges-edges.result.now in
    let all : take c.loop-e.e-index edges ≡ edges = take_all c.loop-e.e-index edges (omega arith) in
    rw (c.loop-e.invariant, all) (length-map edges (link_over c.args.mesh.now c.args.lengths.now c.args.v) ∙ row_length c.args.mesh.now c.args.v edges c.ring_edges-edges.ensures.edges)
