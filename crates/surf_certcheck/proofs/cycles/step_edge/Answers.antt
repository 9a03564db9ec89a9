use Rattle.surf_surfaces.proofs.Common.{◌≡◌, ◌+◌, ℕ, get_or, ap, sym, ◌∙◌, arith, get_or_default, edge_number}
use Rattle.surf_treecheck.proofs.Steps.{one_along, steps_at}
use Rattle.surf_certcheck.proofs.cycles.step_edge.Goals as goal

pub edge_between-requires : goal.edge_between-requires
edge_between-requires c =
    let list = c.args.list.now in
    let i = c.args.i in
    let near : c.index-list-i.result ≡ get_or list i 0 =
    c.index-list-i.is ∙ get_or_default list i c.index-list-i.result 0 (omega (arith, c.requires.step)) in
    let far : c.index-list-i-2.result ≡ get_or list (i + 1) 0 =
    c.index-list-i-2.is ∙ get_or_default list (i + 1) c.index-list-i-2.result 0 c.requires.step in
    record { joined = rw (near, far) (one_along c.args.mesh.now list i c.requires.step c.requires.closed.along_edges) }

pub returns-clause-edge : goal.returns-clause-edge
returns-clause-edge c =
    let list = c.args.list.now in
    let i = c.args.i in
    let near : c.index-list-i.result ≡ get_or list i 0 =
    c.index-list-i.is ∙ get_or_default list i c.index-list-i.result 0 (omega (arith, c.requires.step)) in
    let far : c.index-list-i-2.result ≡ get_or list (i + 1) 0 =
    c.index-list-i-2.is ∙ get_or_default list (i + 1) c.index-list-i-2.result 0 c.requires.step in
    c.edge_between.ensures.edge
    ∙ ap (λ (p : ℕ). edge_number c.args.mesh.now (p, c.index-list-i-2.result)) near
    ∙ ap (λ (p : ℕ). edge_number c.args.mesh.now (get_or list i 0, p)) far
    ∙ ap (edge_number c.args.mesh.now) (sym (steps_at list i (0, 0) c.requires.step))
