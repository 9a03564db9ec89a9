use Rattle.surf_surfaces.proofs.Common.{◌≡◌, ℕ, List, Ok, Err, ap, sym, ◌∙◌, arith, err_from_is_err_and, edges, ends}
use Rattle.surf_surfaces.proofs.meshes.CellLaws.{surfaces_are_cells}
use Rattle.surf_geom.specs.Measures.{length_of}
use Rattle.surf_geom.proofs.EachLaws.{each_none, each_more, each_stop, each_done, each_length}
use Rattle.surf_geom.proofs.measures.edge_lengths.Goals as goal

pub loop-e-init : goal.loop-e-init
loop-e-init c = record { so_far = each_none (length_of c.args.points.now c.args.unit) ∙ ap (λ (ns : List ℕ). Ok ns) (sym c.in_ok-lengths.ensures.items) }

pub edge_length-requires-clause-from : goal.edge_length-requires-clause-from
edge_length-requires-clause-from c =
    let inside = (surfaces_are_cells c.args.mesh.now c.edges-edges.ensures.surface).complex.primal_ends c.loop-e.e (omega arith) in
    let same = ap (λ (p : ℕ × ℕ). p.0) (c.ends-u.ensures ∙ ap (ends c.args.mesh.now) c.new.ensures) in
    omega (arith, inside.0, same)

pub edge_length-requires-clause-to : goal.edge_length-requires-clause-to
edge_length-requires-clause-to c =
    let inside = (surfaces_are_cells c.args.mesh.now c.edges-edges.ensures.surface).complex.primal_ends c.loop-e.e (omega arith) in
    let same = ap (λ (p : ℕ × ℕ). p.1) (c.ends-u.ensures ∙ ap (ends c.args.mesh.now) c.new.ensures) in
    omega (arith, inside.1, same)

pub returns-in_err-edge_length-clause-lengths : goal.returns-in_err-edge_length-clause-lengths
returns-in_err-edge_length-clause-lengths c =
    let f = length_of c.args.points.now c.args.unit in
    let here : f (ends c.args.mesh.now c.loop-e.e) ≡ Err c.in_err-edge_length.field-0.0 = sym (c.in_err-edge_length.ensures.length ∙ ap f (c.ends-u.ensures ∙ ap (ends c.args.mesh.now) c.new.ensures)) in
    let stop = each_stop f (edges c.args.mesh.now) c.loop-e.e (0, 0) c.loop-e.lengths.items c.in_err-edge_length.field-0.0 (omega arith) c.loop-e.invariant.so_far here in
    let p = err_from_is_err_and c.from_residual-in_err-edge_length.result c.from_residual-in_err-edge_length.ensures.1 in
    rw (p.1, p.2) (λ other. stop)

pub loop-e-preserved : goal.loop-e-preserved
loop-e-preserved c =
    let f = length_of c.args.points.now c.args.unit in
    let here : f (ends c.args.mesh.now c.loop-e.e) ≡ Ok c.in_ok-edge_length.field-0 = sym (c.in_ok-edge_length.ensures.length ∙ ap f (c.ends-u.ensures ∙ ap (ends c.args.mesh.now) c.new.ensures)) in
    let more = each_more f (edges c.args.mesh.now) c.loop-e.e (0, 0) c.loop-e.lengths.items c.in_ok-edge_length.field-0 (omega arith) c.loop-e.invariant.so_far here in
    let items = rw c.in_ok-push.was at c.push.ensures.items in
    record { so_far = more ∙ ap (λ (ns : List ℕ). Ok ns) (sym items) }

pub returns-clause-few : goal.returns-clause-few
returns-clause-few c =
    let done = each_done (length_of c.args.points.now c.args.unit) (edges c.args.mesh.now) c.loop-e.e c.loop-e.lengths.items (omega arith) c.loop-e.invariant.so_far in
    let count = each_length (length_of c.args.points.now c.args.unit) (edges c.args.mesh.now) c.loop-e.lengths.items done in
    omega arith
