-- The loop of an edge through any tree of the vertices is a closed walk.
use Rattle.surf_surfaces.proofs.Common.{refl, sym, primal, cells_of, tail, loop_walk}
use Rattle.surf_graphs.proofs.Loops.{loop_closed}
use Rattle.surf_surfaces.specs.ChoiceLaws.{LoopsAreClosed}
use Rattle.surf_surfaces.proofs.meshes.CellLaws.{surfaces_are_cells}
use Rattle.surf_surfaces.proofs.walks.GraphWalkLaws.{walks_are_graph_walks}

pub loops_are_closed : LoopsAreClosed
loops_are_closed mesh tree surface is_tree e in' =
    let cells = surfaces_are_cells mesh surface in
    let walks = walks_are_graph_walks mesh surface in
    let closed = loop_closed (primal (cells_of mesh)) tree cells.complex.primal_ends is_tree e in' in
    let back = walks.from_walk tree.root tree.root (tail (loop_walk mesh tree e)) is_tree.root_in closed in
    record { is_closed = record { is_walk = back.0; returns = sym back.1 }; at_base = refl }
