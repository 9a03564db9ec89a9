use Rattle.surf_surfaces.proofs.Common.{ℕ, ◌≡◌, ◌<◌, List, Bool, refl, sym, subst, arith, length, map, slice_index_or, IsPermutation, Mesh, edge_count, loop_length}
use Rattle.surf_tree.specs.Tables.{tree_of}
use Rattle.surf_tree.specs.Grown.{IsGrown as IsTreeGrown}
use Rattle.surf_cotree.specs.Grown.{IsMarked, IsGrown as IsCotreeGrown}
use Rattle.surf_loops.specs.Heads.{head_of}
use Rattle.surf_loops.specs.Loops.{LoopTables}
use Rattle.surf_lengths.proofs.Positive.{lengths_positive}
use Rattle.surf_loops.proofs.Turned.{tree_marks, left_inside}
use Rattle.surf_loops.proofs.Chosen.{greedy_tables}
use Rattle.surf_loops.proofs.Fitting.{loop_fits}
use Rattle.surf_loops.proofs.desk.LoopDesk.find_loops.Goals as goal

-- the tree that a desk is given with stands in its fields
grown_inside : (mesh : Mesh) (lengths : List ℕ) (inside given : LoopTables) → inside ≡ given → IsTreeGrown mesh lengths given.tree.base given.tree → IsTreeGrown mesh lengths given.tree.base inside.tree
grown_inside mesh lengths inside given same = subst (λ (t : LoopTables). IsTreeGrown mesh lengths given.tree.base t.tree) (sym same)

pub invariant_of-loops : goal.invariant_of-loops
invariant_of-loops c =
    let tree = grown_inside c.args.mesh.now c.args.lengths.now _ c.args.self.now c.self.view_is c.requires.tree in
    record {
      reached = tree.made.distances;
      measured = c.requires.lengths;
      near = tree.fits;
      fit = loop_fits c.args.mesh.now c.args.lengths.now c.self.inside.tree tree.made c.law_of_lengths.ensures.lengths tree.fits;
    }

pub grow_by-requires-clause-tree : goal.grow_by-requires-clause-tree
grow_by-requires-clause-tree c =
    let mesh = c.args.mesh.now in
    let base = c.args.self.now.tree.base in
    let tree = grown_inside mesh c.args.lengths.now _ c.args.self.now c.self.view_is c.requires.tree in
    let positive = lengths_positive mesh c.args.lengths.now c.law_of_lengths.ensures.lengths c.requires.lengths in
    let marked = tree_marks mesh c.args.lengths.now base c.self.inside.tree c.law_of_surface.ensures.surface positive tree in
    (tree_of c.self.inside.tree, subst (λ (flags : List Bool). IsMarked mesh (tree_of c.self.inside.tree) flags) (sym c.tree_edges.ensures.flags) marked)

pub list_heads-requires-clause-inside : goal.list_heads-requires-clause-inside
list_heads-requires-clause-inside c k d l =
    let mesh = c.args.mesh.now in
    let base = c.args.self.now.tree.base in
    let tree = grown_inside mesh c.args.lengths.now _ c.args.self.now c.self.view_is c.requires.tree in
    let positive = lengths_positive mesh c.args.lengths.now c.law_of_lengths.ensures.lengths c.requires.lengths in
    let marked = tree_marks mesh c.args.lengths.now base c.self.inside.tree c.law_of_surface.ensures.surface positive tree in
    let here = subst (λ (flags : List Bool). IsMarked mesh (tree_of c.self.inside.tree) flags) (sym c.tree_edges.ensures.flags) marked in
    let all = left_inside mesh c.tree_edges.result.now (loop_length mesh c.args.lengths.now (tree_of c.self.inside.tree)) (tree_of c.self.inside.tree) c.grow_by.new.self here c.grow_by.ensures.grown in
    subst (λ (xs : List ℕ). (k d : ℕ) → k < length xs → slice_index_or xs k d < edge_count mesh) (sym c.left.ensures.left) all k d l

pub returns : goal.returns
returns c =
    let mesh = c.args.mesh.now in
    let base = c.args.self.now.tree.base in
    let tree = grown_inside mesh c.args.lengths.now _ c.args.self.now c.self.view_is c.requires.tree in
    let weight = loop_length mesh c.args.lengths.now (tree_of c.self.inside.tree) in
    let cot = c.grow_by.new.self in
    let heads = c.list_heads.new.heads.items in
    let t : LoopTables = record { tree = c.self.inside.tree; cotree = cot; heads = heads } in
    let grown = subst (λ (flags : List Bool). IsCotreeGrown mesh flags weight cot) c.tree_edges.ensures.flags c.grow_by.ensures.grown in
    let same = subst (λ (xs : List ℕ). IsPermutation (map (head_of weight) xs) heads) c.left.ensures.left c.list_heads.ensures.same in
    record {
      greedy = greedy_tables mesh c.args.lengths.now base t weight c.law_of_surface.ensures.surface (omega (arith, c.law_of_surface.ensures.edges))
          c.law_of_lengths.ensures.lengths c.requires.lengths tree (λ e l. refl) grown same c.list_heads.ensures.sorted;
    }
