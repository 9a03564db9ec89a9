use Rattle.surf_surfaces.proofs.Common.{ℕ, ◌<◌, ◌∙◌, List, Bool, refl, sym, subst, arith, length, map, slice_index_or, IsPermutation, edge_count, loop_length}
use Rattle.surf_tree.specs.Tables.{tree_of}
use Rattle.surf_cotree.specs.Grown.{IsMarked, IsGrown as IsCotreeGrown}
use Rattle.surf_loops.specs.Heads.{head_of}
use Rattle.surf_loops.specs.Loops.{LoopTables}
use Rattle.surf_lengths.proofs.Positive.{lengths_positive}
use Rattle.surf_loops.proofs.Turned.{tree_marks, left_inside}
use Rattle.surf_loops.proofs.Chosen.{greedy_tables}
use Rattle.surf_loops.proofs.Fitting.{loop_fits}
use Rattle.surf_loops.proofs.loops.BaseLoops.find.Goals as goal

pub invariant_of-loops : goal.invariant_of-loops
invariant_of-loops c =
    let tree = c.grow.ensures.grown in
    record {
      reached = tree.made.distances;
      measured = c.requires.lengths;
      near = tree.fits;
      fit = loop_fits c.args.mesh.now c.args.lengths.now c.grow.new.self tree.made c.law_of_lengths.ensures.lengths tree.fits;
    }

pub find-requires-clause-tree : goal.find-requires-clause-tree
find-requires-clause-tree c =
    let mesh = c.args.mesh.now in
    let positive = lengths_positive mesh c.args.lengths.now c.law_of_lengths.ensures.lengths c.requires.lengths in
    let marked = tree_marks mesh c.args.lengths.now c.args.base c.grow.new.self c.law_of_surface.ensures.surface positive c.grow.ensures.grown in
    (tree_of c.grow.new.self, subst (λ (flags : List Bool). IsMarked mesh (tree_of c.grow.new.self) flags) (sym c.tree_edges.ensures.flags) marked)

pub list_heads-requires-clause-inside : goal.list_heads-requires-clause-inside
list_heads-requires-clause-inside c k d l =
    let mesh = c.args.mesh.now in
    let tree = c.grow.new.self in
    let positive = lengths_positive mesh c.args.lengths.now c.law_of_lengths.ensures.lengths c.requires.lengths in
    let marked = tree_marks mesh c.args.lengths.now c.args.base tree c.law_of_surface.ensures.surface positive c.grow.ensures.grown in
    let here = subst (λ (flags : List Bool). IsMarked mesh (tree_of tree) flags) (sym c.tree_edges.ensures.flags) marked in
    let grown = c.in_ok-edges.ensures.grown in
    let all = left_inside mesh c.tree_edges.result.now (loop_length mesh c.args.lengths.now (tree_of tree)) (tree_of tree) grown.tables here grown.grown in
    subst (λ (xs : List ℕ). (k d : ℕ) → k < length xs → slice_index_or xs k d < edge_count mesh) (grown.left ∙ sym c.left-2.ensures.left) all k d l

pub returns : goal.returns
returns c =
    let mesh = c.args.mesh.now in
    let lengths = c.args.lengths.now in
    let tree = c.grow.new.self in
    let weight = loop_length mesh lengths (tree_of tree) in
    let grown = c.in_ok-edges.ensures.grown in
    let heads = c.list_heads.new.heads.items in
    let t : LoopTables = record { tree = tree; cotree = grown.tables; heads = heads } in
    let cotree = subst (λ (flags : List Bool). IsCotreeGrown mesh flags weight grown.tables) c.tree_edges.ensures.flags grown.grown in
    let same = subst (λ (xs : List ℕ). IsPermutation (map (head_of weight) xs) heads) (c.left-2.ensures.left ∙ sym grown.left) c.list_heads.ensures.same in
    record {
      greedy = record {
        cotree = grown.tables;
        held = grown.held;
        greedy = greedy_tables mesh lengths c.args.base t weight c.law_of_surface.ensures.surface (omega (arith, c.law_of_surface.ensures.edges))
            c.law_of_lengths.ensures.lengths c.requires.lengths c.grow.ensures.grown (λ e l. refl) cotree same c.list_heads.ensures.sorted;
      };
    }
