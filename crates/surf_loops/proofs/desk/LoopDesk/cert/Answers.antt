use Rattle.surf_surfaces.proofs.Common.{◌≡◌, ◌∙◌, map, sym, ap, subst, arith, ends}
use Rattle.surf_validity.specs.Valid.{IsValidLoops}
use Rattle.surf_validity.specs.Chosen.{chosen_cert, rows_for, dual_rows_of}
use Rattle.surf_validity.proofs.ChosenLaws.{chosen_loops_are_valid}
use Rattle.surf_records.specs.Fits.{LoopFits}
use Rattle.surf_records.proofs.ChosenFits.{chosen_loops_fit}
use Rattle.surf_tree.specs.Tables.{TreeTables, tree_of}
use Rattle.surf_cotree.specs.Tables.{CotreeTables, cotree_of}
use Rattle.surf_loops.specs.Loops.{trees_of}
use Rattle.surf_lengths.proofs.Positive.{lengths_positive}
use Rattle.surf_loops.proofs.Rows.{numbers_fit, cert_shown}
use Rattle.surf_loops.proofs.desk.LoopDesk.cert.Goals as goal

pub returns : goal.returns
returns c =
    let mesh = c.args.mesh.now in
    let lengths = c.args.lengths.now in
    let t = c.args.self.now in
    let g = c.requires.greedy in
    let surface = c.law_of_surface.ensures.surface in
    let positive = lengths_positive mesh lengths c.law_of_lengths.ensures.lengths c.requires.lengths in
    let numbers = numbers_fit mesh lengths (omega (arith, c.law_of_surface.ensures.vertices)) (omega (arith, c.law_of_surface.ensures.faces))
    (omega (arith, c.law_of_lengths.ensures.few)) c.requires.lengths c.law_of_lengths.ensures.lengths in
    let is : c.make.result ≡ chosen_cert mesh (trees_of t) =
    cert_shown mesh lengths t.tree.base t c.make.result c.in_ok-tree.tree c.in_ok-dual.dual c.in_ok-left.left.items surface positive g c.make.ensures.parts
    (c.in_ok-tree.ensures.rows ∙ ap (λ (x : TreeTables). rows_for mesh (tree_of x)) c.tree.ensures.tree)
    (c.in_ok-dual.ensures.rows ∙ ap (λ (x : CotreeTables). dual_rows_of mesh (cotree_of x)) c.cotree.ensures.cotree)
    (c.in_ok-left.ensures.pairs ∙ ap (λ (x : CotreeTables). map (ends mesh) x.left) c.cotree-2.ensures.cotree) in
    record {
      cert = is;
      valid = subst (IsValidLoops mesh lengths) (sym is) (chosen_loops_are_valid mesh lengths t.tree.base (trees_of t) surface positive g.chosen);
      fits = subst LoopFits (sym is) (chosen_loops_fit mesh lengths surface positive numbers t.tree.base (trees_of t) g.chosen);
    }
