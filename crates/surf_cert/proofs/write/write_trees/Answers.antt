use Rattle.surf_cert.proofs.Common.{◌<◌, ◌≤◌, length, get_or, refl, subst, flat_map, err_from_is_err_and, Puts, loop_more, loop_stop, loop_done, TreeRows, tree_text}
use Rattle.surf_cert.proofs.write.write_trees.Goals as goal

pub returns-in_err-write_tree : goal.returns-in_err-write_tree
returns-in_err-write_tree c =
    let xs = c.args.trees.now in
    let i = c.loop-tree.tree-index in
    let lt : i < length xs = c.loop-tree-test.true in
    let one : Puts c.loop-tree.page c.write_tree.new.page (tree_text (get_or xs i c.tree-item.result)) c.write_tree.result = subst (λ (x : TreeRows). Puts c.loop-tree.page c.write_tree.new.page (tree_text x) c.write_tree.result) c.tree-item.is (c.write_tree.ensures.puts) in
    let p = err_from_is_err_and c.from_residual.result c.from_residual.ensures.1 in
    record { puts = loop_stop (flat_map tree_text) tree_text refl (λ x xs. refl) xs i c.tree-item.result lt c.args.page.now c.loop-tree.page c.write_tree.new.page (tt {0}) c.loop-tree.invariant c.write_tree.result c.in_err-write_tree.field-0.0 c.from_residual.result c.in_err-write_tree.was (rw (p.1, p.2) refl) one }

pub loop-tree-preserved : goal.loop-tree-preserved
loop-tree-preserved c =
    let xs = c.args.trees.now in
    let i = c.loop-tree.tree-index in
    let lt : i < length xs = c.loop-tree-test.true in
    let one : Puts c.loop-tree.page c.write_tree.new.page (tree_text (get_or xs i c.tree-item.result)) c.write_tree.result = subst (λ (x : TreeRows). Puts c.loop-tree.page c.write_tree.new.page (tree_text x) c.write_tree.result) c.tree-item.is (c.write_tree.ensures.puts) in
    loop_more (flat_map tree_text) tree_text refl (λ x xs. refl) xs i c.tree-item.result lt c.args.page.now c.loop-tree.page c.write_tree.new.page (tt {0}) c.loop-tree.invariant c.write_tree.result c.in_ok-write_tree.field-0 c.in_ok-write_tree.was one

pub returns : goal.returns
returns c =
    let xs = c.args.trees.now in
    let le : length xs ≤ c.loop-tree.tree-index = c.loop-tree-test.false in
    record { puts = loop_done (flat_map tree_text) tree_text refl (λ x xs. refl) xs c.loop-tree.tree-index c.args.page.now c.loop-tree.page (tt {0}) le c.loop-tree.invariant }
