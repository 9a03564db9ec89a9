use Rattle.surf_cert.proofs.Common.{take, Ok, flat_map, Puts, tree_text}
use Rattle.surf_cert.proofs.write.write_trees.Given as goal

abbrev pub invariant-loop-tree : goal.invariant-loop-tree
invariant-loop-tree l = Puts {A = Unit {0}} l.fn.page l.page (flat_map tree_text (take l.tree-index l.trees)) (Ok tt)
