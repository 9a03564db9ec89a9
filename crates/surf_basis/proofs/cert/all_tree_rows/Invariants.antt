use Rattle.surf_basis.proofs.Common.{AreTreeTables, AreTreeRowsBelow}
use Rattle.surf_basis.proofs.cert.all_tree_rows.Given as goal

abbrev pub invariant-loop-base : goal.invariant-loop-base
invariant-loop-base l = record {
  made : AreTreeTables l.mesh l.tree;
  rows : AreTreeRowsBelow l.mesh l.lengths l.base l.rows.items;
}
