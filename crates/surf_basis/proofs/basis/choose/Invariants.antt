use Rattle.surf_basis.proofs.Common.{◌≡◌, AreCyclesOf, HaveWalks}
use Rattle.surf_basis.specs.Kept.{AreKeptOver}
use Rattle.surf_basis.proofs.basis.choose.Given as goal

abbrev pub invariant-loop-base : goal.invariant-loop-base
invariant-loop-base l = record {
  same : l.finder ≡ l.fn.finder;
  width : l.choice.width ≡ l.fn.choice.width;
  least : l.least.width ≡ l.fn.choice.width;
  kept : AreKeptOver l.fn.finder.mesh l.fn.finder.lengths l.fn.finder.signs l.found l.bases l.base-index l.choice.kept;
  cycles : AreCyclesOf l.fn.finder.mesh l.fn.finder.lengths l.choice.kept l.cycles.items;
  walks : HaveWalks l.fn.finder.mesh l.fn.finder.lengths l.cycles.items;
}
