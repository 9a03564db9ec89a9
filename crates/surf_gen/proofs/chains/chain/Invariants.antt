use Rattle.std.proofs.Common.{◌≡◌, ◌-◌}
use Rattle.surf_tori.specs.Chain.{longer_chain}
use Rattle.surf_tori.proofs.PartLaws.{IsPart}
use Rattle.surf_gen.proofs.chains.chain.Given as goal

abbrev pub invariant-loop-torus : goal.invariant-loop-torus
invariant-loop-torus l = record {
  vertices : l.soup.vertices ≡ (longer_chain (l.g - 1) l.a l.b).vertices;
  part : IsPart (l._torus - 1) l.a l.b l.soup.faces l.numbers.items l.from;
  start : l.start ≡ (longer_chain (l._torus - 1) l.a l.b).vertices;
}
