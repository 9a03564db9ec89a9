use Rattle.surf_certcheck.specs.Tops.{AreTops, AreDoubts}
use Rattle.surf_certcheck.proofs.tops.clear_flags.Given as goal

-- the tops serve for the last limit, and edges whose flags are gone could not be exchanged
abbrev pub invariant-loop-k : goal.invariant-loop-k
invariant-loop-k l = record {
  tops : AreTops l.judge l.level l.tops.items;
  doubts : AreDoubts l.judge l.flags;
}
