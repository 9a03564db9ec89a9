use Rattle.surf_cert.proofs.Common.{◌≡◌, take}
use Rattle.surf_class.proofs.Common.{is_flagged, is_odd_in}
use Rattle.surf_class.proofs.check.is_odd.Given as goal

-- the pairs before
abbrev pub invariant-loop-i : goal.invariant-loop-i
invariant-loop-i l = l.odd ≡ is_odd_in l.flagged.mesh.now (is_flagged l.flagged.flags.now) (take l.i l.pairs)
