use Rattle.std.proofs.Common.{ℕ}
use Rattle.surf_soup.proofs.ApartLaws.{JoinsUpto}
use Rattle.surf_soup.proofs.apart.join_faces.Given as goal

abbrev pub invariant-loop-side : goal.invariant-loop-side
invariant-loop-side l = (root : ℕ → ℕ) × JoinsUpto l.soup l.mate l.side l.parents root
