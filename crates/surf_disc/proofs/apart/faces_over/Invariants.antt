use Rattle.surf_surfaces.proofs.Common.{◌≡◌, first_side}
use Rattle.surf_soup.specs.Apart.{AreAcross}
use Rattle.surf_disc.proofs.apart.faces_over.Given as goal

abbrev pub invariant-loop-f : goal.invariant-loop-f
invariant-loop-f l = record {
  rows : AreAcross l.soup l.across l.f l.rows;
  first : l.first ≡ first_side l.soup l.f;
}
