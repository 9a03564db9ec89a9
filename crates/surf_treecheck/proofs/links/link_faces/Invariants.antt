use Rattle.surf_treecheck.specs.Paths.{AreLinks}
use Rattle.surf_treecheck.proofs.links.link_faces.Given as goal

-- the links of the faces before
abbrev pub invariant-loop-f : goal.invariant-loop-f
invariant-loop-f l = AreLinks l.mesh l.dual l.f l.parent.items l.up.items
