-- Whether a surface has two sides or one.
use Rattle.std.specs.Prelude.{◌≡◌, length}
use Rattle.surf_graphs.specs.Trees.{Tree}
use Rattle.surf_surfaces.specs.Mesh.{Mesh}
use Rattle.surf_surfaces.specs.Surface.{face_count, IsOrientation, IsOrientable}
use Rattle.surf_surfaces.specs.Turning.{IsOneSided}
use Rattle.surf_check.specs.Growth.{flag_of, grown_tree}
use Rattle.surf_check.specs.declared.face_tree.FaceTree.{FaceTree}
use Rattle.surf_check.specs.declared.answers.Sides.{Sides}
use Rattle.surf_check.specs.declared.answers.Sides.TheVariants.{Two, One}

-- the tree of its tables
abbrev pub tree_in : FaceTree → Tree
tree_in t = grown_tree t.parent.items t.up.items t.rank.items

-- the flags are a turning, or else the chain is one-sided and there is no turning
abbrev pub AreSides : Mesh → Sides → Type 0
AreSides mesh (Two flags) = (length flags ≡ face_count mesh) × IsOrientation mesh (flag_of flags)
AreSides mesh (One links) = IsOneSided mesh links × (IsOrientable mesh → ⊥)
