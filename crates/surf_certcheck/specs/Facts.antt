-- Facts of a tree of faces that a ghost field keeps have one proof at most.
use Rattle.std.specs.Prelude.{ℕ, Option, Some, None, get_or}
use Rattle.std.specs.Coded.{Π_prop, Unit-prop}
use Rattle.std.proofs.Props.{props}
use Rattle.surf_surfaces.specs.Mesh.{Mesh}
use Rattle.surf_surfaces.specs.Surface.{face_count}
use Rattle.surf_validity.specs.Rows.{DualRows}
use Rattle.surf_validity.specs.Valid.{side_at, IsDualRow}
use Rattle.surf_treecheck.specs.First.{HoldsBelow}
use Rattle.surf_treecheck.specs.Rows.{HasDual}
use Rattle.surf_treecheck.specs.Paths.{HasLink, AreAllLinks}
use Rattle.surf_treecheck.specs.declared.links.Links.{Links}

row_prop : (mesh : Mesh) (dual : DualRows) (f : ℕ) (side : Option (ℕ × ℕ)) → IsProp (IsDualRow mesh dual f side)
row_prop mesh dual f None = hlevel props
row_prop mesh dual f (Some side) = hlevel props

pub tree_prop : (mesh : Mesh) (dual : DualRows) → IsProp (HoldsBelow (face_count mesh) (HasDual mesh dual))
tree_prop mesh dual = Π_prop λ f. Π_prop λ _. row_prop mesh dual f (side_at dual f)

link_prop : (mesh : Mesh) (f : ℕ) (side : Option (ℕ × ℕ)) (face edge : ℕ) → IsProp (HasLink mesh f side face edge)
link_prop mesh f None face edge = Unit-prop
link_prop mesh f (Some side) face edge = hlevel props

pub links_prop : (mesh : Mesh) (dual : DualRows) (links : Links) → IsProp (AreAllLinks mesh dual links)
links_prop mesh dual links =
    let each : (f : ℕ) →
    IsProp (HasLink mesh f (side_at dual f) (get_or links.parent.items f 0) (get_or links.up.items f 0)) =
    λ f. link_prop mesh f (side_at dual f) (get_or links.parent.items f 0) (get_or links.up.items f 0) in
    hlevel (props, each)
