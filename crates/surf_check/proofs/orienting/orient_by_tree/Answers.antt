use Rattle.surf_surfaces.proofs.Common.{◌≡◌, List, Bool, length, sym, subst, face_count, IsOrientation, IsOrientable, Link, IsOneSided}
use Rattle.surf_surfaces.proofs.meshes.OrientationLaws.{one_sided_chains_exclude_orientations}
use Rattle.surf_orientation.specs.Chains.{Fits, tree_chain}
use Rattle.surf_orientation.proofs.OneSidedLaws.{misfits_are_one_sided}
use Rattle.surf_check.specs.Growth.{flag_of}
use Rattle.surf_check.specs.Oriented.{tree_in}
use Rattle.surf_check.proofs.orienting.orient_by_tree.Goals as goal

pub returns-in-None : goal.returns-in-None
returns-in-None c =
    let mesh = c.args.mesh.now in
    let P : List Bool → Type 0 = λ xs. (length xs ≡ face_count mesh) × IsOrientation mesh (flag_of xs) in
    let Q : List Bool → Type 0 = λ xs. IsOrientation mesh (flag_of xs) in
    subst P (sym c.from_flags.ensures) (
      c.in_ok-tree.ensures.flag_count,
      subst Q c.deref.ensures.value c.in-None.ensures,
    )

pub returns-in_ok-close-in-Some : goal.returns-in_ok-close-in-Some
returns-in_ok-close-in-Some c =
    let mesh = c.args.mesh.now in
    let surface = c.law_of_surface.ensures.surface in
    let tree = c.in_ok-tree.tree in
    let is = c.in_ok-tree.ensures in
    let t = tree_in tree in
    let e = c.in-Some.edge in
    let N : List Bool → Type 0 = λ xs. Fits mesh (flag_of xs) e → ⊥ in
    let one = misfits_are_one_sided mesh t (flag_of tree.flags.items) surface is.is_tree is.follows e
    c.in-Some.ensures.0 (subst N c.deref.ensures.value c.in-Some.ensures.1) in
    let P : List Link → Type 0 = λ links. IsOneSided mesh links × (IsOrientable mesh → ⊥) in
    subst P (sym c.in_ok-close-in-Some.ensures) (
      one,
      one_sided_chains_exclude_orientations mesh surface (tree_chain mesh t e) one,
    )
