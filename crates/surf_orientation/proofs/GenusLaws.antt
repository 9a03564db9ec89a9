-- Euler characteristics: at most 2, and even where there is a turning.
use Rattle.surf_surfaces.proofs.Common.{◌≡◌, ℕ, zero, suc, subst, ◌+◌, ◌-◌, ◌*◌, ◌<◌, ◌≤◌, true, refl, sym, ◌∙◌, ap, arith, inl, length, lt-ltb, left_edges, face_count, edge_count, IsSurface, cells_of, +ℤ_comm, +ℤ-neg_ℤ_cancel, heaviest_tree, Mesh, characteristic}
use Rattle.std.specs.Prelude.{pos, negsuc, ◌-ℤ◌, ◌≤ℤ◌}
use Rattle.surf_surfaces.proofs.classes.ClassLaws.{some_split}
use Rattle.surf_surfaces.proofs.meshes.EulerSums.{less_two}
use Rattle.surf_orientation.specs.Statements.{CountsAreEven, SurfacesHaveSplits, CharacteristicsAreAtMostTwo, CountsAreAtMostTwoMore, genus_of, GenusIsHalf, GenusIsLoopCount, LeftEdgesAreTwiceGenus, ConnectedGraphsHaveTrees}
use Rattle.surf_orientation.proofs.VertexLaws.{total_even}

pub counts_are_even : CountsAreEven
counts_are_even mesh turned surface turning = total_even mesh surface turned turning

pub surfaces_have_splits : SurfacesHaveSplits
surfaces_have_splits = some_split

pub counts_are_at_most_two_more : CountsAreAtMostTwoMore
counts_are_at_most_two_more mesh surface =
    let (d, split) = surfaces_have_splits mesh surface in
    let count : length d.left + (mesh.vertices + face_count mesh) ≡ edge_count mesh + 2 =
    left_edges (cells_of mesh) d split in
    omega arith

-- 2 less more than 2
below_zero : (d : ℕ) → pos 2 -ℤ pos (suc (suc (suc d))) ≡ negsuc (suc (suc (suc d)) - 3)
below_zero d = let below : 2 < suc (suc (suc d)) = omega arith in rw (lt-ltb 2 (suc (suc (suc d))) below)

at_most_two : (d : ℕ) → (pos 2 -ℤ pos d) ≤ℤ pos 2
at_most_two zero = record { le = tt }
at_most_two (suc zero) = record { le = tt }
at_most_two (suc (suc zero)) = record { le = tt }
at_most_two (suc (suc (suc d))) = subst (λ x. x ≤ℤ pos 2) (sym (below_zero d)) (record { le = tt })

pub at_most_one : (d : ℕ) → 1 ≤ d → (pos 2 -ℤ pos d) ≤ℤ pos 1
at_most_one zero h = absurd (omega arith)
at_most_one (suc zero) h = record { le = tt }
at_most_one (suc (suc zero)) h = record { le = tt }
at_most_one (suc (suc (suc d))) h = subst (λ x. x ≤ℤ pos 1) (sym (below_zero d)) (record { le = tt })

-- χ is 2 less the number of edges that a split leaves
pub characteristic_is : (mesh : Mesh) → IsSurface mesh →
    characteristic mesh ≡ pos 2 -ℤ pos ((edge_count mesh + 2) - (mesh.vertices + face_count mesh))
characteristic_is mesh surface =
    let few = counts_are_at_most_two_more mesh surface in
    let v = mesh.vertices in
    let e = edge_count mesh in
    let f = face_count mesh in
    let d = (e + 2) - (v + f) in
    sym (+ℤ-neg_ℤ_cancel (characteristic mesh) (pos d)) ∙ ap (λ x. x -ℤ pos d) (less_two v e f d (omega (arith, few)))

pub characteristics_are_at_most_two : CharacteristicsAreAtMostTwo
characteristics_are_at_most_two mesh surface =
    subst (λ x. x ≤ℤ pos 2) (sym (characteristic_is mesh surface))
    (at_most_two ((edge_count mesh + 2) - (mesh.vertices + face_count mesh)))

pub genus_is_loop_count : GenusIsLoopCount
genus_is_loop_count mesh turned surface turning =
    let few = counts_are_at_most_two_more mesh surface in
    let (k, even) = total_even mesh surface turned turning in
    omega (arith, few, even)

pub genus_is_half : GenusIsHalf
genus_is_half mesh turned surface turning =
    let count = genus_is_loop_count mesh turned surface turning in
    let g = 2 * genus_of mesh in
    let two = less_two mesh.vertices (edge_count mesh) (face_count mesh) g (omega (arith, count)) in
    sym (+ℤ-neg_ℤ_cancel (pos g) (characteristic mesh)) ∙ ap (λ x. x -ℤ characteristic mesh)
    (+ℤ_comm (pos g) (characteristic mesh) ∙ two)

pub left_edges_are_twice_genus : LeftEdgesAreTwiceGenus
left_edges_are_twice_genus mesh turned d surface turning split =
    let count : 2 * genus_of mesh + mesh.vertices + face_count mesh ≡ edge_count mesh + 2 =
    genus_is_loop_count mesh turned surface turning in
    let left : length d.left + (mesh.vertices + face_count mesh) ≡ edge_count mesh + 2 =
    left_edges (cells_of mesh) d split in
    omega (arith, count, left)

pub connected_graphs_have_trees : ConnectedGraphsHaveTrees
connected_graphs_have_trees g root graph connected l =
    let spanned = heaviest_tree (λ x y. true) (λ x y. inl refl) (λ x y z h k. refl) g (λ e. true) root l graph
    (λ set stays. connected set (λ e le. stays e le refl)) in
    (spanned.tree, spanned.at_root, spanned.is)
