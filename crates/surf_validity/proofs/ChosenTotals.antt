-- The totals of the certificates of the choice are those of the loops and of the basis that are chosen.
use Rattle.surf_surfaces.proofs.Common.{◌≡◌, ℕ, List, map, sum, ap, ◌∙◌, subst, arith, map-map, recursion_from_All, Mesh, walk_length, Loop, walks, loops_at, total, IsLeastLoopSystem}
use Rattle.std.specs.List.{All}
use Rattle.surf_surfaces.proofs.bases.BasisLaws.{basis_is_least}
use Rattle.surf_surfaces.proofs.classes.LeastLaws.{map-same}
use Rattle.surf_surfaces.proofs.bases.LoopsAtLaws.{loops_are_least}
use Rattle.surf_validity.specs.Valid.{certified_loops}
use Rattle.surf_validity.specs.Chosen.{chosen_cert}
use Rattle.surf_validity.specs.Laws.{ChosenLoopsTotal, ChosenBasisTotal}
use Rattle.surf_validity.proofs.LoopLaws.{valid_loops_are_least}
use Rattle.surf_validity.proofs.ChosenLaws.{chosen_loops_are_valid}

-- where each loop has the length of its walk
sized_total : (mesh : Mesh) (lengths : List ℕ) (loops : List Loop) →
    All (λ c. walk_length mesh lengths c.walk ≡ c.size) loops →
    total mesh lengths (walks loops) ≡ sum (map (λ c. c.size) loops)
sized_total mesh lengths loops sizes =
    ap sum (map-map (walk_length mesh lengths) (λ c. c.walk) loops
    ∙ map-same (λ c. walk_length mesh lengths c.walk) (λ c. c.size) loops
    (recursion_from_All (λ c. walk_length mesh lengths c.walk ≡ c.size) loops sizes))

-- two least loop systems have one total
pub chosen_loops_total : ChosenLoopsTotal
chosen_loops_total mesh lengths base trees surface positive chosen =
    let cert = chosen_cert mesh trees in
    let (certified, counted) = valid_loops_are_least mesh lengths cert surface positive
    (chosen_loops_are_valid mesh lengths base trees surface positive chosen) in
    let ours = subst (λ x. IsLeastLoopSystem mesh lengths x (certified_loops mesh cert)) chosen.shortest.root certified in
    let loops = loops_are_least mesh lengths base trees surface positive chosen in
    let below = ours.least (walks (loops_at mesh lengths base trees)) loops.least.is_system in
    let above = loops.least.least (certified_loops mesh cert) ours.is_system in
    let sized = sized_total mesh lengths (loops_at mesh lengths base trees) loops.sizes in
    omega (arith, counted, below, above, sized)

pub chosen_basis_total : ChosenBasisTotal
chosen_basis_total mesh lengths trees basis surface positive chosen is_basis =
    sized_total mesh lengths basis (basis_is_least mesh lengths trees basis surface positive chosen is_basis).sizes
