-- What is least in total is least place by place.
use Rattle.surf_surfaces.proofs.Common.{◌≡◌, ℕ, ◌<◌, ◌≤◌, List, [], ◌∷◌, length, All, subst, arith, Mesh, IsSurface, walks as walks_of, loops_at, IsClosedAt, ArePositive}
use Rattle.surf_surfaces.specs.Homology.{IsIndependent, total, IsLeastLoopSystem, IsLeastBasis}
use Rattle.surf_surfaces.specs.Places.{AreNoLonger, IsLeastLoopSystemInOrder, IsLeastBasisInOrder}
use Rattle.surf_surfaces.specs.PlaceLaws.{LoopSystemsAreLeastInOrder, BasesAreLeastInOrder, LeastLoopSystemsAreAlike, LeastBasesAreAlike}
use Rattle.surf_surfaces.proofs.walks.GraphWalkLaws.{graph_walk}
use Rattle.surf_surfaces.proofs.bases.LoopsAtLaws.{loops_are_least}
use Rattle.surf_surfaces.proofs.bases.BasisLaws.{basis_is_least, basis_is_one}
use Rattle.surf_surfaces.proofs.bases.ChoiceExists.{choice_exists}
use Rattle.surf_surfaces.proofs.classes.NoLongerLaws.{no_longer, same_lengths, same_counts}

-- ---- what is least

-- where one list is no longer than others, a list that totals no more than it is no longer than them either
no_longer_from : (mesh : Mesh) (lengths : List ℕ) (one ws others : List (List ℕ)) → AreNoLonger mesh lengths one ws →
    length ws ≡ length one → total mesh lengths ws ≤ total mesh lengths one → AreNoLonger mesh lengths one others →
    AreNoLonger mesh lengths ws others
no_longer_from mesh lengths one ws others low count less h limit =
    let same = same_counts mesh lengths one ws (same_lengths mesh lengths one ws low count less) limit in
    let bound = h limit in
    omega arith

loop_systems_in_order : (mesh : Mesh) (lengths : List ℕ) (base : ℕ) (ws : List (List ℕ)) → IsSurface mesh →
    ArePositive mesh lengths → IsLeastLoopSystem mesh lengths base ws →
    IsLeastLoopSystemInOrder mesh lengths base ws
loop_systems_in_order mesh lengths base ws surface positive least = record { is_system = least.is_system; least = each }
  where
    each : (others : List (List ℕ)) → All (IsClosedAt mesh base) others → IsIndependent mesh others →
        AreNoLonger mesh lengths ws others
    each [] closed free = λ limit. omega arith
    each (o ∷ os) closed free =
        let first_closed = closed 0 o (omega arith) in
        let base_in : base < mesh.vertices = subst (λ v. v < mesh.vertices) first_closed.at_base
        (graph_walk mesh surface lengths o first_closed.is_closed).start_in in
        let (trees, chosen) = choice_exists mesh lengths surface positive in
        let loops = walks_of (loops_at mesh lengths base (trees base)) in
        let one = (loops_are_least mesh lengths base (trees base) surface positive (chosen base base_in)).least_in_order in
        let here = least.is_system in
        let count = here.count in
        let other_count = one.is_system.count in
        no_longer_from mesh lengths loops ws (o ∷ os) (one.least ws here.at_base here.independent) (omega arith)
        (least.least loops one.is_system) (one.least (o ∷ os) closed free)

bases_in_order : (mesh : Mesh) (lengths : List ℕ) (ws : List (List ℕ)) → IsSurface mesh → ArePositive mesh lengths →
    IsLeastBasis mesh lengths ws → IsLeastBasisInOrder mesh lengths ws
bases_in_order mesh lengths ws surface positive least = record {
  is_basis = least.is_basis;
  least = λ others closed free.
      let (trees, chosen) = choice_exists mesh lengths surface positive in
      let (basis, is, unique) = basis_is_one mesh lengths trees surface positive chosen in
      let one = (basis_is_least mesh lengths trees basis surface positive chosen is).least_in_order in
      let here = least.is_basis in
      let count = here.count in
      let other_count = one.is_basis.count in
      no_longer_from mesh lengths (walks_of basis) ws others (one.least ws here.closed here.independent) (omega arith)
      (least.least (walks_of basis) one.is_basis) (one.least others closed free);
}

pub loop_systems_are_least_in_order : LoopSystemsAreLeastInOrder
loop_systems_are_least_in_order mesh lengths base ws surface positive = (
  loop_systems_in_order mesh lengths base ws surface positive,
  λ h. record {
    is_system = h.is_system;
    least = λ others system.
        let a = h.is_system.count in
        let b = system.count in
        (no_longer mesh lengths ws others).total (h.least others system.at_base system.independent) (omega arith);
  },
)

pub bases_are_least_in_order : BasesAreLeastInOrder
bases_are_least_in_order mesh lengths ws surface positive = (
  bases_in_order mesh lengths ws surface positive,
  λ h. record {
    is_basis = h.is_basis;
    least = λ others basis.
        let a = h.is_basis.count in
        let b = basis.count in
        (no_longer mesh lengths ws others).total (h.least others basis.closed basis.independent) (omega arith);
  },
)

pub least_loop_systems_are_alike : LeastLoopSystemsAreAlike
least_loop_systems_are_alike mesh lengths base ws others surface positive a b =
    let h = loop_systems_in_order mesh lengths base ws surface positive a in
    let here = a.is_system in
    let there = b.is_system in
    let count = here.count in
    let other_count = there.count in
    same_lengths mesh lengths ws others (h.least others there.at_base there.independent) (omega arith)
    (b.least ws here)

pub least_bases_are_alike : LeastBasesAreAlike
least_bases_are_alike mesh lengths ws others surface positive a b =
    let h = bases_in_order mesh lengths ws surface positive a in
    let here = a.is_basis in
    let there = b.is_basis in
    let count = here.count in
    let other_count = there.count in
    same_lengths mesh lengths ws others (h.least others there.closed there.independent) (omega arith)
    (b.least ws here)
