use Rattle.surf_slit.proofs.Common.{◌≡◌, ℕ, List, subst, rules, IsPermutation}
use Rattle.surf_cutter.proofs.Sorted.{sorted_row}
use Rattle.surf_cutter.proofs.copies.list_sides.Goals as goal

pub returns : goal.returns
returns c =
    let same : c.extend_from_slice.new.self.items ≡ c.ring.result.now = search rules in
    sorted_row c.args.mesh.now c.args.v c.ring.result.now c.sort_unstable.new.self.items c.ring.ensures.ring
    (subst (λ (xs : List ℕ). IsPermutation xs c.sort_unstable.new.self.items) same c.sort_unstable.ensures.permutation)
    c.sort_unstable.ensures.sorted
