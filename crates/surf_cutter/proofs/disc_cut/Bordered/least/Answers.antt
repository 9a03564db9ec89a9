use Rattle.surf_slit.proofs.Common.{◌≡◌, ◌<◌, ℕ, length, get_or, sym, subst, get_or_read}
use Rattle.surf_cutter.proofs.Common.{IsLeastBorderSide, mesh_of}
use Rattle.surf_cutter.proofs.BorderTables.{border_some, border_first}
use Rattle.surf_cutter.proofs.disc_cut.Bordered.least.Goals as goal

pub index-requires : goal.index-requires
index-requires c =
    let some = border_some (mesh_of c.self.inside.disc.now) c.self.inside.sides.items c.self.invariant.is_disc c.self.invariant.all in
    subst (λ (n : ℕ). 0 < n) (sym c.self.inside.sides.ok.0) some

pub returns : goal.returns
returns c =
    let disc = mesh_of c.self.inside.disc.now in
    let sides = c.self.inside.sides.items in
    let s : ℕ = c.index.result.now in
    let some : 0 < length sides = border_some disc sides c.self.invariant.is_disc c.self.invariant.all in
    let own : s ≡ get_or sides 0 0 = get_or_read sides 0 s some c.index.ensures 0 in
    subst (λ disc. IsLeastBorderSide disc s) c.self.view_is
    (subst (IsLeastBorderSide disc) (sym own) (border_first disc sides c.self.invariant.is_disc c.self.invariant.all))
