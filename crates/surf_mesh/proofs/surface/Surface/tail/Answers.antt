use Rattle.surf_surfaces.proofs.Common.{◌≡◌, ◌<◌, ℕ, List, get_or, length, sym, ap, subst, ◌∙◌, arith, get_or_read, Mesh, side_count}
use Rattle.surf_soup.specs.Vertices.{all_corners}
use Rattle.surf_soup.specs.Ring.{BeginsAt}
use Rattle.surf_soup.proofs.VertexLaws.{corners_len}
use Rattle.surf_mesh.proofs.surface.Surface.tail.Goals as goal

pub bounds-items-index : goal.bounds-items-index
bounds-items-index c =
    let m : Mesh = record { vertices = c.self.inside.vertices; faces = c.self.inside.faces } in
    omega (arith, c.requires, ap side_count c.self.view_is, c.index.ensures, ap length c.items.ensures, corners_len m)

pub returns : goal.returns
returns c =
    let m : Mesh = record { vertices = c.self.inside.vertices; faces = c.self.inside.faces } in
    let s = c.args.s in
    let lt : s < side_count m = omega (arith, c.requires, ap side_count c.self.view_is) in
    let read : get_or (all_corners m) s 0 ≡ c.index-items-index.result =
    sym (get_or_read c.items.result.now c.index.result c.index-items-index.result
    (omega (arith, lt, c.index.ensures, ap length c.items.ensures, corners_len m)) c.index-items-index.is 0
    ∙ ap (λ i. get_or c.items.result.now i 0) c.index.ensures ∙ ap (λ (xs : List ℕ). get_or xs s 0) c.items.ensures) in
    let P : Mesh → Type 0 = λ mesh. BeginsAt mesh c.index-items-index.result s in
    subst P c.self.view_is (lt, read)
