use Rattle.std.proofs.Common.{◌≡◌, ◌<◌, ◌*◌, ◌/◌, ℕ, List, get_or, length, sym, ap, ◌∙◌, arith}
use Rattle.surf_soup.specs.FaceTables.{thirds, kept_faces}
use Rattle.surf_soup.proofs.ThirdLaws.{third_at, thirds_len}
use Rattle.surf_soup.proofs.side_faces.SideFaces.at.Goals as goal

pub returns-in-Triangles : goal.returns-in-Triangles
returns-in-Triangles c =
    let n = c.in-Triangles.field-0 in
    let s = c.args.side in
    let all : thirds n ≡ c.args.self.now = sym (ap kept_faces c.in-Triangles.is) ∙ c.self.view_is in
    let size = thirds_len n in
    let lt : s < 3 * n = omega (arith, c.requires, ap length all) in
    c.new.ensures ∙ ap (λ x. x / 3) c.number.ensures ∙ sym (third_at n s 0 lt)
    ∙ ap (λ (xs : List ℕ). get_or xs s 0) all
