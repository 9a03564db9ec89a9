use Rattle.surf_surfaces.proofs.Common.{◌≡◌, ℕ, List, [], get_or, length, sym, ap, subst, ◌∙◌, arith, get_or_read, ends}
use Rattle.surf_soup.specs.Pairs.{IsLeastBorder}
use Rattle.surf_soup.proofs.Owners.{length-owners}
use Rattle.surf_soup.proofs.Paired.{rows_len, row_side, least_border}
use Rattle.surf_soup.proofs.pairs.border_at.Goals as goal

pub face_in-face-requires-clause-side : goal.face_in-face-requires-clause-side
face_in-face-requires-clause-side c =
    let mesh = c.args.soup.now in
    let rows = c.args.table.now.sides in
    let face_of = c.args.table.now.face_of.items in
    let t = c.requires.table in
    let n = rows_len mesh c.law_of_soup.ensures.mesh rows face_of t.sides_are t.face_of_is in
    let first = c.requires.first in
    let lt = row_side mesh c.law_of_soup.ensures.mesh rows face_of t.sides_are t.face_of_is c.args.e 0
    (omega (arith, first.is_row)) (omega (arith, first.at_least)) in
    omega (
      arith,
      lt,
      ap (λ (r : List ℕ). get_or r 0 0) c.row.ensures,
      ap length (c.deref.ensures.value ∙ t.face_of_is),
      length-owners 0 mesh.faces,
    )

pub returns-clause-fault : goal.returns-clause-fault
returns-clause-fault c =
    let mesh = c.args.soup.now in
    let rows = c.args.table.now.sides in
    let face_of = c.args.table.now.face_of.items in
    let t = c.requires.table in
    let e = c.args.e in
    let first = c.requires.first in
    let n = rows_len mesh c.law_of_soup.ensures.mesh rows face_of t.sides_are t.face_of_is in
    let border = least_border mesh c.law_of_soup.ensures.mesh rows face_of t.sides_are t.face_of_is e first in
    let pair : c.index.result.now ≡ ends mesh e =
    get_or_read c.args.table.now.edges.items e c.index.result.now
    (omega (arith, first.is_row, ap length t.edge_list_is)) c.index.ensures (0, 0)
    ∙ ap (λ (xs : List (ℕ × ℕ)). get_or xs e (0, 0)) t.edge_list_is in
    let face : c.face_in-face.result ≡ get_or face_of (get_or (get_or rows e []) 0 0) 0 = c.face_in-face.ensures
    ∙ ap (λ (xs : List ℕ). get_or xs (get_or c.row.result.now 0 0) 0) c.deref.ensures.value
    ∙ ap (λ (r : List ℕ). get_or face_of (get_or r 0 0) 0) c.row.ensures in
    let P : ℕ × ℕ → Type 0 = λ p. IsLeastBorder mesh p (get_or face_of (get_or (get_or rows e []) 0 0) 0) e in
    let F : ℕ → Type 0 = λ f. IsLeastBorder mesh c.index.result.now f e in
    (c.requires.some, (e, subst F (sym face) (subst P (sym pair) border)))
