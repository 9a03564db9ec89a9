use Rattle.surf_surfaces.proofs.Common.{◌≡◌, ◌<◌, ℕ, List, get_or, length, sym, ap, subst, ◌∙◌, arith, get_or_read, edge_count, ends}
use Rattle.surf_surfaces.proofs.meshes.CellLaws.{ends_below}
use Rattle.surf_disc.specs.Border.{AllInside, IsFirstOutside}
use Rattle.surf_disc.proofs.TableLaws.{least_outside, one_border}
use Rattle.surf_disc.proofs.border.refuse_second.Goals as goal

pub first_outside-requires-clause-ends : goal.first_outside-requires-clause-ends
first_outside-requires-clause-ends c = λ e in'.
    let mesh = c.args.tabled.now.soup.now in
    let same = c.deref.ensures.value ∙ c.args.tabled.now.is_table.edge_list_is in
    let lt : e < edge_count mesh = omega (arith, in', ap length same) in
    let low = ends_below mesh c.law_of_soup.ensures.mesh e lt in
    omega (arith, low.0, low.1, ap (λ (xs : List (ℕ × ℕ)). (get_or xs e (0, 0)).0) same, c.requires.marks.size)

pub returns-in-Some-clause-fault : goal.returns-in-Some-clause-fault
returns-in-Some-clause-fault c =
    let mesh = c.args.tabled.now.soup.now in
    let is_mesh = c.law_of_soup.ensures.mesh in
    let t = c.args.tabled.now.is_table in
    let list = c.args.tabled.now.table.now.edges.items in
    let e = c.args.e in
    let h = c.in-Some.h in
    let F : List (ℕ × ℕ) → Type 0 = λ ps. IsFirstOutside c.args.tabled.now.table.now.sides ps c.args.seen.now h in
    let first = subst F c.deref.ensures.value c.in-Some.ensures.first in
    let outside = least_outside mesh is_mesh _ _ _ _ _ t e c.args.seen.now c.requires.marks h first in
    let at = c.requires.least.on_border.0 in
    let there = outside.on_border.0 in
    let own : c.index-in-Some.result.now ≡ ends mesh e = get_or_read list c.index.result c.index-in-Some.result.now
    (omega (arith, ap length t.edge_list_is, c.index.ensures)) c.index-in-Some.ensures (0, 0)
    ∙ ap (λ i. get_or list i (0, 0)) c.index.ensures
    ∙ ap (λ (xs : List (ℕ × ℕ)). get_or xs e (0, 0)) t.edge_list_is in
    let other : c.index-in-Some-2.result.now ≡ ends mesh h = get_or_read list h c.index-in-Some-2.result.now
    (omega (arith, ap length t.edge_list_is)) c.index-in-Some-2.ensures (0, 0)
    ∙ ap (λ (xs : List (ℕ × ℕ)). get_or xs h (0, 0)) t.edge_list_is in
    (c.requires.patch, (e, h, c.requires.least, outside, sym own, sym other))

pub returns-clause-one : goal.returns-clause-one
returns-clause-one c =
    let F : List (ℕ × ℕ) → Type 0 = λ ps. AllInside c.args.tabled.now.table.now.sides ps c.args.seen.now
    (length c.args.tabled.now.table.now.sides) in
    one_border c.args.tabled.now.soup.now c.law_of_soup.ensures.mesh _ _ _ _ _ c.args.tabled.now.is_table c.args.e c.args.seen.now
    c.requires.marks (subst F c.deref.ensures.value c.in_default.ensures.first)
