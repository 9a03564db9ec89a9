use Rattle.surf_surfaces.proofs.Common.{◌≡◌, ℕ, List, get_or, length, ap, ◌∙◌, arith, get_or_read, ends}
use Rattle.surf_disc.proofs.BorderLaws.{near_inside, border_start, border_marked}
use Rattle.surf_disc.proofs.border.mark_border.Goals as goal

pub reach-requires-clause-start : goal.reach-requires-clause-start
reach-requires-clause-start c =
    let mesh = c.args.corners.now.soup.now in
    let e = c.args.least in
    let is = c.requires.least.on_border in
    let lt = is.0 in
    let t = c.args.corners.now.is_table in
    let list = c.args.corners.now.table.now.edges.items in
    let pair : c.index-2.result.now ≡ ends mesh e = get_or_read list c.index.result c.index-2.result.now
    (omega (arith, ap length t.edge_list_is, c.index.ensures)) c.index-2.ensures (0, 0)
    ∙ ap (λ i. get_or list i (0, 0)) c.index.ensures
    ∙ ap (λ (xs : List (ℕ × ℕ)). get_or xs e (0, 0)) t.edge_list_is in
    let low = border_start mesh c.law_of_soup.ensures.mesh c.args.corners.now.next.now c.args.corners.now.prev.now
    c.args.corners.now.across.now
    c.args.corners.now.tables c.in_ok-rows.rows c.in_ok-rows.ensures.rows e is in
    omega (arith, low, ap (λ (p : ℕ × ℕ). p.0) pair, c.number.ensures)

pub reach-requires-clause-inside : goal.reach-requires-clause-inside
reach-requires-clause-inside c = near_inside c.args.corners.now.soup.now c.law_of_soup.ensures.mesh c.args.corners.now.next.now
    c.args.corners.now.prev.now c.args.corners.now.across.now c.args.corners.now.tables c.in_ok-rows.rows
    c.in_ok-rows.ensures.rows

pub returns : goal.returns
returns c =
    let mesh = c.args.corners.now.soup.now in
    let e = c.args.least in
    let is = c.requires.least.on_border in
    let lt = is.0 in
    let t = c.args.corners.now.is_table in
    let list = c.args.corners.now.table.now.edges.items in
    let pair : c.index-2.result.now ≡ ends mesh e = get_or_read list c.index.result c.index-2.result.now
    (omega (arith, ap length t.edge_list_is, c.index.ensures)) c.index-2.ensures (0, 0)
    ∙ ap (λ i. get_or list i (0, 0)) c.index.ensures
    ∙ ap (λ (xs : List (ℕ × ℕ)). get_or xs e (0, 0)) t.edge_list_is in
    record {
      marks =
          border_marked mesh c.law_of_soup.ensures.mesh c.args.corners.now.next.now c.args.corners.now.prev.now
          c.args.corners.now.across.now
          c.args.corners.now.tables c.in_ok-rows.rows c.in_ok-rows.ensures.rows
          c.number.result c.in_ok-seen.seen.items c.in_ok-seen.ensures e is
          (c.number.ensures ∙ ap (λ (p : ℕ × ℕ). p.0) pair);
    }
