use Rattle.surf_answers.proofs.Common.{◌≡◌, ◌<◌, ◌^◌, ℕ, List, length, sym, ap, ◌∙◌, subst, arith, All, IsFace, edge_count, PageState, Puts, AreStarts, opened_text, rows_at, RereadsOpened, short_rows, cut_text}
use Rattle.surf_off.proofs.StartsOf.{tables_of}
use Rattle.surf_cutting.proofs.CopyLines.{copies_named}
use Rattle.surf_cutting.proofs.cut.put_opened.Goals as goal

pub write_off-requires-clause-starts : goal.write_off-requires-clause-starts
write_off-requires-clause-starts c =
    subst (λ (xs : List ℕ). AreStarts c.starts.result.now (length xs)) (sym c.corners.ensures)
    (tables_of c.args.opened.now.faces c.starts.result.now c.starts.ensures.size c.starts.ensures.at).sums

pub write_off-requires-clause-faces : goal.write_off-requires-clause-faces
write_off-requires-clause-faces c =
    let faces = c.args.opened.now.faces in
    let starts = c.starts.result.now in
    let rows : rows_at starts c.corners.result.now ≡ faces =
    ap (λ (xs : List ℕ). rows_at starts xs) c.corners.ensures ∙ (tables_of faces starts c.starts.ensures.size c.starts.ensures.at).rows in
    subst (λ (xs : List ℕ). All (IsFace (length xs)) (rows_at starts c.corners.result.now)) (sym c.origins.ensures.origins)
    (subst (λ (fs : List (List ℕ)). All (IsFace (length c.args.opened.now.origins)) fs) (sym rows) c.origins.ensures.disc.is_mesh)

pub returns-clause-puts : goal.returns-clause-puts
returns-clause-puts c =
    let opened = c.args.opened.now in
    let text = c.args.text.now in
    let starts = c.starts.result.now in
    let rows : rows_at starts c.corners.result.now ≡ opened.faces =
    ap (λ (xs : List ℕ). rows_at starts xs) c.corners.ensures ∙ (tables_of opened.faces starts c.starts.ensures.size c.starts.ensures.at).rows in
    let is : opened_text text c.origins.result.now (rows_at starts c.corners.result.now) c.edges.result ≡ cut_text text opened.origins opened.faces =
    ap (λ (xs : List ℕ). opened_text text xs (rows_at starts c.corners.result.now) c.edges.result) c.origins.ensures.origins
    ∙ ap (λ (fs : List (List ℕ)). opened_text text opened.origins fs c.edges.result) rows
    ∙ ap (λ (n : ℕ). opened_text text opened.origins opened.faces n) c.edges.ensures in
    subst (λ (p : PageState). Puts p c.write_off.new.page (cut_text text opened.origins opened.faces) c.write_off.result) c.take_room.ensures.same
    (subst (λ (t : List ℕ). Puts c.take_room.new.self c.write_off.new.page t c.write_off.result) is c.write_off.ensures.puts)

pub returns-clause-reread : goal.returns-clause-reread
returns-clause-reread c =
    let opened = c.args.opened.now in
    let text = c.args.text.now in
    let starts = c.starts.result.now in
    let rows : rows_at starts c.corners.result.now ≡ opened.faces =
    ap (λ (xs : List ℕ). rows_at starts xs) c.corners.ensures ∙ (tables_of opened.faces starts c.starts.ensures.size c.starts.ensures.at).rows in
    subst (λ (n : ℕ). RereadsOpened text opened.origins opened.faces n) c.edges.ensures
    (subst (λ (fs : List (List ℕ)). RereadsOpened text opened.origins fs c.edges.result) rows
    (subst (λ (xs : List ℕ). RereadsOpened text xs (rows_at starts c.corners.result.now) c.edges.result) c.origins.ensures.origins c.write_off.ensures.reread))

pub returns-clause-copies : goal.returns-clause-copies
returns-clause-copies c =
    let opened = c.args.opened.now in
    let text = c.args.text.now in
    let starts = c.starts.result.now in
    let corners = c.corners.result.now in
    let rows : rows_at starts corners ≡ opened.faces =
    ap (λ (xs : List ℕ). rows_at starts xs) c.corners.ensures ∙ (tables_of opened.faces starts c.starts.ensures.size c.starts.ensures.at).rows in
    let short : All (λ f. length f < 2 ^ 64) opened.faces =
    subst (λ (fs : List (List ℕ)). All (λ f. length f < 2 ^ 64) fs) rows (short_rows starts corners (2 ^ 64) (omega arith)) in
    let copies : length opened.origins < 2 ^ 64 = omega (arith, ap length c.origins.ensures.origins) in
    let faces : length opened.faces < 2 ^ 64 = omega (arith, c.starts.ensures.size) in
    let edges = edge_count (record { vertices = length opened.origins; faces = opened.faces }) in
    let few : edges < 2 ^ 64 = omega (arith, c.edges.ensures) in
    copies_named text opened.origins opened.faces edges c.text_room.ensures.clean c.requires.lines c.text_room.ensures.small c.origins.ensures.disc.is_mesh short c.requires.colours copies faces few
