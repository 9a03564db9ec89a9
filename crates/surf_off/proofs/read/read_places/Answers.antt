use Rattle.std.proofs.Common.{◌≡◌, List, ℕ, ◌∙◌, ap, sym, subst}
use Rattle.surf_text.specs.Walks.{PlacedWalk, lines_ahead}
use Rattle.surf_off.specs.Clean.{IsOffParts}
use Rattle.surf_off.specs.Off.{head_of}
use Rattle.surf_off.specs.Places.{parts_at}
use Rattle.surf_off.specs.Seen.{head_seen, PartList}
use Rattle.surf_off.proofs.CleanParts.{parts_clean}
use Rattle.surf_off.proofs.read.read_places.Goals as goal

pub returns-clause-clean : goal.returns-clause-clean
returns-clause-clean c =
    let text : c.read_vertices.new.kept.text ≡ c.args.text.now =
    c.in_ok-read_vertices.ensures.same ∙ ap (λ (p : PartList). p.text) c.at-vertex_lines.ensures.at in
    subst IsOffParts (sym (ap (λ (t : List ℕ). parts_at t c.of_parts-places.result) (sym text) ∙ c.of_parts-places.ensures.parts))
    (parts_clean c.args.text.now (head_seen c.in_ok-head.head (lines_ahead c.read_head.new.lines)) c.in_ok-vertices.vertices c.in_ok-vertices.faces c.read_vertices.new.kept.parts (lines_ahead c.read_vertices.new.lines)
    (record { faces = c.in_ok-soup.soup.faces; colours = c.read_faces.new.colours.parts; lines = lines_ahead c.read_faces.new.lines })
    (ap (λ (w : PlacedWalk). head_of (lines_ahead w)) (sym c.over-lines.ensures.start) ∙ c.in_ok-head.ensures.head) c.in_ok-read_vertices.ensures.lines c.in_ok-soup.ensures.faces)
