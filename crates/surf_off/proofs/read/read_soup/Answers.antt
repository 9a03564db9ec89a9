use Rattle.surf_surfaces.proofs.Common.{◌≡◌, ℕ, true, List, Ok, ◌∙◌, ap, sym, Mesh}
use Rattle.surf_text.specs.Text.{TextLine, lines_of}
use Rattle.surf_text.specs.Walks.{PlacedWalk, lines_ahead}
use Rattle.surf_off.specs.Off.{Head, head_of, counts_of, vertices_at, FaceLines, faces_at, OffParts, ended, off_in}
use Rattle.surf_off.specs.Seen.{head_seen}
use Rattle.surf_off.proofs.read.read_soup.Goals as goal

off_by_steps : (lines : List TextLine) (head : Head) (v f : ℕ) (vertices : List (List ℕ) × List TextLine) (faces : FaceLines)
    → head_of lines ≡ Ok head → counts_of true head.number head.counts ≡ Ok (v, f) → vertices_at v f head.lines ≡ Ok vertices → faces_at true v f 0 vertices.1 ≡ Ok faces
    → ((off : OffParts × Mesh) → ended off faces.lines ≡ Ok off)
    → off_in true lines ≡ Ok (record { header = head.header; vertex_lines = vertices.0; colours = faces.colours }, record { vertices = v; faces = faces.faces })
unfolding off_in
off_by_steps lines head v f vertices faces head_is counts_are vertices_are faces_are end = rw (head_is, counts_are, vertices_are, faces_are) (end _)

pub returns-clause-off : goal.returns-clause-off
returns-clause-off c =
    let ahead = lines_ahead c.pass_vertices.new.lines in
    let passed = c.in_ok-pass_vertices.ensures.lines in
    let soup = c.in_ok-soup.soup in
    let v = c.in_ok-vertices.vertices in
    let head = head_seen c.in_ok-head.head (lines_ahead c.read_head.new.lines) in
    let faces : FaceLines = record { faces = soup.faces; colours = c.read_faces.new.colours.parts; lines = lines_ahead c.read_faces.new.lines } in
    let parts : OffParts = record { header = head.header; vertex_lines = passed.0; colours = faces.colours } in (
      parts,
      off_by_steps (lines_of c.args.text.now) head v c.in_ok-vertices.faces (passed.0, ahead) faces
          (ap (λ (w : PlacedWalk). head_of (lines_ahead w)) (sym c.over-lines.ensures.start) ∙ c.in_ok-head.ensures.head)
          c.in_ok-vertices.ensures.counts passed.1 c.in_ok-soup.ensures.faces c.in_ok-test_end.ensures
          ∙ ap (λ (n : ℕ). Ok (parts, record { vertices = n; faces = soup.faces })) (sym c.in_ok-soup.ensures.vertices),
    )
