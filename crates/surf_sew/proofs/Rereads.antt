-- The text of a sewn mesh, and what it is read as.
use Rattle.surf_sew.proofs.Common.{◌≡◌, ◌<◌, ◌^◌, ℕ, List, [], ◌∷◌, ◌++◌, length, Ok, refl, sym, ◌∙◌, ap, subst, arith, length-map, append-nil, length-range_with_len, Mesh, IsMesh, edge_count, All-head, All-tail, All, zip, range_with_len, IsVertexLine, IsOffParts, OffParts, head_text, lines_text, faces_text, lines_at, AllFaces, mesh_again, all_faces, first_copy, first_copies, HaveCopies, sewn_lines, sewn_text, RereadsSewn}
use Rattle.surf_off.proofs.Reread.{AllLines}
use Rattle.surf_sew.proofs.Windows.{copies_few}

pub lines_count : (lines : List (List ℕ)) (origins : List ℕ) (n : ℕ) → length (sewn_lines lines origins n) ≡ n
lines_count lines origins n = length-map (first_copies origins 0 n) _ ∙ length-map (range_with_len 0 n) (first_copy origins) ∙ length-range_with_len 0 n

-- the parts of the text, one after the other
pub parts : (text : OffParts) (origins : List ℕ) (mesh : Mesh)
    → head_text text.header mesh.vertices (length mesh.faces) (edge_count mesh) ++ (lines_text (sewn_lines text.vertex_lines origins mesh.vertices) ++ faces_text (zip mesh.faces text.colours)) ≡ sewn_text text origins mesh
parts text origins mesh = ap (λ (v : ℕ). head_text text.header v (length mesh.faces) (edge_count mesh) ++ (lines_text (sewn_lines text.vertex_lines origins mesh.vertices) ++ faces_text (zip mesh.faces text.colours))) (sym (lines_count text.vertex_lines origins mesh.vertices))

pub all_lines : (lines : List (List ℕ)) (copies : List ℕ) → All IsVertexLine lines → All (λ c. c < length lines) copies → AllLines (lines_at lines copies)
unfolding AllLines
all_lines lines [] good few = tt
all_lines lines (c ∷ cs) good few = (good c [] (All-head (λ k. k < length lines) c cs few), all_lines lines cs good (All-tail (λ k. k < length lines) c cs few))

-- The text of a sewn mesh is read as its keyword, the lines of the least copies, the colours and the mesh.
pub sewn_again : (text : OffParts) (origins : List ℕ) (mesh : Mesh) → IsOffParts text → length origins ≡ length text.vertex_lines → HaveCopies origins mesh.vertices → IsMesh mesh → All (λ f. length f < 2 ^ 64) mesh.faces → length mesh.faces ≡ length text.colours
    → mesh.vertices < 2 ^ 64 → length mesh.faces < 2 ^ 64 → edge_count mesh < 2 ^ 64 → RereadsSewn text origins mesh
sewn_again text origins mesh kept same have good short faces small_v small_f small_e =
    let lines = sewn_lines text.vertex_lines origins mesh.vertices in
    let count = lines_count text.vertex_lines origins mesh.vertices in
    let few : All (λ c. c < length text.vertex_lines) (first_copies origins 0 mesh.vertices) = subst (λ (n : ℕ). All (λ c. c < n) (first_copies origins 0 mesh.vertices)) same (copies_few origins 0 mesh.vertices (λ v lt. have v (omega arith))) in
    let all : AllFaces (length lines) mesh.faces text.colours = subst (λ (v : ℕ). AllFaces v mesh.faces text.colours) (sym count) (all_faces mesh.vertices mesh.faces text.colours small_v good short kept.colours faces) in
    ap Rattle.surf_off.specs.Off.off_without_limits (sym (append-nil (sewn_text text origins mesh)))
    ∙ mesh_again text.header lines mesh.faces text.colours (edge_count mesh) [] (all_lines text.vertex_lines (first_copies origins 0 mesh.vertices) kept.vertex_lines few) all (λ n. refl) (omega (arith, count)) small_f small_e
    ∙ ap (λ (n : ℕ). Ok (record { header = text.header; vertex_lines = lines; colours = text.colours }, record { vertices = n; faces = mesh.faces })) count
