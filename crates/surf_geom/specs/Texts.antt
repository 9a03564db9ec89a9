-- The length files that are written, of version 1.
use Rattle.std.specs.Prelude.{◌≡◌, ℕ, List, ◌++◌, codes, decimal, Ok}
use Rattle.std.specs.List.{flat_map, zip}
use Rattle.surf_surfaces.specs.Mesh.{Mesh, edges}
use Rattle.surf_lengths.specs.Files.{lengths_in}

-- a line: the ends of an edge and its length
abbrev pub entry_text : ℕ × ℕ → ℕ → List ℕ
entry_text edge n = decimal edge.0 ++ (codes " " ++ (decimal edge.1 ++ (codes " " ++ (decimal n ++ codes "\n"))))

-- a line for each edge in order
abbrev pub lengths_text : Mesh → List ℕ → List ℕ
lengths_text mesh lengths = flat_map (λ entry. entry_text entry.0 entry.1) (zip (edges mesh) lengths)

-- Read as a length file of the mesh, the text gives these lengths.
abbrev pub RereadsLengths : Mesh → List ℕ → Type 0
RereadsLengths mesh lengths = lengths_in mesh (lengths_text mesh lengths) ≡ Ok lengths
