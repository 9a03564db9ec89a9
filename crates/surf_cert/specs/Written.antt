-- The texts of certificates.
use Rattle.std.specs.Prelude.{◌≡◌, ℕ, List, [], ◌∷◌, ◌++◌, length, flat_map, codes, decimal, Option, Ok}
use Rattle.std.specs.List.{zip}
use Rattle.std.specs.Option.{option_map_or}
use Rattle.surf_validity.specs.Rows.{TreeRows, DualRows, LoopCert, BasisCert}
use Rattle.surf_cert.specs.Grammar.{parsed_cert}
use Rattle.surf_records.specs.declared.cert.Cert.TheVariants.{Loops, Basis}
use Rattle.surf_text.specs.Numbers.{numbers_text}

-- the first line, with the word for what is certified, and the counts of vertices, faces and left edges
abbrev pub cert_head_text : List ℕ → ℕ → ℕ → ℕ → List ℕ
cert_head_text word v f k =
    codes "SURFCERT 1 " ++ (word ++ (codes "\ncounts "
    ++ (decimal v ++ (codes " " ++ (decimal f ++ (codes " " ++ (decimal k ++ codes "\n")))))))

abbrev pub base_line : ℕ → List ℕ
base_line x = codes "tree " ++ (decimal x ++ codes "\n")

-- the distance and the parent of a vertex, or `-` for none
abbrev pub vertex_line : ℕ × Option ℕ → List ℕ
vertex_line row = decimal row.0 ++ (codes " " ++ (option_map_or decimal row.1 (codes "-") ++ codes "\n"))

abbrev pub pair_text : ℕ × ℕ → List ℕ
pair_text pair = decimal pair.0 ++ (codes " " ++ decimal pair.1)

-- the depth and the side of a face, or `-` for none
abbrev pub face_line : ℕ × Option (ℕ × ℕ) → List ℕ
face_line row = decimal row.0 ++ (codes " " ++ (option_map_or pair_text row.1 (codes "-") ++ codes "\n"))

abbrev pub pair_line : ℕ × ℕ → List ℕ
pair_line pair = decimal pair.0 ++ (codes " " ++ (decimal pair.1 ++ codes "\n"))

-- the vertices of a cycle
abbrev pub cycle_line : List ℕ → List ℕ
cycle_line [] = codes "\n"
cycle_line (v ∷ vs) = decimal v ++ (numbers_text vs ++ codes "\n")

-- a tree: the line of its base, and those of the vertices
abbrev pub tree_text : TreeRows → List ℕ
tree_text tree = base_line tree.base ++ flat_map vertex_line (zip tree.distance tree.parent)

abbrev pub dual_text : DualRows → List ℕ
dual_text dual = codes "dual\n" ++ flat_map face_line (zip dual.depth dual.side)

abbrev pub left_text : List (ℕ × ℕ) → List ℕ
left_text left = codes "left\n" ++ flat_map pair_line left

abbrev pub cycles_text : List (List ℕ) → List ℕ
cycles_text cycles = codes "cycles\n" ++ flat_map cycle_line cycles

-- the text of a certificate of loops
abbrev pub loop_text : LoopCert → List ℕ
loop_text cert =
    cert_head_text (codes "loops") (length cert.tree.distance) (length cert.dual.depth) (length cert.left)
    ++ (tree_text cert.tree ++ (dual_text cert.dual ++ left_text cert.left))

-- the text of a certificate of a basis
abbrev pub basis_text : BasisCert → List ℕ
basis_text cert =
    cert_head_text (codes "basis") (length cert.trees) (length cert.dual.depth) (length cert.left)
    ++ (flat_map tree_text cert.trees ++ (dual_text cert.dual ++ (left_text cert.left ++ cycles_text cert.cycles)))

-- The text is read as the certificate that it was written of.
abbrev pub RereadsLoops : LoopCert → Type 0
RereadsLoops cert = parsed_cert (loop_text cert) ≡ Ok (Loops cert)

abbrev pub RereadsBasis : BasisCert → Type 0
RereadsBasis cert = parsed_cert (basis_text cert) ≡ Ok (Basis cert)
