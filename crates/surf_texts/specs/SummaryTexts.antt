-- The counts of a surface as texts, and what its loops, its basis and its cycle measure.
use Rattle.std.specs.Prelude.{ℕ, ℤ, List, ◌++◌, codes, decimal}
use Rattle.std.specs.Fmt.{signed_decimal}
use Prim.Native.String.{String as Literal}
use Rattle.surf_surfaces.specs.Mesh.{Mesh, characteristic}
use Rattle.surf_surfaces.specs.Surface.{face_count, edge_count}

abbrev pub counts_text : ℕ → ℕ → ℕ → List ℕ
counts_text v e f = codes "vertices "
    ++ (decimal v ++ (codes "\nedges " ++ (decimal e ++ (codes "\nfaces " ++ (decimal f ++ codes "\n")))))

-- the characteristic, and a word with the genus or the crosscaps
abbrev pub kind_text : Literal → ℤ → ℕ → List ℕ
kind_text word characteristic count =
    codes "characteristic " ++ (signed_decimal characteristic ++ (codes word ++ (decimal count ++ codes "\n")))

abbrev pub mesh_counts : Mesh → List ℕ
mesh_counts mesh = counts_text mesh.vertices (edge_count mesh) (face_count mesh)

abbrev pub measures_text : ℕ → ℕ → ℕ → List ℕ
measures_text loops basis cycle =
    codes "loops " ++ (decimal loops
    ++ (codes "\nbasis " ++ (decimal basis ++ (codes "\ncycle " ++ (decimal cycle ++ codes "\n")))))
