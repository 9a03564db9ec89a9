-- The border of a mesh: its edges with one face.
use Rattle.std.specs.Prelude.{◌≡◌, ℕ, ◌<◌, ◌==◌, if◌then◌else◌, Bool, true, false, List, [], ◌∷◌, ◌++◌, length}
use Rattle.std.specs.Prelude.{get_or, count_by}
use Rattle.std.specs.List.{flat_map}
use Rattle.surf_surfaces.specs.Joined.{Joined}
use Rattle.surf_surfaces.specs.Mesh.{Mesh, edges}
use Rattle.surf_surfaces.specs.Surface.{ends, faces_with}
use Rattle.surf_surfaces.specs.Disc.{IsBorderEdge, ShareOnBorder}
use Rattle.surf_soup.specs.Reach.{marked}
use Rattle.surf_soup.specs.Vertices.{sides_at}

-- how many edges are a side of exactly one face
abbrev pub border_count : Mesh → ℕ
border_count mesh = count_by (λ p. length (faces_with mesh p) == 1) (edges mesh)

-- a list, and one more where a side has nothing across it
abbrev pub with_end : List ℕ → ℕ → ℕ → List ℕ → List ℕ
with_end across side end xs = if get_or across side 0 == side then xs ++ end ∷ [] else xs

-- the other ends of a corner's two sides, where they are on the border
abbrev pub border_ends : List ℕ → List ℕ → List ℕ → List ℕ → ℕ → List ℕ
border_ends next prev across tails s =
    with_end across (get_or prev s 0) (get_or tails (get_or prev s 0) 0)
    (with_end across s (get_or tails (get_or next s 0) 0) [])

-- for each of the first vertices the other ends of the border edges there
pub record AreNeighbours (mesh : Mesh) (next prev across tails : List ℕ) (count : ℕ)
    (rows : List (List ℕ)) : Type 0 where
  pub size : length rows ≡ count
  pub row : (v : ℕ) → v < count → get_or rows v [] ≡ flat_map (border_ends next prev across tails) (sides_at mesh v)

-- the least border edge
pub record IsLeastOnBorder (mesh : Mesh) (e : ℕ) : Type 0 where
  pub on_border : IsBorderEdge mesh e
  pub none_before : (d : ℕ) → d < e → IsBorderEdge mesh d → ⊥

-- the least border edge outside the cycle of border edges through e
pub record IsLeastOutside (mesh : Mesh) (e h : ℕ) : Type 0 where
  pub on_border : IsBorderEdge mesh h
  pub outside : Joined (ShareOnBorder mesh) e h → ⊥
  pub inside_before : (d : ℕ) → d < h → IsBorderEdge mesh d → Joined (ShareOnBorder mesh) e d

-- all border edges are one cycle
abbrev pub HasOneBorder : Mesh → Type 0
HasOneBorder mesh = (e h : ℕ) → IsBorderEdge mesh e → IsBorderEdge mesh h → Joined (ShareOnBorder mesh) e h

-- the vertices of the cycle of border edges through e are marked
pub record IsBorderMarked (mesh : Mesh) (e : ℕ) (seen : List Bool) : Type 0 where
  pub size : length seen ≡ mesh.vertices
  pub sound : (h : ℕ) → IsBorderEdge mesh h → marked seen (ends mesh h).0 ≡ true → Joined (ShareOnBorder mesh) e h
  pub complete : (h : ℕ) → Joined (ShareOnBorder mesh) e h → marked seen (ends mesh h).0 ≡ true

-- of the first rows, those of one side have a lesser end that is marked
abbrev pub AllInside : List (List ℕ) → List (ℕ × ℕ) → List Bool → ℕ → Type 0
AllInside sides edge_list seen count =
    (e : ℕ) → e < count → length (get_or sides e []) ≡ 1 → marked seen (get_or edge_list e (0, 0)).0 ≡ true

-- the first row of one side whose lesser end isn't marked
pub record IsFirstOutside (sides : List (List ℕ)) (edge_list : List (ℕ × ℕ)) (seen : List Bool) (h : ℕ) : Type 0 where
  pub is_row : h < length sides
  pub single : length (get_or sides h []) ≡ 1
  pub outside : marked seen (get_or edge_list h (0, 0)).0 ≡ false
  pub inside_before : AllInside sides edge_list seen h
