-- Corners at one vertex, joined across the sides that end there. A corner has the number of the side that begins at it.
use Rattle.std.specs.Prelude.{◌≡◌, ℕ, ◌*◌, ◌<◌, ◌==◌, if◌then◌else◌, Bool, true, List, [], ◌∷◌, length, get_or}
use Rattle.std.specs.List.{sum_by}
use Rattle.surf_surfaces.specs.Joined.{Joined}
use Rattle.surf_surfaces.specs.Mesh.{Mesh}
use Rattle.surf_surfaces.specs.Side.{after, before}
use Rattle.surf_surfaces.specs.Surface.{face_count, ShareAt}
use Rattle.surf_surfaces.specs.SideNumber.{IsFaceOf, side_count}
use Rattle.surf_soup.specs.Reach.{marked}
use Rattle.surf_soup.specs.Ring.{AreTurned, BeginsAt}
use Rattle.surf_soup.specs.Vertices.{sides_at}
use Rattle.surf_disc.specs.Across.{AreAcrossUpTo}

-- for each side the next one of its face, the one before, and what lies across it
pub record AreCornerTables (mesh : Mesh) (next prev across : List ℕ) : Type 0 where
  pub nexts : AreTurned after mesh (face_count mesh) next
  pub prevs : AreTurned before mesh (face_count mesh) prev
  pub acrosses : AreAcrossUpTo mesh (side_count mesh) across

-- the corner at a vertex across a side that ends there
abbrev pub over_corner : List ℕ → List ℕ → List ℕ → ℕ → ℕ → ℕ
over_corner next across tails side v =
    if get_or tails (get_or across side 0) 0 == v then get_or across side 0 else get_or next (get_or across side 0) 0

-- for each of the first corners the two across its sides
pub record AreLinked (next prev across tails : List ℕ) (count : ℕ) (rows : List (List ℕ)) : Type 0 where
  pub size : length rows ≡ count
  pub total : sum_by length rows ≡ 2 * count
  pub row : (s : ℕ) → s < count → get_or rows s []
      ≡ over_corner next across tails s (get_or tails s 0)
      ∷ over_corner next across tails (get_or prev s 0) (get_or tails s 0) ∷ []

-- the first of each of the first rows
pub record AreFirsts (rows : List (List ℕ)) (count : ℕ) (firsts : List ℕ) : Type 0 where
  pub size : length firsts ≡ count
  pub first : (v : ℕ) → v < count → get_or firsts v 0 ≡ get_or (get_or rows v []) 0 0

-- A corner is marked exactly where its face is joined, by faces at its vertex that share edges there, with the
-- vertex's first face.
pub record AreFansMarked (mesh : Mesh) (seen : List Bool) : Type 0 where
  pub size : side_count mesh < length seen
  pub sound : (v s f g : ℕ) → v < mesh.vertices → BeginsAt mesh v s → marked seen s ≡ true →
      IsFaceOf mesh (get_or (sides_at mesh v) 0 0) f → IsFaceOf mesh s g → Joined (ShareAt mesh v) f g
  pub complete : (v s f g : ℕ) → v < mesh.vertices → IsFaceOf mesh (get_or (sides_at mesh v) 0 0) f →
      Joined (ShareAt mesh v) f g → BeginsAt mesh v s → IsFaceOf mesh s g → marked seen s ≡ true
