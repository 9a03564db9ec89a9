-- What lies across a side: the other side of its edge, or the side itself where it has no other.
use Rattle.std.specs.Prelude.{◌≡◌, ◌≢◌, ℕ, ◌-◌, ◌<◌, ◌≤◌, ◌==◌, if◌then◌else◌, List, length, get_or}
use Rattle.surf_surfaces.specs.Mesh.{Mesh}
use Rattle.surf_surfaces.specs.Surface.{edge_count}
use Rattle.surf_soup.specs.Pairs.{degree}
use Rattle.surf_surfaces.specs.SideNumber.{side_count, pair_at}

-- no edge is a side of three or more faces
abbrev pub NoneCrowded : Mesh → Type 0
NoneCrowded mesh = (e : ℕ) → e < edge_count mesh → degree mesh e ≤ 2

-- the other one of two, or the only one
abbrev pub other_of : List ℕ → ℕ → ℕ
other_of xs s = if get_or xs 0 0 == s then get_or xs (length xs - 1) 0 else get_or xs 0 0

-- t is a side of the same edge as s, and there is no third one
pub record IsAcross (mesh : Mesh) (s t : ℕ) : Type 0 where
  pub is_side : t < side_count mesh
  pub same_edge : pair_at mesh t ≡ pair_at mesh s
  pub no_third : (u : ℕ) → u < side_count mesh → pair_at mesh u ≡ pair_at mesh s → u ≢ s → u ≡ t

-- what lies across each of the first sides
pub record AreAcrossUpTo (mesh : Mesh) (count : ℕ) (across : List ℕ) : Type 0 where
  pub size : length across ≡ count
  pub all : (s : ℕ) → s < count → IsAcross mesh s (get_or across s 0)
