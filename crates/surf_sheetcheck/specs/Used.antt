-- Tables that a search has used, which are put back.
use Rattle.std.specs.Prelude.{◌≡◌, ◌≢◌, ℕ, ◌<◌, ◌≤◌, List, length, get_or, Option, None}
use Rattle.surf_base.specs.Tables.{at}
use Rattle.surf_surfaces.specs.Mesh.{Mesh}
use Rattle.surf_sheetcheck.specs.Searches.{far}

-- the vertices that have a distance are listed from a place on, and only they have labels
pub record IsStillUsed (mesh : Mesh) (dist : List ℕ) (labels : List (Option ℕ)) (order : List ℕ) (n : ℕ) : Type 0 where
  pub distances : length dist ≡ mesh.vertices
  pub room : length labels ≡ mesh.vertices
  pub listed : (v : ℕ) → v < mesh.vertices → at dist v ≢ far →
      (k : ℕ) × (n ≤ k) × (k < length order) × (at order k ≡ v)
  pub only : (v : ℕ) → v < mesh.vertices → get_or labels v None ≢ None → at dist v ≢ far
