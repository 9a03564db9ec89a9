-- Vertices near one whose loops are all long, next to those that are kept, where the ways through vertices of a set are
-- barred.
use Rattle.std.specs.Prelude.{ℕ, suc, ◌≡◌, ◌+◌, ◌*◌, ◌<◌, ◌≤◌, ◌||◌, Bool, IsTrue, IsFalse, nat_le, List, filter}
use Rattle.surf_graphs.specs.Trees.{Tree}
use Rattle.surf_surfaces.specs.Mesh.{Mesh}
use Rattle.surf_surfaces.specs.Surface.{edge_count, ends, IsSurface}
use Rattle.surf_surfaces.specs.Walk.{edge_length, ArePositive}
use Rattle.surf_surfaces.specs.Class.{AreShortestTrees}
use Rattle.surf_surfaces.specs.Loop.{loop_walk, loop_length}
use Rattle.surf_surfaces.specs.Choice.{DependsOn}
use Rattle.surf_surfaces.specs.FewBases.{Place, is_no_later, Found, walks_found, AreEnoughOf}

-- whether a loop is shorter than a size by so much
abbrev pub is_shorter_by : ℕ → ℕ → Found → Bool
is_shorter_by margin size k = nat_le (k.size + margin) size

-- each loop at z that is at most so long depends on loops of a list that are shorter than it by so much
abbrev pub DependOnShorter : Mesh → List ℕ → (ℕ → Tree) → ℕ → ℕ → ℕ → List Found → Type 0
DependOnShorter mesh lengths trees z most margin found =
    (e : ℕ) → e < edge_count mesh → loop_length mesh lengths (trees z) e ≤ most →
    DependsOn mesh (walks_found (filter (is_shorter_by margin (loop_length mesh lengths (trees z) e)) found))
    (loop_walk mesh (trees z) e)

-- the set with the vertices that are no farther from z. Ranks are distances
abbrev pub with_near : (ℕ → Tree) → ℕ → ℕ → (ℕ → Bool) → ℕ → Bool
with_near trees z far set y = set y || nat_le ((trees z).rank y) far

-- other lengths are the same at each edge that has no end in a set. At the set they are whatever they are
abbrev pub AgreeOff : Mesh → List ℕ → List ℕ → (ℕ → Bool) → Type 0
AgreeOff mesh lengths other set = (e : ℕ) → e < edge_count mesh → IsFalse (set (ends mesh e).0) →
    IsFalse (set (ends mesh e).1) → edge_length other e ≡ edge_length lengths e

-- with each place that is sought all that come no later are
abbrev pub IsSoughtFromStart : (Place → Bool) → Type 0
IsSoughtFromStart sought = (p q : Place) → IsTrue (is_no_later p q) → IsTrue (sought q) → IsTrue (sought p)

-- Let loops be enough at the vertices of a set, for sought places that are no longer than m. Let
-- each loop at a vertex z up to m + 2d depend on those of them that are shorter than it by more
-- than 2d. Then they are enough at the vertices within d of z too. The lengths that z's loops and
-- distances go by may differ at the edges with an end in the set.
abbrev pub NearVerticesNeedNoMore : Type 0
NearVerticesNeedNoMore =
    (mesh : Mesh) (lengths other : List ℕ) (trees others : ℕ → Tree) (sought : Place → Bool) (set : ℕ → Bool)
    (z far most : ℕ) (found : List Found) → IsSurface mesh → ArePositive mesh lengths → ArePositive mesh other →
    AreShortestTrees mesh lengths trees → AreShortestTrees mesh other others → AgreeOff mesh lengths other set →
    z < mesh.vertices → AreEnoughOf mesh lengths trees sought set found → IsSoughtFromStart sought →
    ((place : Place) → IsTrue (sought place) → place.0 ≤ most) →
    DependOnShorter mesh other others z (most + 2 * far) (suc (2 * far)) found →
    AreEnoughOf mesh lengths trees sought (with_near others z far set) found
