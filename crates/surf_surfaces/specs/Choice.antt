-- The one choice among ties: the loops at each base, and the basis and the cycle that are chosen from them.
use Rattle.std.specs.Prelude.{◌≡◌, ℕ, suc, ◌<◌, Bool, false, MatchBool, ◌&&◌, ◌||◌, ◌==◌, nat_lt, List, [], ◌∷◌, length}
use Rattle.std.specs.Prelude.{map, take, flat_map, slice_index_or}
use Rattle.std.specs.List.{range_with_len}
use Rattle.surf_z2.specs.Order.{merge, sorted}
use Rattle.surf_z2.specs.Space.{chosen}
use Rattle.surf_graphs.specs.Trees.{Tree}
use Rattle.surf_surfaces.specs.Mesh.{Mesh}
use Rattle.surf_surfaces.specs.Homology.{IsBoundary, total_parity}
use Rattle.surf_surfaces.specs.Loop.{loop_walk, loop_length}
use Rattle.surf_surfaces.specs.ShortestTree.{IsShortestTree}
use Rattle.surf_surfaces.specs.Cotree.{IsHeaviestCotree, left_edges}

-- a tree of the vertices and a tree of the faces
pub record Trees : Type 0 where
  pub tree : Tree
  pub cotree : Tree

-- the trees that are chosen at a base
pub record AreChosenAt (mesh : Mesh) (lengths : List ℕ) (base : ℕ) (trees : Trees) : Type 0 where
  pub shortest : IsShortestTree mesh lengths base trees.tree
  pub heaviest : IsHeaviestCotree mesh lengths trees.tree trees.cotree

-- those at all bases
abbrev pub AreChosen : Mesh → List ℕ → (ℕ → Trees) → Type 0
AreChosen mesh lengths trees = (x : ℕ) → x < mesh.vertices → AreChosenAt mesh lengths x (trees x)

-- a loop: its length, the base and the edge that it is of, and the walk
pub record Loop : Type 0 where
  pub size : ℕ
  pub base : ℕ
  pub edge : ℕ
  pub walk : List ℕ

-- the order of loops: by length, then by base, then by edge
abbrev pub comes_before : Loop → Loop → Bool
comes_before c d = nat_lt c.size d.size ||
    ((c.size == d.size) && (nat_lt c.base d.base || ((c.base == d.base) && nat_lt c.edge d.edge)))

-- the walks of the loops, in order
abbrev pub walks : List Loop → List (List ℕ)
walks loops = map (λ c. c.walk) loops

-- the loop of the e-th edge at a base
abbrev pub loop_at : Mesh → List ℕ → ℕ → Tree → ℕ → Loop
loop_at mesh lengths base tree e =
    record { size = loop_length mesh lengths tree e; base = base; edge = e; walk = loop_walk mesh tree e }

-- the loops of the left edges at a base, in order
abbrev pub loops_at : Mesh → List ℕ → ℕ → Trees → List Loop
loops_at mesh lengths base trees =
    sorted comes_before (map (loop_at mesh lengths base trees.tree) (left_edges mesh trees.tree trees.cotree))

-- the loops at the first bases, in order
abbrev pub loops_below : Mesh → List ℕ → (ℕ → Trees) → ℕ → List Loop
loops_below mesh lengths trees bases =
    sorted comes_before (flat_map (λ x. loops_at mesh lengths x (trees x)) (range_with_len 0 bases))

-- the loops at all bases, in order
abbrev pub candidates : Mesh → List ℕ → (ℕ → Trees) → List Loop
candidates mesh lengths trees = loops_below mesh lengths trees mesh.vertices

-- the edges that the walk and some of those before it, or none, together run an odd number of times are a boundary
abbrev pub DependsOn : Mesh → List (List ℕ) → List ℕ → Type 0
DependsOn mesh before walk =
    (choice : List Bool) × IsBoundary mesh (total_parity mesh (walk ∷ chosen choice before))

-- the loop at a place depends on those before it
abbrev pub DependsAt : Mesh → List Loop → ℕ → Loop → Type 0
DependsAt mesh loops i default = DependsOn mesh (walks (take i loops)) (slice_index_or loops i default).walk

-- of loops in order, exactly those that don't depend on the loops before them
pub record IsGreedyChoice (mesh : Mesh) (loops kept : List Loop) : Type 0 where
  -- for each loop whether it is kept
  pub keep : List Bool
  pub are_kept : kept ≡ chosen keep loops
  pub exactly : (i : ℕ) (default : Loop) → i < length loops →
      MatchBool (slice_index_or keep i false) (DependsAt mesh loops i default → ⊥)
      (DependsAt mesh loops i default)

-- the basis: the greedy choice from the loops at all bases
abbrev pub IsChosenBasis : Mesh → List ℕ → (ℕ → Trees) → List Loop → Type 0
IsChosenBasis mesh lengths trees basis = IsGreedyChoice mesh (candidates mesh lengths trees) basis

-- the choice made base by base: what was kept and the loops at the next base, in order, and of these
-- again the greedy choice
pub data IsKeptFrom (mesh : Mesh) (lengths : List ℕ) (trees : ℕ → Trees) : ℕ → List Loop → Type 0 where
  nothing : IsKeptFrom mesh lengths trees 0 []
  one_more : {bases : ℕ} {kept next : List Loop} → IsKeptFrom mesh lengths trees bases kept →
      IsGreedyChoice mesh (merge comes_before kept (loops_at mesh lengths bases (trees bases))) next →
      IsKeptFrom mesh lengths trees (suc bases) next
