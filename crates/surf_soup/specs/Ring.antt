-- Rings: the sides that begin at a vertex, in the order round it.
use Rattle.std.specs.Prelude.{◌≡◌, ◌≢◌, ℕ, zero, suc, ◌+◌, ◌-◌, ◌<◌, ◌==◌, ◌⊎◌, Bool, true, false, not, cond, List}
use Rattle.std.specs.Prelude.{◌++◌, ◌^◌, [], length, get_or, map}
use Rattle.std.specs.List.{range_with_len}
use Rattle.surf_surfaces.specs.Joined.{Joined}
use Rattle.surf_surfaces.specs.Mesh.{Mesh, IsMesh}
use Rattle.surf_surfaces.specs.Side.{after, before}
use Rattle.surf_surfaces.specs.Surface.{face_at, edge_count, ends, touches, HasCorner, HasEdge, ShareAt, HasOneFan}
use Rattle.surf_surfaces.specs.SideNumber.{side_count, pair_at, owners, first_side, IsFaceOf}
use Rattle.surf_soup.specs.Half.{AreAllMates}
use Rattle.surf_soup.specs.Pairs.{HasTwoFaces}
use Rattle.surf_soup.specs.Vertices.{all_corners, sides_at}
use Rattle.surf_soup.specs.Reach.{marked, unmarked}
use Rattle.surf_soup.specs.declared.rings.Rings.{Rings}
use Rattle.surf_soup.specs.declared.rings.Rings.TheVariants.{All, Pinched}
use Rattle.surf_soup.specs.declared.turned.Turn.{Turn}
use Rattle.surf_soup.specs.declared.turned.Turn.TheVariants.{After, Before}

-- A dart is a side with one of its ends: its head where the flag is true. It stands at the corner there.
abbrev pub dart_corner : List ℕ → ℕ × Bool → ℕ
dart_corner next d = cond d.1 (get_or next d.0 0) d.0

-- the other side of the corner
abbrev pub flip_of : List ℕ → List ℕ → ℕ × Bool → ℕ × Bool
flip_of next prev d = cond d.1 (get_or next d.0 0, false) (get_or prev d.0 0, true)

-- the same end of the mate
abbrev pub cross_of : List ℕ → List ℕ → ℕ × Bool → ℕ × Bool
cross_of mate tails d =
    (get_or mate d.0 0, cond (get_or tails (get_or mate d.0 0) 0 == get_or tails d.0 0) d.1 (not d.1))

abbrev pub turn_of : List ℕ → List ℕ → List ℕ → List ℕ → ℕ × Bool → ℕ × Bool
turn_of next prev mate tails d = flip_of next prev (cross_of mate tails d)

abbrev pub turns : List ℕ → List ℕ → List ℕ → List ℕ → ℕ → ℕ × Bool → ℕ × Bool
turns next prev mate tails zero d = d
turns next prev mate tails (suc n) d = turn_of next prev mate tails (turns next prev mate tails n d)

-- a whole round
pub record IsRound (next prev mate tails : List ℕ) (d : ℕ × Bool) (seen_before seen : List Bool)
    (ring : List ℕ) : Type 0 where
  pub size : length seen ≡ length next
  pub some : 0 < length ring
  pub closes : turns next prev mate tails (length ring) d ≡ d
  pub entries : (k : ℕ) → k < length ring → get_or ring k 0 ≡ dart_corner next (turns next prev mate tails k d)
  pub are_marked : (k : ℕ) → k < length ring → marked seen (get_or ring k 0) ≡ true
  pub stay : (s : ℕ) → marked seen_before s ≡ true → marked seen s ≡ true
  pub only : (s : ℕ) → marked seen s ≡ true →
      (marked seen_before s ≡ true) ⊎ ((k : ℕ) × (k < length ring) × (get_or ring k 0 ≡ s))
  pub differ : (i k : ℕ) → i < k → k < length ring → get_or ring i 0 ≢ get_or ring k 0
  pub counted : length ring + unmarked seen ≡ unmarked seen_before

-- the edges of the darts of a walk, one after the other
pub record IsTrail (next prev mate tails edge_of : List ℕ) (d : ℕ × Bool) (count : ℕ) (edges : List ℕ) : Type 0 where
  pub size : length edges ≡ count
  pub at : (k : ℕ) → k < count → get_or edges k 0 ≡ get_or edge_of (turns next prev mate tails k d).0 0

-- the place to which a step around a face leads
abbrev pub place_by : Turn → ℕ → ℕ → ℕ
place_by After = after
place_by Before = before

-- for each side the side at another place of its face, for the first sides
pub record AreTurned (turn : ℕ → ℕ → ℕ) (mesh : Mesh) (count : ℕ) (table : List ℕ) : Type 0 where
  pub size : length table ≡ first_side mesh count
  pub at : (f k : ℕ) → f < count → k < length (face_at mesh f) →
      get_or table (first_side mesh f + k) 0 ≡ first_side mesh f + turn (length (face_at mesh f)) k

-- for each side the side at another place of its face
abbrev pub turned : (ℕ → ℕ → ℕ) → Mesh → List ℕ
turned turn mesh =
    map
    (λ s. let f = get_or (owners 0 mesh.faces) s 0 in
    first_side mesh f + turn (length (face_at mesh f)) (s - first_side mesh f))
    (range_with_len 0 (side_count mesh))

-- the next side of each side around its face, and the one before it
abbrev pub nexts : Mesh → List ℕ
nexts mesh = turned after mesh

abbrev pub befores : Mesh → List ℕ
befores mesh = turned before mesh

-- a soup whose edges have two faces each, with the mate of each side
pub record AreDartTables (mesh : Mesh) (mate : List ℕ) : Type 0 where
  pub is_mesh : IsMesh mesh
  pub few : side_count mesh < 2 ^ 30
  pub two : HasTwoFaces mesh
  pub mates : AreAllMates mesh mate

-- the dart at the head of the side before a side
abbrev pub dart_before : Mesh → ℕ → ℕ × Bool
dart_before mesh s = (get_or (befores mesh) s 0, true)

-- a whole round from a side is marked
pub record IsRoundMarked (mesh : Mesh) (mate : List ℕ) (home : ℕ) (seen_before seen : List Bool) : Type 0 where
  pub ring : List ℕ
  pub round : IsRound (nexts mesh) (befores mesh) mate (all_corners mesh) (dart_before mesh home) seen_before seen ring

-- it is listed behind other sides too, and the edges of its darts behind other edges
pub record IsRoundListed (mesh : Mesh) (mate edge_of : List ℕ) (home : ℕ) (seen_before seen : List Bool)
    (sides_before sides edges_before edges : List ℕ) : Type 0 where
  pub ring : List ℕ
  pub between : List ℕ
  pub sides_are : sides ≡ sides_before ++ ring
  pub edges_are : edges ≡ edges_before ++ between
  pub round : IsRound (nexts mesh) (befores mesh) mate (all_corners mesh) (dart_before mesh home) seen_before seen ring
  pub trail : IsTrail (nexts mesh) (befores mesh) mate (all_corners mesh) edge_of (dart_before mesh home) (length ring)
      between

-- a side begins at a vertex
abbrev pub BeginsAt : Mesh → ℕ → ℕ → Type 0
BeginsAt mesh v s = (s < side_count mesh) × (get_or (all_corners mesh) s 0 ≡ v)

-- the sides that begin at a vertex, one a face there, in the order round it
pub record IsRing (mesh : Mesh) (v : ℕ) (ring : List ℕ) : Type 0 where
  pub some : 0 < length ring
  pub first : get_or ring 0 0 ≡ get_or (sides_at mesh v) 0 0
  pub begin : (k : ℕ) → k < length ring → BeginsAt mesh v (get_or ring k 0)
  pub differ : (i k : ℕ) → i < k → k < length ring → get_or ring i 0 ≢ get_or ring k 0
  pub all : (s : ℕ) → BeginsAt mesh v s → (k : ℕ) × (k < length ring) × (get_or ring k 0 ≡ s)
  pub share : (k f g : ℕ) → k < length ring → IsFaceOf mesh (get_or ring k 0) f →
      IsFaceOf mesh (get_or ring (after (length ring) k) 0) g → ShareAt mesh v f g

-- an edge with an end at the vertex
abbrev pub IsEdgeAt : Mesh → ℕ → ℕ → Type 0
IsEdgeAt mesh v e = (e < edge_count mesh) × (touches v (ends mesh e) ≡ true)

-- a list of exactly the edges at a vertex, each once
pub record AreEdgesAt (mesh : Mesh) (v : ℕ) (list : List ℕ) : Type 0 where
  pub at : (k : ℕ) → k < length list → IsEdgeAt mesh v (get_or list k 0)
  pub differ : (i k : ℕ) → i < k → k < length list → get_or list i 0 ≢ get_or list k 0
  pub all : (e : ℕ) → IsEdgeAt mesh v e → (k : ℕ) × (k < length list) × (get_or list k 0 ≡ e)

-- the side that stands before a side in its face
abbrev pub side_before : Mesh → ℕ → ℕ → ℕ
side_before mesh f s = first_side mesh f + before (length (face_at mesh f)) (s - first_side mesh f)

-- The edges between the faces of a ring. The first one stands before the first corner of the ring in its face; the
-- faces of each entry and of the next one, the first after the last, have the edge at its place.
pub record GoBetween (mesh : Mesh) (ring edges : List ℕ) : Type 0 where
  pub size : length edges ≡ length ring
  pub first : (f : ℕ) → IsFaceOf mesh (get_or ring 0 0) f →
      ends mesh (get_or edges 0 0) ≡ pair_at mesh (side_before mesh f (get_or ring 0 0))
  pub behind : (k f : ℕ) → k < length ring → IsFaceOf mesh (get_or ring k 0) f →
      HasEdge mesh f (ends mesh (get_or edges k 0))
  pub ahead : (k g : ℕ) → k < length ring → IsFaceOf mesh (get_or ring (after (length ring) k) 0) g →
      HasEdge mesh g (ends mesh (get_or edges k 0))

-- a ring of all faces at a vertex, with the edges between them
pub record IsWholeRing (mesh : Mesh) (v : ℕ) (ring edges : List ℕ) : Type 0 where
  pub is_ring : IsRing mesh v ring
  pub are_edges : AreEdgesAt mesh v edges
  pub between : GoBetween mesh ring edges
  pub fan : HasOneFan mesh v

-- the least face at a vertex, and the least face there outside that face's cycle
pub record IsPinch (mesh : Mesh) (v f g : ℕ) : Type 0 where
  pub first : HasCorner mesh f v
  pub none_less : (h : ℕ) → h < f → HasCorner mesh h v → ⊥
  pub second : HasCorner mesh g v
  pub apart : Joined (ShareAt mesh v) f g → ⊥
  pub joined_before : (h : ℕ) → h < g → HasCorner mesh h v → Joined (ShareAt mesh v) f h

-- the least vertex whose faces are more than one cycle
pub record IsLeastPinch (mesh : Mesh) (v f g : ℕ) : Type 0 where
  pub is_vertex : v < mesh.vertices
  pub pinch : IsPinch mesh v f g
  pub none_before : (u : ℕ) → u < v → HasOneFan mesh u

-- all sides at a vertex are marked
abbrev pub AllMarkedAt : Mesh → List Bool → ℕ → Type 0
AllMarkedAt mesh seen v = (s : ℕ) → BeginsAt mesh v s → marked seen s ≡ true

-- The faces at a vertex by marks of sides: they are one cycle where all sides there are marked; else the vertex is
-- pinched, and the least side that isn't marked tells where.
pub record IsMarkedFan (mesh : Mesh) (seen : List Bool) (v : ℕ) : Type 0 where
  pub fan : AllMarkedAt mesh seen v → HasOneFan mesh v
  pub pinch : (s : ℕ) → BeginsAt mesh v s → marked seen s ≡ false →
      ((t : ℕ) → t < s → BeginsAt mesh v t → marked seen t ≡ true) →
      IsPinch mesh v (get_or (owners 0 mesh.faces) (get_or (sides_at mesh v) 0 0) 0) (get_or (owners 0 mesh.faces) s 0)

-- the faces at each of the first vertices, by marks of sides
abbrev pub AreMarkedFans : Mesh → List Bool → ℕ → Type 0
AreMarkedFans mesh seen count = (v : ℕ) → v < count → IsMarkedFan mesh seen v

-- rings of the first vertices, by marks of sides: each is whole where all sides at the vertex are marked
pub record AreMarkedRings (mesh : Mesh) (seen : List Bool) (count : ℕ) (rings edges : List (List ℕ)) : Type 0 where
  pub size : length rings ≡ count
  pub edges_size : length edges ≡ count
  pub rings_are : (v : ℕ) → v < count → AllMarkedAt mesh seen v →
      IsWholeRing mesh v (get_or rings v []) (get_or edges v [])

-- rings of the first vertices
pub record AreAllRings (mesh : Mesh) (count : ℕ) (rings edges : List (List ℕ)) : Type 0 where
  pub size : length rings ≡ count
  pub edges_size : length edges ≡ count
  pub whole : (v : ℕ) → v < count → IsWholeRing mesh v (get_or rings v []) (get_or edges v [])
  pub fans : (v : ℕ) → v < count → HasOneFan mesh v

abbrev pub AreRings : Mesh → Rings → Type 0
AreRings mesh (All rings) = AreAllRings mesh mesh.vertices rings.0 rings.1
AreRings mesh (Pinched v f g) = IsLeastPinch mesh v f g
