-- The laws, as statements.
use Rattle.std.specs.Prelude.{ℕ, ◌≡◌, ◌<◌, ◌≤◌, ◌+◌, ◌*◌, suc, ◌↔◌, ◌≢◌, ◌⊎◌, Bool, true, false, ◌&&◌, List, [], ◌∷◌}
use Rattle.std.specs.Prelude.{◌++◌, length, map, sum, All}
use Rattle.surf_graphs.specs.Rounds.{IsTurn, Rounds}
use Rattle.surf_graphs.specs.Sides.{Sides, IsSides}
use Rattle.surf_graphs.specs.Cycles.{graph_runs, IsSimpleGraphCycle, Separates, TwoWalks}
use Rattle.surf_graphs.specs.Loops.{IsSimple, way_down, way_up, graph_loop_walk}
use Rattle.surf_graphs.specs.Independence.{AreIndependentChains, signature_of, signed, loop_chain, left_loops, IsCovering}
use Rattle.surf_graphs.specs.Independence.{IsClosedWalk, closed_walk}
use Rattle.surf_z2.specs.Space.{Chain, numbers, Independent, Weighed, weights, vectors, SpannedUpToWeight}
use Rattle.surf_graphs.specs.Growth.{Grown, with_node, with_edge, inner_end, IsHeavy}
use Rattle.surf_z2.specs.Parity.{odd_below, count_below}
use Rattle.surf_graphs.specs.Graphs.{leaves, joins, Graph, IsGraph, IsConnectedGraph, IsEven, IsGraphWalk, graph_touches, walk_chain}
use Rattle.surf_graphs.specs.Graphs.{graph_walk_length}
use Rattle.surf_graphs.specs.Trees.{Tree, IsTree, in_tree, loop, IsShortest, graph_loop_length}
use Rattle.surf_graphs.specs.Cells.{Cells, primal, dual, IsCellComplex, cell_boundary, parts, IsNullChain, Split, IsSplit}
use Rattle.surf_graphs.specs.Cells.{IsHeaviest, chain_signature, graph_walk_signature}

-- An even chain inside a spanning tree is empty.
abbrev pub EvenInTreeIsEmpty : Type 0
EvenInTreeIsEmpty = (g : Graph) (t : Tree) → IsGraph g → IsTree g t → (chain : ℕ → Bool) → IsEven g chain →
    ((e : ℕ) → e < g.edges → chain e ≡ true → in_tree g t e ≡ true) → (e : ℕ) → e < g.edges → chain e ≡ false

-- The boundary of a set of faces is even at each vertex.
abbrev pub CellBoundariesAreEven : Type 0
CellBoundariesAreEven = (s : Cells) → IsCellComplex s → (set : ℕ → Bool) → IsEven (primal s) (cell_boundary s set)

-- The edges that a closed walk runs an odd number of times are even at each node.
abbrev pub ClosedGraphWalksAreEven : Type 0
ClosedGraphWalksAreEven = (g : Graph) (a : ℕ) (w : List ℕ) → IsGraphWalk g a w a → IsEven g (walk_chain g a w)

-- A set of faces that no edge outside the tree leaves has all faces or none.
abbrev pub EdgesOutsideTreeJoinFaces : Type 0
EdgesOutsideTreeJoinFaces = (s : Cells) → IsCellComplex s → (t : Tree) → IsTree (primal s) t →
    (set : ℕ → Bool) →
    ((e : ℕ) → e < s.edges → in_tree (primal s) t e ≡ false → cell_boundary s set e ≡ false) → (a b : ℕ) →
    a < s.faces → b < s.faces → set a ≡ set b

-- A tree has one edge less than its graph has nodes.
abbrev pub TreesHaveOneEdgeLess : Type 0
TreesHaveOneEdgeLess = (g : Graph) (t : Tree) → IsTree g t → suc (count_below g.edges (in_tree g t)) ≡ g.nodes

-- 2 - χ edges are left.
abbrev pub LeftEdgesCount : Type 0
LeftEdgesCount = (s : Cells) (d : Split) → IsSplit s d → length d.left + (s.vertices + s.faces) ≡ s.edges + 2

-- An even chain is null exactly where its signature is zero.
abbrev pub NullChains : Type 0
NullChains = (s : Cells) (d : Split) → IsCellComplex s → IsSplit s d → (chain : ℕ → Bool) →
    IsEven (primal s) chain →
    IsNullChain s chain ↔ ((k : ℕ) → k < length d.left → chain_signature s d chain k ≡ false)

-- A closed walk is null exactly where its signature is zero.
abbrev pub NullWalks : Type 0
NullWalks = (s : Cells) (d : Split) → IsCellComplex s → IsSplit s d → (a : ℕ) (w : List ℕ) →
    IsGraphWalk (primal s) a w a →
    IsNullChain s (walk_chain (primal s) a w) ↔ ((k : ℕ) → k < length d.left → graph_walk_signature s d a w k ≡ false)

-- The signatures of a face's edges sum to zero.
abbrev pub CellFacesSumToZero : Type 0
CellFacesSumToZero = (s : Cells) (d : Split) → IsCellComplex s → IsSplit s d → (f k : ℕ) → f < s.faces →
    k < length d.left →
    chain_signature s d (λ e. graph_touches (dual s) f e) k ≡ false

-- An even chain is the sum of the loops of its edges.
abbrev pub EvenChainsAreSumsOfLoops : Type 0
EvenChainsAreSumsOfLoops = (g : Graph) (t : Tree) → IsGraph g → (chain : ℕ → Bool) → IsEven g chain →
    (e : ℕ) → e < g.edges →
    odd_below g.edges (λ l. chain l && loop g t l e) ≡ chain e

-- No edge that a closed walk at the root of a shortest tree runs an odd number of times has a loop
-- that is longer than the walk.
abbrev pub LoopsOfWalkAreNoLonger : Type 0
LoopsOfWalkAreNoLonger = (g : Graph) (len : ℕ → ℕ) (t : Tree) → IsShortest g len t → (w : List ℕ) (e : ℕ) →
    IsGraphWalk g t.root w t.root → walk_chain g t.root w e ≡ true →
    graph_loop_length g len t e ≤ graph_walk_length g len t.root w

-- Where the cotree is heaviest, the signature of each edge's loop is a sum of those of left loops
-- that are no longer.
abbrev pub ShortLeftLoopsSpan : Type 0
ShortLeftLoopsSpan = (s : Cells) (len : ℕ → ℕ) (d : Split) → IsCellComplex s → IsSplit s d →
    IsHeaviest s len d → (e : ℕ) → e < s.edges →
    SpannedUpToWeight numbers (map (signed s d) (left_loops s len d))
    (signed s d (loop_chain (primal s) len d.tree e))

-- Even chains are independent exactly where their signatures are.
abbrev pub IndependentChains : Type 0
IndependentChains = (s : Cells) (d : Split) → IsCellComplex s → IsSplit s d → (xs : List Chain) →
    All (IsEven (primal s)) xs →
    AreIndependentChains s xs ↔ Independent numbers (map (signature_of s d) xs)

-- No more than 2 - χ even chains are independent.
abbrev pub IndependentChainsAreFew : Type 0
IndependentChainsAreFew = (s : Cells) (d : Split) → IsCellComplex s → IsSplit s d → (xs : List Chain) →
    All (IsEven (primal s)) xs → AreIndependentChains s xs → length xs ≤ length d.left

-- The left loops are independent.
abbrev pub LeftLoopsAreIndependent : Type 0
LeftLoopsAreIndependent = (s : Cells) (d : Split) → IsCellComplex s → IsSplit s d →
    AreIndependentChains s (map (loop (primal s) d.tree) d.left)

-- No independent list of 2 - χ closed walks at the root of a shortest tree is shorter in all than
-- the left loops of its heaviest cotree.
abbrev pub LeftGraphLoopsAreLeast : Type 0
LeftGraphLoopsAreLeast = (s : Cells) (len : ℕ → ℕ) (d : Split) → IsCellComplex s → IsSplit s d →
    IsShortest (primal s) len d.tree → IsHeaviest s len d → (walks : List (List ℕ)) →
    All (λ w. IsGraphWalk (primal s) d.tree.root w d.tree.root) walks → length walks ≡ length d.left →
    AreIndependentChains s (map (walk_chain (primal s) d.tree.root) walks) →
    sum (weights (left_loops s len d)) ≤ sum (map (graph_walk_length (primal s) len d.tree.root) walks)

-- No independent list of closed walks is shorter in all than as many cycles that cover the loops
-- through the shortest trees at all vertices.
abbrev pub CoveringCyclesAreLeast : Type 0
CoveringCyclesAreLeast = (s : Cells) (len : ℕ → ℕ) (d : Split) → IsCellComplex s → IsSplit s d →
    (trees : ℕ → Tree) →
    ((x : ℕ) → x < s.vertices → ((trees x).root ≡ x) × IsShortest (primal s) len (trees x)) →
    (cycles : List (Weighed Chain)) → IsCovering s len d trees cycles →
    (walks : List (ℕ × List ℕ)) → All (IsClosedWalk s) walks → length walks ≡ length cycles →
    AreIndependentChains s (vectors (map (closed_walk (primal s) len) walks)) →
    sum (weights cycles) ≤ sum (weights (map (closed_walk (primal s) len) walks))

-- Edge c of the cotree parts the faces of edge l exactly where a set of faces that no other edge of
-- the cotree leaves has one of them alone.
abbrev pub CotreeEdgesPart : Type 0
CotreeEdgesPart = (s : Cells) (d : Split) → IsCellComplex s → IsSplit s d → (c l : ℕ) → c < s.edges →
    l < s.edges → in_tree (dual s) d.cotree c ≡ true →
    (parts s d c l ≡ true)
    ↔ ((set : ℕ → Bool)
    × ((e : ℕ) → e < s.edges → e ≢ c → in_tree (dual s) d.cotree e ≡ true → cell_boundary s set e ≡ false)
    × (cell_boundary s set l ≡ true))

-- Faces that are run round by closed walks have an even number of edges at each vertex.
abbrev pub FacesAreClosedWalks : Type 0
FacesAreClosedWalks = (s : Cells) (start : ℕ → ℕ) (around : ℕ → List ℕ) →
    ((f : ℕ) → f < s.faces → IsGraphWalk (primal s) (start f) (around f) (start f)) →
    ((f e : ℕ) → f < s.faces → e < s.edges →
    graph_touches (dual s) f e ≡ walk_chain (primal s) (start f) (around f) e) →
    (v f : ℕ) → v < s.vertices → f < s.faces →
    odd_below s.edges (λ e. graph_touches (primal s) v e && graph_touches (dual s) f e) ≡ false

-- A simple cycle is null exactly where it separates the faces.
abbrev pub NullGraphCyclesSeparate : Type 0
NullGraphCyclesSeparate = (s : Cells) → IsCellComplex s → (a : ℕ) (w : List ℕ) → IsSimpleGraphCycle (primal s) a w →
    IsNullChain s (walk_chain (primal s) a w) ↔ Separates s (walk_chain (primal s) a w)

-- In faces that are run round by their sides, where each edge is two sides, each face has an even
-- number of edges at each vertex.
abbrev pub SidesMakeCornersEven : Type 0
SidesMakeCornersEven = (s : Cells) (h : Sides) → IsSides s h → (v f : ℕ) →
    odd_below s.edges (λ e. graph_touches (primal s) v e && graph_touches (dual s) f e) ≡ false

-- Where faces are run round by sides, the vertices are connected if the faces are.
abbrev pub SidesConnectVertices : Type 0
SidesConnectVertices = (s : Cells) (h : Sides) → IsSides s h → IsConnectedGraph (dual s) → IsConnectedGraph (primal s)

-- In any tree the loop of an edge is a closed walk at the root.
abbrev pub GraphLoopsAreClosed : Type 0
GraphLoopsAreClosed = (g : Graph) (t : Tree) → IsGraph g → IsTree g t → (l : ℕ) → l < g.edges →
    IsGraphWalk g t.root (graph_loop_walk g t l) t.root

-- In a shortest tree of a graph without double edges the walk of an edge's loop has the loop's
-- edges and length.
abbrev pub LoopsAreWalks : Type 0
LoopsAreWalks = (g : Graph) (len : ℕ → ℕ) (t : Tree) → IsGraph g → IsSimple g → IsTree g t →
    IsShortest g len t → (l : ℕ) → l < g.edges →
    IsGraphWalk g t.root (graph_loop_walk g t l) t.root
    × ((e : ℕ) → walk_chain g t.root (graph_loop_walk g t l) e ≡ loop g t l e)
    × (graph_walk_length g len t.root (graph_loop_walk g t l) ≡ graph_loop_length g len t l)

-- For a closed walk that is not null there is an edge, whether or not the walk runs it, whose loop
-- is not null and no longer than the walk.
abbrev pub NonNullWalksHaveShortLoops : Type 0
NonNullWalksHaveShortLoops = (s : Cells) (len : ℕ → ℕ) (d : Split) → IsCellComplex s → IsSplit s d →
    (t : Tree) → IsShortest (primal s) len t → (a : ℕ) → t.rank a ≡ 0 →
    (w : List ℕ) → IsGraphWalk (primal s) a w a → (IsNullChain s (walk_chain (primal s) a w) → ⊥) →
    (e : ℕ) × (e < s.edges) × (graph_loop_length (primal s) len t e ≤ graph_walk_length (primal s) len a w)
    × (IsNullChain s (loop (primal s) t e) → ⊥)

-- In a graph without double edges and without edges from a node to itself, a closed walk that runs
-- some edge an odd number of times is a simple cycle, or the sum of two closed walks that are not
-- empty.
abbrev pub ClosedWalksAreSimpleOrTwo : Type 0
ClosedWalksAreSimpleOrTwo = (g : Graph) → IsSimple g → ((e : ℕ) → e < g.edges → g.from e ≢ g.to e) →
    (a : ℕ) (w : List ℕ) → IsGraphWalk g a w a → (e : ℕ) → walk_chain g a w e ≡ true →
    IsSimpleGraphCycle g a w ⊎ TwoWalks g a w

-- Of three turnings of which one is the sum of the other two, the rounds and the turned sides are
-- an even number in all.
abbrev pub RoundsAreEven : Type 0
RoundsAreEven = (n : ℕ) (p pb q qb r rb : ℕ → ℕ) (a b c : ℕ) → IsTurn n p pb → IsTurn n q qb → IsTurn n r rb →
    Rounds n p a → Rounds n q b → Rounds n r c →
    ((i : ℕ) → i < n → r i ≡ p (q i)) → (k : ℕ) × (a + b + c + n ≡ 2 * k)

-- Where mates, faces and vertices are turns of the sides, and a vertex's next side is the mate's
-- next, the number of left edges is even.
abbrev pub LeftEdgesAreEven : Type 0
LeftEdgesAreEven = (s : Cells) (d : Split) → IsSplit s d → (n : ℕ) (mate next before ring back : ℕ → ℕ) →
    IsTurn n mate mate → IsTurn n next before → IsTurn n ring back →
    Rounds n mate s.edges → Rounds n next s.faces → Rounds n ring s.vertices → n ≡ 2 * s.edges →
    ((i : ℕ) → i < n → ring i ≡ next (mate i)) → (genus : ℕ) × (length d.left ≡ 2 * genus)

-- There are two sides for each edge, and the mates go round in pairs, one for each edge.
abbrev pub MatesAreRounds : Type 0
MatesAreRounds = (s : Cells) (h : Sides) → IsSides s h → (mate : ℕ → ℕ) →
    ((e : ℕ) → e < s.edges → (mate (h.one e) ≡ h.two e) × (mate (h.two e) ≡ h.one e)) →
    (h.count ≡ 2 * s.edges) × Rounds (2 * s.edges) mate s.edges

-- Each cell complex with a vertex and a face has a tree, a cotree and left edges.
abbrev pub SplitsExist : Type 0
SplitsExist = (s : Cells) → IsCellComplex s → 0 < s.vertices → 0 < s.faces → (d : Split) × IsSplit s d

-- Where χ is 2, and the faces but one are connected by edges that are not that one's, the edges of
-- that one are joined at vertices.
abbrev pub BordersAreConnected : Type 0
BordersAreConnected = (s : Cells) → IsCellComplex s → 0 < s.vertices → s.vertices + s.faces ≡ s.edges + 2 →
    (o : ℕ) → o < s.faces →
    ((set : ℕ → Bool) →
    ((e : ℕ) → e < s.edges → graph_touches (dual s) o e ≡ false → leaves (dual s) set e ≡ false) →
    (a b : ℕ) → a < s.faces → b < s.faces → a ≢ o → b ≢ o → set a ≡ set b) →
    (p : ℕ → Bool) →
    ((v e f : ℕ) → v < s.vertices → e < s.edges → f < s.edges → graph_touches (dual s) o e ≡ true →
    graph_touches (dual s) o f ≡ true → graph_touches (primal s) v e ≡ true → graph_touches (primal s) v f ≡ true → p e ≡ p f) →
    (e f : ℕ) → e < s.edges → f < s.edges → graph_touches (dual s) o e ≡ true → graph_touches (dual s) o f ≡ true →
    p e ≡ p f

-- In a graph without double edges the ranks of a shortest tree are the least lengths of walks from
-- its root.
abbrev pub RanksAreDistances : Type 0
RanksAreDistances = (g : Graph) (len : ℕ → ℕ) (t : Tree) → IsSimple g → IsTree g t → IsShortest g len t →
    (n : ℕ) → n < g.nodes →
    ((w : List ℕ) × IsGraphWalk g t.root w n × (graph_walk_length g len t.root w ≡ t.rank n))
    × ((w : List ℕ) → IsGraphWalk g t.root w n → t.rank n ≤ graph_walk_length g len t.root w)

-- A tree grows by an edge to a new node.
abbrev pub TreesGrow : Type 0
TreesGrow = (g : Graph) (allowed reached : ℕ → Bool) (t : Tree) → Grown g allowed reached t →
    (a b e rank : ℕ) → t.rank a < rank → a < g.nodes → b < g.nodes → e < g.edges → allowed e ≡ true →
    reached a ≡ true → reached b ≡ false → joins g b a e ≡ true →
    Grown g allowed (with_node reached b) (with_edge t a b e rank)

-- A heaviest edge that leaves the reached nodes keeps the tree heavy.
abbrev pub HeavyTreesGrow : Type 0
HeavyTreesGrow = (g : Graph) (allowed reached : ℕ → Bool) (t : Tree) (lighter : ℕ → ℕ → Bool) → IsGraph g →
    ((x y z : ℕ) → lighter x y ≡ true → lighter y z ≡ true → lighter x z ≡ true) →
    Grown g allowed reached t → IsHeavy g allowed reached t lighter → (a b e rank : ℕ) → t.rank a < rank →
    a < g.nodes → e < g.edges → allowed e ≡ true → reached a ≡ true → reached b ≡ false →
    leaves g reached e ≡ true → inner_end g reached e ≡ a →
    ((l : ℕ) → l < g.edges → allowed l ≡ true → leaves g reached l ≡ true → lighter l e ≡ true) →
    IsHeavy g allowed (with_node reached b) (with_edge t a b e rank) lighter

-- A heavy tree of all faces, over the edges outside the tree, is a heaviest cotree.
abbrev pub HeavyTreesAreHeaviest : Type 0
HeavyTreesAreHeaviest = (s : Cells) (len : ℕ → ℕ) (d : Split) → IsCellComplex s → IsSplit s d →
    (allowed : ℕ → Bool) (reached : ℕ → Bool) (lighter : ℕ → ℕ → Bool) →
    ((e : ℕ) → e < s.edges → in_tree (primal s) d.tree e ≡ false → allowed e ≡ true) →
    ((f : ℕ) → f < s.faces → reached f ≡ true) →
    ((x y : ℕ) → lighter x y ≡ true →
    graph_loop_length (primal s) len d.tree x ≤ graph_loop_length (primal s) len d.tree y) →
    IsHeavy (dual s) allowed reached d.cotree lighter → IsHeaviest s len d

-- Two tables with equal entries at the nodes describe one grown tree.
abbrev pub GrownTreesByTables : Type 0
GrownTreesByTables = (g : Graph) (allowed reached other : ℕ → Bool) (t u : Tree) → Grown g allowed reached t →
    u.root ≡ t.root → ((n : ℕ) → n < g.nodes → other n ≡ reached n) →
    ((n : ℕ) → n < g.nodes → (u.parent n ≡ t.parent n) × (u.up n ≡ t.up n) × (u.rank n ≡ t.rank n)) →
    Grown g allowed other u

-- A grown tree that has reached all nodes is a spanning tree.
abbrev pub GrownTreesSpan : Type 0
GrownTreesSpan = (g : Graph) (allowed reached : ℕ → Bool) (t : Tree) → Grown g allowed reached t →
    ((n : ℕ) → n < g.nodes → reached n ≡ true) → IsTree g t

-- A simple cycle runs each edge that it runs an odd number of times.
abbrev pub SimpleCyclesRunOnce : Type 0
SimpleCyclesRunOnce = (g : Graph) (a : ℕ) (w : List ℕ) → IsSimpleGraphCycle g a w → (e : ℕ) →
    walk_chain g a w e ≡ graph_runs g a w e

-- Each vertex is at an even number of a face's edges, where a simple cycle runs round each face.
abbrev pub FacesAreSimpleCycles : Type 0
FacesAreSimpleCycles = (s : Cells) (start : ℕ → ℕ) (around : ℕ → List ℕ) →
    ((f : ℕ) → f < s.faces → IsSimpleGraphCycle (primal s) (start f) (around f)) →
    ((f e : ℕ) → f < s.faces → e < s.edges → graph_touches (dual s) f e ≡ graph_runs (primal s) (start f) (around f) e) →
    (v f : ℕ) → v < s.vertices → f < s.faces →
    odd_below s.edges (λ e. graph_touches (primal s) v e && graph_touches (dual s) f e) ≡ false

-- the way up from a node begins with its parent, and the way down to it ends with the node after the way to its parent
pub record GoByParents (g : Graph) (t : Tree) : Type 0 where
  pub up_root : way_up t (t.rank t.root) t.root ≡ []
  pub up_step : (n : ℕ) → n < g.nodes → n ≢ t.root →
      way_up t (t.rank n) n ≡ t.parent n ∷ way_up t (t.rank (t.parent n)) (t.parent n)
  pub down_root : way_down t (t.rank t.root) t.root ≡ []
  pub down_step : (n : ℕ) → n < g.nodes → n ≢ t.root →
      way_down t (t.rank n) n ≡ way_down t (t.rank (t.parent n)) (t.parent n) ++ n ∷ []

-- In a tree the ways between the root and the nodes go from parent to parent.
abbrev pub WaysGoByParents : Type 0
WaysGoByParents = (g : Graph) (t : Tree) → IsTree g t → GoByParents g t
