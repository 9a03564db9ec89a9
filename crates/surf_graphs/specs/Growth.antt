-- Trees that grow by an edge at a time, and heaviest ones.
use Rattle.std.specs.Prelude.{ℕ, ◌≡◌, ◌≢◌, ◌<◌, ◌⊎◌, Bool, true, ◌||◌, ◌==◌, if◌then◌else◌}
use Rattle.surf_z2.specs.Parity.{xor}
use Rattle.surf_graphs.specs.Graphs.{Graph, joins, leaves}
use Rattle.surf_graphs.specs.Trees.{Tree, on_path}

-- a tree of the reached nodes, over allowed edges
pub record Grown (g : Graph) (allowed reached : ℕ → Bool) (t : Tree) : Type 0 where
  pub root_in : t.root < g.nodes
  pub root_reached : reached t.root ≡ true
  pub inside : (n : ℕ) → n < g.nodes → reached n ≡ true → n ≢ t.root →
      (t.parent n < g.nodes) × (reached (t.parent n) ≡ true)
  pub edge : (n : ℕ) → n < g.nodes → reached n ≡ true → n ≢ t.root →
      (t.up n < g.edges) × (allowed (t.up n) ≡ true)
  pub joined : (n : ℕ) → n < g.nodes → reached n ≡ true → n ≢ t.root → joins g n (t.parent n) (t.up n) ≡ true
  pub falls : (n : ℕ) → n < g.nodes → reached n ≡ true → n ≢ t.root → t.rank (t.parent n) < t.rank n

-- one more node, b, behind the reached node a
abbrev pub with_node : (ℕ → Bool) → ℕ → ℕ → Bool
with_node reached b n = (n == b) || reached n

-- with a rank that is greater than that of a
abbrev pub with_edge : Tree → ℕ → ℕ → ℕ → ℕ → Tree
with_edge t a b e rank = record {
  root = t.root;
  parent = λ n. if n == b then a else t.parent n;
  up = λ n. if n == b then e else t.up n;
  rank = λ n. if n == b then rank else t.rank n;
}

-- the reached end of an edge that leaves the reached nodes
abbrev pub inner_end : Graph → (ℕ → Bool) → ℕ → ℕ
inner_end g reached e = if reached (g.from e) then g.from e else g.to e

-- edge c is on the tree's path between a and b
abbrev pub between : Tree → ℕ → ℕ → ℕ → Bool
between t a b c = xor (on_path t a c) (on_path t b c)

-- no allowed edge is heavier than one on the tree's path between its ends, and of two that leave the
-- reached nodes one is no heavier than any on the path between their reached ends
pub record IsHeavy (g : Graph) (allowed reached : ℕ → Bool) (t : Tree) (lighter : ℕ → ℕ → Bool) : Type 0 where
  pub inside : (l c : ℕ) → l < g.edges → allowed l ≡ true → reached (g.from l) ≡ true →
      reached (g.to l) ≡ true → between t (g.from l) (g.to l) c ≡ true → lighter l c ≡ true
  pub leaving : (l m c : ℕ) → l < g.edges → m < g.edges → allowed l ≡ true → allowed m ≡ true →
      leaves g reached l ≡ true → leaves g reached m ≡ true →
      between t (inner_end g reached l) (inner_end g reached m) c ≡ true →
      (lighter l c ≡ true) ⊎ (lighter m c ≡ true)
