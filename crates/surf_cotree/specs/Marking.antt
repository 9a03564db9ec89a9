-- A search that marks the edges of its tree and keeps no tables of parents and depths.
use Rattle.std.specs.Prelude.{ℕ, ◌≡◌, ◌<◌, ◌&&◌, ◌||◌, ◌==◌, Bool, false, not, List, length}
use Rattle.surf_z2.specs.Parity.{any_below, count_below}
use Rattle.surf_graphs.specs.Graphs.{Graph}
use Rattle.surf_heap.specs.Entries.{Entries, IsEmpty}
use Rattle.surf_base.specs.Tables.{nobody, at}
use Rattle.surf_cotree.specs.Searches.{flag, reached, spanned_tree, IsPrim}

-- edge e leads from one of the first n nodes to its parent
abbrev pub leads_up : ℕ → List ℕ → ℕ → Bool
leads_up n up e = any_below n (λ f. not (at up f == nobody) && (at up f == e))

-- the marked edges are those that aren't allowed and those that lead up
abbrev pub AreMarked : ℕ → (ℕ → Bool) → List ℕ → List Bool → Type 0
AreMarked n allowed up marks = (e : ℕ) → flag marks e ≡ (not (allowed e) || leads_up n up e)

-- There are tables for the state of a search. A node has a flag where it is reached, and the marked edges are those
-- that lead up and those that aren't allowed.
pub record IsMarking (g : Graph) (allowed : ℕ → Bool) (weight : ℕ → ℕ) (marks there : List Bool)
    (heap : Entries) : Type 0 where
  pub parent : List ℕ
  pub up : List ℕ
  pub depth : List ℕ
  pub parents : length parent ≡ g.nodes
  pub ups : length up ≡ g.nodes
  pub depths : length depth ≡ g.nodes
  pub places : length heap ≡ g.nodes
  pub root : at up 0 ≡ nobody
  pub free : (f : ℕ) → f < g.nodes → reached depth f ≡ false → at up f ≡ nobody
  pub flags : (f : ℕ) → f < g.nodes → flag there f ≡ reached depth f
  pub prim : IsPrim g allowed weight (reached depth) (spanned_tree 0 parent up depth) heap
      (count_below g.nodes (λ v. at depth v == nobody))
  pub marked : AreMarked g.nodes allowed up marks

-- such a search is at its end: no node waits
pub record HasMarking (g : Graph) (allowed : ℕ → Bool) (weight : ℕ → ℕ) (marks : List Bool) : Type 0 where
  pub there : List Bool
  pub heap : Entries
  pub empty : IsEmpty heap
  pub marking : IsMarking g allowed weight marks there heap
