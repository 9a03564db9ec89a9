-- What is known of a desk with the trees that are chosen at vertex 0.
use Rattle.surf_answers.proofs.Common.{◌≡◌, ℕ, List, length, sym, ap, subst, arith, replicate, cells_of, AreChosenAt}
use Rattle.surf_answers.proofs.Common.{split_of, Mesh, edge_count, loop_count, IsSplit, Split, Tree, Chain, Evidence}
use Rattle.surf_answers.proofs.Common.{IsChosen, IsClassEvidence, tree_of}
use Rattle.surf_cotree.specs.Grown.{IsMarked}
use Rattle.surf_cotree.specs.Tables.{CotreeTables, split_with, cotree_of}
use Rattle.surf_loops.specs.Loops.{LoopTables, IsGreedy, trees_of}
use Rattle.surf_walking.specs.ChosenDesks.{IsChosenDesk}

module _ (mesh : Mesh) (lengths : List ℕ) (t : LoopTables) (greedy : IsGreedy mesh lengths 0 t) where
  abbrev tree : Tree
  tree = tree_of t.tree

  marked : IsMarked mesh tree t.tree.flags
  marked = record { spans = greedy.rooted.spans; marks_are = greedy.tree.flags }

  same_split : split_with tree t.cotree ≡ split_of mesh tree (cotree_of t.cotree)
  same_split = ap with_left (greedy.cotree.left tree marked)
    where
      with_left : List ℕ → Split
      with_left left = record { tree = tree; cotree = cotree_of t.cotree; left = left }

  is_split : IsSplit (cells_of mesh) (split_with tree t.cotree)
  is_split = subst (IsSplit (cells_of mesh)) (sym same_split) (greedy.cotree.split tree marked)

  all_left : length t.cotree.left ≡ loop_count mesh
  all_left = let count = greedy.cotree.count in omega (arith, count)

  pub desk_chosen : IsChosenDesk mesh lengths t.cotree
  desk_chosen = record {
    trees = trees_of t;
    chosen = greedy.chosen;
    splits = same_split;
    split = is_split;
    grown = record { made = greedy.cotree.made; root = greedy.cotree.root; tree = tree; split = is_split };
    loops = all_left;
  }

-- evidence that is chosen by such a desk, where each edge has length 1
pub class_evidence : (mesh : Mesh) (lengths : List ℕ) (t : CotreeTables) (chain : Chain) (evidence : Evidence) →
    (desk : IsChosenDesk mesh lengths t) → lengths ≡ replicate (edge_count mesh) 1 →
    IsChosen mesh (split_with desk.trees.tree t) chain evidence → IsClassEvidence mesh chain evidence
class_evidence mesh lengths t chain evidence desk unit chosen = record {
  trees = desk.trees;
  are_chosen = subst (λ (l : List ℕ). AreChosenAt mesh l 0 desk.trees) unit desk.chosen;
  chosen = subst (λ (d : Split). IsChosen mesh d chain evidence) desk.splits chosen;
}
