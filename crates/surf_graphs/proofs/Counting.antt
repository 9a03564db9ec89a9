-- How many edges a tree has, and how many are left.
use Rattle.surf_z2.proofs.Common.{◌≡◌, ℕ, suc, ◌+◌, Bool, true, not, ◌&&◌, eqb, refl, ap, arith, ne_eqb, inl, inr, length, get_or, cases_Bool, and_parts, eqb-false, not-true, count_below}
use Rattle.surf_graphs.specs.Graphs.{Graph}
use Rattle.surf_graphs.specs.Trees.{Tree, IsTree, in_tree}
use Rattle.surf_graphs.specs.Cells.{Cells, primal, dual, Split, IsSplit}
use Rattle.surf_graphs.proofs.Trees.{tree_edge, up_in_tree, up_once}
use Rattle.surf_graphs.proofs.CellLaws.{left_once}
use Rattle.surf_z2.proofs.Sums.{count_below-same, count_below-all, count_below-without, count_below-paired, count_below-three}
use Rattle.surf_z2.proofs.ParityLaws.{eqb_comm}

-- a tree has one edge less than nodes
pub tree_edges : (g : Graph) (t : Tree) → IsTree g t → suc (count_below g.edges (in_tree g t)) ≡ g.nodes
tree_edges g t ok =
    let edges : count_below g.nodes (λ n. not (eqb n t.root)) ≡ count_below g.edges (in_tree g t) =
    count_below-paired g.nodes g.edges (λ n. not (eqb n t.root)) (in_tree g t) t.up
    (λ n l h. let ne = eqb-false n t.root (not-true (eqb n t.root) h) in (ok.up_in n l ne, up_in_tree g t n l ne))
    (λ n m ln lm hn hm e. up_once g t ok n m ln (eqb-false n t.root (not-true (eqb n t.root) hn)) lm
    (eqb-false m t.root (not-true (eqb m t.root) hm)) e)
    (λ e l h. let (n, ln, ne, is) = tree_edge g t e h in (n, ln, rw (ne_eqb n t.root ne), is)) in
    let others : count_below g.nodes (λ n. true && not (eqb t.root n)) ≡ count_below g.nodes (λ n. not (eqb n t.root)) =
    count_below-same g.nodes (λ n. not (eqb t.root n)) (λ n. not (eqb n t.root)) (λ n l. ap not (eqb_comm t.root n)) in
    let all : count_below g.nodes (λ n. true) ≡ suc (count_below g.nodes (λ n. true && not (eqb t.root n))) =
    count_below-without g.nodes t.root (λ n. true) ok.root_in refl in
    let total : count_below g.nodes (λ n. true) ≡ g.nodes = count_below-all g.nodes in
    omega arith

-- there are 2 - χ edges left
pub left_edges : (s : Cells) (d : Split) → IsSplit s d → length d.left + (s.vertices + s.faces) ≡ s.edges + 2
left_edges s d ok =
    let in_t = in_tree (primal s) d.tree in
    let in_c = in_tree (dual s) d.cotree in
    let rest : ℕ → Bool = λ e. not (in_t e) && not (in_c e) in
    let listed : count_below (length d.left) (λ k. true) ≡ count_below s.edges rest =
    count_below-paired (length d.left) s.edges (λ k. true) rest (λ k. get_or d.left k 0)
    (λ k l h. (ok.left_in k l, rw (ok.left_outside k l, ok.left_outside_dual k l)))
    (λ j k lj lk hj hk e. left_once s d ok j k lj lk e)
    (λ e l h.
    let both : (not (in_t e) ≡ true) × (not (in_c e) ≡ true) = and_parts _ _ h in
    let (k, lk, is) = ok.left_whole e l (not-true (in_t e) both.0) (not-true (in_c e) both.1) in
    (k, lk, refl, is)) in
    let three : count_below s.edges in_t + count_below s.edges in_c + count_below s.edges rest ≡ s.edges =
    count_below-three s.edges in_t in_c rest (λ e l. elim (cases_Bool (in_t e)) [
      | inl yes_t ↦ rw (yes_t, ok.apart e l yes_t)
      | inr no_t ↦ elim (cases_Bool (in_c e)) [ inl yes_c ↦ rw (no_t, yes_c) | inr no_c ↦ rw (no_t, no_c) ]
    ]) in
    let t_edges : suc (count_below s.edges in_t) ≡ s.vertices = tree_edges (primal s) d.tree ok.tree_is in
    let c_edges : suc (count_below s.edges in_c) ≡ s.faces = tree_edges (dual s) d.cotree ok.cotree_is in
    let total : count_below (length d.left) (λ k. true) ≡ length d.left = count_below-all (length d.left) in
    omega arith
