-- The tables of a search that has settled all nodes are of the tree of shortest walks.
use Rattle.std.proofs.Common.{ℕ, ◌<◌, ◌≤◌, ◌≡◌, ◌≢◌, ◌+◌, refl, sym, ◌∙◌, arith, inl, inr, List, get_or, Bool, false, not, ◌&&◌, eqb, eq-eqb, ne_eqb}
use Rattle.surf_surfaces.proofs.Common.{cases_eq, any_below, any_below-same, Graph, IsGraph, IsTree, IsShortest, joins_turned, joins_ends}
use Rattle.surf_graphs.proofs.Distances.{ranks_least}
use Rattle.surf_lengths.specs.Lengths.{longest}
use Rattle.surf_base.specs.Tables.{nobody, at}
use Rattle.surf_tree.specs.Tables.{TreeTables, tree_of}
use Rattle.surf_tree.specs.Searches.{IsSettled, IsTight, IsLeastTight}
use Rattle.surf_tree.proofs.SearchWords.{IsGrownIn}

abbrev tables : ℕ → List ℕ → List ℕ → List ℕ → List Bool → TreeTables
tables base distance parent up marks = record { base = base; distances = distance; parents = parent; ups = up; flags = marks }

module _ (g : Graph) (len : ℕ → ℕ) (base : ℕ) (distance parent up : List ℕ) (marks : List Bool) (graph : IsGraph g) (small : g.nodes ≤ longest) (positive : (e : ℕ) → e < g.edges → 1 ≤ len e)
    (in_range : base < g.nodes) (settled : IsSettled g len base (at distance)) (chosen : (v : ℕ) → v < g.nodes → IsLeastTight g len (at distance) v (at parent v) (at up v)) where
  pub has_parent : (v : ℕ) → v < g.nodes → v ≢ base → at parent v ≢ nobody
  has_parent v l ne same =
      let r = settled.tight v l ne in
      let le : at parent v ≤ r.before = (chosen v l).least r.before r.edge (record { edge_in = r.edge_in; joined = r.joined; is = sym r.is }) in
      let b : r.before < g.nodes = r.before_in in
      omega arith

  base_alone : at parent base ≡ nobody
  base_alone = elim (cases_eq (at parent base) nobody) [
    | inl same ↦ same
    | inr ne ↦
        let t = ((chosen base in_range).tight ne).1 in
        let e : at distance (at parent base) + len (at up base) ≡ at distance base = t.is in
        let z : at distance base ≡ 0 = settled.at_base in
        let p : 1 ≤ len (at up base) = positive (at up base) t.edge_in in
        absurd (omega arith)
  ]

  up_tight : (v : ℕ) → v < g.nodes → v ≢ base → (at parent v < g.nodes) × IsTight g len (at distance) v (at parent v) (at up v)
  up_tight v l ne = (chosen v l).tight (has_parent v l ne)

  is_tree : IsTree g (tree_of (tables base distance parent up marks))
  is_tree = record {
    root_in = in_range;
    parent_in = λ v l ne. (up_tight v l ne).0;
    up_in = λ v l ne. (up_tight v l ne).1.edge_in;
    up_joins = λ v l ne. (up_tight v l ne).1.joined;
    rank_falls = λ v l ne.
        let t = (up_tight v l ne).1 in
        let e : at distance (at parent v) + len (at up v) ≡ at distance v = t.is in
        let p : 1 ≤ len (at up v) = positive (at up v) t.edge_in in
        omega arith;
  }

  is_shortest : IsShortest g len (tree_of (tables base distance parent up marks))
  is_shortest = record {
    none_at_root = settled.at_base;
    adds_up = λ v l ne. sym (up_tight v l ne).1.is;
    no_short_cut = λ e l.
        let ends = graph e l in
        (settled.near (g.from e) (g.to e) e ends.0 ends.1 l (joins_ends g e), settled.near (g.to e) (g.from e) e ends.1 ends.0 l (joins_turned g (g.from e) (g.to e) e (joins_ends g e)));
  }

  same_root : (v : ℕ) → v < g.nodes → eqb (at parent v) nobody ≡ eqb v base
  same_root v l = elim (cases_eq v base) [
    | inl same ↦ rw (same, base_alone) (sym (eq-eqb base base refl))
    | inr ne ↦ rw (ne_eqb (at parent v) nobody (has_parent v l ne), ne_eqb v base ne)
  ]

  pub grown_tree : ((e : ℕ) → e < g.edges → get_or marks e false ≡ any_below g.nodes (λ v. not (eqb (at parent v) nobody) && eqb (at up v) e)) → IsGrownIn g len (tables base distance parent up marks)
  grown_tree marked = record {
    tree = is_tree;
    shortest = is_shortest;
    distances = λ simple v l. ranks_least g len (tree_of (tables base distance parent up marks)) simple is_tree is_shortest v l;
    parents = chosen;
    fits = settled.fits;
    has_parent = has_parent;
    base_parent = base_alone;
    flags = λ e l. marked e l ∙ any_below-same g.nodes (λ v. not (eqb (at parent v) nobody) && eqb (at up v) e) (λ v. not (eqb v base) && eqb (at up v) e) (λ v lv. rw (same_root v lv));
  }
