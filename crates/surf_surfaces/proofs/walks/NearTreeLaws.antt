-- Trees that are those of shortest walks as far as a distance.
use Rattle.std.proofs.Common.{◌≡◌, ◌≢◌, ℕ, zero, suc, ◌+◌, ◌<◌, ◌≤◌, List, [], ◌∷◌, ◌++◌, ◌⊎◌, refl, sym, ap, ◌∙◌, arith, inl, inr, eqb, eq-eqb, ne_eqb}
use Rattle.surf_surfaces.proofs.Common.{cases_eq, xor, Mesh, ends, IsSurface, edge_length, edge_number, ArePositive, IsShortestTree, way_down, way_up, Tree, on_way}
use Rattle.surf_surfaces.specs.FewBases.{IsNearTree, HasNearLoops, NearTreesHaveLoops}
use Rattle.surf_surfaces.proofs.meshes.CellLaws.{surfaces_are_cells}
use Rattle.surf_surfaces.proofs.walks.ShortestTreeLaws.{shortest_is_tree}

module _ (mesh : Mesh) (lengths : List ℕ) (base far : ℕ) (tree near : Tree) (surface : IsSurface mesh)
    (positive : ArePositive mesh lengths) (short : IsShortestTree mesh lengths base tree)
    (is : IsNearTree mesh lengths base far tree.rank near) where
  roots : near.root ≡ tree.root
  roots = is.root ∙ sym short.root

  parents : (v : ℕ) → v < mesh.vertices → tree.rank v ≤ far → v ≢ base → near.parent v ≡ tree.parent v
  parents v v_in within ne =
      let one = is.least (tree.parent v) v v_in within ne (short.tight v v_in ne) in
      let other = short.least (near.parent v) v v_in ne (is.tight v v_in within ne) in
      omega (arith, one, other)

  -- a parent is in the mesh, and as near
  above : (v : ℕ) → v < mesh.vertices → tree.rank v ≤ far → v ≢ base →
      (tree.parent v < mesh.vertices) × (tree.rank (tree.parent v) ≤ far)
  above v v_in within ne =
      let is_tree = shortest_is_tree mesh lengths base tree surface positive short in
      let off : v ≢ tree.root = λ e. ne (e ∙ short.root) in
      let fall = is_tree.rank_falls v v_in off in
      (is_tree.parent_in v v_in off, omega (arith, fall))

  ups : (v : ℕ) → v < mesh.vertices → tree.rank v ≤ far → v ≢ base → near.up v ≡ tree.up v
  ups v v_in within ne =
      is.up v v_in within ne ∙ ap (λ p. edge_number mesh (p, v)) (parents v v_in within ne) ∙ sym (short.up v v_in ne)

  -- a vertex is the root of both, or it has the same parent in both, by the same edge
  alike : (v : ℕ) → v < mesh.vertices → tree.rank v ≤ far →
      ((v ≡ near.root) × (v ≡ tree.root))
      ⊎ ((v ≢ near.root) × (v ≢ tree.root) × (near.parent v ≡ tree.parent v) × (near.up v ≡ tree.up v)
      × (tree.parent v < mesh.vertices) × (tree.rank (tree.parent v) ≤ far))
  alike v v_in within = elim (cases_eq v base) [
    | inl same ↦ inl (same ∙ sym is.root, same ∙ sym short.root)
    | inr ne ↦
        let up = above v v_in within ne in
        inr (λ e. ne (e ∙ is.root), λ e. ne (e ∙ short.root), parents v v_in within ne, ups v v_in within ne, up.0, up.1)
  ]

  same_up : (k v : ℕ) → v < mesh.vertices → tree.rank v ≤ far → way_up near k v ≡ way_up tree k v
  same_up zero v v_in within = refl
  same_up (suc k) v v_in within = elim (alike v v_in within) [
    | inl at ↦ rw (eq-eqb v near.root at.0, eq-eqb v tree.root at.1) refl
    | inr off ↦ rw (ne_eqb v near.root off.0, ne_eqb v tree.root off.1, off.2)
        (ap (λ w. tree.parent v ∷ w) (same_up k (tree.parent v) off.4 off.5))
  ]

  same_down : (k v : ℕ) → v < mesh.vertices → tree.rank v ≤ far → way_down near k v ≡ way_down tree k v
  same_down zero v v_in within = refl
  same_down (suc k) v v_in within = elim (alike v v_in within) [
    | inl at ↦ rw (eq-eqb v near.root at.0, eq-eqb v tree.root at.1) refl
    | inr off ↦ rw (ne_eqb v near.root off.0, ne_eqb v tree.root off.1, off.2)
        (ap (λ w. w ++ v ∷ []) (same_down k (tree.parent v) off.4 off.5))
  ]

  same_way : (k v : ℕ) → v < mesh.vertices → tree.rank v ≤ far → (e : ℕ) → on_way near k v e ≡ on_way tree k v e
  same_way zero v v_in within e = refl
  same_way (suc k) v v_in within e = elim (alike v v_in within) [
    | inl at ↦ rw (eq-eqb v near.root at.0, eq-eqb v tree.root at.1) refl
    | inr off ↦ rw (ne_eqb v near.root off.0, ne_eqb v tree.root off.1, off.2, off.3)
        (ap (xor (eqb (tree.up v) e)) (same_way k (tree.parent v) off.4 off.5 e))
  ]

  pub near_loops : HasNearLoops mesh lengths far tree near
  near_loops = record {
    paths = λ v v_in within e. ap (λ k. on_way near k v e) (is.ranks v v_in within) ∙ same_way (tree.rank v) v v_in within e;
    loops = λ e e_in u_near v_near.
        let u = (ends mesh e).0 in
        let v = (ends mesh e).1 in
        let inside = (surfaces_are_cells mesh surface).complex.primal_ends e e_in in
        let down : way_down near (near.rank u) u ≡ way_down tree (tree.rank u) u =
        ap (λ k. way_down near k u) (is.ranks u inside.0 u_near) ∙ same_down (tree.rank u) u inside.0 u_near in
        let up : way_up near (near.rank v) v ≡ way_up tree (tree.rank v) v =
        ap (λ k. way_up near k v) (is.ranks v inside.1 v_near) ∙ same_up (tree.rank v) v inside.1 v_near in
        ap (λ r. r ∷ way_down near (near.rank u) u ++ (v ∷ way_up near (near.rank v) v)) roots
        ∙ ap (λ w. tree.root ∷ w ++ (v ∷ way_up near (near.rank v) v)) down
        ∙ ap (λ w. tree.root ∷ way_down tree (tree.rank u) u ++ (v ∷ w)) up;
    sizes = λ e e_in u_near v_near.
        let inside = (surfaces_are_cells mesh surface).complex.primal_ends e e_in in
        ap (λ n. n + edge_length lengths e + near.rank (ends mesh e).1) (is.ranks (ends mesh e).0 inside.0 u_near)
        ∙ ap (λ n. tree.rank (ends mesh e).0 + edge_length lengths e + n) (is.ranks (ends mesh e).1 inside.1 v_near);
  }

pub near_trees_have_loops : NearTreesHaveLoops
near_trees_have_loops mesh lengths base far tree near surface positive short is =
    near_loops mesh lengths base far tree near surface positive short is
