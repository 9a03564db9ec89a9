-- Three points, or two that no edge of the full cut joins, have a cut of two edges or more.
use Rattle.surf_surfaces.proofs.Common.{◌≡◌, ◌≢◌, ℕ, ◌+◌, ◌<◌, ◌≤◌, inl, inr, sym, ap, ◌∙◌, true, false, length, arith, cases_eq, cases_lt, primal, between, Tree, IsTree, on_path, left_edges, cells_of, split_of, Mesh, face_count, edge_count, ends, touches, path_root}
use Rattle.surf_opening.specs.Laws.{cut_count}
use Rattle.surf_seams.specs.Laws.{TwoPointsAreCut, PointsApartAreLong, ThreePointsAreLong}
use Rattle.surf_z2.proofs.Counting.{count_some, count_one}
use Rattle.surf_seams.proofs.Openings.{cuts_through_are_long}
use Rattle.surf_seams.proofs.Pieces.{ends_at, points_are_on_cut}
use Rattle.surf_seams.proofs.Ways.{lower, itself, passed_up, cuts_through_are_ways}

module _ (mesh : Mesh) (tree : Tree) (ok : IsTree (primal (cells_of mesh)) tree) where
  -- the edge of a node is not on the way of another that is no farther
  off_way : (u v : ℕ) → u < mesh.vertices → v < mesh.vertices → v ≢ tree.root → u ≢ v → tree.rank u ≤ tree.rank v →
      on_path tree u (tree.up v) ≡ false
  off_way u v u_in v_in not_root apart less = elim (cases_eq u tree.root) [
    | inl root ↦ ap (λ u. on_path tree u (tree.up v)) root ∙ path_root tree (tree.up v)
    | inr other ↦
        let falls : tree.rank (tree.parent u) < tree.rank u = ok.rank_falls u u_in other in
        passed_up (primal (cells_of mesh)) tree ok v u v_in not_root u_in other apart
        ∙ lower (primal (cells_of mesh)) tree ok v (tree.parent u) v_in not_root (ok.parent_in u u_in other) (omega arith)
  ]

  -- an edge on the way between two vertices
  some_between : (u v : ℕ) → u < mesh.vertices → v < mesh.vertices → u ≢ v →
      (e : ℕ) × (e < edge_count mesh) × (between tree u v e ≡ true)
  some_between u v u_in v_in apart = elim (cases_eq u tree.root) [
    | inl root ↦
        let v_other : v ≢ tree.root = λ e. apart (root ∙ sym e) in
        let off = ap (λ u. on_path tree u (tree.up v)) root ∙ path_root tree (tree.up v) in
        (tree.up v, ok.up_in v v_in v_other, rw (off, itself (primal (cells_of mesh)) tree ok v v_in v_other))
    | inr u_other ↦ elim (cases_eq v tree.root) [
      | inl root ↦
          let off = ap (λ v. on_path tree v (tree.up u)) root ∙ path_root tree (tree.up u) in
          (tree.up u, ok.up_in u u_in u_other, rw (off, itself (primal (cells_of mesh)) tree ok u u_in u_other))
      | inr v_other ↦ elim (cases_lt (tree.rank v) (tree.rank u)) [
        | inl less ↦
            let off = off_way v u v_in u_in u_other (λ e. apart (sym e)) (omega arith) in
            (tree.up u, ok.up_in u u_in u_other, rw (off, itself (primal (cells_of mesh)) tree ok u u_in u_other))
        | inr less ↦
            let off = off_way u v u_in v_in v_other apart less in
            (tree.up v, ok.up_in v v_in v_other, rw (off, itself (primal (cells_of mesh)) tree ok v v_in v_other))
      ]
    ]
  ]

-- two points have a cut with an edge
pub two_points_are_cut : TwoPointsAreCut
two_points_are_cut mesh tree cotree points cut u v surface split through u_in v_in is_u is_v apart =
    let count : length (split_of mesh tree cotree).left + (mesh.vertices + face_count mesh) ≡ edge_count mesh + 2 =
    left_edges (cells_of mesh) (split_of mesh tree cotree) split in
    elim (cases_eq (mesh.vertices + face_count mesh) (edge_count mesh + 2)) [
      | inr not_flat ↦
          let two : 2 ≤ cut_count mesh cut =
          cuts_through_are_long mesh tree cotree points cut surface split (omega arith) through in
          omega arith
      | inl flat ↦
          let e = some_between mesh tree split.tree_is u v u_in v_in apart in
          let held = (cuts_through_are_ways mesh tree cotree points cut surface split flat through e.0 e.1).1
          (u, v, u_in, v_in, is_u, is_v, e.2) in
          count_some (edge_count mesh) e.0 cut e.1 held
    ]

-- of one edge there are two ends
two_ends : (mesh : Mesh) (e u v w : ℕ) → touches u (ends mesh e) ≡ true → touches v (ends mesh e) ≡ true →
    touches w (ends mesh e) ≡ true → u ≢ v → u ≢ w → v ≢ w → ⊥
two_ends mesh e u v w a b c uv uw vw = elim (ends_at mesh u e a) [
  | inl x ↦ elim (ends_at mesh v e b) [
    | inl y ↦ uv (sym x ∙ y)
    | inr y ↦ elim (ends_at mesh w e c) [ inl z ↦ uw (sym x ∙ z) | inr z ↦ vw (sym y ∙ z) ]
  ]
  | inr x ↦ elim (ends_at mesh v e b) [
    | inr y ↦ uv (sym x ∙ y)
    | inl y ↦ elim (ends_at mesh w e c) [ inr z ↦ uw (sym x ∙ z) | inl z ↦ vw (sym y ∙ z) ]
  ]
]

pub three_points_are_long : ThreePointsAreLong
three_points_are_long mesh tree cotree points cut u v w surface split through u_in v_in w_in is_u is_v is_w uv uw vw =
    let some : 1 ≤ cut_count mesh cut =
    two_points_are_cut mesh tree cotree points cut u v surface split through u_in v_in is_u is_v uv in
    let a = points_are_on_cut mesh tree cotree points cut u surface split through some u_in is_u in
    let b = points_are_on_cut mesh tree cotree points cut v surface split through some v_in is_v in
    let c = points_are_on_cut mesh tree cotree points cut w surface split through some w_in is_w in
    elim (cases_eq (cut_count mesh cut) 1) [
      | inr more ↦ omega arith
      | inl one ↦
          let ab : b.0 ≡ a.0 = count_one (edge_count mesh) b.0 a.0 cut b.1 a.1 b.2 a.2 one in
          let ac : c.0 ≡ a.0 = count_one (edge_count mesh) c.0 a.0 cut c.1 a.1 c.2 a.2 one in
          absurd (two_ends mesh a.0 u v w a.3 (ap (λ e. touches v (ends mesh e)) (sym ab) ∙ b.3)
          (ap (λ e. touches w (ends mesh e)) (sym ac) ∙ c.3) uv uw vw)
    ]

pub points_apart_are_long : PointsApartAreLong
points_apart_are_long mesh tree cotree points cut u v surface split through u_in v_in is_u is_v apart none =
    let some : 1 ≤ cut_count mesh cut =
    two_points_are_cut mesh tree cotree points cut u v surface split through u_in v_in is_u is_v apart in
    let a = points_are_on_cut mesh tree cotree points cut u surface split through some u_in is_u in
    let b = points_are_on_cut mesh tree cotree points cut v surface split through some v_in is_v in
    elim (cases_eq (cut_count mesh cut) 1) [
      | inr more ↦ omega arith
      | inl one ↦
          let ab : b.0 ≡ a.0 = count_one (edge_count mesh) b.0 a.0 cut b.1 a.1 b.2 a.2 one in
          absurd (none a.0 a.1 (through.within a.0 a.1 a.2) a.3 (ap (λ e. touches v (ends mesh e)) (sym ab) ∙ b.3))
    ]
