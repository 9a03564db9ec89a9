-- A tree of the faces, as the graph of faces has it, grows face by face.
use Rattle.surf_surfaces.proofs.Common.{◌≡◌, ℕ, ◌<◌, ◌⊎◌, inl, inr, sym, subst, ap, ◌∙◌, List, true, eqb, arith, eq-eqb, or_left, or_right, cells_of, Mesh, pair, face_count, edge_count, face_at, ends, faces_of, has_side, HasEdge, IsSurface, dual, Tree, IsTree, one_of, tree_edge, up_in_tree}
use Rattle.surf_surfaces.proofs.meshes.CellLaws.{ends_below}
use Rattle.surf_surfaces.proofs.meshes.SurfaceLaws.{two_faces_of}
use Rattle.surf_opening.specs.Laws.{CotreesAreDualTrees}
use Rattle.surf_opening.specs.ChosenCut.{HasItsEdges}
use Rattle.surf_opening.specs.Rim.{Among, along, back}
use Rattle.surf_opening.specs.Side.{Side}
use Rattle.surf_opening.specs.Uncut.{Uncut, IsDualTree}
use Rattle.surf_opening.proofs.sides.SideWords.{IsSides, IsDualRows}
use Rattle.surf_opening.proofs.gluing.Gluing.{uncut_turned}
use Rattle.surf_opening.proofs.sides.MeshSides.{in_mesh}
use Rattle.surf_opening.proofs.openings.OpeningLaw.{surface_sides, face_side}
use Rattle.surf_opening.proofs.sides.Polygons.{pair_among, among_pair, pair_ordered}
use Rattle.surf_opening.proofs.gluing.Rows.{rows_tree}

module _ {mesh : Mesh} (surface : IsSurface mesh) where
  abbrev sides : IsSides (Side mesh)
  sides = surface_sides surface

  -- the ends of an edge are a pair
  pub ends_pair : (e : ℕ) → e < edge_count mesh → pair (ends mesh e).0 (ends mesh e).1 ≡ ends mesh e
  ends_pair e h = pair_ordered (ends mesh e) (ends_below mesh surface.is_mesh e h).0

  pub end_side : (e f : ℕ) → e < edge_count mesh → ((faces_of mesh e).0 ≡ f) ⊎ ((faces_of mesh e).1 ≡ f) →
      Side mesh f (ends mesh e).0 (ends mesh e).1
  end_side e f h is =
      let two = two_faces_of mesh surface e h in
      let has : has_side (ends mesh e) (face_at mesh f) ≡ true = two.no_other f ∙ elim is [
        | inl a ↦ or_left (eqb f (faces_of mesh e).0) (eqb f (faces_of mesh e).1) (eq-eqb f (faces_of mesh e).0 (sym a))
        | inr b ↦ or_right (eqb f (faces_of mesh e).0) (eqb f (faces_of mesh e).1)
            (eq-eqb f (faces_of mesh e).1 (sym b))
      ] in
      let below : f < face_count mesh = elim is [
        | inl a ↦ let i : (faces_of mesh e).0 < (faces_of mesh e).1 = two.lesser_first in
            let j : (faces_of mesh e).1 < face_count mesh = two.second_is_face in omega arith
        | inr b ↦ let j : (faces_of mesh e).1 < face_count mesh = two.second_is_face in omega arith
      ] in
      record { has = subst (λ p. HasEdge mesh f p) (sym (ends_pair e h)) (below, has) }

  pub uncut_among : (tree : List (ℕ × ℕ)) (v w x y : ℕ) → Uncut tree v w → Among v w x y → Uncut tree x y
  uncut_among tree v w x y u (along e h) = subst (λ x. Uncut tree x y) (sym e) (subst (λ y. Uncut tree v y) (sym h) u)
  uncut_among tree v w x y u (back e h) =
      subst (λ x. Uncut tree x y) (sym e) (subst (λ y. Uncut tree w y) (sym h) (uncut_turned sides tree v w u))

  module _ {cotree : Tree} (is : IsTree (dual (cells_of mesh)) cotree) where
    abbrev First : ℕ → ℕ
    First f = (ends mesh (cotree.up f)).0

    abbrev Second : ℕ → ℕ
    Second f = (ends mesh (cotree.up f)).1

    tree_rows : IsDualRows (Side mesh) (face_count mesh) cotree.root cotree.rank cotree.parent First Second
    tree_rows = record {
      root_in = is.root_in;
      within = is.parent_in;
      own = λ f h n. end_side (cotree.up f) f (is.up_in f h n)
          (elim (one_of (dual (cells_of mesh)) f (cotree.parent f) (cotree.up f) (is.up_joins f h n)) [
            | inl a ↦ inl a.0
            | inr a ↦ inr a.1
          ]);
      across = λ f h n. end_side (cotree.up f) (cotree.parent f) (is.up_in f h n)
          (elim (one_of (dual (cells_of mesh)) f (cotree.parent f) (cotree.up f) (is.up_joins f h n)) [
            | inl a ↦ inr a.1
            | inr a ↦ inl a.0
          ]);
      falls = is.rank_falls;
    }

    pub dual_tree : (tree : List (ℕ × ℕ)) × IsDualTree (Side mesh) tree × HasItsEdges mesh cotree tree
    dual_tree =
        let s = face_side surface cotree.root is.root_in in
        let t = rows_tree sides tree_rows (λ f v w s. in_mesh mesh s) s.0 s.1 s.2 in (
          t.0,
          t.1.is_tree,
          λ v w. (
            (λ u. let f = t.1.is_edge v w u in (
              cotree.up f.0,
              is.up_in f.0 f.1 f.2,
              up_in_tree (dual (cells_of mesh)) cotree f.0 f.1 f.2,
              sym (ends_pair (cotree.up f.0) (is.up_in f.0 f.1 f.2)) ∙ pair_among f.3,
            )),
            (λ e.
                let f = tree_edge (dual (cells_of mesh)) cotree e.0 e.2 in
                uncut_among t.0 (First f.0) (Second f.0) v w (t.1.has_edge f.0 f.1 f.2)
                (among_pair (ends_pair (cotree.up f.0) (is.up_in f.0 f.1 f.2) ∙ ap (λ e. ends mesh e) f.3 ∙ e.3))),
          ),
        )

pub cotrees_are_dual_trees : CotreesAreDualTrees
cotrees_are_dual_trees mesh cotree surface is = dual_tree surface is
