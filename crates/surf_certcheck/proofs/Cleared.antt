-- Faces up to which no edge of the tree of faces has a shorter loop, and left edges that are still doubtful.
use Rattle.surf_treecheck.proofs.Common.{◌≡◌, ℕ, ◌<◌, ◌≤◌, ◌⊎◌, Bool, true, false, eqb, List, length, get_or, slice_index, set, refl, sym, ap, ◌∙◌, subst, arith, inl, inr, cases_eq, false≢true, eqb-true, IsTree, on_path, cells_of, edge_count, face_count, faces_of, IsSurface, length-set, get_or-set_same, get_or-set_other, depth_at, dual_tree, is_listed, HasNoShorter, dual_rows_are_tree, AreFlags}
use Rattle.surf_certcheck.proofs.Common.{climbed, none_between, size_at, IsClear, IsHeld, IsTop, AreTops, IsDoubt, AreDoubts}
use Rattle.surf_surfaces.proofs.Common.{dual as faces}
use Rattle.surf_z2.specs.Parity.{xor, xor_comm}
use Rattle.surf_treecheck.proofs.FaceLinks.{step_is}
use Rattle.surf_certcheck.specs.declared.heavier.Judge.{Judge}

-- ---- edges between nodes of a tree

-- an edge between two nodes is between one of them and a third
between_through : (x y z : Bool) → xor x z ≡ true → (xor x y ≡ true) ⊎ (xor y z ≡ true)
between_through true true z on = inr on
between_through true false z on = inl refl
between_through false true z on = inl refl
between_through false false z on = inr on

module _ (judge : Judge) (limit : ℕ) where
  pub clear_itself : (a b : ℕ) → a ≡ b → IsClear judge limit a b
  clear_itself a b same c on =
      absurd (false≢true (sym (none_between (dual_tree judge.mesh.now judge.cert.now.dual) a b c same) ∙ on))

  pub clear_through : (a b e : ℕ) → IsClear judge limit a b → IsClear judge limit b e → IsClear judge limit a e
  clear_through a b e first second c on =
      let t = dual_tree judge.mesh.now judge.cert.now.dual in
      elim (between_through (on_path t a c) (on_path t b c) (on_path t e c) on) [
        | inl near ↦ first c near
        | inr far ↦ second c far
      ]

  pub clear_round : (a b : ℕ) → IsClear judge limit a b → IsClear judge limit b a
  clear_round a b clear c on =
      let t = dual_tree judge.mesh.now judge.cert.now.dual in
      clear c (xor_comm (on_path t a c) (on_path t b c) ∙ on)

  -- two faces with one top
  pub clear_by_top : (near far top other : ℕ) → IsClear judge limit near top → IsClear judge limit far other →
      top ≡ other → IsClear judge limit near far
  clear_by_top near far top other one two same =
      clear_through near top far one
      (clear_round far top (subst (λ x. IsClear judge limit far x) (sym same) two))

  -- ---- tops

  -- up to the top of a held face no loop is shorter than the limit
  pub held_clear : (f top : ℕ) → IsHeld judge limit f → IsTop judge limit f top → IsClear judge limit f top
  held_clear f top held is c on =
      let own = held.1 in
      elim (is.clear c on) [ inl less ↦ omega (arith, own, less) | inr less ↦ less ]

  -- a held top's own top serves as well
  pub top_beyond : (f above top : ℕ) → IsHeld judge limit f → IsHeld judge limit above → IsTop judge limit f above →
      IsTop judge limit above top → IsTop judge limit f top
  top_beyond f above top held held_above one two =
      let lower = one.higher in
      let upper = two.higher in
      record {
        inside = two.inside;
        higher = omega (arith, lower, upper);
        clear = λ c on. inr (clear_through f above top (held_clear f above held one) (held_clear above top held_above two) c on);
      }

  pub tops_set : (tops new : List ℕ) (f top : ℕ) → AreTops judge limit tops → f < face_count judge.mesh.now →
      new ≡ set tops f top → IsTop judge limit f top → AreTops judge limit new
  tops_set tops new f top are l new_is is = record {
    count = ap length new_is ∙ length-set tops f top ∙ are.count;
    each = λ g lg ng. elim (cases_eq g f) [
      | inl same ↦
          let at : slice_index new g ≡ top = ap (λ xs. slice_index xs g) new_is ∙ ap (slice_index (set tops f top)) same
          ∙ get_or-set_same tops f top 0 (omega (arith, l, are.count)) in
          subst (λ x. IsTop judge limit g x) (sym at) (subst (λ x. IsTop judge limit x top) (sym same) is)
      | inr ne ↦
          let at : slice_index new g ≡ slice_index tops g = ap (λ xs. slice_index xs g) new_is ∙ get_or-set_other tops f g top 0 ne in
          subst (λ x. IsTop judge limit g x) (sym at) (are.each g lg ng)
    ];
  }

  -- for a lesser limit they are tops as well
  pub tops_fall : (lower : ℕ) (tops : List ℕ) → lower ≤ limit → AreTops judge limit tops → AreTops judge lower tops
  tops_fall lower tops le are = record {
    count = are.count;
    each = λ f l ne.
        let is = are.each f l ne in
        record {
          inside = is.inside;
          higher = is.higher;
          clear = λ c on. elim (is.clear c on) [
            | inl less ↦ inl less
            | inr less ↦ inr (omega (arith, less, le))
          ];
        };
  }

  -- the faces that faces hang on are their first tops
  pub first_tops : IsSurface judge.mesh.now → (tops : List ℕ) → tops ≡ judge.links.now.parent.items → AreTops judge limit tops
  first_tops surface tops same = record {
    count = ap length same ∙ judge.linked.parents;
    each = λ f l ne.
        let mesh = judge.mesh.now in
        let dual = judge.cert.now.dual in
        let t = dual_tree mesh dual in
        let links = judge.links.now in
        let step = step_is mesh dual f (get_or links.parent.items f 0) (get_or links.up.items f 0) surface judge.tree l ne
        (judge.linked.each f l) in
        let tree : IsTree (faces (cells_of mesh)) t = dual_rows_are_tree mesh dual surface judge.tree in
        let at : slice_index tops f ≡ t.parent f = ap (λ xs. slice_index xs f) same ∙ step.parent in
        subst (λ x. IsTop judge limit f x) (sym at) (record {
          inside = subst (λ x. x < face_count mesh) step.parent step.face_in;
          higher = subst (λ x. depth_at dual x < depth_at dual f) step.parent step.falls;
          clear = λ c on.
              let own : xor (eqb (t.up f) c) false ≡ true =
              ap (xor (eqb (t.up f) c)) (sym (none_between t (t.parent f) (t.parent f) c refl))
              ∙ climbed (faces (cells_of mesh)) t tree f (t.parent f) c l ne ∙ on in
              let is : t.up f ≡ c = eqb-true (t.up f) c (or_none (eqb (t.up f) c) own) in
              inl (subst (λ x. size_at judge (t.up f) ≤ size_at judge x) is (omega arith));
        });
  }
    where
      or_none : (b : Bool) → xor b false ≡ true → b ≡ true
      or_none true e = refl
      or_none false e = absurd (false≢true e)

-- ---- doubtful edges

module _ (judge : Judge) where
  -- at first those that are listed are doubtful
  pub first_doubts : (flags : List Bool) →
      AreFlags (edge_count judge.mesh.now) (is_listed judge.mesh.now judge.cert.now.left) flags → AreDoubts judge flags
  first_doubts flags are = record {
    count = are.count;
    each = λ e l. doubt e (get_or flags e false) (are.each e l);
  }
    where
      doubt : (e : ℕ) (flag : Bool) → flag ≡ is_listed judge.mesh.now judge.cert.now.left e → IsDoubt judge flag e
      doubt e true is = sym is
      doubt e false is = λ listed. absurd (false≢true (is ∙ listed))

  -- one whose faces have no shorter loop between them isn't
  pub cleared : (l limit : ℕ) → limit ≡ size_at judge l →
      IsClear judge limit (faces_of judge.mesh.now l).0 (faces_of judge.mesh.now l).1 →
      HasNoShorter judge.mesh.now judge.lengths.now judge.cert.now l
  cleared l limit is clear = λ listed c lc on. subst (λ n. n ≤ size_at judge c) is (clear c on)

  pub doubts_cleared : (flags new : List Bool) (l : ℕ) → AreDoubts judge flags → l < edge_count judge.mesh.now →
      new ≡ set flags l false → HasNoShorter judge.mesh.now judge.lengths.now judge.cert.now l → AreDoubts judge new
  doubts_cleared flags new l are inside new_is none = record {
    count = ap length new_is ∙ length-set flags l false ∙ are.count;
    each = λ e le. elim (cases_eq e l) [
      | inl same ↦
          let at : get_or new e false ≡ false = ap (λ xs. get_or xs e false) new_is ∙ ap (λ i. get_or (set flags l false) i false) same
          ∙ get_or-set_same flags l false false (omega (arith, inside, are.count)) in
          subst (λ b. IsDoubt judge b e) (sym at)
          (subst (λ x. HasNoShorter judge.mesh.now judge.lengths.now judge.cert.now x) (sym same) none)
      | inr ne ↦
          let at : get_or new e false ≡ get_or flags e false = ap (λ xs. get_or xs e false) new_is ∙ get_or-set_other flags l e false false ne in
          subst (λ b. IsDoubt judge b e) (sym at) (are.each e le)
    ];
  }
