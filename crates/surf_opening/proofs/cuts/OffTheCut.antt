-- A closed walk that meets no vertex of the trimmed cut is null. Its parity and the boundary of some faces differ at most
-- along the cut. From one cut side to the next round the border of the opening, the faces between are parted by no edge
-- of the walk, so all faces along the border are in the set or none is, and nothing is left.
use Rattle.std.proofs.Common.{◌≡◌, ◌≢◌, ℕ, ◌+◌, ◌<◌, ◌⊎◌, inl, inr, sym, refl, subst, ap, ◌∙◌, Bool, true, false, not, ◌&&◌, eqb, List, [], ◌∷◌, map, length, arith, eqb-true}
use Rattle.surf_surfaces.proofs.Common.{AllByRecursion, cases_eq, cases_Bool, both_ways, or_cases, or_left, eq-eqb, false_from_ne_true, recursion_from_All, xor, odd, odd_below, count_below, Chain, primal, dual, IsEven, Tree, left_edges, cells_of, cotree_edges, split_of, Mesh, pair, pair_of, pair_eq, steps, steps_from, face_count, edge_count, face_at, ends, faces_of, has_side, touches, HasEdge, IsSurface, parity, even-xor, boundary, IsBoundary}
use Rattle.surf_z2.proofs.ParityLaws.{xor_equal, equal_xor, odd_below-same}
use Rattle.surf_graphs.proofs.CellLaws.{boundary_even as cells_boundary_even, signature_null}
use Rattle.surf_graphs.proofs.Rounds.{par, par-suc, par-zero, odd_counted}
use Rattle.surf_graphs.proofs.Trees.{along as along_tree, along_leaves, tree_edge}
use Rattle.surf_surfaces.proofs.meshes.CellLaws.{surfaces_are_cells}
use Rattle.surf_surfaces.proofs.walks.EvenLaws.{touches-xor}
use Rattle.surf_surfaces.proofs.meshes.FaceLaws.{touches_first}
use Rattle.surf_surfaces.proofs.walks.GraphWalkLaws.{closed_parity_even}
use Rattle.surf_surfaces.proofs.meshes.JoinedLaws.{joined_closed}
use Rattle.surf_surfaces.proofs.meshes.PairLaws.{pair_eq-other}
use Rattle.surf_surfaces.proofs.meshes.SurfaceLaws.{two_faces_of}
use Rattle.surf_opening.specs.ChosenCut.{AreDivided, full_cut, HasNoEnd, IsWithin, IsLargestEndless, IsTrimmedCut}
use Rattle.surf_opening.specs.Laws.{TellsCut}
use Rattle.surf_opening.specs.OffTheCut.{WalksOffTheCutAreNull}
use Rattle.surf_opening.specs.Rim.{along, back}
use Rattle.surf_opening.proofs.gluing.RimWords.{Reaches, IsOneRim, here, turn, pass}
use Rattle.surf_opening.specs.Side.{Side}
use Rattle.surf_opening.specs.Uncut.{Copy, CutSide}
use Rattle.surf_opening.proofs.openings.ChosenOpenings.{leaves}
use Rattle.surf_opening.proofs.gluing.Cotrees.{ends_pair, end_side, uncut_among}
use Rattle.surf_opening.proofs.cuts.CutLists.{full_is, edge_told}
use Rattle.surf_opening.proofs.sides.Edges.{edge_of}
use Rattle.surf_opening.proofs.cuts.NamedEdges.{forget}
use Rattle.surf_opening.proofs.openings.OpeningLaw.{surface_sides}
use Rattle.surf_opening.proofs.sides.Polygons.{among_pair}
use Rattle.surf_opening.proofs.gluing.Trim.{trimmed_is_open}

-- ---- walks and counts

-- a walk that does not meet v runs no edge at v
steps_miss : (v w u : ℕ) (rest : List ℕ) → u ≢ v → AllByRecursion (λ u. u ≢ v) rest →
    odd (map (λ s. pair_eq (pair v w) (pair_of s)) (steps_from u rest)) ≡ false
steps_miss v w u [] off offs = refl
steps_miss v w u (x ∷ rest) off offs =
    let other : pair_eq (pair v w) (pair u x) ≡ false = pair_eq-other (pair v w) (pair u x) (λ e. elim (among_pair e) [
      | along a b ↦ off a
      | back a b ↦ offs.0 b
    ]) in
    rw other (steps_miss v w x rest offs.0 offs.1)

walk_misses : (v w : ℕ) (walk : List ℕ) → AllByRecursion (λ u. u ≢ v) walk →
    odd (map (λ s. pair_eq (pair v w) (pair_of s)) (steps walk)) ≡ false
walk_misses v w [] offs = refl
walk_misses v w (u ∷ rest) offs = steps_miss v w u rest offs.0 offs.1

-- an even number of numbers that pass is not one
even_is_not_one : (n : ℕ) (p : ℕ → Bool) → odd_below n p ≡ false → count_below n p ≢ 1
even_is_not_one n p even one =
    both_ways (par 1) (sym (odd_counted n p ∙ ap par one) ∙ even) (par-suc 0 ∙ ap not par-zero)

-- ---- the faces at the cut

-- the chain has no edge at an end of an edge of the cut
abbrev Misses : Mesh → Chain → Chain → Type 0
Misses mesh cut chain =
    (e v : ℕ) → e < edge_count mesh → cut e ≡ true → touches v (ends mesh e) ≡ true → (k w : ℕ) → k < edge_count mesh →
    ends mesh k ≡ pair v w → chain k ≡ false

module _ {mesh : Mesh} (surface : IsSurface mesh) where
  -- the faces that have an edge are alike where its two faces are
  alike_across : (set : ℕ → Bool) (e f g : ℕ) → e < edge_count mesh → boundary mesh set e ≡ false →
      HasEdge mesh f (ends mesh e) → HasEdge mesh g (ends mesh e) → set f ≡ set g
  alike_across set e f g h none has_f has_g =
      let two = two_faces_of mesh surface e h in
      let a = (faces_of mesh e).0 in
      let b = (faces_of mesh e).1 in
      let same : set a ≡ set b = xor_equal (set a) (set b) none in
      let one : (k : ℕ) → has_side (ends mesh e) (face_at mesh k) ≡ true → set k ≡ set a = λ k has.
      elim (or_cases (eqb k a) (eqb k b) (sym (two.no_other k) ∙ has)) [
        | inl is ↦ ap set (eqb-true k a is)
        | inr is ↦ ap set (eqb-true k b is) ∙ sym same
      ] in
      one f has_f.1 ∙ sym (one g has_g.1)

  -- a cut with its list, whose cut sides are one rim, and a chain that misses it and is a boundary elsewhere
  module _ (uncut : List (ℕ × ℕ)) (cut : Chain) (told : TellsCut mesh uncut cut)
      (one : IsOneRim (CutSide (Side mesh) uncut) (Copy (Side mesh) uncut)) (chain : Chain)
      (missed : Misses mesh cut chain) (set : ℕ → Bool)
      (off : (e : ℕ) → e < edge_count mesh → cut e ≡ false → chain e ≡ boundary mesh set e) where
    -- the faces that hold one copy of an end of a cut side are alike
    alike_at_copy : (v f g h z : ℕ) → CutSide (Side mesh) uncut h v z → Copy (Side mesh) uncut v f g → set f ≡ set g
    alike_at_copy v f g h z r c =
        let e = edge_told surface uncut cut told v z (h, r) in
        joined_closed (λ k. set f ≡ set k) (λ x y s same.
        let k = edge_of mesh x (pair v s.0) s.1.has in
        let free : cut k.0 ≡ false = false_from_ne_true (cut k.0)
        (λ held. (told k.0 k.1).0 held (uncut_among surface uncut v s.0 (ends mesh k.0).0 (ends mesh k.0).1 s.3
        (among_pair (sym k.2 ∙ sym (ends_pair surface k.0 k.1))))) in
        let none : chain k.0 ≡ false =
        missed e.0 v e.1 e.3 (ap (touches v) e.2 ∙ touches_first v z) k.0 s.0 k.1 k.2 in
        same ∙ alike_across set k.0 x y k.1 (sym (off k.0 k.1 free) ∙ none)
        (subst (λ p. HasEdge mesh x p) (sym k.2) s.1.has)
        (subst (λ p. HasEdge mesh y p) (sym k.2) s.2.has)) c refl

    -- so are all faces of cut sides
    alike_round : {g x y f v w : ℕ} → Reaches (CutSide (Side mesh) uncut) (Copy (Side mesh) uncut) g x y f v w →
        set f ≡ set g
    alike_round here = refl
    alike_round (turn r rest) = alike_round rest
    alike_round (pass {f = f} {v = v} {h = h} {z = z} s r rest) = alike_at_copy v f h h z r s ∙ alike_round rest

    -- so the chain is a boundary along the cut too
    is_boundary : (e : ℕ) → e < edge_count mesh → chain e ≡ boundary mesh set e
    is_boundary e h = elim (cases_Bool (cut e)) [
      | inr free ↦ off e h free
      | inl held ↦
          let v = (ends mesh e).0 in
          let w = (ends mesh e).1 in
          let a = (faces_of mesh e).0 in
          let b = (faces_of mesh e).1 in
          let first : CutSide (Side mesh) uncut a v w = (end_side surface e a h (inl refl), (told e h).0 held) in
          let second : CutSide (Side mesh) uncut b v w = (end_side surface e b h (inr refl), (told e h).0 held) in
          let same : set a ≡ set b = alike_round (one a v w b v w first second) in
          let at : touches v (ends mesh e) ≡ true = or_left (eqb v v) (eqb w v) (eq-eqb v v refl) in
          missed e v h held at e w h (sym (ends_pair surface e h)) ∙ sym (equal_xor (set a) (set b) same)
    ]

  -- ---- the walk

  module _ {tree cotree : Tree} (split : AreDivided mesh tree cotree) (chain : Chain)
      (even : IsEven (primal (cells_of mesh)) chain) where
    -- the faces with an odd number of the chain's edges on their path through the tree of faces
    abbrev inside : ℕ → Bool
    inside = along_tree (dual (cells_of mesh)) cotree chain

    abbrev rest : Chain
    rest e = xor (chain e) (boundary mesh inside e)

    -- what the boundary of these faces leaves of the chain is within the full cut
    rest_within : IsWithin mesh rest (full_cut mesh tree cotree)
    rest_within e h held = full_is mesh tree cotree split e h ∙ ap not
        (false_from_ne_true (cotree_edges mesh cotree e) (λ on.
        let n = tree_edge (dual (cells_of mesh)) cotree e on in
        let same : boundary mesh inside e ≡ chain e =
        subst (λ e. boundary mesh inside e ≡ chain e) n.3
        (along_leaves (dual (cells_of mesh)) cotree split.cotree_is chain n.0 n.1 n.2) in
        both_ways (rest e) (equal_xor (chain e) (boundary mesh inside e) (sym same)) held))

    rest_even : IsEven (primal (cells_of mesh)) rest
    rest_even = even-xor (primal (cells_of mesh)) chain (boundary mesh inside) even
        (cells_boundary_even (cells_of mesh) (surfaces_are_cells mesh surface).complex inside)

    -- and it has no end
    rest_has_no_end : HasNoEnd mesh rest
    rest_has_no_end v h = even_is_not_one (edge_count mesh) (λ e. rest e && touches v (ends mesh e))
        (odd_below-same (edge_count mesh) (λ e. rest e && touches v (ends mesh e))
        (λ e. rest e && xor (eqb (ends mesh e).0 v) (eqb (ends mesh e).1 v))
        (λ e h. ap (λ t. rest e && t) (touches-xor v (ends mesh e) ((surfaces_are_cells mesh surface).ends_differ e h)))
        ∙ rest_even v h)

    -- so it is within the trimmed cut
    rest_off : (cut : Chain) → IsLargestEndless mesh (full_cut mesh tree cotree) cut → (e : ℕ) → e < edge_count mesh →
        cut e ≡ false → chain e ≡ boundary mesh inside e
    rest_off cut largest e h free = xor_equal (chain e) (boundary mesh inside e)
        (false_from_ne_true (rest e)
        (λ held. both_ways (cut e) free (largest.largest rest rest_within rest_has_no_end e h held)))

    -- where χ is 2, each even chain is a boundary
    pub flat_is_boundary : mesh.vertices + face_count mesh ≡ edge_count mesh + 2 → IsBoundary mesh chain
    flat_is_boundary flat =
        let count : length (split_of mesh tree cotree).left + (mesh.vertices + face_count mesh) ≡ edge_count mesh + 2 =
        left_edges (cells_of mesh) (split_of mesh tree cotree) split in
        signature_null (cells_of mesh) (split_of mesh tree cotree) (surfaces_are_cells mesh surface).complex split chain
        even (λ k h. absurd (omega arith))

    -- else one that misses the trimmed cut
    missing_is_boundary : (cut : Chain) → IsTrimmedCut mesh tree cotree cut →
        mesh.vertices + face_count mesh < edge_count mesh + 2 → Misses mesh cut chain → IsBoundary mesh chain
    missing_is_boundary cut is low missed =
        let l = leaves surface split true in
        let open' = trimmed_is_open (surface_sides surface) l.lists.grows (forget l.trimmed) in (
          inside,
          is_boundary l.uncut cut (l.told cut is) open'.one chain missed inside (rest_off cut (is.below_two low)),
        )

  -- χ is at most 2
  pub flat_or_low : {tree cotree : Tree} → AreDivided mesh tree cotree →
      (mesh.vertices + face_count mesh ≡ edge_count mesh + 2) ⊎ (mesh.vertices + face_count mesh < edge_count mesh + 2)
  flat_or_low {tree} {cotree} split =
      let count : length (split_of mesh tree cotree).left + (mesh.vertices + face_count mesh) ≡ edge_count mesh + 2 =
      left_edges (cells_of mesh) (split_of mesh tree cotree) split in
      elim (cases_eq (mesh.vertices + face_count mesh) (edge_count mesh + 2)) [
        | inl flat ↦ inl flat
        | inr not_flat ↦ inr (omega arith)
      ]

pub walks_off_the_cut_are_null : WalksOffTheCutAreNull
walks_off_the_cut_are_null mesh tree cotree cut walk surface split is closed off =
    let even = closed_parity_even mesh surface walk closed in
    elim (flat_or_low surface split) [
      | inl flat ↦ flat_is_boundary surface split (parity mesh walk) even flat
      | inr low ↦
          missing_is_boundary surface split (parity mesh walk) even cut is low (λ e v h held at k w k_in ends_are.
          ap (λ p. odd (map (λ s. pair_eq p (pair_of s)) (steps walk))) ends_are
          ∙ walk_misses v w walk (recursion_from_All (λ u. u ≢ v) walk (λ i d below same.
          both_ways (touches v (ends mesh e))
          (subst (λ u. touches u (ends mesh e) ≡ false) same (off i d below e h held)) at)))
    ]
