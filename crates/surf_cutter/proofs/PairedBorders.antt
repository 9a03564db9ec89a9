-- The border sides of an opening are the cut sides of the surface, two at each of their copies.
use Rattle.surf_slit.proofs.Common.{◌≡◌, ℕ, ◌+◌, ◌<◌, ◌↔◌, inl, inr, sym, refl, subst, ap, ◌∙◌, Bool, List, [], length, get_or, take, zero, suc, ◌≤◌, arith, sum_by, IsDisc, here, Mesh, pair, after, face_count, face_at, ends, faces_with, HasEdge, IsSurface, first_side, IsFaceOf, IsEdgeOf, side_count, pair_at, sum_by_more, take-length, corner_of, IsOpenedBy, Side, IsPlace, edge_of, from_face, pair_is, pair_among, among_pair, pair_at_place, face_has_side, one_face, placed, IsUncut}
use Rattle.surf_cutter.proofs.Common.{Uncut, Copy, CutSide, IsDualTree, IsTrimmed, TellsCut, corners_of, HasCopy, IsBorderSide, AreBorderSides, HasPairedBorder, IsCutSide, AreCutSides, OpensToDisc, is_cut}
use Rattle.surf_opening.proofs.sides.SideWords.{IsOpenedAlong, IsSides}
use Rattle.surf_opening.specs.Rim.{along, back}
use Rattle.surf_opening.proofs.gluing.RimWords.{IsPaired}
use Rattle.surf_opening.proofs.cuts.CutLists.{uncut_told}
use Rattle.surf_opening.proofs.openings.DiscLaw.{border_at}
use Rattle.surf_opening.proofs.gluing.Gluing.{uncut_turned}
use Rattle.surf_opening.proofs.openings.Opened.{opened_mesh, opened_is_mesh, CopyOf, same_length, copies_same, same_copies, next_place, lift}
use Rattle.surf_opening.proofs.openings.OpeningLaw.{surface_sides, opened_along, is_disc}
use Rattle.surf_opening.proofs.gluing.Trim.{IsOpen, trimmed_is_open}
use Rattle.surf_opening.proofs.cuts.TwoLeaves.{trimmed_are}
use Rattle.surf_cutter.proofs.BorderSides.{corners_at_place, pair_of_corners, side_in_face, its_face, its_edge}

-- where faces are as long, their sides have the same numbers
same_first : (a b : List (List ℕ)) → length a ≡ length b → ((f : ℕ) → f < length b →
    length (get_or a f []) ≡ length (get_or b f [])) → (f : ℕ) → f ≤ length b →
    sum_by length (take f a) ≡ sum_by length (take f b)
same_first a b size same zero h = refl
same_first a b size same (suc f) h =
    let z : f + 1 ≡ suc f = omega arith in
    let lt : f < length b = omega arith in
    let x = sum_by_more {X = List ℕ} length a f [] (omega arith) in
    let y = sum_by_more {X = List ℕ} length b f [] lt in
    let before = same_first a b size same f (omega arith) in
    let here' = same f lt in
    subst (λ n. sum_by length (take n a) ≡ sum_by length (take n b)) z (x ∙ omega (arith, before, here') ∙ sym y)

module _ {mesh : Mesh} (surface : IsSurface mesh) {tree uncut : List (ℕ
    × ℕ)} (dual : IsDualTree (Side mesh) tree) (trimmed : IsTrimmed (Side mesh) tree uncut)
    {origins : List ℕ} {faces : List (List ℕ)} (opened : IsOpenedAlong mesh uncut origins faces) where
  abbrev sides : IsSides (Side mesh)
  sides = surface_sides surface

  abbrev Disc : Mesh
  Disc = opened_mesh origins faces

  is_open : IsOpen sides uncut
  is_open = trimmed_is_open sides dual trimmed

  paired : IsPaired (CutSide (Side mesh) uncut) (Copy (Side mesh) uncut)
  paired = is_open.is_rim.paired

  -- a border side seen from one of its copies: a cut side of the surface
  record Flag (s c : ℕ) : Type 0 where
    f : ℕ
    v : ℕ
    w : ℕ
    d : ℕ
    cut : CutSide (Side mesh) uncut f v w
    first : CopyOf sides opened f v c
    second : CopyOf sides opened f w d
    its_face : IsFaceOf Disc s f
    its_pair : pair_at Disc s ≡ pair c d

  flag : (s c : ℕ) → IsBorderSide Disc s → HasCopy Disc s c → Flag s c
  flag s c b has =
      let p = placed Disc s b.0 in
      let f = p.0 in
      let k = p.1.0 in
      let is = p.1.1 in
      let f_in : f < face_count mesh = subst (λ n. f < n) opened.same_faces is.is_face in
      let size : length (get_or faces f []) ≡ length (face_at mesh f) = same_length sides opened f_in in
      let h : IsPlace mesh (f, k) = (f_in, subst (λ n. k < n) size is.is_place) in
      let j = after (length (face_at mesh f)) k in
      let x = corner_of faces (f, k) in
      let y = corner_of faces (f, j) in
      let its : corners_of Disc s ≡ (x, y) = ap (corners_of Disc) is.number
      ∙ corners_at_place Disc f k is.is_face is.is_place ∙ ap (λ n. (
        get_or (get_or faces f []) k 0,
        get_or (get_or faces f []) (after n k) 0,
      )) size in
      let pair_is' : pair_at Disc s ≡ pair x y = ap (pair_at Disc) is.number
      ∙ pair_at_place Disc f k is.is_face is.is_place ∙ ap (λ n.
      pair x (get_or (get_or faces f []) (after n k) 0)) size in
      let a : CopyOf sides opened f (corner_of mesh.faces (
        f,
        k,
      )) x = record { place = k; is_place = h; of = refl; is = refl } in
      let e : CopyOf sides opened f (corner_of mesh.faces (
        f,
        j,
      )) y = record { place = j; is_place = next_place sides opened f k h; of = refl; is = refl } in
      let side : Side mesh f (corner_of mesh.faces (f, k)) (corner_of mesh.faces (f, j)) = from_face mesh f_in (
        k,
        h.1,
        along refl refl,
      ) in
      let cut = (border_at sides opened is_open side a e).0 (subst (λ p.
      length (faces_with Disc p) ≡ 1) pair_is' b.1) in
      let own : IsFaceOf Disc s f = record {
        is_face = is.is_face;
        from = let n = is.number in
            omega arith;
        upto = let n = is.number in let m = is.is_place in omega arith;
      } in
      elim has [
        | inl i ↦
            let z : x ≡ c = sym (i ∙ ap (λ (p : ℕ × ℕ). p.0) its) in
            subst (λ c. Flag s c) z (record {
              f = f;
              v = corner_of mesh.faces (f, k);
              w = corner_of mesh.faces (f, j);
              d = y;
              cut = (side, cut);
              first = a;
              second = e;
              its_face = own;
              its_pair = pair_is';
            })
        | inr i ↦
            let z : y ≡ c = sym (i ∙ ap (λ (p : ℕ × ℕ). p.1) its) in
            subst (λ c. Flag s c) z (record {
              f = f;
              v = corner_of mesh.faces (f, j);
              w = corner_of mesh.faces (f, k);
              d = x;
              cut = paired.turned (side, cut);
              first = e;
              second = a;
              its_face = own;
              its_pair = pair_is' ∙ pair_among {v = x} {w = y} {x = y} {y = x} (back refl refl);
            })
      ]

  -- and back
  record Sided (f c d : ℕ) : Type 0 where
    s : ℕ
    border : IsBorderSide Disc s
    at : HasCopy Disc s c
    its_face : IsFaceOf Disc s f
    its_pair : pair_at Disc s ≡ pair c d

  sided : {f v w c : ℕ} → CutSide (Side mesh) uncut f v w → CopyOf sides opened f v c → (d : ℕ)
      × CopyOf sides opened f w d × Sided f c d
  sided {f} {v} {w} {c} r a =
      let l = lift sides opened r.0 in
      let z : l.x ≡ c = copies_same sides opened l.first a here in
      let has : HasEdge Disc f (pair c l.y) = subst (λ x. HasEdge Disc f (pair x l.y)) z l.side.has in
      let s = face_has_side Disc f (pair c l.y) has.0 has.1 in
      let one = (border_at sides opened is_open r.0 a l.second).1 r.1 in (
        l.y,
        l.second,
        record {
          s = s.0;
          border = (s.1.is_side, subst (λ p. length (faces_with Disc p) ≡ 1) (sym s.1.its_pair) one);
          at = first_of s.0 c l.y s.1.is_side s.1.its_pair;
          its_face = s.1.its_face;
          its_pair = s.1.its_pair;
        },
      )
    where
      first_of : (s c d : ℕ) → s < side_count Disc → pair_at Disc s ≡ pair c d → HasCopy Disc s c
      first_of s c d h e = elim (among_pair (sym (pair_of_corners Disc s h) ∙ e)) [
        | along i j ↦ inl i
        | back i j ↦
            inr i
      ]

  pair_second : (c d e : ℕ) → pair c d ≡ pair c e → d ≡ e
  pair_second c d e h = elim (among_pair h) [ along i j ↦ sym j | back i j ↦ sym (j ∙ i) ]

  -- two border sides of one face that have one copy and cut sides to the same vertex there are one
  same_flag : (s t c : ℕ) (a : Flag s c) (b : Flag t c) → a.f ≡ b.f → a.w ≡ b.w → s ≡ t
  same_flag s t c a b e h =
      let d : a.d ≡ b.d = copies_same sides opened (subst (λ f. CopyOf sides opened f a.w a.d) e a.second) (subst (λ w.
      CopyOf sides opened b.f w b.d) (sym h) b.second) here in
      side_in_face Disc (opened_is_mesh sides opened surface.is_mesh) s t b.f (subst (λ f.
      IsFaceOf Disc s f) e a.its_face) b.its_face
      (a.its_pair ∙ ap (pair c) d ∙ sym b.its_pair)

  pub border_paired : HasPairedBorder Disc
  border_paired = record {
    apart = λ s b e.
        let c = (corners_of Disc s).0 in
        let a = flag s c b (inl refl) in
        let d : a.d ≡ c = pair_second c a.d (corners_of Disc s).1 (sym a.its_pair ∙ pair_of_corners Disc s b.0)
        ∙ sym e in
        paired.apart a.cut (same_copies sides opened a.first (subst (λ d. CopyOf sides opened a.f a.w d) d a.second)).0;
    another = λ s c b has.
        let a = flag s c b has in
        let o = paired.another a.cut in
        let l = lift sides opened o.2.0 in
        let z : l.x ≡ c = sym (copies_same sides opened a.first l.first o.3) in
        let t = sided o.2 (subst (λ x. CopyOf sides opened o.0 a.v x) z l.first) in (
          t.2.s,
          t.2.border,
          t.2.at,
          λ e.
              let f : a.f ≡ o.0 = one_face Disc s a.f o.0 a.its_face (subst (λ t.
              IsFaceOf Disc t o.0) e t.2.its_face) in
              let d : a.d ≡ t.0 = pair_second c a.d t.0 (sym a.its_pair ∙ sym (ap (pair_at Disc) e) ∙ t.2.its_pair) in
              o.4 f (same_copies sides opened a.second (subst (λ d. CopyOf sides opened o.0 o.1 d) (sym d) t.1)).0,
        );
    no_third = λ s t u c b d e h i j.
        let x = flag s c b h in
        let y = flag t c d i in
        let z = flag u c e j in
        let xy = same_copies sides opened x.first y.first in
        let xz = same_copies sides opened x.first z.first in
        elim (paired.no_third x.cut (subst (λ v. CutSide (Side mesh) uncut y.f v y.w) (sym xy.0) y.cut) (subst (λ v.
        CutSide (Side mesh) uncut z.f v z.w) (sym xz.0) z.cut) xy.1 xz.1) [
          | inl m ↦ inl (same_flag s t c x y m.0 m.1)
          | inr o ↦ elim o [
            | inl m ↦ inr (inl (same_flag s u c x z m.0 m.1))
            | inr m ↦ inr (inr (same_flag t u c y z m.0 m.1))
          ]
        ];
  }

  -- the surface and the opening number their sides in the same way
  firsts : (f : ℕ) → f ≤ face_count mesh → first_side Disc f ≡ first_side mesh f
  firsts f h = same_first faces mesh.faces opened.same_faces (λ g lt. same_length sides opened lt) f h

  counts : side_count Disc ≡ side_count mesh
  counts =
      ap (sum_by length) (sym (take-length faces)) ∙ ap (λ n. sum_by length (take n faces)) opened.same_faces
      ∙ firsts (face_count mesh) (omega arith) ∙ ap (sum_by length) (take-length mesh.faces)

  uncut_pair : (v w : ℕ) (p : ℕ × ℕ) → p ≡ pair v w → Uncut uncut p.0 p.1 → Uncut uncut v w
  uncut_pair v w p e u = elim (pair_is v w) [
    | inl i ↦ subst (λ (q : ℕ × ℕ). Uncut uncut q.0 q.1) (e ∙ i) u
    | inr i ↦ uncut_turned sides uncut w v (subst (λ (q : ℕ × ℕ). Uncut uncut q.0 q.1) (e ∙ i) u)
  ]

  pair_uncut : (v w : ℕ) (p : ℕ × ℕ) → p ≡ pair v w → Uncut uncut v w → Uncut uncut p.0 p.1
  pair_uncut v w p e u = elim (pair_is v w) [
    | inl i ↦ subst (λ (q : ℕ × ℕ). Uncut uncut q.0 q.1) (sym (e ∙ i)) u
    | inr i ↦ subst (λ (q : ℕ × ℕ). Uncut uncut q.0 q.1) (sym (e ∙ i)) (uncut_turned sides uncut v w u)
  ]

  -- a side is on the border exactly where its edge is cut
  pub border_is : (s e : ℕ) → s < side_count mesh → IsEdgeOf mesh s e →
      (length (faces_with Disc (pair_at Disc s)) ≡ 1) ↔ (Uncut uncut (ends mesh e).0 (ends mesh e).1 → ⊥)
  border_is s e lt own =
      let p = placed mesh s lt in
      let f = p.0 in
      let k = p.1.0 in
      let is = p.1.1 in
      let h : IsPlace mesh (f, k) = (is.is_face, is.is_place) in
      let size : length (get_or faces f []) ≡ length (face_at mesh f) = same_length sides opened is.is_face in
      let j = after (length (face_at mesh f)) k in
      let x = corner_of faces (f, k) in
      let y = corner_of faces (f, j) in
      let v = corner_of mesh.faces (f, k) in
      let w = corner_of mesh.faces (f, j) in
      let f_in : f < face_count Disc = subst (λ n. f < n) (sym opened.same_faces) is.is_face in
      let k_in : k < length (face_at Disc f) = subst (λ n. k < n) (sym size) is.is_place in
      let le : f ≤ face_count mesh = let z = is.is_face in omega arith in
      let number : s ≡ first_side Disc f + k = is.number ∙ ap (λ n. n + k) (sym (firsts f le)) in
      let above : pair_at Disc s ≡ pair x y = ap (pair_at Disc) number ∙ pair_at_place Disc f k f_in k_in ∙ ap (λ n.
      pair x (get_or (get_or faces f []) (after n k) 0)) size in
      let below : ends mesh e ≡ pair v w = own.its_ends ∙ ap (pair_at mesh) is.number
      ∙ pair_at_place mesh f k is.is_face is.is_place in
      let a : CopyOf sides opened f v x = record { place = k; is_place = h; of = refl; is = refl } in
      let b : CopyOf sides opened f w y = record {
        place = j;
        is_place = next_place sides opened f k h;
        of = refl;
        is =
            refl;
      } in
      let side : Side mesh f v w = from_face mesh is.is_face (k, is.is_place, along refl refl) in
      let law = border_at sides opened is_open side a b in (
        (λ one u. law.0 (subst (λ p. length (faces_with Disc p) ≡ 1) above one) (uncut_pair v w (ends mesh e) below u)),
        (λ none. subst (λ p. length (faces_with Disc p) ≡ 1) (sym above) (law.1 (λ u.
            none (pair_uncut v w (ends mesh e) below u)))),
      )

  module _ (cut : List Bool) (told : TellsCut mesh uncut (is_cut cut)) where
    cut_border : (s : ℕ) → s < side_count mesh → IsCutSide mesh cut s → IsBorderSide Disc s
    cut_border s lt is = (
      subst (λ n. s < n) (sym counts) lt,
      (border_is s is.0 lt is.1).1 ((told is.0 is.1.is_edge).0 is.2),
    )

    border_cut : (s : ℕ) → IsBorderSide Disc s → (s < side_count mesh) × IsCutSide mesh cut s
    border_cut s b =
        let lt : s < side_count mesh = subst (λ n. s < n) counts b.0 in
        let f = its_face mesh s lt in
        let e = edge_of mesh f.0 (pair_at mesh s) (its_edge mesh s f.0 f.1) in
        let own : IsEdgeOf mesh s e.0 = record { is_edge = e.1; its_ends = e.2 } in
        (lt, (e.0, own, (told e.0 e.1).1 ((border_is s e.0 lt own).0 b.1)))

    pub border_sides : (n : ℕ) (list : List ℕ) → n ≡ side_count mesh → AreCutSides mesh cut n list →
        AreBorderSides Disc list
    border_sides n list all are = record {
      border = λ k h. cut_border (get_or list k 0) (subst (λ n.
          get_or list k 0 < n) all (are.below k h)) (are.are_cut k h);
      all = λ s b. let c = border_cut s b in are.all s (subst (λ n. s < n) (sym all) c.0) c.1;
      rises = are.rises;
    }

-- all of it for a cut that opens to a disc
module _ {mesh : Mesh} (surface : IsSurface mesh) (cut : List Bool)
    (opens : OpensToDisc mesh cut) {origins : List ℕ} {faces : List (List ℕ)}
    (by : IsOpenedBy mesh (IsUncut mesh cut) origins faces) where
  opened : IsOpenedAlong mesh opens.1 origins faces
  opened = opened_along opens.1 (uncut_told surface opens.1 (is_cut cut) opens.4
      (trimmed_are surface opens.2 opens.3)) by

  pub opens_to_disc : IsDisc (record { vertices = length origins; faces = faces })
  opens_to_disc = is_disc surface opens.2 opens.3 opened

  pub has_paired : HasPairedBorder (record { vertices = length origins; faces = faces })
  has_paired = border_paired surface opens.2 opens.3 opened

  pub are_border_sides : (n : ℕ) (list : List ℕ) → n ≡ side_count mesh → AreCutSides mesh cut n list →
      AreBorderSides (record { vertices = length origins; faces = faces }) list
  are_border_sides = border_sides surface opens.2 opens.3 opened cut opens.4
