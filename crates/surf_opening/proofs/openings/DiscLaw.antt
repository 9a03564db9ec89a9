-- An opening along a trimmed cut is a disc.
use Rattle.surf_surfaces.proofs.Common.{◌≡◌, ◌↔◌, ℕ, ◌<◌, ◌≤◌, ◌⊎◌, inl, inr, sym, refl, subst, ap, ◌∙◌, List, [], ◌∷◌, length, get_or, Joined, here, over, Mesh, pair, edges, face_count, edge_count, face_at, ends, faces_with, HasEdge, after, place_of}
use Rattle.surf_surfaces.specs.Disc.{IsBorderEdge, ShareEnd, ShareOnBorder}
use Rattle.surf_opening.proofs.gluing.RimWords as rim
use Rattle.surf_opening.specs.Rim.{Among, along, back}
use Rattle.surf_opening.proofs.gluing.RimWords.{Reaches}
use Rattle.surf_opening.specs.Side.{Side, IsPlace}
use Rattle.surf_opening.specs.Numbers.{Numbers}
use Rattle.surf_opening.specs.Uncut.{Uncut, Copy, CutSide}
use Rattle.surf_opening.proofs.sides.SideWords.{IsSides, SameSide, IsOpenedAlong}
use Rattle.surf_opening.specs.Opening.{corner_of}
use Rattle.surf_opening.proofs.sides.Polygons.{pair_is, pair_among, among_pair, has_side_to}
use Rattle.surf_opening.proofs.gluing.Rims.{among_cases}
use Rattle.surf_opening.proofs.gluing.Gluing.{uncut_turned}
use Rattle.surf_opening.proofs.sides.MeshSides.{on_face, from_face, in_mesh, side_turned, at_most_two, one_face, same_face}
use Rattle.surf_opening.proofs.sides.Edges.{edge_of, face_of, edge_one, numbered}
use Rattle.surf_opening.proofs.gluing.Trim.{IsOpen}
use Rattle.surf_opening.proofs.openings.Opened.{opened_mesh, CopyOf, copies_same, same_copies, lift, lower, same_side, shared, same_length, side_over, next_place}

module _ {mesh : Mesh} {uncut : List (ℕ × ℕ)} {origins : List ℕ} {faces : List (List ℕ)} (sides : IsSides (Side mesh))
    (opened : IsOpenedAlong mesh uncut origins faces) (is_open : IsOpen sides uncut) where
  abbrev Disc : Mesh
  Disc = opened_mesh origins faces

  -- the e-th edge of the opening is the side v w of f
  record EdgeAt (e f v w : ℕ) : Type 0 where
    x : ℕ
    y : ℕ
    below : e < edge_count Disc
    first : CopyOf sides opened f v x
    second : CopyOf sides opened f w y
    is : ends Disc e ≡ pair x y

  edge_turned : {e f v w : ℕ} → EdgeAt e f v w → EdgeAt e f w v
  edge_turned a = record {
    x = a.y;
    y = a.x;
    below = a.below;
    first = a.second;
    second = a.first;
    is =
        a.is ∙ pair_among {v = a.x} {w = a.y} {x = a.y} {y = a.x} (back refl refl);
  }

  has_edge : {f x y : ℕ} {p : ℕ × ℕ} → p ≡ pair x y → Side Disc f x y → HasEdge Disc f p
  has_edge {f} {x} {y} {p} e s = subst (λ p. HasEdge Disc f p) (sym e) s.has

  as_side : {f x y : ℕ} {p : ℕ × ℕ} → p ≡ pair x y → HasEdge Disc f p → Side Disc f x y
  as_side {f} {x} {y} {p} e s = record { has = subst (λ p. HasEdge Disc f p) e s }

  -- an edge of the opening, at some face and side
  edge_somewhere : (e : ℕ) → e < edge_count Disc → (f : ℕ) × (x : ℕ) × (y : ℕ) × (ends Disc e ≡ pair x y)
      × Side Disc f x y
  edge_somewhere e h =
      let f = face_of Disc e h in
      let i = has_side_to (face_at Disc f.0) (ends Disc e) f.1.1 in
      let x = get_or (face_at Disc f.0) i.0 0 in
      let y = get_or (face_at Disc f.0) (after (length (face_at Disc f.0)) i.0) 0 in
      (f.0, x, y, i.2, as_side i.2 f.1)

  -- no edge has three faces
  pub one_or_two : (e : ℕ) → e < edge_count Disc → length (faces_with Disc (ends Disc e)) ≤ 2
  one_or_two e h =
      let at = edge_somewhere e h in
      let l = lower sides opened at.4 in
      let over_side = λ (f : ℕ) (t : HasEdge Disc f (ends Disc e)).
      (same_side sides opened (as_side at.3 t) l.first l.second).1 in
      at_most_two Disc (ends Disc e) (λ f g h a b c. sides.two_faces (over_side f a) (over_side g b) (over_side h c))

  -- the edge of a side
  edge_at : {f v w : ℕ} → Side mesh f v w → (e : ℕ) × EdgeAt e f v w
  edge_at {f} s =
      let l = lift sides opened s in
      let e = edge_of Disc f (pair l.x l.y) l.side.has in
      (e.0, record { x = l.x; y = l.y; below = e.1; first = l.first; second = l.second; is = e.2 })

  edge_same : {e h f v w : ℕ} → EdgeAt e f v w → EdgeAt h f v w → e ≡ h
  edge_same {e} {h} a b = edge_one Disc e h a.below b.below
      (a.is ∙ subst (λ x. pair a.x a.y ≡ pair x b.y) (copies_same sides opened a.first b.first here)
      (subst (λ y. pair a.x a.y ≡ pair a.x y) (copies_same sides opened a.second b.second here) refl) ∙ sym b.is)

  -- a cut side is on the border
  on_border : {e f v w : ℕ} → CutSide (Side mesh) uncut f v w → EdgeAt e f v w → IsBorderEdge Disc e
  on_border {e} {f} {v} {w} r a =
      let l = lift sides opened r.0 in
      let f_has : HasEdge Disc f (ends Disc e) =
      has_edge a.is (subst (λ x. Side Disc f x a.y) (copies_same sides opened l.first a.first here)
      (subst (λ y. Side Disc f l.x y) (copies_same sides opened l.second a.second here) l.side)) in (
        a.below,
        one_face Disc (ends Disc e) f f_has (λ g t.
            let m = same_side sides opened (as_side a.is t) a.first a.second in
            is_open.is_rim.proper r (m.1, r.1) (same_copies sides opened a.first m.0.first).1
            (same_copies sides opened a.second m.0.second).1),
      )

  -- a side of the opening has one face exactly where it is cut
  pub border_at : {f v w x y : ℕ} → Side mesh f v w → CopyOf sides opened f v x → CopyOf sides opened f w y →
      (length (faces_with Disc (pair x y)) ≡ 1) ↔ (Uncut uncut v w → ⊥)
  border_at {f} {v} {w} {x} {y} s a b =
      let l = lift sides opened s in
      let t : Side Disc f x y = subst (λ x. Side Disc f x y) (copies_same sides opened l.first a here)
      (subst (λ y. Side Disc f l.x y) (copies_same sides opened l.second b here) l.side) in (
        (λ one u.
            let other = sides.other_face s in
            let both = shared sides opened s other.1 u a b in
            other.2 (same_face Disc (pair x y) f other.0 one both.0.has both.1.has)),
        (λ n. one_face Disc (pair x y) f t.has (λ g k.
            let m = same_side sides opened (record { has = k }) a b in
            is_open.is_rim.proper (s, n) (m.1, n) (same_copies sides opened a m.0.first).1
            (same_copies sides opened b m.0.second).1)),
      )

  -- a border edge is a cut side
  border_side : (e : ℕ) → IsBorderEdge Disc e → (f : ℕ) × (v : ℕ) × (w : ℕ) × CutSide (Side mesh) uncut f v w
      × EdgeAt e f v w
  border_side e b =
      let at = edge_somewhere e b.0 in
      let l = lower sides opened at.4 in
      let cut : Uncut uncut l.v l.w → ⊥ = λ u.
      let other = sides.other_face l.side in
      let both = shared sides opened l.side other.1 u l.first l.second in
      other.2 (same_face Disc (ends Disc e) at.0 other.0 b.1 (has_edge at.3 both.0) (has_edge at.3 both.1)) in (
        at.0,
        l.v,
        l.w,
        (l.side, cut),
        record {
          x = at.1;
          y = at.2;
          below = b.0;
          first = l.first;
          second = l.second;
          is =
              at.3;
        },
      )

  -- two sides at one copy have it as an end
  share_end : {e h f g v w z : ℕ} → EdgeAt e f v w → EdgeAt h g v z → Copy (Side mesh) uncut v f g → ShareEnd Disc e h
  share_end {e} {h} a b c = (
    a.x,
    end a.x a.y (ends Disc e) a.is,
    subst (λ x. (x ≡ (ends Disc h).0) ⊎ (x ≡ (ends Disc h).1))
        (sym (copies_same sides opened a.first b.first c)) (end b.x b.y (ends Disc h) b.is),
  )
    where
      end : (x y : ℕ) (p : ℕ × ℕ) → p ≡ pair x y → (x ≡ p.0) ⊎ (x ≡ p.1)
      end x y p e = elim (pair_is x y) [
        | inl k ↦ inl (sym (ap (λ (p : ℕ × ℕ). p.0) (e ∙ k)))
        | inr k ↦ inr (sym (ap (λ (p : ℕ × ℕ). p.1) (e ∙ k)))
      ]

  -- a way along the rim is a chain of border edges
  border_chain : {h g s t f v w : ℕ} → Reaches (CutSide (Side mesh) uncut) (Copy (Side mesh) uncut) g s t f v w →
      CutSide (Side mesh) uncut f v w → CutSide (Side mesh) uncut g s t →
      EdgeAt h g s t → (e : ℕ) → EdgeAt e f v w → Joined (ShareOnBorder Disc) e h
  border_chain rim.here r u b e a = subst (λ h. Joined (ShareOnBorder Disc) e h) (edge_same a b) here
  border_chain (rim.turn q rest) r u b e a = border_chain rest q u b e (edge_turned a)
  border_chain (rim.pass s q rest) r u b e a =
      let k = edge_at q.0 in
      over (on_border r a, on_border q k.1, share_end a k.1 s) (border_chain rest q u b k.0 k.1)

  pub one_border : (e h : ℕ) → IsBorderEdge Disc e → IsBorderEdge Disc h → Joined (ShareOnBorder Disc) e h
  one_border e h a b =
      let k = border_side e a in
      let l = border_side h b in
      border_chain (is_open.one k.0 k.1 k.2 l.0 l.1 l.2 k.3 l.3) k.3 l.3 l.4 e k.4

  pub some_border : (f v w : ℕ) → CutSide (Side mesh) uncut f v w → (e : ℕ) × IsBorderEdge Disc e
  some_border f v w r = let k = edge_at r.0 in (k.0, on_border r k.1)

  abbrev Second : ℕ × ℕ → ℕ
  Second x = get_or (face_at mesh x.0) (after (length (face_at mesh x.0)) x.1) 0

  -- the copies at a place and the one after it
  at_first : (x : ℕ × ℕ) → IsPlace mesh x → CopyOf sides opened x.0 (corner_of mesh.faces x) (corner_of faces x)
  at_first x h = record { place = x.1; is_place = h; of = refl; is = refl }

  abbrev CopyAfter : ℕ × ℕ → ℕ
  CopyAfter x = corner_of faces (x.0, after (length (face_at mesh x.0)) x.1)

  at_second : (x : ℕ × ℕ) → IsPlace mesh x → CopyOf sides opened x.0 (Second x) (CopyAfter x)
  at_second x h = record {
    place = after (length (face_at mesh x.0)) x.1;
    is_place = next_place sides opened x.0 x.1 h;
    of = refl;
    is = refl;
  }

  abbrev edge_number : ℕ × ℕ → ℕ
  edge_number x = place_of (pair (corner_of faces x) (CopyAfter x)) (edges Disc)

  uncut_cases : (us : List (ℕ × ℕ)) (v w : ℕ) → Uncut us v w ⊎ (Uncut us v w → ⊥)
  uncut_cases [] v w = inr (λ u. u)
  uncut_cases (s ∷ rest) v w = elim (among_cases s.0 s.1 v w) [
    | inl m ↦ inl (inl m)
    | inr n ↦ elim (uncut_cases rest v w) [
      | inl u ↦ inl (inr u)
      | inr k ↦ inr (λ u. elim u [ inl m ↦ n m | inr l ↦ k l ])
    ]
  ]

  -- two places whose sides have the same ends, and the same copies there
  met : {f g v w : ℕ} → Side mesh f v w → Side mesh g v w → Copy (Side mesh) uncut v f g →
      Copy (Side mesh) uncut w f g → (f ≡ g) ⊎ Uncut uncut v w
  met {f} {g} {v} {w} s t a b = elim (uncut_cases uncut v w) [
    | inl u ↦ inr u
    | inr n ↦ inl (is_open.is_rim.proper (s, n) (t, n) a b)
  ]

  place_side : (x : ℕ × ℕ) → IsPlace mesh x → Side mesh x.0 (corner_of mesh.faces x) (Second x)
  place_side x h = from_face mesh h.0 (x.1, h.1, along refl refl)

  edge_tells : (x y : ℕ × ℕ) → IsPlace mesh x → IsPlace mesh y →
      Among (corner_of faces x) (CopyAfter x) (corner_of faces y) (CopyAfter y) →
      SameSide (λ x. x.0) (corner_of mesh.faces) Second uncut x y
  edge_tells x y h g (along a b) =
      let i = same_copies sides opened (at_first x h)
      (subst (λ z. CopyOf sides opened y.0 (corner_of mesh.faces y) z) a (at_first y g)) in
      let j = same_copies sides opened (at_second x h)
      (subst (λ z. CopyOf sides opened y.0 (Second y) z) b (at_second y g)) in (
        along (sym i.0) (sym j.0),
        met (place_side x h)
            (subst (λ v. Side mesh y.0 v (Second x)) (sym i.0)
            (subst (λ w. Side mesh y.0 (corner_of mesh.faces y) w) (sym j.0) (place_side y g))) i.1 j.1,
      )
  edge_tells x y h g (back a b) =
      let i = same_copies sides opened (at_first x h)
      (subst (λ z. CopyOf sides opened y.0 (Second y) z) b (at_second y g)) in
      let j = same_copies sides opened (at_second x h)
      (subst (λ z. CopyOf sides opened y.0 (corner_of mesh.faces y) z) a (at_first y g)) in (
        back (sym j.0) (sym i.0),
        met (place_side x h)
            (subst (λ v. Side mesh y.0 v (Second x)) (sym i.0)
            (subst (λ w. Side mesh y.0 (Second y) w) (sym j.0) (side_turned mesh (place_side y g)))) i.1 j.1,
      )

  -- glued sides, or sides of one face, have the same copies at their ends
  copies_meet : {f g v w : ℕ} → Side mesh f v w → Side mesh g v w → (f ≡ g) ⊎ Uncut uncut v w →
      Copy (Side mesh) uncut v f g × Copy (Side mesh) uncut w f g
  copies_meet {f} {g} {v} {w} s t (inl e) =
      (subst (λ g. Copy (Side mesh) uncut v f g) e here, subst (λ g. Copy (Side mesh) uncut w f g) e here)
  copies_meet {f} {g} {v} {w} s t (inr u) =
      (over (w, s, t, u) here, over (v, side_turned mesh s, side_turned mesh t, uncut_turned sides uncut v w u) here)

  edge_agrees : (x y : ℕ × ℕ) → IsPlace mesh x → IsPlace mesh y →
      SameSide (λ x. x.0) (corner_of mesh.faces) Second uncut x y →
      Among (corner_of faces x) (CopyAfter x) (corner_of faces y) (CopyAfter y)
  edge_agrees x y h g s = ends_agree s.0 s.1
    where
      ends_agree : Among (corner_of mesh.faces x) (Second x) (corner_of mesh.faces y) (Second y) →
          (x.0 ≡ y.0) ⊎ Uncut uncut (corner_of mesh.faces x) (Second x) →
          Among (corner_of faces x) (CopyAfter x) (corner_of faces y) (CopyAfter y)
      ends_agree (along a b) o =
          let m = copies_meet (place_side x h)
          (subst (λ v. Side mesh y.0 v (Second x)) a
          (subst (λ w. Side mesh y.0 (corner_of mesh.faces y) w) b (place_side y g))) o in
          along (sym (copies_same sides opened (at_first x h)
          (subst (λ v. CopyOf sides opened y.0 v (corner_of faces y)) a (at_first y g)) m.0))
          (sym (copies_same sides opened (at_second x h)
          (subst (λ v. CopyOf sides opened y.0 v (CopyAfter y)) b (at_second y g)) m.1))
      ends_agree (back a b) o =
          let m = copies_meet (place_side x h)
          (subst (λ v. Side mesh y.0 v (Second x)) b
          (subst (λ w. Side mesh y.0 (Second y) w) a (side_turned mesh (place_side y g)))) o in
          back (sym (copies_same sides opened (at_second x h)
          (subst (λ v. CopyOf sides opened y.0 v (corner_of faces y)) a (at_first y g)) m.1))
          (sym (copies_same sides opened (at_first x h)
          (subst (λ v. CopyOf sides opened y.0 v (CopyAfter y)) b (at_second y g)) m.0))

  pub edges_counted : Numbers (IsPlace mesh) (SameSide (λ x. x.0) (corner_of mesh.faces) Second uncut) (edge_count Disc)
  edges_counted = record {
    number = edge_number;
    below = λ x h. (numbered Disc x.0 (pair (corner_of faces x) (CopyAfter x))
        (side_over sides opened x.0 x.1 h).has).0;
    onto = λ e h. place_of_edge e h;
    tells = λ x y h g e. edge_tells x y h g
        (among_pair (sym (at_number x h) ∙ ap (λ e. ends Disc e) e ∙ at_number y g));
    agrees = λ x y h g s. ap (λ p. place_of p (edges Disc)) (pair_among (edge_agrees x y h g s));
  }
    where
      at_number : (x : ℕ × ℕ) → IsPlace mesh x → ends Disc (edge_number x) ≡ pair (corner_of faces x) (CopyAfter x)
      at_number x h = (numbered Disc x.0 (pair (corner_of faces x) (CopyAfter x))
          (side_over sides opened x.0 x.1 h).has).1

      place_of_edge : (e : ℕ) → e < edge_count Disc → (x : ℕ × ℕ) × IsPlace mesh x × (edge_number x ≡ e)
      place_of_edge e h =
          let at = edge_somewhere e h in
          let o = on_face Disc at.4 in
          let f_below : at.0 < face_count mesh = subst (λ n. at.0 < n) opened.same_faces (in_mesh Disc at.4) in
          let n_same = same_length sides opened f_below in
          let x : ℕ × ℕ = (at.0, o.0) in
          let is : IsPlace mesh x = (f_below, subst (λ n. o.0 < n) n_same o.1) in
          let p : pair (corner_of faces x) (CopyAfter x) ≡ ends Disc e =
          ap (λ n. pair (corner_of faces x) (corner_of faces (at.0, after n o.0))) (sym n_same) ∙ pair_among o.2 ∙ sym
          at.3 in (
            x,
            is,
            edge_one Disc (edge_number x) e
                (numbered Disc at.0 (pair (corner_of faces x) (CopyAfter x)) (side_over sides opened at.0 o.0 is).has).0 h
                (at_number x is ∙ p),
          )
