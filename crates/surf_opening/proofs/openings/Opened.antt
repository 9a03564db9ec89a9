-- What the faces of an opening share, by what the faces of the surface share.
use Rattle.surf_surfaces.proofs.Common.{All, ◌≡◌, ℕ, ◌+◌, ◌<◌, ◌≤◌, inl, inr, sym, refl, subst, ap, ◌∙◌, List, [], length, get_or, arith, cases_lt, length-map, get_or-map, get_or_default, Joined, here, over, Mesh, IsMesh, IsFace, pair, face_count, face_at, HasCorner, ShareAt, Share, HasOneFan, after, All-get_or}
use Rattle.surf_opening.specs.Rim.{along, back}
use Rattle.surf_opening.specs.Side.{Side, IsPlace}
use Rattle.surf_opening.specs.Uncut.{Uncut, Copy}
use Rattle.surf_opening.proofs.sides.SideWords.{IsSides, ShareAnyUncut, SameCorner, IsOpenedAlong}
use Rattle.surf_opening.specs.Numbers.{Numbers}
use Rattle.surf_opening.specs.Opening.{corner_of}
use Rattle.surf_opening.proofs.gluing.Gluing.{uncut_turned}
use Rattle.surf_opening.proofs.sides.MeshSides.{on_face, from_face, in_mesh, side_turned}

abbrev pub opened_mesh : List ℕ → List (List ℕ) → Mesh
opened_mesh origins faces = record { vertices = length origins; faces = faces }

module _ {mesh : Mesh} {uncut : List (ℕ × ℕ)} {origins : List ℕ} {faces : List (List ℕ)} (sides : IsSides (Side mesh))
    (opened : IsOpenedAlong mesh uncut origins faces) where
  abbrev pub Disc : Mesh
  Disc = opened_mesh origins faces

  -- x is the copy that f holds of v
  pub record CopyOf (f v x : ℕ) : Type 0 where
    pub place : ℕ
    pub is_place : IsPlace mesh (f, place)
    pub of : corner_of mesh.faces (f, place) ≡ v
    pub is : corner_of faces (f, place) ≡ x

  pub same_length : {f : ℕ} → f < face_count mesh → length (get_or faces f []) ≡ length (face_at mesh f)
  same_length {f} h = sym (length-map (get_or faces f []) (λ copy. get_or origins copy 0)) ∙ ap length
      (opened.same_corners f h)

  pub origin_at : (f i : ℕ) → IsPlace mesh (f, i) → get_or origins (corner_of faces (f, i)) 0
      ≡ corner_of mesh.faces (f, i)
  origin_at f i h = sym
      (get_or-map (λ copy. get_or origins copy 0) (get_or faces f []) i 0 0
      (subst (λ n. i < n) (sym (same_length h.0)) h.1)) ∙ ap (λ face. get_or face i 0) (opened.same_corners f h.0)

  pub copy_below : (f i : ℕ) → IsPlace mesh (f, i) → corner_of faces (f, i) < length origins
  copy_below f i h = All-get_or (λ copy. copy < length origins) (get_or faces f []) i 0
      (subst (λ n. i < n) (sym (same_length h.0)) h.1)
      (All-get_or (All (λ copy. copy < length origins)) faces f [] (subst (λ n. f < n) (sym opened.same_faces) h.0)
      opened.inside)

  pub copies_same : {f g v x y : ℕ} → CopyOf f v x → CopyOf g v y → Copy (Side mesh) uncut v f g → x ≡ y
  copies_same {f} {g} {v} {x} {y} a b c =
      sym a.is ∙ (opened.one_copy (f, a.place) (g, b.place) a.is_place b.is_place).1
      (a.of ∙ sym b.of, subst (λ v. Copy (Side mesh) uncut v f g) (sym a.of) c) ∙ b.is

  pub same_copies : {f g v w x : ℕ} → CopyOf f v x → CopyOf g w x → (v ≡ w) × Copy (Side mesh) uncut v f g
  same_copies {f} {g} {v} {w} {x} a b =
      let k = (opened.one_copy (f, a.place) (g, b.place) a.is_place b.is_place).0 (a.is ∙ sym b.is) in
      (sym a.of ∙ k.0 ∙ b.of, subst (λ v. Copy (Side mesh) uncut v f g) a.of k.1)

  pub record Lifted (f v w : ℕ) : Type 0 where
    pub x : ℕ
    pub y : ℕ
    pub first : CopyOf f v x
    pub second : CopyOf f w y
    pub side : Side Disc f x y

  pub record Lowered (f x y : ℕ) : Type 0 where
    pub v : ℕ
    pub w : ℕ
    pub first : CopyOf f v x
    pub second : CopyOf f w y
    pub side : Side mesh f v w

  -- the place after one
  pub next_place : (f i : ℕ) → IsPlace mesh (f, i) → IsPlace mesh (f, after (length (face_at mesh f)) i)
  next_place f i h = let s = h.1 in (h.0, next (length (face_at mesh f)) i s)
    where
      next : (n i : ℕ) → i < n → after n i < n
      next n i h = elim (cases_lt (i + 1) n) [
        | inl k ↦ rw (Rattle.surf_opening.proofs.sides.Polygons.after_next n i k) k
        | inr k ↦ rw (Rattle.surf_opening.proofs.sides.Polygons.after_last n i k) (omega arith)
      ]

  -- the side at a place, below and above
  pub side_over : (f i : ℕ) → IsPlace mesh (f, i) →
      Side Disc f (corner_of faces (f, i)) (corner_of faces (f, after (length (face_at mesh f)) i))
  side_over f i h = from_face Disc (subst (λ n. f < n) (sym opened.same_faces) h.0) (
    i,
    subst (λ n. i < n) (sym (same_length h.0)) h.1,
    along refl (ap (λ n. get_or (get_or faces f []) (after n i) 0) (sym (same_length h.0))),
  )

  pub lift : {f v w : ℕ} → Side mesh f v w → Lifted f v w
  lift {f} {v} {w} s =
      let o = on_face mesh s in
      let h : IsPlace mesh (f, o.0) = (in_mesh mesh s, o.1) in
      let j = after (length (face_at mesh f)) o.0 in
      elim o.2 [
        | along a b ↦ record {
          x = corner_of faces (f, o.0);
          y = corner_of faces (f, j);
          first = record { place = o.0; is_place = h; of = sym a; is = refl };
          second = record { place = j; is_place = next_place f o.0 h; of = sym b; is = refl };
          side = side_over f o.0 h;
        }
        | back a b ↦ record {
          x = corner_of faces (f, j);
          y = corner_of faces (f, o.0);
          first = record { place = j; is_place = next_place f o.0 h; of = sym a; is = refl };
          second = record { place = o.0; is_place = h; of = sym b; is = refl };
          side = side_turned Disc (side_over f o.0 h);
        }
      ]

  pub lower : {f x y : ℕ} → Side Disc f x y → Lowered f x y
  lower {f} {x} {y} s =
      let o = on_face Disc s in
      let f_below : f < face_count mesh = subst (λ n. f < n) opened.same_faces (in_mesh Disc s) in
      let h : IsPlace mesh (f, o.0) = (f_below, subst (λ n. o.0 < n) (same_length f_below) o.1) in
      let j = after (length (face_at mesh f)) o.0 in
      let e : corner_of faces (f, j) ≡ get_or (get_or faces f []) (after (length (get_or faces f [])) o.0) 0 =
      ap (λ n. get_or (get_or faces f []) (after n o.0) 0) (sym (same_length f_below)) in
      elim o.2 [
        | along a b ↦ record {
          v = corner_of mesh.faces (f, o.0);
          w = corner_of mesh.faces (f, j);
          first = record { place = o.0; is_place = h; of = refl; is = sym a };
          second = record { place = j; is_place = next_place f o.0 h; of = refl; is = e ∙ sym b };
          side = from_face mesh f_below (o.0, h.1, along refl refl);
        }
        | back a b ↦ record {
          v = corner_of mesh.faces (f, j);
          w = corner_of mesh.faces (f, o.0);
          first = record { place = j; is_place = next_place f o.0 h; of = refl; is = e ∙ sym a };
          second = record { place = o.0; is_place = h; of = refl; is = sym b };
          side = from_face mesh f_below (o.0, h.1, back refl refl);
        }
      ]

  -- a side between the copies of v and w is the side v w
  pub same_side : {f g v w x y : ℕ} → Side Disc g x y → CopyOf f v x → CopyOf f w y → Lowered g x y × Side mesh g v w
  same_side {f} {g} {v} {w} {x} {y} s a b =
      let l = lower s in (
        l,
        subst (λ v. Side mesh g v w) (sym (same_copies a l.first).0)
            (subst (λ w. Side mesh g l.v w) (sym (same_copies b l.second).0) l.side),
      )

  -- an uncut side is one side of the opening
  pub shared : {f g v w x y : ℕ} → Side mesh f v w → Side mesh g v w → Uncut uncut v w → CopyOf f v x → CopyOf f w y →
      Side Disc f x y × Side Disc g x y
  shared {f} {g} {v} {w} {x} {y} s t u a b =
      let k = lift s in
      let l = lift t in
      let at_v : Copy (Side mesh) uncut v f g = over (w, s, t, u) here in
      let at_w : Copy (Side mesh) uncut w f g =
      over (v, side_turned mesh s, side_turned mesh t, uncut_turned sides uncut v w u) here in (
        subst (λ x. Side Disc f x y) (copies_same k.first a here)
            (subst (λ y. Side Disc f k.x y) (copies_same k.second b here) k.side),
        subst (λ x. Side Disc g x y) (sym (copies_same a l.first at_v))
            (subst (λ y. Side Disc g l.x y) (sym (copies_same b l.second at_w)) l.side),
      )

  -- a face's own copy of a corner
  pub copy_at : {f v w : ℕ} → Side mesh f v w → (x : ℕ) × CopyOf f v x
  copy_at s = let l = lift s in (l.x, l.first)

  -- the faces at a copy make one fan
  pub fan : {v x f g : ℕ} → Copy (Side mesh) uncut v f g → CopyOf f v x → Joined (ShareAt Disc x) f g
  fan here a = here
  fan {v = v} {x = x} (over {a = f} {b = h} r rest) a =
      let l = lift r.1 in
      let e : l.x ≡ x = copies_same l.first a here in
      let both = shared r.1 r.2 r.3 a (subst (λ y. CopyOf f r.0 y) refl l.second) in
      let k = lift r.2 in
      let at_v : Copy (Side mesh) uncut v f h = over r here in
      over (l.y, both.0.has, both.1.has)
      (fan rest (subst (λ y. CopyOf h v y) (sym (copies_same a k.first at_v)) k.first))

  -- the copy at a place of a face
  pub corner_copy : {f x : ℕ} → HasCorner Disc f x → (v : ℕ) × CopyOf f v x
  corner_copy {f} {x} h =
      let f_below : f < face_count mesh = subst (λ n. f < n) opened.same_faces h.0 in
      let i = h.1.0 in
      let i_below : i < length (get_or faces f []) = h.1.1 in (
        corner_of mesh.faces (f, i),
        record {
          place = i;
          is_place = (f_below, subst (λ n. i < n) (same_length f_below) i_below);
          of = refl;
          is = get_or_default (get_or faces f []) i 0 x i_below ∙ h.1.2;
        },
      )

  pub one_fan : (x : ℕ) → HasOneFan Disc x
  one_fan x f g h k =
      let a = corner_copy h in
      let b = corner_copy k in
      fan (same_copies a.1 b.1).1 a.1

  pub connected : {f g : ℕ} → Joined (ShareAnyUncut (Side mesh) uncut) f g → Joined (Share Disc) f g
  connected here = here
  connected (over r rest) =
      let l = lift r.1.1 in
      let both = shared r.1.1 r.1.2 r.1.3 l.first l.second in
      over (pair l.x l.y, both.0.has, both.1.has) (connected rest)

  -- the opening is a mesh, as the surface is
  -- the corners, told apart by their copies
  abbrev pub copies_counted : Numbers (IsPlace mesh) (SameCorner (Side mesh) (λ x. x.0) (corner_of mesh.faces) uncut)
      (length origins)
  copies_counted = record {
    number = corner_of faces;
    below = λ x h. copy_below x.0 x.1 h;
    onto = λ k h.
        let f = opened.every_copy k h in
        let i_below : f.2.0 < length (get_or faces f.0 []) = f.2.1 in (
          (f.0, f.2.0),
          (f.1, subst (λ n. f.2.0 < n) (same_length f.1) i_below),
          get_or_default (get_or faces f.0 []) f.2.0 0 k i_below ∙ f.2.2,
        );
    tells = λ x y h g. (opened.one_copy x y h g).0;
    agrees = λ x y h g. (opened.one_copy x y h g).1;
  }

  pub opened_is_mesh : IsMesh mesh → IsMesh Disc
  opened_is_mesh is_mesh = λ f d f_in.
      let f_below : f < face_count mesh = subst (λ n. f < n) opened.same_faces f_in in
      subst (λ face. IsFace (length origins) face) (get_or_default faces f [] d f_in) (face_is_one f f_below)
    where
      face_is_one : (f : ℕ) → f < face_count mesh → IsFace (length origins) (get_or faces f [])
      face_is_one f h =
          let face : IsFace mesh.vertices (face_at mesh f) =
          All-get_or (IsFace mesh.vertices) mesh.faces f [] h is_mesh in
          record {
            large = subst (λ n. 3 ≤ n) (sym (same_length h)) face.large;
            distinct = λ i j d i_j j_in e.
                let j_below : j < length (face_at mesh f) = subst (λ n. j < n) (same_length h) j_in in
                let i_below : i < length (face_at mesh f) = omega arith in
                let i_in : i < length (get_or faces f []) = omega arith in
                let k : corner_of faces (f, i) ≡ corner_of faces (f, j) =
                get_or_default (get_or faces f []) i 0 d i_in ∙ e ∙ get_or_default (get_or faces f []) j d 0 j_in in
                face.distinct i j 0 i_j j_below
                (sym (origin_at f i (h, i_below)) ∙ ap (λ c. get_or origins c 0) k ∙ origin_at f j (h, j_below));
            inside = All-get_or (All (λ copy. copy < length origins)) faces f []
                (subst (λ n. f < n) (sym opened.same_faces) h) opened.inside;
          }
