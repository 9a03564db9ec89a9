-- Corners: the sides of a face in order, and the corners of an edge at one of its ends.
use Rattle.surf_surfaces.proofs.Common.{◌≡◌, ℕ, ◌-◌, ◌<◌, ◌⊎◌, List, length, get_or, refl, sym, ap, subst, ◌∙◌, arith, inl, inr, cases_eq, eq-eqb, ne_eqb, get_or_default, Mesh, IsMesh, pair, after, before, corner, face_at, HasEdge, ShareAt, side_count, pair_at, owners, first_side, IsFaceOf}
use Rattle.std.specs.List.{All}
use Rattle.surf_surfaces.proofs.meshes.SideLaws.{pair_ends, after-below, before-below, after-before, before-after}
use Rattle.surf_surfaces.proofs.meshes.FaceLaws.{pair_comm}
use Rattle.surf_soup.specs.Ring.{BeginsAt}
use Rattle.surf_soup.specs.Vertices.{all_corners}
use Rattle.surf_soup.proofs.HalfLaws.{face_of_side}
use Rattle.surf_soup.proofs.SideNumbers.{pair_at_place, side_of_face, face_has_side, one_face}
use Rattle.surf_soup.proofs.VertexLaws.{IsPlaced, placed}
use Rattle.surf_soup.proofs.CornerSides.{face_placed, placed_face, placed_side, tail_at, same_place, one_corner}
use Rattle.surf_soup.proofs.TurnedSides.{turned_size}
use Rattle.surf_disc.specs.Links.{AreCornerTables, over_corner}

-- the vertex where a side begins
abbrev pub tail : Mesh → ℕ → ℕ
tail mesh s = get_or (all_corners mesh) s 0

-- the face of a side
abbrev pub face_of : Mesh → ℕ → ℕ
face_of mesh s = get_or (owners 0 mesh.faces) s 0

pub own_face : (mesh : Mesh) (s : ℕ) → s < side_count mesh → IsFaceOf mesh s (face_of mesh s)
own_face mesh s lt = face_of_side mesh (owners 0 mesh.faces) s 0 refl lt

pub face_side : (mesh : Mesh) (s f : ℕ) → IsFaceOf mesh s f → s < side_count mesh
face_side mesh s f h = placed_side mesh s f (s - first_side mesh f) (face_placed mesh s f h)

-- a corner of a face at a vertex
pub record IsCornerOf (mesh : Mesh) (v f s : ℕ) : Type 0 where
  pub begins : BeginsAt mesh v s
  pub its_face : IsFaceOf mesh s f

pub same_corner : (mesh : Mesh) → IsMesh mesh → (v f s t : ℕ) → IsCornerOf mesh v f s → IsCornerOf mesh v f t → s ≡ t
same_corner mesh is_mesh v f s t a b = one_corner mesh is_mesh s t f a.its_face b.its_face (a.begins.1 ∙ sym b.begins.1)

module _ (mesh : Mesh) (is_mesh : IsMesh mesh) (next prev across : List ℕ)
    (tables : AreCornerTables mesh next prev across) where
  next_place : (s f k : ℕ) → IsPlaced mesh s f k → IsPlaced mesh (get_or next s 0) f (after (length (face_at mesh f)) k)
  next_place s f k p = record {
    is_face = p.is_face;
    is_place = after-below
        (length (face_at mesh f)) k p.is_place;
    number = ap (λ t. get_or next t 0) p.number
        ∙ tables.nexts.at f k p.is_face p.is_place;
  }

  prev_place : (s f k : ℕ) → IsPlaced mesh s f k →
      IsPlaced mesh (get_or prev s 0) f (before (length (face_at mesh f)) k)
  prev_place s f k p = record {
    is_face = p.is_face;
    is_place = before-below
        (length (face_at mesh f)) k p.is_place;
    number = ap (λ t. get_or prev t 0) p.number
        ∙ tables.prevs.at f k p.is_face p.is_place;
  }

  pub next_face : (s f : ℕ) → IsFaceOf mesh s f → IsFaceOf mesh (get_or next s 0) f
  next_face s f h = let k = s - first_side mesh f in placed_face mesh (get_or next s 0) f
      (after (length (face_at mesh f)) k) (next_place s f k (face_placed mesh s f h))

  pub prev_face : (s f : ℕ) → IsFaceOf mesh s f → IsFaceOf mesh (get_or prev s 0) f
  prev_face s f h = let k = s - first_side mesh f in placed_face mesh (get_or prev s 0) f
      (before (length (face_at mesh f)) k) (prev_place s f k (face_placed mesh s f h))

  pub next_in : (s : ℕ) → s < side_count mesh → get_or next s 0 < side_count mesh
  next_in s lt = face_side mesh (get_or next s 0) (face_of mesh s) (next_face s (face_of mesh s) (own_face mesh s lt))

  pub prev_in : (s : ℕ) → s < side_count mesh → get_or prev s 0 < side_count mesh
  prev_in s lt = face_side mesh (get_or prev s 0) (face_of mesh s) (prev_face s (face_of mesh s) (own_face mesh s lt))

  pub next_prev : (s : ℕ) → s < side_count mesh → get_or next (get_or prev s 0) 0 ≡ s
  next_prev s lt =
      let r = placed mesh s lt in
      let m = length (face_at mesh r.0) in
      let b = before m r.1.0 in
      same_place mesh (get_or next (get_or prev s 0) 0) s r.0 (after m b) r.1.0
      (next_place (get_or prev s 0) r.0 b (prev_place s r.0 r.1.0 r.1.1)) r.1.1
      (after-before m r.1.0 r.1.1.is_place)

  pub prev_next : (s : ℕ) → s < side_count mesh → get_or prev (get_or next s 0) 0 ≡ s
  prev_next s lt =
      let r = placed mesh s lt in
      let m = length (face_at mesh r.0) in
      let b = after m r.1.0 in
      same_place mesh (get_or prev (get_or next s 0) 0) s r.0 (before m b) r.1.0
      (prev_place (get_or next s 0) r.0 b (next_place s r.0 r.1.0 r.1.1)) r.1.1
      (before-after m r.1.0 r.1.1.is_place)

  pub across_inside : All (λ t. t < length next) across
  across_inside = λ s d lt.
      let n = turned_size after mesh next tables.nexts in
      let size = tables.acrosses.size in
      let a = tables.acrosses.all s (omega arith) in
      omega (arith, a.is_side, get_or_default across s d 0 lt)

  -- a side runs from where it begins to where the next one begins
  pub pair_tails : (s : ℕ) → s < side_count mesh → pair_at mesh s ≡ pair (tail mesh s) (tail mesh (get_or next s 0))
  pair_tails s lt =
      let r = placed mesh s lt in
      let f = r.0 in
      let k = r.1.0 in
      let p = r.1.1 in
      let n = length (face_at mesh f) in
      ap (pair_at mesh) p.number ∙ pair_at_place mesh f k p.is_face p.is_place
      ∙ ap (λ x. pair x (corner (face_at mesh f) (after n k))) (sym (tail_at mesh s f k p))
      ∙ ap (pair (tail mesh s)) (sym (tail_at mesh (get_or next s 0) f (after n k) (next_place s f k p)))

  pub ends_of : (s v w : ℕ) → s < side_count mesh → pair_at mesh s ≡ pair v w →
      ((tail mesh s ≡ v) × (tail mesh (get_or next s 0) ≡ w)) ⊎ ((tail mesh s ≡ w) × (tail mesh (get_or next s 0) ≡ v))
  ends_of s v w lt e = pair_ends (tail mesh s) (tail mesh (get_or next s 0)) v w (sym (pair_tails s lt) ∙ e)

  -- a side's corner at one of its ends is the side itself or the next one
  pub record IsEndOf (v side c : ℕ) : Type 0 where
    pub begins : BeginsAt mesh v c
    pub is : (c ≡ side) ⊎ (c ≡ get_or next side 0)

  pub end_face : (v side c f : ℕ) → IsEndOf v side c → IsFaceOf mesh side f → IsFaceOf mesh c f
  end_face v side c f e h = let P : ℕ →
      Type 0 = λ x. IsFaceOf mesh x f in elim e.is
      [ inl i ↦ subst P (sym i) h | inr i ↦ subst P (sym i) (next_face side f h) ]

  pub end_of_pair : (v w side : ℕ) → side < side_count mesh → pair_at mesh side ≡ pair v w → (c : ℕ) × IsEndOf v side c
  end_of_pair v w side lt e = elim (ends_of side v w lt e) [
    | inl a ↦ (side, record { begins = (lt, a.0); is = inl refl })
    | inr b ↦ (get_or next side 0, record { begins = (next_in side lt, b.1); is = inr refl })
  ]

  -- the sides of a corner: the one that begins there, and the one before
  abbrev pub IsSideAt : ℕ → ℕ → Type 0
  IsSideAt s side = (side ≡ s) ⊎ (side ≡ get_or prev s 0)

  pub side_at_end : (v side c : ℕ) → side < side_count mesh → IsEndOf v side c → IsSideAt c side
  side_at_end v side c lt e = elim e.is
      [ inl i ↦ inl (sym i) | inr i ↦ inr (sym (prev_next side lt) ∙ ap (λ x. get_or prev x 0) (sym i)) ]

  pub side_in : (s side : ℕ) → s < side_count mesh → IsSideAt s side → side < side_count mesh
  side_in s side lt at = let P : ℕ →
      Type 0 = λ x. x < side_count mesh in elim at
      [ inl e ↦ subst P (sym e) lt | inr e ↦ subst P (sym e) (prev_in s lt) ]

  pub side_face : (s side f : ℕ) → IsSideAt s side → IsFaceOf mesh s f → IsFaceOf mesh side f
  side_face s side f at h = let P : ℕ →
      Type 0 = λ x. IsFaceOf mesh x f in elim at
      [ inl e ↦ subst P (sym e) h | inr e ↦ subst P (sym e) (prev_face s f h) ]

  -- the other end of a corner's side
  pub side_pair_at : (s side : ℕ) → s < side_count mesh → IsSideAt s side →
      (w : ℕ) × (pair_at mesh side ≡ pair (tail mesh s) w)
  side_pair_at s side lt at = elim at [
    | inl e ↦ (tail mesh (get_or next s 0), ap (pair_at mesh) e ∙ pair_tails s lt)
    | inr e ↦ (
      tail mesh (get_or prev s 0),
      ap (pair_at mesh) e ∙ pair_tails (get_or prev s 0) (prev_in s lt)
          ∙ ap (λ x. pair (tail mesh (get_or prev s 0)) (tail mesh x)) (next_prev s lt)
          ∙ pair_comm (tail mesh (get_or prev s 0)) (tail mesh s),
    )
  ]

  abbrev pub over : ℕ → ℕ → ℕ
  over side v = over_corner next across (all_corners mesh) side v

  -- the corner across a side is the corner there of what lies across
  pub over_is : (v w side : ℕ) → side < side_count mesh → pair_at mesh side ≡ pair v w →
      IsEndOf v (get_or across side 0) (over side v)
  over_is v w side lt e =
      let t = get_or across side 0 in
      let a = tables.acrosses.all side lt in
      let P : ℕ → Type 0 = λ c. IsEndOf v t c in
      elim (cases_eq (tail mesh t) v) [
        | inl is ↦
            let same : over side v ≡ t = rw (eq-eqb (tail mesh t) v is) refl in
            subst P (sym same) (record { begins = (a.is_side, is); is = inl refl })
        | inr ne ↦
            let same : over side v ≡ get_or next t 0 = rw (ne_eqb (tail mesh t) v ne) refl in
            let far : tail mesh (get_or next t 0) ≡ v = elim (ends_of t v w a.is_side (a.same_edge ∙ e))
            [ inl b ↦ absurd (ne b.0) | inr b ↦ b.1 ] in
            subst P (sym same) (record { begins = (next_in t a.is_side, far); is = inr refl })
      ]

  has_edge : (side f : ℕ) → IsFaceOf mesh side f → HasEdge mesh f (pair_at mesh side)
  has_edge side f h = (h.is_face, side_of_face mesh side f h)

  -- the corner across one of a corner's sides is of a face that shares an edge here
  pub over_shares : (v s side f g : ℕ) → BeginsAt mesh v s → IsSideAt s side → IsFaceOf mesh s f →
      IsFaceOf mesh (over side v) g → BeginsAt mesh v (over side v) × ShareAt mesh v f g
  over_shares v s side f g b at p q =
      let lt = side_in s side b.0 at in
      let r = side_pair_at s side b.0 at in
      let w = r.0 in
      let runs : pair_at mesh side ≡ pair v w = r.1 ∙ ap (λ x. pair x w) b.1 in
      let o = over_is v w side lt runs in
      let a = tables.acrosses.all side lt in
      let t = get_or across side 0 in
      let own = own_face mesh t a.is_side in
      let same = one_face mesh (over side v) (face_of mesh t) g (end_face v t (over side v) (face_of mesh t) o own) q in
      let F : ℕ × ℕ → Type 0 = λ x. HasEdge mesh f x in
      let G : ℕ × ℕ → Type 0 = λ x. HasEdge mesh g x in
      let H : ℕ → Type 0 = λ x. HasEdge mesh x (pair_at mesh t) in (
        o.begins,
        (
          w,
          subst F runs (has_edge side f (side_face s side f at p)),
          subst G (a.same_edge ∙ runs) (subst H same (has_edge t (face_of mesh t) own)),
        ),
      )

  -- where faces share an edge at a vertex, the corner of one is that of the other, or across one of its sides
  pub shares_over : (v s t f g : ℕ) → ShareAt mesh v f g → IsCornerOf mesh v f s → IsCornerOf mesh v g t →
      (s ≡ t) ⊎ ((side : ℕ) × IsSideAt s side × (over side v ≡ t))
  shares_over v s t f g h a b =
      let w = h.0 in
      let x = face_has_side mesh f (pair v w) h.1.0 h.1.1 in
      let y = face_has_side mesh g (pair v w) h.2.0 h.2.1 in
      let side = x.0 in
      let c = end_of_pair v w side x.1.is_side x.1.its_pair in
      let at : c.0 ≡ s = same_corner mesh is_mesh v f c.0 s
      (record { begins = c.1.begins; its_face = end_face v side c.0 f c.1 x.1.its_face }) a in
      let S : ℕ → Type 0 = λ z. IsSideAt z side in
      let side_at : IsSideAt s side = subst S at (side_at_end v side c.0 x.1.is_side c.1) in
      let across' = tables.acrosses.all side x.1.is_side in
      elim (cases_eq y.0 side) [
        | inl same ↦
            let P : ℕ → Type 0 = λ z. IsFaceOf mesh z g in
            let faces : f ≡ g = one_face mesh side f g x.1.its_face (subst P same y.1.its_face) in
            let Q : ℕ → Type 0 = λ z. IsCornerOf mesh v z s in
            inl (same_corner mesh is_mesh v g s t (subst Q faces a) b)
        | inr differs ↦
            let same = across'.no_third y.0 y.1.is_side (y.1.its_pair ∙ sym x.1.its_pair) differs in
            let P : ℕ → Type 0 = λ z. IsFaceOf mesh z g in
            let o = over_is v w side x.1.is_side x.1.its_pair in
            inr (
              side,
              side_at,
              same_corner mesh is_mesh v g (over side v) t
                  (record {
                    begins = o.begins;
                    its_face = end_face v (get_or across side 0) (over side v) g o
                        (subst P same y.1.its_face);
                  }) b,
            )
      ]

  -- a face that shares an edge at a vertex has a corner there
  pub share_corner : (v f g : ℕ) → ShareAt mesh v f g → (s : ℕ) × IsCornerOf mesh v f s
  share_corner v f g h =
      let x = face_has_side mesh f (pair v h.0) h.1.0 h.1.1 in
      let c = end_of_pair v h.0 x.0 x.1.is_side x.1.its_pair in
      (c.0, record { begins = c.1.begins; its_face = end_face v x.0 c.0 f c.1 x.1.its_face })
