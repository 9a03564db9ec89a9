-- The faces around a vertex by their places, and the chains of faces there.
use Rattle.surf_slit.proofs.Common.{◌≡◌, ℕ, ◌+◌, ◌<◌, ◌⊎◌, ◌↔◌, inl, inr, sym, refl, subst, ap, ◌∙◌, eqb, List, length, get_or, Bool, true, false, arith, eqb-true, cases_eq, or_cases, Joined, here, over, Mesh, pair, after, face_at, edge_count, ends, touches, HasEdge, IsSurface, owners, first_side, IsFaceOf, pair_comm, touches_first, joined_trans, after-below, ShareUncutAt, Side, ends_pair, is_darts, no_third_face, after_cases, BeginsAt, face_of_side, spans, one_corner, one_face, corner_at_place, IsUncut, AgreeAt}
use Rattle.surf_slit.proofs.Runs.{Linked}

-- the sides that begin at a vertex, one a face there, and the edges there, each between the faces of its place and of the next
pub record IsFan (mesh : Mesh) (v n : ℕ) (ring edge : ℕ → ℕ) : Type 0 where
  pub some : 0 < n
  pub begin : (k : ℕ) → k < n → BeginsAt mesh v (ring k)
  pub all : (s : ℕ) → BeginsAt mesh v s → (k : ℕ) × (k < n) × (ring k ≡ s)
  pub differ : (i k : ℕ) → i < n → k < n → ring i ≡ ring k → i ≡ k
  pub is_edge : (k : ℕ) → k < n → edge k < edge_count mesh
  pub at : (k : ℕ) → k < n → touches v (ends mesh (edge k)) ≡ true
  pub every : (e : ℕ) → e < edge_count mesh → touches v (ends mesh e) ≡ true → (k : ℕ) × (k < n) × (edge k ≡ e)
  pub once : (i k : ℕ) → i < n → k < n → edge i ≡ edge k → i ≡ k
  pub behind : (k f : ℕ) → k < n → IsFaceOf mesh (ring k) f → HasEdge mesh f (ends mesh (edge k))
  pub ahead : (k g : ℕ) → k < n → IsFaceOf mesh (ring (after n k)) g → HasEdge mesh g (ends mesh (edge k))

-- the other end of an edge at a vertex
pub other_end : {mesh : Mesh} → IsSurface mesh → (v e : ℕ) → e < edge_count mesh → touches v (ends mesh e) ≡ true → (w : ℕ) × (ends mesh e ≡ pair v w)
other_end {mesh} surface v e h t =
    let p = ends mesh e in
    let own : p ≡ pair p.0 p.1 = sym (ends_pair surface e h) in
    elim (or_cases (eqb p.0 v) (eqb p.1 v) t) [
      | inl i ↦ (p.1, own ∙ ap (λ x. pair x p.1) (eqb-true p.0 v i))
      | inr i ↦ (p.0, own ∙ pair_comm p.0 p.1 ∙ ap (λ x. pair x p.0) (eqb-true p.1 v i))
    ]

-- a face with a side at a vertex has one that begins there
pub begins : {mesh : Mesh} → IsSurface mesh → (f v w : ℕ) → Side mesh f v w → (s : ℕ) × BeginsAt mesh v s × IsFaceOf mesh s f
begins {mesh} surface f v w h =
    let x = (is_darts mesh surface.is_mesh).of_corner f v w h in
    let k = x.0.1 in
    let lt : k < length (face_at mesh f) = subst (λ g. k < length (face_at mesh g)) x.2 x.1.1 in
    let sp = spans mesh.faces f h.has.0 in
    let s = first_side mesh f + k in (
      s,
      (omega (arith, sp.0, sp.1), corner_at_place mesh f k 0 h.has.0 lt ∙ ap (λ g. get_or (face_at mesh g) k 0) (sym x.2) ∙ x.3),
      record { is_face = h.has.0; from = omega arith; upto = omega arith },
    )

module _ {mesh : Mesh} (surface : IsSurface mesh) {v n : ℕ} {ring edge : ℕ → ℕ} (fan : IsFan mesh v n ring edge) where
  after_in : (k : ℕ) → k < n → after n k < n
  after_in k h = after-below n k h

  face_at_place : (k : ℕ) → k < n → (f : ℕ) × IsFaceOf mesh (ring k) f
  face_at_place k h = (get_or (owners 0 mesh.faces) (ring k) 0, face_of_side mesh (owners 0 mesh.faces) (ring k) 0 refl (fan.begin k h).0)

  -- places with one face are one place
  pub same_place : (i k f : ℕ) → i < n → k < n → IsFaceOf mesh (ring i) f → IsFaceOf mesh (ring k) f → i ≡ k
  same_place i k f h g a b = fan.differ i k h g (one_corner mesh surface.is_mesh (ring i) (ring k) f a b ((fan.begin i h).1 ∙ sym (fan.begin k g).1))

  -- a face with the edge of a place is the face there or the next one
  pub placed_by : (k i f : ℕ) → k < n → i < n → IsFaceOf mesh (ring i) f → HasEdge mesh f (ends mesh (edge k)) → (i ≡ k) ⊎ (i ≡ after n k)
  placed_by k i f h g a has =
      let next = after_in k h in
      let x = face_at_place k h in
      let y = face_at_place (after n k) next in
      elim (cases_eq (after n k) k) [
        | inl e ↦ elim (after_cases n k) [ inl c ↦ absurd (omega arith) | inr c ↦ inl (omega arith) ]
        | inr ne ↦
            let two = surface.two_faces (edge k) (fan.is_edge k h) in
            elim (no_third_face mesh (ends mesh (edge k)) (omega arith) f x.0 y.0 has (fan.behind k x.0 h x.1) (fan.ahead k y.0 h y.1)) [
              | inl e ↦ inl (same_place i k x.0 g h (subst (λ f. IsFaceOf mesh (ring i) f) e a) x.1)
              | inr o ↦ elim o [
                | inl e ↦ inr (same_place i (after n k) y.0 g next (subst (λ f. IsFaceOf mesh (ring i) f) e a) y.1)
                | inr e ↦ absurd (ne (sym (same_place k (after n k) y.0 h next (subst (λ f. IsFaceOf mesh (ring k) f) e x.1) y.1)))
              ]
            ]
      ]

  module _ (flags : List Bool) where
    abbrev pub is_cut : ℕ → Bool
    is_cut k = get_or flags (edge k) false

    abbrev Share : ℕ → ℕ → Type 0
    Share = ShareUncutAt mesh (IsUncut mesh flags) v

    share_turned : (f g : ℕ) → Share f g → Share g f
    share_turned f g s = (s.0, s.2, s.1, s.3)

    -- the faces of a place and of the next one share an uncut edge where none is cut behind the place
    shares : (k f g : ℕ) → k < n → is_cut k ≡ false → IsFaceOf mesh (ring k) f → IsFaceOf mesh (ring (after n k)) g → Share f g
    shares k f g h free a b =
        let e = edge k in
        let w = other_end surface v e (fan.is_edge k h) (fan.at k h) in (
          w.0,
          record { has = subst (λ p. HasEdge mesh f p) w.1 (fan.behind k f h a) },
          record { has = subst (λ p. HasEdge mesh g p) w.1 (fan.ahead k g h b) },
          (e, fan.is_edge k h, w.1, free),
        )

    pub from_places : {i j : ℕ} → Joined (Linked n is_cut) i j → (f g : ℕ) → i < n → j < n → IsFaceOf mesh (ring i) f → IsFaceOf mesh (ring j) g → Joined Share f g
    from_places {i} here f g h l a b = subst (λ g. Joined Share f g) (one_face mesh (ring i) f g a b) here
    from_places (over {a = x} {b = y} s p) f g h l a b =
        let k = s.0 in
        let own : y < n = elim s.3 [ inl o ↦ subst (λ y. y < n) (sym o.1) (after_in k s.1) | inr o ↦ subst (λ y. y < n) (sym o.1) s.1 ] in
        let z = face_at_place y own in
        let step : Share f z.0 = elim s.3 [
          | inl o ↦ shares k f z.0 s.1 s.2 (subst (λ x. IsFaceOf mesh (ring x) f) o.0 a) (subst (λ y. IsFaceOf mesh (ring y) z.0) o.1 z.1)
          | inr o ↦ share_turned z.0 f (shares k z.0 f s.1 s.2 (subst (λ y. IsFaceOf mesh (ring y) z.0) o.1 z.1) (subst (λ x. IsFaceOf mesh (ring x) f) o.0 a))
        ] in
        over step (from_places p z.0 g own l z.1 b)

    -- faces that share an uncut edge are at one place, or at places side by side
    stepped : (f g i j : ℕ) → Share f g → i < n → j < n → IsFaceOf mesh (ring i) f → IsFaceOf mesh (ring j) g → Joined (Linked n is_cut) i j
    stepped f g i j s h l a b =
        let w = s.0 in
        let e = s.3.0 in
        let is : ends mesh e ≡ pair v w = s.3.2 in
        let p = fan.every e s.3.1 (ap (touches v) is ∙ touches_first v w) in
        let k = p.0 in
        let its : ends mesh (edge k) ≡ pair v w = ap (ends mesh) p.2 ∙ is in
        let free : is_cut k ≡ false = ap (λ e. get_or flags e false) p.2 ∙ s.3.3 in
        let has_f = subst (λ p. HasEdge mesh f p) (sym its) s.1.has in
        let has_g = subst (λ p. HasEdge mesh g p) (sym its) s.2.has in
        elim (placed_by k i f p.1 h a has_f) [
          | inl x ↦ elim (placed_by k j g p.1 l b has_g) [
            | inl y ↦ subst (λ j. Joined (Linked n is_cut) i j) (x ∙ sym y) here
            | inr y ↦ over (k, p.1, free, inl (x, y)) here
          ]
          | inr x ↦ elim (placed_by k j g p.1 l b has_g) [
            | inl y ↦ over (k, p.1, free, inr (x, y)) here
            | inr y ↦ subst (λ j. Joined (Linked n is_cut) i j) (x ∙ sym y) here
          ]
        ]

    pub to_places : {f g : ℕ} → Joined Share f g → (i j : ℕ) → i < n → j < n → IsFaceOf mesh (ring i) f → IsFaceOf mesh (ring j) g → Joined (Linked n is_cut) i j
    to_places {f} here i j h l a b = subst (λ j. Joined (Linked n is_cut) i j) (same_place i j f h l a b) here
    to_places (over {a = x} {b = y} s p) i j h l a b =
        let t = begins surface y v s.0 s.2 in
        let m = fan.all t.0 t.1 in
        let at_y : IsFaceOf mesh (ring m.0) y = subst (λ s. IsFaceOf mesh s y) (sym m.2) t.2 in
        joined_trans (stepped x y i m.0 s h m.1 a at_y) (to_places p m.0 j m.1 l at_y b)

    -- labels that agree, by places and by faces
    pub agree_placed : (labels : List ℕ) → AgreeAt mesh flags labels v → (i j : ℕ) → i < n → j < n → (get_or labels (ring i) 0 ≡ get_or labels (ring j) 0) ↔ Joined (Linked n is_cut) i j
    agree_placed labels agree i j h l =
        let x = face_at_place i h in
        let y = face_at_place j l in
        let k = agree (ring i) (ring j) x.0 y.0 (fan.begin i h) (fan.begin j l) x.1 y.1 in
        ((λ e. to_places (k.0 e) i j h l x.1 y.1), (λ p. k.1 (from_places p x.0 y.0 h l x.1 y.1)))

    pub placed_agree : (labels : List ℕ) → ((i j : ℕ) → i < n → j < n → (get_or labels (ring i) 0 ≡ get_or labels (ring j) 0) ↔ Joined (Linked n is_cut) i j) → AgreeAt mesh flags labels v
    placed_agree labels agree s t f g b c a d =
        let x = fan.all s b in
        let y = fan.all t c in
        let k = agree x.0 y.0 x.1 y.1 in
        let fx = subst (λ s. IsFaceOf mesh s f) (sym x.2) a in
        let gy = subst (λ t. IsFaceOf mesh t g) (sym y.2) d in (
          (λ e. from_places (k.0 (ap (λ s. get_or labels s 0) x.2 ∙ e ∙ ap (λ s. get_or labels s 0) (sym y.2))) f g x.1 y.1 fx gy),
          (λ p. ap (λ s. get_or labels s 0) (sym x.2) ∙ k.1 (to_places p x.0 y.0 x.1 y.1 fx gy) ∙ ap (λ s. get_or labels s 0) y.2),
        )
