-- The two sides of an edge: their faces, and whether they run the same way.
use Rattle.surf_surfaces.proofs.Common.{◌≡◌, ◌≢◌, ℕ, ◌+◌, ◌-◌, ◌<◌, ◌||◌, ◌⊎◌, Bool, true, false, not, eqb, List, [], length, get_or, refl, sym, ap, subst, ◌∙◌, arith, inl, inr, cases_eq, eq-eqb, ne_eqb, eqb-true, lt-ltb, or_cases, or_right, joins, dual, Mesh, IsFace, pair, pair_of, pair_eq, edges, face_count, edge_count, face_at, ends, has_side, runs, faces_of, Share, IsSurface, cells_of, place_of, after, corner, side_pair, pair_at, first_side, IsFaceOf, IsEdgeOf, IsMate}
use Rattle.surf_z2.specs.Parity.{xor, xor_comm}
use Rattle.surf_surfaces.proofs.meshes.EdgeLaws.{place_of-among}
use Rattle.surf_surfaces.proofs.meshes.PairLaws.{pair_eq-same, pair_eq-other}
use Rattle.surf_surfaces.proofs.meshes.SideLaws.{pair_ends, side_place}
use Rattle.surf_surfaces.proofs.meshes.SurfaceLaws.{two_faces_of}
use Rattle.surf_orientation.specs.Chains.{same_way}
use Rattle.surf_orientation.proofs.SideNumbers.{ends_rise}
use Rattle.surf_orientation.proofs.Turned.{runs_at}
use Rattle.surf_soup.specs.Vertices.{all_corners}
use Rattle.surf_soup.specs.Ring.{BeginsAt}
use Rattle.surf_soup.specs.Reach.{marked}
use Rattle.surf_soup.proofs.VertexLaws.{corner_at_place}
use Rattle.surf_soup.proofs.EdgeTables.{pair_at-edge}
use Rattle.surf_soup.proofs.SideNumbers.{pair_at_place, side_of_face, face_has_side}
use Rattle.surf_check.specs.Growth.{IsCrossed}

-- a pair in order
sorted : (p : ℕ × ℕ) → p.0 < p.1 → pair_of p ≡ p
sorted p lt = rw (lt-ltb p.0 p.1 lt) refl

-- which way a pair is run is told by where the run begins
run_starts : (p : ℕ × ℕ) (c d : ℕ) → p.0 < p.1 → p ≡ pair c d → pair_eq p (c, d) ≡ eqb p.0 c
run_starts p c d lt e = elim (pair_ends p.0 p.1 c d (sorted p lt ∙ e)) [
  | inl q ↦ pair_eq-same p (c, d) (λ i. (q.0 i, q.1 i)) ∙ sym (eq-eqb p.0 c q.0)
  | inr q ↦
      let ne : p.0 ≢ c = λ same. omega (arith, lt, q.1, same) in
      pair_eq-other p (c, d) (λ same. ne (ap (λ (x : ℕ × ℕ). x.0) same)) ∙ sym (ne_eqb p.0 c ne)
]

other_end : (p : ℕ × ℕ) (c d : ℕ) → p.0 < p.1 → p ≡ pair c d → p.0 ≢ c → p.1 ≡ c
other_end p c d lt e ne = elim (pair_ends p.0 p.1 c d (sorted p lt ∙ e)) [ inl q ↦ absurd (ne q.0) | inr q ↦ q.1 ]

-- two runs of a pair go the same way where they begin at the same end
same_start : (p : ℕ × ℕ) (c d x y : ℕ) → p.0 < p.1 → p ≡ pair c d → p ≡ pair x y →
    not (xor (pair_eq p (c, d)) (pair_eq p (x, y))) ≡ eqb c x
same_start p c d x y lt e f = rw (run_starts p c d lt e, run_starts p x y lt f) (elim (cases_eq p.0 c) [
  | inl a ↦ elim (cases_eq p.0 x) [
    | inl b ↦ rw (eq-eqb p.0 c a, eq-eqb p.0 x b, eq-eqb c x (sym a ∙ b)) refl
    | inr b ↦ rw (eq-eqb p.0 c a, ne_eqb p.0 x b, ne_eqb c x (λ q. b (a ∙ q))) refl
  ]
  | inr a ↦ elim (cases_eq p.0 x) [
    | inl b ↦ rw (ne_eqb p.0 c a, eq-eqb p.0 x b, ne_eqb c x (λ q. a (b ∙ sym q))) refl
    | inr b ↦ rw (
      ne_eqb p.0 c a,
      ne_eqb p.0 x b,
      eq-eqb c x (sym (other_end p c d lt e a) ∙ other_end p x y lt f b),
    ) refl
  ]
])

-- a face that has an edge is one of its two
one_of_two : (mesh : Mesh) → IsSurface mesh → (e f : ℕ) → e < edge_count mesh →
    has_side (ends mesh e) (face_at mesh f) ≡ true → (f ≡ (faces_of mesh e).0) ⊎ (f ≡ (faces_of mesh e).1)
one_of_two mesh surface e f lt has =
    let a = (faces_of mesh e).0 in
    let b = (faces_of mesh e).1 in
    elim (or_cases (eqb f a) (eqb f b) (sym ((two_faces_of mesh surface e lt).no_other f)
    ∙ has)) [ inl q ↦ inl (eqb-true f a q) | inr q ↦ inr (eqb-true f b q) ]

module _ (mesh : Mesh) (surface : IsSurface mesh) where
  -- where a side stands in its face
  record Stands (s f e k : ℕ) : Type 0 where
    is_place : k < length (face_at mesh f)
    number : first_side mesh f + k ≡ s
    its_pair : ends mesh e ≡ side_pair (face_at mesh f) k
    its_tail : get_or (all_corners mesh) s 0 ≡ corner (face_at mesh f) k

  stands : (s f e : ℕ) → IsFaceOf mesh s f → IsEdgeOf mesh s e → (k : ℕ) × Stands s f e k
  stands s f e h g =
      let k = s - first_side mesh f in
      let lt : k < length (face_at mesh f) = omega (arith, h.from, h.upto) in
      let n : first_side mesh f + k ≡ s = omega (arith, h.from) in (
        k,
        record {
          is_place = lt;
          number = n;
          its_pair = g.its_ends ∙ ap (pair_at mesh) (sym n) ∙ pair_at_place mesh f k h.is_face lt;
          its_tail = ap (λ t. get_or (all_corners mesh) t 0) (sym n) ∙ corner_at_place mesh f k 0 h.is_face lt;
        },
      )

  is_face : (f : ℕ) → f < face_count mesh → IsFace mesh.vertices (face_at mesh f)
  is_face f lt = surface.is_mesh f [] lt

  -- the two sides of an edge are of two faces
  mates_differ : (s t f g e : ℕ) → IsMate mesh s t → IsFaceOf mesh s f → IsFaceOf mesh t g → IsEdgeOf mesh s e →
      f ≢ g
  mates_differ s t f g e m a b h same =
      let i = stands s f e a h in
      let P : ℕ → Type 0 = λ x. IsFaceOf mesh t x in
      let j = stands t f e (subst P (sym same) b) (record {
        is_edge = h.is_edge;
        its_ends = h.its_ends
            ∙ sym m.same_edge;
      }) in
      let k : i.0 ≡ j.0 = side_place mesh.vertices (face_at mesh f) (is_face f a.is_face) i.0 j.0 i.1.is_place
      j.1.is_place (sym i.1.its_pair ∙ j.1.its_pair) in
      m.other (omega (arith, k, i.1.number, j.1.number))

  pub mates_faces : (s t f g e : ℕ) → IsMate mesh s t → IsFaceOf mesh s f → IsFaceOf mesh t g → IsEdgeOf mesh s e →
      (((faces_of mesh e).0 ≡ f) × ((faces_of mesh e).1 ≡ g))
      ⊎ (((faces_of mesh e).0 ≡ g) × ((faces_of mesh e).1 ≡ f))
  mates_faces s t f g e m a b h =
      let ne = mates_differ s t f g e m a b h in
      let has_f : has_side (ends mesh e) (face_at mesh f) ≡ true = ap (λ p. has_side p (face_at mesh f)) h.its_ends
      ∙ side_of_face mesh s f a in
      let has_g : has_side (ends mesh e) (face_at mesh g) ≡ true =
      ap (λ p. has_side p (face_at mesh g)) (h.its_ends ∙ sym m.same_edge) ∙ side_of_face mesh t g b in
      elim (one_of_two mesh surface e f h.is_edge has_f) [
        | inl p ↦ elim (one_of_two mesh surface e g h.is_edge has_g) [
          | inl q ↦ absurd (ne (p
              ∙ sym q))
          | inr q ↦ inl (sym p, sym q)
        ]
        | inr p ↦ elim (one_of_two mesh surface e g h.is_edge has_g) [
          | inl q ↦ inr (
            sym q,
            sym p,
          )
          | inr q ↦ absurd (ne (p ∙ sym q))
        ]
      ]

  -- the dual graph has the edge between the two faces
  pub mates_join : (s t f g e : ℕ) → IsMate mesh s t → IsFaceOf mesh s f → IsFaceOf mesh t g → IsEdgeOf mesh s e →
      joins (dual (cells_of mesh)) g f e ≡ true
  mates_join s t f g e m a b h = elim (mates_faces s t f g e m a b h) [
    | inl q ↦ both_ways (faces_of mesh e).0 (faces_of mesh e).1 f g q.0 q.1
    | inr q ↦ rw (eq-eqb (faces_of mesh e).0 g q.0, eq-eqb (faces_of mesh e).1 f q.1) refl
  ]
    where
      both_ways : (a b f g : ℕ) → a ≡ f → b ≡ g →
          joins (record { nodes = 0; edges = 0; from = λ e. a; to = λ e. b }) g f 0 ≡ true
      both_ways a b f g p q =
          or_right (Rattle.std.proofs.Common.◌&&◌ (eqb a g) (eqb b f))
          (Rattle.std.proofs.Common.◌&&◌ (eqb a f) (eqb b g)) (rw (eq-eqb a f p, eq-eqb b g q) refl)

  ways : (s t f g e : ℕ) → IsMate mesh s t → IsFaceOf mesh s f → IsFaceOf mesh t g → IsEdgeOf mesh s e →
      not (xor (runs (ends mesh e) (face_at mesh f)) (runs (ends mesh e) (face_at mesh g))) ≡ eqb
      (get_or (all_corners mesh) s 0) (get_or (all_corners mesh) t 0)
  ways s t f g e m a b h =
      let p = ends mesh e in
      let lt : p.0 < p.1 = ends_rise mesh surface.is_mesh e h.is_edge in
      let i = stands s f e a h in
      let j = stands t g e b (record { is_edge = h.is_edge; its_ends = h.its_ends ∙ sym m.same_edge }) in
      let face = face_at mesh f in
      let other = face_at mesh g in
      let first = runs_at mesh.vertices face (is_face f a.is_face) i.0 i.1.is_place p (sorted p lt
      ∙ i.1.its_pair) in
      let second = runs_at mesh.vertices other (is_face g b.is_face) j.0 j.1.is_place p (sorted p lt
      ∙ j.1.its_pair) in
      rw (
        first,
        second,
        i.1.its_tail,
        j.1.its_tail,
      ) (same_start p (corner face i.0) (corner face (after (length face) i.0)) (corner other j.0)
      (corner other (after (length other) j.0)) lt i.1.its_pair j.1.its_pair)

  -- an edge's faces run it the same way where its two sides begin at one vertex
  pub mates_ways : (s t f g e u v : ℕ) → IsMate mesh s t → IsFaceOf mesh s f → IsFaceOf mesh t g →
      IsEdgeOf mesh s e → BeginsAt mesh u s → BeginsAt mesh v t → same_way mesh e ≡ eqb u v
  mates_ways s t f g e u v m a b h x y =
      let w = ways s t f g e m a b h in
      let R : ℕ → Bool = λ k. runs (ends mesh e) (face_at mesh k) in
      let here : same_way mesh e ≡ not (xor (R f) (R g)) = elim (mates_faces s t f g e m a b h) [
        | inl q ↦ rw (q.0, q.1) refl
        | inr q ↦ rw (q.0, q.1) (ap not (xor_comm (R g) (R f)))
      ] in
      here ∙ w ∙ ap (λ n. eqb n (get_or (all_corners mesh) t 0)) x.1 ∙ ap (eqb u) y.1

  -- where both faces are marked, the side is crossed
  pub is_crossed : (s t f g : ℕ) (seen : List Bool) → IsMate mesh s t → IsFaceOf mesh s f → IsFaceOf mesh t g →
      marked seen f ≡ true → marked seen g ≡ true → IsCrossed mesh seen s
  is_crossed s t f g seen m a b p q e h = elim (mates_faces s t f g e m a b h) [
    | inl r ↦ (ap (marked seen) r.0 ∙ p, ap (marked seen) r.1 ∙ q)
    | inr r ↦ (ap (marked seen) r.0 ∙ q, ap (marked seen) r.1 ∙ p)
  ]

  -- marks whose faces are crossed at each side pass over each shared edge
  pub crossed_closed : (seen : List Bool) (f g : ℕ) → ((s : ℕ) → IsFaceOf mesh s f → IsCrossed mesh seen s) →
      Share mesh f g → marked seen g ≡ true
  crossed_closed seen f g crossed share =
      let p = share.0 in
      let r = face_has_side mesh f p share.1.0 share.1.1 in
      let at = place_of-among (pair_at mesh r.0) (edges mesh) (0, 0) (pair_at-edge mesh r.0 r.1.is_side) in
      let e = place_of (pair_at mesh r.0) (edges mesh) in
      let c = crossed r.0 r.1.its_face e (record { is_edge = at.0; its_ends = at.1 }) in
      elim (one_of_two mesh surface e g at.0 (ap (λ q. has_side q (face_at mesh g)) (at.1 ∙ r.1.its_pair)
      ∙ share.2.1)) [
        | inl q ↦ ap (marked seen) q ∙ c.0
        | inr q ↦ ap (marked seen) q ∙ c.1
      ]
