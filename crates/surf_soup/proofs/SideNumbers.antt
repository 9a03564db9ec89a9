-- Sides by their numbers, and by their faces and places.
use Rattle.surf_surfaces.proofs.Common.{◌≡◌, ◌≢◌, ℕ, ◌+◌, ◌-◌, ◌<◌, ◌≤◌, ◌⊎◌, true, List, [], length, get_or, take, refl, sym, ap, ◌∙◌, arith, inl, inr, flat_map, sum_by, cases_order, Mesh, pair_of, sides, face_count, face_at, has_side, Share, length-flat_map, get_or-flat_map, sum_by-take-le, side_pair, side_count, pair_at, sides_with, first_side, IsFaceOf, IsMate}
use Rattle.std.proofs.lemmas.List.{get_or-map, take-take, length-map}
use Rattle.surf_surfaces.proofs.meshes.CountLaws.{length-sides}
use Rattle.surf_surfaces.proofs.meshes.SideLaws.{sides_are_by_place, sides_are_placed}
use Rattle.surf_soup.specs.Half.{AreAllMates}
use Rattle.surf_soup.proofs.EdgeTables.{sizes, length-side_pairs}
use Rattle.surf_soup.proofs.HalfLaws.{spans}
use Rattle.surf_soup.proofs.Mates.{with_all}

-- the side that begins at a place of a face
pub pair_at_place : (mesh : Mesh) (f k : ℕ) → f < face_count mesh → k < length (face_at mesh f) →
    pair_at mesh (first_side mesh f + k) ≡ side_pair (face_at mesh f) k
pair_at_place mesh f k lt in' =
    let face = face_at mesh f in
    let before : length (flat_map sides (take f mesh.faces)) ≡ first_side mesh f =
    length-flat_map sides (take f mesh.faces) ∙ sizes (take f mesh.faces) in
    let n = length-side_pairs mesh in
    let m = length-map (flat_map sides mesh.faces) pair_of in
    let s = spans mesh.faces f lt in
    let here = get_or-flat_map sides mesh.faces f k [] (0, 0) lt (omega (arith, length-sides face)) in
    get_or-map pair_of (flat_map sides mesh.faces) (first_side mesh f + k) (0, 0) (0, 0) (omega (arith, s.0, s.1))
    ∙ ap (λ b. pair_of (get_or (flat_map sides mesh.faces) (b + k) (0, 0))) (sym before)
    ∙ ap pair_of here
    ∙ ap pair_of (sides_are_by_place face k in')

-- a face has the pairs of its sides, and no others
pub side_of_face : (mesh : Mesh) (s f : ℕ) → IsFaceOf mesh s f → has_side (pair_at mesh s) (face_at mesh f) ≡ true
side_of_face mesh s f h =
    let k = s - first_side mesh f in
    let sum : first_side mesh f + k ≡ s = omega (arith, h.from) in
    let lt : k < length (face_at mesh f) = omega (arith, h.from, h.upto) in
    (sides_are_placed (face_at mesh f) (pair_at mesh s)).1 (
      k,
      lt,
      sym (pair_at_place mesh f k h.is_face lt)
          ∙ ap (pair_at mesh) sum,
    )

pub record IsSideOf (mesh : Mesh) (f : ℕ) (p : ℕ × ℕ) (s : ℕ) : Type 0 where
  pub is_side : s < side_count mesh
  pub its_face : IsFaceOf mesh s f
  pub its_pair : pair_at mesh s ≡ p

pub face_has_side : (mesh : Mesh) (f : ℕ) (p : ℕ × ℕ) → f < face_count mesh → has_side p (face_at mesh f) ≡ true →
    (s : ℕ) × IsSideOf mesh f p s
face_has_side mesh f p lt has =
    let r = (sides_are_placed (face_at mesh f) p).0 has in
    let sp = spans mesh.faces f lt in (
      first_side mesh f + r.0,
      record {
        is_side = omega (arith, sp.0, sp.1, r.1);
        its_face = record { is_face = lt; from = omega arith; upto = omega (arith, r.1) };
        its_pair = pair_at_place mesh f r.0 lt r.1 ∙ r.2;
      },
    )

pub first_mono : (mesh : Mesh) (f g : ℕ) → f ≤ g → first_side mesh f ≤ first_side mesh g
first_mono mesh f g le =
    omega (
      arith,
      sum_by-take-le {X = List ℕ} length (take g mesh.faces) f,
      ap (sum_by length) (take-take f g mesh.faces le),
    )

-- a side is of one face
pub one_face : (mesh : Mesh) (s f g : ℕ) → IsFaceOf mesh s f → IsFaceOf mesh s g → f ≡ g
one_face mesh s f g a b = elim (cases_order f g) [
  | inl e ↦ e
  | inr o ↦ elim o [
    | inl lt ↦ absurd (omega (
      arith,
      a.upto,
      b.from,
      (spans mesh.faces f a.is_face).0,
      first_mono mesh (f + 1) g (omega arith),
    ))
    | inr gt ↦ absurd (omega (
      arith,
      b.upto,
      a.from,
      (spans mesh.faces g b.is_face).0,
      first_mono mesh (g + 1) f (omega arith),
    ))
  ]
]

-- the faces of a side and of its mate share an edge
pub across_shares : (mesh : Mesh) (s t f g : ℕ) → IsFaceOf mesh s f → IsMate mesh s t → IsFaceOf mesh t g →
    Share mesh f g
across_shares mesh s t f g a m b = (
  pair_at mesh s,
  (a.is_face, side_of_face mesh s f a),
  (b.is_face, ap (λ p. has_side p (face_at mesh g)) (sym m.same_edge) ∙ side_of_face mesh t g b),
)

-- of three sides that are one of two each, two are the same
third : (s t m x y : ℕ) → s ≢ t → m ≢ s → (s ≡ x) ⊎ (s ≡ y) → (t ≡ x) ⊎ (t ≡ y) → (m ≡ x) ⊎ (m ≡ y) → m ≡ t
third s t m x y a b p q r = elim p [
  | inl e ↦ elim q [
    | inl f ↦ absurd (a (e ∙ sym f))
    | inr f ↦ elim r [
      | inl g ↦ absurd (b (g ∙ sym e))
      | inr g ↦ g
          ∙ sym f
    ]
  ]
  | inr e ↦ elim q [
    | inl f ↦ elim r [
      | inl g ↦ g
          ∙ sym f
      | inr g ↦ absurd (b (g ∙ sym e))
    ]
    | inr f ↦ absurd (a (e ∙ sym f))
  ]
]

module _ (mesh : Mesh) (two : (s : ℕ) → s < side_count mesh → length (sides_with mesh (pair_at mesh s)) ≡ 2) where
  -- of three sides of one edge two are the same
  pub of_edge : (s t m : ℕ) → s < side_count mesh → t < side_count mesh → m < side_count mesh →
      pair_at mesh t ≡ pair_at mesh s → pair_at mesh m ≡ pair_at mesh s → s ≢ t → m ≢ s → m ≡ t
  of_edge s t m a b c e f differ other =
      let both = sides_with mesh (pair_at mesh s) in
      let at : (u : ℕ) → u < side_count mesh → pair_at mesh u ≡ pair_at mesh s → (u ≡ get_or both 0 0)
      ⊎ (u ≡ get_or both 1 0) = λ u lt q. let w = with_all mesh u lt (two u lt) in rw q at w in
      third s t m (get_or both 0 0) (get_or both 1 0) differ other (at s a refl) (at t b e) (at m c f)

  module _ (mate : List ℕ) (mates : AreAllMates mesh mate) where
    -- a side is its mate's mate
    pub mate_back : (s : ℕ) → s < side_count mesh → get_or mate (get_or mate s 0) 0 ≡ s
    mate_back s lt =
        let m = get_or mate s 0 in
        let is = mates.mates s lt in
        let back = mates.mates m is.is_side in
        of_edge m s (get_or mate m 0) is.is_side lt back.is_side (sym is.same_edge) back.same_edge is.other back.other

    -- of two faces that share an edge one has a side whose mate is the other's
    pub shares_across : (f g : ℕ) → f ≢ g → Share mesh f g → (s : ℕ) × (s < side_count mesh) × IsFaceOf mesh s f
        × IsFaceOf mesh (get_or mate s 0) g
    shares_across f g differ h =
        let p = h.0 in
        let a = face_has_side mesh f p h.1.0 h.1.1 in
        let b = face_has_side mesh g p h.2.0 h.2.1 in
        let s = a.0 in
        let t = b.0 in
        let m = get_or mate s 0 in
        let is = mates.mates s a.1.is_side in
        let apart : s ≢ t = λ same. differ (one_face mesh s f g a.1.its_face (rw (sym same) at b.1.its_face)) in
        let mt : m ≡ t = of_edge s t m a.1.is_side b.1.is_side is.is_side (b.1.its_pair
        ∙ sym a.1.its_pair) is.same_edge apart is.other in
        (s, a.1.is_side, a.1.its_face, rw mt b.1.its_face)
