-- Darts of a mesh: their faces, edges and vertices.
use Rattle.surf_surfaces.proofs.Common.{◌≡◌, ◌≢◌, ℕ, ◌+◌, ◌-◌, ◌<◌, ◌≤◌, ◌⊎◌, Bool, true, false, List, [], length, get_or, refl, sym, ap, subst, ◌∙◌, arith, inl, inr, true≢false, cases_eq, cases_lt, ne_eqb, Mesh, IsMesh, pair, edges, after, before, corner, face_count, face_at, edge_count, ends, touches, has_side, HasEdge, ShareAt, place_of, side_count, pair_at, owners, first_side, IsFaceOf}
use Rattle.surf_surfaces.proofs.meshes.EdgeLaws.{place_of-ends}
use Rattle.surf_surfaces.proofs.meshes.FaceLaws.{pair_comm, touches-pair_of}
use Rattle.surf_surfaces.proofs.meshes.SideLaws.{pair_ends, after-below, before-below, after-before, before-after}
use Rattle.surf_surfaces.proofs.meshes.SideLaws.{corner_place}
use Rattle.surf_soup.specs.Half.{AreAllMates}
use Rattle.surf_soup.specs.Pairs.{HasTwoFaces}
use Rattle.surf_soup.specs.Vertices.{all_corners, sides_at}
use Rattle.surf_soup.specs.Reach.{marked}
use Rattle.surf_soup.specs.Ring.{dart_corner, cross_of, turn_of, AreTurned, BeginsAt}
use Rattle.surf_soup.proofs.HalfLaws.{face_of_side}
use Rattle.surf_soup.proofs.SideNumbers.{pair_at_place, side_of_face, face_has_side, one_face, mate_back}
use Rattle.surf_soup.proofs.VertexLaws.{corners_len, IsPlaced, placed}
use Rattle.surf_soup.proofs.ApartLaws.{two_sides}
use Rattle.surf_soup.proofs.RoundSteps.{cross_in, flip_corner, AreDarts}
use Rattle.surf_soup.proofs.CornerSides.{face_placed, placed_face, placed_side, tail_at, same_place, at_begins}
use Rattle.surf_soup.proofs.TurnedSides.{turned_size}

pub touched : (v a b : ℕ) → touches v (pair a b) ≡ true → (a ≡ v) ⊎ (b ≡ v)
touched v a b t = elim (cases_eq a v) [
  | inl e ↦ inl e
  | inr na ↦ elim (cases_eq b v) [
    | inl e ↦ inr e
    | inr nb ↦ let none : touches v (a, b) ≡ false = rw (ne_eqb a v na, ne_eqb b v nb) refl in
        absurd (true≢false (sym t ∙ touches-pair_of v (a, b) ∙ none))
  ]
]

-- an edge is known by its ends
pub one_edge : (mesh : Mesh) (d e : ℕ) → d < edge_count mesh → e < edge_count mesh → ends mesh d ≡ ends mesh e → d ≡ e
one_edge mesh d e a b q = sym (place_of-ends mesh d a) ∙ ap (λ p. place_of p (edges mesh)) q ∙ place_of-ends mesh e b

module _ (mesh : Mesh) (is_mesh : IsMesh mesh) (two : HasTwoFaces mesh) (mate : List ℕ) (mates : AreAllMates mesh mate)
    (next prev : List ℕ) (nexts : AreTurned after mesh (face_count mesh) next)
    (prevs : AreTurned before mesh (face_count mesh) prev) where
  abbrev tail : ℕ → ℕ
  tail s = get_or (all_corners mesh) s 0

  pub next_place : (s f k : ℕ) → IsPlaced mesh s f k →
      IsPlaced mesh (get_or next s 0) f (after (length (face_at mesh f)) k)
  next_place s f k p =
      record {
        is_face = p.is_face;
        is_place = after-below (length (face_at mesh f)) k p.is_place;
        number =
            ap (λ t. get_or next t 0) p.number ∙ nexts.at f k p.is_face p.is_place;
      }

  pub prev_place : (s f k : ℕ) → IsPlaced mesh s f k →
      IsPlaced mesh (get_or prev s 0) f (before (length (face_at mesh f)) k)
  prev_place s f k p =
      record {
        is_face = p.is_face;
        is_place = before-below (length (face_at mesh f)) k p.is_place;
        number =
            ap (λ t. get_or prev t 0) p.number ∙ prevs.at f k p.is_face p.is_place;
      }

  pub pair_tails : (s : ℕ) → s < side_count mesh → pair_at mesh s ≡ pair (tail s) (tail (get_or next s 0))
  pair_tails s lt =
      let r = placed mesh s lt in
      let f = r.0 in
      let k = r.1.0 in
      let p = r.1.1 in
      let n = length (face_at mesh f) in
      ap (pair_at mesh) p.number ∙ pair_at_place mesh f k p.is_face p.is_place
      ∙ ap (λ x. pair x (corner (face_at mesh f) (after n k))) (sym (tail_at mesh s f k p))
      ∙ ap (pair (tail s)) (sym (tail_at mesh (get_or next s 0) f (after n k) (next_place s f k p)))

  pub are_darts : AreDarts next prev mate (all_corners mesh)
  are_darts =
      let n = turned_size after mesh next nexts in
      record {
        prev_size = turned_size before mesh prev prevs ∙ sym n;
        mate_size = mates.size ∙ sym n;
        tails_size = corners_len mesh ∙ sym n;
        next_in = λ s lt. let r = placed mesh s (omega arith) in
            omega (
              arith,
              placed_side mesh (get_or next s 0) r.0 (after (length (face_at mesh r.0)) r.1.0)
                  (next_place s r.0 r.1.0 r.1.1),
            );
        prev_in = λ s lt. let r = placed mesh s (omega arith) in
            omega (
              arith,
              placed_side mesh (get_or prev s 0) r.0 (before (length (face_at mesh r.0)) r.1.0)
                  (prev_place s r.0 r.1.0 r.1.1),
            );
        next_prev = λ s lt. let r = placed mesh s (omega arith) in
            let m = length (face_at mesh r.0) in
            let b = before m r.1.0 in
            same_place mesh (get_or next (get_or prev s 0) 0) s r.0 (after m b) r.1.0
            (next_place (get_or prev s 0) r.0 b (prev_place s r.0 r.1.0 r.1.1)) r.1.1
            (after-before m r.1.0 r.1.1.is_place);
        prev_next = λ s lt. let r = placed mesh s (omega arith) in
            let m = length (face_at mesh r.0) in
            let b = after m r.1.0 in
            same_place mesh (get_or prev (get_or next s 0) 0) s r.0 (before m b) r.1.0
            (prev_place (get_or next s 0) r.0 b (next_place s r.0 r.1.0 r.1.1)) r.1.1
            (before-after m r.1.0 r.1.1.is_place);
        mate_in = λ s lt. let is = mates.mates s (omega arith) in omega (arith, is.is_side);
        mate_twice = λ s lt. mate_back mesh (two_sides mesh is_mesh two) mate mates s (omega arith);
        mate_other = λ s lt. (mates.mates s (omega arith)).other;
        ends_differ = λ s lt e.
            let r = placed mesh s (omega arith) in
            let f = r.0 in
            let k = r.1.0 in
            let p = r.1.1 in
            let m = length (face_at mesh f) in
            let face = is_mesh f [] p.is_face in
            let q = next_place s f k p in
            after_moves m k face.large p.is_place
            (corner_place mesh.vertices (face_at mesh f) face (after m k) k q.is_place p.is_place
            (sym (tail_at mesh (get_or next s 0) f (after m k) q) ∙ e ∙ tail_at mesh s f k p));
        ends_same = λ s lt.
            let is = mates.mates s (omega arith) in
            let m = get_or mate s 0 in
            pair_ends (tail m) (tail (get_or next m 0)) (tail s) (tail (get_or next s 0)) (sym (pair_tails m is.is_side)
            ∙ is.same_edge ∙ pair_tails s (omega arith));
      }
    where
      after_moves : (m k : ℕ) → 3 ≤ m → k < m → after m k ≢ k
      after_moves m k l lt e = elim (cases_lt (k + 1) m) [
        | inl a ↦ let f = rw (Rattle.std.proofs.lemmas.Bool.lt-ltb (k + 1) m a) at e in omega arith
        | inr a ↦ let f = rw (Rattle.std.proofs.lemmas.Bool.le-ltb (k + 1) m a) at e in omega arith
      ]

  abbrev step : ℕ × Bool → ℕ × Bool
  step d = turn_of next prev mate (all_corners mesh) d

  abbrev across : ℕ × Bool → ℕ × Bool
  across d = cross_of mate (all_corners mesh) d

  abbrev vertex : ℕ × Bool → ℕ
  vertex d = tail (dart_corner next d)

  -- a dart's side and its corner are of one face
  pub dart_face : (d : ℕ × Bool) (f : ℕ) → IsFaceOf mesh d.0 f → IsFaceOf mesh (dart_corner next d) f
  dart_face (s, true) f h = let k = s - first_side mesh f in
      placed_face mesh (get_or next s 0) f (after (length (face_at mesh f)) k)
      (next_place s f k (face_placed mesh s f h))
  dart_face (s, false) f h = h

  -- its edge is at its vertex
  pub dart_edge : (d : ℕ × Bool) (v : ℕ) → d.0 < side_count mesh → vertex d ≡ v →
      (w : ℕ) × (pair_at mesh d.0 ≡ pair v w)
  dart_edge (s, true) v lt e =
      (tail s, pair_tails s lt ∙ pair_comm (tail s) (tail (get_or next s 0)) ∙ ap (λ x. pair x (tail s)) e)
  dart_edge (s, false) v lt e = (tail (get_or next s 0), pair_tails s lt ∙ ap (λ x. pair x (tail (get_or next s 0))) e)

  pub has_edge : (d : ℕ × Bool) (f : ℕ) → d.0 < side_count mesh → IsFaceOf mesh (dart_corner next d) f →
      HasEdge mesh f (pair_at mesh d.0)
  has_edge d f lt h =
      let own = face_of_side mesh (owners 0 mesh.faces) d.0 0 refl lt in
      let g = get_or (owners 0 mesh.faces) d.0 0 in
      let same = one_face mesh (dart_corner next d) g f (dart_face d g own) h in
      (h.is_face, ap (λ x. has_side (pair_at mesh d.0) (face_at mesh x)) (sym same) ∙ side_of_face mesh d.0 g own)

  -- the faces of a dart and of the next one share an edge at the vertex
  pub turn_shares : (d : ℕ × Bool) (v f g : ℕ) → d.0 < side_count mesh → vertex d ≡ v →
      IsFaceOf mesh (dart_corner next d) f → IsFaceOf mesh (dart_corner next (step d)) g → ShareAt mesh v f g
  turn_shares d v f g lt at p q =
      let n = turned_size after mesh next nexts in
      let in' : d.0 < length next = omega arith in
      let is = mates.mates d.0 lt in
      let e = dart_edge d v lt at in
      let c = flip_corner next prev mate (all_corners mesh) are_darts (across d)
      (cross_in next prev mate (all_corners mesh) are_darts d in') in
      let P : ℕ → Type 0 = λ x. IsFaceOf mesh x g in
      let F : ℕ × ℕ → Type 0 = λ x. HasEdge mesh f x in
      let G : ℕ × ℕ → Type 0 = λ x. HasEdge mesh g x in (
        e.0,
        subst F e.1 (has_edge d f lt p),
        subst G (is.same_edge ∙ e.1) (has_edge (across d) g is.is_side (subst P c q)),
      )

  -- the dart of a face's edge at a vertex
  pub record IsDartOf (v f : ℕ) (p : ℕ × ℕ) (d : ℕ × Bool) : Type 0 where
    pub is_side : d.0 < side_count mesh
    pub its_vertex : vertex d ≡ v
    pub its_face : IsFaceOf mesh d.0 f
    pub its_pair : pair_at mesh d.0 ≡ p

  pub dart_of : (v w f : ℕ) → HasEdge mesh f (pair v w) → (d : ℕ × Bool) × IsDartOf v f (pair v w) d
  dart_of v w f h =
      let r = face_has_side mesh f (pair v w) h.0 h.1 in
      let s = r.0 in
      elim (pair_ends (tail s) (tail (get_or next s 0)) v w (sym (pair_tails s r.1.is_side) ∙ r.1.its_pair)) [
        | inl e ↦ (
          (s, false),
          record { is_side = r.1.is_side; its_vertex = e.0; its_face = r.1.its_face; its_pair = r.1.its_pair },
        )
        | inr e ↦ (
          (s, true),
          record { is_side = r.1.is_side; its_vertex = e.1; its_face = r.1.its_face; its_pair = r.1.its_pair },
        )
      ]

  module _ (v : ℕ) (some : 0 < length (sides_at mesh v)) (from : ℕ)
      (from_is : from ≡ get_or prev (get_or (sides_at mesh v) 0 0) 0) where
    pub begin_corner : get_or next from 0 ≡ get_or (sides_at mesh v) 0 0
    begin_corner = let b = at_begins mesh v 0 some in let z = turned_size after mesh next nexts in
        let lt : get_or (sides_at mesh v) 0 0 < length next = omega (arith, b.0) in ap (λ s. get_or next s 0) from_is
        ∙ are_darts.next_prev (get_or (sides_at mesh v) 0 0) lt

    pub begin_in : from < length next
    begin_in = let b = at_begins mesh v 0 some in let z = turned_size after mesh next nexts in
        let lt : get_or (sides_at mesh v) 0 0 < length next = omega (arith, b.0) in let i =
        are_darts.prev_in (get_or (sides_at mesh v) 0 0) lt in omega (arith, from_is)

    pub begin_vertex : tail (get_or next from 0) ≡ v
    begin_vertex = ap tail begin_corner ∙ (at_begins mesh v 0 some).1

    pub begin_fresh : (seen : List Bool) → ((s : ℕ) → BeginsAt mesh v s → marked seen s ≡ false) → (s : ℕ) →
        s < length next → tail s ≡ tail (get_or next from 0) → marked seen s ≡ false
    begin_fresh seen fresh s lt e = let z = turned_size after mesh next nexts in fresh s (omega arith, e ∙ begin_vertex)
