-- In a turned surface the sides that leave a vertex follow one another; so vertices, edges and faces are even in all.
use Rattle.surf_surfaces.proofs.Common.{◌≡◌, ℕ, ◌+◌, ◌-◌, ◌*◌, ◌<◌, ◌≤◌, Bool, true, false, cond, not, eqb, List, length, refl, sym, ◌∙◌, ap, arith, inl, inr, subst, cases_Bool, cases_lt, lt-ltb, le-ltb, eq-eqb, eqb-true, or_cases, get_or_default, Mesh, pair, pair_of, pair_eq, IsFace, after, before, corner, least_below, IsTurn, and_comm, least_below-found, face_count, edge_count, face_at, ends, faces_of, touches, runs_turned, HasCorner, IsSurface, IsOrientation}
use Rattle.surf_graphs.proofs.Signs.{turn_after}
use Rattle.surf_surfaces.proofs.meshes.FaceLaws.{pair_comm, touches-pair_of}
use Rattle.surf_surfaces.proofs.meshes.SideLaws.{corner_place, pair_ends, after-below, before-below, after-before, before-after}
use Rattle.surf_surfaces.proofs.meshes.FanLaws.{fans_are_whole}
use Rattle.surf_surfaces.proofs.meshes.OrientationLaws.{not_turn}
use Rattle.surf_orientation.specs.Names.{NamesRounds}
use Rattle.surf_orientation.proofs.NameLaws.{named_rounds_are_even}
use Rattle.surf_orientation.proofs.SideNumbers.{ends_rise, side_count, edge_of, mate, face_of, place, side_at, edge_in, face_in, is_face, place_is, side_at_is, side_is_at, mate_turn, mate_edge, mates_named}
use Rattle.surf_orientation.proofs.Turned.{next, prev, start, finish, start_at, runs_at, not_not_same, ends_are, next_face, start_next, next_turn, faces_named}

-- a side's face, turned, runs its edge from the side's start to its end
pub runs_side : (mesh : Mesh) → IsSurface mesh → (turned : ℕ → Bool) (d : ℕ) → d < side_count mesh →
    runs_turned turned mesh (face_of mesh d) (ends mesh (edge_of mesh d)) ≡ pair_eq (ends mesh (edge_of mesh d))
    (start mesh turned d, finish mesh turned d)
runs_side mesh surface turned d l =
    let face = face_at mesh (face_of mesh d) in
    let k = place mesh d in
    let p = ends mesh (edge_of mesh d) in
    let at = place_is mesh surface d l in
    let rises : p.0 < p.1 = ends_rise mesh surface.is_mesh (edge_of mesh d) (edge_in mesh surface d l) in
    let as_is : pair_of p ≡ p = rw (lt-ltb p.0 p.1 rises) in
    elim (cases_Bool (turned (face_of mesh d))) [
      | inl e ↦ rw e (runs_at mesh.vertices face (is_face mesh surface d l) k at.0 (p.1, p.0)
          (pair_comm p.1 p.0 ∙ as_is ∙ sym at.1) ∙ and_comm (eqb p.1 (corner face k))
          (eqb p.0 (corner face (after (length face) k))))
      | inr e ↦ rw e (runs_at mesh.vertices face (is_face mesh surface d l) k at.0 p (as_is ∙ sym at.1))
    ]

-- the side around a vertex: of the mate, the next one
abbrev pub ring : Mesh → (ℕ → Bool) → ℕ → ℕ
ring mesh turned d = next mesh turned (mate mesh d)

-- where v is a corner of the face
abbrev corner_at : List ℕ → ℕ → ℕ
corner_at face v = least_below (length face) (λ k. eqb (corner face k) v)

-- the place of the side that starts at a corner
abbrev leaving : Bool → ℕ → ℕ → ℕ
leaving back n i = cond back (before n i) i

-- the side of a face that starts at v
abbrev out_of : Mesh → (ℕ → Bool) → ℕ → ℕ → ℕ
out_of mesh turned v f = side_at mesh f (leaving (turned f) (length (face_at mesh f)) (corner_at (face_at mesh f) v))

module _ (mesh : Mesh) (surface : IsSurface mesh) (turned : ℕ → Bool) (turning : IsOrientation mesh turned) where
  -- the faces of mates run their edge in opposite ways
  opposed : (d : ℕ) → d < side_count mesh →
      runs_turned turned mesh (face_of mesh d) (ends mesh (edge_of mesh d))
      ≡ not (runs_turned turned mesh (face_of mesh (mate mesh d)) (ends mesh (edge_of mesh d)))
  opposed d l =
      let E = edge_count mesh in
      elim (cases_lt d E) [
        | inl lt ↦
            let high : E ≤ d + E = omega arith in
            let less : d + E - E ≡ d = omega arith in
            rw (lt-ltb d E lt, le-ltb (d + E) E high, less) (turning d lt)
        | inr ge ↦
            let e = d - E in
            let low : e < E = omega arith in
            rw (le-ltb d E ge, lt-ltb e E low)
            (not_turn (runs_turned turned mesh (faces_of mesh e).0 (ends mesh e))
            (runs_turned turned mesh (faces_of mesh e).1 (ends mesh e)) (turning e low))
      ]

  -- mates run from end to start
  pub starts_meet : (d : ℕ) → d < side_count mesh → start mesh turned (mate mesh d) ≡ finish mesh turned d
  starts_meet d l =
      let m = mate mesh d in
      let lm : m < side_count mesh = (mate_turn mesh surface).turn_in d l in
      let p = ends mesh (edge_of mesh d) in
      let same_edge : edge_of mesh m ≡ edge_of mesh d = mate_edge mesh surface d l in
      let mine : pair (start mesh turned d) (finish mesh turned d) ≡ p = ends_are mesh surface turned d l in
      let other : pair (start mesh turned m) (finish mesh turned m) ≡ p =
      ends_are mesh surface turned m lm ∙ ap (ends mesh) same_edge in
      let runs_m : runs_turned turned mesh (face_of mesh m) p ≡ pair_eq p (start mesh turned m, finish mesh turned m) =
      subst (λ e. runs_turned turned mesh (face_of mesh m) (ends mesh e)
      ≡ pair_eq (ends mesh e) (start mesh turned m, finish mesh turned m)) same_edge
      (runs_side mesh surface turned m lm) in
      let differ : pair_eq p (start mesh turned d, finish mesh turned d)
      ≡ not (pair_eq p (start mesh turned m, finish mesh turned m)) =
      sym (runs_side mesh surface turned d l) ∙ opposed d l ∙ ap not runs_m in
      elim (pair_ends (start mesh turned d) (finish mesh turned d) (start mesh turned m) (finish mesh turned m)
      (mine ∙ sym other)) [
        | inl q ↦
            let same : (start mesh turned d, finish mesh turned d) ≡ (start mesh turned m, finish mesh turned m) =
            λ i. (q.0 i, q.1 i) in
            absurd (not_not_same (pair_eq p (start mesh turned m, finish mesh turned m))
            (sym (ap (pair_eq p) same) ∙ differ))
        | inr q ↦ sym q.1
      ]

  pub ring_turn : IsTurn (side_count mesh) (ring mesh turned) (λ i. mate mesh (prev mesh turned i))
  ring_turn = turn_after (side_count mesh) (next mesh turned) (prev mesh turned) (mate mesh) (mate mesh)
      (next_turn mesh surface turned) (mate_turn mesh surface)

  start_kept : (d : ℕ) → d < side_count mesh → start mesh turned (ring mesh turned d) ≡ start mesh turned d
  start_kept d l =
      let m = mate mesh d in
      let lm : m < side_count mesh = (mate_turn mesh surface).turn_in d l in
      start_next mesh surface turned m lm ∙ sym (starts_meet m lm) ∙ ap (start mesh turned)
      ((mate_turn mesh surface).back_turn d l)

  place_back : (b : Bool) (face : List ℕ) (k i : ℕ) → IsFace mesh.vertices face → k < length face → i < length face →
      corner face i ≡ start_at b face k → leaving b (length face) i ≡ k
  place_back true face k i h lk li e =
      let here : i ≡ after (length face) k =
      corner_place mesh.vertices face h i (after (length face) k) li (after-below (length face) k lk) e in
      ap (before (length face)) here ∙ before-after (length face) k lk
  place_back false face k i h lk li e = corner_place mesh.vertices face h i k li lk e

  start_place : (b : Bool) (face : List ℕ) (k : ℕ) → k < length face →
      (i : ℕ) × (i < length face) × (corner face i ≡ start_at b face k)
  start_place true face k l = (after (length face) k, after-below (length face) k l, refl)
  start_place false face k l = (k, l, refl)

  -- a side is the one of its face that starts where it does
  out_is : (d v : ℕ) → d < side_count mesh → start mesh turned d ≡ v → out_of mesh turned v (face_of mesh d) ≡ d
  out_is d v l e =
      let f = face_of mesh d in
      let face = face_at mesh f in
      let at = place_is mesh surface d l in
      let (i, li, is) = start_place (turned f) face (place mesh d) at.0 in
      let found = least_below-found (length face) (λ k. eqb (corner face k) v) i li (eq-eqb (corner face i) v (is ∙ e))
      in
      let corner_is : corner face (corner_at face v) ≡ start mesh turned d =
      eqb-true (corner face (corner_at face v)) v found.1 ∙ sym e in
      ap (side_at mesh f) (place_back (turned f) face (place mesh d) (corner_at face v)
      (is_face mesh surface d l) at.0 found.0 corner_is)
      ∙ side_is_at mesh surface d l

  has_corner : (d : ℕ) → d < side_count mesh → HasCorner mesh (face_of mesh d) (start mesh turned d)
  has_corner d l =
      let f = face_of mesh d in
      let face = face_at mesh f in
      let (i, li, is) = start_place (turned f) face (place mesh d) (place_is mesh surface d l).0 in
      (face_in mesh surface d l, (i, li, get_or_default face i (start mesh turned d) 0 li ∙ is))

  -- the rounds of the sides that leave a vertex are the vertices
  pub vertices_named : NamesRounds (side_count mesh) (ring mesh turned) mesh.vertices (start mesh turned)
  vertices_named = record { name_in = inside; some = some; kept = start_kept; joined = joined }
    where
      inside : (d : ℕ) → d < side_count mesh → start mesh turned d < mesh.vertices
      inside d l =
          let face = face_at mesh (face_of mesh d) in
          let h = is_face mesh surface d l in
          let (i, li, is) = start_place (turned (face_of mesh d)) face (place mesh d) (place_is mesh surface d l).0 in
          let low : corner face i < mesh.vertices = h.inside i 0 li in
          rw is at low

      some : (v : ℕ) → v < mesh.vertices → (d : ℕ) × (d < side_count mesh) × (start mesh turned d ≡ v)
      some v l =
          let (f, has) = surface.no_isolated v l in
          let face = face_at mesh f in
          let b = turned f in
          let i = has.1.0 in
          let is : corner face i ≡ v = get_or_default face i 0 v has.1.1 ∙ has.1.2 in
          let k = leaving b (length face) i in
          let lk : k < length face = inside_leaving b (length face) i has.1.1 in
          let at = side_at_is mesh surface f k has.0 lk in (
            side_at mesh f k,
            at.inside,
            ap (λ g. start_at (turned g) (face_at mesh g) (place mesh (side_at mesh f k))) at.has_face ∙ ap
                (start_at b face) at.has_place ∙ start_leaving b face i has.1.1 ∙ is,
          )
        where
          inside_leaving : (b : Bool) (n i : ℕ) → i < n → leaving b n i < n
          inside_leaving true n i l = before-below n i l
          inside_leaving false n i l = l

          start_leaving : (b : Bool) (face : List ℕ) (i : ℕ) → i < length face →
              start_at b face (leaving b (length face) i) ≡ corner face i
          start_leaving true face i l = ap (corner face) (after-before (length face) i l)
          start_leaving false face i l = refl

      joined : (set : ℕ → Bool) → ((i : ℕ) → i < side_count mesh → set (ring mesh turned i) ≡ set i) → (i j : ℕ) →
          i < side_count mesh → j < side_count mesh → start mesh turned i ≡ start mesh turned j → set i ≡ set j
      joined set closed i j li lj same =
          let v = start mesh turned i in
          let faces : ℕ → Bool = λ f. set (out_of mesh turned v f) in
          let across : (d : ℕ) → d < side_count mesh → start mesh turned d ≡ v →
          faces (face_of mesh d) ≡ faces (face_of mesh (mate mesh d)) = λ d l e.
          let r = ring mesh turned d in
          let lr : r < side_count mesh = ring_turn.turn_in d l in
          let lm : mate mesh d < side_count mesh = (mate_turn mesh surface).turn_in d l in
          ap set (out_is d v l e) ∙ sym (closed d l) ∙ sym (ap set (out_is r v lr (start_kept d l ∙ e))) ∙ ap faces
          (next_face mesh surface turned (mate mesh d) lm) in
          let E = edge_count mesh in
          let parts : (e : ℕ) → e < E → touches v (ends mesh e) ≡ true →
          faces (faces_of mesh e).0 ≡ faces (faces_of mesh e).1 = λ e l t.
          let low : e < side_count mesh = omega arith in
          let lm : mate mesh e < side_count mesh = (mate_turn mesh surface).turn_in e low in
          let high : E ≤ e + E = omega arith in
          let less : e + E - E ≡ e = omega arith in
          let edge_is : edge_of mesh e ≡ e = rw (lt-ltb e E l) in
          let first : face_of mesh e ≡ (faces_of mesh e).0 = rw (lt-ltb e E l) in
          let second : face_of mesh (mate mesh e) ≡ (faces_of mesh e).1 =
          rw (lt-ltb e E l, le-ltb (e + E) E high, less) in
          let both : pair (start mesh turned e) (finish mesh turned e) ≡ ends mesh e =
          ends_are mesh surface turned e low ∙ ap (ends mesh) edge_is in
          elim (or_cases (eqb (start mesh turned e) v) (eqb (finish mesh turned e) v)
          (sym (touches-pair_of v (start mesh turned e, finish mesh turned e)) ∙ ap (touches v) both ∙ t)) [
            | inl q ↦ sym (ap faces first) ∙ across e low (eqb-true (start mesh turned e) v q) ∙ ap faces second
            | inr q ↦
                let back = across (mate mesh e) lm (starts_meet e low ∙ eqb-true (finish mesh turned e) v q) in
                sym (ap faces first) ∙ sym (ap (λ d. faces (face_of mesh d)) ((mate_turn mesh surface).back_turn e low))
                ∙ sym back ∙ ap faces second
          ] in
          let corner_j : HasCorner mesh (face_of mesh j) v =
          subst (HasCorner mesh (face_of mesh j)) (sym same) (has_corner j lj) in
          sym (ap set (out_is i v li refl)) ∙ fans_are_whole mesh surface v (inside i li) faces parts (face_of mesh i)
          (face_of mesh j) (has_corner i li) corner_j ∙ ap set (out_is j v lj (sym same))

  -- vertices, edges and faces are an even number in all
  pub total_even : (k : ℕ) × (mesh.vertices + edge_count mesh + face_count mesh ≡ 2 * k)
  total_even =
      let n = side_count mesh in
      let E = edge_count mesh in
      let (k, is) = named_rounds_are_even n (next mesh turned) (prev mesh turned) (mate mesh) (mate mesh)
      (ring mesh turned) (λ i. mate mesh (prev mesh turned i)) (face_count mesh) E mesh.vertices
      (face_of mesh) (edge_of mesh) (start mesh turned) (next_turn mesh surface turned)
      (mate_turn mesh surface) ring_turn (faces_named mesh surface turned) (mates_named mesh surface) vertices_named
      (λ i l. refl) in
      (k - E, omega (arith, is))
