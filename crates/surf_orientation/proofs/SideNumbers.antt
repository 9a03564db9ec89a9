-- The sides of a surface's faces by number: two for each edge, and each at its place in its face.
use Rattle.surf_surfaces.proofs.Common.{◌≡◌, ◌≢◌, ℕ, ◌+◌, ◌-◌, ◌<◌, ◌≤◌, Bool, true, false, cond, not, eqb, ltb, List, [], length, refl, sym, ◌∙◌, ap, arith, inl, inr, subst, cases_lt, cases_Bool, lt-ltb, le-ltb, eq-eqb, ne_eqb, eqb-true, or_left, or_right, Mesh, IsMesh, pair_eq, edges, IsFace, face_count, edge_count, face_at, ends, faces_of, has_side, IsSurface, place_of, least_below, IsTurn, least_below-found, after, before, side_pair}
use Rattle.surf_surfaces.proofs.meshes.CellLaws.{ends_below}
use Rattle.surf_surfaces.proofs.meshes.PairLaws.{pair_eq-true, pair_eq-same}
use Rattle.surf_surfaces.proofs.meshes.EdgeLaws.{place_of-among, place_of-ends, among-edges, list_any_from}
use Rattle.surf_surfaces.proofs.meshes.SurfaceLaws.{two_faces_of, has_side-face}
use Rattle.surf_surfaces.proofs.meshes.SideLaws.{sides_are_placed, side_place, after-below, before-below, after-before, before-after}
use Rattle.surf_orientation.specs.Names.{NamesRounds}

pub ends_rise : (mesh : Mesh) → IsMesh mesh → (e : ℕ) → e < edge_count mesh → (ends mesh e).0 < (ends mesh e).1
ends_rise mesh m e l = (ends_below mesh m e l).0

-- side e of E is edge e in its lesser face, side E + e is edge e in its greater face
abbrev pub side_count : Mesh → ℕ
side_count mesh = edge_count mesh + edge_count mesh

abbrev pub edge_of : Mesh → ℕ → ℕ
edge_of mesh d = cond (ltb d (edge_count mesh)) d (d - edge_count mesh)

abbrev pub mate : Mesh → ℕ → ℕ
mate mesh d = cond (ltb d (edge_count mesh)) (d + edge_count mesh) (d - edge_count mesh)

abbrev pub face_of : Mesh → ℕ → ℕ
face_of mesh d = cond (ltb d (edge_count mesh)) (faces_of mesh d).0 (faces_of mesh (d - edge_count mesh)).1

-- the side that is edge e in face f
abbrev pub side_of : Mesh → ℕ → ℕ → ℕ
side_of mesh e f = cond (eqb f (faces_of mesh e).0) e (e + edge_count mesh)

-- where a side begins in its face's list
abbrev pub place_in : List ℕ → ℕ × ℕ → ℕ
place_in face p = least_below (length face) (λ k. pair_eq (side_pair face k) p)

abbrev pub place : Mesh → ℕ → ℕ
place mesh d = place_in (face_at mesh (face_of mesh d)) (ends mesh (edge_of mesh d))

-- the side that begins at place k of face f
abbrev pub side_at : Mesh → ℕ → ℕ → ℕ
side_at mesh f k = side_of mesh (place_of (side_pair (face_at mesh f) k) (edges mesh)) f

-- on by one place, or back by one where turned
abbrev pub onward : Bool → ℕ → ℕ → ℕ
onward back n k = cond back (before n k) (after n k)

pub onward_in : (b : Bool) (n k : ℕ) → k < n → onward b n k < n
onward_in true n k l = before-below n k l
onward_in false n k l = after-below n k l

pub onward_back : (b : Bool) (n k : ℕ) → k < n → onward (not b) n (onward b n k) ≡ k
onward_back true n k l = after-before n k l
onward_back false n k l = before-after n k l

pub back_onward : (b : Bool) (n k : ℕ) → k < n → onward b n (onward (not b) n k) ≡ k
back_onward true n k l = before-after n k l
back_onward false n k l = after-before n k l

module _ (mesh : Mesh) (surface : IsSurface mesh) where
  pub edge_in : (d : ℕ) → d < side_count mesh → edge_of mesh d < edge_count mesh
  edge_in d l = elim (cases_lt d (edge_count mesh)) [
    | inl lt ↦ rw (lt-ltb d (edge_count mesh) lt) lt
    | inr ge ↦ rw (le-ltb d (edge_count mesh) ge) (omega arith)
  ]

  pub face_has : (d : ℕ) → d < side_count mesh → has_side (ends mesh (edge_of mesh d)) (face_at mesh (face_of mesh d))
      ≡ true
  face_has d l = elim (cases_lt d (edge_count mesh)) [
    | inl lt ↦
        let a = (faces_of mesh d).0 in
        rw (lt-ltb d (edge_count mesh) lt)
        ((two_faces_of mesh surface d lt).no_other a ∙ or_left (eqb a a) (eqb a (faces_of mesh d).1) (eq-eqb a a refl))
    | inr ge ↦
        let e = d - edge_count mesh in
        let b = (faces_of mesh e).1 in
        rw (le-ltb d (edge_count mesh) ge)
        ((two_faces_of mesh surface e (omega arith)).no_other b ∙ or_right (eqb b (faces_of mesh e).0) (eqb b b)
        (eq-eqb b b refl))
  ]

  pub face_in : (d : ℕ) → d < side_count mesh → face_of mesh d < face_count mesh
  face_in d l = has_side-face mesh (ends mesh (edge_of mesh d)) (face_of mesh d) (face_has d l)

  pub is_face : (d : ℕ) → d < side_count mesh → IsFace mesh.vertices (face_at mesh (face_of mesh d))
  is_face d l = surface.is_mesh (face_of mesh d) [] (face_in d l)

  -- a side of an edge
  pub side_of_is : (e f : ℕ) → e < edge_count mesh → has_side (ends mesh e) (face_at mesh f) ≡ true →
      (side_of mesh e f < side_count mesh) × (edge_of mesh (side_of mesh e f) ≡ e)
      × (face_of mesh (side_of mesh e f) ≡ f)
  side_of_is e f l has =
      let E = edge_count mesh in
      let a = (faces_of mesh e).0 in
      let b = (faces_of mesh e).1 in
      elim (cases_Bool (eqb f a)) [
        | inl yes_a ↦ rw (yes_a, lt-ltb e E l) (omega arith, refl, sym (eqb-true f a yes_a))
        | inr not_a ↦
            let high : E ≤ e + E = omega arith in
            let less : e + E - E ≡ e = omega arith in
            let is_b : eqb f b ≡ true = rw not_a at (sym ((two_faces_of mesh surface e l).no_other f) ∙ has) in
            rw (not_a, le-ltb (e + E) E high, less) (omega arith, refl, sym (eqb-true f b is_b))
      ]

  pub side_is_of : (d : ℕ) → d < side_count mesh → side_of mesh (edge_of mesh d) (face_of mesh d) ≡ d
  side_is_of d l =
      let E = edge_count mesh in
      elim (cases_lt d E) [
        | inl lt ↦ rw (lt-ltb d E lt, eq-eqb (faces_of mesh d).0 (faces_of mesh d).0 refl)
        | inr ge ↦
            let e = d - E in
            let two = two_faces_of mesh surface e (omega arith) in
            let other : (faces_of mesh e).1 ≢ (faces_of mesh e).0 = λ same. omega (arith, two.lesser_first, same) in
            rw (le-ltb d E ge, ne_eqb (faces_of mesh e).1 (faces_of mesh e).0 other) (omega arith)
      ]

  pub place_is : (d : ℕ) → d < side_count mesh → (place mesh d < length (face_at mesh (face_of mesh d)))
      × (side_pair (face_at mesh (face_of mesh d)) (place mesh d) ≡ ends mesh (edge_of mesh d))
  place_is d l =
      let face = face_at mesh (face_of mesh d) in
      let p = ends mesh (edge_of mesh d) in
      let (k, lk, is) = (sides_are_placed face p).0 (face_has d l) in
      let found = least_below-found (length face) (λ i. pair_eq (side_pair face i) p) k lk
      (pair_eq-same (side_pair face k) p is) in
      (found.0, pair_eq-true (side_pair face (place mesh d)) p found.1)

  -- the side at a place
  pub record IsSideAt (f k d : ℕ) : Type 0 where
    pub inside : d < side_count mesh
    pub has_face : face_of mesh d ≡ f
    pub has_place : place mesh d ≡ k

  pub side_at_is : (f k : ℕ) → f < face_count mesh → k < length (face_at mesh f) → IsSideAt f k (side_at mesh f k)
  side_at_is f k lf lk =
      let face = face_at mesh f in
      let p = side_pair face k in
      let has : has_side p face ≡ true = (sides_are_placed face p).1 (k, lk, refl) in
      let at = place_of-among p (edges mesh) (0, 0)
      (among-edges mesh p ∙ list_any_from (has_side p) mesh.faces [] f lf has) in
      let e = place_of p (edges mesh) in
      let is = side_of_is e f at.0 (ap (λ q. has_side q face) at.1 ∙ has) in
      let d = side_at mesh f k in
      let where_is = place_is d is.0 in
      let in_face : place mesh d < length face = subst (λ g. place mesh d < length (face_at mesh g)) is.2 where_is.0 in
      let same : side_pair face (place mesh d) ≡ side_pair face k =
      ap (λ g. side_pair (face_at mesh g) (place mesh d)) (sym is.2) ∙ where_is.1 ∙ ap (ends mesh) is.1 ∙ at.1 in
      record {
        inside = is.0;
        has_face = is.2;
        has_place = side_place mesh.vertices face (surface.is_mesh f [] lf) (place mesh d) k in_face lk same;
      }

  pub side_is_at : (d : ℕ) → d < side_count mesh → side_at mesh (face_of mesh d) (place mesh d) ≡ d
  side_is_at d l =
      ap (λ p. side_of mesh (place_of p (edges mesh)) (face_of mesh d)) (place_is d l).1
      ∙ ap (λ e. side_of mesh e (face_of mesh d)) (place_of-ends mesh (edge_of mesh d) (edge_in d l))
      ∙ side_is_of d l

  pub mate_turn : IsTurn (side_count mesh) (mate mesh) (mate mesh)
  mate_turn = record { turn_in = inside; back_in = inside; back_turn = again; turn_back = again }
    where
      E : ℕ
      E = edge_count mesh

      inside : (d : ℕ) → d < side_count mesh → mate mesh d < side_count mesh
      inside d l = elim (cases_lt d (edge_count mesh)) [
        | inl lt ↦ rw (lt-ltb d (edge_count mesh) lt) (omega arith)
        | inr ge ↦ rw (le-ltb d (edge_count mesh) ge) (omega arith)
      ]

      again : (d : ℕ) → d < side_count mesh → mate mesh (mate mesh d) ≡ d
      again d l = elim (cases_lt d (edge_count mesh)) [
        | inl lt ↦ let high : edge_count mesh ≤ d + edge_count mesh = omega arith in
            rw (lt-ltb d (edge_count mesh) lt, le-ltb (d + edge_count mesh) (edge_count mesh) high) (omega arith)
        | inr ge ↦ let low : d - edge_count mesh < edge_count mesh = omega arith in
            rw (le-ltb d (edge_count mesh) ge, lt-ltb (d - edge_count mesh) (edge_count mesh) low) (omega arith)
      ]

  pub mate_edge : (d : ℕ) → d < side_count mesh → edge_of mesh (mate mesh d) ≡ edge_of mesh d
  mate_edge d l = elim (cases_lt d (edge_count mesh)) [
    | inl lt ↦ let high : edge_count mesh ≤ d + edge_count mesh = omega arith in
        rw (lt-ltb d (edge_count mesh) lt, le-ltb (d + edge_count mesh) (edge_count mesh) high) (omega arith)
    | inr ge ↦ let low : d - edge_count mesh < edge_count mesh = omega arith in
        rw (le-ltb d (edge_count mesh) ge, lt-ltb (d - edge_count mesh) (edge_count mesh) low)
  ]

  -- the mates are the two sides of an edge
  pub mates_named : NamesRounds (side_count mesh) (mate mesh) (edge_count mesh) (edge_of mesh)
  mates_named = record {
    name_in = edge_in;
    some = λ e l. (e, omega arith, rw (lt-ltb e (edge_count mesh) l));
    kept = mate_edge;
    joined = joined;
  }
    where
      joined : (set : ℕ → Bool) → ((i : ℕ) → i < side_count mesh → set (mate mesh i) ≡ set i) → (i j : ℕ) →
          i < side_count mesh → j < side_count mesh → edge_of mesh i ≡ edge_of mesh j → set i ≡ set j
      joined set closed i j li lj same =
          let E = edge_count mesh in
          elim (cases_lt i E) [
            | inl low_i ↦ elim (cases_lt j E) [
              | inl low_j ↦ ap set (rw (lt-ltb i E low_i, lt-ltb j E low_j) at same)
              | inr high_j ↦
                  let is : i ≡ j - E = rw (lt-ltb i E low_i, le-ltb j E high_j) at same in
                  let mates : mate mesh j ≡ i = rw (le-ltb j E high_j) (sym is) in
                  ap set (sym mates) ∙ closed j lj
            ]
            | inr high_i ↦ elim (cases_lt j E) [
              | inl low_j ↦
                  let is : i - E ≡ j = rw (le-ltb i E high_i, lt-ltb j E low_j) at same in
                  let mates : mate mesh i ≡ j = rw (le-ltb i E high_i) is in
                  sym (closed i li) ∙ ap set mates
              | inr high_j ↦
                  let is : i - E ≡ j - E = rw (le-ltb i E high_i, le-ltb j E high_j) at same in
                  ap set (omega arith)
            ]
          ]
