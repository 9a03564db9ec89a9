-- In a turned surface the sides of a face follow one another, and so do those that leave a vertex.
use Rattle.surf_surfaces.proofs.Common.{◌≡◌, ℕ, zero, suc, ◌+◌, ◌<◌, Bool, true, false, cond, not, List, [], length, refl, sym, ◌∙◌, ap, arith, inl, inr, cases_Bool, lt-ltb, true≢false, Mesh, pair, pair_of, pair_eq, sides, IsFace, face_count, face_at, ends, runs, IsSurface, IsTurn, after, before, corner, side_pair}
use Rattle.surf_surfaces.proofs.meshes.PairLaws.{pair_eq-true, pair_eq-same}
use Rattle.surf_surfaces.proofs.meshes.EdgeLaws.{list_any_at, list_any_from}
use Rattle.surf_surfaces.proofs.meshes.FaceLaws.{pair_comm}
use Rattle.surf_surfaces.proofs.meshes.SideLaws.{sides_are_by_place, side_place, after-below, after-before, before-after}
use Rattle.surf_surfaces.proofs.meshes.CountLaws.{length-sides}
use Rattle.surf_orientation.specs.Names.{NamesRounds}
use Rattle.surf_orientation.proofs.SideNumbers.{side_count, edge_of, face_of, place, side_at, onward, onward_in, onward_back, back_onward, face_in, place_is, side_at_is, side_is_at}

-- the side after a side of a face, in the order by the face's flag
abbrev pub next : Mesh → (ℕ → Bool) → ℕ → ℕ
next mesh turned d =
    side_at mesh (face_of mesh d)
    (onward (turned (face_of mesh d)) (length (face_at mesh (face_of mesh d))) (place mesh d))

abbrev pub start_at : Bool → List ℕ → ℕ → ℕ
start_at back face k = cond back (corner face (after (length face) k)) (corner face k)

abbrev pub start : Mesh → (ℕ → Bool) → ℕ → ℕ
start mesh turned d = start_at (turned (face_of mesh d)) (face_at mesh (face_of mesh d)) (place mesh d)

-- where a side ends
abbrev pub finish : Mesh → (ℕ → Bool) → ℕ → ℕ
finish mesh turned d = start_at (not (turned (face_of mesh d))) (face_at mesh (face_of mesh d)) (place mesh d)

-- a face runs a pair where the side at its place does
pub runs_at : (n : ℕ) (face : List ℕ) → IsFace n face → (k : ℕ) → k < length face → (q : ℕ × ℕ) →
    pair_of q ≡ side_pair face k → runs q face ≡ pair_eq q (corner face k, corner face (after (length face) k))
runs_at n face h k lk q same = elim (cases_Bool (runs q face)) [
  | inl e ↦
      let r = list_any_at (pair_eq q) (sides face) (0, 0) e in
      let lr : r.0 < length face = let l = length-sides face in omega (arith, r.1, l) in
      let is : q ≡ (corner face r.0, corner face (after (length face) r.0)) =
      pair_eq-true q _ r.2 ∙ sides_are_by_place face r.0 lr in
      let here : r.0 ≡ k = side_place n face h r.0 k lr lk (sym (ap pair_of is) ∙ same) in
      e ∙ sym (pair_eq-same q (corner face k, corner face (after (length face) k))
      (is ∙ ap (λ i. (corner face i, corner face (after (length face) i))) here))
  | inr e ↦ elim (cases_Bool (pair_eq q (corner face k, corner face (after (length face) k)))) [
    | inl f ↦
        let l = length-sides face in
        let ran : runs q face ≡ true =
        list_any_from (pair_eq q) (sides face) (0, 0) k (omega arith)
        (ap (pair_eq q) (sides_are_by_place face k lk) ∙ f) in
        absurd (true≢false (sym ran ∙ e))
    | inr f ↦ e ∙ sym f
  ]
]

pub not_not_same : (b : Bool) → b ≡ not b → ⊥
not_not_same true h = true≢false h
not_not_same false h = true≢false (sym h)

module _ (mesh : Mesh) (surface : IsSurface mesh) (turned : ℕ → Bool) where
  -- a side's ends are those of its edge
  pub ends_are : (d : ℕ) → d < side_count mesh → pair (start mesh turned d) (finish mesh turned d)
      ≡ ends mesh (edge_of mesh d)
  ends_are d l =
      let face = face_at mesh (face_of mesh d) in
      let k = place mesh d in
      elim (cases_Bool (turned (face_of mesh d))) [
        | inl e ↦ rw e (pair_comm (corner face (after (length face) k)) (corner face k) ∙ (place_is mesh surface d l).1)
        | inr e ↦ rw e ((place_is mesh surface d l).1)
      ]

  -- at the next side of its face a side's end is the start
  pub next_at : (f k : ℕ) → f < face_count mesh → k < length (face_at mesh f) → next mesh turned (side_at mesh f k)
      ≡ side_at mesh f (onward (turned f) (length (face_at mesh f)) k)
  next_at f k lf lk =
      let is = side_at_is mesh surface f k lf lk in
      ap (λ g. side_at mesh g (onward (turned g) (length (face_at mesh g)) (place mesh (side_at mesh f k)))) is.has_face
      ∙ ap (λ i. side_at mesh f (onward (turned f) (length (face_at mesh f)) i)) is.has_place

  onward_place : (d : ℕ) → d < side_count mesh →
      onward (turned (face_of mesh d)) (length (face_at mesh (face_of mesh d))) (place mesh d) < length
      (face_at mesh (face_of mesh d))
  onward_place d l = onward_in (turned (face_of mesh d)) (length (face_at mesh (face_of mesh d))) (place mesh d)
      (place_is mesh surface d l).0

  pub next_face : (d : ℕ) → d < side_count mesh → face_of mesh (next mesh turned d) ≡ face_of mesh d
  next_face d l = (side_at_is mesh surface (face_of mesh d)
      (onward (turned (face_of mesh d)) (length (face_at mesh (face_of mesh d))) (place mesh d))
      (face_in mesh surface d l) (onward_place d l)).has_face

  pub next_place : (d : ℕ) → d < side_count mesh → place mesh (next mesh turned d) ≡ onward (turned (face_of mesh d))
      (length (face_at mesh (face_of mesh d))) (place mesh d)
  next_place d l = (side_at_is mesh surface (face_of mesh d)
      (onward (turned (face_of mesh d)) (length (face_at mesh (face_of mesh d))) (place mesh d))
      (face_in mesh surface d l) (onward_place d l)).has_place

  start_at_next : (b : Bool) (face : List ℕ) (k : ℕ) → k < length face → start_at b face (onward b (length face) k)
      ≡ start_at (not b) face k
  start_at_next true face k l = ap (corner face) (after-before (length face) k l)
  start_at_next false face k l = refl

  pub start_next : (d : ℕ) → d < side_count mesh → start mesh turned (next mesh turned d) ≡ finish mesh turned d
  start_next d l =
      ap (λ g. start_at (turned g) (face_at mesh g) (place mesh (next mesh turned d))) (next_face d l)
      ∙ ap (start_at (turned (face_of mesh d)) (face_at mesh (face_of mesh d))) (next_place d l)
      ∙ start_at_next (turned (face_of mesh d)) (face_at mesh (face_of mesh d)) (place mesh d)
      (place_is mesh surface d l).0

-- the side before
abbrev pub prev : Mesh → (ℕ → Bool) → ℕ → ℕ
prev mesh turned d = next mesh (λ f. not (turned f)) d

not_not : (b : Bool) → not (not b) ≡ b
not_not true = refl
not_not false = refl

prev_next : (mesh : Mesh) → IsSurface mesh → (turned : ℕ → Bool) (d : ℕ) → d < side_count mesh →
    prev mesh turned (next mesh turned d) ≡ d
prev_next mesh surface turned d l =
    let f = face_of mesh d in
    let n = length (face_at mesh f) in
    let k = place mesh d in
    next_at mesh surface (λ g. not (turned g)) f (onward (turned f) n k) (face_in mesh surface d l)
    (onward_place mesh surface turned d l)
    ∙ ap (side_at mesh f) (onward_back (turned f) n k (place_is mesh surface d l).0)
    ∙ side_is_at mesh surface d l

next_prev : (mesh : Mesh) → IsSurface mesh → (turned : ℕ → Bool) (d : ℕ) → d < side_count mesh →
    next mesh turned (prev mesh turned d) ≡ d
next_prev mesh surface turned d l =
    let f = face_of mesh d in
    let n = length (face_at mesh f) in
    let k = place mesh d in
    next_at mesh surface turned f (onward (not (turned f)) n k) (face_in mesh surface d l)
    (onward_place mesh surface (λ g. not (turned g)) d l)
    ∙ ap (side_at mesh f) (back_onward (turned f) n k (place_is mesh surface d l).0)
    ∙ side_is_at mesh surface d l

next_in : (mesh : Mesh) → IsSurface mesh → (turned : ℕ → Bool) (d : ℕ) → d < side_count mesh →
    next mesh turned d < side_count mesh
next_in mesh surface turned d l =
    (side_at_is mesh surface (face_of mesh d)
    (onward (turned (face_of mesh d)) (length (face_at mesh (face_of mesh d))) (place mesh d))
    (face_in mesh surface d l) (onward_place mesh surface turned d l)).inside

pub next_turn : (mesh : Mesh) → IsSurface mesh → (turned : ℕ → Bool) →
    IsTurn (side_count mesh) (next mesh turned) (prev mesh turned)
next_turn mesh surface turned = record {
  turn_in = next_in mesh surface turned;
  back_in = next_in mesh surface (λ f. not (turned f));
  back_turn = prev_next mesh surface turned;
  turn_back = next_prev mesh surface turned;
}

-- the rounds of the next sides are the faces
pub faces_named : (mesh : Mesh) → IsSurface mesh → (turned : ℕ → Bool) →
    NamesRounds (side_count mesh) (next mesh turned) (face_count mesh) (face_of mesh)
faces_named mesh surface turned = record {
  name_in = face_in mesh surface;
  some = λ f lf.
      let large : IsFace mesh.vertices (face_at mesh f) = surface.is_mesh f [] lf in
      let is = side_at_is mesh surface f 0 lf (omega (arith, large.large)) in
      (side_at mesh f 0, is.inside, is.has_face);
  kept = next_face mesh surface turned;
  joined = joined;
}
  where
    joined : (set : ℕ → Bool) → ((i : ℕ) → i < side_count mesh → set (next mesh turned i) ≡ set i) → (i j : ℕ) →
        i < side_count mesh → j < side_count mesh → face_of mesh i ≡ face_of mesh j → set i ≡ set j
    joined set closed i j li lj same = at_first i li ∙ ap (λ f. set (side_at mesh f 0)) same ∙ sym (at_first j lj)
      where
        one_on : (f k : ℕ) → f < face_count mesh → k < length (face_at mesh f) →
            set (side_at mesh f (after (length (face_at mesh f)) k)) ≡ set (side_at mesh f k)
        one_on f k lf lk =
            let n = length (face_at mesh f) in
            let step : (m : ℕ) → m < n → set (side_at mesh f (onward (turned f) n m)) ≡ set (side_at mesh f m) = λ m lm.
            sym (ap set (next_at mesh surface turned f m lf lm)) ∙ closed (side_at mesh f m)
            (side_at_is mesh surface f m lf lm).inside in
            elim (cases_Bool (turned f)) [
              | inl e ↦
                  let back : set (side_at mesh f (before n (after n k))) ≡ set (side_at mesh f (after n k)) =
                  rw e at (step (after n k) (after-below n k lk)) in
                  sym back ∙ ap (λ m. set (side_at mesh f m)) (before-after n k lk)
              | inr e ↦ rw e at (step k lk)
            ]

        from_first : (f k : ℕ) → f < face_count mesh → k < length (face_at mesh f) →
            set (side_at mesh f k) ≡ set (side_at mesh f 0)
        from_first f zero lf lk = refl
        from_first f (suc k) lf lk =
            let n = length (face_at mesh f) in
            let low : k + 1 < n = omega arith in
            let is : after n k ≡ suc k = rw (lt-ltb (k + 1) n low) (omega arith) in
            ap (λ m. set (side_at mesh f m)) (sym is) ∙ one_on f k lf (omega arith) ∙ from_first f k lf (omega arith)

        at_first : (d : ℕ) → d < side_count mesh → set d ≡ set (side_at mesh (face_of mesh d) 0)
        at_first d l = sym (ap set (side_is_at mesh surface d l)) ∙ from_first (face_of mesh d) (place mesh d)
            (face_in mesh surface d l) (place_is mesh surface d l).0
