-- The faces with a pair, counted; the places of all corners, counted.
use Rattle.surf_surfaces.proofs.Common.{◌≡◌, ℕ, zero, suc, ◌+◌, ◌-◌, ◌<◌, inl, inr, refl, ap, List, [], ◌∷◌, length, get_or, true, cond, arith, cases_lt, cases_Bool, Mesh, has_side, places_from, faces_with, HasEdge}
use Rattle.surf_opening.specs.Numbers.{Numbers}
use Rattle.surf_opening.specs.Side.{IsPlace}
use Rattle.surf_opening.proofs.sides.Polygons.{same_pair}

-- how many faces before place k have the pair
abbrev rank : ℕ × ℕ → List (List ℕ) → ℕ → ℕ
rank p [] k = 0
rank p (face ∷ rest) zero = 0
rank p (face ∷ rest) (suc k) = cond (has_side p face) 1 0 + rank p rest k

abbrev Has : ℕ × ℕ → List (List ℕ) → ℕ → Type 0
Has p faces k = (k < length faces) × (has_side p (get_or faces k []) ≡ true)

places_count : (n : ℕ) (p : ℕ × ℕ) (face : List ℕ) (rest : List (List ℕ)) → length (places_from n p (face ∷ rest))
    ≡ cond (has_side p face) 1 0 + length (places_from (n + 1) p rest)
places_count n p face rest = elim (cases_Bool (has_side p face)) [
  | inl e ↦ rw e (omega arith)
  | inr e ↦ rw e (omega arith)
]

rank_below : (n : ℕ) (p : ℕ × ℕ) (faces : List (List ℕ)) (k : ℕ) → Has p faces k →
    rank p faces k < length (places_from n p faces)
rank_below n p [] k h = let g : k < 0 = h.0 in absurd (omega arith)
rank_below n p (face ∷ rest) zero h = rw (places_count n p face rest, h.1) (omega arith)
rank_below n p (face ∷ rest) (suc k) h =
    let g : suc k < suc (length rest) = h.0 in
    let i : rank p rest k < length (places_from (n + 1) p rest) = rank_below (n + 1) p rest k (omega arith, h.1) in
    rw (places_count n p face rest) (omega arith)

rank_next : (p : ℕ × ℕ) (face : List ℕ) (rest : List (List ℕ)) (t c k : ℕ) → cond (has_side p face) 1 0 ≡ c →
    Has p rest k → c + rank p rest k ≡ t → (k : ℕ) × Has p (face ∷ rest) k × (rank p (face ∷ rest) k ≡ t)
rank_next p face rest t c k e h i = let g : k < length rest = h.0 in (suc k, (omega arith, h.1), omega arith)

rank_onto : (n : ℕ) (p : ℕ × ℕ) (faces : List (List ℕ)) (t : ℕ) → t < length (places_from n p faces) →
    (k : ℕ) × Has p faces k × (rank p faces k ≡ t)
rank_onto n p [] t h = absurd (omega arith)
rank_onto n p (face ∷ rest) t h = elim (cases_Bool (has_side p face)) [
  | inl e ↦ elim (cases_lt 0 t) [
    | inl o ↦
        let g : t < 1 + length (places_from (n + 1) p rest) = rw (places_count n p face rest, e) at h in
        let i = rank_onto (n + 1) p rest (t - 1) (omega arith) in
        rank_next p face rest t 1 i.0 (rw e refl) i.1 (omega (arith, i.2))
    | inr o ↦ (0, (omega arith, e), omega arith)
  ]
  | inr e ↦
      let g : t < 0 + length (places_from (n + 1) p rest) = rw (places_count n p face rest, e) at h in
      let i = rank_onto (n + 1) p rest t (omega arith) in
      rank_next p face rest t 0 i.0 (rw e refl) i.1 (omega (arith, i.2))
]

rank_one : (p : ℕ × ℕ) (faces : List (List ℕ)) (k l : ℕ) → Has p faces k → Has p faces l →
    rank p faces k ≡ rank p faces l → k ≡ l
rank_one p [] k l h g e = let a : k < 0 = h.0 in absurd (omega arith)
rank_one p (face ∷ rest) zero zero h g e = refl
rank_one p (face ∷ rest) zero (suc l) h g e = let i : 0 ≡ 1 + rank p rest l = rw h.1 at e in absurd (omega arith)
rank_one p (face ∷ rest) (suc k) zero h g e = let i : 1 + rank p rest k ≡ 0 = rw g.1 at e in absurd (omega arith)
rank_one p (face ∷ rest) (suc k) (suc l) h g e =
    let a : suc k < suc (length rest) = h.0 in
    let b : suc l < suc (length rest) = g.0 in
    ap suc (rank_one p rest k l (omega arith, h.1) (omega arith, g.1) (omega arith))

-- the faces with the pair are as many as the list of them has
pub faces_counted : (mesh : Mesh) (p : ℕ × ℕ) →
    Numbers (λ f. HasEdge mesh f p) (λ (f : ℕ) (g : ℕ). f ≡ g) (length (faces_with mesh p))
faces_counted mesh p = record {
  number = rank p mesh.faces;
  below = λ f h. rank_below 0 p mesh.faces f h;
  onto = λ t h. let i = rank_onto 0 p mesh.faces t h in (i.0, i.1, i.2);
  tells = λ f g h i e. rank_one p mesh.faces f g h i e;
  agrees = λ f g h i e. ap (rank p mesh.faces) e;
}

-- the corners of the faces before f
abbrev offset : List (List ℕ) → ℕ → ℕ
offset [] f = 0
offset (face ∷ rest) zero = 0
offset (face ∷ rest) (suc f) = length face + offset rest f

abbrev At : List (List ℕ) → ℕ × ℕ → Type 0
At faces x = (x.0 < length faces) × (x.1 < length (get_or faces x.0 []))

pub total : List (List ℕ) → ℕ
total [] = 0
total (face ∷ rest) = length face + total rest

offset_below : (faces : List (List ℕ)) (f i : ℕ) → At faces (f, i) → offset faces f + i < total faces
unfolding total
offset_below [] f i h = let g : f < 0 = h.0 in absurd (omega arith)
offset_below (face ∷ rest) zero i h = let g : i < length face = h.1 in omega arith
offset_below (face ∷ rest) (suc f) i h =
    let g : suc f < suc (length rest) = h.0 in
    let k : offset rest f + i < total rest = offset_below rest f i (omega arith, h.1) in
    omega arith

offset_onto : (faces : List (List ℕ)) (t : ℕ) → t < total faces → (f : ℕ) × (i : ℕ) × At faces (f, i)
    × (offset faces f + i ≡ t)
unfolding total
offset_onto [] t h = absurd (omega arith)
offset_onto (face ∷ rest) t h = elim (cases_lt t (length face)) [
  | inl g ↦ (0, t, (omega arith, g), omega arith)
  | inr g ↦
      let i = offset_onto rest (t - length face) (omega arith) in
      let k : i.0 < length rest = i.2.0 in
      (suc i.0, i.1, (omega arith, i.2.1), omega (arith, i.3))
]

offset_one : (faces : List (List ℕ)) (f i g j : ℕ) → At faces (f, i) → At faces (g, j) →
    offset faces f + i ≡ offset faces g + j → (f ≡ g) × (i ≡ j)
offset_one [] f i g j h k e = let a : f < 0 = h.0 in absurd (omega arith)
offset_one (face ∷ rest) zero i zero j h k e = (refl, omega arith)
offset_one (face ∷ rest) zero i (suc g) j h k e = let a : i < length face = h.1 in absurd (omega arith)
offset_one (face ∷ rest) (suc f) i zero j h k e = let a : j < length face = k.1 in absurd (omega arith)
offset_one (face ∷ rest) (suc f) i (suc g) j h k e =
    let a : suc f < suc (length rest) = h.0 in
    let b : suc g < suc (length rest) = k.0 in
    let o = offset_one rest f i g j (omega arith, h.1) (omega arith, k.1) (omega arith) in
    (ap suc o.0, o.1)

pub places_counted : (mesh : Mesh) → Numbers (IsPlace mesh) (λ (x : ℕ × ℕ) (y : ℕ × ℕ). x ≡ y) (total mesh.faces)
places_counted mesh = record {
  number = λ x. offset mesh.faces x.0 + x.1;
  below = λ x h. offset_below mesh.faces x.0 x.1 h;
  onto = λ t h. let o = offset_onto mesh.faces t h in ((o.0, o.1), o.2, o.3);
  tells = λ x y h g e. let o = offset_one mesh.faces x.0 x.1 y.0 y.1 h g e in same_pair o.0 o.1;
  agrees = λ x y h g e. ap (λ (x : ℕ × ℕ). offset mesh.faces x.0 + x.1) e;
}
