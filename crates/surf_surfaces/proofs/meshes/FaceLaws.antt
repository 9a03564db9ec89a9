-- Laws of a face's sides: none stands twice, and two of them have each corner.
use Rattle.surf_surfaces.proofs.Common.{◌≡◌, ◌≢◌, ℕ, zero, suc, ◌<◌, ◌≤◌, Bool, true, false, ◌||◌, eqb, List, [], ◌∷◌, ◌++◌, length, map, refl, sym, ap, ◌∙◌, arith, inl, inr, AllPairs, AllByRecursion, list_any, eq-eqb, ne_eqb, cases_eq, cases_Bool, or_right, or_left, true≢false, lt-ltb, le-ltb, cases_lt, recursion_from_All, IsFace, steps_from, sides, pair, pair_of, pair_eq, among, odd, touches, has_side}
use Rattle.surf_surfaces.proofs.meshes.PairLaws.{pair_eq-true, pair_eq-other}

-- by recursion: no number twice
abbrev pub Distinct : List ℕ → Type 0
Distinct [] = Unit {0}
Distinct (v ∷ rest) = AllByRecursion (λ w. v ≢ w) rest × Distinct rest

-- by recursion: no pair twice
abbrev pub Once : List (ℕ × ℕ) → Type 0
Once [] = Unit {0}
Once (p ∷ rest) = (among p rest ≡ false) × Once rest

pub distinct_from_AllPairs : (xs : List ℕ) → AllPairs (λ u v. u ≢ v) xs → Distinct xs
distinct_from_AllPairs [] h = tt
distinct_from_AllPairs (x ∷ xs) h = (
  recursion_from_All (λ w. x ≢ w) xs (λ k d in'. h zero (suc k) d (omega arith) (omega arith)),
  distinct_from_AllPairs xs (λ i j d lt in'. h (suc i) (suc j) d (omega arith) (omega arith)),
)

pub all_push : (P : ℕ → Type 0) (xs : List ℕ) (z : ℕ) → AllByRecursion P xs → P z → AllByRecursion P (xs ++ z ∷ [])
all_push P [] z h p = (p, tt)
all_push P (x ∷ xs) z h p = (h.0, all_push P xs z h.1 p)

distinct_push : (xs : List ℕ) (z : ℕ) → Distinct xs → AllByRecursion (λ w. z ≢ w) xs → Distinct (xs ++ z ∷ [])
distinct_push [] z h fresh = (tt, tt)
distinct_push (x ∷ xs) z h fresh =
    (all_push (λ w. x ≢ w) xs z h.0 (λ e. fresh.0 (sym e)), distinct_push xs z h.1 fresh.1)

-- the other order of the ends
pub pair_comm : (u v : ℕ) → pair u v ≡ pair v u
pair_comm u v = elim (cases_eq u v) [
  | inl e ↦ rw e
  | inr e ↦ elim (cases_lt u v) [
    | inl lt ↦ rw (lt-ltb u v lt, le-ltb v u (omega arith))
    | inr ge ↦ let gt : v < u = omega arith in rw (le-ltb u v ge, lt-ltb v u gt)
  ]
]

or_comm : (a b : Bool) → (a || b) ≡ (b || a)
or_comm true true = refl
or_comm true false = refl
or_comm false true = refl
or_comm false false = refl

pub touches-pair_of : (v : ℕ) (s : ℕ × ℕ) → touches v (pair_of s) ≡ touches v s
touches-pair_of v s = elim (cases_lt s.0 s.1) [
  | inl lt ↦ rw (lt-ltb s.0 s.1 lt)
  | inr ge ↦ rw (le-ltb s.0 s.1 ge) (or_comm (eqb s.1 v) (eqb s.0 v))
]

pub touches_first : (u w : ℕ) → touches u (pair u w) ≡ true
touches_first u w = touches-pair_of u (u, w) ∙ or_left (eqb u u) (eqb w u) (eq-eqb u u refl)

touches_second : (u w : ℕ) → touches w (pair u w) ≡ true
touches_second u w = touches-pair_of w (u, w) ∙ or_right (eqb u w) (eqb w w) (eq-eqb w w refl)

touches_neither : (v u w : ℕ) → v ≢ u → v ≢ w → touches v (pair u w) ≡ false
touches_neither v u w a b =
    let first : eqb u v ≡ false = ne_eqb u v (λ e. a (sym e)) in
    let second : eqb w v ≡ false = ne_eqb w v (λ e. b (sym e)) in
    touches-pair_of v (u, w) ∙ rw (first, second)

-- a pair with an end that a path has not is no step of it
path_avoids : (v : ℕ) (p : ℕ × ℕ) (b : ℕ) (rest : List ℕ) → touches v p ≡ true → v ≢ b →
    AllByRecursion (λ w. v ≢ w) rest → among p (map pair_of (steps_from b rest)) ≡ false
path_avoids v p b [] t a fresh = refl
path_avoids v p b (c ∷ rest) t a fresh =
    let apart : pair_eq p (pair b c) ≡ false =
    pair_eq-other p (pair b c) (λ e. true≢false (sym t ∙ ap (touches v) e ∙ touches_neither v b c a fresh.0)) in
    rw apart (path_avoids v p c rest t fresh.0 fresh.1)

path_once : (b : ℕ) (rest : List ℕ) → Distinct (b ∷ rest) → Once (map pair_of (steps_from b rest))
path_once b [] h = tt
path_once b (c ∷ rest) h = (path_avoids b (pair b c) c rest (touches_first b c) h.0.0 h.0.1, path_once c rest h.1)

pub sides_once : (face : List ℕ) → 3 ≤ length face → Distinct face → Once (map pair_of (sides face))
sides_once [] large h = tt
sides_once (u ∷ []) large h = absurd (omega arith)
sides_once (u ∷ w ∷ []) large h = absurd (omega arith)
sides_once (u ∷ w ∷ x ∷ rest) large h =
    let turned : Distinct (w ∷ x ∷ (rest ++ u ∷ [])) = distinct_push (w ∷ x ∷ rest) u h.1 h.0 in
    let apart : pair_eq (pair u w) (pair w x) ≡ false =
    pair_eq-other (pair u w) (pair w x)
    (λ e. true≢false (sym (touches_first u w) ∙ ap (touches u) e ∙ touches_neither u w x h.0.0 h.0.1.0)) in (
      rw apart (path_avoids w (pair u w) x (rest ++ u ∷ []) (touches_second u w) turned.0.0 turned.0.1),
      path_once w (x ∷ (rest ++ u ∷ [])) turned,
    )

-- of pairs that differ at most one is p
pub once_odd : (p : ℕ × ℕ) (xs : List (ℕ × ℕ)) → Once xs → among p xs ≡ odd (map (pair_eq p) xs)
once_odd p [] h = refl
once_odd p (x ∷ xs) h = elim (cases_Bool (pair_eq p x)) [
  | inl e ↦
      let others : odd (map (pair_eq p) xs) ≡ false =
      sym (once_odd p xs h.1) ∙ ap (λ q. among q xs) (pair_eq-true p x e) ∙ h.0 in
      rw (e, others)
  | inr e ↦ rw e (once_odd p xs h.1)
]

-- no step stays where it is, and all are among n vertices
abbrev pub IsStepBelow : ℕ → ℕ × ℕ → Type 0
IsStepBelow n s = (s.0 < n) × (s.1 < n) × (s.0 ≢ s.1)

path_steps : (n b : ℕ) (rest : List ℕ) → Distinct (b ∷ rest) → b < n → AllByRecursion (λ v. v < n) rest →
    AllByRecursion (IsStepBelow n) (steps_from b rest)
path_steps n b [] h in' inside = tt
path_steps n b (c ∷ rest) h in' inside = ((in', inside.0, h.0.0), path_steps n c rest h.1 inside.0 inside.1)

pub sides_below : (n : ℕ) (face : List ℕ) → 3 ≤ length face → Distinct face → AllByRecursion (λ v. v < n) face →
    AllByRecursion (IsStepBelow n) (sides face)
sides_below n [] large h inside = tt
sides_below n (u ∷ []) large h inside = absurd (omega arith)
sides_below n (u ∷ w ∷ rest) large h inside = (
  (inside.0, inside.1.0, h.0.0),
  path_steps n w (rest ++ u ∷ []) (distinct_push (w ∷ rest) u h.1 h.0) inside.1.0
      (all_push (λ v. v < n) rest u inside.1.1 inside.0),
)

-- a face of a mesh, by recursion
pub face_once : (n : ℕ) (face : List ℕ) → IsFace n face → Once (map pair_of (sides face))
face_once n face h = sides_once face h.large (distinct_from_AllPairs face h.distinct)

pub face_steps : (n : ℕ) (face : List ℕ) → IsFace n face → AllByRecursion (IsStepBelow n) (sides face)
face_steps n face h = sides_below n face h.large (distinct_from_AllPairs face h.distinct)
    (recursion_from_All (λ v. v < n) face h.inside)

pub among-map : (p : ℕ × ℕ) (ss : List (ℕ × ℕ)) → among p (map pair_of ss) ≡ list_any (λ s. pair_eq p (pair_of s)) ss
among-map p [] = refl
among-map p (s ∷ ss) = ap (λ t. pair_eq p (pair_of s) || t) (among-map p ss)

pub map-map : (p : ℕ × ℕ) (ss : List (ℕ × ℕ)) → map (pair_eq p) (map pair_of ss) ≡ map (λ s. pair_eq p (pair_of s)) ss
map-map p [] = refl
map-map p (s ∷ ss) = ap (λ t. pair_eq p (pair_of s) ∷ t) (map-map p ss)

pub has_side-among : (p : ℕ × ℕ) (face : List ℕ) → has_side p face ≡ among p (map pair_of (sides face))
has_side-among p face = sym (among-map p (sides face))

-- the face has an edge where it runs it an odd number of times
pub has_side-odd : (n : ℕ) (p : ℕ × ℕ) (face : List ℕ) → IsFace n face →
    has_side p face ≡ odd (map (λ s. pair_eq p (pair_of s)) (sides face))
has_side-odd n p face h = has_side-among p face ∙ once_odd p (map pair_of (sides face)) (face_once n face h) ∙ ap odd
    (map-map p (sides face))
