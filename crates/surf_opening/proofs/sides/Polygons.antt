-- The sides of a face by place: side i leads from corner i to the corner after it.
use Rattle.surf_surfaces.proofs.Common.{◌≡◌, ℕ, ◌+◌, ◌<◌, ◌≤◌, ◌⊎◌, inl, inr, sym, refl, subst, List, length, get_or, true, ltb, pair, after, has_side, cases_lt, cond-true, cond-false, lt-ltb, le-ltb}
use Rattle.surf_surfaces.proofs.meshes.FaceLaws.{pair_comm}
use Rattle.surf_surfaces.proofs.meshes.SideLaws.{pair_ends, sides_are_placed}
use Rattle.surf_opening.specs.Rim.{Among, along, back}

pub pair_is : (v w : ℕ) → (pair v w ≡ (v, w)) ⊎ (pair v w ≡ (w, v))
pair_is v w = elim (cases_lt v w) [
  | inl h ↦ inl (cond-true (ltb v w) (v, w) (w, v) (lt-ltb v w h))
  | inr h ↦ inr (cond-false (ltb v w) (v, w) (w, v) (le-ltb v w h))
]

pub pair_ordered : (p : ℕ × ℕ) → p.0 < p.1 → pair p.0 p.1 ≡ p
pair_ordered p h = cond-true {A = ℕ × ℕ} (ltb p.0 p.1) (p.0, p.1) (p.1, p.0) (lt-ltb p.0 p.1 h)

pub pair_among : {v w x y : ℕ} → Among v w x y → pair v w ≡ pair x y
pair_among {v} {w} {x} {y} (along e h) =
    subst (λ z. pair v w ≡ pair z y) (sym e) (subst (λ z. pair v w ≡ pair v z) (sym h) refl)
pair_among {v} {w} {x} {y} (back e h) =
    subst (λ z. pair v w ≡ pair z y) (sym e) (subst (λ z. pair v w ≡ pair w z) (sym h) (pair_comm v w))

pub among_pair : {v w x y : ℕ} → pair v w ≡ pair x y → Among v w x y
among_pair {v} {w} {x} {y} e = elim (pair_ends v w x y e) [
  | inl a ↦ along (sym a.0) (sym a.1)
  | inr a ↦ back (sym a.1) (sym a.0)
]

pub same_pair : {a b c d : ℕ} → a ≡ c → b ≡ d → ◌≡◌ {A = ℕ × ℕ} (a, b) (c, d)
same_pair e h = cc

pub after_next : (n i : ℕ) → i + 1 < n → after n i ≡ i + 1
after_next n i h = cond-true (ltb (i + 1) n) (i + 1) 0 (lt-ltb (i + 1) n h)

pub after_last : (n i : ℕ) → n ≤ i + 1 → after n i ≡ 0
after_last n i h = cond-false (ltb (i + 1) n) (i + 1) 0 (le-ltb (i + 1) n h)

-- for `omega`
pub after_cases : (n i : ℕ) → ((i + 1 < n) × (after n i ≡ i + 1)) ⊎ ((n ≤ i + 1) × (after n i ≡ 0))
after_cases n i = elim (cases_lt (i + 1) n) [ inl h ↦ inl (h, after_next n i h) | inr h ↦ inr (h, after_last n i h) ]

-- a face has a side exactly where two neighbours round it are the pair
pub has_side_from : (face : List ℕ) (i v w : ℕ) → i < length face →
    Among (get_or face i 0) (get_or face (after (length face) i) 0) v w → has_side (pair v w) face ≡ true
has_side_from face i v w h m = (sides_are_placed face (pair v w)).1 (i, h, pair_among m)

pub has_side_to : (face : List ℕ) (p : ℕ × ℕ) → has_side p face ≡ true →
    (i : ℕ) × (i < length face) × (p ≡ pair (get_or face i 0) (get_or face (after (length face) i) 0))
has_side_to face p e = let s = (sides_are_placed face p).0 e in (s.0, s.1, sym s.2)
