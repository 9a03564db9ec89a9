-- Places counted from behind one of them, so that it comes last.
use Rattle.surf_slit.proofs.Common.{◌≡◌, ℕ, ◌+◌, ◌-◌, ◌<◌, ◌≤◌, ◌⊎◌, inl, inr, refl, subst, ap, ◌∙◌, arith, cases_lt, lt-ltb, le-ltb, Mesh, after, IsFaceOf, after_cases, place}
use Rattle.surf_slit.proofs.Fans.{IsFan}

place_low : (n m d : ℕ) → m + 1 + d < n → place n m d ≡ m + 1 + d
place_low n m d h = rw (lt-ltb (m + 1 + d) n h) refl

place_high : (n m d : ℕ) → n ≤ m + 1 + d → place n m d ≡ m + 1 + d - n
place_high n m d h = rw (le-ltb (m + 1 + d) n h) refl

pub place_cases : (n m d : ℕ) → ((m + 1 + d < n) × (place n m d ≡ m + 1 + d)) ⊎ ((n ≤ m + 1 + d) × (place n m d ≡ m + 1 + d - n))
place_cases n m d = elim (cases_lt (m + 1 + d) n) [ inl h ↦ inl (h, place_low n m d h) | inr h ↦ inr (h, place_high n m d h) ]

pub place_in : (n m d : ℕ) → m < n → d < n → place n m d < n
place_in n m d h g = elim (place_cases n m d) [ inl c ↦ omega arith | inr c ↦ omega arith ]

pub place_one : (n m d b : ℕ) → m < n → d < n → b < n → place n m d ≡ place n m b → d ≡ b
place_one n m d b h g i e = elim (place_cases n m d) [
  | inl c ↦ elim (place_cases n m b) [ inl k ↦ omega arith | inr k ↦ omega arith ]
  | inr c ↦ elim (place_cases n m b) [ inl k ↦ omega arith | inr k ↦ omega arith ]
]

pub place_onto : (n m k : ℕ) → m < n → k < n → (d : ℕ) × (d < n) × (place n m d ≡ k)
place_onto n m k h g = elim (cases_lt m k) [
  | inl lt ↦ let low : m + 1 + (k - m - 1) < n = omega arith in (k - m - 1, omega arith, place_low n m (k - m - 1) low ∙ (let z : m + 1 + (k - m - 1) ≡ k = omega arith in z))
  | inr ge ↦ let high : n ≤ m + 1 + (n + k - m - 1) = omega arith in (n + k - m - 1, omega arith, place_high n m (n + k - m - 1) high ∙ (let z : m + 1 + (n + k - m - 1) - n ≡ k = omega arith in z))
]

pub place_last : (n m : ℕ) → m < n → place n m (n - 1) ≡ m
place_last n m h = let high : n ≤ m + 1 + (n - 1) = omega arith in place_high n m (n - 1) high ∙ (let z : m + 1 + (n - 1) - n ≡ m = omega arith in z)

pub place_after : (n m d : ℕ) → m < n → d < n → place n m (after n d) ≡ after n (place n m d)
place_after n m d h g = elim (after_cases n d) [
  | inl a ↦ elim (place_cases n m d) [
    | inl c ↦ elim (after_cases n (place n m d)) [
      | inl b ↦ elim (place_cases n m (after n d)) [ inl k ↦ omega arith | inr k ↦ omega arith ]
      | inr b ↦ elim (place_cases n m (after n d)) [ inl k ↦ omega arith | inr k ↦ omega arith ]
    ]
    | inr c ↦ elim (after_cases n (place n m d)) [
      | inl b ↦ elim (place_cases n m (after n d)) [ inl k ↦ omega arith | inr k ↦ omega arith ]
      | inr b ↦ elim (place_cases n m (after n d)) [ inl k ↦ omega arith | inr k ↦ omega arith ]
    ]
  ]
  | inr a ↦ elim (place_cases n m d) [
    | inl c ↦ elim (after_cases n (place n m d)) [
      | inl b ↦ elim (place_cases n m (after n d)) [ inl k ↦ omega arith | inr k ↦ omega arith ]
      | inr b ↦ elim (place_cases n m (after n d)) [ inl k ↦ omega arith | inr k ↦ omega arith ]
    ]
    | inr c ↦ elim (after_cases n (place n m d)) [
      | inl b ↦ elim (place_cases n m (after n d)) [ inl k ↦ omega arith | inr k ↦ omega arith ]
      | inr b ↦ elim (place_cases n m (after n d)) [ inl k ↦ omega arith | inr k ↦ omega arith ]
    ]
  ]
]

-- a fan may be counted from any place
pub turned : {mesh : Mesh} {v n : ℕ} {ring edge : ℕ → ℕ} (m : ℕ) → m < n → IsFan mesh v n ring edge → IsFan mesh v n (λ d. ring (place n m d)) (λ d. edge (place n m d))
turned {mesh} {v} {n} {ring} {edge} m h fan = record {
  some = fan.some;
  begin = λ d g. fan.begin (place n m d) (place_in n m d h g);
  all = λ s b. let k = fan.all s b in let d = place_onto n m k.0 h k.1 in (d.0, d.1, ap ring d.2 ∙ k.2);
  differ = λ i k a b e. place_one n m i k h a b (fan.differ (place n m i) (place n m k) (place_in n m i h a) (place_in n m k h b) e);
  is_edge = λ d g. fan.is_edge (place n m d) (place_in n m d h g);
  at = λ d g. fan.at (place n m d) (place_in n m d h g);
  every = λ e a t. let k = fan.every e a t in let d = place_onto n m k.0 h k.1 in (d.0, d.1, ap edge d.2 ∙ k.2);
  once = λ i k a b e. place_one n m i k h a b (fan.once (place n m i) (place n m k) (place_in n m i h a) (place_in n m k h b) e);
  behind = λ d f g a. fan.behind (place n m d) f (place_in n m d h g) a;
  ahead = λ d f g a. fan.ahead (place n m d) f (place_in n m d h g) (subst (λ k. IsFaceOf mesh (ring k) f) (place_after n m d h g) a);
}
