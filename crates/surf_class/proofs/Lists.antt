-- Lists, place by place.
use Rattle.surf_cert.proofs.Common.{◌≡◌, ℕ, zero, suc, ◌<◌, ◌≤◌, ◌+◌, Bool, true, false, ◌&&◌, List, [], ◌∷◌, ◌++◌, length, get_or, take, drop, nat_lt, ltb, cond, AllPairs, Some, None, refl, sym, ap, ◌∙◌, arith, inl, inr, position, position_or_len, cases_Bool, cases_lt, lt-ltb, le-ltb, true≢false, take-suc, take-append-le, take_all, position_or_len_is}
use Rattle.surf_class.proofs.Common.{rises_from, is_rising}
use Rattle.std.proofs.lemmas.List.Sums.{fails_before_first}

pub and_first : (a b : Bool) → (a && b) ≡ true → a ≡ true
and_first true b h = refl
and_first false b h = absurd (true≢false (sym h))

pub and_second : (a b : Bool) → (a && b) ≡ true → b ≡ true
and_second true b h = h
and_second false b h = absurd (true≢false (sym h))

-- a longer front has the next member
pub take_next : {X : Type 0} (xs : List X) (n : ℕ) (d : X) → n < length xs → take (n + 1) xs ≡ take n xs ++ get_or xs n d ∷ []
take_next xs n d l = let one : n + 1 ≡ suc n = omega arith in ap (λ k. take k xs) one ∙ take-suc xs n d l

-- the first place that passes
pub position_at : {X : Type 0} (p : X → Bool) (xs : List X) (i : ℕ) (d : X) → i < length xs →
    ((k : ℕ) → k < i → p (get_or xs k d) ≡ false) → p (get_or xs i d) ≡ true → position p xs ≡ Some i
position_at p xs i d l before here =
    let place : position_or_len p xs ≡ i = position_or_len_is p xs i d (omega arith) before (λ _. here) in
    let below : nat_lt i (length xs) ≡ true = lt-ltb i (length xs) l in
    rw (place, below) refl

pub position_none : {X : Type 0} (p : X → Bool) (xs : List X) (d : X) →
    ((k : ℕ) → k < length xs → p (get_or xs k d) ≡ false) → position p xs ≡ None
position_none p xs d none =
    let place : position_or_len p xs ≡ length xs =
    position_or_len_is p xs (length xs) d (omega arith) none (λ l. absurd (omega arith)) in
    let above : nat_lt (length xs) (length xs) ≡ false = le-ltb (length xs) (length xs) (omega arith) in
    rw (place, above) refl

rising_behind : {X : Type 0} (lt : X → X → Bool) (x : X) (xs : List X) (d : X) →
    ((k : ℕ) → k < length xs → lt (get_or (x ∷ xs) k d) (get_or xs k d) ≡ true) → rises_from lt x xs ≡ true
rising_behind lt x [] d all = refl
rising_behind lt x (y ∷ ys) d all =
    let first : lt x y ≡ true = all 0 (omega arith) in
    rw first (rising_behind lt y ys d (λ k l. all (suc k) (omega arith)))

-- each is above the one before it
pub rising_all : {X : Type 0} (lt : X → X → Bool) (xs : List X) (d : X) →
    ((k : ℕ) → k + 1 < length xs → lt (get_or xs k d) (get_or xs (k + 1) d) ≡ true) → is_rising lt xs ≡ true
rising_all lt [] d all = refl
rising_all lt (x ∷ xs) d all =
    rising_behind lt x xs d (λ k l.
    let one : k + 1 ≡ suc k = omega arith in
    ap (λ n. lt (get_or (x ∷ xs) k d) (get_or (x ∷ xs) n d)) (sym one) ∙ all k (omega arith))

not_behind : {X : Type 0} (lt : X → X → Bool) (x : X) (xs : List X) (d : X) (k : ℕ) → k < length xs →
    lt (get_or (x ∷ xs) k d) (get_or xs k d) ≡ false → rises_from lt x xs ≡ false
not_behind lt x [] d k l bad = absurd (omega arith)
not_behind lt x (y ∷ ys) d zero l bad = rw bad refl
not_behind lt x (y ∷ ys) d (suc k) l bad = elim (cases_Bool (lt x y)) [
  | inl on ↦ rw on (not_behind lt y ys d k (omega arith) bad)
  | inr off ↦ rw off refl
]

-- one that isn't
pub rising_not : {X : Type 0} (lt : X → X → Bool) (xs : List X) (d : X) (k : ℕ) → k + 1 < length xs →
    lt (get_or xs k d) (get_or xs (k + 1) d) ≡ false → is_rising lt xs ≡ false
rising_not lt [] d k l bad = absurd (omega arith)
rising_not lt (x ∷ xs) d k l bad =
    let one : k + 1 ≡ suc k = omega arith in
    not_behind lt x xs d k (omega arith) (ap (λ n. lt (get_or (x ∷ xs) k d) (get_or (x ∷ xs) n d)) (sym one) ∙ bad)

-- a list of the same length has been written over another one
pub restored : {X : Type 0} (n : ℕ) (xs ys : List X) → length xs ≡ n → take n (xs ++ drop (length xs) ys) ≡ xs
restored n xs ys e =
    let h : n ≤ length xs = omega (arith, e) in
    rw take-append-le (take_all n xs (omega (arith, e)))

-- of a list in which each is above the one before it, the earlier of two is below the later
module _ {X : Type 0} (lt : X → X → Bool)
    (trans : (a b c : X) → lt a b ≡ true → lt b c ≡ true → lt a c ≡ true) where
  above_first : (x : X) (xs : List X) (d : X) → rises_from lt x xs ≡ true → (k : ℕ) → k < length xs → lt x (get_or xs k d) ≡ true
  above_first x [] d rises k l = absurd (omega arith)
  above_first x (y ∷ ys) d rises zero l = and_first (lt x y) (rises_from lt y ys) rises
  above_first x (y ∷ ys) d rises (suc k) l =
      trans x y (get_or ys k d) (and_first (lt x y) (rises_from lt y ys) rises)
      (above_first y ys d (and_second (lt x y) (rises_from lt y ys) rises) k (omega arith))

  rise_behind : (x : X) (xs : List X) → rises_from lt x xs ≡ true → is_rising lt xs ≡ true
  rise_behind x [] rises = refl
  rise_behind x (y ∷ ys) rises = and_second (lt x y) (rises_from lt y ys) rises

  pub pairs_of_rising : (xs : List X) → is_rising lt xs ≡ true → AllPairs (λ a b. lt a b ≡ true) xs
  pairs_of_rising [] rises i j d less l = absurd (omega arith)
  pairs_of_rising (x ∷ xs) rises i zero d less l = absurd (omega arith)
  pairs_of_rising (x ∷ xs) rises zero (suc j) d less l = above_first x xs d rises j (omega arith)
  pairs_of_rising (x ∷ xs) rises (suc i) (suc j) d less l =
      pairs_of_rising xs (rise_behind x xs rises) i j d (omega arith) (omega arith)

-- where nothing is found, nothing passes
pub none_passes : {X : Type 0} (p : X → Bool) (xs : List X) (d : X) → position p xs ≡ None → (k : ℕ) → k < length xs →
    p (get_or xs k d) ≡ false
none_passes p xs d none k l = elim (cases_lt (position_or_len p xs) (length xs)) [
  | inl lt ↦ absurd (none_some (ltb (position_or_len p xs) (length xs)) (lt-ltb _ _ lt) none)
  | inr le ↦ fails_before_first p xs k d (omega (arith, l, le))
]
  where
    none_some : (b : Bool) → b ≡ true → cond b (Some (position_or_len p xs)) None ≡ None → ⊥
    none_some true e h = cc
    none_some false e h = cc
