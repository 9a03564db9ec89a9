-- Lists of numbers that are compared up to each limit, and so in order place by place.
use Rattle.surf_surfaces.proofs.Common.{◌≡◌, ℕ, zero, suc, ◌+◌, ◌≤◌, ◌<◌, Bool, true, false, cond, leb, List, [], ◌∷◌, length, map, filter, get_or, take, Contains, refl, ap, ◌∙◌, arith, inl, inr, AllByRecursion, merge, sorted, leb-true, leb-false, le-leb, cases_Bool}
use Rattle.surf_z2.proofs.Counts.{add_up, below, place, sorted as placed, Up, Under, sum_under}

-- ---- the two ways to sort

placed_is : (x : ℕ) (ys : List ℕ) → merge leb (x ∷ []) ys ≡ place x ys
placed_is x [] = refl
placed_is x (y ∷ ys) = split (leb x y) (placed_is x ys)
  where
    split : (b : Bool) → merge leb (x ∷ []) ys ≡ place x ys →
        cond b (x ∷ y ∷ ys) (y ∷ merge leb (x ∷ []) ys) ≡ cond b (x ∷ y ∷ ys) (y ∷ place x ys)
    split true e = refl
    split false e = ap (λ zs. y ∷ zs) e

pub sorted_is : (xs : List ℕ) → sorted leb xs ≡ placed xs
sorted_is [] = refl
sorted_is (x ∷ xs) = placed_is x (sorted leb xs) ∙ ap (place x) (sorted_is xs)

-- what is in order stays as it is
placed_before : (x : ℕ) (xs : List ℕ) → AllByRecursion (λ y. x ≤ y) xs → place x xs ≡ x ∷ xs
placed_before x [] h = refl
placed_before x (y ∷ ys) h = rw (le-leb x y h.0) refl

pub placed_same : (xs : List ℕ) → Up xs → placed xs ≡ xs
placed_same [] up = refl
placed_same (x ∷ xs) up = ap (place x) (placed_same xs up.1) ∙ placed_before x xs up.0

-- ---- place by place

-- what is no more at each place has no fewer up to each limit
pub counts_from_under : (us vs : List ℕ) → Under us vs → (w : ℕ) → below w vs ≤ below w us
counts_from_under us [] h w = omega arith
counts_from_under [] (v ∷ vs) h w = absurd h
counts_from_under (u ∷ us) (v ∷ vs) h w =
    let rest = counts_from_under us vs h.1 w in
    elim (cases_Bool (leb v w)) [
      | inl fits ↦
          let low = leb-true v w fits in
          let first = h.0 in
          let fits_too : leb u w ≡ true = le-leb u w (omega arith) in
          rw (fits, fits_too) (omega (arith, rest))
      | inr out ↦ rw out (omega (arith, rest))
    ]

pub under_from_places : (us vs : List ℕ) → length vs ≤ length us →
    ((k : ℕ) → k < length vs → get_or us k 0 ≤ get_or vs k 0) → Under us vs
under_from_places us [] l h = tt
under_from_places [] (v ∷ vs) l h = absurd (omega arith)
under_from_places (u ∷ us) (v ∷ vs) l h =
    (h 0 (omega arith), under_from_places us vs (omega arith) (λ k m. h (suc k) (omega arith)))

-- the first n
pub sum_take : (n : ℕ) (us vs : List ℕ) → Under us vs → n ≤ length vs →
    add_up (λ x. x) (take n us) ≤ add_up (λ x. x) (take n vs)
sum_take zero us vs h l = omega arith
sum_take (suc n) us [] h l = absurd (omega arith)
sum_take (suc n) [] (v ∷ vs) h l = absurd h
sum_take (suc n) (u ∷ us) (v ∷ vs) h l = omega (arith, h.0, sum_take n us vs h.1 (omega arith))

-- what is no more at each place, and as much in all, is the same
pub same_from_under : (us vs : List ℕ) → Under us vs → length vs ≡ length us →
    add_up (λ x. x) vs ≤ add_up (λ x. x) us → us ≡ vs
same_from_under [] [] h e l = refl
same_from_under (u ∷ us) [] h e l = absurd (omega arith)
same_from_under [] (v ∷ vs) h e l = absurd h
same_from_under (u ∷ us) (v ∷ vs) h e l =
    let low = h.0 in
    let rest = sum_under us vs h.1 (omega arith) in
    let first : u ≡ v = omega arith in
    ap (λ x. x ∷ us) first ∙ ap (λ xs. v ∷ xs) (same_from_under us vs h.1 (omega arith) (omega arith))

-- ---- how many have a number up to a limit

module _ {X : Type 0} (f : X → ℕ) where
  pub counted : (w : ℕ) (xs : List X) → length (filter (λ x. leb (f x) w) xs) ≡ below w (map f xs)
  counted w [] = refl
  counted w (x ∷ xs) = split (leb (f x) w) (counted w xs)
    where
      split : (b : Bool) → length (filter (λ x. leb (f x) w) xs) ≡ below w (map f xs) →
          length (cond b (x ∷ filter (λ x. leb (f x) w) xs) (filter (λ x. leb (f x) w) xs))
          ≡ cond b 1 0 + below w (map f xs)
      split true e = omega (arith, e)
      split false e = omega (arith, e)

  pub counted_few : (w : ℕ) (xs : List X) → below w (map f xs) ≤ length xs
  counted_few w [] = omega arith
  counted_few w (x ∷ xs) = split (leb (f x) w) (counted_few w xs)
    where
      split : (b : Bool) → below w (map f xs) ≤ length xs → cond b 1 0 + below w (map f xs) ≤ suc (length xs)
      split true l = omega (arith, l)
      split false l = omega (arith, l)

  -- all of them
  pub all_counted : (w : ℕ) (xs : List X) → AllByRecursion (λ x. f x ≤ w) xs → length xs ≤ below w (map f xs)
  all_counted w [] h = omega arith
  all_counted w (x ∷ xs) h = rw (le-leb (f x) w h.0) (omega (arith, all_counted w xs h.1))

  pub all_from_count : (w : ℕ) (xs : List X) → length xs ≤ below w (map f xs) → AllByRecursion (λ x. f x ≤ w) xs
  all_from_count w [] l = tt
  all_from_count w (x ∷ xs) l = elim (cases_Bool (leb (f x) w)) [
    | inl fits ↦ (leb-true (f x) w fits, all_from_count w xs (omega (arith, rw fits at l)))
    | inr out ↦ absurd (omega (arith, rw out at l, counted_few w xs))
  ]

  -- one of them
  pub one_counted : (w : ℕ) (xs : List X) (k : ℕ) (x : X) → k < length xs → f (get_or xs k x) ≤ w →
      1 ≤ below w (map f xs)
  one_counted w [] k x l h = absurd (omega arith)
  one_counted w (y ∷ ys) zero x l h = rw (le-leb (f y) w h) (omega arith)
  one_counted w (y ∷ ys) (suc k) x l h = omega (arith, one_counted w ys k x (omega arith) h)

  pub found_counted : (w : ℕ) (xs : List X) → 1 ≤ below w (map f xs) → (x : X) × Contains xs x × (f x ≤ w)
  found_counted w [] l = absurd (omega arith)
  found_counted w (x ∷ xs) l = elim (cases_Bool (leb (f x) w)) [
    | inl fits ↦ (x, (0, omega arith, refl), leb-true (f x) w fits)
    | inr out ↦
        let (y, at, low) = found_counted w xs (omega (arith, rw out at l)) in
        (y, (suc at.0, omega (arith, at.1), at.2), low)
  ]

  -- one of those with the least number
  pub least_of : (x : X) (xs : List X) → (y : X) × Contains (x ∷ xs) y × AllByRecursion (λ z. f y ≤ f z) (x ∷ xs)
  least_of x [] = (x, (0, omega arith, refl), (omega arith, tt))
  least_of x (z ∷ zs) =
      let (y, at, low) = least_of z zs in
      elim (cases_Bool (leb (f x) (f y))) [
        | inl first ↦
            let l = leb-true (f x) (f y) first in
            (x, (0, omega arith, refl), (omega arith, lower x y (z ∷ zs) l low))
        | inr later ↦
            let l = leb-false (f x) (f y) later in
            (y, (suc at.0, omega (arith, at.1), at.2), (omega arith, low))
      ]
    where
      lower : (x y : X) (zs : List X) → f x ≤ f y → AllByRecursion (λ z. f y ≤ f z) zs → AllByRecursion (λ z. f x ≤ f z) zs
      lower x y [] l h = tt
      lower x y (z ∷ zs) l h = (omega (arith, l, h.0), lower x y zs l h.1)
