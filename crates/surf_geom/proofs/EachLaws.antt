-- What each of a list gives.
use Rattle.surf_surfaces.proofs.Common.{◌≡◌, ℕ, suc, ◌+◌, ◌<◌, ◌≤◌, List, [], ◌∷◌, ◌++◌, length, take, drop, get_or, Result, Ok, Err, refl, sym, ap, ◌∙◌, take_more, drop_more, take_all, take-append-drop, All-nil, All-cons}
use Rattle.std.specs.List.{All}
use Rattle.surf_geom.specs.declared.fault.GeomFault.{GeomFault}
use Rattle.surf_base.specs.Gives.{◌>>=◌}
use Rattle.surf_geom.specs.Lists.{each}

module _ {A B : Type 0} (f : A → Result B GeomFault) where
  ok_again : (r : Result (List B) GeomFault) → r ≡ (r >>= λ ys. Ok ys)
  ok_again (Ok ys) = refl
  ok_again (Err e) = refl

  regrouped : (y : B) (p q : Result (List B) GeomFault) →
      ((p >>= λ us. q >>= λ vs. Ok (us ++ vs)) >>= λ ys. Ok (y ∷ ys)) ≡ ((p >>= λ us. Ok (y ∷ us)) >>= λ us. q >>= λ vs. Ok (us ++ vs))
  regrouped y (Ok us) (Ok vs) = refl
  regrouped y (Ok us) (Err e) = refl
  regrouped y (Err d) q = refl

  -- of a list and then of another
  each-append : (xs ys : List A) → each f (xs ++ ys) ≡ (each f xs >>= λ us. each f ys >>= λ vs. Ok (us ++ vs))
  unfolding each
  each-append [] ys = ok_again (each f ys)
  each-append (x ∷ xs) ys = first (f x) (each-append xs ys)
    where
      first : (r : Result B GeomFault) → each f (xs ++ ys) ≡ (each f xs >>= λ us. each f ys >>= λ vs. Ok (us ++ vs)) →
          (r >>= λ y. each f (xs ++ ys) >>= λ zs. Ok (y ∷ zs)) ≡ ((r >>= λ y. each f xs >>= λ us. Ok (y ∷ us)) >>= λ us. each f ys >>= λ vs. Ok (us ++ vs))
      first (Ok y) rest = ap (λ (s : Result (List B) GeomFault). s >>= λ zs. Ok (y ∷ zs)) rest ∙ regrouped y (each f xs) (each f ys)
      first (Err e) rest = refl

  pub each_none : each f [] ≡ Ok []
  unfolding each
  each_none = refl

  pub each_more : (xs : List A) (i : ℕ) (d : A) (ys : List B) (y : B) → i < length xs → each f (take i xs) ≡ Ok ys → f (get_or xs i d) ≡ Ok y → each f (take (i + 1) xs) ≡ Ok (ys ++ y ∷ [])
  unfolding each
  each_more xs i d ys y lt so_far here = ap (each f) (take_more xs i d lt) ∙ each-append (take i xs) (get_or xs i d ∷ []) ∙ rw (so_far, here) refl

  pub each_stop : (xs : List A) (i : ℕ) (d : A) (ys : List B) (e : GeomFault) → i < length xs → each f (take i xs) ≡ Ok ys → f (get_or xs i d) ≡ Err e → each f xs ≡ Err e
  unfolding each
  each_stop xs i d ys e lt so_far here =
      ap (each f) (sym (take-append-drop i xs)) ∙ each-append (take i xs) (drop i xs) ∙ ap (λ (zs : List A). each f (take i xs) >>= λ us. each f zs >>= λ vs. Ok (us ++ vs)) (drop_more xs i d lt) ∙ rw (so_far, here) refl

  pub each_done : (xs : List A) (i : ℕ) (ys : List B) → length xs ≤ i → each f (take i xs) ≡ Ok ys → each f xs ≡ Ok ys
  each_done xs i ys le so_far = ap (each f) (sym (take_all i xs le)) ∙ so_far

  -- What holds of each answer.
  pub each_all : (P : B → Type 0) → ((x : A) (y : B) → f x ≡ Ok y → P y) → (xs : List A) (ys : List B) → each f xs ≡ Ok ys → All P ys × (length ys ≡ length xs)
  unfolding each
  each_all P law [] ys is = let none : [] ≡ ys = cc in rw (← none) (All-nil P, refl)
  each_all P law (x ∷ xs) ys is = first (f x) refl (each_all P law xs) is
    where
      later : (y : B) → P y → (r : Result (List B) GeomFault) → each f xs ≡ r → ((zs : List B) → each f xs ≡ Ok zs → All P zs × (length zs ≡ length xs)) →
          (r >>= λ zs. Ok (y ∷ zs)) ≡ Ok ys → All P ys × (length ys ≡ length (x ∷ xs))
      later y good (Ok zs) rest more h =
          let m = more zs rest in
          let same : y ∷ zs ≡ ys = cc in
          rw (← same) (All-cons P y zs good m.0, ap suc m.1)
      later y good (Err e) rest more h = cc

      first : (r : Result B GeomFault) → f x ≡ r → ((zs : List B) → each f xs ≡ Ok zs → All P zs × (length zs ≡ length xs)) →
          (r >>= λ y. each f xs >>= λ zs. Ok (y ∷ zs)) ≡ Ok ys → All P ys × (length ys ≡ length (x ∷ xs))
      first (Ok y) here more h = later y (law x y here) (each f xs) refl more h
      first (Err e) here more h = cc

  pub each_length : (xs : List A) (ys : List B) → each f xs ≡ Ok ys → length ys ≡ length xs
  each_length xs ys is = (each_all (λ y. Unit {0}) (λ x y here. tt) xs ys is).1
