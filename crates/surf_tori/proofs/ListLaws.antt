-- Lists without an item, parts of lists, and faces whose vertices are renamed alike.
use Rattle.surf_surfaces.proofs.Common.{◌≡◌, ◌≢◌, ℕ, suc, ◌+◌, ◌-◌, ◌<◌, ◌≤◌, List, [], ◌∷◌, ◌++◌, length, get_or, map, take, drop, refl, sym, ap, ◌∙◌, arith, All, AllPairs, AllByRecursion, range_with_len, length-range_with_len, get_or-range_with_len}
use Rattle.std.proofs.Math.Seq.{take-append-add, drop-append-add, take-suc}
use Rattle.std.proofs.lemmas.List.{append_assoc, map-append, take-map, drop-map, take_all, length-drop, get_or-drop}
use Rattle.surf_tori.specs.ConnectedSum.{without}

pub without-behind : {X : Type 0} (xs ys : List X) (n : ℕ) → without (length xs + n) (xs ++ ys) ≡ xs ++ without n ys
without-behind xs ys n =
    let e : length xs + n + 1 ≡ length xs + (n + 1) = omega arith in
    ap (λ zs. zs ++ drop (length xs + n + 1) (xs ++ ys)) (take-append-add xs ys n)
    ∙ ap (λ zs. (xs ++ take n ys) ++ zs) (ap (λ m. drop m (xs ++ ys)) e ∙ drop-append-add xs ys (n + 1))
    ∙ append_assoc xs (take n ys) (drop (n + 1) ys)

pub without-map : {X Y : Type 0} (f : X → Y) (n : ℕ) (xs : List X) → without n (map f xs) ≡ map f (without n xs)
without-map f n xs =
    ap (λ zs. zs ++ drop (n + 1) (map f xs)) (take-map f n xs)
    ∙ ap (λ zs. map f (take n xs) ++ zs) (drop-map f (n + 1) xs)
    ∙ sym (map-append f (take n xs) (drop (n + 1) xs))

-- one item more of a list from a place on
pub part_more : {X : Type 0} (xs : List X) (from n : ℕ) (d : X) → from + n < length xs →
    take (n + 1) (drop from xs) ≡ take n (drop from xs) ++ get_or xs (from + n) d ∷ []
part_more xs from n d h =
    let e : n + 1 ≡ suc n = omega arith in
    let l = length-drop from xs in
    ap (λ k. take k (drop from xs)) e ∙ take-suc (drop from xs) n d (omega (arith, l))
    ∙ ap (λ y. take n (drop from xs) ++ y ∷ []) (get_or-drop from xs n d)

-- what is taken to the end of a list is all from the place on
pub part_all : {X : Type 0} (xs : List X) (from n : ℕ) → length xs ≤ n → take (n - from) (drop from xs) ≡ drop from xs
part_all xs from n h = let l = length-drop from xs in take_all (n - from) (drop from xs) (omega (arith, l))

-- names that agree below a bound rename faces below it alike
face_alike : (n : ℕ) (f g : ℕ → ℕ) → ((v : ℕ) → v < n → f v ≡ g v) → (face : List ℕ) →
    AllByRecursion (λ v. v < n) face → map f face ≡ map g face
face_alike n f g same [] h = refl
face_alike n f g same (v ∷ rest) h =
    ap (λ w. w ∷ map f rest) (same v h.0) ∙ ap (λ ws. g v ∷ ws) (face_alike n f g same rest h.1)

pub faces_alike : (n : ℕ) (f g : ℕ → ℕ) → ((v : ℕ) → v < n → f v ≡ g v) → (faces : List (List ℕ)) →
    AllByRecursion (AllByRecursion (λ v. v < n)) faces → map (map f) faces ≡ map (map g) faces
faces_alike n f g same [] h = refl
faces_alike n f g same (face ∷ rest) h =
    ap (λ x. x ∷ map (map f) rest) (face_alike n f g same face h.0)
    ∙ ap (λ xs. map g face ∷ xs) (faces_alike n f g same rest h.1)

own_face : (face : List ℕ) → map (λ v. v) face ≡ face
own_face [] = refl
own_face (v ∷ rest) = ap (λ xs. v ∷ xs) (own_face rest)

pub own_faces : (faces : List (List ℕ)) → map (map (λ v. v)) faces ≡ faces
own_faces [] = refl
own_faces (face ∷ rest) = ap (λ x. x ∷ map (map (λ v. v)) rest) (own_face face) ∙ ap (λ xs. face ∷ xs) (own_faces rest)

-- the numbers from 0 on differ and are below their count
pub range_inside : (n : ℕ) → All (λ v. v < n) (range_with_len 0 n)
range_inside n k d h =
    let in' : k < n = rw (length-range_with_len 0 n) at h in
    rw (get_or-range_with_len 0 n k d in') (omega arith)

pub range_differs : (n : ℕ) → AllPairs (λ u v. u ≢ v) (range_with_len 0 n)
range_differs n i j d lt h e =
    let in' : j < n = rw (length-range_with_len 0 n) at h in
    let a = get_or-range_with_len 0 n i d (omega arith) in
    let b = get_or-range_with_len 0 n j d in' in
    omega (arith, a, b, e)
