-- Laws of edges: their order, which pairs they are, and their numbers.
use Rattle.surf_surfaces.proofs.Common.{◌≡◌, ℕ, zero, suc, ◌+◌, ◌<◌, Bool, true, false, ◌&&◌, ◌||◌, eqb, List, [], ◌∷◌, ◌++◌, length, get_or, map, refl, sym, ap, ◌∙◌, arith, inl, inr, AllPairs, Contains, AllByRecursion, list_any, flat_map, eq-eqb, ne_eqb, cases_eq, cases_Bool, false_from_ne_true, or_cases, or_right, or_left, true≢false, All-from_recursion, recursion_from_All, odd_below, edge_count, ends, has_side, place_of, position_or_len_is, Mesh, sides, pair_of, pair_eq, pair_lt, insert_pair, sorted_pairs, among, edges, odd_below-one, odd_below-same}
use Rattle.surf_surfaces.proofs.meshes.PairLaws.{Rising, sorted_pairs-rise, pair_eq-true, pair_eq-self, pair_eq-same, pair_eq-other, pair_eq_comm, pair_lt-irreflexive, pair_lt-trans}

or_assoc : (a b c : Bool) → ((a || b) || c) ≡ (a || (b || c))
or_assoc true b c = refl
or_assoc false b c = refl

or_swap : (a b c : Bool) → (a || (b || c)) ≡ (b || (a || c))
or_swap true true c = refl
or_swap true false c = refl
or_swap false b c = refl

or_twice : (a b : Bool) → (a || b) ≡ (a || (a || b))
or_twice true b = refl
or_twice false b = refl

-- one more pair is in the list, and no other
pub among-insert : (p q : ℕ × ℕ) (xs : List (ℕ × ℕ)) → among p (insert_pair q xs) ≡ (pair_eq p q || among p xs)
among-insert p q [] = refl
among-insert p q (r ∷ rest) = elim (cases_Bool (pair_lt q r)) [
  | inl lt ↦ rw lt
  | inr above ↦ rw above (elim (cases_Bool (pair_eq q r)) [
    | inl eq ↦ rw (eq, pair_eq-true q r eq) (or_twice (pair_eq p r) (among p rest))
    | inr ne ↦ rw ne (ap (λ t. pair_eq p r || t) (among-insert p q rest) ∙ or_swap (pair_eq p r) (pair_eq p q)
        (among p rest))
  ])
]

pub among-sorted : (p : ℕ × ℕ) (xs : List (ℕ × ℕ)) → among p (sorted_pairs xs) ≡ among p xs
among-sorted p [] = refl
among-sorted p (x ∷ xs) = among-insert p x (sorted_pairs xs) ∙ ap (λ t. pair_eq p x || t) (among-sorted p xs)

pub list_any-append : {X : Type 0} (test : X → Bool) (xs ys : List X) →
    list_any test (xs ++ ys) ≡ (list_any test xs || list_any test ys)
list_any-append test [] ys = refl
list_any-append test (x ∷ xs) ys =
    ap (λ t. test x || t) (list_any-append test xs ys) ∙ sym (or_assoc (test x) (list_any test xs) (list_any test ys))

pub list_any-map : {X Y : Type 0} (test : Y → Bool) (f : X → Y) (xs : List X) →
    list_any test (map f xs) ≡ list_any (λ x. test (f x)) xs
list_any-map test f [] = refl
list_any-map test f (x ∷ xs) = ap (λ t. test (f x) || t) (list_any-map test f xs)

pub list_any-flat_map : {X Y : Type 0} (test : Y → Bool) (f : X → List Y) (xs : List X) →
    list_any test (flat_map f xs) ≡ list_any (λ x. list_any test (f x)) xs
list_any-flat_map test f [] = refl
list_any-flat_map test f (x ∷ xs) = list_any-append test (f x) (flat_map f xs) ∙ ap (λ t. list_any test (f x) || t)
    (list_any-flat_map test f xs)

-- a pair is an edge where it is a side of some face
pub among-edges : (mesh : Mesh) (p : ℕ × ℕ) → among p (edges mesh) ≡ list_any (has_side p) mesh.faces
among-edges mesh p =
    among-sorted p (map pair_of (flat_map sides mesh.faces))
    ∙ list_any-map (pair_eq p) pair_of (flat_map sides mesh.faces)
    ∙ list_any-flat_map (λ s. pair_eq p (pair_of s)) sides mesh.faces

-- the place where a test passes, and a test that passes at a place
pub list_any_at : {X : Type 0} (test : X → Bool) (xs : List X) (d : X) → list_any test xs ≡ true →
    (k : ℕ) × (k < length xs) × (test (get_or xs k d) ≡ true)
list_any_at test [] d h = absurd (true≢false (sym h))
list_any_at test (x ∷ xs) d h = elim (or_cases (test x) (list_any test xs) h) [
  | inl here ↦ (zero, omega arith, here)
  | inr later ↦ let r = list_any_at test xs d later in (suc r.0, omega arith, r.2)
]

pub list_any_from : {X : Type 0} (test : X → Bool) (xs : List X) (d : X) (k : ℕ) → k < length xs →
    test (get_or xs k d) ≡ true → list_any test xs ≡ true
list_any_from test [] d k h e = absurd (omega arith)
list_any_from test (x ∷ xs) d zero h e = or_left (test x) (list_any test xs) e
list_any_from test (x ∷ xs) d (suc k) h e =
    or_right (test x) (list_any test xs) (list_any_from test xs d k (omega arith) e)

pub among-contains : (p : ℕ × ℕ) (xs : List (ℕ × ℕ)) → Contains xs p → among p xs ≡ true
among-contains p xs c = list_any_from (pair_eq p) xs p c.0 c.1 (pair_eq-same p (get_or xs c.0 p) (sym c.2))

pub contains_from_among : (p : ℕ × ℕ) (xs : List (ℕ × ℕ)) → among p xs ≡ true → Contains xs p
contains_from_among p xs h = let r = list_any_at (pair_eq p) xs p h in
    (r.0, r.1, sym (pair_eq-true p (get_or xs r.0 p) r.2))

-- in a rising list the earlier of two places has the lesser pair
pub rising_at : (xs : List (ℕ × ℕ)) → Rising xs → AllPairs (λ p q. pair_lt p q ≡ true) xs
rising_at [] h i j d lt in' = absurd (omega arith)
rising_at (x ∷ xs) h i zero d lt in' = absurd (omega arith)
rising_at (x ∷ xs) h zero (suc j) d lt in' = All-from_recursion (λ q. pair_lt x q ≡ true) xs h.0 j d (omega arith)
rising_at (x ∷ xs) h (suc i) (suc j) d lt in' = rising_at xs h.1 i j d (omega arith) (omega arith)

-- a pair that is in a list stands at its place
pub place_of-among : (p : ℕ × ℕ) (xs : List (ℕ × ℕ)) (d : ℕ × ℕ) → among p xs ≡ true →
    (place_of p xs < length xs) × (get_or xs (place_of p xs) d ≡ p)
place_of-among p [] d h = absurd (true≢false (sym h))
place_of-among p (x ∷ xs) d h = elim (cases_Bool (pair_eq p x)) [
  | inl e ↦ rw e (omega arith, sym (pair_eq-true p x e))
  | inr e ↦
      let r = place_of-among p xs d (rw e at h) in
      rw (e, one_more (place_of p xs)) (omega (arith, r.0), r.1)
]
  where
    one_more : (n : ℕ) → 1 + n ≡ suc n
    one_more n = omega arith

-- in a rising list each place is the place of what stands there
pub place_of-rising : (xs : List (ℕ × ℕ)) (d : ℕ × ℕ) (e : ℕ) → Rising xs → e < length xs →
    place_of (get_or xs e d) xs ≡ e
place_of-rising xs d e rises h =
    position_or_len_is (pair_eq (get_or xs e d)) xs e d (omega arith)
    (λ k below. pair_eq-other (get_or xs e d) (get_or xs k d)
    (λ same. pair_lt-irreflexive (get_or xs k d) (get_or xs e d) (rising_at xs rises k e d below h) (sym same)))
    (λ in'. pair_eq-self (get_or xs e d))

pub edges-rise : (mesh : Mesh) → Rising (edges mesh)
edges-rise mesh = sorted_pairs-rise (map pair_of (flat_map sides mesh.faces))

pub place_of-ends : (mesh : Mesh) (e : ℕ) → e < edge_count mesh → place_of (ends mesh e) (edges mesh) ≡ e
place_of-ends mesh e h = place_of-rising (edges mesh) (0, 0) e (edges-rise mesh) h

-- the edge with the ends p is that of p's number
pub ends-eq : (mesh : Mesh) (p : ℕ × ℕ) (e : ℕ) → among p (edges mesh) ≡ true → e < edge_count mesh →
    pair_eq (ends mesh e) p ≡ eqb e (place_of p (edges mesh))
ends-eq mesh p e h in' = elim (cases_eq e (place_of p (edges mesh))) [
  | inl same ↦ pair_eq-same (ends mesh e) p (ap (ends mesh) same ∙ (place_of-among p (edges mesh) (0, 0) h).1) ∙ sym
      (eq-eqb e (place_of p (edges mesh)) same)
  | inr other ↦ pair_eq-other (ends mesh e) p
      (λ same. other (sym (place_of-ends mesh e in') ∙ ap (λ q. place_of q (edges mesh)) same)) ∙ sym
      (ne_eqb e (place_of p (edges mesh)) other)
]

-- over all edges, the one with the ends p is picked
pub odd_below-ends : (mesh : Mesh) (p : ℕ × ℕ) (g : ℕ × ℕ → Bool) → among p (edges mesh) ≡ true →
    odd_below (edge_count mesh) (λ e. pair_eq (ends mesh e) p && g (ends mesh e)) ≡ g p
odd_below-ends mesh p g h =
    odd_below-same (edge_count mesh) (λ e. pair_eq (ends mesh e) p && g (ends mesh e))
    (λ e. eqb e (place_of p (edges mesh)) && g (ends mesh e))
    (λ e in'. ap (λ t. t && g (ends mesh e)) (ends-eq mesh p e h in'))
    ∙ odd_below-one (edge_count mesh) (place_of p (edges mesh)) (λ e. g (ends mesh e))
    (place_of-among p (edges mesh) (0, 0) h).0
    ∙ ap g (place_of-among p (edges mesh) (0, 0) h).1

pub rising_from_AllPairs : (xs : List (ℕ × ℕ)) → AllPairs (λ p q. pair_lt p q ≡ true) xs → Rising xs
rising_from_AllPairs [] h = tt
rising_from_AllPairs (x ∷ xs) h = (
  recursion_from_All (λ q. pair_lt x q ≡ true) xs (λ k d in'. h zero (suc k) d (omega arith) (omega arith)),
  rising_from_AllPairs xs (λ i j d lt in'. h (suc i) (suc j) d (omega arith) (omega arith)),
)

-- what is listed after a pair in a rising list is greater
later_greater : (x p : ℕ × ℕ) (xs : List (ℕ × ℕ)) → AllByRecursion (λ q. pair_lt x q ≡ true) xs → among p xs ≡ true →
    pair_lt x p ≡ true
later_greater x p xs h has =
    let r = list_any_at (pair_eq p) xs (0, 0) has in
    rw (pair_eq-true p (get_or xs r.0 (0, 0)) r.2) (All-from_recursion (λ q. pair_lt x q ≡ true) xs h r.0 (0, 0) r.1)

later_absent : (x : ℕ × ℕ) (xs : List (ℕ × ℕ)) → AllByRecursion (λ q. pair_lt x q ≡ true) xs → among x xs ≡ false
later_absent x xs h = false_from_ne_true (among x xs) (λ has. pair_lt-irreflexive x x (later_greater x x xs h has) refl)

-- rising lists of the same pairs are one list
pub rising_unique : (xs ys : List (ℕ × ℕ)) → Rising xs → Rising ys → ((p : ℕ × ℕ) → among p xs ≡ among p ys) → xs ≡ ys
rising_unique [] [] h k same = refl
rising_unique [] (y ∷ ys) h k same =
    absurd (true≢false (sym (or_left (pair_eq y y) (among y ys) (pair_eq-self y)) ∙ sym (same y)))
rising_unique (x ∷ xs) [] h k same =
    absurd (true≢false (sym (or_left (pair_eq x x) (among x xs) (pair_eq-self x)) ∙ same x))
rising_unique (x ∷ xs) (y ∷ ys) h k same = elim (cases_Bool (pair_eq x y)) [
  | inl e ↦
      let heads : x ≡ y = pair_eq-true x y e in
      let tails : (p : ℕ × ℕ) → among p xs ≡ among p ys = λ p. elim (cases_Bool (pair_eq p x)) [
        | inl is ↦
            let at : p ≡ x = pair_eq-true p x is in
            ap (λ q. among q xs) at ∙ later_absent x xs h.0 ∙ sym (later_absent y ys k.0) ∙ ap (λ q. among q ys)
            (sym heads ∙ sym at)
        | inr not_is ↦
            let not_y : pair_eq p y ≡ false = ap (pair_eq p) (sym heads) ∙ not_is in
            let both : (pair_eq p x || among p xs) ≡ (pair_eq p y || among p ys) = same p in
            rw (not_is, not_y) at both
      ] in
      rw (heads, rising_unique xs ys h.1 k.1 tails)
  | inr e ↦
      let x_later : among x ys ≡ true = rw e at (sym (same x) ∙ or_left (pair_eq x x) (among x xs) (pair_eq-self x)) in
      let y_later : among y xs ≡ true =
      rw (pair_eq_comm y x ∙ e) at (same y ∙ or_left (pair_eq y y) (among y ys) (pair_eq-self y)) in
      absurd (pair_lt-irreflexive x x
      (pair_lt-trans x y x (later_greater x y xs h.0 y_later) (later_greater y x ys k.0 x_later)) refl)
]

-- the edges are the one rising list of the sides of faces
pub edges_unique : (mesh : Mesh) (xs : List (ℕ × ℕ)) → AllPairs (λ p q. pair_lt p q ≡ true) xs →
    ((p : ℕ × ℕ) → among p xs ≡ list_any (has_side p) mesh.faces) → xs ≡ edges mesh
edges_unique mesh xs rises same =
    rising_unique xs (edges mesh) (rising_from_AllPairs xs rises) (edges-rise mesh)
    (λ p. same p ∙ sym (among-edges mesh p))
