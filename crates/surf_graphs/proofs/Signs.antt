-- Turns are even or odd.
use Rattle.surf_z2.proofs.Common.{◌≡◌, ◌≢◌, ℕ, zero, suc, ◌<◌, Bool, true, false, not, ◌&&◌, ltb, refl, sym, ◌∙◌, ap, arith, inl, inr, xor, odd_below}
use Rattle.std.proofs.lemmas.Bool.{cases_eq, cases_lt, lt-ltb, le-ltb}
use Rattle.surf_graphs.specs.Rounds.{IsTurn}
use Rattle.surf_z2.proofs.ParityLaws.{xors, xor_equal, xor-and, and-xor, and-false, odd_below-same, odd_below-none, odd_below-xor}
use Rattle.surf_graphs.proofs.Sides.{odd_turned}

-- the sum over all pairs below n
abbrev pub pairs : ℕ → (ℕ → ℕ → Bool) → Bool
pairs n f = odd_below n (λ j. odd_below n (λ i. f i j))

square : (a b x y : Bool) → a ≡ false → x ≡ false → y ≡ b → xor (xor a b) (xor y x) ≡ false
square a b x y ha hx hy = rw (ha, hx, hy) (xor-same_false b)
  where
    xor-same_false : (b : Bool) → xor b (xor b false) ≡ false
    xor-same_false b = simp xors

-- where each pair counts as its reverse does, and no number counts with itself, the sum is even
pub pairs_even : (n : ℕ) (f : ℕ → ℕ → Bool) → ((i j : ℕ) → i < n → j < n → f i j ≡ f j i) →
    ((i : ℕ) → i < n → f i i ≡ false) → pairs n f ≡ false
pairs_even zero f turned none = refl
pairs_even (suc n) f turned none =
    let inner : pairs n f ≡ false = pairs_even n f (λ i j li lj. turned i j (omega arith) (omega arith))
    (λ i l. none i (omega arith)) in
    let across : odd_below n (λ j. f n j) ≡ odd_below n (λ i. f i n) =
    odd_below-same n (λ j. f n j) (λ i. f i n) (λ i l. turned n i (omega arith) (omega arith)) in
    ap (xor (xor (f n n) (odd_below n (λ i. f i n)))) (odd_below-xor n (λ j. f n j) (λ j. odd_below n (λ i. f i j)))
    ∙ square (f n n) (odd_below n (λ i. f i n)) (pairs n f) (odd_below n (λ j. f n j))
    (none n (omega arith)) inner across

-- the sum over the pairs i below j
abbrev pub half : ℕ → (ℕ → ℕ → Bool) → Bool
half n f = pairs n (λ i j. ltb i j && f i j)

-- whether turn puts an odd number of pairs out of order
abbrev pub is_odd : ℕ → (ℕ → ℕ) → Bool
is_odd n turn = half n (λ i j. ltb (turn j) (turn i))

-- whether turn puts the pair out of order, whichever way it is written
abbrev crossed : (ℕ → ℕ) → ℕ → ℕ → Bool
crossed turn a b = xor (ltb a b) (ltb (turn a) (turn b))

ltb_other : (a b : ℕ) → a ≢ b → ltb b a ≡ not (ltb a b)
ltb_other a b ne = elim (cases_lt a b) [
  | inl below ↦ rw (lt-ltb a b below, le-ltb b a (omega arith))
  | inr above ↦ rw (le-ltb a b above, lt-ltb b a (omega arith))
]

ltb_self : (a : ℕ) → ltb a a ≡ false
ltb_self a = le-ltb a a (omega arith)

-- a sum over half of the pairs, each taken in one order, does not depend on the order
pub pairs_order : (n : ℕ) (r q s : ℕ → ℕ → Bool) → ((i j : ℕ) → i < n → j < n → i ≢ j → r j i ≡ not (r i j)) →
    ((i j : ℕ) → i < n → j < n → i ≢ j → q j i ≡ not (q i j)) →
    ((i j : ℕ) → i < n → j < n → s i j ≡ s j i) → ((i : ℕ) → i < n → s i i ≡ false) →
    pairs n (λ i j. r i j && s i j) ≡ pairs n (λ i j. q i j && s i j)
pairs_order n r q s r_other q_other s_turned s_none =
    xor_equal (pairs n (λ i j. r i j && s i j)) (pairs n (λ i j. q i j && s i j)) (sym both ∙ even)
  where
    both : pairs n (λ i j. xor (r i j) (q i j) && s i j) ≡ xor (pairs n (λ i j. r i j && s i j))
        (pairs n (λ i j. q i j && s i j))
    both = odd_below-same n (λ j. odd_below n (λ i. xor (r i j) (q i j) && s i j))
        (λ j. xor (odd_below n (λ i. r i j && s i j)) (odd_below n (λ i. q i j && s i j))) (λ j l.
        odd_below-same n (λ i. xor (r i j) (q i j) && s i j) (λ i. xor (r i j && s i j) (q i j && s i j))
        (λ i li. xor-and (r i j) (q i j) (s i j)) ∙ odd_below-xor n (λ i. r i j && s i j) (λ i. q i j && s i j))
        ∙ odd_below-xor n (λ j. odd_below n (λ i. r i j && s i j)) (λ j. odd_below n (λ i. q i j && s i j))

    flip : (a b : Bool) → xor a b ≡ xor (not a) (not b)
    flip true b = not_not b
      where
        not_not : (b : Bool) → not b ≡ not b
        not_not b = refl
    flip false true = refl
    flip false false = refl

    even : pairs n (λ i j. xor (r i j) (q i j) && s i j) ≡ false
    even = pairs_even n (λ i j. xor (r i j) (q i j) && s i j)
        (λ i j li lj. elim (cases_eq i j) [
          | inl same ↦ rw same
          | inr ne ↦ rw (s_turned i j li lj, r_other i j li lj ne, q_other i j li lj ne)
              (ap (λ x. x && s j i) (flip (r i j) (q i j)))
        ])
        (λ i l. rw (s_none i l) (and-false (xor (r i i) (q i i))))

turn_apart : (n : ℕ) (p b : ℕ → ℕ) → IsTurn n p b → (i j : ℕ) → i < n → j < n → i ≢ j → p i ≢ p j
turn_apart n p b ok i j li lj ne = λ e. ne (sym (ok.back_turn i li) ∙ (ap b e ∙ ok.back_turn j lj))

pub turn_other : (n : ℕ) (p b : ℕ → ℕ) → IsTurn n p b → IsTurn n b p
turn_other n p b ok =
    record { turn_in = ok.back_in; back_in = ok.turn_in; back_turn = ok.turn_back; turn_back = ok.back_turn }

pub turn_after : (n : ℕ) (p pb q qb : ℕ → ℕ) → IsTurn n p pb → IsTurn n q qb → IsTurn n (λ i. p (q i)) (λ i. qb (pb i))
turn_after n p pb q qb hp hq = record {
  turn_in = λ i l. hp.turn_in (q i) (hq.turn_in i l);
  back_in = λ i l. hq.back_in (pb i) (hp.back_in i l);
  back_turn = λ i l. ap qb (hp.back_turn (q i) (hq.turn_in i l)) ∙ hq.back_turn i l;
  turn_back = λ i l. ap p (hq.turn_back (pb i) (hp.back_in i l)) ∙ hp.turn_back i l;
}

nots : (x y : Bool) → xor (not x) (xor x y) ≡ not y
nots true true = refl
nots true false = refl
nots false y = refl

pub nots_both : (a b : Bool) → xor (not a) (not b) ≡ xor a b
nots_both true true = refl
nots_both true false = refl
nots_both false true = refl
nots_both false false = refl

crossed_turned : (p b : ℕ → ℕ) (n : ℕ) → IsTurn n p b → (i j : ℕ) → i < n → j < n → crossed p i j ≡ crossed p j i
crossed_turned p b n ok i j li lj = elim (cases_eq i j) [
  | inl same ↦ rw same
  | inr ne ↦ sym (rw (ltb_other i j ne, ltb_other (p i) (p j) (turn_apart n p b ok i j li lj ne))
      (nots_both (ltb i j) (ltb (p i) (p j))))
]

crossed_self : (p : ℕ → ℕ) (i : ℕ) → crossed p i i ≡ false
crossed_self p i = rw (ltb_self i, ltb_self (p i))

pairs_same : (n : ℕ) (f g : ℕ → ℕ → Bool) → ((i j : ℕ) → i < n → j < n → f i j ≡ g i j) → pairs n f ≡ pairs n g
pairs_same n f g h = odd_below-same n (λ j. odd_below n (λ i. f i j)) (λ j. odd_below n (λ i. g i j))
    (λ j lj. odd_below-same n (λ i. f i j) (λ i. g i j) (λ i li. h i j li lj))

pairs-xor : (n : ℕ) (f g : ℕ → ℕ → Bool) → pairs n (λ i j. xor (f i j) (g i j)) ≡ xor (pairs n f) (pairs n g)
pairs-xor n f g = odd_below-same n (λ j. odd_below n (λ i. xor (f i j) (g i j)))
    (λ j. xor (odd_below n (λ i. f i j)) (odd_below n (λ i. g i j))) (λ j l. odd_below-xor n (λ i. f i j) (λ i. g i j))
    ∙ odd_below-xor n (λ j. odd_below n (λ i. f i j)) (λ j. odd_below n (λ i. g i j))

-- pairs in another order
pairs_turned : (n : ℕ) (q qb : ℕ → ℕ) → IsTurn n q qb → (f : ℕ → ℕ → Bool) → pairs n (λ i j. f (q i) (q j)) ≡ pairs n f
pairs_turned n q qb ok f =
    let within : (i : ℕ) → i < n → (q i < n) × (qb i < n) = λ i l. (ok.turn_in i l, ok.back_in i l) in
    let back : (i : ℕ) → i < n → (q (qb i) ≡ i) × (qb (q i) ≡ i) = λ i l. (ok.turn_back i l, ok.back_turn i l) in
    odd_below-same n (λ j. odd_below n (λ i. f (q i) (q j))) (λ j. odd_below n (λ i. f i (q j)))
    (λ j l. odd_turned n q qb (λ a. f a (q j)) within back)
    ∙ odd_turned n q qb (λ b. odd_below n (λ i. f i b)) within back

-- the sign of one turn after another
pub is_odd_after : (n : ℕ) (p pb q qb : ℕ → ℕ) → IsTurn n p pb → IsTurn n q qb →
    is_odd n (λ i. p (q i)) ≡ xor (is_odd n q) (is_odd n p)
is_odd_after n p pb q qb hp hq =
    pairs_same n (λ i j. ltb i j && ltb (p (q j)) (p (q i)))
    (λ i j. xor (ltb i j && ltb (q j) (q i)) (ltb i j && crossed p (q i) (q j))) (λ i j li lj. elim (cases_eq i j) [
      | inl same ↦ rw (same, ltb_self j)
      | inr ne ↦
          let qne : q i ≢ q j = turn_apart n q qb hq i j li lj ne in
          let pne : p (q i) ≢ p (q j) = turn_apart n p pb hp (q i) (q j) (hq.turn_in i li) (hq.turn_in j lj) qne in
          ap (λ x. ltb i j && x)
          (ltb_other (p (q i)) (p (q j)) pne ∙
          (sym (nots (ltb (q i) (q j)) (ltb (p (q i)) (p (q j)))) ∙ ap (λ x. xor x (crossed p (q i) (q j)))
          (sym (ltb_other (q i) (q j) qne))))
          ∙ and-xor (ltb i j) (ltb (q j) (q i)) (crossed p (q i) (q j))
    ])
    ∙ (pairs-xor n (λ i j. ltb i j && ltb (q j) (q i)) (λ i j. ltb i j && crossed p (q i) (q j))
    ∙ ap (xor (is_odd n q))
    (pairs_same n (λ i j. ltb i j && crossed p (q i) (q j)) (λ i j. ltb (qb (q i)) (qb (q j)) && crossed p (q i) (q j))
    (λ i j li lj. rw (hq.back_turn i li, hq.back_turn j lj))
    ∙ (pairs_turned n q qb hq (λ a b. ltb (qb a) (qb b) && crossed p a b)
    ∙ (pairs_order n (λ a b. ltb (qb a) (qb b)) ltb (crossed p)
    (λ i j li lj ne. ltb_other (qb i) (qb j) (turn_apart n qb q (turn_other n q qb hq) i j li lj ne))
    (λ i j li lj ne. ltb_other i j ne)
    (crossed_turned p pb n hp) (λ i l. crossed_self p i)
    ∙ pairs_same n (λ i j. ltb i j && crossed p i j) (λ i j. ltb i j && ltb (p j) (p i))
    (λ i j li lj. elim (cases_lt i j) [
      | inl below ↦ rw (lt-ltb i j below) (sym (ltb_other (p i) (p j) (turn_apart n p pb hp i j li lj (omega arith))))
      | inr above ↦ rw (le-ltb i j above)
    ])))))

pub is_odd_same : (n : ℕ) (p q : ℕ → ℕ) → ((i : ℕ) → i < n → p i ≡ q i) → is_odd n p ≡ is_odd n q
is_odd_same n p q h = pairs_same n (λ i j. ltb i j && ltb (p j) (p i)) (λ i j. ltb i j && ltb (q j) (q i))
    (λ i j li lj. rw (h i li, h j lj))

is_odd_none : (n : ℕ) → is_odd n (λ i. i) ≡ false
is_odd_none n = odd_below-none n (λ j. odd_below n (λ i. ltb i j && ltb j i))
    (λ j l. odd_below-none n (λ i. ltb i j && ltb j i) (λ i li. elim (cases_lt i j) [
      | inl below ↦ rw (lt-ltb i j below, le-ltb j i (omega arith))
      | inr above ↦ rw (le-ltb i j above)
    ]))

-- the sign of a turn seen through a table is its own
pub is_odd_through : (n : ℕ) (p pb t tb : ℕ → ℕ) → IsTurn n p pb → IsTurn n t tb →
    is_odd n (λ i. tb (p (t i))) ≡ is_odd n p
is_odd_through n p pb t tb hp ht =
    let back = turn_other n t tb ht in
    let whole : is_odd n (λ i. tb (p (t i))) ≡ xor (is_odd n (λ i. p (t i))) (is_odd n tb) =
    is_odd_after n tb t (λ i. p (t i)) (λ i. tb (pb i)) back (turn_after n p pb t tb hp ht) in
    let part : is_odd n (λ i. p (t i)) ≡ xor (is_odd n t) (is_odd n p) = is_odd_after n p pb t tb hp ht in
    let none : xor (is_odd n t) (is_odd n tb) ≡ false =
    sym (is_odd_after n tb t t tb back ht) ∙ (is_odd_same n (λ i. tb (t i)) (λ i. i) ht.back_turn ∙ is_odd_none n) in
    whole ∙ (rw (part, ← xor_equal (is_odd n t) (is_odd n tb) none) (around (is_odd n t) (is_odd n p)))
  where
    around : (a b : Bool) → xor (xor a b) a ≡ b
    around a b = simp xors
