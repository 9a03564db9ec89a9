-- A turn's sign, by its number of rounds.
use Rattle.surf_surfaces.proofs.Common.{◌≡◌, ◌≢◌, ℕ, zero, suc, ◌+◌, ◌<◌, Bool, true, false, cond, not, ◌&&◌, eqb, refl, sym, ◌∙◌, ap, arith, inl, inr, cases_eq, eq-eqb, ne_eqb, eqb-true, false≢true, false_from_ne_true, xor, any_below, count_below, IsTurn, xors, xor-same, and-true, any_below-found, any_below-from, count_below-same, count_below-none, count_below-all, count_below-without}
use Rattle.surf_graphs.proofs.Signs.{is_odd, is_odd_same, is_odd_after, turn_after}
use Rattle.surf_graphs.proofs.Rounds.{par, par-suc, par-zero, par-add, par_half}
use Rattle.surf_orientation.specs.Names.{NamesRounds}
use Rattle.surf_orientation.specs.Statements.{NamedRoundsAreEven}
use Rattle.surf_orientation.proofs.Swaps.{swap, swap-first, swap-second, swap-other, swap_turn, swap_odd, is_odd-stays}

-- whether one of the n things has the name
abbrev used : ℕ → (ℕ → ℕ) → ℕ → Bool
used n name c = any_below n (λ i. eqb (name i) c)

-- as NamesRounds, where not each name need be used
record Names (n : ℕ) (turn : ℕ → ℕ) (names : ℕ) (name : ℕ → ℕ) : Type 0 where
  name_in : (i : ℕ) → i < n → name i < names
  kept : (i : ℕ) → i < n → name (turn i) ≡ name i
  joined : (set : ℕ → Bool) → ((i : ℕ) → i < n → set (turn i) ≡ set i) → (i j : ℕ) → i < n → j < n → name i ≡ name j →
      set i ≡ set j

-- of a turn that leaves the last thing where it is, the turn of the others
others_turn : (n : ℕ) (turn back : ℕ → ℕ) → IsTurn (suc n) turn back → turn n ≡ n → IsTurn n turn back
others_turn n turn back ok stays =
    let back_stays : back n ≡ n = sym (ap back stays) ∙ ok.back_turn n (omega arith) in
    record {
      turn_in = λ i l. let in' = ok.turn_in i (omega arith) in let moves : turn i ≢ n = λ e. let same : i ≡ n =
          sym (ok.back_turn i (omega arith)) ∙ ap back e ∙ back_stays in omega arith in omega (arith, in', moves);
      back_in = λ i l. let in' = ok.back_in i (omega arith) in let moves : back i ≢ n = λ e. let same : i ≡ n =
          sym (ok.turn_back i (omega arith)) ∙ ap turn e ∙ stays in omega arith in omega (arith, in', moves);
      back_turn = λ i l. ok.back_turn i (omega arith);
      turn_back = λ i l. ok.turn_back i (omega arith);
    }

not-xor : (a b : Bool) → not (xor a b) ≡ xor (not a) b
not-xor true true = refl
not-xor true false = refl
not-xor false b = refl

-- a further round, of one thing
round_of_one : (a b : Bool) → xor a b ≡ xor (not a) (not b)
round_of_one true true = refl
round_of_one true false = refl
round_of_one false true = refl
round_of_one false false = refl

xor-true : (a b : Bool) → b ≡ xor a true → a ≡ not b
xor-true true b h = ap not (sym h)
xor-true false b h = ap not (sym h)

names_sign : (n m : ℕ) (turn back name : ℕ → ℕ) → IsTurn n turn back → Names n turn m name →
    is_odd n turn ≡ xor (par n) (par (count_below m (used n name)))
names_sign zero m turn back name ok names = sym (rw (count_below-none m (used 0 name) (λ c l. refl), par-zero))
names_sign (suc n) m turn back name ok names = elim (cases_eq (turn n) n) [
  | inl stays ↦
      let rest = others_turn n turn back ok stays in
      let earlier = names_sign n m turn back name rest (record {
        name_in = λ i l. names.name_in i (omega arith);
        kept = λ i l. names.kept i (omega arith);
        joined = λ set closed i j li lj same. names.joined set
            (λ k l. elim (cases_eq k n) [ inl e ↦ rw e (ap set stays) | inr e ↦ closed k (omega arith) ]) i j
            (omega arith) (omega arith) same;
      }) in
      let fresh : (i : ℕ) → i < n → name i ≢ name n = λ i l same.
      let alone = names.joined (λ k. eqb k n) (λ k lk. elim (cases_eq k n) [
        | inl e ↦ rw (e, stays)
        | inr e ↦ let in' = rest.turn_in k (omega arith) in
            rw (ne_eqb k n e, ne_eqb (turn k) n (λ f. omega (arith, in', f)))
      ]) i n (omega arith) (omega arith) same in
      false≢true (sym (ne_eqb i n (λ f. omega arith)) ∙ alone ∙ eq-eqb n n refl) in
      let one_more : count_below m (used (suc n) name) ≡ suc (count_below m (used n name)) =
      count_below-without m (name n) (used (suc n) name) (names.name_in n (omega arith))
      (rw (eq-eqb (name n) (name n) refl))
      ∙ ap suc (count_below-same m (λ c. used (suc n) name c && not (eqb (name n) c)) (used n name)
      (λ c l. elim (cases_eq (name n) c) [
        | inl e ↦ rw (eq-eqb (name n) c e)
            (sym (false_from_ne_true (used n name c) (λ h. let (i, li, is) = any_below-found n (λ k. eqb (name k) c) h in
            fresh i li (eqb-true (name i) c is ∙ sym e))))
        | inr e ↦ rw (ne_eqb (name n) c e) (and-true (used n name c))
      ])) in
      is_odd-stays n turn stays rest.turn_in ∙ earlier ∙ round_of_one (par n) (par (count_below m (used n name)))
      ∙ ap (λ t. xor t (not (par (count_below m (used n name))))) (sym (par-suc n))
      ∙ ap (xor (par (suc n))) (sym (ap par one_more ∙ par-suc (count_below m (used n name))))
  | inr moves ↦
      let a = turn n in
      let in' : a < suc n = ok.turn_in n (omega arith) in
      let below : a < n = omega (arith, in', moves) in
      let s = swap a n in
      let swaps = swap_turn n a below in
      let next : ℕ → ℕ = λ i. s (turn i) in
      let prev : ℕ → ℕ = λ i. back (s i) in
      let both = turn_after (suc n) s s turn back swaps ok in
      let stays : next n ≡ n = swap-first a n in
      let rest = others_turn n next prev both stays in
      let alike : name n ≡ name a = sym (names.kept n (omega arith)) in
      let name_swap : (x : ℕ) → name (s x) ≡ name x = λ x. elim (cases_eq x a) [
        | inl e ↦ rw e (ap name (swap-first a n) ∙ alike)
        | inr e ↦ elim (cases_eq x n) [
          | inl f ↦ rw f (ap name (swap-second a n moves) ∙ sym alike)
          | inr f ↦ ap name (swap-other a n x e f)
        ]
      ] in
      let not_a : (i : ℕ) → i < n → turn i ≢ a = λ i l e. let same : i ≡ n =
      sym (ok.back_turn i (omega arith)) ∙ ap back e ∙ ok.back_turn n (omega arith) in omega arith in
      let earlier = names_sign n m next prev name rest (record {
        name_in = λ i l. names.name_in i (omega arith);
        kept = λ i l. name_swap (turn i) ∙ names.kept i (omega arith);
        joined = λ set closed i j li lj same.
            let wide : ℕ → Bool = λ k. cond (eqb k n) (set a) (set k) in
            let old : (k : ℕ) → k < n → wide k ≡ set k = λ k l. rw (ne_eqb k n (λ e. omega arith)) in
            let at_n : wide n ≡ set a = rw (eq-eqb n n refl) in
            let wide_closed : (k : ℕ) → k < suc n → wide (turn k) ≡ wide k = λ k l. elim (cases_eq k n) [
              | inl e ↦ rw e (old a below ∙ sym at_n)
              | inr e ↦
                  let lk : k < n = omega arith in
                  let step : set (next k) ≡ set k = closed k lk in
                  let to = ok.turn_in k l in
                  elim (cases_eq (turn k) n) [
                    | inl f ↦ ap wide f ∙ at_n ∙ sym (ap set (ap s f ∙ swap-second a n moves)) ∙ step ∙ sym (old k lk)
                    | inr f ↦ old (turn k) (omega (arith, to, f)) ∙ sym
                        (ap set (swap-other a n (turn k) (not_a k lk) f)) ∙ step ∙ sym (old k lk)
                  ]
            ] in
            sym (old i li) ∙ names.joined wide wide_closed i j (omega arith) (omega arith) same ∙ old j lj;
      }) in
      let as_many : count_below m (used (suc n) name) ≡ count_below m (used n name) =
      count_below-same m (used (suc n) name) (used n name) (λ c l. elim (cases_eq (name n) c) [
        | inl e ↦ rw (eq-eqb (name n) c e)
            (sym (any_below-from n (λ i. eqb (name i) c) a below (eq-eqb (name a) c (sym alike ∙ e))))
        | inr e ↦ rw (ne_eqb (name n) c e)
      ]) in
      let swapped : is_odd (suc n) next ≡ xor (is_odd (suc n) turn) true =
      is_odd_after (suc n) s s turn back swaps ok ∙ ap (xor (is_odd (suc n) turn)) (swap_odd n a below) in
      xor-true (is_odd (suc n) turn) (is_odd (suc n) next) swapped
      ∙ ap not (is_odd-stays n next stays rest.turn_in ∙ earlier)
      ∙ not-xor (par n) (par (count_below m (used n name)))
      ∙ ap (λ t. xor t (par (count_below m (used n name)))) (sym (par-suc n))
      ∙ ap (λ t. xor (par (suc n)) (par t)) (sym as_many)
]

-- the sign of a turn, by the number of its rounds
pub rounds_named_sign : (n : ℕ) (turn back : ℕ → ℕ) (names : ℕ) (name : ℕ → ℕ) → IsTurn n turn back →
    NamesRounds n turn names name → is_odd n turn ≡ xor (par n) (par names)
rounds_named_sign n turn back names name ok r =
    let all : count_below names (used n name) ≡ names =
    count_below-same names (used n name) (λ c. true) (λ c l. let (i, li, is) = r.some c l in
    any_below-from n (λ k. eqb (name k) c) i li (eq-eqb (name i) c is)) ∙ count_below-all names in
    names_sign n names turn back name ok (record { name_in = r.name_in; kept = r.kept; joined = r.joined }) ∙ ap
    (λ t. xor (par n) (par t)) all

pub named_rounds_are_even : NamedRoundsAreEven
named_rounds_are_even n p pb q qb r rb a b c name_p name_q name_r hp hq hr rp rq rr same =
    let sign : xor (par n) (par c) ≡ xor (xor (par n) (par b)) (xor (par n) (par a)) =
    sym (rounds_named_sign n r rb c name_r hr rr) ∙ is_odd_same n r (λ i. p (q i)) same ∙ is_odd_after n p pb q qb hp hq
    ∙ ap (λ t. xor t (is_odd n p)) (rounds_named_sign n q qb b name_q hq rq) ∙ ap (xor (xor (par n) (par b)))
    (rounds_named_sign n p pb a name_p hp rp) in
    par_half (a + b + c + n)
    (par-add (a + b + c) n ∙ ap (λ t. xor t (par n)) (par-add (a + b) c ∙ ap (λ t. xor t (par c)) (par-add a b)) ∙
    regroup (par n) (par a) (par b) (par c) sign)
  where
    ends : (n a b c : Bool) → xor (xor (xor a b) c) n ≡ xor (xor n c) (xor (xor n b) (xor n a))
    ends n a b c = simp xors

    regroup : (n a b c : Bool) → xor n c ≡ xor (xor n b) (xor n a) → xor (xor (xor a b) c) n ≡ false
    regroup n a b c h = ends n a b c ∙ ap (λ t. xor t (xor (xor n b) (xor n a))) h ∙ xor-same (xor (xor n b) (xor n a))
