-- Whether turns go in an even or an odd number of rounds.
use Rattle.std.proofs.Common.{◌≡◌, ℕ, zero, suc, ◌+◌, ◌-◌, ◌*◌, ◌<◌, ◌≤◌, Bool, true, false, cond, not, ◌&&◌, ltb, leb, min, refl, sym, ◌∙◌, ap, arith, inl, inr, length}
use Rattle.std.proofs.lemmas.Bool.{cases_lt, cases_Bool, false≢true, lt-ltb, le-ltb, le-leb, lt-leb}
use Rattle.surf_z2.specs.Parity.{xor, odd_below, count_below}
use Rattle.surf_graphs.specs.Rounds.{IsTurn, Blocks, IsBlocks, round, Rounds}
use Rattle.surf_graphs.specs.Cells.{Cells, Split, IsSplit}
use Rattle.surf_graphs.proofs.Counting.{left_edges}
use Rattle.surf_z2.proofs.ParityLaws.{xors, xor-same, xor-false, equal_xor, odd_below-same, odd_below-none}
use Rattle.surf_graphs.proofs.Signs.{is_odd, is_odd_same, is_odd_through, is_odd_after, nots_both}

-- whether a number is odd
pub par : ℕ → Bool
par zero = false
par (suc n) = not (par n)

pub par-suc : (n : ℕ) → par (suc n) ≡ not (par n)
unfolding par
par-suc n = refl

pub par-zero : par 0 ≡ false
unfolding par
par-zero = refl

-- an odd number of numbers pass where the count of them is odd
pub odd_counted : (n : ℕ) (p : ℕ → Bool) → odd_below n p ≡ par (count_below n p)
odd_counted zero p = sym par-zero
odd_counted (suc n) p = elim (cases_Bool (p n)) [
  | inl e ↦
      let one : 1 + count_below n p ≡ suc (count_below n p) = omega arith in
      rw e (ap not (odd_counted n p) ∙ sym (par-suc (count_below n p)) ∙ sym (ap par one))
  | inr e ↦
      let none : 0 + count_below n p ≡ count_below n p = omega arith in
      rw e (odd_counted n p ∙ sym (ap par none))
]

not-xor : (a b : Bool) → not (xor a b) ≡ xor (not a) b
not-xor true true = refl
not-xor true false = refl
not-xor false b = refl

pub par-add : (a b : ℕ) → par (a + b) ≡ xor (par a) (par b)
par-add zero b = ap par zero_add ∙ rw par-zero
  where
    zero_add : 0 + b ≡ b
    zero_add = omega arith
par-add (suc a) b = ap par next ∙
    (par-suc (a + b) ∙ (ap not (par-add a b) ∙ (not-xor (par a) (par b) ∙ ap (λ x. xor x (par b)) (sym (par-suc a)))))
  where
    next : suc a + b ≡ suc (a + b)
    next = omega arith

start_le : (n : ℕ) (b : Blocks) → IsBlocks n b → (i : ℕ) → i ≤ n → b.start i ≤ i
start_le n b ok zero l = rw ok.first_start (omega arith)
start_le n b ok (suc i) l = elim (cases_Bool (b.last i)) [
  | inl ends ↦ rw (ok.begins i (omega arith) ends) (omega arith)
  | inr on ↦ let before : b.start i ≤ i = start_le n b ok i (omega arith) in
      rw (ok.goes_on i (omega arith) on) (omega arith)
]

-- past the end of a block the starts are past it
past_end : (n : ℕ) (b : Blocks) → IsBlocks n b → (i k j : ℕ) → b.last i ≡ true → j ≡ suc i + k → j ≤ n →
    suc i ≤ b.start j
past_end n b ok i zero j ends is l = let here : j ≡ suc i = omega arith in
    rw (here, ok.begins i (omega arith) ends) (omega arith)
past_end n b ok i (suc k) j ends is l =
    let m = suc i + k in
    let here : j ≡ suc m = omega arith in
    let before : suc i ≤ b.start m = past_end n b ok i k m ends refl (omega arith) in
    let within : m < n = omega arith in
    elim (cases_Bool (b.last m)) [
      | inl again ↦ rw (here, ok.begins m within again) (omega arith)
      | inr on ↦ rw (here, ok.goes_on m within on) before
    ]

round_le : (n : ℕ) (b : Blocks) → IsBlocks n b → (i : ℕ) → i < n → round b i ≤ suc i
round_le n b ok i l = elim (cases_Bool (b.last i)) [
  | inl ends ↦ let before : b.start i ≤ i = start_le n b ok i (omega arith) in rw ends (omega arith)
  | inr on ↦ rw on (omega arith)
]

pub round_in : (n : ℕ) (b : Blocks) → IsBlocks n b → (i : ℕ) → i < n → round b i < n
round_in n b ok i l =
    let before : b.start i ≤ i = start_le n b ok i (omega arith) in
    elim (cases_Bool (b.last i)) [
      | inl ends ↦ rw ends (omega arith)
      | inr on ↦ elim (cases_lt (suc i) n) [
        | inl more ↦ rw on more
        | inr end ↦
            let at_end : suc i ≡ n = omega arith in
            let going : b.start (suc i) ≡ b.start i = ok.goes_on i l on in
            let whole : b.start (suc i) ≡ suc i = rw at_end ok.whole in
            absurd (omega arith)
      ]
    ]

-- how many places from s on are below j, as far as m
from_start : (s j : ℕ) → s ≤ j → (m : ℕ) → odd_below m (λ i. ltb i j && leb s i) ≡ par (min m j - s)
from_start s j h zero = sym (ap par none ∙ par-zero)
  where
    none : min 0 j - s ≡ 0
    none = omega arith
from_start s j h (suc m) =
    let rest : odd_below m (λ i. ltb i j && leb s i) ≡ par (min m j - s) = from_start s j h m in
    elim (cases_lt m j) [
      | inl below ↦ elim (cases_lt m s) [
        | inl short ↦
            let same : min (suc m) j - s ≡ min m j - s = omega arith in
            rw (lt-ltb m j below, lt-leb s m short, same) rest
        | inr enough ↦
            let next : min (suc m) j - s ≡ suc (min m j - s) = omega arith in
            rw (lt-ltb m j below, le-leb s m enough, next, rest) (sym (par-suc (min m j - s)))
      ]
      | inr above ↦
          let same : min (suc m) j - s ≡ min m j - s = omega arith in
          rw (le-ltb m j above, same) rest
    ]

-- the pairs that end at place j and are put out of order
row : (n : ℕ) (b : Blocks) → IsBlocks n b → (j : ℕ) → j < n → odd_below n (λ i. ltb i j && ltb (round b j) (round b i))
    ≡ (b.last j && par (j - b.start j))
row n b ok j lj = elim (cases_Bool (b.last j)) [
  | inl ends ↦
      let s = b.start j in
      let sj : s ≤ j = start_le n b ok j (omega arith) in
      let top : min n j - s ≡ j - s = omega arith in
      odd_below-same n (λ i. ltb i j && ltb (round b j) (round b i)) (λ i. ltb i j && leb s i)
      (λ i li. elim (cases_lt i j) [
        | inr above ↦ rw (le-ltb i j above)
        | inl below ↦ rw (lt-ltb i j below, ends) (elim (cases_Bool (b.last i)) [
          | inl ends_i ↦
              let past : suc i ≤ s = past_end n b ok i (j - suc i) j ends_i (omega arith) (omega arith) in
              let si : b.start i ≤ i = start_le n b ok i (omega arith) in
              rw (ends_i, le-ltb s (b.start i) (omega arith), lt-leb s i past)
          | inr on_i ↦ rw on_i (elim (cases_lt i s) [
            | inl short ↦ rw (le-ltb s (suc i) short, lt-leb s i short)
            | inr enough ↦ rw (lt-ltb s (suc i) (omega arith), le-leb s i enough)
          ])
        ])
      ])
      ∙ (from_start s j sj n ∙ rw (ends, top))
  | inr on ↦ rw on (odd_below-none n (λ i. ltb i j && ltb (suc j) (round b i)) (λ i li. elim (cases_lt i j) [
    | inr above ↦ rw (le-ltb i j above)
    | inl below ↦ let near : round b i ≤ suc i = round_le n b ok i li in
        rw (lt-ltb i j below, le-ltb (suc j) (round b i) (omega arith))
  ]))
]

count_true : (p : Bool) (x : ℕ) → p ≡ true → par (cond p 1 0 + x) ≡ not (par x)
count_true p x h = rw h (ap par next ∙ par-suc x)
  where
    next : 1 + x ≡ suc x
    next = omega arith

count_false : (p : Bool) (x : ℕ) → p ≡ false → par (cond p 1 0 + x) ≡ par x
count_false p x h = rw h (ap par same)
  where
    same : 0 + x ≡ x
    same = omega arith

rows_end : (x t m c : Bool) → xor t x ≡ xor m c → xor (xor x t) false ≡ xor (not m) (not c)
rows_end x t m c h = xor-false (xor x t) ∙ (turned x t ∙ (h ∙ sym (nots_both m c)))
  where
    turned : (a b : Bool) → xor a b ≡ xor b a
    turned a b = simp xors

rows_on : (x t m c : Bool) → xor t x ≡ xor m c → xor (xor false t) (not x) ≡ xor (not m) c
rows_on x t m c h = later t x ∙ (ap not h ∙ not-xor m c)
  where
    later : (a b : Bool) → xor a (not b) ≡ not (xor a b)
    later true true = refl
    later true false = refl
    later false b = refl

-- the first m places: what is put out of order, and what the open block will
sum_rows : (n : ℕ) (b : Blocks) → IsBlocks n b → (m : ℕ) → m ≤ n →
    xor (odd_below m (λ j. b.last j && par (j - b.start j))) (par (m - b.start m))
    ≡ xor (par m) (par (count_below m b.last))
sum_rows n b ok zero l =
    let none : 0 - b.start 0 ≡ 0 = omega arith in
    rw (none, par-zero)
sum_rows n b ok (suc m) l =
    let rest : xor (odd_below m (λ j. b.last j && par (j - b.start j))) (par (m - b.start m))
    ≡ xor (par m) (par (count_below m b.last)) = sum_rows n b ok m (omega arith) in
    elim (cases_Bool (b.last m)) [
      | inl ends ↦
          let begin : b.start (suc m) ≡ suc m = ok.begins m l ends in
          let none : suc m - b.start (suc m) ≡ 0 = omega arith in
          rw (count_true (b.last m) (count_below m b.last) ends, none, par-zero, par-suc m, ends)
          (rows_end (par (m - b.start m)) (odd_below m (λ j. b.last j && par (j - b.start j))) (par m)
          (par (count_below m b.last)) rest)
      | inr on ↦
          let going : b.start (suc m) ≡ b.start m = ok.goes_on m l on in
          let before : b.start m ≤ m = start_le n b ok m (omega arith) in
          let next : suc m - b.start (suc m) ≡ suc (m - b.start m) = omega arith in
          rw (count_false (b.last m) (count_below m b.last) on, next, par-suc (m - b.start m), par-suc m, on)
          (rows_on (par (m - b.start m)) (odd_below m (λ j. b.last j && par (j - b.start j))) (par m)
          (par (count_below m b.last)) rest)
    ]

-- the sign of going round in blocks
round_sign : (n : ℕ) (b : Blocks) → IsBlocks n b → is_odd n (round b) ≡ xor (par n) (par (count_below n b.last))
round_sign n b ok =
    let total : xor (odd_below n (λ j. b.last j && par (j - b.start j))) (par (n - b.start n))
    ≡ xor (par n) (par (count_below n b.last)) = sum_rows n b ok n (omega arith) in
    let whole : b.start n ≡ n = ok.whole in
    let none : n - b.start n ≡ 0 = omega arith in
    odd_below-same n (λ j. odd_below n (λ i. ltb i j && ltb (round b j) (round b i)))
    (λ j. b.last j && par (j - b.start j)) (λ j l. row n b ok j l)
    ∙ (sym (xor-false (odd_below n (λ j. b.last j && par (j - b.start j)))) ∙ (rw (none, par-zero) at total))

-- the sign of a turn, by its number of rounds
pub rounds_sign : (n : ℕ) (turn back : ℕ → ℕ) (rounds : ℕ) → IsTurn n turn back → Rounds n turn rounds →
    is_odd n turn ≡ xor (par n) (par rounds)
rounds_sign n turn back rounds ok r =
    sym (is_odd_through n turn back r.table r.place ok r.table_is)
    ∙ (is_odd_same n (λ i. r.place (turn (r.table i))) (round r.blocks)
    (λ i l. ap r.place (r.next i l) ∙ r.table_is.back_turn (round r.blocks i) (round_in n r.blocks r.blocks_are i l))
    ∙ (round_sign n r.blocks r.blocks_are ∙ rw r.count))

regroup : (n a b c : Bool) → xor n c ≡ xor (xor n b) (xor n a) → xor (xor (xor a b) c) n ≡ false
regroup n a b c h = ends n a b c ∙ equal_xor (xor n c) (xor (xor n b) (xor n a)) h
  where
    ends : (n a b c : Bool) → xor (xor (xor a b) c) n ≡ xor (xor n c) (xor (xor n b) (xor n a))
    ends n a b c = simp xors

-- a turn that is one after another: the rounds of the three and the number of what they turn are even in all
pub rounds_even : (n : ℕ) (p pb q qb r rb : ℕ → ℕ) (a b c : ℕ) → IsTurn n p pb → IsTurn n q qb → IsTurn n r rb →
    Rounds n p a → Rounds n q b → Rounds n r c →
    ((i : ℕ) → i < n → r i ≡ p (q i)) → par (a + b + c + n) ≡ false
rounds_even n p pb q qb r rb a b c hp hq hr ra rb' rc same =
    let sign_r : xor (par n) (par c) ≡ xor (xor (par n) (par b)) (xor (par n) (par a)) =
    sym (rounds_sign n r rb c hr rc) ∙
    (is_odd_same n r (λ i. p (q i)) same ∙
    (is_odd_after n p pb q qb hp hq ∙ rw (rounds_sign n q qb b hq rb', rounds_sign n p pb a hp ra))) in
    par-add (a + b + c) n ∙ (rw (par-add (a + b) c, par-add a b) (regroup (par n) (par a) (par b) (par c) sign_r))

pub par_half : (n : ℕ) → par n ≡ false → (k : ℕ) × (n ≡ 2 * k)
par_half zero h = (0, omega arith)
par_half (suc zero) h = absurd (false≢true (sym h ∙ (par-suc 0 ∙ ap not par-zero)))
par_half (suc (suc n)) h =
    let (k, is) = par_half n (sym (not_not (par n)) ∙ (sym (par-suc (suc n) ∙ ap not (par-suc n)) ∙ h)) in
    (suc k, omega arith)
  where
    not_not : (b : Bool) → not (not b) ≡ b
    not_not true = refl
    not_not false = refl

par_double : (n m : ℕ) → n ≡ 2 * m → par n ≡ false
par_double n m h =
    let twice : n ≡ m + m = omega arith in
    ap par twice ∙ (par-add m m ∙ xor-same (par m))

-- where mates, faces and vertices are turns that make one another up, the number of left edges is even
pub left_even : (s : Cells) (d : Split) → IsSplit s d → (n : ℕ) (mate next before ring back : ℕ → ℕ) →
    IsTurn n mate mate → IsTurn n next before → IsTurn n ring back →
    Rounds n mate s.edges → Rounds n next s.faces → Rounds n ring s.vertices → n ≡ 2 * s.edges →
    ((i : ℕ) → i < n → ring i ≡ next (mate i)) → (genus : ℕ) × (length d.left ≡ 2 * genus)
left_even s d ok n mate next before ring back hm hn hr rm rn rr two same =
    let m = length d.left in
    let total : par (s.faces + s.edges + s.vertices + n) ≡ false =
    rounds_even n next before mate mate ring back s.faces s.edges s.vertices hn hm hr rn rm rr same in
    let counted : m + (s.vertices + s.faces) ≡ s.edges + 2 = left_edges s d ok in
    let sides : par n ≡ false = par_double n s.edges two in
    let sum : m + ((s.faces + s.edges + s.vertices) + n) ≡ (s.edges + s.edges) + (2 + n) = omega arith in
    let even_e : par ((s.edges + s.edges) + (2 + n)) ≡ false =
    par-add (s.edges + s.edges) (2 + n) ∙ rw (par-add s.edges s.edges, xor-same (par s.edges), par-add 2 n, sides)
    (par-two) in
    par_half m (sym (xor-false (par m)) ∙
    (ap (xor (par m)) (sym total) ∙ (sym (par-add m ((s.faces + s.edges + s.vertices) + n)) ∙ (ap par sum ∙ even_e))))
  where
    par-two : xor (par 2) false ≡ false
    par-two = xor-false (par 2) ∙ (par-suc 1 ∙ (ap not (par-suc 0) ∙ ap (λ x. not (not x)) par-zero))
