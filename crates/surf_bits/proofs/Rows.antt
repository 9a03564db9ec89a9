-- The rows of a sieve.
use Rattle.std.proofs.Common.{ℕ, zero, suc, ◌≡◌, ◌+◌, ◌*◌, ◌/◌, ◌<◌, ◌≤◌, ◌^◌, Option, Some, None, is_some, not, Bool, true, false, cond, lit<, MatchOption, MatchBool, List, [], ◌∷◌, ◌++◌, length, take, drop, get_or, bit_xor, IsTrue, min, inl, inr, refl, sym, ap, ◌∙◌, subst, arith, ◌↔◌}
use Rattle.surf_z2.proofs.Common.{bit_at, eqb-true, bit_at-zero, cases_lt, numbers, Spanned, number}
use Rattle.std.proofs.lemmas.Nat.{xor_lt, pow_pos}
use Rattle.std.proofs.Math.Nat.{pow-le-pow_right, mul-le-mul_right}
use Rattle.std.proofs.Math.Pow.{pow-add}
use Rattle.std.proofs.lemmas.List.{map-append, get_or-drop, length-drop, length-append, take-append-le, drop-append-le, length-take, length-take-le, take_all, drop-drop, at_drop_more}
use Rattle.std.proofs.lemmas.List.Elements.{All-push}
use Rattle.surf_z2.specs.Sieve.{has, Row, SieveLaw}
use Rattle.surf_z2.proofs.Numbers.{has-xor}
use Rattle.surf_z2.proofs.Sieve.{sieve_law}
use Rattle.surf_z2.proofs.Basics.{independence_law}
use Rattle.surf_z2.proofs.Width.{width_law}
use Rattle.surf_bits.specs.Rows.{sieve_rows, Sifted, originals_of, left_of, TellSums, AreRows}

law : SieveLaw numbers has (λ (r : Row ℕ). r.pivot) (λ (r : Row ℕ). r.reduced) (λ (r : Row ℕ). r.original)
law = sieve_law numbers has has-xor (λ (r : Row ℕ). r.pivot) (λ (r : Row ℕ). r.reduced) (λ (r : Row ℕ). r.original)

pub take_whole : (n : ℕ) (xs : List ℕ) → length xs ≡ n → take n xs ≡ xs
take_whole n xs e = take_all n xs (omega arith)

pub rows-length : (stride : ℕ) (pivots reduced originals : List ℕ) → length (sieve_rows stride pivots reduced originals) ≡ length pivots
rows-length stride [] rs os = refl
rows-length stride (p ∷ ps) rs os = ap suc (rows-length stride ps (drop stride rs) (drop stride os))

pub originals-length : (stride : ℕ) (pivots reduced originals : List ℕ) → length (originals_of (sieve_rows stride pivots reduced originals)) ≡ length pivots
originals-length stride [] rs os = refl
originals-length stride (p ∷ ps) rs os = ap suc (originals-length stride ps (drop stride rs) (drop stride os))

-- one row more at the end of each table
pub rows-push : (stride : ℕ) (ps rs os : List ℕ) (p : ℕ) (r o : List ℕ) → length rs ≡ length ps * stride → length os ≡ length ps * stride →
    length r ≡ stride → length o ≡ stride →
    sieve_rows stride (ps ++ p ∷ []) (rs ++ r) (os ++ o) ≡ sieve_rows stride ps rs os ++ record { pivot = p; reduced = number r; original = number o } ∷ []
rows-push stride [] [] [] p r o e f g h = rw (take_whole stride r g, take_whole stride o h) refl
rows-push stride [] (x ∷ rs) os p r o e f g h = absurd (omega arith)
rows-push stride [] rs (x ∷ os) p r o e f g h = absurd (omega arith)
rows-push stride (q ∷ ps) rs os p r o e f g h =
    let m : suc (length ps) * stride ≡ length ps * stride + stride = omega arith in
    let a : stride ≤ length rs = omega arith in
    let b : stride ≤ length os = omega arith in
    let c : length (drop stride rs) ≡ length ps * stride = length-drop stride rs ∙ omega arith in
    let d : length (drop stride os) ≡ length ps * stride = length-drop stride os ∙ omega arith in
    rw (take-append-le stride rs r a, take-append-le stride os o b, drop-append-le stride rs r a, drop-append-le stride os o b)
    (ap (λ rows. record { pivot = q; reduced = number (take stride rs); original = number (take stride os) } ∷ rows)
    (rows-push stride ps (drop stride rs) (drop stride os) p r o c d g h))

-- a row of the tables
pub rows-at : (stride : ℕ) (ps rs os : List ℕ) (i : ℕ) (d : Row ℕ) → i < length ps →
    get_or (sieve_rows stride ps rs os) i d ≡ record { pivot = get_or ps i 0; reduced = number (take stride (drop (i * stride) rs)); original = number (take stride (drop (i * stride) os)) }
rows-at stride [] rs os i d l = absurd (omega arith)
rows-at stride (p ∷ ps) rs os zero d l = let z : 0 * stride ≡ 0 = omega arith in rw z refl
rows-at stride (p ∷ ps) rs os (suc i) d l =
    let m : suc i * stride ≡ stride + i * stride = omega arith in
    rw (m, ← drop-drop (i * stride) stride rs, ← drop-drop (i * stride) stride os) (rows-at stride ps (drop stride rs) (drop stride os) i d (omega arith))

-- a row that is added to what is left of a set, or not
pub left_of_more : (stride : ℕ) (ps rs os : List ℕ) (i left : ℕ) → i < length ps →
    left_of (drop i (sieve_rows stride ps rs os)) left ≡
    left_of (drop (i + 1) (sieve_rows stride ps rs os)) (cond (has left (get_or ps i 0)) (bit_xor (number (take stride (drop (i * stride) rs))) left) left)
left_of_more stride ps rs os i left l =
    let r : Row ℕ = record { pivot = get_or ps i 0; reduced = number (take stride (drop (i * stride) rs)); original = number (take stride (drop (i * stride) os)) } in
    let at_i = rows-at stride ps rs os i r l in
    at_drop_more (λ rows. left_of rows left) (sieve_rows stride ps rs os) i r (subst (λ n. i < n) (sym (rows-length stride ps rs os)) l)
    ∙ ap (λ s. left_of (s ∷ drop (i + 1) (sieve_rows stride ps rs os)) left) at_i

-- so many words write a number below two to the number of their bits
pub front_small : (n : ℕ) (ws : List ℕ) → ((k : ℕ) → get_or ws k 0 < 2 ^ 64) → number (take n ws) < 2 ^ (64 * n)
front_small zero ws f = lit< tt
front_small (suc n) [] f = pow_pos (64 * suc n)
front_small (suc n) (w ∷ ws) f =
    let below : number (take n ws) < 2 ^ (64 * n) = front_small n ws (λ k. f (suc k)) in
    let ih : number (take n ws) + 1 ≤ 2 ^ (64 * n) = omega (arith, below) in
    let low : w < 2 ^ 64 = f 0 in
    let m : 64 * suc n ≡ 64 * n + 64 = omega arith in
    let p : 2 ^ (64 * suc n) ≡ 2 ^ (64 * n) * 2 ^ 64 = ap (λ k. 2 ^ k) m ∙ pow-add 2 (64 * n) 64 in
    let q : (number (take n ws) + 1) * 2 ^ 64 ≤ 2 ^ (64 * n) * 2 ^ 64 = mul-le-mul_right (2 ^ 64) ih in
    omega (arith, p, q, low)

-- the first words of a number that they are enough for
pub number_take : (n : ℕ) (ws : List ℕ) → number ws < 2 ^ (64 * n) → number (take n ws) ≡ number ws
number_take zero ws l = let z : 64 * 0 ≡ 0 = omega arith in let m : number ws < 2 ^ 0 = subst (λ k. number ws < 2 ^ k) z l in omega (arith, m)
number_take (suc n) [] l = refl
number_take (suc n) (w ∷ ws) l =
    let m : 64 * suc n ≡ 64 * n + 64 = omega arith in
    let p : 2 ^ (64 * suc n) ≡ 2 ^ (64 * n) * 2 ^ 64 = ap (λ k. 2 ^ k) m ∙ pow-add 2 (64 * n) 64 in
    let l' : number ws * 2 ^ 64 + w < 2 ^ (64 * n) * 2 ^ 64 = omega (arith, p, l) in
    let k : number ws < 2 ^ (64 * n) = omega (arith, l') in
    ap (λ x. x * 2 ^ 64 + w) (number_take n ws k)

-- as many of them as there are, or as are enough
pub number_most : (m n : ℕ) (ws : List ℕ) → n ≡ min m (length ws) → number ws < 2 ^ (64 * m) → number (take n ws) ≡ number ws
number_most m n ws e l = elim (cases_lt m (length ws)) [
  | inl less ↦
      let is : n ≡ m = omega (arith, e, less) in
      number_take n ws (subst (λ k. number ws < 2 ^ (64 * k)) (sym is) l)
  | inr past ↦ ap number (take_all n ws (omega (arith, e, past)))
]

-- what rows of as many words leave of a set of as many
pub left_small : (stride : ℕ) (ps rs os : List ℕ) (v : ℕ) → ((k : ℕ) → get_or rs k 0 < 2 ^ 64) → v < 2 ^ (64 * stride) → left_of (sieve_rows stride ps rs os) v < 2 ^ (64 * stride)
left_small stride [] rs os v f l = l
left_small stride (p ∷ ps) rs os v f l =
    left_small stride ps (drop stride rs) (drop stride os) (cond (has v p) (bit_xor (number (take stride rs)) v) v)
    (λ k. subst (λ w. w < 2 ^ 64) (sym (get_or-drop stride rs k 0)) (f (stride + k)))
    (small (has v p))
  where
    row : number (take stride rs) < 2 ^ (64 * stride)
    row = front_small stride rs f

    small : (b : Bool) → cond b (bit_xor (number (take stride rs)) v) v < 2 ^ (64 * stride)
    small true = xor_lt (64 * stride) (number (take stride rs)) v row l
    small false = l

pub are_rows-none : (width stride : ℕ) → width ≤ 1024 → stride ≡ (width + 63) / 64 → AreRows width stride [] [] []
are_rows-none width stride most e = record {
  width_most = most;
  stride_is = e;
  reduced_length = omega arith;
  originals_length = omega arith;
  pivots_in = λ k d l. absurd (omega arith);
  within = λ k d l. absurd (omega arith);
  told = law.none;
}

-- there are no more rows than the width
pub rows_few : (width stride : ℕ) (ps rs os : List ℕ) → AreRows width stride ps rs os → length ps ≤ width
rows_few width stride ps rs os a =
    let us = originals_of (sieve_rows stride ps rs os) in
    let most : length us ≤ width = width_law width us a.within a.told.independent in
    subst (λ n. n ≤ width) (originals-length stride ps rs os) most

-- there is room for one more, where it is no sum of those that stand
pub room_for : (width stride : ℕ) (ps rs os : List ℕ) (set : ℕ) → AreRows width stride ps rs os → set < 2 ^ width →
    (Spanned numbers (originals_of (sieve_rows stride ps rs os)) set → ⊥) → length ps + 1 ≤ width
room_for width stride ps rs os set a l out =
    let us = originals_of (sieve_rows stride ps rs os) in
    let most : length (us ++ set ∷ []) ≤ width = width_law width (us ++ set ∷ []) (All-push (λ x. x < 2 ^ width) us set a.within l) ((independence_law numbers).push us set a.told.independent out) in
    let e : length (us ++ set ∷ []) ≡ length us + 1 = length-append us (set ∷ []) in
    let f : length us ≡ length ps = originals-length stride ps rs os in
    omega (arith, most, e, f)

pub are_rows-push : (width stride : ℕ) (ps rs os : List ℕ) (p : ℕ) (r o : List ℕ) → AreRows width stride ps rs os → p < 1024 →
    length r ≡ stride → length o ≡ stride → number o < 2 ^ width → number r ≡ left_of (sieve_rows stride ps rs os) (number o) → IsTrue (has (number r) p) →
    AreRows width stride (ps ++ p ∷ []) (rs ++ r) (os ++ o)
are_rows-push width stride ps rs os p r o a l g h small left member =
    let row : Row ℕ = record { pivot = p; reduced = number r; original = number o } in
    let e = rows-push stride ps rs os p r o a.reduced_length a.originals_length g h in
    record {
      width_most = a.width_most;
      stride_is = a.stride_is;
      reduced_length = length-append rs r ∙ rw (length-append ps (p ∷ []), a.reduced_length, g) (omega arith);
      originals_length = length-append os o ∙ rw (length-append ps (p ∷ []), a.originals_length, h) (omega arith);
      pivots_in = All-push (λ p. p < 1024) ps p a.pivots_in l;
      within = rw (e, map-append (λ (r : Row ℕ). r.original) (sieve_rows stride ps rs os) (row ∷ [])) (All-push (λ x. x < 2 ^ width) (originals_of (sieve_rows stride ps rs os)) (number o) a.within small);
      told = rw e (law.admitted (sieve_rows stride ps rs os) row a.told left member);
    }

pub spanned_by_rows : (rows : List (Row ℕ)) (set : ℕ) → TellSums rows → (left_of rows set ≡ 0) ↔ Spanned numbers (originals_of rows) set
spanned_by_rows rows set h = law.spanned rows set h

-- a set with a member is not nothing
pub not_nothing : (set k : ℕ) → IsTrue (has set k) → set ≡ 0 → ⊥
not_nothing set k h e =
    let z : bit_at 0 k ≡ 1 = eqb-true (bit_at 0 k) 1 (subst (λ n. IsTrue (has n k)) e h) in
    omega (arith, bit_at-zero k, z)

two_fits : (width stride : ℕ) → stride ≡ (width + 63) / 64 → 2 ^ width ≤ 2 ^ (64 * stride)
two_fits width stride e = let l : width ≤ 64 * stride = omega (arith, e) in pow-le-pow_right (lit< tt) l

-- a set that leaves something is no sum of those admitted
pub left_tells : (width stride : ℕ) (ps rs os : List ℕ) (set left p : ℕ) → AreRows width stride ps rs os → left ≡ left_of (sieve_rows stride ps rs os) set → IsTrue (has left p) →
    Spanned numbers (originals_of (sieve_rows stride ps rs os)) set → ⊥
left_tells width stride ps rs os set left p a e m sum =
    not_nothing left p m (e ∙ (spanned_by_rows (sieve_rows stride ps rs os) set a.told).1 sum)

-- what is left by tables that are those of a sieve
pub left_by_rows : (stride : ℕ) {ps rs qs ts : List ℕ} (os : List ℕ) (set : ℕ) {left : ℕ} → left ≡ left_of (sieve_rows stride qs ts os) set → qs ≡ ps → ts ≡ rs →
    left ≡ left_of (sieve_rows stride ps rs os) set
left_by_rows stride {ps} {rs} {qs} {ts} os set e f g = e ∙ ap (λ xs. left_of (sieve_rows stride xs ts os) set) f ∙ ap (λ xs. left_of (sieve_rows stride ps xs os) set) g

-- a sieve has room for a set of which something is left
pub room_to_admit : {width stride : ℕ} {ps rs os qs ts : List ℕ} {set left word : ℕ} {value : Sifted} (p : ℕ) → AreRows width stride ps rs os →
    record { width = width; admitted = originals_of (sieve_rows stride ps rs os) } ≡ value → set < 2 ^ value.width →
    left ≡ left_of (sieve_rows stride qs ts os) set → qs ≡ ps → ts ≡ rs → word ≡ left → IsTrue (has word p) → length ps + 1 ≤ width
room_to_admit {width} {stride} {ps} {rs} {os} {set = set} {left} p a is small e f g word member =
    room_for width stride ps rs os set a (subst (λ s. set < 2 ^ s.width) (sym is) small)
    (left_tells width stride ps rs os set left p a (left_by_rows stride os set e f g) (subst (λ n. IsTrue (has n p)) word member))

-- a set that leaves nothing is one
pub none_left : (width stride : ℕ) (ps rs os : List ℕ) (set left : ℕ) → AreRows width stride ps rs os → left ≡ left_of (sieve_rows stride ps rs os) set → left ≡ 0 →
    Spanned numbers (originals_of (sieve_rows stride ps rs os)) set
none_left width stride ps rs os set left a e z = (spanned_by_rows (sieve_rows stride ps rs os) set a.told).0 (sym e ∙ z)

-- what a search for a member says of it
pub spans_tells : (width stride : ℕ) (ps rs os : List ℕ) (set left : ℕ) (found : Option ℕ) (none : Bool) (most : ℕ) → AreRows width stride ps rs os → left ≡ left_of (sieve_rows stride ps rs os) set →
    MatchOption found (left ≡ 0) (λ k. (k < most) × IsTrue (has left k)) → is_some found ≡ not none →
    MatchBool none (Spanned numbers (originals_of (sieve_rows stride ps rs os)) set) (Spanned numbers (originals_of (sieve_rows stride ps rs os)) set → ⊥)
spans_tells width stride ps rs os set left None true most a e m h = none_left width stride ps rs os set left a e m
spans_tells width stride ps rs os set left None false most a e m h = cc
spans_tells width stride ps rs os set left (Some k) true most a e m h = cc
spans_tells width stride ps rs os set left (Some k) false most a e m h = left_tells width stride ps rs os set left k a e m.1

-- words of a set that is admitted, and of what is left of it
pub record AreAdmitted (width stride : ℕ) (ps rs os ls ms : List ℕ) (set left p : ℕ) : Type 0 where
  pub rows : AreRows width stride ps rs os
  pub small : set < 2 ^ width
  pub left_length : length ls ≡ 16
  pub left_words : number ls ≡ left
  pub set_length : length ms ≡ 16
  pub set_words : number ms ≡ set
  pub left_is : left ≡ left_of (sieve_rows stride ps rs os) set
  pub left_small : set < 2 ^ (64 * stride) → left < 2 ^ (64 * stride)
  pub pivot_in : p < 1024
  pub member : IsTrue (has left p)

module _ (width stride : ℕ) (ps rs os ls ms : List ℕ) (set left p : ℕ) (a : AreAdmitted width stride ps rs os ls ms set left p) where
  short : stride ≤ 16
  short = omega (arith, a.rows.stride_is, a.rows.width_most)

  set_fits : set < 2 ^ (64 * stride)
  set_fits = omega (arith, a.small, two_fits width stride a.rows.stride_is)

  left_front : number (take stride ls) ≡ left
  left_front = number_take stride ls (subst (λ n. n < 2 ^ (64 * stride)) (sym a.left_words) (a.left_small set_fits)) ∙ a.left_words

  set_front : number (take stride ms) ≡ set
  set_front = number_take stride ms (subst (λ n. n < 2 ^ (64 * stride)) (sym a.set_words) set_fits) ∙ a.set_words

  front_length : (xs : List ℕ) → length xs ≡ 16 → length (take stride xs) ≡ stride
  front_length xs e = length-take-le stride xs (omega (arith, e, short))

  pub admitted_rows : AreRows width stride (ps ++ p ∷ []) (rs ++ take stride ls) (os ++ take stride ms)
  admitted_rows =
      are_rows-push width stride ps rs os p (take stride ls) (take stride ms) a.rows a.pivot_in (front_length ls a.left_length) (front_length ms a.set_length)
      (subst (λ n. n < 2 ^ width) (sym set_front) a.small)
      (left_front ∙ a.left_is ∙ ap (left_of (sieve_rows stride ps rs os)) (sym set_front))
      (subst (λ n. IsTrue (has n p)) (sym left_front) a.member)

  pub admitted_list : originals_of (sieve_rows stride (ps ++ p ∷ []) (rs ++ take stride ls) (os ++ take stride ms)) ≡ originals_of (sieve_rows stride ps rs os) ++ set ∷ []
  admitted_list =
      ap originals_of (rows-push stride ps rs os p (take stride ls) (take stride ms) a.rows.reduced_length a.rows.originals_length (front_length ls a.left_length) (front_length ms a.set_length))
      ∙ map-append (λ (r : Row ℕ). r.original) (sieve_rows stride ps rs os) (record { pivot = p; reduced = number (take stride ls); original = number (take stride ms) } ∷ [])
      ∙ ap (λ x. originals_of (sieve_rows stride ps rs os) ++ x ∷ []) set_front

  pub admitted_room : length ps + 1 ≤ width
  admitted_room = room_for width stride ps rs os set a.rows a.small (left_tells width stride ps rs os set left p a.rows a.left_is a.member)

pub take_most : (n : ℕ) (xs : List ℕ) → length (take n xs) ≤ n
take_most n xs = let e : length (take n xs) ≡ min n (length xs) = length-take n xs in omega (arith, e)

pub row_room : (width stride n len : ℕ) → n + 1 ≤ width → len ≡ n * stride → len + stride ≤ width * stride
row_room width stride n len l e =
    let m : (n + 1) * stride ≤ width * stride = mul-le-mul_right stride l in
    omega (arith, e, m)
