-- Numbers that rise, one after the other.
use Rattle.surf_cert.proofs.Common.{◌≡◌, ℕ, suc, ◌<◌, ◌≤◌, ◌+◌, Bool, true, false, ◌&&◌, nat_le, nat_lt, List, [], ◌∷◌, length, get_or, drop, refl, sym, ◌∙◌, arith, inl, inr, cases_Bool, leb-true, ltb-true, le-leb, lt-ltb, le-ltb, All, All-nil, All-cons, AllPairs, drop_all}
use Rattle.std.proofs.lemmas.Bool.{lt-leb}
use Rattle.std.proofs.lemmas.List.{drop_more}
use Rattle.std.proofs.lemmas.List.Kept.{AllPairs-cons}
use Rattle.surf_sheetcert.specs.Lines.{rises}

module _ (k before : ℕ) (numbers : List ℕ) (i : ℕ) (total : Bool) (so_far : rises before k (drop i numbers) ≡ total) where
  -- a number that is above the one before it and at most k goes on
  pub rising_more : (d : ℕ) → i < length numbers → before < get_or numbers i d → get_or numbers i d ≤ k
      → rises (get_or numbers i d) k (drop (i + 1) numbers) ≡ total
  unfolding rises
  rising_more d lt above most =
      let first : nat_lt before (get_or numbers i d) ≡ true = lt-ltb before (get_or numbers i d) above in
      let second : nat_le (get_or numbers i d) k ≡ true = le-leb (get_or numbers i d) k most in
      let one : rises before k (drop i numbers) ≡ rises (get_or numbers i d) k (drop (i + 1) numbers) =
      rw (drop_more numbers i d lt, first, second) refl in
      sym one ∙ so_far

  pub rising_low : (d : ℕ) → i < length numbers → get_or numbers i d ≤ before → total ≡ false
  unfolding rises
  rising_low d lt below =
      let first : nat_lt before (get_or numbers i d) ≡ false = le-ltb before (get_or numbers i d) below in
      let one : rises before k (drop i numbers) ≡ false = rw (drop_more numbers i d lt, first) refl in
      sym so_far ∙ one

  pub rising_high : (d : ℕ) → i < length numbers → k < get_or numbers i d → total ≡ false
  unfolding rises
  rising_high d lt above =
      let second : nat_le (get_or numbers i d) k ≡ false = lt-leb (get_or numbers i d) k above in
      let one : rises before k (drop i numbers) ≡ false =
      elim (cases_Bool (nat_lt before (get_or numbers i d))) [
        | inl above_it ↦ rw (drop_more numbers i d lt, above_it, second) refl
        | inr below_it ↦ rw (drop_more numbers i d lt, below_it) refl
      ] in
      sym so_far ∙ one

  pub rising_done : length numbers ≤ i → total ≡ true
  unfolding rises
  rising_done le =
      let one : rises before k (drop i numbers) ≡ true = rw (drop_all i numbers le) refl in
      sym so_far ∙ one

-- what rising numbers are
pub record AreRising (before k : ℕ) (is : List ℕ) : Type 0 where
  pub each : All (λ i. (before < i) × (i ≤ k)) is
  pub rise : AllPairs (λ i j. i < j) is

from_first : (p q r : Bool) → (p && q && r) ≡ true → (p ≡ true) × (q ≡ true) × (r ≡ true)
from_first true true true e = (refl, refl, refl)
from_first true true false e = absurd cc
from_first true false r e = absurd cc
from_first false q r e = absurd cc

lower : (before i k : ℕ) → before < i → (is : List ℕ) → All (λ j. (i < j) × (j ≤ k)) is → All (λ j. (before < j) × (j ≤ k)) is
lower before i k lt is all n d l = let here = all n d l in (omega (arith, lt, here.0), here.1)

firsts_of : (i k : ℕ) (is : List ℕ) → All (λ j. (i < j) × (j ≤ k)) is → All (λ j. i < j) is
firsts_of i k is all n d l = (all n d l).0

pub rising_is : (before k : ℕ) (is : List ℕ) → rises before k is ≡ true → AreRising before k is
unfolding rises
rising_is before k [] e = record {
  each = All-nil (λ i. (before < i) × (i ≤ k));
  rise = λ i j d lt within. absurd (omega (arith, within));
}
rising_is before k (i ∷ is) e =
    let parts = from_first (nat_lt before i) (nat_le i k) (rises i k is) e in
    let rest = rising_is i k is parts.2 in
    let above : before < i = ltb-true before i parts.0 in
    record {
      each = All-cons (λ j. (before < j) × (j ≤ k)) i is (above, leb-true i k parts.1) (lower before i k above is rest.each);
      rise = AllPairs-cons (λ i j. i < j) i is (firsts_of i k is rest.each) rest.rise;
    }

-- and numbers that are so rise
pub rising_from : (before k : ℕ) (is : List ℕ) → AreRising before k is → rises before k is ≡ true
unfolding rises
rising_from before k [] are = refl
rising_from before k (i ∷ is) are =
    let here = are.each 0 i (omega arith) in
    let first : nat_lt before i ≡ true = lt-ltb before i here.0 in
    let second : nat_le i k ≡ true = le-leb i k here.1 in
    let rest = rising_from i k is (record {
      each = λ n d l. (are.rise 0 (suc n) d (omega arith) (omega (arith, l)), (are.each (suc n) d (omega (arith, l))).1);
      rise = λ n m d l within. are.rise (suc n) (suc m) d (omega (arith, l)) (omega (arith, within));
    }) in
    rw (first, second, rest) refl
