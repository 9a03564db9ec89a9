-- Loops that are no longer than those kept of which sets are sums.
use Rattle.surf_choice.proofs.Common.{◌≡◌, ℕ, suc, ◌<◌, ◌≤◌, ◌-◌, List, true, length, get_or, take, subst, arith, inl, inr, cases_eq, cases_lt, nat_tests, IsInOrder, numbers, Spanned, Signed, signatures, IsSumOfLength, stands_before}

-- one that stands before another is no longer
stands_no_longer : (c d : Signed) → stands_before c d ≡ true → c.candidate.length ≤ d.candidate.length
stands_no_longer c d h = grind (arith, nat_tests)

-- in order of place, those up to a place are no longer than what stands there
no_longer_up_to : (kept : List Signed) (i j : ℕ) (c : Signed) → IsInOrder stands_before kept → i ≤ j → j < length kept →
    (get_or kept i c).candidate.length ≤ (get_or kept j c).candidate.length
no_longer_up_to kept i j c order le l = elim (cases_eq i j) [
  | inl same ↦ subst (λ n. (get_or kept i c).candidate.length ≤ (get_or kept n c).candidate.length) same (omega arith)
  | inr ne ↦ stands_no_longer (get_or kept i c) (get_or kept j c) (order i j c (omega arith) l)
]

-- the first of those kept, of which a set is a sum, are no longer than the last of these
pub shorter_first : (kept : List Signed) (most set : ℕ) (c : Signed) (i : ℕ) → IsInOrder stands_before kept →
    (h : IsSumOfLength kept most set) → i < h.count → (get_or kept i c).candidate.length ≤ most
shorter_first kept most set c i order h l =
    let in' = h.count_in in
    let at : suc (h.count - 1) ≡ h.count = omega (arith, l) in
    let is : (get_or kept (h.count - 1) c).candidate.length ≡ most = h.last (h.count - 1) c at in
    let rise = no_longer_up_to kept i (h.count - 1) c order (omega (arith, l)) (omega (arith, in', l)) in
    omega (arith, rise, is)

-- the last of as few as it takes is no longer than the last of any that will do
pub sum_no_longer : (kept : List Signed) (n most set : ℕ) (d : Signed) → IsInOrder stands_before kept →
    IsSumOfLength kept most set → n ≤ length kept → (n ≡ 0 → ⊥) →
    ((m : ℕ) → m < n → Spanned numbers (signatures (take m kept)) set → ⊥) →
    (get_or kept (n - 1) d).candidate.length ≤ most
sum_no_longer kept n most set d order h n_in some least = elim (cases_lt h.count n) [
  | inl less ↦ absurd (least h.count less h.sum)
  | inr more ↦ shorter_first kept most set d (n - 1) order h (omega (arith, more, some))
]
