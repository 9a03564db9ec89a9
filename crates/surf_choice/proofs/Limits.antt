-- The place before which loops are still sought, when the choice is made again.
use Rattle.surf_choice.proofs.Common.{◌≡◌, ℕ, suc, ◌<◌, ◌≤◌, ◌+◌, ◌*◌, ◌^◌, ◌-◌, ◌⊎◌, true, false, not, List, [], ◌∷◌, length, get_or, All, Contains, Option, Some, None, refl, sym, ap, ◌∙◌, subst, arith, inl, inr, IsTrue, nat_le, AllByRecursion, cases_Bool, false≢true, nat_tests, All-contains, All-from_recursion, Sorted, sorted_from_order, Place, is_no_later, comes_sooner, IsNonDecreasingBy, Signed, signed_earlier, place_of, is_sought, last_of, limit_of, order_of, stands_before}
use Rattle.surf_surfaces.proofs.Common.{merge}
use Rattle.surf_z2.proofs.Passing.{merged_by}
use Rattle.surf_surfaces.proofs.bases.FewBasesLaws.{no_later_from, no_later-trans, no_later-same}
use Rattle.surf_choice.specs.declared.candidate.Candidate.{Candidate}

-- ---- the order of candidates and that of places

pub earlier-trans : (a b c : Signed) → signed_earlier a b ≡ true → signed_earlier b c ≡ true → signed_earlier a c ≡ true
earlier-trans a b c h k = grind (arith, nat_tests)

pub stands-trans : (a b c : Signed) → stands_before a b ≡ true → stands_before b c ≡ true → stands_before a c ≡ true
stands-trans a b c h k = no_later-trans (place_of a.candidate) (place_of b.candidate) (place_of c.candidate) h k

pub stands_earlier : (c d : Signed) → signed_earlier c d ≡ true → stands_before c d ≡ true
stands_earlier c d h = grind (arith, nat_tests)

pub stands_later : (c d : Signed) → signed_earlier c d ≡ false → stands_before d c ≡ true
stands_later c d h = grind (arith, nat_tests)

pub merged_sorted : (cs ds : List Signed) → Sorted stands_before cs → Sorted stands_before ds →
    Sorted stands_before (merge signed_earlier cs ds)
merged_sorted cs ds s t =
    merged_by signed_earlier stands_before earlier-trans stands-trans stands_earlier stands_later cs ds s t

-- base and edge have 32 bits
pub record IsShort (s : Signed) : Type 0 where
  pub base : s.candidate.base < 2 ^ 32
  pub edge : s.candidate.edge < 2 ^ 32

by_number : (a b x c d y : ℕ) → b < 2 ^ 32 → x < 2 ^ 32 → d < 2 ^ 32 → y < 2 ^ 32 →
    a * 2 ^ 64 + b * 2 ^ 32 + x ≤ c * 2 ^ 64 + d * 2 ^ 32 + y → is_no_later (a, b) (c, d) ≡ true
by_number a b x c d y lb lx ld ly le = no_later_from a b c d (omega arith) (λ same. omega (arith, same))

stands_by_number : (c d : Signed) → IsShort c → IsShort d → order_of c ≤ order_of d → stands_before c d ≡ true
stands_by_number c d s t le =
    by_number c.candidate.length c.candidate.base c.candidate.edge d.candidate.length d.candidate.base d.candidate.edge
    s.base s.edge t.base t.edge le

-- what is sorted by number is in the order of places
pub sorted_by_number : (cs : List Signed) → All IsShort cs → IsNonDecreasingBy order_of cs → Sorted stands_before cs
sorted_by_number cs short order = sorted_from_order stands_before cs (λ i j d before l.
    (let i_in : i < length cs = omega arith in
    stands_by_number (get_or cs i d) (get_or cs j d) (short i d i_in) (short j d l) (order i j d (omega arith) l)))

-- ---- the last candidate

pub some_last : (cs : List Signed) → 0 < length cs → (c : Candidate) × (last_of cs ≡ Some c)
some_last [] l = absurd (omega arith)
some_last (s ∷ []) l = (s.candidate, refl)
some_last (s ∷ r ∷ rest) l = some_last (r ∷ rest) (omega arith)

pub last_member : (cs : List Signed) (c : Candidate) → last_of cs ≡ Some c → (s : Signed) × Contains cs s × (s.candidate ≡ c)
last_member [] c e = cc
last_member (s ∷ []) c e = (s, (0, omega arith, refl), cc)
last_member (s ∷ r ∷ rest) c e =
    let (x, (k, l, is), same) = last_member (r ∷ rest) c e in (x, (suc k, omega arith, is), same)

pub before_last : (cs : List Signed) (c : Candidate) → last_of cs ≡ Some c → Sorted stands_before cs →
    AllByRecursion (λ s. is_no_later (place_of s.candidate) (place_of c) ≡ true) cs
before_last [] c e s = tt
before_last (x ∷ []) c e s =
    let same : x.candidate ≡ c = cc in
    (subst (λ d. is_no_later (place_of x.candidate) (place_of d) ≡ true) same (no_later-same (place_of x.candidate)), tt)
before_last (x ∷ y ∷ rest) c e s =
    let after = before_last (y ∷ rest) c e s.1 in
    (no_later-trans (place_of x.candidate) (place_of y.candidate) (place_of c) s.0.0 after.0, after)

pub last_at : (cs : List Signed) (s : Signed) → 0 < length cs →
    last_of cs ≡ Some (get_or cs (length cs - 1) s).candidate
last_at [] s l = absurd (omega arith)
last_at (x ∷ []) s l = refl
last_at (x ∷ y ∷ rest) s l =
    let at : length (x ∷ y ∷ rest) - 1 ≡ suc (length rest) = omega arith in
    let before : length (y ∷ rest) - 1 ≡ length rest = omega arith in
    last_at (y ∷ rest) s (omega arith) ∙ ap (λ k. Some (get_or (y ∷ rest) k s).candidate) before
    ∙ sym (ap (λ k. Some (get_or (x ∷ y ∷ rest) k s).candidate) at)

-- ---- limits fall

sooner_falls : (a b p : Place) → is_no_later b a ≡ true → comes_sooner b p ≡ true → comes_sooner a p ≡ true
sooner_falls a b p le h = elim (cases_Bool (is_no_later a p)) [
  | inr off ↦ ap not off
  | inl on ↦
      let there = no_later-trans b a p le on in
      let off : false ≡ true = sym (ap not there) ∙ h in absurd (false≢true off)
]

no_later_sooner : (a p : Place) → comes_sooner a p ≡ true → is_no_later p a ≡ true
no_later_sooner a p h = grind (arith, nat_tests)

-- where there is no limit each place is sought
pub all_sought : (o : Option Candidate) (p : Place) → o ≡ None → is_sought o p ≡ true
all_sought o p e = subst (λ x. is_sought x p ≡ true) (sym e) refl

pub limit_none : (width : ℕ) (kept : List Signed) → nat_le width (length kept) ≡ false →
    limit_of (record { width = width; kept = kept }) ≡ None
limit_none width kept off = rw off refl

pub limit_last : (width : ℕ) (kept : List Signed) → nat_le width (length kept) ≡ true →
    limit_of (record { width = width; kept = kept }) ≡ last_of kept
limit_last width kept on = rw on refl

full_more : (w m n : ℕ) → nat_le w m ≡ true → m ≤ n → nat_le w n ≡ true
full_more w m n h le = grind (arith, nat_tests)

-- what is sought after a choice was made again was sought before
pub limit_falls : (width : ℕ) (kept list next : List Signed) → Sorted stands_before kept → length kept ≤ length next →
    ((s : Signed) → Contains next s → Contains kept s ⊎ Contains list s) →
    All (λ s. IsTrue (is_sought (limit_of (record { width = width; kept = kept })) (place_of s.candidate))) list →
    (p : Place) → IsTrue (is_sought (limit_of (record { width = width; kept = next })) p) →
    IsTrue (is_sought (limit_of (record { width = width; kept = kept })) p)
limit_falls width kept list next sorted more sub sooner p h = elim (cases_Bool (nat_le width (length kept))) [
  | inr off ↦ all_sought (limit_of (record { width = width; kept = kept })) p (limit_none width kept off)
  | inl on ↦ of on (last_of kept) refl (limit_last width kept on)
]
  where
    of : nat_le width (length kept) ≡ true → (o : Option Candidate) → last_of kept ≡ o → limit_of (record { width = width; kept = kept }) ≡ last_of kept →
        IsTrue (is_sought (limit_of (record { width = width; kept = kept })) p)
    of on None e full = all_sought (limit_of (record { width = width; kept = kept })) p (full ∙ e)
    of on (Some c) e full =
        let (s, has, is) = last_member kept c e in
        let some : 0 < length kept = omega (arith, has.1) in
        let (c', e') = some_last next (omega arith) in
        let on' : nat_le width (length next) ≡ true = full_more width (length kept) (length next) on more in
        let was : comes_sooner (place_of c') p ≡ true =
        subst (λ o. is_sought o p ≡ true) (limit_last width next on' ∙ e') h in
        let (s', has', is') = last_member next c' e' in
        let before : is_no_later (place_of c') (place_of c) ≡ true =
        subst (λ d. is_no_later (place_of d) (place_of c) ≡ true) is' (elim (sub s' has') [
          | inl old ↦ All-contains (λ s. is_no_later (place_of s.candidate) (place_of c) ≡ true) kept s'
              (All-from_recursion (λ s. is_no_later (place_of s.candidate) (place_of c) ≡ true) kept (before_last kept c e sorted)) old
          | inr new ↦ no_later_sooner (place_of c) (place_of s'.candidate)
              (subst (λ o. is_sought o (place_of s'.candidate) ≡ true) (full ∙ e)
              (All-contains (λ s. is_sought (limit_of (record { width = width; kept = kept })) (place_of s.candidate) ≡ true) list s' sooner new))
        ]) in
        subst (λ o. is_sought o p ≡ true) (sym (full ∙ e)) (sooner_falls (place_of c) (place_of c') p before was)
