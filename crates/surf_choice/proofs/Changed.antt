-- Where the choice changes when others are offered to those kept.
use Rattle.surf_choice.proofs.Common.{◌≡◌, ℕ, zero, suc, ◌+◌, ◌-◌, ◌<◌, ◌≤◌, true, false, List, [], ◌∷◌, ◌++◌, length, get_or, take, drop, All, refl, sym, ap, ◌∙◌, subst, arith, inl, inr, append_assoc, cases_lt, cases_Bool, AllByRecursion, recursion_from_All, All-from_recursion, numbers, is_nothing, Spanned, Decides-is_nothing, in_from_spanned, length-map, append-nil, drop_more, at_drop_all, take_more, take-append-drop, take-map, get_or-drop, length-drop, get_or-take, length-take, take_all, greedy_after, spans, Signed, signed_earlier, earlier, has_next, independent_of, candidates, signatures, kept_after, IsChange, AreRowsOf}
use Rattle.surf_surfaces.proofs.Common.{merge, not_spans}
use Rattle.std.proofs.lemmas.List.{get_or-map}
use Rattle.surf_choice.specs.declared.candidate.Candidate.{Candidate}
use Rattle.surf_choice.proofs.Fronts.{AreFreshAfter, front_spanned}
use Rattle.surf_choice.proofs.Sifted.{kept_turn, kept_over}

-- ---- the next of two lists in order

merge_takes : (k : Signed) (ks ds : List Signed) → has_next (k ∷ ks) ds ≡ true →
    merge signed_earlier (k ∷ ks) ds ≡ k ∷ merge signed_earlier ks ds
merge_takes k ks [] h = refl
merge_takes k ks (d ∷ ds) h = rw h refl

merge_gives : (ks ds : List Signed) (d : Signed) → has_next ks (d ∷ ds) ≡ false →
    merge signed_earlier ks (d ∷ ds) ≡ d ∷ merge signed_earlier ks ds
merge_gives [] ds d h = refl
merge_gives (k ∷ ks) ds d h = rw h refl

merge_none : (ks : List Signed) → merge signed_earlier ks [] ≡ ks
merge_none [] = refl
merge_none (k ∷ ks) = ap (λ xs. k ∷ xs) (merge_none ks)

-- ---- those kept are independent one by one

fresh_rest : (before : List ℕ) (ks : List Signed) (n : ℕ) → AreFreshAfter before (signatures ks) →
    AreFreshAfter (before ++ signatures (take n ks)) (signatures (drop n ks))
fresh_rest before ks zero h = subst (λ xs. AreFreshAfter xs (signatures ks)) (sym (append-nil before)) h
fresh_rest before [] (suc n) h = tt
fresh_rest before (k ∷ ks) (suc n) h =
    subst (λ xs. AreFreshAfter xs (signatures (drop n ks))) (append_assoc before (k.signature ∷ []) (signatures (take n ks)))
    (fresh_rest (before ++ k.signature ∷ []) ks n h.1)

fresh_kept : (before : List ℕ) (ks : List Signed) → AreFreshAfter before (signatures ks) →
    greedy_after numbers is_nothing (λ (c : Signed). c.signature) before ks ≡ ks
fresh_kept before [] h = refl
fresh_kept before (k ∷ ks) h =
    rw (not_spans numbers is_nothing Decides-is_nothing before k.signature h.0)
    (ap (λ xs. k ∷ xs) (fresh_kept (before ++ k.signature ∷ []) ks h.1))

-- ---- the places so far

pub record IsPassing (kept offered : List Signed) (place fresh : ℕ) : Type 0 where
  pub place_in : place ≤ length kept
  pub fresh_in : fresh ≤ length offered
  pub rest : kept_after (take place kept) (merge signed_earlier (drop place kept) (drop fresh offered))
      ≡ independent_of (merge signed_earlier kept offered)

pub pass_begun : (kept offered : List Signed) → IsPassing kept offered 0 0
pass_begun kept offered = record {
  place_in = omega arith;
  fresh_in = omega arith;
  rest = refl;
}

no_loop : Signed
no_loop = record { candidate = record { length = 0; base = 0; edge = 0 }; from = 0; signature = 0 }

some_kept : (ks ds : List Signed) (n : ℕ) → has_next (drop n ks) ds ≡ true → n < length ks
some_kept ks ds n h = elim (cases_lt n (length ks)) [
  | inl less ↦ less
  | inr past ↦ let none : has_next [] ds ≡ true = sym (at_drop_all (λ xs. has_next xs ds) ks n past) ∙ h in absurd (cc)
]

-- one of those kept is next
pub pass_kept : (kept offered : List Signed) (place fresh : ℕ) → IsPassing kept offered place fresh →
    AreFreshAfter [] (signatures kept) → has_next (drop place kept) (drop fresh offered) ≡ true →
    IsPassing kept offered (place + 1) fresh
pass_kept kept offered place fresh p free h =
    let l = some_kept kept (drop fresh offered) place h in
    let k = get_or kept place no_loop in
    let later : drop place kept ≡ k ∷ drop (place + 1) kept = drop_more kept place no_loop l in
    let front : take (place + 1) kept ≡ take place kept ++ k ∷ [] = take_more kept place no_loop l in
    let here : AreFreshAfter (signatures (take place kept)) (signatures (k ∷ drop (place + 1) kept)) =
    subst (λ xs. AreFreshAfter (signatures (take place kept)) (signatures xs)) later (fresh_rest [] kept place free) in
    let taken = merge_takes k (drop (place + 1) kept) (drop fresh offered) (subst (λ xs. has_next xs (drop fresh offered) ≡ true) later h) in
    record {
      place_in = omega arith;
      fresh_in = p.fresh_in;
      rest =
          ap (λ xs. kept_after xs (merge signed_earlier (drop (place + 1) kept) (drop fresh offered))) front
          ∙ sym (ap (λ xs. kept_after (take place kept) (merge signed_earlier xs (drop fresh offered))) later
          ∙ ap (kept_after (take place kept)) taken
          ∙ kept_turn (take place kept) (merge signed_earlier (drop (place + 1) kept) (drop fresh offered)) k
          (λ sum. here.0 (in_from_spanned numbers (signatures (take place kept)) k.signature sum)))
          ∙ p.rest;
    }

-- by the keys of those kept, one of these is next where its key comes before
next_by_key : (kept offered : List Signed) (place fresh : ℕ) (d : Signed) → place < length kept → fresh < length offered →
    d ≡ get_or offered fresh d →
    has_next (drop place kept) (drop fresh offered) ≡ earlier (get_or (candidates kept) place d.candidate) d.candidate
next_by_key kept offered place fresh d k_in d_in same =
    ap (λ xs. has_next xs (drop fresh offered)) (drop_more kept place d k_in)
    ∙ ap (has_next (get_or kept place d ∷ drop (place + 1) kept)) (drop_more offered fresh d d_in ∙ ap (λ x. x ∷ drop (fresh + 1) offered) (sym same))
    ∙ ap (λ (c : Candidate). earlier c d.candidate) (sym (get_or-map (λ (c : Signed). c.candidate) kept place d d.candidate k_in))

-- so many of those kept come before one that was offered
pass_front : (kept offered : List Signed) (place fresh count : ℕ) (d : Signed) → IsPassing kept offered place fresh →
    AreFreshAfter [] (signatures kept) → fresh < length offered → d ≡ get_or offered fresh d → place + count ≤ length kept →
    ((k : ℕ) → place ≤ k → k < place + count → earlier (get_or (candidates kept) k d.candidate) d.candidate ≡ true) →
    IsPassing kept offered (place + count) fresh
pass_front kept offered place fresh zero d p free d_in same le before =
    subst (λ n. IsPassing kept offered n fresh) (omega arith) p
pass_front kept offered place fresh (suc count) d p free d_in same le before =
    let at : place + count + 1 ≡ place + suc count = omega arith in
    let k_in : place + count < length kept = omega (arith, le) in
    subst (λ n. IsPassing kept offered n fresh) at (pass_kept kept offered (place + count) fresh
    (pass_front kept offered place fresh count d p free d_in same (omega (arith, le)) (λ k l m. before k l (omega (arith, m)))) free
    (next_by_key kept offered (place + count) fresh d k_in d_in same ∙ before (place + count) (omega arith) (omega arith)))

-- keys are passed as long as they come before one that was offered, which then is next
pub pass_keys : (kept offered : List Signed) (keys : List Candidate) (from place fresh : ℕ) (d : Signed) →
    IsPassing kept offered from fresh → AreFreshAfter [] (signatures kept) → keys ≡ candidates kept →
    fresh < length offered → d ≡ get_or offered fresh d → from ≤ place → place ≤ length keys →
    ((k : ℕ) → from ≤ k → k < place → earlier (get_or keys k d.candidate) d.candidate ≡ true) →
    (place < length keys → earlier (get_or keys place d.candidate) d.candidate ≡ false) →
    IsPassing kept offered place fresh × (has_next (drop place kept) (drop fresh offered) ≡ false)
pass_keys kept offered keys from place fresh d p free are d_in same le place_in before next =
    let many : length keys ≡ length kept = ap (λ (xs : List Candidate). length xs) are ∙ length-map kept (λ (c : Signed). c.candidate) in
    let at : from + (place - from) ≡ place = omega (arith, le) in (
      subst (λ n. IsPassing kept offered n fresh) at (pass_front kept offered from fresh (place - from) d p free d_in same
          (omega (arith, at, many, place_in)) (λ k l m.
          (subst (λ xs. earlier (get_or xs k d.candidate) d.candidate ≡ true) are (before k l (omega (arith, m, at)))))),
      elim (cases_lt place (length kept)) [
        | inl less ↦ next_by_key kept offered place fresh d less d_in same
            ∙ subst (λ xs. earlier (get_or xs place d.candidate) d.candidate ≡ false) are (next (omega (arith, less, many)))
        | inr past ↦ at_drop_all (λ xs. has_next xs (drop fresh offered)) kept place past
      ],
    )

-- one that was offered is, and is a sum of those before it
pub pass_offered : (kept offered : List Signed) (place fresh : ℕ) (d : Signed) → IsPassing kept offered place fresh →
    fresh < length offered → d ≡ get_or offered fresh d → has_next (drop place kept) (drop fresh offered) ≡ false →
    Spanned numbers (signatures (take place kept)) d.signature → IsPassing kept offered place (fresh + 1)
pass_offered kept offered place fresh d p l same h sum =
    let later : drop fresh offered ≡ d ∷ drop (fresh + 1) offered =
    drop_more offered fresh d l ∙ ap (λ x. x ∷ drop (fresh + 1) offered) (sym same) in
    let given = merge_gives (drop place kept) (drop (fresh + 1) offered) d (subst (λ xs. has_next (drop place kept) xs ≡ false) later h) in
    record {
      place_in = p.place_in;
      fresh_in = omega arith;
      rest =
          sym (ap (λ xs. kept_after (take place kept) (merge signed_earlier (drop place kept) xs)) later
          ∙ ap (kept_after (take place kept)) given
          ∙ kept_over (take place kept) (merge signed_earlier (drop place kept) (drop (fresh + 1) offered)) d sum)
          ∙ p.rest;
    }

-- all that were offered are sums
pub pass_ended : (kept offered : List Signed) (place fresh : ℕ) → IsPassing kept offered place fresh →
    AreFreshAfter [] (signatures kept) → length offered ≤ fresh → independent_of (merge signed_earlier kept offered) ≡ kept
pass_ended kept offered place fresh p free past =
    sym p.rest
    ∙ at_drop_all (λ xs. kept_after (take place kept) (merge signed_earlier (drop place kept) xs)) offered fresh past
    ∙ ap (kept_after (take place kept)) (merge_none (drop place kept))
    ∙ ap (λ xs. take place kept ++ xs) (fresh_kept (signatures (take place kept)) (drop place kept) (fresh_rest [] kept place free))
    ∙ take-append-drop place kept

-- one that is none
pub pass_changes : (kept offered : List Signed) (place fresh : ℕ) (c : Signed) → IsPassing kept offered place fresh →
    fresh < length offered → c ≡ get_or offered fresh c → has_next (drop place kept) (drop fresh offered) ≡ false →
    (Spanned numbers (signatures (take place kept)) c.signature → ⊥) → IsChange kept offered place fresh
pass_changes kept offered place fresh c p l same h free = record {
  place_in = p.place_in;
  fresh_in = l;
  next = h;
  free = λ d. subst (λ (x : Signed). Spanned numbers (signatures (take place kept)) x.signature → ⊥)
      (same ∙ one offered fresh c d l) free;
  rest = p.rest;
}
  where
    one : (xs : List Signed) (n : ℕ) (c d : Signed) → n < length xs → get_or xs n c ≡ get_or xs n d
    one [] n c d l = absurd (omega arith)
    one (x ∷ xs) zero c d l = refl
    one (x ∷ xs) (suc n) c d l = one xs n c d (omega arith)

-- what the first rows span, the signatures of the first ones do
pub rows_span_front : (rows : List ℕ) (kept : List Signed) (n s : ℕ) → AreRowsOf rows (signatures kept) →
    (Spanned numbers (take n rows) s → Spanned numbers (signatures (take n kept)) s)
    × (Spanned numbers (signatures (take n kept)) s → Spanned numbers (take n rows) s)
rows_span_front rows kept n s are =
    let front = front_spanned rows (signatures kept) n s are in
    let same = take-map (λ (c : Signed). c.signature) n kept in (
      (λ h. subst (λ xs. Spanned numbers xs s) same (front.0 h)),
      (λ h. front.1 (subst (λ xs. Spanned numbers xs s) (sym same) h)),
    )

-- ---- later parts of lists

later_part : (n : ℕ) (cs : List Signed) → take (length cs - n) (drop n cs) ≡ drop n cs
later_part n cs = take_all (length cs - n) (drop n cs) (let m = length-drop n cs in omega (arith, m))

pub part_small : (P : Signed → Type 0) (n : ℕ) (xs cs : List Signed) → xs ≡ cs → All P cs → All P (take (length xs - n) (drop n xs))
part_small P n xs cs e h = subst (λ ys. All P (take (length ys - n) (drop n ys))) (sym e)
    (subst (All P) (sym (later_part n cs)) (λ k d l.
    (let m = length-drop n cs in subst P (sym (get_or-drop n cs k d)) (h (n + k) d (omega (arith, l, m))))))

pub front_small : (P : Signed → Type 0) (n : ℕ) (cs : List Signed) → All P cs → All P (take n cs)
front_small P n cs h = λ k d l.
    (let m = length-take n cs in subst P (sym (get_or-take n cs k d (omega (arith, l, m)))) (h k d (omega (arith, l, m))))

all_after : (P : Signed → Type 0) (before : List ℕ) (cs : List Signed) → AllByRecursion P cs →
    AllByRecursion P (greedy_after numbers is_nothing (λ (c : Signed). c.signature) before cs)
all_after P before [] h = tt
all_after P before (c ∷ cs) h = elim (cases_Bool (spans numbers is_nothing before c.signature)) [
  | inl old ↦ rw old (all_after P before cs h.1)
  | inr new ↦ rw new (h.0, all_after P (before ++ c.signature ∷ []) cs h.1)
]

all_joined : (P : Signed → Type 0) (cs ds : List Signed) → AllByRecursion P cs → AllByRecursion P ds → AllByRecursion P (cs ++ ds)
all_joined P [] ds h k = k
all_joined P (c ∷ cs) ds h k = (h.0, all_joined P cs ds h.1 k)

pub kept_after_small : (P : Signed → Type 0) (kept cs : List Signed) → All P kept → All P cs → All P (kept_after kept cs)
kept_after_small P kept cs h k = All-from_recursion P (kept_after kept cs)
    (all_joined P kept (greedy_after numbers is_nothing (λ (c : Signed). c.signature) (signatures kept) cs)
    (recursion_from_All P kept h) (all_after P (signatures kept) cs (recursion_from_All P cs k)))
