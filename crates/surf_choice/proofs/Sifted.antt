-- The choice of the independent candidates of a list, one after another.
use Rattle.surf_choice.proofs.Common.{◌≡◌, ℕ, ◌+◌, ◌<◌, ◌≤◌, ◌^◌, true, false, Bool, List, [], ◌∷◌, ◌++◌, length, get_or, drop, map, All, refl, sym, ap, ◌∙◌, subst, append_assoc, arith, take, ◌↔◌, inl, inr, AllByRecursion, cases_Bool, recursion_from_All, All-from_recursion, All-permutation, numbers, is_nothing, chosen, Spanned, Decides-is_nothing, spanned_from_in, at_drop_more, at_drop_all, append-nil, map-append, length-map, take_all, greedy_after, spans, same_members, Signed, signed_earlier, independent_of, signatures, kept_after, AreRowsOf, IsAdmitted}
use Rattle.surf_surfaces.proofs.Common.{merge}
use Rattle.surf_z2.proofs.Greedy.{spans_law, not_spans, greedy_law}
use Rattle.surf_choice.proofs.Fronts.{front_spanned, rows_count, rows_more}

-- the choice has come to a place: what is kept, with what is kept of the candidates to come, is the whole, and the rows
-- are those of what is kept
pub record IsSifting (whole candidates kept : List Signed) (rows : List ℕ) (i : ℕ) : Type 0 where
  pub rest : kept_after kept (drop i candidates) ≡ whole
  pub are : AreRowsOf rows (signatures kept)

-- what rows span, the signatures do
pub rows_span : (rows : List ℕ) (kept : List Signed) (s : ℕ) → AreRowsOf rows (signatures kept) →
    (Spanned numbers rows s ↔ Spanned numbers (signatures kept) s)
rows_span rows kept s are =
    let same = rows_count [] rows (signatures kept) are in
    let front = front_spanned rows (signatures kept) (length rows) s are in
    subst (λ xs. Spanned numbers xs s ↔ Spanned numbers (signatures kept) s) (take_all (length rows) rows (omega arith))
    (subst (λ ys. Spanned numbers (take (length rows) rows) s ↔ Spanned numbers ys s) (take_all (length rows) (signatures kept) (omega (arith, same))) front)

-- the next candidate is kept where it is no sum of those before it
pub kept_turn : (kept cs : List Signed) (c : Signed) → (Spanned numbers (signatures kept) c.signature → ⊥) →
    kept_after kept (c ∷ cs) ≡ kept_after (kept ++ c ∷ []) cs
kept_turn kept cs c free =
    let fresh : spans numbers is_nothing (signatures kept) c.signature ≡ false =
    not_spans numbers is_nothing Decides-is_nothing (signatures kept) c.signature
    (λ h. free (spanned_from_in numbers (signatures kept) c.signature h)) in
    let after = greedy_after numbers is_nothing (λ (c : Signed). c.signature) (signatures kept ++ c.signature ∷ []) cs in
    let turn : greedy_after numbers is_nothing (λ (c : Signed). c.signature) (signatures kept) (c ∷ cs) ≡ c ∷ after = rw fresh refl in
    ap (λ rest. kept ++ rest) turn ∙ sym (append_assoc kept (c ∷ []) after)
    ∙ ap (λ v. (kept ++ c ∷ []) ++ greedy_after numbers is_nothing (λ (c : Signed). c.signature) v cs)
    (sym (map-append (λ (c : Signed). c.signature) kept (c ∷ [])))

pub kept_over : (kept cs : List Signed) (c : Signed) → Spanned numbers (signatures kept) c.signature →
    kept_after kept (c ∷ cs) ≡ kept_after kept cs
kept_over kept cs c sum =
    let old : spans numbers is_nothing (signatures kept) c.signature ≡ true =
    (spans_law numbers is_nothing Decides-is_nothing (signatures kept) c.signature).1 sum in
    let turn : greedy_after numbers is_nothing (λ (c : Signed). c.signature) (signatures kept) (c ∷ cs)
    ≡ greedy_after numbers is_nothing (λ (c : Signed). c.signature) (signatures kept) cs = rw old refl in
    ap (λ rest. kept ++ rest) turn

-- a candidate that is independent of those kept
pub sifted_kept : (whole cs kept next : List Signed) (rows more : List ℕ) (i : ℕ) (c : Signed) → IsSifting whole cs kept rows i →
    i < length cs → c ≡ get_or cs i c → (Spanned numbers rows c.signature → ⊥) → next ≡ kept ++ c ∷ [] →
    IsAdmitted rows c.signature more → IsSifting whole cs next more (i + 1)
sifted_kept whole cs kept next rows more i c s l same free e a =
    let mapped = map-append (λ (c : Signed). c.signature) kept (c ∷ []) in
    record {
      rest =
          ap (λ ks. kept_after ks (drop (i + 1) cs)) e
          ∙ sym (at_drop_more (kept_after kept) cs i c l ∙ ap (λ x. kept_after kept (x ∷ drop (i + 1) cs)) (sym same)
          ∙ kept_turn kept (drop (i + 1) cs) c (λ sum. free ((rows_span rows kept c.signature s.are).1 sum)))
          ∙ s.rest;
      are = subst (AreRowsOf more) (sym (ap signatures e ∙ mapped))
          (subst (λ xs. AreRowsOf xs (signatures kept ++ c.signature ∷ [])) (sym a.new_is)
          (rows_more [] rows (signatures kept) a.row c.signature s.are a.differ));
    }

-- a candidate that isn't
pub sifted_out : (whole cs kept next : List Signed) (rows more : List ℕ) (i : ℕ) (c : Signed) → IsSifting whole cs kept rows i →
    i < length cs → c ≡ get_or cs i c → Spanned numbers rows c.signature → next ≡ kept → more ≡ rows →
    IsSifting whole cs next more (i + 1)
sifted_out whole cs kept next rows more i c s l same sum e f =
    record {
      rest =
          ap (λ ks. kept_after ks (drop (i + 1) cs)) e
          ∙ sym (at_drop_more (kept_after kept) cs i c l ∙ ap (λ x. kept_after kept (x ∷ drop (i + 1) cs)) (sym same)
          ∙ kept_over kept (drop (i + 1) cs) c ((rows_span rows kept c.signature s.are).0 sum))
          ∙ s.rest;
      are = subst (AreRowsOf more) (ap signatures (sym e)) (subst (λ xs. AreRowsOf xs (signatures kept)) (sym f) s.are);
    }

-- at the end
pub sifted : (whole cs kept : List Signed) (rows : List ℕ) (i : ℕ) → IsSifting whole cs kept rows i → length cs ≤ i → kept ≡ whole
sifted whole cs kept rows i s past = sym (at_drop_all (kept_after kept) cs i past ∙ append-nil kept) ∙ s.rest

-- as many are kept as there are rows
pub as_many : (kept : List Signed) (rows : List ℕ) → AreRowsOf rows (signatures kept) → length kept ≡ length rows
as_many kept rows are = sym (rows_count [] rows (signatures kept) are ∙ length-map kept (λ (c : Signed). c.signature))

-- ---- the choice among candidates is that among what they stand for

pub greedy_mapped : {C E : Type 0} (own : C → ℕ) (f : C → E) (class : E → ℕ) (before : List ℕ) (cs : List C) →
    AllByRecursion (λ c. own c ≡ class (f c)) cs →
    greedy_after numbers is_nothing class before (map f cs) ≡ map f (greedy_after numbers is_nothing own before cs)
greedy_mapped own f class before [] h = refl
greedy_mapped own f class before (c ∷ cs) h = elim (cases_Bool (spans numbers is_nothing before (class (f c)))) [
  | inl old ↦
      let mine : spans numbers is_nothing before (own c) ≡ true = ap (spans numbers is_nothing before) h.0 ∙ old in
      rw (old, mine) (greedy_mapped own f class before cs h.1)
  | inr new ↦
      let mine : spans numbers is_nothing before (own c) ≡ false = ap (spans numbers is_nothing before) h.0 ∙ new in
      rw (new, mine) (ap (λ es. f c ∷ es) (greedy_mapped own f class (before ++ class (f c) ∷ []) cs h.1
      ∙ ap (λ v. map f (greedy_after numbers is_nothing own (before ++ v ∷ []) cs)) (sym h.0)))
]

-- ---- the signatures of what is merged and kept are as small

abbrev pub AreSmall : ℕ → List Signed → Type 0
AreSmall width cs = All (λ c. c.signature < 2 ^ width) cs

all_joined : {C : Type 0} (P : C → Type 0) (cs ds : List C) → AllByRecursion P cs → AllByRecursion P ds → AllByRecursion P (cs ++ ds)
all_joined P [] ds h k = k
all_joined P (c ∷ cs) ds h k = (h.0, all_joined P cs ds h.1 k)

pub all_merged : {C : Type 0} (before : C → C → Bool) (P : C → Type 0) (cs ds : List C) → All P cs → All P ds → All P (merge before cs ds)
all_merged before P cs ds h k = All-permutation P (cs ++ ds) (merge before cs ds) (same_members before cs ds)
    (All-from_recursion P (cs ++ ds) (all_joined P cs ds (recursion_from_All P cs h) (recursion_from_All P ds k)))

all_chosen : (P : Signed → Type 0) (choice : List Bool) (cs : List Signed) → AllByRecursion P cs → AllByRecursion P (chosen choice cs)
all_chosen P [] cs h = tt
all_chosen P (b ∷ bs) [] h = tt
all_chosen P (true ∷ bs) (c ∷ cs) h = (h.0, all_chosen P bs cs h.1)
all_chosen P (false ∷ bs) (c ∷ cs) h = all_chosen P bs cs h.1

pub all_kept : (P : Signed → Type 0) (cs : List Signed) → All P cs → All P (independent_of cs)
all_kept P cs h =
    let some = (greedy_law numbers is_nothing Decides-is_nothing (λ (c : Signed). c.signature)).some cs in
    subst (All P) (sym some.1) (All-from_recursion P (chosen some.0 cs) (all_chosen P some.0 cs (recursion_from_All P cs h)))

pub merged_small : (width : ℕ) (cs ds first second whole all : List Signed) → AreSmall width cs → AreSmall width ds →
    first ≡ cs → second ≡ ds → whole ≡ merge signed_earlier first second → all ≡ whole → AreSmall width all
merged_small width cs ds first second whole all h k e f is same =
    subst (AreSmall width) (sym (same ∙ is ∙ ap (λ xs. merge signed_earlier xs second) e ∙ ap (merge signed_earlier cs) f))
    (all_merged signed_earlier (λ c. c.signature < 2 ^ width) cs ds h k)

pub kept_small : (width : ℕ) (cs : List Signed) → AreSmall width cs → AreSmall width (independent_of cs)
kept_small width cs h = all_kept (λ c. c.signature < 2 ^ width) cs h
