-- Parts of a list, and where they stand in it.
use Rattle.std.proofs.Common.{◌≡◌, ◌≤◌, ◌+◌, ◌-◌, ℕ, suc, List, [], ◌∷◌, length, take, drop, min, refl, sym, ◌∙◌, ap, subst, arith, inl, inr, length-take}
use Rattle.std.specs.List.{before_first, position_or_len}
use Rattle.std.proofs.lemmas.Bool.{cases_Bool, cases_lt}
use Rattle.std.proofs.Math.Nat.{min-eq_left, min-eq_right}
use Rattle.std.proofs.lemmas.List.{drop-drop, drop-take, length-drop, take_all, take-take, take_rest}
use Rattle.surf_text.specs.Text.{is_blank, is_line_end, is_comment_sign, uncommented, trimmed_front, before_some, trimmed_back, trimmed}
use Rattle.surf_text.specs.Walks.{StandsAt}
use Rattle.surf_text.proofs.Words.{front_le}

module _ (xs ys : List ℕ) (at : ℕ) (stands : StandsAt xs ys at) where
  pub front_stands : (k : ℕ) → StandsAt xs (take k ys) at
  front_stands k =
      let count : length (take k ys) ≡ min k (length ys) = length-take k ys in
      record {
        within = omega (arith, count, stands.within);
        same = elim (cases_lt (length ys) k) [
          | inl lt ↦
              let m : min k (length ys) ≡ length ys = min-eq_right (omega (arith, lt)) in
              ap (λ (n : ℕ). take n (drop at xs)) (count ∙ m) ∙ stands.same ∙ sym (take_all k ys (omega (arith, lt)))
          | inr le ↦
              let m : min k (length ys) ≡ k = min-eq_left le in
              ap (λ (n : ℕ). take n (drop at xs)) (count ∙ m) ∙ sym (take-take k (length ys) (drop at xs) le) ∙ ap (take k) stands.same
        ];
      }

  pub behind_stands : (k : ℕ) → k ≤ length ys → StandsAt xs (drop k ys) (at + k)
  behind_stands k le =
      let count : length (drop k ys) ≡ length ys - k = length-drop k ys in
      let n : k + (length ys - k) ≡ length ys = omega (arith, le) in
      record {
        within = omega (arith, count, le, stands.within);
        same = ap (λ (m : ℕ). take m (drop (at + k) xs)) count
            ∙ ap (take (length ys - k)) (sym (drop-drop k at xs))
            ∙ sym (drop-take k (length ys - k) (drop at xs))
            ∙ ap (λ (m : ℕ). drop k (take m (drop at xs))) n
            ∙ ap (drop k) stands.same;
      }

front_drop : (bs : List ℕ) → drop (length bs - length (trimmed_front bs)) bs ≡ trimmed_front bs
front_drop [] = refl
front_drop (b ∷ bs) = elim (cases_Bool (is_blank b)) [
  | inl blank ↦
      let n : suc (length bs) - length (trimmed_front bs) ≡ suc (length bs - length (trimmed_front bs)) = omega (arith, front_le bs) in
      rw (blank, n) (front_drop bs)
  | inr dark ↦ let n : length (b ∷ bs) - length (b ∷ bs) ≡ 0 = omega arith in rw (dark, n) refl
]

back_take : (bs : List ℕ) → take (length (trimmed_back bs)) bs ≡ trimmed_back bs
back_take [] = refl
back_take (b ∷ bs) = at (trimmed_back bs) (back_take bs)
  where
    at : (back : List ℕ) → take (length back) bs ≡ back → take (length (before_some b back)) (b ∷ bs) ≡ before_some b back
    at [] same = elim (cases_Bool (is_blank b)) [ inl blank ↦ rw blank refl | inr dark ↦ rw dark refl ]
    at (c ∷ cs) same = ap (λ (t : List ℕ). b ∷ t) same

-- the end of a list
pub end_stands : (xs : List ℕ) (at : ℕ) → at ≤ length xs → StandsAt xs (drop at xs) at
end_stands xs at le =
    let count : length (drop at xs) ≡ length xs - at = length-drop at xs in
    record {
      within = omega (arith, count, le);
      same = ap (λ (n : ℕ). take n (drop at xs)) count ∙ take_rest xs at;
    }

-- A part without the blanks at its ends stands behind those in front.
pub trimmed_stands : (xs ys : List ℕ) (at : ℕ) → StandsAt xs ys at → StandsAt xs (trimmed_back (trimmed_front ys)) (at + (length ys - length (trimmed_front ys)))
trimmed_stands xs ys at stands =
    let front = trimmed_front ys in
    let k = length ys - length front in
    let le : k ≤ length ys = omega arith in
    let one : StandsAt xs front (at + k) = subst (λ (zs : List ℕ). StandsAt xs zs (at + k)) (front_drop ys) (behind_stands xs ys at stands k le) in
    subst (λ (zs : List ℕ). StandsAt xs zs (at + k)) (back_take front) (front_stands xs front (at + k) one (length (trimmed_back front)))

-- the part of a first line that a walk lends
pub line_stands : (text line front part : List ℕ) → line ≡ uncommented (before_first is_line_end text) → front ≡ trimmed_front (uncommented (before_first is_line_end text)) → part ≡ trimmed (uncommented (before_first is_line_end text)) → StandsAt text part (length line - length front)
line_stands text line front part line_is front_is part_is =
    let n = position_or_len is_line_end text in
    let raw = take n text in
    let whole : StandsAt text text 0 = end_stands text 0 (omega arith) in
    let one : StandsAt text raw 0 = front_stands text text 0 whole n in
    let two : StandsAt text (uncommented raw) 0 = front_stands text raw 0 one (position_or_len is_comment_sign raw) in
    let three = trimmed_stands text (uncommented raw) 0 two in
    rw (line_is, front_is, part_is) (subst (λ (k : ℕ). StandsAt text (trimmed (uncommented raw)) k) (omega arith) three)

-- A part of a part stands in the whole.
pub inner_stands : (xs ys zs : List ℕ) (at k : ℕ) → StandsAt xs ys at → StandsAt ys zs k → StandsAt xs zs (at + k)
inner_stands xs ys zs at k outer inner =
    let behind = behind_stands xs ys at outer k (omega (arith, inner.within)) in
    subst (λ (part : List ℕ). StandsAt xs part (at + k)) inner.same (front_stands xs (drop k ys) (at + k) behind (length zs))

-- the same for what stands from a place on
pub behind_place : (text part : List ℕ) (at k : ℕ) → at ≤ length text → StandsAt (take (length text - at) (drop at text)) part k → StandsAt text part (at + k)
behind_place text part at k le stands = inner_stands text (drop at text) part at k (end_stands text at le) (subst (λ (rest : List ℕ). StandsAt rest part k) (take_rest text at) stands)
