-- What is read of a text has no line end, no comment sign and no blank at its ends.
use Rattle.surf_surfaces.proofs.Common.{◌≡◌, ◌+◌, ℕ, zero, suc, Bool, true, false, cond, List, [], ◌∷◌, take, drop, refl, sym, ◌∙◌, ap, arith, inl, inr, ◌||◌, cases_Bool, list_any, slice_split, onto_first, before_first, position_or_len}
use Rattle.surf_text.specs.Text.{TextLine, is_blank, is_line_end, is_comment_sign, uncommented, trimmed_front, before_some, trimmed_back, trimmed, behind_word, behind_words, rest_after, tokens_of, onto_lines, numbered_from, lines_of}
use Rattle.surf_text.proofs.Words.{front_twice, trimmed_begins}
use Rattle.surf_off.specs.Clean.{IsClean}

-- no element of either passes
none_cons : (p : ℕ → Bool) (x : ℕ) (xs : List ℕ) → p x ≡ false → list_any p xs ≡ false → list_any p (x ∷ xs) ≡ false
none_cons p x xs here later = rw (here, later) refl

pub none_head : (p : ℕ → Bool) (x : ℕ) (xs : List ℕ) → list_any p (x ∷ xs) ≡ false → p x ≡ false
none_head p x xs none = at (p x) none
  where
    at : (b : Bool) → (b || list_any p xs) ≡ false → b ≡ false
    at true e = e
    at false e = refl

pub none_tail : (p : ℕ → Bool) (x : ℕ) (xs : List ℕ) → list_any p (x ∷ xs) ≡ false → list_any p xs ≡ false
none_tail p x xs none = at (p x) none
  where
    at : (b : Bool) → (b || list_any p xs) ≡ false → list_any p xs ≡ false
    at true e = absurd cc
    at false e = e

none_take : (p : ℕ → Bool) (n : ℕ) (xs : List ℕ) → list_any p xs ≡ false → list_any p (take n xs) ≡ false
none_take p zero xs none = refl
none_take p (suc n) [] none = refl
none_take p (suc n) (x ∷ xs) none = none_cons p x (take n xs) (none_head p x xs none) (none_take p n xs (none_tail p x xs none))

none_drop : (p : ℕ → Bool) (n : ℕ) (xs : List ℕ) → list_any p xs ≡ false → list_any p (drop n xs) ≡ false
none_drop p zero xs none = none
none_drop p (suc n) [] none = refl
none_drop p (suc n) (x ∷ xs) none = none_drop p n xs (none_tail p x xs none)

none_front : (p : ℕ → Bool) (xs : List ℕ) → list_any p xs ≡ false → list_any p (trimmed_front xs) ≡ false
none_front p [] none = refl
none_front p (x ∷ xs) none = elim (cases_Bool (is_blank x)) [ inl blank ↦ rw blank (none_front p xs (none_tail p x xs none)) | inr dark ↦ rw dark none ]

none_back : (p : ℕ → Bool) (xs : List ℕ) → list_any p xs ≡ false → list_any p (trimmed_back xs) ≡ false
none_back p [] none = refl
none_back p (x ∷ xs) none = at (trimmed_back xs) (none_back p xs (none_tail p x xs none))
  where
    at : (back : List ℕ) → list_any p back ≡ false → list_any p (before_some x back) ≡ false
    at [] later = elim (cases_Bool (is_blank x)) [ inl blank ↦ rw blank refl | inr dark ↦ rw dark (none_cons p x [] (none_head p x xs none) refl) ]
    at (c ∷ cs) later = none_cons p x (c ∷ cs) (none_head p x xs none) later

none_trimmed : (p : ℕ → Bool) (xs : List ℕ) → list_any p xs ≡ false → list_any p (trimmed xs) ≡ false
none_trimmed p xs none = none_back p (trimmed_front xs) (none_front p xs none)

-- what stands before the first that passes
pub none_before : (p : ℕ → Bool) (xs : List ℕ) → list_any p (before_first p xs) ≡ false
none_before p [] = refl
none_before p (x ∷ xs) =
    let n = position_or_len p xs in
    let k : 1 + n ≡ suc n = omega arith in
    elim (cases_Bool (p x)) [ inl good ↦ rw good refl | inr bad ↦ rw (bad, k) (none_cons p x (take n xs) bad (none_before p xs)) ]

-- no part of a list that is cut where elements pass has one that passes
pub NoneIn : (ℕ → Bool) → List (List ℕ) → Type 0
NoneIn p [] = Unit {0}
NoneIn p (part ∷ parts) = (list_any p part ≡ false) × NoneIn p parts

none_onto : (p : ℕ → Bool) (x : ℕ) (parts : List (List ℕ)) → p x ≡ false → NoneIn p parts → NoneIn p (onto_first x parts)
unfolding NoneIn
none_onto p x [] bad none = (none_cons p x [] bad refl, tt)
none_onto p x (part ∷ parts) bad none = (none_cons p x part bad none.0, none.1)

pub none_split : (p : ℕ → Bool) (xs : List ℕ) → NoneIn p (slice_split p xs)
unfolding NoneIn
none_split p [] = (refl, tt)
none_split p (x ∷ xs) = elim (cases_Bool (p x)) [ inl good ↦ rw good (refl, none_split p xs) | inr bad ↦ rw bad (none_onto p x (slice_split p xs) bad (none_split p xs)) ]

back_twice : (xs : List ℕ) → trimmed_back (trimmed_back xs) ≡ trimmed_back xs
back_twice [] = refl
back_twice (x ∷ xs) = at (trimmed_back xs) (back_twice xs)
  where
    at : (back : List ℕ) → trimmed_back back ≡ back → trimmed_back (before_some x back) ≡ before_some x back
    at [] same = elim (cases_Bool (is_blank x)) [ inl blank ↦ rw blank refl | inr dark ↦ rw (dark, dark) refl ]
    at (c ∷ cs) same = ap (before_some x) same

back_tail : (x : ℕ) (xs : List ℕ) → trimmed_back (x ∷ xs) ≡ x ∷ xs → trimmed_back xs ≡ xs
back_tail x xs same = at (trimmed_back xs) refl same
  where
    nothing : (b : Bool) (xs : List ℕ) → cond b [] (x ∷ []) ≡ x ∷ xs → [] ≡ xs
    nothing true xs e = absurd cc
    nothing false xs e = cc

    at : (back : List ℕ) → trimmed_back xs ≡ back → before_some x back ≡ x ∷ xs → back ≡ xs
    at [] is e = nothing (is_blank x) xs e
    at (c ∷ cs) is e = cc

back_drop : (n : ℕ) (xs : List ℕ) → trimmed_back xs ≡ xs → trimmed_back (drop n xs) ≡ drop n xs
back_drop zero xs same = same
back_drop (suc n) [] same = refl
back_drop (suc n) (x ∷ xs) same = back_drop n xs (back_tail x xs same)

back_front : (xs : List ℕ) → trimmed_back xs ≡ xs → trimmed_back (trimmed_front xs) ≡ trimmed_front xs
back_front [] same = refl
back_front (x ∷ xs) same = elim (cases_Bool (is_blank x)) [ inl blank ↦ rw blank (back_front xs (back_tail x xs same)) | inr dark ↦ rw dark same ]

pub trimmed_is : (xs : List ℕ) → trimmed_front xs ≡ xs → trimmed_back xs ≡ xs → trimmed xs ≡ xs
trimmed_is xs front back = ap trimmed_back front ∙ back

pub trimmed_fronts : (xs : List ℕ) → trimmed xs ≡ xs → trimmed_front xs ≡ xs
trimmed_fronts xs same = sym (ap trimmed_front same) ∙ trimmed_begins xs ∙ same

pub trimmed_backs : (xs : List ℕ) → trimmed xs ≡ xs → trimmed_back xs ≡ xs
trimmed_backs xs same = sym (ap trimmed_back same) ∙ back_twice (trimmed_front xs) ∙ same

trimmed_twice : (xs : List ℕ) → trimmed (trimmed xs) ≡ trimmed xs
trimmed_twice xs = trimmed_is (trimmed xs) (trimmed_begins xs) (back_twice (trimmed_front xs))

clean_line : (part : List ℕ) → list_any is_line_end part ≡ false → IsClean (trimmed (uncommented part))
clean_line part none = record {
  one_line = none_trimmed is_line_end (uncommented part) (none_take is_line_end (position_or_len is_comment_sign part) part none);
  uncommented = none_trimmed is_comment_sign (uncommented part) (none_before is_comment_sign part);
  trimmed = trimmed_twice (uncommented part);
}

pub clean_trimmed : (line : List ℕ) → list_any is_line_end line ≡ false → IsClean (trimmed (uncommented line))
clean_trimmed line none = clean_line line none

clean_behind : (bytes : List ℕ) → IsClean bytes → IsClean (behind_word bytes)
clean_behind bytes clean =
    let n = position_or_len is_blank bytes in
    record {
      one_line = none_front is_line_end (drop n bytes) (none_drop is_line_end n bytes clean.one_line);
      uncommented = none_front is_comment_sign (drop n bytes) (none_drop is_comment_sign n bytes clean.uncommented);
      trimmed = trimmed_is (behind_word bytes) (front_twice (drop n bytes)) (back_front (drop n bytes) (back_drop n bytes (trimmed_backs bytes clean.trimmed)));
    }

clean_behinds : (n : ℕ) (bytes : List ℕ) → IsClean bytes → IsClean (behind_words n bytes)
clean_behinds zero bytes clean = clean
clean_behinds (suc n) bytes clean = clean_behinds n (behind_word bytes) (clean_behind bytes clean)

pub clean_rest : (n : ℕ) (bytes : List ℕ) → IsClean bytes → IsClean (rest_after n bytes)
clean_rest n bytes clean = clean_behinds n (trimmed (uncommented bytes)) (clean_line bytes clean.one_line)

-- all lines of a list are clean
abbrev pub AllClean : List TextLine → Type 0
AllClean [] = Unit {0}
AllClean (line ∷ lines) = IsClean line.bytes × AllClean lines

clean_onto : (line : TextLine) (tokens : List (List ℕ)) (lines : List TextLine) → IsClean line.bytes → AllClean lines → AllClean (onto_lines line tokens lines)
clean_onto line [] lines clean all = all
clean_onto line (t ∷ ts) lines clean all = (clean, all)

pub clean_numbered : (n : ℕ) (parts : List (List ℕ)) → NoneIn is_line_end parts → AllClean (numbered_from n parts)
unfolding NoneIn
clean_numbered n [] none = tt
clean_numbered n (part ∷ parts) none = clean_onto (record { number = n; bytes = trimmed (uncommented part) }) (tokens_of part) (numbered_from (n + 1) parts) (clean_line part none.0) (clean_numbered (n + 1) parts none.1)

pub clean_lines : (text : List ℕ) → AllClean (lines_of text)
clean_lines text = clean_numbered 1 (slice_split is_line_end text) (none_split is_line_end text)
