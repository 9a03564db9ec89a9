-- The numbers of a line, one after the other.
use Rattle.surf_cert.proofs.Common.{◌≡◌, ◌≢◌, ℕ, suc, List, [], ◌∷◌, ◌++◌, length, Option, Some, None, Result, Ok, Err, refl, sym, ◌∙◌, ap, append_assoc, append-nil, arith, CertText, ok_or, option_map, option_zip, Form, cert_number, cycle_of}
use Rattle.surf_cert.specs.Lines.{numbers_of}

-- the numbers that were read before, and those that are still read
abbrev pub with_numbers : List ℕ → Option (List ℕ) → Option (List ℕ)
with_numbers front None = None
with_numbers front (Some ns) = Some (front ++ ns)

-- a number in front of those behind it
abbrev pub onto_numbers : Option ℕ → Option (List ℕ) → Option (List ℕ)
onto_numbers n ns = option_map (λ x. x.0 ∷ x.1) (option_zip n ns)

regroup : (front : List ℕ) (n : ℕ) (read : Option (List ℕ))
    → with_numbers front (onto_numbers (Some n) read) ≡ with_numbers (front ++ n ∷ []) read
regroup front n None = refl
regroup front n (Some ns) = ap (λ (xs : List ℕ). Some xs) (sym (append_assoc front (n ∷ []) ns))

module _ (front : List ℕ) (tokens : List (List ℕ)) (total : Option (List ℕ)) (so_far : with_numbers front (numbers_of tokens) ≡ total) where
  pub number_more : (token : List ℕ) (rest : List (List ℕ)) (n : ℕ) → tokens ≡ token ∷ rest → cert_number token ≡ Some n
      → with_numbers (front ++ n ∷ []) (numbers_of rest) ≡ total
  unfolding numbers_of
  number_more token rest n is good =
      let one : with_numbers front (numbers_of tokens) ≡ with_numbers (front ++ n ∷ []) (numbers_of rest) = rw (is, good) (regroup front n (numbers_of rest)) in
      sym one ∙ so_far

  pub number_bad : (token : List ℕ) (rest : List (List ℕ)) → tokens ≡ token ∷ rest → cert_number token ≡ None
      → total ≡ None
  unfolding numbers_of
  number_bad token rest is bad =
      let one : with_numbers front (numbers_of tokens) ≡ None = rw (is, bad) refl in
      sym so_far ∙ one

  pub numbers_done : tokens ≡ [] → total ≡ Some front
  unfolding numbers_of
  numbers_done none =
      let one : with_numbers front (numbers_of tokens) ≡ Some front = rw none (ap (λ (xs : List ℕ). Some xs) (append-nil front)) in
      sym so_far ∙ one

size : Option (List ℕ) → ℕ
size None = 0
size (Some ns) = length ns

-- where no token is there, no number is
pub cycle_none : (tokens : List (List ℕ)) (ns : List ℕ) → numbers_of tokens ≡ Some ns → length ns ≡ 0
    → cycle_of tokens ≡ None
unfolding numbers_of size
cycle_none [] ns is none = refl
cycle_none (token ∷ tokens) ns is none = at (cert_number token) (numbers_of tokens) is
  where
    at : (n : Option ℕ) (more : Option (List ℕ)) → onto_numbers n more ≡ Some ns → onto_numbers n more ≡ None
    at None more e = refl
    at (Some n) None e = refl
    at (Some n) (Some ms) e = absurd (let long : suc (length ms) ≡ length ns = ap size e in omega (arith, long, none))

-- where a number is, a token is
pub cycle_some : (tokens : List (List ℕ)) (ns : List ℕ) → numbers_of tokens ≡ Some ns → length ns ≢ 0
    → cycle_of tokens ≡ Some ns
unfolding numbers_of size
cycle_some [] ns is some = absurd (let none : 0 ≡ length ns = ap size is in some (sym none))
cycle_some (token ∷ tokens) ns is some = is

given : Result (List ℕ) CertText → List ℕ
given (Ok ns) = ns
given (Err e) = []

-- what a line gives
pub formed_ok : (line : ℕ) (read : Option (List ℕ)) (ns : List ℕ) → ok_or read (Form line) ≡ Ok ns → read ≡ Some ns
unfolding given
formed_ok line None ns is = absurd cc
formed_ok line (Some ms) ns is = ap (λ r. Some (given r)) is
