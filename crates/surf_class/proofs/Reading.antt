-- The numbers of tokens, one after the other.
use Rattle.surf_cert.proofs.Common.{◌≡◌, ℕ, ◌+◌, List, [], ◌∷◌, ◌++◌, length, Some, None, Result, Ok, Err, refl, sym, ◌∙◌, ap, append_assoc, append-nil, length-append, cert_number}
use Rattle.surf_class.proofs.Common.{NumberFault, Bad, onto_numbers}
use Rattle.surf_class.specs.Numbers.{numbers_from}

-- the numbers that were read before, and those that are still read
abbrev pub with_front : List ℕ → Result (List ℕ) NumberFault → Result (List ℕ) NumberFault
with_front front (Ok ns) = Ok (front ++ ns)
with_front front (Err fault) = Err fault

regroup : (front : List ℕ) (place n : ℕ) (read : Result (List ℕ) NumberFault) →
    with_front front (onto_numbers place (Some n) read) ≡ with_front (front ++ n ∷ []) read
regroup front place n (Ok ns) = ap (λ (xs : List ℕ). Ok xs) (sym (append_assoc front (n ∷ []) ns))
regroup front place n (Err fault) = refl

module _ (front : List ℕ) (tokens : List (List ℕ)) (total : Result (List ℕ) NumberFault)
    (so_far : with_front front (numbers_from (length front) tokens) ≡ total) where
  pub number_more : (token : List ℕ) (rest : List (List ℕ)) (n : ℕ) → tokens ≡ token ∷ rest → cert_number token ≡ Some n →
      with_front (front ++ n ∷ []) (numbers_from (length (front ++ n ∷ [])) rest) ≡ total
  unfolding numbers_from
  number_more token rest n is good =
      let long : length (front ++ n ∷ []) ≡ length front + 1 = length-append front (n ∷ []) in
      let one : with_front front (numbers_from (length front) tokens)
      ≡ with_front (front ++ n ∷ []) (numbers_from (length (front ++ n ∷ [])) rest) =
      rw (is, good, long) (regroup front (length front) n (numbers_from (length front + 1) rest)) in
      sym one ∙ so_far

  pub number_bad : (token : List ℕ) (rest : List (List ℕ)) → tokens ≡ token ∷ rest → cert_number token ≡ None →
      total ≡ Err (Bad (length front))
  unfolding numbers_from
  number_bad token rest is bad =
      let one : with_front front (numbers_from (length front) tokens) ≡ Err (Bad (length front)) = rw (is, bad) refl in
      sym so_far ∙ one

  pub numbers_done : tokens ≡ [] → total ≡ Ok front
  unfolding numbers_from
  numbers_done none =
      let one : with_front front (numbers_from (length front) tokens) ≡ Ok front =
      rw none (ap (λ (xs : List ℕ). Ok xs) (append-nil front)) in
      sym so_far ∙ one
