-- The numbers that tokens are.
use Rattle.std.specs.Prelude.{ℕ, ◌+◌, List, [], ◌∷◌, Option, Some, None, Result, Ok, Err}
use Rattle.surf_cert.specs.Lines.{cert_number}
use Rattle.surf_class.specs.declared.numbers.NumberFault.{NumberFault}
use Rattle.surf_class.specs.declared.numbers.NumberFault.TheVariants.{Bad}

-- a number in front of those behind it; the token at this place may be none
abbrev pub onto_numbers : ℕ → Option ℕ → Result (List ℕ) NumberFault → Result (List ℕ) NumberFault
onto_numbers place None read = Err (Bad place)
onto_numbers place (Some n) (Ok ns) = Ok (n ∷ ns)
onto_numbers place (Some n) (Err fault) = Err fault

-- the numbers that tokens are, the first of them at this place, or the least place of a token that isn't a whole
-- number of at most 4,294,967,295
unfoldable pub numbers_from : ℕ → List (List ℕ) → Result (List ℕ) NumberFault
numbers_from place [] = Ok []
numbers_from place (token ∷ tokens) = onto_numbers place (cert_number token) (numbers_from (place + 1) tokens)
