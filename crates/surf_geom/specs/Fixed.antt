-- A coordinate as a token writes it, and its fixed value: its value times 10^9, cut to a whole number towards zero.
use Rattle.std.specs.Prelude.{ℕ, ◌+◌, ◌*◌, ◌/◌, ◌^◌, Bool, false, ◌==◌, ◌||◌, ◌&&◌, nat_le, List, [], ◌∷◌, ◌++◌}
use Rattle.std.specs.Prelude.{length, drop, Option, Some, None, option_map, Result, Ok, Err, if◌then◌else◌, ℤ, pos}
use Rattle.std.specs.Prelude.{neg_ℤ}
use Rattle.std.specs.Char.{is_ascii_digit}
use Rattle.std.specs.List.{before_first, after_first, position, list_all}
use Rattle.std.specs.Option.{option_map_or}
use Rattle.surf_text.specs.Text.{is_nonempty, value_of, whole}
use Rattle.surf_geom.specs.declared.fault.FixedFault.{FixedFault}
use Rattle.surf_geom.specs.declared.fault.FixedFault.TheVariants.{Form, Range}

abbrev pub is_minus : ℕ → Bool
is_minus b = b == 45

-- a plus or a minus
abbrev pub is_sign : ℕ → Bool
is_sign b = b == 43 || is_minus b

abbrev pub is_point : ℕ → Bool
is_point b = b == 46

-- `E` or `e`, which an exponent stands behind
abbrev pub is_letter : ℕ → Bool
is_letter b = b == 69 || b == 101

-- whether a minus stands in front
abbrev pub is_negative : List ℕ → Bool
is_negative [] = false
is_negative (b ∷ bs) = is_minus b

-- without the sign in front, if there is one
abbrev pub unsigned : List ℕ → List ℕ
unsigned [] = []
unsigned (b ∷ bs) = if is_sign b then bs else b ∷ bs

-- by how many powers of ten an exponent raises a number, and by how many it lowers it: one of them is 0
abbrev pub shift : Bool → Option ℕ → Option (ℕ × ℕ)
shift negative None = None
shift negative (Some x) = if negative then Some (0, x) else Some (x, 0)

-- an exponent: an optional sign and one to three digits
abbrev pub exponent_in : List ℕ → Option (ℕ × ℕ)
exponent_in text = if nat_le (length (unsigned text)) 3 then shift (is_negative text) (whole (unsigned text)) else None

-- what stands behind the first letter, if there is one
abbrev pub behind_letter : List ℕ → Option (List ℕ)
behind_letter text = option_map (λ place. drop (place + 1) text) (position is_letter text)

-- Without a letter a number is neither raised nor lowered.
abbrev pub exponent_of : Option (List ℕ) → Option (ℕ × ℕ)
exponent_of text = option_map_or exponent_in text (Some (0, 0))

-- A number: its sign, the digits before and behind the point, and by how many powers of ten it is raised and lowered.
pub record Decimal : Type 0 where
  pub negative : Bool
  pub front : List ℕ
  pub behind : List ℕ
  pub raised : ℕ
  pub lowered : ℕ

-- at least one digit, and nothing else
abbrev pub are_digits : List ℕ → Bool
are_digits text = is_nonempty text && list_all is_ascii_digit text

abbrev pub raised_by : Bool → List ℕ → ℕ × ℕ → Decimal
raised_by negative mantissa x = record {
  negative = negative;
  front = before_first is_point mantissa;
  behind = after_first is_point mantissa;
  raised = x.0;
  lowered = x.1;
}

-- digits with at most one point among, before or behind them, with a sign, and raised by an exponent if there is one
abbrev pub decimal_of : Bool → List ℕ → Option (ℕ × ℕ) → Option Decimal
decimal_of negative mantissa exponent =
    if are_digits (before_first is_point mantissa ++ after_first is_point mantissa)
    then option_map (raised_by negative mantissa) exponent
    else None

-- The number that a token has the form of: an optional sign, a mantissa, and optionally a letter and an exponent
abbrev pub decimal_in : List ℕ → Option Decimal
decimal_in token =
    decimal_of (is_negative token) (before_first is_letter (unsigned token))
    (exponent_of (behind_letter (unsigned token)))

-- The amount of a number is a fraction of whole numbers: all its digits, raised, ..
abbrev pub numerator : Decimal → ℕ
numerator d = value_of (d.front ++ d.behind) * 10 ^ d.raised

-- .. over a power of ten, by the digits behind the point and what it is lowered by.
abbrev pub denominator : Decimal → ℕ
denominator d = 10 ^ (length d.behind + d.lowered)

-- whether the amount is 10^9 or more
abbrev pub is_great : Decimal → Bool
is_great d = nat_le (10 ^ 9 * denominator d) (numerator d)

-- the amount in units of 10^-9, cut
abbrev pub fixed_amount : Decimal → ℕ
fixed_amount d = (numerator d * 10 ^ 9) / denominator d

abbrev pub signed : Bool → ℕ → ℤ
signed negative n = if negative then neg_ℤ (pos n) else pos n

abbrev pub fixed_if : Option Decimal → Result ℤ FixedFault
fixed_if None = Err Form
fixed_if (Some d) = if is_great d then Err Range else Ok (signed d.negative (fixed_amount d))

-- the fixed value of a token, or why it has none
abbrev pub fixed_of : List ℕ → Result ℤ FixedFault
fixed_of token = fixed_if (decimal_in token)
