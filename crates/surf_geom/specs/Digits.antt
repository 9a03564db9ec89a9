-- Numbers read digit by digit.
use Rattle.std.specs.Prelude.{ℕ, ◌+◌, ◌-◌, ◌*◌, ◌^◌, nat_lt, nat_le, List, length, take, Option, Some, None}
use Rattle.std.specs.Prelude.{if◌then◌else◌}
use Rattle.std.specs.List.{fold}

-- the number whose decimal text is that of n and then the digits
abbrev pub pushed : ℕ → List ℕ → ℕ
pushed n digits = fold (λ n b. n * 10 + (b - 48)) n digits

-- a fixed amount in range
abbrev pub in_range : ℕ → Option ℕ
in_range n = if nat_lt n (10 ^ 18) then Some n else None

-- the number whose decimal text is that of n and then as many digits as there are places behind it. Where the digits
-- are fewer, zeros follow
abbrev pub pushed_to : ℕ → List ℕ → ℕ → ℕ
pushed_to n digits places =
    if nat_le places (length digits)
    then pushed n (take places digits)
    else pushed n digits * 10 ^ (places - length digits)
