-- Parts of the code as those of a token.
use Rattle.std.specs.Prelude.{ℕ, List, Option, option_map}
use Rattle.std.specs.Borrow.{Bor}
use Rattle.surf_geom.specs.Fixed.{Decimal}
use Rattle.surf_geom.specs.declared.numbers.Number.{Number}

abbrev pub decimal_seen : Number → Decimal
decimal_seen n = record {
  negative = n.negative;
  front = n.front.now;
  behind = n.behind.now;
  raised = n.raised;
  lowered = n.lowered;
}

-- the bytes, if there are some
abbrev pub seen : Option (Bor (List ℕ)) → Option (List ℕ)
seen text = option_map (λ t. t.now) text
