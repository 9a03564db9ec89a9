-- Ways along the rim.
use Rattle.std.proofs.Common.{ℕ}
use Rattle.surf_opening.proofs.gluing.RimWords.{IsCopying, Reaches, here, turn, pass}

module _ {Rim Same : ℕ → ℕ → ℕ → Type 0} where
  pub reaches_onward : {g x y h s t f v w : ℕ} → Reaches Rim Same g x y f v w → Reaches Rim Same h s t g x y →
      Reaches Rim Same h s t f v w
  reaches_onward here k = k
  reaches_onward (turn r rest) k = turn r (reaches_onward rest k)
  reaches_onward (pass s r rest) k = pass s r (reaches_onward rest k)

  pub reaches_turned : {g x y f v w : ℕ} → IsCopying Same → Rim f v w → Reaches Rim Same g x y f v w →
      Reaches Rim Same f v w g x y
  reaches_turned eqv q here = here
  reaches_turned eqv q (turn r rest) = reaches_onward (reaches_turned eqv r rest) (turn q here)
  reaches_turned eqv q (pass s r rest) = reaches_onward (reaches_turned eqv r rest) (pass (eqv.turned s) q here)

pub reaches_map : {Rim Same Rim' Same' : ℕ → ℕ → ℕ → Type 0} {g x y f v w : ℕ} →
    ((f v w : ℕ) → Rim f v w → Rim' f v w) → ((v f g : ℕ) → Same v f g → Same' v f g) →
    Reaches Rim Same g x y f v w → Reaches Rim' Same' g x y f v w
reaches_map rim same here = here
reaches_map rim same (turn r rest) = turn (rim _ _ _ r) (reaches_map rim same rest)
reaches_map rim same (pass s r rest) = pass (same _ _ _ s) (rim _ _ _ r) (reaches_map rim same rest)
