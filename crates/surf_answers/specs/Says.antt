-- Texts that are answers.
use Rattle.std.specs.Prelude.{◌≡◌, ℕ, nat_lt, List, length, if◌then◌else◌}
use Rattle.surf_base.specs.declared.limits.LimitKind.TheVariants.{Answer}
use Rattle.surf_texts.specs.Limits.{beyond}
use Rattle.surf_texts.specs.Outcome.{Outcome, answers}

-- The text is the answer, unless it has more than 1,073,741,824 bytes.
abbrev pub Says : List ℕ → Outcome → Type 0
Says text outcome = outcome ≡ (if nat_lt 1073741824 (length text) then beyond Answer else answers 0 text)
