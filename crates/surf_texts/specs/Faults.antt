-- What comes of a first fault.
use Rattle.std.specs.Prelude.{◌≡◌, ◌≢◌}
use Rattle.surf_texts.specs.Outcome.{Outcome}

-- There is a fault, which isn't want of memory, and the outcome tells it.
pub record TellsFault {F : Type 0} (memory : F) (IsFault : F → Type 0) (told : F → Outcome) (outcome : Outcome)
    : Type 0 where
  pub fault : F
  pub isnt_memory : fault ≢ memory
  pub is_fault : IsFault fault
  pub is : outcome ≡ told fault
