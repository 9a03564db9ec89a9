-- What a function answers that may run out of memory, and steps that may fail, over the faults of any subject.
use Rattle.std.specs.Prelude.{◌≡◌, ◌≢◌, Result, Ok, Err}

-- It is that fault, unless memory ran out, which one of the faults says.
abbrev pub Fails : {Y F : Type 0} → F → F → Result Y F → Type 0
Fails memory fault read = fault ≢ memory → read ≡ Err fault

-- The answer, seen by view, is what is read, unless memory ran out.
abbrev pub Gives : {X Y F : Type 0} → F → (X → Y) → Result X F → Result Y F → Type 0
Gives memory view (Ok x) read = read ≡ Ok (view x)
Gives memory view (Err fault) read = Fails memory fault read

-- a step, and the next step on what it read, or its fault
infixl 10 ◌>>=◌
abbrev pub ◌>>=◌ : {A B F : Type 0} → Result A F → (A → Result B F) → Result B F
(Ok x) >>= f = f x
(Err fault) >>= f = Err fault
