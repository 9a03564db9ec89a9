-- What is so of all that a step reads.
use Rattle.surf_surfaces.proofs.Common.{◌≡◌, Bool, true, false, Option, Some, None, Result, Ok, Err, refl, subst}
use Rattle.std.specs.Prelude.{ok_or, if◌then◌else◌}
use Rattle.surf_base.specs.Gives.{◌>>=◌}

-- what is read, if anything is, is so
abbrev pub Holds : {A F : Type 0} → (A → Type 0) → Result A F → Type 0
Holds P (Ok x) = P x
Holds P (Err fault) = Unit {0}

pub then_holds : {A B F : Type 0} (P : A → Type 0) (Q : B → Type 0) (r : Result A F) (f : A → Result B F) → Holds P r →
    ((x : A) → P x → Holds Q (f x)) → Holds Q (r >>= f)
then_holds P Q (Ok x) f here next = next x here
then_holds P Q (Err fault) f here next = tt

pub anything : {A F : Type 0} (r : Result A F) → Holds (λ x. Unit {0}) r
anything (Ok x) = tt
anything (Err fault) = tt

-- what is read is read so
pub itself : {A F : Type 0} (r : Result A F) → Holds (λ x. r ≡ Ok x) r
itself (Ok x) = refl
itself (Err fault) = tt

pub of_read : {A F : Type 0} (P : A → Type 0) (r : Result A F) (x : A) → r ≡ Ok x → Holds P r → P x
of_read P r x is holds = subst (Holds P) is holds

pub of_option : {A F : Type 0} (P : A → Type 0) (o : Option A) (fault : F) → ((x : A) → o ≡ Some x → P x) →
    Holds P (ok_or o fault)
of_option P None fault is = tt
of_option P (Some x) fault is = is x refl

pub of_choice : {A F : Type 0} (P : A → Type 0) (b : Bool) (r s : Result A F) → (b ≡ true → Holds P r) →
    (b ≡ false → Holds P s) → Holds P (if b then r else s)
of_choice P true r s on out = on refl
of_choice P false r s on out = out refl
