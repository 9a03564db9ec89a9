-- What is read of a line is what its numbers say.
use Rattle.surf_cert.proofs.Common.{◌≡◌, ℕ, Option, Some, None, Result, Ok, Err, refl, ap, ok_or}
use Rattle.std.specs.Prelude.{option_and_then}
use Rattle.surf_cert.specs.declared.fault.CertText.{CertText}
use Rattle.surf_cert.specs.declared.fault.CertText.TheVariants.{Form, Memory}

fault_of : {A : Type 0} → Result A CertText → CertText
fault_of (Ok x) = Memory
fault_of (Err e) = e

-- what has another form stays so
pub form_stays : {A B : Type 0} (f : A → Option B) (o : Option A) (line : ℕ) (e : CertText) → ok_or o (Form line) ≡ Err e
    → ok_or (option_and_then f o) (Form line) ≡ Err e
unfolding fault_of
form_stays f None line e is = ap (λ (fault : CertText). Err fault) (ap fault_of is)
form_stays f (Some x) line e is = absurd cc

-- what was read, and what is made of it
pub form_given : {A B : Type 0} (f : A → Option B) (o : Option A) (line : ℕ) (x : A) (y : B) → o ≡ Some x → f x ≡ Some y
    → ok_or (option_and_then f o) (Form line) ≡ Ok y
form_given f o line x y is made = rw (is, made) refl

pub form_bad : {A B : Type 0} (f : A → Option B) (o : Option A) (line : ℕ) (x : A) → o ≡ Some x → f x ≡ None
    → ok_or (option_and_then f o) (Form line) ≡ Err (Form line)
form_bad f o line x is none = rw (is, none) refl
