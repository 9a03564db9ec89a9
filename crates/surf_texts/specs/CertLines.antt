-- The line of the first fault in the text of a certificate.
use Rattle.std.specs.Prelude.{[], ◌∷◌}
use Rattle.surf_cert.specs.declared.fault.CertText.{CertText}
use Rattle.surf_cert.specs.declared.fault.CertText.TheVariants.{Header, Form, Early, Trailing, Memory}
use Rattle.surf_texts.specs.Cause.{Cause, starved, told}

-- the cause that a fault is
abbrev pub cert_cause : CertText → Cause
cert_cause (Header line) = told 8 "certificate text: header" (line ∷ [])
cert_cause (Form line) = told 8 "certificate text: form" (line ∷ [])
cert_cause Early = told 8 "certificate text: early" []
cert_cause (Trailing line) = told 8 "certificate text: trailing" (line ∷ [])
cert_cause Memory = starved
