-- The numbers of a line of evidence.
use Rattle.std.specs.Prelude.{ℕ, List, Result, Ok, Err}
use Rattle.surf_class.specs.declared.numbers.NumberFault.{NumberFault}
use Rattle.surf_class.specs.declared.fault.EvidenceFault.{EvidenceFault}
use Rattle.surf_class.specs.declared.fault.EvidenceFault.TheVariants.{Form}

-- Whatever is wrong with a number, the line doesn't have its form.
abbrev pub as_formed : ℕ → Result (List ℕ) NumberFault → Result (List ℕ) EvidenceFault
as_formed line (Ok numbers) = Ok numbers
as_formed line (Err fault) = Err (Form line)
