use Rattle.surf_z2.proofs.Common.{ℕ, numbers}
use Rattle.surf_z2.specs.Sieve.{Row, has}
use Rattle.surf_z2.proofs.Numbers.{has-xor}
use Rattle.surf_z2.proofs.Sieve as Sieve
use Rattle.surf_z2.proofs.law_of_sieves.Goals as goal

pub returns : goal.returns
returns c = Sieve.sieve_law numbers has has-xor (λ (r : Row ℕ). r.pivot) (λ (r : Row ℕ). r.reduced)
    (λ (r : Row ℕ). r.original)
