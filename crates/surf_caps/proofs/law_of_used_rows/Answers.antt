use Rattle.surf_surfaces.proofs.Common.{ℕ, numbers, has-xor}
use Rattle.surf_z2.specs.Sieve.{Row, has}
use Rattle.surf_caps.proofs.Used.{used_law}
use Rattle.surf_caps.proofs.law_of_used_rows.Goals as goal

pub returns : goal.returns
returns c = record {
  used = used_law numbers has has-xor (λ (r : Row ℕ). r.pivot) (λ (r : Row ℕ). r.reduced) (λ (r : Row ℕ). r.original);
}
