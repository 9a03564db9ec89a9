-- Certificates that loops at a base or the cycles of a basis are least, as answers.
use Rattle.std.specs.Prelude.{ℕ, ◌≡◌, List}
use Rattle.surf_cert.specs.Written.{loop_text, basis_text}
use Rattle.surf_surfaces.specs.Mesh.{Mesh}
use Rattle.surf_validity.specs.Rows.{LoopCert}
use Rattle.surf_validity.specs.Bases.{IsValidBasis}
use Rattle.surf_validity.specs.Chosen.{chosen_cert, basis_cert_of}
use Rattle.surf_validity.specs.Valid.{IsValidLoops}
use Rattle.surf_texts.specs.Outcome.{Outcome}
use Rattle.surf_answers.specs.Found.{FoundLoops, FoundBasis}
use Rattle.surf_answers.specs.Says.{Says}

-- the certificate is that of the trees that are chosen at the base, and it is valid
pub record IsTheLoopCert (mesh : Mesh) (lengths : List ℕ) (base : ℕ) (cert : LoopCert) : Type 0 where
  pub found : FoundLoops mesh lengths base
  pub cert_is : cert ≡ chosen_cert mesh found.trees
  pub valid : IsValidLoops mesh lengths cert

-- The certificate of the trees that are chosen at the base. It is valid.
pub record GivesLoopCert (mesh : Mesh) (lengths : List ℕ) (base : ℕ) (outcome : Outcome) : Type 0 where
  pub found : FoundLoops mesh lengths base
  pub valid : IsValidLoops mesh lengths (chosen_cert mesh found.trees)
  pub says : Says (loop_text (chosen_cert mesh found.trees)) outcome

-- The certificate of the basis that is chosen. It is valid.
pub record GivesBasisCert (mesh : Mesh) (lengths : List ℕ) (outcome : Outcome) : Type 0 where
  pub found : FoundBasis mesh lengths
  pub valid : IsValidBasis mesh lengths (basis_cert_of mesh found.trees found.basis)
  pub says : Says (basis_text (basis_cert_of mesh found.trees found.basis)) outcome
