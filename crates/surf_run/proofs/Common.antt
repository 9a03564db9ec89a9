-- What only the proofs of runs cite, by one import.
pub use Rattle.surf_run.specs.Leads.{Answer}
pub use Rattle.surf_run.specs.Run.{AreTheFiles, IsDecided, IsLineOf, IsOneLine, NamesFile, PutsLine, Refuses}
pub use Rattle.surf_run.specs.Run.{WritesAnswer, WritesFront}
pub use Rattle.surf_validity.proofs.OneBasis.{bases_are_one, chosen_basis_certs_are_one}
