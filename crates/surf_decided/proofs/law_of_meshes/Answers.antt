use Rattle.surf_decided.proofs.Discs.{disc_or_fault}
use Rattle.surf_decided.proofs.Surfaces.{surface_or_fault}
use Rattle.surf_decided.proofs.law_of_meshes.Goals as goal

pub returns : goal.returns
returns c = record { surfaces = surface_or_fault; discs = disc_or_fault }
