-- What is kept of the loops that were found.
use Rattle.std.specs.Prelude.{◌≡◌, ◌⊎◌, IsPermutation, List, []}
use Rattle.std.specs.List.Sorted.{IsNonDecreasingBy}
use Rattle.surf_z2.specs.Order.{merge}
use Rattle.surf_choice.specs.declared.candidate.Signed.{Signed}
use Rattle.surf_choice.specs.Candidates.{Chosen, signed_earlier, independent_of}
use Rattle.surf_choice.specs.Places.{order_of}

-- the choice was made again from what was kept and some loops, which were put into order
pub record IsMerged (old : Chosen) (found : List Signed) (new : Chosen) : Type 0 where
  pub list : List Signed
  pub same : IsPermutation found list
  pub sorted : IsNonDecreasingBy order_of list
  pub new_is : new ≡ record old { kept = independent_of (merge signed_earlier old.kept list) }

-- so it was, or there are no loops and it is as before
abbrev pub IsNext : Chosen → List Signed → Chosen → Type 0
IsNext old found new = ((found ≡ []) × (new ≡ old)) ⊎ IsMerged old found new
