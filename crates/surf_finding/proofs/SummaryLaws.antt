-- What is found on a surface, as an answer.
use Rattle.surf_answers.proofs.Common.{◌≡◌, ℕ, List, length, Some, inl, inr, sym, ap, Mesh, IsSurface, edge_count}
use Rattle.surf_answers.proofs.Common.{Trees, AreChosen, Loop, candidates, LeastSimpleBasis, choice_exists}
use Rattle.surf_answers.proofs.Common.{AreLengths, lengths_positive, Informs, Outcome, answers, status_of, total_size}
use Rattle.surf_answers.proofs.Common.{BasisTotals, CycleMeasures}
use Rattle.surf_basis.proofs.First.{first_listed}
use Rattle.surf_basis.specs.Cycles.{as_loop, IsTheBasis, IsFirstCandidate, IsShortestCycle}
use Rattle.surf_basis.specs.declared.cycle.Cycle.{Cycle}

-- `info` answers with status 0
informs_with : (mesh : Mesh) (o : Outcome) → Informs mesh o → status_of o ≡ 0
informs_with mesh o (inl x) = ap status_of x.text
informs_with mesh o (inr x) = ap status_of x.text

pub informs_well : (mesh : Mesh) (status : ℕ) (facts : List ℕ) → Informs mesh (answers status facts) → status ≡ 0
informs_well mesh status facts informs = informs_with mesh (answers status facts) informs

module _ (mesh : Mesh) (lengths : List ℕ) (surface : IsSurface mesh) (are : AreLengths lengths) (sized : length lengths ≡ edge_count mesh) where
  some : (trees : ℕ → Trees) × AreChosen mesh lengths trees
  some = choice_exists mesh lengths surface (lengths_positive mesh lengths are sized)

  -- a basis that is chosen whichever trees show the choice
  pub totals_so : (basis : List Loop) (total : ℕ) → IsTheBasis mesh lengths basis → LeastSimpleBasis mesh lengths basis → total ≡ total_size basis →
      BasisTotals mesh lengths total
  totals_so basis total is least same = record { found = record { trees = some.0; chosen = some.1; basis = basis; is_basis = is some.0 some.1; least = least }; is = same }

  -- a first candidate that was found
  pub measures_so : (c : Cycle) → IsFirstCandidate mesh lengths (Some c) → IsShortestCycle mesh lengths c → CycleMeasures mesh lengths c.length
  measures_so c first shortest =
      let b = first_listed (as_loop c) (candidates mesh lengths some.0) (first some.0 some.1) in
      record {
        found = record { trees = some.0; chosen = some.1; first = as_loop c; rest = b.0; is_first = b.1; shortest = shortest.shortest };
        is = sym shortest.size;
      }
