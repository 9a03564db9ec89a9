-- What is found of the cycles of a surface, as answers.
use Rattle.surf_answers.proofs.Common.{◌≡◌, ℕ, List, length, Option, Some, None, inl, inr, refl, subst, IfSome, ◌↔◌}
use Rattle.surf_answers.proofs.Common.{Mesh, IsSurface, edge_count, Trees, AreChosen, Loop, candidates, IsChosenBasis}
use Rattle.surf_answers.proofs.Common.{ArePositive, LeastSimpleBasis, choice_exists, AreLengths, lengths_positive}
use Rattle.surf_answers.proofs.Common.{measured_text, GivesBasis, Outcome, Says, GivesCycle}
use Rattle.surf_basis.proofs.First.{first_listed}
use Rattle.surf_basis.specs.Cycles.{as_loop, IsTheBasis, IsFirstCandidate, IsShortestCycle, AllSeparate}
use Rattle.surf_basis.specs.declared.cycle.Cycle.{Cycle}
use Rattle.surf_finding.specs.CycleTexts.{found_text}
use Rattle.surf_surfaces.proofs.walks.ShortestWalkLaws.{first_of_basis_is_shortest_not_null, shortest_not_null_is_nonseparating}

module _ (mesh : Mesh) (lengths : List ℕ) (surface : IsSurface mesh) (are : AreLengths lengths) (sized : length lengths ≡ edge_count mesh) where
  long : ArePositive mesh lengths
  long = lengths_positive mesh lengths are sized

  some : (trees : ℕ → Trees) × AreChosen mesh lengths trees
  some = choice_exists mesh lengths surface long

  -- a basis that is chosen whichever trees show the choice
  pub gives_basis : (basis : List Loop) → IsTheBasis mesh lengths basis → LeastSimpleBasis mesh lengths basis → (o : Outcome) → Says (measured_text "cycles " "cycle " basis) o →
      GivesBasis mesh lengths o
  gives_basis basis is least o says = record {
    found = record { trees = some.0; chosen = some.1; basis = basis; is_basis = is some.0 some.1; least = least };
    shortest = λ first rest same.
        first_of_basis_is_shortest_not_null mesh lengths some.0 first rest surface long some.1
        (subst (IsChosenBasis mesh lengths some.0) same (is some.0 some.1));
    says = says;
  }

  -- a first candidate that was found, or none
  pub gives_cycle : (found : Option Cycle) → IsFirstCandidate mesh lengths found → IfSome found (λ c. IsShortestCycle mesh lengths c) →
      (found ≡ None) ↔ AllSeparate mesh → (o : Outcome) → Says (found_text found) o → GivesCycle mesh lengths o
  gives_cycle None first shortest separate o says = inr (record { separate = separate.0 refl; says = says })
  gives_cycle (Some c) first shortest separate o says =
      let b = first_listed (as_loop c) (candidates mesh lengths some.0) (first some.0 some.1) in
      inl (record {
        found = record { trees = some.0; chosen = some.1; first = as_loop c; rest = b.0; is_first = b.1; shortest = shortest.shortest };
        not_null = (shortest_not_null_is_nonseparating mesh lengths (as_loop c).walk surface long).1 shortest.shortest;
        size = shortest.size;
        says = says;
      })
