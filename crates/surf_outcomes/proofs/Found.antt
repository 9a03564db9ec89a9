-- What is found on a surface with lengths exists, and so do the answers that say it.
use Rattle.surf_surfaces.proofs.Common.{◌≡◌, ◌<◌, ◌+◌, ℕ, List, [], ◌∷◌, length, Option, refl, ap, subst, arith, inl, inr, Mesh, IsSurface, ArePositive, IsClosed, face_count, edge_count, Loop, candidates}
use Rattle.surf_surfaces.specs.Choice.{Trees, AreChosen, AreChosenAt, IsChosenBasis}
use Rattle.surf_surfaces.specs.Surface.{loop_count}
use Rattle.surf_surfaces.proofs.bases.BasisLaws.{basis_is_least, basis_is_one}
use Rattle.surf_surfaces.proofs.bases.ChoiceExists.{choice_exists}
use Rattle.surf_surfaces.proofs.bases.FirstCycleLaws.{first_is_shortest, candidates_below_two, simple_cycles_separate}
use Rattle.surf_surfaces.proofs.bases.LoopsAtLaws.{loops_are_least}
use Rattle.surf_surfaces.proofs.meshes.OrientationLaws.{one_sided_chains_exclude_orientations}
use Rattle.surf_surfaces.proofs.walks.ShortestWalkLaws.{shortest_not_null_is_nonseparating, first_of_basis_is_shortest_not_null}
use Rattle.surf_orientation.specs.Statements.{genus_of}
use Rattle.surf_orientation.proofs.GenusLaws.{genus_is_loop_count, counts_are_at_most_two_more}
use Rattle.surf_orientation.proofs.OneSidedLaws.{surfaces_are_two_sided_or_one_sided}
use Rattle.surf_validity.proofs.ChosenBases.{chosen_bases_are_valid}
use Rattle.surf_validity.proofs.ChosenLaws.{chosen_loops_are_valid}
use Rattle.surf_classes.proofs.ChosenEvidence.{class_evidence_is_one, class_evidence_is_right}
use Rattle.surf_classes.proofs.ChosenWalks.{chosen_walk_is_one}
use Rattle.surf_classes.specs.Evidence.{AreClosed, joint_parity}
use Rattle.surf_texts.specs.Outcome.{answers}
use Rattle.surf_answers.specs.Certificates.{GivesBasisCert, GivesLoopCert}
use Rattle.surf_answers.specs.Classes.{GivesClass}
use Rattle.surf_answers.specs.Distances.{GivesDistances}
use Rattle.surf_answers.specs.Found.{FoundLoops, FoundBasis, FoundCycle}
use Rattle.surf_answers.specs.Info.{Informs, HasGenus, HasCrosscaps}
use Rattle.surf_answers.specs.LeastBasis.{GivesBasis}
use Rattle.surf_answers.specs.LeastLoops.{GivesLoops}
use Rattle.surf_answers.specs.ShortestCycle.{GivesCycle, GivesShortest, GivesNone}
use Rattle.surf_answers.specs.ShortestWalk.{GivesShortestWalk}
use Rattle.surf_answers.specs.Summaries.{GivesSummary, LoopsTotal, BasisTotals, CycleMeasures}
use Rattle.surf_outcomes.proofs.Ends.{HasOutcome}

-- ---- what kind of surface it is

-- the text of what a surface is
pub informed : (mesh : Mesh) → IsSurface mesh → (text : List ℕ) × Informs mesh (answers 0 text)
informed mesh surface = elim (surfaces_are_two_sided_or_one_sided mesh surface) [
  | inl two ↦
      let is : HasGenus mesh _ =
      record {
        two_sided = two;
        genus = genus_of mesh;
        twice = genus_is_loop_count mesh two.0 surface two.1;
        text = refl;
      } in
      (_, inl is)
  | inr one ↦
      let most = counts_are_at_most_two_more mesh surface in
      let is : HasCrosscaps mesh _ =
      record {
        one_sided = one_sided_chains_exclude_orientations mesh surface one.0 one.1;
        crosscaps = loop_count mesh;
        count = omega (arith, most);
        text = refl;
      } in
      (_, inr is)
]

pub informs : (mesh : Mesh) → IsSurface mesh → HasOutcome (Informs mesh)
informs mesh surface = let text = informed mesh surface in (answers 0 text.0, text.1)

-- ---- what is least

module _ (mesh : Mesh) (lengths : List ℕ) (surface : IsSurface mesh) (positive : ArePositive mesh lengths) where
  trees : ℕ → Trees
  trees = (choice_exists mesh lengths surface positive).0

  chosen : AreChosen mesh lengths trees
  unfolding trees
  chosen = (choice_exists mesh lengths surface positive).1

  pub chosen_at : (base : ℕ) → base < mesh.vertices → (at : Trees) × AreChosenAt mesh lengths base at
  chosen_at base in' = (trees base, chosen base in')

  pub loops_found : (base : ℕ) → base < mesh.vertices → FoundLoops mesh lengths base
  loops_found base in' = record {
    trees = trees base;
    chosen = chosen base in';
    least = loops_are_least mesh lengths base (trees base) surface positive (chosen base in');
  }

  pub basis_found : FoundBasis mesh lengths
  basis_found =
      let basis = basis_is_one mesh lengths trees surface positive chosen in
      record {
        trees = trees;
        chosen = chosen;
        basis = basis.0;
        is_basis = basis.1;
        least = basis_is_least mesh lengths trees basis.0 surface positive chosen basis.1;
      }

  -- the first candidate, if there is one
  cycle_of : (first : Loop) (rest : List Loop) → candidates mesh lengths trees ≡ first ∷ rest → FoundCycle mesh lengths
  cycle_of first rest is = record {
    trees = trees;
    chosen = chosen;
    first = first;
    rest = rest;
    is_first = is;
    shortest = (first_is_shortest mesh lengths trees first rest surface positive chosen is).0;
  }

  pub cycle_found : mesh.vertices + face_count mesh < edge_count mesh + 2 → FoundCycle mesh lengths
  cycle_found few = at (candidates mesh lengths trees) refl
    where
      at : (loops : List Loop) → candidates mesh lengths trees ≡ loops → FoundCycle mesh lengths
      at [] is =
          let some = (candidates_below_two mesh lengths trees surface positive chosen).1 few in
          let none = ap length is in
          absurd (omega (arith, some, none))
      at (first ∷ rest) is = cycle_of first rest is

  -- ---- answers

  pub gives_distances : (base : ℕ) → base < mesh.vertices → HasOutcome (GivesDistances mesh lengths base)
  gives_distances base in' =
      (_, record { tree = (trees base).tree; shortest = (chosen base in').shortest; says = refl })

  pub gives_loops : (base : ℕ) → base < mesh.vertices → HasOutcome (GivesLoops mesh lengths base)
  gives_loops base in' = (_, record { found = loops_found base in'; says = refl })

  pub gives_loop_cert : (base : ℕ) → base < mesh.vertices → HasOutcome (GivesLoopCert mesh lengths base)
  gives_loop_cert base in' =
      let found = loops_found base in' in (
        _,
        record {
          found = found;
          valid = chosen_loops_are_valid mesh lengths base found.trees surface positive found.chosen;
          says = refl;
        },
      )

  pub gives_basis : HasOutcome (GivesBasis mesh lengths)
  gives_basis =
      let found = basis_found in (
        _,
        record {
          found = found;
          shortest = λ first rest is. first_of_basis_is_shortest_not_null mesh lengths found.trees first rest surface
              positive found.chosen (subst (IsChosenBasis mesh lengths found.trees) is found.is_basis);
          says = refl;
        },
      )

  pub gives_basis_cert : HasOutcome (GivesBasisCert mesh lengths)
  gives_basis_cert =
      let found = basis_found in (
        _,
        record {
          found = found;
          valid = chosen_bases_are_valid mesh lengths found.trees found.basis surface positive found.chosen
              found.is_basis;
          says = refl;
        },
      )

  pub gives_cycle : HasOutcome (GivesCycle mesh lengths)
  unfolding cycle_of
  gives_cycle = at (candidates mesh lengths trees) refl
    where
      at : (loops : List Loop) → candidates mesh lengths trees ≡ loops → HasOutcome (GivesCycle mesh lengths)
      at [] is =
          let most = counts_are_at_most_two_more mesh surface in
          let none = ap length is in
          let below = candidates_below_two mesh lengths trees surface positive chosen in
          let none_below : mesh.vertices + face_count mesh < edge_count mesh + 2 → ⊥ =
          λ few. let some = below.1 few in absurd (omega (arith, some, none)) in
          let gives : GivesNone mesh _ =
          record {
            separate = (simple_cycles_separate mesh surface).1 (omega (arith, most, none_below));
            says = refl;
          } in
          (_, inr gives)
      at (first ∷ rest) is =
          let found = cycle_of first rest is in
          let shortest = first_is_shortest mesh lengths trees first rest surface positive chosen is in
          let gives : GivesShortest mesh lengths _ =
          record {
            found = found;
            not_null = (shortest_not_null_is_nonseparating mesh lengths first.walk surface positive).1 shortest.0;
            size = shortest.1;
            says = refl;
          } in
          (_, inl gives)

  pub gives_shortest : (walk : List ℕ) → IsClosed mesh walk → HasOutcome (GivesShortestWalk mesh lengths walk)
  gives_shortest walk closed =
      let one = chosen_walk_is_one mesh lengths walk surface positive closed in
      (_, record { found = one.0; chosen = one.1; says = refl })

  pub gives_summary : 0 < mesh.vertices → mesh.vertices + face_count mesh < edge_count mesh + 2 →
      HasOutcome (GivesSummary mesh lengths)
  gives_summary some few =
      let text = informed mesh surface in
      let loops : LoopsTotal mesh lengths _ = record { found = loops_found 0 some; is = refl } in
      let basis : BasisTotals mesh lengths _ = record { found = basis_found; is = refl } in
      let cycle : CycleMeasures mesh lengths _ = record { found = cycle_found few; is = refl } in (
        _,
        record {
          facts = text.0;
          informs = text.1;
          loops = _;
          loops_total = loops;
          basis = _;
          basis_totals = basis;
          cycle = _;
          cycle_measures = cycle;
          text = refl;
        },
      )

-- evidence of the class of a walk, or of how those of two differ
pub gives_class : (mesh : Mesh) (walk : List ℕ) (second : Option (List ℕ)) → IsSurface mesh → AreClosed mesh walk second →
    HasOutcome (GivesClass mesh walk second)
gives_class mesh walk second surface closed =
    let one = class_evidence_is_one mesh surface walk second closed in (
      _,
      record {
        evidence = one.0;
        chosen = one.1;
        right = class_evidence_is_right mesh surface (joint_parity mesh walk second) one.0 one.1;
        says = refl;
      },
    )
