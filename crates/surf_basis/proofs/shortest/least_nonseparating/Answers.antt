use Rattle.surf_basis.proofs.Common.{Some, None, refl, subst, lengths_positive}
use Rattle.surf_basis.proofs.First.{IsFound, found_inside, found_first, first_shortest, none_found, some_found}
use Rattle.surf_basis.proofs.shortest.least_nonseparating.Goals as goal

pub returns-in_default-clause-none : goal.returns-in_default-clause-none
returns-in_default-clause-none c =
    let mesh = c.args.mesh.now in
    let lengths = c.args.lengths.now in
    let positive = lengths_positive mesh lengths c.law_of_lengths.ensures.lengths c.requires.lengths in
    (none_found mesh lengths c.law_of_surface.ensures.surface positive None refl (subst (IsFound mesh lengths) c.in_default.is c.first_candidate.ensures.first)).0

pub returns-in_default-clause-separate : goal.returns-in_default-clause-separate
returns-in_default-clause-separate c =
    let mesh = c.args.mesh.now in
    let lengths = c.args.lengths.now in
    let positive = lengths_positive mesh lengths c.law_of_lengths.ensures.lengths c.requires.lengths in
    (none_found mesh lengths c.law_of_surface.ensures.surface positive None refl (subst (IsFound mesh lengths) c.in_default.is c.first_candidate.ensures.first)).1

pub cycle_of-requires-clause-inside : goal.cycle_of-requires-clause-inside
cycle_of-requires-clause-inside c =
    let mesh = c.args.mesh.now in
    let lengths = c.args.lengths.now in
    let positive = lengths_positive mesh lengths c.law_of_lengths.ensures.lengths c.requires.lengths in
    found_inside mesh lengths c.law_of_surface.ensures.surface positive c.in-Some.candidate (subst (IsFound mesh lengths) c.in-Some.is c.first_candidate.ensures.first)

pub returns-clause-first : goal.returns-clause-first
returns-clause-first c =
    let mesh = c.args.mesh.now in
    let lengths = c.args.lengths.now in
    let positive = lengths_positive mesh lengths c.law_of_lengths.ensures.lengths c.requires.lengths in
    found_first mesh lengths c.law_of_surface.ensures.surface positive c.in-Some.candidate c.in_ok-cycle.cycle
    (subst (IsFound mesh lengths) c.in-Some.is c.first_candidate.ensures.first) c.in_ok-cycle.ensures.cycle

pub returns-clause-shortest : goal.returns-clause-shortest
returns-clause-shortest c =
    let mesh = c.args.mesh.now in
    let lengths = c.args.lengths.now in
    let positive = lengths_positive mesh lengths c.law_of_lengths.ensures.lengths c.requires.lengths in
    first_shortest mesh lengths c.law_of_surface.ensures.surface positive (Some c.in_ok-cycle.cycle) (returns-clause-first c)

pub returns-clause-none : goal.returns-clause-none
returns-clause-none c =
    let mesh = c.args.mesh.now in
    let lengths = c.args.lengths.now in
    let positive = lengths_positive mesh lengths c.law_of_lengths.ensures.lengths c.requires.lengths in
    (some_found mesh lengths c.law_of_surface.ensures.surface positive c.in-Some.candidate c.in_ok-cycle.cycle
    (subst (IsFound mesh lengths) c.in-Some.is c.first_candidate.ensures.first)).0

pub returns-clause-separate : goal.returns-clause-separate
returns-clause-separate c =
    let mesh = c.args.mesh.now in
    let lengths = c.args.lengths.now in
    let positive = lengths_positive mesh lengths c.law_of_lengths.ensures.lengths c.requires.lengths in
    (some_found mesh lengths c.law_of_surface.ensures.surface positive c.in-Some.candidate c.in_ok-cycle.cycle
    (subst (IsFound mesh lengths) c.in-Some.is c.first_candidate.ensures.first)).1

pub returns-in_default-clause-first : goal.returns-in_default-clause-first
returns-in_default-clause-first c trees chosen =
    subst (IsFound c.args.mesh.now c.args.lengths.now) c.in_default.is c.first_candidate.ensures.first trees chosen
