use Rattle.surf_basis.proofs.Common.{first_of, IsFirstPlace, sym, ap, ◌∙◌, subst, lengths_positive}
use Rattle.surf_basis.proofs.Placed.{place_inside}
use Rattle.surf_basis.proofs.shortest.first_candidate.Goals as goal

pub first_at-requires-clause-base : goal.first_at-requires-clause-base
first_at-requires-clause-base c =
    let mesh = c.args.mesh.now in
    let lengths = c.args.lengths.now in
    let positive = lengths_positive mesh lengths c.law_of_lengths.ensures.lengths c.requires.lengths in
    place_inside mesh lengths c.law_of_surface.ensures.surface positive c.in-Some.place
    (subst (IsFirstPlace mesh lengths) c.in-Some.is c.requires.place)

pub returns-clause-first : goal.returns-clause-first
returns-clause-first c trees chosen =
    let mesh = c.args.mesh.now in
    let lengths = c.args.lengths.now in
    let is = subst (IsFirstPlace mesh lengths) c.in-Some.is c.requires.place in
    c.first_at.ensures.first trees chosen ∙ (is trees chosen).1

pub returns-in_default-clause-first : goal.returns-in_default-clause-first
returns-in_default-clause-first c trees chosen =
    let mesh = c.args.mesh.now in
    let lengths = c.args.lengths.now in
    let none = subst (IsFirstPlace mesh lengths) c.in_default.is c.requires.place in
    sym (ap first_of (none trees chosen))
