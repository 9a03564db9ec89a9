use Rattle.surf_surfaces.proofs.Common.{◌<◌, length, subst, sym}
use Rattle.surf_base.specs.Tables.{at}
use Rattle.surf_shown.proofs.Judged.{class_at_label, signed_edge}
use Rattle.surf_shown.proofs.labels.class_of.Goals as goal

pub label_of-requires-clause-labels : goal.label_of-requires-clause-labels
label_of-requires-clause-labels c =
    subst (λ p. p.0 < length c.args.labels.now.numbers.now) (sym c.ends-u.ensures)
    (class_at_label c.args.claim.now c.args.labels.now c.args.e c.requires.labels c.law_of_surface.ensures.surface c.requires.edge).0.0

pub label_of-requires-clause-class : goal.label_of-requires-clause-class
label_of-requires-clause-class c =
    subst (λ p. at c.args.labels.now.numbers.now p.0 < length c.args.labels.now.classes.now) (sym c.ends-u.ensures)
    (class_at_label c.args.claim.now c.args.labels.now c.args.e c.requires.labels c.law_of_surface.ensures.surface c.requires.edge).1.0

pub label_of-requires-2-clause-labels : goal.label_of-requires-2-clause-labels
label_of-requires-2-clause-labels c =
    subst (λ p. p.1 < length c.args.labels.now.numbers.now) (sym c.ends-u.ensures)
    (class_at_label c.args.claim.now c.args.labels.now c.args.e c.requires.labels c.law_of_surface.ensures.surface c.requires.edge).0.1

pub label_of-requires-2-clause-class : goal.label_of-requires-2-clause-class
label_of-requires-2-clause-class c =
    subst (λ p. at c.args.labels.now.numbers.now p.1 < length c.args.labels.now.classes.now) (sym c.ends-u.ensures)
    (class_at_label c.args.claim.now c.args.labels.now c.args.e c.requires.labels c.law_of_surface.ensures.surface c.requires.edge).1.1

pub signature-requires : goal.signature-requires
signature-requires c = record { edge = signed_edge c.args.claim.now c.args.e c.requires.claim c.requires.edge }
