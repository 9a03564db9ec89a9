use Rattle.surf_slit.proofs.Common.{List, false, ℕ, ap, ◌∙◌, subst, sym, set, AgreeAt}
use Rattle.surf_slit.proofs.Steps.{their_numbers}
use Rattle.surf_slit.proofs.VertexLabels.{first_below, second_below, second_agrees, ends_split}
use Rattle.surf_slit.proofs.splitting.split_ends.Goals as goal

pub split_at-more-requires-clause-vertex : goal.split_at-more-requires-clause-vertex
split_at-more-requires-clause-vertex c =
    let a = first_below c.law_of_surface.ensures.surface c.args.cut.now c.args.e c.requires.edge c.args.labels.now c.args.labels.now c.args.labels.now c.args.count c.args.count c.requires.labels in
    rw c.ends-u.ensures a

pub split_at-more-requires-clause-numbers : goal.split_at-more-requires-clause-numbers
split_at-more-requires-clause-numbers c = their_numbers c.requires.labels

pub split_at-requires-clause-vertex : goal.split_at-requires-clause-vertex
split_at-requires-clause-vertex c =
    let a = second_below c.law_of_surface.ensures.surface c.args.cut.now c.args.e c.requires.edge c.args.labels.now c.args.labels.now c.args.labels.now c.args.count c.args.count c.requires.labels in
    rw c.ends-u.ensures a

pub split_at-requires-clause-agree : goal.split_at-requires-clause-agree
split_at-requires-clause-agree c =
    let P : ℕ → Type 0 = λ v. AgreeAt c.args.mesh.now (set c.args.cut.now c.args.e false) c.split_at-more.new.labels v in
    let is = c.ends-u.ensures in
    subst P (sym (ap (λ (p : ℕ × ℕ). p.1) is))
    (second_agrees c.law_of_surface.ensures.surface c.args.cut.now c.args.e c.requires.edge c.args.labels.now c.split_at-more.new.labels c.args.labels.now c.args.count c.args.count c.requires.labels
    (λ s h ne. c.split_at-more.ensures.others s h (λ e. ne (e ∙ ap (λ (p : ℕ × ℕ). p.0) is))))

pub returns : goal.returns
returns c =
    let is = c.ends-u.ensures in
    let first = ap (λ (p : ℕ × ℕ). p.0) is in
    let second = ap (λ (p : ℕ × ℕ). p.1) is in
    let P : List ℕ → ℕ → Type 0 = λ labels v. AgreeAt c.args.mesh.now c.args.cut.now labels v in
    ends_split c.law_of_surface.ensures.surface c.args.cut.now c.args.e c.requires.edge c.args.labels.now c.split_at-more.new.labels c.split_at.new.labels c.args.count c.split_at.result c.requires.labels
    (λ s h ne. c.split_at-more.ensures.others s h (λ e. ne (e ∙ first)))
    (subst (P c.split_at-more.new.labels) first c.split_at-more.ensures.agree)
    (λ s h ne. c.split_at.ensures.others s h (λ e. ne (e ∙ second)))
    (subst (P c.split_at.new.labels) second c.split_at.ensures.agree)
    c.split_at.ensures.numbers
