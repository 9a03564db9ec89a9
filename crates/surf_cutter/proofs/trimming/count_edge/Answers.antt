use Rattle.surf_slit.proofs.Common.{◌≡◌, ◌+◌, ℕ, get_or, ap, ◌∙◌, subst, arith, ends, ends_below, edges_few, degrees_more, degrees_none, degree_few}
use Rattle.surf_cutter.proofs.Common.{is_cut}
use Rattle.surf_cutter.proofs.trimming.count_edge.Goals as goal

pub count_at-requires-clause-first : goal.count_at-requires-clause-first
count_at-requires-clause-first c =
    let b = ends_below c.args.mesh.now c.law_of_surface.ensures.surface.is_mesh c.args.e c.requires.edge in
    let is = ap (λ (p : ℕ × ℕ). p.0) c.ends-u.ensures in
    let n = c.new.ensures in
    let m = ap (λ e. (ends c.args.mesh.now e).0) n in
    omega (arith, b.0, b.1, is, m, c.requires.size)

pub count_at-requires-clause-second : goal.count_at-requires-clause-second
count_at-requires-clause-second c =
    let b = ends_below c.args.mesh.now c.law_of_surface.ensures.surface.is_mesh c.args.e c.requires.edge in
    let is = ap (λ (p : ℕ × ℕ). p.1) c.ends-u.ensures in
    let m = ap (λ e. (ends c.args.mesh.now e).1) c.new.ensures in
    omega (arith, b.1, is, m, c.requires.size)

pub count_at-requires-clause-differ : goal.count_at-requires-clause-differ
count_at-requires-clause-differ c same =
    let b = ends_below c.args.mesh.now c.law_of_surface.ensures.surface.is_mesh c.args.e c.requires.edge in
    let first = ap (λ (p : ℕ × ℕ). p.0) c.ends-u.ensures in
    let second = ap (λ (p : ℕ × ℕ). p.1) c.ends-u.ensures in
    let m = ap (λ e. (ends c.args.mesh.now e).0) c.new.ensures in
    let k = ap (λ e. (ends c.args.mesh.now e).1) c.new.ensures in
    omega (arith, b.0, first, second, m, k, same)

pub count_at-requires-clause-few_first : goal.count_at-requires-clause-few_first
count_at-requires-clause-few_first c =
    let mesh = c.args.mesh.now in
    let s = c.law_of_surface.ensures in
    let b = ends_below mesh s.surface.is_mesh c.args.e c.requires.edge in
    let is : c.ends-u.result.0 ≡ (ends mesh c.args.e).0 = ap (λ (p : ℕ × ℕ). p.0) c.ends-u.ensures ∙ ap (λ e. (ends mesh e).0) c.new.ensures in
    let few = degree_few mesh (is_cut c.args.cut.now) c.args.e c.ends-u.result.0 c.args.degree.now c.requires.so_far (omega (arith, is, b.0, b.1)) in
    omega (arith, few, edges_few mesh s.surface, s.few, c.requires.edge)

pub count_at-requires-clause-few_second : goal.count_at-requires-clause-few_second
count_at-requires-clause-few_second c =
    let mesh = c.args.mesh.now in
    let s = c.law_of_surface.ensures in
    let b = ends_below mesh s.surface.is_mesh c.args.e c.requires.edge in
    let is : c.ends-u.result.1 ≡ (ends mesh c.args.e).1 = ap (λ (p : ℕ × ℕ). p.1) c.ends-u.ensures ∙ ap (λ e. (ends mesh e).1) c.new.ensures in
    let few = degree_few mesh (is_cut c.args.cut.now) c.args.e c.ends-u.result.1 c.args.degree.now c.requires.so_far (omega (arith, is, b.1)) in
    omega (arith, few, edges_few mesh s.surface, s.few, c.requires.edge)

pub returns-then-cut-e : goal.returns-then-cut-e
returns-then-cut-e c =
    let mesh = c.args.mesh.now in
    let e = c.args.e in
    let is : c.ends-u.result ≡ ends mesh e = c.ends-u.ensures ∙ ap (ends mesh) c.new.ensures in
    let old = c.args.degree.now in
    let new = c.count_at.new.degree in
    let P : ℕ → Type 0 = λ v. get_or new v 0 ≡ get_or old v 0 + 1 in
    let first = ap (λ (p : ℕ × ℕ). p.0) is in
    let second = ap (λ (p : ℕ × ℕ). p.1) is in
    degrees_more mesh (is_cut c.args.cut.now) e old new c.requires.so_far c.if-cut-e.true (subst P first c.count_at.ensures.first) (subst P second c.count_at.ensures.second)
    (λ v nu nw. c.count_at.ensures.others v (λ i. nu (i ∙ first)) (λ i. nw (i ∙ second)))

pub returns-else-cut-e : goal.returns-else-cut-e
returns-else-cut-e c = degrees_none c.args.mesh.now (is_cut c.args.cut.now) c.args.e c.args.degree.now c.requires.so_far c.if-cut-e.false
