use Rattle.surf_surfaces.proofs.Common.{◌≡◌, ◌+◌, ◌-◌, ℕ, get_or, take, arith, subst, sym, ◌∙◌, ap, bit_xor, get_or_default, edge_number, pair, edges, Contains}
use Rattle.surf_treecheck.proofs.Steps.{one_along}
use Rattle.surf_sheetcheck.specs.Cocycles.{edge_set, walk_set}
use Rattle.surf_sheetcheck.proofs.LabelLaws.{first_sum, next_sum}
use Rattle.surf_sheetcheck.proofs.labelling.add_step.Goals as goal

pub edge_between-e-requires : goal.edge_between-e-requires
edge_between-e-requires c =
    let mesh = c.args.case.now.mesh.now in
    let part = c.args.part.now in
    let p = c.args.place in
    let back : p - 1 + 1 ≡ p = omega (arith, c.if-place-gt0.true) in
    let near : c.index-part-place.result ≡ get_or part (p - 1) 0 =
    c.index-part-place.is ∙ get_or_default part (p - 1) c.index-part-place.result 0 (omega (arith, c.requires.place)) in
    let far : c.index-part-place-then-place-gt0.result ≡ get_or part p 0 =
    c.index-part-place-then-place-gt0.is ∙ get_or_default part p c.index-part-place-then-place-gt0.result 0 c.requires.place in
    let step = one_along mesh part (p - 1) (omega (arith, back, c.requires.place)) c.requires.along in
    record {
      joined = rw (near, far) (subst (λ n. Contains (edges mesh) (pair (get_or part (p - 1) 0) (get_or part n 0))) back step);
    }

pub returns-then-place-gt0 : goal.returns-then-place-gt0
returns-then-place-gt0 c =
    let mesh = c.args.case.now.mesh.now in
    let cert = c.args.case.now.cert.now in
    let part = c.args.part.now in
    let p = c.args.place in
    let sum = c.args.sum.now in
    let back : p - 1 + 1 ≡ p = omega (arith, c.if-place-gt0.true) in
    let near : c.index-part-place.result ≡ get_or part (p - 1) 0 =
    c.index-part-place.is ∙ get_or_default part (p - 1) c.index-part-place.result 0 (omega (arith, c.requires.place)) in
    let far : c.index-part-place-then-place-gt0.result ≡ get_or part (p - 1 + 1) 0 =
    c.index-part-place-then-place-gt0.is ∙ get_or_default part p c.index-part-place-then-place-gt0.result 0 c.requires.place
    ∙ ap (λ n. get_or part n 0) (sym back) in
    let edge : c.edge_between-e.result ≡ edge_number mesh (get_or part (p - 1) 0, get_or part (p - 1 + 1) 0) =
    c.edge_between-e.ensures.edge
    ∙ ap (λ (x : ℕ). edge_number mesh (x, c.index-part-place-then-place-gt0.result)) near
    ∙ ap (λ (x : ℕ). edge_number mesh (get_or part (p - 1) 0, x)) far in
    let before : sum ≡ walk_set mesh cert (take (p - 1 + 1) part) =
    c.requires.before ∙ ap (λ n. walk_set mesh cert (take n part)) (sym back) in
    record {
      after = c.add_set.ensures.added ∙ ap (λ e. bit_xor sum (edge_set mesh cert e)) edge
          ∙ next_sum mesh cert part sum (p - 1) (omega (arith, back, c.requires.place)) before
          ∙ ap (λ n. walk_set mesh cert (take (n + 1) part)) back;
    }

pub returns-else-place-gt0 : goal.returns-else-place-gt0
returns-else-place-gt0 c =
    let mesh = c.args.case.now.mesh.now in
    let cert = c.args.case.now.cert.now in
    let part = c.args.part.now in
    let none : c.args.place ≡ 0 = omega (arith, c.if-place-gt0.false) in
    let before : c.args.sum.now ≡ walk_set mesh cert (take 0 part) =
    c.requires.before ∙ ap (λ n. walk_set mesh cert (take n part)) none in
    record {
      after = first_sum mesh cert part c.args.sum.now before ∙ ap (λ n. walk_set mesh cert (take (n + 1) part)) (sym none);
    }
