use Rattle.surf_surfaces.proofs.Common.{◌≡◌, ◌≢◌, ◌≤◌, eqb, ℕ, List, Option, Ok, Err, Result, All, sym, ap, subst, ◌∙◌, arith, ends}
use Rattle.surf_text.proofs.Cuts.{found_is}
use Rattle.surf_lengths.specs.Files.{all_named, missing_edge}
use Rattle.surf_lengths.specs.Naming.{IsTableOf}
use Rattle.surf_lengths.specs.declared.fault.LengthFault.{LengthFault}
use Rattle.surf_lengths.specs.declared.fault.LengthFault.TheVariants.{Missing}
use Rattle.surf_lengths.proofs.Naming.{complete_some, filled_some, missing_none, complete_none, some_none}
use Rattle.surf_lengths.proofs.file.complete.Goals as goal

missing_at : ℕ × ℕ → Result (List ℕ) LengthFault
missing_at p = Err (Missing (p.0) (p.1))

pub returns-in-Some-clause-complete : goal.returns-in-Some-clause-complete
returns-in-Some-clause-complete c = λ named is.
    let mesh = c.args.mesh.now in
    let table = c.args.table.now in
    subst (λ (d : Option ℕ). IsTableOf mesh d named table → all_named mesh named (missing_edge d named.lines) ≡ Ok c.fill.new.table) (sym c.in-Some.is)
    (λ t. complete_some mesh c.in-Some.n named table t ∙ ap (λ (xs : List ℕ). Ok xs) (sym c.fill.ensures.filled)) is

pub returns-in-Some-clause-some : goal.returns-in-Some-clause-some
returns-in-Some-clause-some c =
    let positive : 1 ≤ c.in-Some.n = rw c.in-Some.is at c.requires.positive in
    subst (λ (xs : List ℕ). All (λ n. n ≢ 0) xs) (sym c.fill.ensures.filled) (filled_some c.in-Some.n c.args.table.now positive)

pub overflow_cast-e : goal.overflow_cast-e
overflow_cast-e c =
    let found = found_is (λ n. eqb n 0) c.args.table.now c.in-Some-first_unnamed.e (sym c.in-Some-first_unnamed.ensures.place) in
    omega (arith, found.0, found.1, c.requires.few)

pub returns-in-Some-first_unnamed-clause-complete :
    goal.returns-in-Some-first_unnamed-clause-complete
unfolding missing_at
returns-in-Some-first_unnamed-clause-complete c = λ named is.
    let mesh = c.args.mesh.now in
    let table = c.args.table.now in
    subst (λ (d : Option ℕ). IsTableOf mesh d named table → all_named mesh named (missing_edge d named.lines) ≡ Err (Missing (c.ends-u.result.0) (c.ends-u.result.1))) (sym c.in_default.is)
    (λ t. ap (all_named mesh named) (missing_none mesh named table t ∙ sym c.in-Some-first_unnamed.ensures.place)
    ∙ ap missing_at (sym (c.ends-u.ensures ∙ ap (ends mesh) c.new.ensures))) is

pub returns-clause-complete : goal.returns-clause-complete
returns-clause-complete c = λ named is.
    let mesh = c.args.mesh.now in
    let table = c.args.table.now in
    subst (λ (d : Option ℕ). IsTableOf mesh d named table → all_named mesh named (missing_edge d named.lines) ≡ Ok table) (sym c.in_default.is)
    (λ t. complete_none mesh named table t (sym c.in_default-first_unnamed.ensures.place)) is

pub returns-clause-some : goal.returns-clause-some
returns-clause-some c = some_none c.args.table.now (sym c.in_default-first_unnamed.ensures.place)
