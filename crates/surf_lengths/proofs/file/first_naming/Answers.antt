use Rattle.std.proofs.Common.{◌≡◌, ℕ, List, [], Ok, eqb-true, ap, sym, subst, ◌∙◌}
use Rattle.std.proofs.lemmas.Bool.{eqb-false}
use Rattle.surf_text.specs.Text.{TextLine}
use Rattle.surf_text.specs.Walks.{lines_ahead}
use Rattle.surf_lengths.specs.Naming.{IsFirstNaming}
use Rattle.surf_lengths.specs.Walks.{IsEntry}
use Rattle.surf_lengths.proofs.Naming.{naming_here, naming_later, naming_sound, naming_some}
use Rattle.surf_lengths.proofs.file.first_naming.Goals as goal

pub returns-in_err-entry : goal.returns-in_err-entry
returns-in_err-entry c = record {
  first = λ n f. absurd (naming_sound c.args.mesh.now c.args.edge (lines_ahead c.loop-entry.lines) n c.in_err-entry.field-0.0 (c.loop-entry.invariant n f) c.in_err-entry.ensures.entry);
}

pub returns-then-eq : goal.returns-then-eq
returns-then-eq c =
    let old = lines_ahead c.loop-entry.lines in
    let new = lines_ahead c.next_entry.new.lines in
    let entry : IsEntry c.args.mesh.now old new c.in-Some.entry = rw c.in-Some.is at c.in_ok-entry.ensures.entry in
    record {
      first = λ n f. ap (λ (k : ℕ). Ok k) (naming_here c.args.mesh.now c.args.edge old new c.in-Some.entry entry n (c.loop-entry.invariant n f)
          (eqb-true c.in-Some.entry.edge c.args.edge (sym c.eq.ensures ∙ c.if-eq.true)));
    }

pub loop-entry-preserved : goal.loop-entry-preserved
loop-entry-preserved c = λ n f.
    let old = lines_ahead c.loop-entry.lines in
    let new = lines_ahead c.next_entry.new.lines in
    let entry : IsEntry c.args.mesh.now old new c.in-Some.entry = rw c.in-Some.is at c.in_ok-entry.ensures.entry in
    naming_later c.args.mesh.now c.args.edge old new c.in-Some.entry entry n (c.loop-entry.invariant n f)
    (eqb-false c.in-Some.entry.edge c.args.edge (sym c.eq.ensures ∙ c.if-eq.false))

pub returns : goal.returns
returns c =
    let none : lines_ahead c.loop-entry.lines ≡ [] = rw c.in_default.is at c.in_ok-entry.ensures.entry in
    record {
      first = λ n f. absurd (naming_some c.args.mesh.now c.args.edge n
          (subst (λ (es : List TextLine). IsFirstNaming c.args.mesh.now c.args.edge es n) none (c.loop-entry.invariant n f)));
    }
