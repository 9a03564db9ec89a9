use Rattle.std.proofs.Common.{◌≡◌, List, ℕ, Ok, Err, Result, refl, sym, subst}
use Rattle.std.specs.Prelude.{MatchResult}
use Rattle.surf_lengths.specs.Files.{all_named, missing_edge, lengths_in}
use Rattle.surf_lengths.specs.declared.fault.LengthFault.{LengthFault}
use Rattle.surf_lengths.proofs.file.read_table.Goals as goal

pub returns-clause-read : goal.returns-clause-read
returns-clause-read c =
    let mesh = c.args.mesh.now in
    let default = c.in_ok-default.default in
    let are = c.in_ok-name_all.ensures.named default in
    let read : lengths_in mesh c.args.text.now ≡ all_named mesh are.named (missing_edge default are.named.lines) =
    rw (c.in_ok-default.ensures.head, are.read) refl in
    subst (λ (y : Result (List ℕ) LengthFault). MatchResult c.complete.result (λ x. y ≡ Ok c.complete.new.table) (λ e. y ≡ Err e)) (sym read)
    (c.complete.ensures.complete are.named are.table_of)
