use Rattle.std.proofs.Common.{◌∙◌, ℕ, List, ap}
use Rattle.surf_signatures.specs.Tables.{words_for, sets_in, Signed}
use Rattle.surf_signatures.proofs.Written.{rows_unwritten}
use Rattle.surf_signatures.proofs.signs.Signs.make.Goals as goal

pub returns : goal.returns
returns c =
    let w = words_for c.args.width in
    let n = c.args.edges in
    let table : List ℕ → Signed = λ sets. record { width = c.args.width; sets = sets } in
    record { made = ap (λ xs. table (sets_in w n xs)) c.in_ok-table.ensures.items ∙ ap table (rows_unwritten w n) }
