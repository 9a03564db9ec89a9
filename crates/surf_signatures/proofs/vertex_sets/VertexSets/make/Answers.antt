use Rattle.std.proofs.Common.{rules, ◌≡◌, ◌*◌, ◌∙◌, ℕ, List, ap}
use Rattle.surf_signatures.specs.Tables.{words_for, sets_in, Signed}
use Rattle.surf_signatures.proofs.Written.{zeros, rows_none}
use Rattle.surf_signatures.proofs.vertex_sets.VertexSets.make.Goals as goal

pub returns : goal.returns
returns c =
    let w = words_for c.args.width in
    let n = c.args.vertices in
    let table : List ℕ → Signed = λ sets. record { width = c.args.width; sets = sets } in
    let items : c.in_ok-table.table.items ≡ zeros (n * c.words_of.result) = search rules in
    record { made = ap (λ xs. table (sets_in w n xs)) items ∙ ap table (rows_none w n (n * c.words_of.result)) }
