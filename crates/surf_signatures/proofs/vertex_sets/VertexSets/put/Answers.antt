use Rattle.surf_surfaces.proofs.Common.{◌≡◌, ◌<◌, ◌∙◌, ℕ, List, cond, eqb, ap, sym, subst, length, set, arith, with_items, with_items_is}
use Rattle.surf_signatures.specs.Tables.{words_for, row_of, sets_in, Signed}
use Rattle.surf_signatures.proofs.Written.{rows-length, row_room}
use Rattle.surf_signatures.proofs.Rewritten.{rows_set}
use Rattle.surf_signatures.proofs.vertex_sets.VertexSets.put.Goals as goal

pub put_at-requires-clause-room : goal.put_at-requires-clause-room
put_at-requires-clause-room c =
    let s = c.self.inside in
    let room = row_room c.args.self.now s.width s.vertices c.args.v s.table.items c.self.view_is c.requires.vertex c.self.invariant.1 in
    rw (c.index.ensures, c.words_of-words.ensures.words, c.deref_mut.ensures.value) room

pub returns : goal.returns
returns c =
    let s = c.self.inside in
    let w = words_for s.width in
    let v = c.args.v in
    let numbers = c.args.numbers.now in
    let new = c.put_at.new.table in
    let in_table : v < s.vertices =
    subst (λ n. v < n)
    (ap (λ (t : Signed). length t.sets) (sym c.self.view_is) ∙ rows-length w s.vertices s.table.items) c.requires.vertex in
    let each : (e : ℕ) → row_of w new e ≡ cond (eqb v e) numbers (row_of w s.table.items e) =
    rw (c.index.ensures, c.words_of-words.ensures.words, c.deref_mut.ensures.value) at c.put_at.ensures.put in
    let kept : (with_items s.table new).items ≡ new = with_items_is s.table new (omega (arith, c.deref_mut.ensures.len, c.put_at.ensures.count)) in
    let table : List ℕ → Signed = λ sets. record { width = s.width; sets = sets } in
    record {
      put = ap (λ xs. table (sets_in w s.vertices xs)) kept
          ∙ ap table (rows_set w s.vertices v numbers s.table.items new in_table each)
          ∙ ap (λ (t : Signed). record t { sets = set t.sets v numbers }) c.self.view_is;
    }
