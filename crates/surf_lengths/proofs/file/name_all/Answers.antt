use Rattle.surf_surfaces.proofs.Common.{◌≡◌, ◌≢◌, ◌<◌, ◌≤◌, ℕ, List, [], Option, Result, Ok, Err, get_or, length, sym, ap, ◌∙◌, err_from_is_err_and, Mesh, edge_count, fold}
use Rattle.std.proofs.Math.ListN.{length-set, length-replicate}
use Rattle.surf_text.specs.Text.{TextLine, lines_of}
use Rattle.surf_text.specs.Walks.{lines_ahead}
use Rattle.surf_lengths.specs.Files.{Head, length_head, name_line, none_named}
use Rattle.surf_lengths.specs.Naming.{IsFirstNaming}
use Rattle.surf_lengths.specs.declared.fault.LengthFault.{LengthFault}
use Rattle.surf_lengths.specs.declared.line.Entry.{Entry}
use Rattle.surf_lengths.specs.Walks.{IsEntry}
use Rattle.surf_lengths.specs.declared.fault.LengthFault.TheVariants.{Twice}
use Rattle.surf_lengths.proofs.Naming.{IsSoFar, err_not_ok, ok_number, none_so_far, so_far_bad, so_far_first, so_far_twice, so_far_more, so_far_done}
use Rattle.surf_lengths.proofs.file.name_all.Goals as goal

pub loop-entry-init : goal.loop-entry-init
loop-entry-init c = record {
  sized = ap length c.requires.none ∙ length-replicate (edge_count c.args.mesh.now) 0;
  so_far = λ default. none_so_far c.args.mesh.now default (lines_ahead c.args.lines.now) c.args.table.now c.requires.none;
}

pub returns-in_err-entry : goal.returns-in_err-entry
returns-in_err-entry c =
    let mesh = c.args.mesh.now in
    let p = err_from_is_err_and c.from_residual.result c.from_residual.ensures.1 in
    let bad : (default : Option ℕ) → fold (name_line mesh) (Ok (none_named mesh default)) (lines_ahead c.args.lines.now) ≡ Err c.in_err-entry.field-0.0 =
    λ default. so_far_bad mesh default (lines_ahead c.args.lines.now) (lines_ahead c.loop-entry.lines) c.loop-entry.table (c.loop-entry.invariant.so_far default) c.in_err-entry.field-0.0 c.in_err-entry.ensures.entry in
    rw (p.1, p.2) (record { named = bad; sized = c.loop-entry.invariant.sized })

-- Read anew, the text has the line that named the edge of an entry first.
named_first : (mesh : Mesh) (text : List ℕ) (kept default : Option ℕ) (entries old new : List TextLine) (table : List ℕ) (so : IsSoFar mesh default entries old table) (entry : Entry)
    → IsEntry mesh old new entry → entry.edge < edge_count mesh → get_or table entry.edge 0 ≢ 0 → length_head (lines_of text) ≡ Ok (record { default = kept; entries = entries })
    → (read : Result ℕ LengthFault) → ((head : Head) → length_head (lines_of text) ≡ Ok head → (number : ℕ) → IsFirstNaming mesh entry.edge head.entries number → read ≡ Ok number)
    → read ≡ Ok (get_or so.named.named.lines entry.edge 0)
named_first mesh text kept default entries old new table so entry is inside taken head read found =
    found (record { default = kept; entries = entries }) head (get_or so.named.named.lines entry.edge 0) (so_far_first mesh default entries old table so new entry is inside taken)

pub returns-in_err-earlier : goal.returns-in_err-earlier
returns-in_err-earlier c =
    let mesh = c.args.mesh.now in
    let old = lines_ahead c.loop-entry.lines in
    let new = lines_ahead c.next_entry.new.lines in
    let default = c.requires.head.0 in
    let so = c.loop-entry.invariant.so_far default in
    let entry : IsEntry mesh old new c.in-Some.entry = rw c.in-Some.is at c.in_ok-entry.ensures.entry in
    let inside : c.in-Some.entry.edge < edge_count mesh = rw c.in-Some.is at c.in_ok-entry.ensures.inside in
    let taken : get_or c.loop-entry.table c.in-Some.entry.edge 0 ≢ 0 = λ zero. c.if-table-e-ne0.true (ap (λ (k : ℕ). get_or c.loop-entry.table k 0) c.index-e.ensures ∙ zero) in
    absurd (err_not_ok c.in_err-earlier.field-0.0 _ (named_first mesh c.args.text.now default default (lines_ahead c.args.lines.now) old new c.loop-entry.table so c.in-Some.entry entry inside taken c.requires.head.1 _ c.in_err-earlier.ensures.first))

pub returns-then-table-e-ne0 : goal.returns-then-table-e-ne0
returns-then-table-e-ne0 c =
    let mesh = c.args.mesh.now in
    let entries = lines_ahead c.args.lines.now in
    let old = lines_ahead c.loop-entry.lines in
    let new = lines_ahead c.next_entry.new.lines in
    let table = c.loop-entry.table in
    let entry : IsEntry mesh old new c.in-Some.entry = rw c.in-Some.is at c.in_ok-entry.ensures.entry in
    let inside : c.in-Some.entry.edge < edge_count mesh = rw c.in-Some.is at c.in_ok-entry.ensures.inside in
    let taken : get_or table c.in-Some.entry.edge 0 ≢ 0 = λ zero. c.if-table-e-ne0.true (ap (λ (k : ℕ). get_or table k 0) c.index-e.ensures ∙ zero) in
    record {
      named = λ default.
          (let so = c.loop-entry.invariant.so_far default in
          let same = ok_number c.in_ok-earlier.earlier _ (named_first mesh c.args.text.now c.requires.head.0 default entries old new table so c.in-Some.entry entry inside taken c.requires.head.1 _ c.in_ok-earlier.ensures.first) in
          so_far_twice mesh default entries old table so new c.in-Some.entry entry inside taken
          ∙ ap (λ (n : ℕ). Err (Twice c.in-Some.entry.line n)) same);
      sized = c.loop-entry.invariant.sized;
    }

pub loop-entry-preserved : goal.loop-entry-preserved
loop-entry-preserved c =
    let mesh = c.args.mesh.now in
    let entries = lines_ahead c.args.lines.now in
    let old = lines_ahead c.loop-entry.lines in
    let new = lines_ahead c.next_entry.new.lines in
    let table = c.loop-entry.table in
    let entry : IsEntry mesh old new c.in-Some.entry = rw c.in-Some.is at c.in_ok-entry.ensures.entry in
    let inside : c.in-Some.entry.edge < edge_count mesh = rw c.in-Some.is at c.in_ok-entry.ensures.inside in
    let positive : 1 ≤ c.in-Some.entry.line = rw c.in-Some.is at c.in_ok-entry.ensures.numbered in
    let free : get_or table c.in-Some.entry.edge 0 ≡ 0 = sym (ap (λ (k : ℕ). get_or table k 0) c.index-e.ensures) ∙ c.if-table-e-ne0.false in
    rw c.index-e.ensures (record {
      sized = length-set table c.in-Some.entry.edge c.in-Some.entry.length ∙ c.loop-entry.invariant.sized;
      so_far = λ default. so_far_more mesh default entries old table (c.loop-entry.invariant.so_far default) new c.in-Some.entry entry inside free positive;
    })

pub returns : goal.returns
returns c =
    let none : lines_ahead c.loop-entry.lines ≡ [] = rw c.in_default.is at c.in_ok-entry.ensures.entry in
    record {
      named = λ default. so_far_done c.args.mesh.now default (lines_ahead c.args.lines.now) (lines_ahead c.loop-entry.lines) c.loop-entry.table (c.loop-entry.invariant.so_far default) none;
      sized = c.loop-entry.invariant.sized;
    }
