use Rattle.surf_surfaces.proofs.Common.{◌≡◌, ℕ, get_or, get_or_default, sym, ap, ◌∙◌, subst}
use Rattle.surf_sheetfind.specs.Listed.{vertex_row, AreVertexRows}
use Rattle.surf_sheetfind.proofs.VertexRows.{rows_none, rows_same, rows_more}
use Rattle.surf_sheetfind.proofs.sheets.vertex_sheets.Goals as goal
use Rattle.surf_sheetfind.proofs.sheets.vertex_sheets.Goals.{then-begins_anew+in_ok-push, else-begins_anew}

pub loop-place-init : goal.loop-place-init
loop-place-init c =
    subst (AreVertexRows c.args.count c.args.pairs.now 0) (sym c.new-sheets.ensures.items)
    (rows_none c.args.count c.args.pairs.now)

pub loop-place-preserved : goal.loop-place-preserved
loop-place-preserved c =
    let k = c.args.count in
    let pairs = c.args.pairs.now in
    let n = c.loop-place.place in
    let old = c.loop-place.sheets.items in
    let inv = c.loop-place.invariant in
    elim c.if-begins_anew.branch [
      | then-begins_anew+in_ok-push w ↦
          let v : w.number-v.result ≡ (get_or pairs n (0, 0)).0 =
          w.number-v.ensures ∙ ap (λ (p : ℕ × ℕ). p.0)
          (get_or_default pairs n w.index-pairs-place.result (0, 0) c.loop-place-test.true) in
          rw w.sheets-is
          (rows_more k pairs n old w.push.new.self.items w.make.result w.in_ok-push.ensures.items
          (w.make.ensures.row ∙ ap (vertex_row k) v) inv)
      | else-begins_anew w ↦
          let same = c.begins_anew.ensures.same w.if-begins_anew.false in
          rw w.sheets-is (rows_same k pairs n old same.0 same.1 inv)
    ]
