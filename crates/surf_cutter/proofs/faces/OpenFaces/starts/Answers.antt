use Rattle.surf_slit.proofs.Common.{ℕ, List, sym, subst}
use Rattle.surf_cutter.proofs.Common.{rows_from, AreStarts}
use Rattle.surf_cutter.proofs.FaceTables.{row_count, row_starts}
use Rattle.surf_cutter.proofs.faces.OpenFaces.starts.Goals as goal

pub returns : goal.returns
returns c =
    let starts = c.self.inside.starts.items in
    let items = c.self.inside.corners.items in
    let n = row_count starts items c.self.invariant in
    let are : AreStarts (rows_from starts items) starts = record {
      size = sym n;
      at = λ f le. sym (row_starts starts items c.self.invariant f le);
    } in
    subst (λ (rows : List (List ℕ)). AreStarts rows c.deref.result.now) c.self.view_is
    (subst (AreStarts (rows_from starts items)) (sym c.deref.ensures.value) are)
