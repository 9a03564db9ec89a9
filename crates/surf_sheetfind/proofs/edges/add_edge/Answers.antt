use Rattle.surf_surfaces.proofs.Common.{ℕ, [], ◌∷◌, ◌++◌, ◌∙◌, sym, ap}
use Rattle.surf_sheetfind.specs.Listed.{numbers_below}
use Rattle.surf_sheetfind.proofs.EdgeRows.{edges_more}
use Rattle.surf_sheetfind.proofs.edges.add_edge.Goals as goal

pub returns : goal.returns
returns c =
    let old = c.args.listed.now in
    let edge = c.args.edge in
    record {
      listed = λ sets is were.
          edges_more c.args.mesh.now sets c.args.count edge old.edges.items c.push.new.self.items old.numbers
          c.add_row.new.numbers c.deref.result.now c.requires.edge (λ none. c.requires.some (sym is ∙ none))
          (c.deref.ensures.value ∙ c.in_ok-row.ensures.numbers
          ∙ ap (λ x. numbers_below x c.args.count) (c.bits.ensures ∙ sym is))
          (c.in_ok-push.ensures.items ∙ ap (λ (p : ℕ × ℕ). old.edges.items ++ p ∷ []) c.ends.ensures)
          c.in_ok-add_row.ensures.added were;
    }
