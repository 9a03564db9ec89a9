use Rattle.surf_cert.proofs.Common.{ℕ, refl, ◌∙◌, subst, flat_map, zip, err_from_is_err_and, Puts, puts_more, puts_stop, base_line, vertex_line}
use Rattle.surf_cert.proofs.write.write_tree.Goals as goal

pub returns-in_err-push_pieces : goal.returns-in_err-push_pieces
returns-in_err-push_pieces c =
    let r = c.from_residual.result in
    let p = err_from_is_err_and r c.from_residual.ensures.1 in
    record { puts = puts_stop c.args.page.now c.push_pieces.new.self (base_line c.args.tree.now.base) (flat_map vertex_line (zip c.args.tree.now.distance c.args.tree.now.parent)) c.push_pieces.result c.in_err-push_pieces.field-0.0 r c.in_err-push_pieces.was (rw (p.1, p.2) refl) (subst (λ (n : ℕ). Puts c.args.page.now c.push_pieces.new.self (base_line n) c.push_pieces.result) (c.index.ensures ∙ c.base.ensures.base) c.push_pieces.ensures.puts) }

pub returns : goal.returns
returns c =
    let r = c.write_vertices.result in
    record {
      puts = puts_more c.args.page.now c.push_pieces.new.self c.write_vertices.new.page (base_line c.args.tree.now.base) (flat_map vertex_line (zip c.args.tree.now.distance c.args.tree.now.parent)) c.push_pieces.result c.in_ok-push_pieces.field-0 r c.in_ok-push_pieces.was (subst (λ (n : ℕ). Puts c.args.page.now c.push_pieces.new.self (base_line n) c.push_pieces.result) (c.index.ensures ∙ c.base.ensures.base) c.push_pieces.ensures.puts)
          c.write_vertices.ensures.puts;
    }
