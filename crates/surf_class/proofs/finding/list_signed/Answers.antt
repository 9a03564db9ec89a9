use Rattle.surf_cert.proofs.Common.{◌≡◌, ◌∙◌, List, ℕ, Bool, map, filter, get_or, false, ap, subst, arith, IfOk, range_with_len, dual, cells_of, edge_count, ends}
use Rattle.surf_class.proofs.Common.{has_left, passing_same, cotree_of, is_flagged}
use Rattle.surf_class.proofs.finding.list_signed.Goals as goal

pub returns : goal.returns
returns c =
    let mesh = c.args.mesh.now in
    let E = edge_count mesh in
    let parting = has_left (dual (cells_of mesh)) (cotree_of c.args.cotree.now) c.args.edge in
    let same : filter (is_flagged c.deref.result.now) (range_with_len 0 E) ≡ filter parting (range_with_len 0 E) =
    passing_same (is_flagged c.deref.result.now) parting 0 E (λ e l.
    ap (λ (xs : List Bool). get_or xs e false) c.deref.ensures.value ∙ c.in_ok-flags.ensures.flags.each e (omega (arith, l))) in
    record {
      list = subst (λ (xs : List ℕ). IfOk c.list_flagged.result (λ l. l ≡ map (ends mesh) xs)) same c.list_flagged.ensures.list;
    }
