use Rattle.surf_finder.proofs.Common.{◌≡◌, not, sym, ap, ◌∙◌, subst, ◌<◌, length, slice_index, ◌==◌, SignTables}
use Rattle.surf_finder.proofs.Kinded.{plain_kind}
use Rattle.surf_finder.specs.Kinds.{signs_by}
use Rattle.surf_finder.proofs.edge_signs.EdgeSigns.is_signed.Goals as goal

pub returns : goal.returns
returns c =
    let inside = c.self.inside in
    let s = signs_by inside.left.items inside.kinds in
    let e_in = subst (λ (t : SignTables). c.args.e < length t.signatures) (sym c.self.view_is) c.requires.edge in
    record {
      signed = ap not (ap (λ k. k == 0) c.kind.ensures.kind ∙ plain_kind s inside.kinds c.args.e c.self.invariant e_in)
          ∙ ap (λ (t : SignTables). not (slice_index t.signatures c.args.e == 0)) c.self.view_is;
    }
