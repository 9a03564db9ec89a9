use Rattle.surf_surfaces.proofs.Common.{ℕ, List, length, sym, subst, IsLoopCount}
use Rattle.surf_sheetfind.proofs.ClassLaws.{signed_at, signed_count, signed_for, classes_are}
use Rattle.surf_sheetfind.proofs.vertices.sheets_of_vertices.Goals as goal

pub cert_from-requires-clause-table : goal.cert_from-requires-clause-table
cert_from-requires-clause-table c =
    let t = c.in_ok-signatures.signatures in
    signed_count c.args.mesh.now t (length t.left) c.in_ok-signatures.ensures.signed

pub cert_from-requires-clause-classes : goal.cert_from-requires-clause-classes
cert_from-requires-clause-classes c =
    let t = c.in_ok-signatures.signatures in
    let s = c.in_ok-signatures.ensures.signed in
    classes_are c.args.mesh.now t.signatures s.split c.law_of_surface.ensures.surface
    (signed_at c.args.mesh.now t (length t.left) s) c.args.cycles.items s.is_split c.requires.least.is_basis

pub judge-requires-clause-signed : goal.judge-requires-clause-signed
judge-requires-clause-signed c =
    let t = c.in_ok-signatures.signatures in
    signed_for c.args.mesh.now t (length t.left) (length c.in_ok-cert.cert.cycles) c.in_ok-signatures.ensures.signed
    (subst (λ (ws : List (List ℕ)). IsLoopCount c.args.mesh.now (length ws)) (sym c.in_ok-cert.ensures.cycles)
    c.requires.least.is_basis.count)
