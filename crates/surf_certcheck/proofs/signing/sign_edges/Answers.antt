use Rattle.surf_treecheck.proofs.Common.{◌≡◌, ◌≤◌, ◌∙◌, length, sym, ap, subst, arith, face_count, split_in, IsDualValid, AreLinks}
use Rattle.surf_certcheck.proofs.Validity.{links_are_tree, links_hang, left_is, left_size}
use Rattle.surf_certcheck.proofs.signing.sign_edges.Goals as goal

pub link_faces-requires-clause-tree : goal.link_faces-requires-clause-tree
link_faces-requires-clause-tree c =
    subst (IsDualValid c.args.mesh.now) (sym c.dual.ensures.dual) c.requires.split.dual

pub overflow_cast-len : goal.overflow_cast-len
overflow_cast-len c =
    let mesh = c.args.mesh.now in
    let is = c.in_ok-edges.ensures.listed ∙ left_is mesh c.args.cert.now c.args.left.now c.requires.split c.requires.left in
    let count = left_size mesh c.args.cert.now c.requires.split in
    let size = ap length is in
    let few : c.len.result ≤ 1024 = omega (arith, c.len.ensures, size, count, c.requires.few) in
    omega (arith, few)

pub make-requires : goal.make-requires
make-requires c =
    let mesh = c.args.mesh.now in
    let is = c.in_ok-edges.ensures.listed ∙ left_is mesh c.args.cert.now c.args.left.now c.requires.split c.requires.left in
    let count = left_size mesh c.args.cert.now c.requires.split in
    let size = ap length is in
    record { width = omega (arith, c.len.ensures, size, count, c.requires.few) }

pub write-requires-clause-tree : goal.write-requires-clause-tree
write-requires-clause-tree c =
    let mesh = c.args.mesh.now in
    let cert = c.args.cert.now in
    let links = subst
    (λ d. AreLinks mesh d (face_count mesh) c.in_ok-links.links.parent.items c.in_ok-links.links.up.items)
    c.dual.ensures.dual c.in_ok-links.ensures.links in
    let depth : c.depth.result.now ≡ cert.dual.depth =
    c.depth.ensures.depth ∙ ap (λ d. d.depth) c.dual-2.ensures.dual in
    rw (c.deref.ensures.value, c.deref-2.ensures.value, depth)
    (links_are_tree mesh cert c.in_ok-links.links.parent.items c.in_ok-links.links.up.items c.edges.ensures.surface
    c.requires.split links)

pub write-requires-clause-left : goal.write-requires-clause-left
write-requires-clause-left c =
    let mesh = c.args.mesh.now in
    let is = c.deref-3.ensures.value ∙ c.in_ok-edges.ensures.listed
    ∙ left_is mesh c.args.cert.now c.args.left.now c.requires.split c.requires.left in
    rw is (λ k l. c.requires.split.split.left_in k l)

pub returns-clause-width : goal.returns-clause-width
returns-clause-width c =
    let mesh = c.args.mesh.now in
    let is = c.in_ok-edges.ensures.listed ∙ left_is mesh c.args.cert.now c.args.left.now c.requires.split c.requires.left in
    let size = ap length is in
    let count : c.len.result ≡ length (split_in mesh c.args.cert.now).left = omega (arith, c.len.ensures, size) in
    c.write.ensures.width ∙ ap (λ s. s.width) c.in_ok-signs.ensures.made ∙ count

pub returns-clause-signed : goal.returns-clause-signed
returns-clause-signed c =
    let mesh = c.args.mesh.now in
    let cert = c.args.cert.now in
    let is = c.deref-3.ensures.value ∙ c.in_ok-edges.ensures.listed
    ∙ left_is mesh cert c.args.left.now c.requires.split c.requires.left in
    let links = subst
    (λ d. AreLinks mesh d (face_count mesh) c.in_ok-links.links.parent.items c.in_ok-links.links.up.items)
    c.dual.ensures.dual c.in_ok-links.ensures.links in
    let hangs = links_hang mesh cert c.in_ok-links.links.parent.items c.in_ok-links.links.up.items
    c.edges.ensures.surface c.requires.split links in
    c.write.ensures.signed (split_in mesh cert) c.requires.split.split
    (rw (c.deref.ensures.value, c.deref-2.ensures.value) hangs) (sym is)
