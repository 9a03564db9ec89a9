use Rattle.surf_surfaces.proofs.Common.{◌≡◌, ◌<◌, List, Bool, set, subst, true, false, length, get_or, sym, ap, ◌∙◌, arith, xor}
use Rattle.std.proofs.lemmas.List.{get_or_read, get_or-set_same}
use Rattle.surf_orientation.specs.Chains.{same_way}
use Rattle.surf_check.specs.Growth.{flag_of, IsCrossed}
use Rattle.surf_check.proofs.SideWays.{mates_join, mates_ways, is_crossed}
use Rattle.surf_check.proofs.GrowthLaws.{grows_more, grows_on_more, still_marked}
use Rattle.surf_check.proofs.growth.cross.Goals as goal

pub returns-then-index-clause-crossed : goal.returns-then-index-clause-crossed
returns-then-index-clause-crossed c =
    let mesh = c.args.mesh.now in
    let seen = c.args.tree.now.seen.items in
    let inside : c.index.result < length seen = let n =
    c.requires.grows.seen_count in omega (arith, c.index.ensures, c.face_of-face.ensures.is_face, n) in
    let read = get_or_read seen c.index.result c.index-2.result.now inside c.index-2.ensures false
    ∙ ap (λ i. get_or seen i false) c.index.ensures in
    is_crossed mesh c.law_of_surface.ensures.surface c.args.side c.mate-across.result c.face_of-parent.result
    c.face_of-face.result seen c.mate-across.ensures c.face_of-parent.ensures c.face_of-face.ensures
    (c.requires.from c.face_of-parent.result c.face_of-parent.ensures) (sym read ∙ c.if-index.true)

pub returns-clause-grows : goal.returns-clause-grows
returns-clause-grows c =
    let mesh = c.args.mesh.now in
    let t = c.args.tree.now in
    let seen = t.seen.items in
    let g = c.requires.grows in
    let surface = c.law_of_surface.ensures.surface in
    let side = c.args.side in
    let across = c.mate-across.result in
    let face = c.face_of-face.result in
    let parent = c.face_of-parent.result in
    let up = c.edge_of-up.result in
    let m = c.mate-across.ensures in
    let a = c.face_of-parent.ensures in
    let b = c.face_of-face.ensures in
    let h = c.edge_of-up.ensures in
    let inside : c.index.result < length seen = let n =
    g.seen_count in omega (arith, c.index.ensures, b.is_face, n) in
    let read = get_or_read seen c.index.result c.index-2.result.now inside c.index-2.ensures false
    ∙ ap (λ i. get_or seen i false) c.index.ensures in
    let new = sym read ∙ c.if-index.false in
    let known : c.index-3.result < length t.flags.items = let n =
    g.flag_count in omega (arith, c.index-3.ensures, a.is_face, n) in
    let flag_read = get_or_read t.flags.items c.index-3.result c.index-4.result.now known c.index-4.ensures false
    ∙ ap (λ i. get_or t.flags.items i false) c.index-3.ensures in
    let same : c.eq-same.result ≡ same_way mesh up = c.eq-same.ensures
    ∙ sym (mates_ways mesh surface side across parent face up c.tail.result c.tail-2.result m a b h
    c.tail.ensures c.tail-2.ensures) in
    let flag_is : c.differ-flag.result ≡ xor (same_way mesh up) (flag_of t.flags.items parent) =
    c.differ-flag.ensures ∙ ap (λ z. xor z c.index-4.result.now) same ∙ ap (xor (same_way mesh up)) flag_read in
    let e = c.in_ok-hang.ensures in
    rw (
      e.parents,
      e.ups,
      e.ranks,
      e.flags,
      e.seen,
      e.listed,
    ) (grows_more mesh t.parent.items t.up.items t.rank.items t.flags.items seen t.listed.items g
    parent face up c.differ-flag.result
    (c.requires.from parent a) new b.is_face h.is_edge (mates_join mesh surface side across parent face up m a b h)
    flag_is)

pub returns-clause-on : goal.returns-clause-on
returns-clause-on c =
    let t = c.args.tree.now in
    let seen = t.seen.items in
    let face = c.face_of-face.result in
    let e = c.in_ok-hang.ensures in
    let inside : face < length seen = let n =
    c.requires.grows.seen_count in omega (arith, c.face_of-face.ensures.is_face, n) in
    rw (e.seen, e.listed) (grows_on_more seen t.listed.items face inside)

pub returns-clause-crossed : goal.returns-clause-crossed
returns-clause-crossed c =
    let mesh = c.args.mesh.now in
    let seen = c.args.tree.now.seen.items in
    let face = c.face_of-face.result in
    let parent = c.face_of-parent.result in
    let inside : face < length seen = let n =
    c.requires.grows.seen_count in omega (arith, c.face_of-face.ensures.is_face, n) in
    let P : List Bool → Type 0 = λ xs. IsCrossed mesh xs c.args.side in
    subst P (sym c.in_ok-hang.ensures.seen)
    (is_crossed mesh c.law_of_surface.ensures.surface c.args.side c.mate-across.result parent face
    (set seen face true) c.mate-across.ensures c.face_of-parent.ensures c.face_of-face.ensures
    (still_marked seen face parent inside (c.requires.from parent c.face_of-parent.ensures))
    (get_or-set_same seen face true false inside))
