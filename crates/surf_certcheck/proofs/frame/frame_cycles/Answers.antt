use Rattle.surf_treecheck.proofs.Common.{◌≡◌, length, map, take, ap, ◌∙◌, arith, split_in, weighed_cycle}
use Rattle.surf_certcheck.proofs.Framing.{frame_none, no_weight}
use Rattle.surf_certcheck.proofs.Validity.{signed_at, signed_count}
use Rattle.surf_certcheck.proofs.frame.frame_cycles.Goals as goal

pub admit_all-requires-clause-count : goal.admit_all-requires-clause-count
admit_all-requires-clause-count c =
    signed_count c.args.case.now.mesh.now (split_in c.args.case.now.mesh.now c.args.case.now.cert.now) c.args.signs.sets c.requires.signed

pub admit_all-requires-clause-frame : goal.admit_all-requires-clause-frame
admit_all-requires-clause-frame c =
    let mesh = c.args.case.now.mesh.now in
    let d = split_in mesh c.args.case.now.cert.now in
    let weights = c.in_ok-weights.weights.items in
    let cycles = ap length c.cycles.ensures.cycles in
    let count : length weights ≡ length d.left =
    omega (arith, c.in_ok-weights.ensures.count, cycles, c.requires.places) in
    (frame_none mesh d c.args.signs weights
    (signed_at mesh d c.args.signs.sets c.requires.signed) count (no_weight weights c.in_ok-weights.ensures.none))

pub returns-in-None-clause-frame : goal.returns-in-None-clause-frame
returns-in-None-clause-frame c =
    let mesh = c.args.case.now.mesh.now in
    let cert = c.args.case.now.cert.now in
    c.sort_places.ensures.frames.frames mesh (split_in mesh cert)
    (map (weighed_cycle mesh c.args.case.now.lengths.now cert) (take (length cert.cycles) cert.cycles))
    c.admit_all.ensures.count c.in-None.ensures.frame.1

pub returns-in-None-clause-count : goal.returns-in-None-clause-count
returns-in-None-clause-count c = c.sort_places.ensures.frames.count ∙ c.admit_all.ensures.count
