use Rattle.std.proofs.Common.{◌≡◌, ◌≤◌, ◌<◌, ◌+◌, ◌^◌, ◌++◌, ℕ, List, ap, length, length-append, arith}
use Rattle.surf_surfaces.proofs.Common.{decimal, length-decimal-le}
use Rattle.surf_off.proofs.ShortFaces.{number_short, number_before}
use Rattle.surf_off.proofs.write.make_comment.Goals as goal

-- how long a slip is at most once a place stands before what it held
place_before : (new old : List ℕ) (i : ℕ) → i < 2 ^ 64 → new ≡ decimal i ++ old → length new ≤ 20 + length old
place_before new old i few is = omega (arith, ap length is, length-append (decimal i) old, length-decimal-le 20 i (omega arith) (omega (arith, few)) (omega (arith, few)))

pub put_whole-requires : goal.put_whole-requires
put_whole-requires c = record { room = omega (arith, number_short c.number.result (omega (arith, c.number.type_inv)), ap length c.put_byte.ensures.before, ap length c.clear.ensures.empty) }

pub put_bytes-requires : goal.put_bytes-requires
put_bytes-requires c =
    let origin = number_before c.put_whole.new.self c.put_byte.new.self c.number.result (omega (arith, c.number.type_inv)) c.put_whole.ensures.before in
    record { room = omega (arith, origin, ap length c.put_byte.ensures.before, ap length c.clear.ensures.empty) }

pub put_whole-requires-2 : goal.put_whole-requires-2
put_whole-requires-2 c =
    let origin = number_before c.put_whole.new.self c.put_byte.new.self c.number.result (omega (arith, c.number.type_inv)) c.put_whole.ensures.before in
    let i : ℕ = c.args.i in
    let place = length-decimal-le 20 i (omega arith) (omega (arith, c.ranges.i.fits)) (omega (arith, c.ranges.i.fits)) in
    record { room = omega (arith, place, ap length c.put_bytes.ensures.before, origin, ap length c.put_byte.ensures.before, ap length c.clear.ensures.empty) }

pub put_bytes-requires-2 : goal.put_bytes-requires-2
put_bytes-requires-2 c =
    let origin = number_before c.put_whole.new.self c.put_byte.new.self c.number.result (omega (arith, c.number.type_inv)) c.put_whole.ensures.before in
    let place = place_before c.put_whole-2.new.self c.put_bytes.new.self c.args.i (omega (arith, c.ranges.i.fits)) c.put_whole-2.ensures.before in
    record { room = omega (arith, place, ap length c.put_bytes.ensures.before, origin, ap length c.put_byte.ensures.before, ap length c.clear.ensures.empty) }
