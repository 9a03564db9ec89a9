use Rattle.std.proofs.Common.{◌≤◌, ◌<◌, ◌^◌, ℕ, length, length-append, ap, arith}
use Rattle.surf_surfaces.proofs.Common.{decimal, length-decimal-le}
use Rattle.surf_texts.proofs.distances.make_line.Goals as goal

short : (n : ℕ) → n < 2 ^ 64 → length (decimal n) ≤ 20
short n fits = length-decimal-le 20 n (omega arith) (omega (arith, fits)) fits

pub put_byte-requires-2 : goal.put_byte-requires-2
put_byte-requires-2 c = record { room = omega (arith, c.put_parent.ensures.short, ap length c.put_byte.ensures.before, ap length c.clear.ensures.empty) }

pub put_whole-requires : goal.put_whole-requires
put_whole-requires c =
    record { room = omega (arith, short c.args.distance c.ranges.distance.fits, ap length c.put_byte-2.ensures.before, c.put_parent.ensures.short, ap length c.put_byte.ensures.before, ap length c.clear.ensures.empty) }

pub put_byte-requires-3 : goal.put_byte-requires-3
put_byte-requires-3 c =
    let d : ℕ = c.args.distance in
    let long = length-append (decimal d) c.put_byte-2.new.self in
    record { room = omega (arith, short d c.ranges.distance.fits, ap length c.put_whole.ensures.before, long, ap length c.put_byte-2.ensures.before, c.put_parent.ensures.short, ap length c.put_byte.ensures.before, ap length c.clear.ensures.empty) }

pub put_whole-requires-2 : goal.put_whole-requires-2
put_whole-requires-2 c =
    let d : ℕ = c.args.distance in
    let n : ℕ = c.number.result in
    let long = length-append (decimal d) c.put_byte-2.new.self in
    let small = length-decimal-le 10 n (omega arith) (omega (arith, c.number.type_inv)) (omega (arith, c.number.type_inv)) in
    record { room = omega (arith, small, ap length c.put_byte-3.ensures.before, short d c.ranges.distance.fits, ap length c.put_whole.ensures.before, long, ap length c.put_byte-2.ensures.before, c.put_parent.ensures.short, ap length c.put_byte.ensures.before, ap length c.clear.ensures.empty) }
