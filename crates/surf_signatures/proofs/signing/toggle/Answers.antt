use Rattle.surf_surfaces.proofs.Common.{◌≡◌, ◌<◌, ◌^◌, ◌%◌, ◌*◌, ◌&&◌, eqb, set, bit_xor, subst, arith, xor, pow_below}
use Rattle.surf_base.specs.Tables.{at}
use Rattle.surf_signatures.specs.Signs.{cell, sign_bit}
use Rattle.surf_signatures.proofs.Toggling.{toggled}
use Rattle.surf_signatures.proofs.signing.toggle.Goals as goal

pub returns : goal.returns
returns c = record {
  turned = λ e j l.
      let signs = c.args.signs.now in
      let m = cell c.args.words c.args.edge c.args.k in
      let b = c.args.k % 64 in
      let low : 2 ^ b < 2 ^ 64 = pow_below b 64 (omega arith) in
      let one : 2 ^ b ≡ 1 * 2 ^ b % 18446744073709551616 = omega arith in
      subst (λ n. sign_bit (set signs m (bit_xor (at signs m) n)) c.args.words e j ≡ xor (sign_bit signs c.args.words e j) (eqb c.args.edge e && eqb c.args.k j)) one
      (toggled signs c.args.words c.args.edge c.args.k e j c.requires.cell c.requires.bit l);
}
