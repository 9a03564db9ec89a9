use Rattle.surf_z2.proofs.Common.{◌≡◌, ◌<◌, ◌*◌, ◌^◌, bit_xor, ap, sym, subst, ◌∙◌, length, number}
use Rattle.surf_bits.proofs.Rows.{number_most}
use Rattle.surf_bits.proofs.bits.Bits.add_to.Goals as goal

pub returns : goal.returns
returns c =
    let words = c.args.words.now in
    let own = c.self.inside.words.now in
    let is : number own ≡ c.args.self.now = c.self.view_is in
    let fits = subst (λ n. n < 2 ^ (64 * length words)) (sym is) c.requires.fits in
    record {
      sum = c.add_words.ensures
          ∙ ap (bit_xor (number words))
          (number_most (length words) c.min-count.result own c.min-count.ensures fits ∙ is);
    }
