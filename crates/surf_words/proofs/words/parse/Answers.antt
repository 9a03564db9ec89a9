use Rattle.std.proofs.Common.{sym}
use Rattle.surf_words.proofs.WordLaws.{no_words, six_texts, many_words}
use Rattle.surf_words.proofs.words.parse.Goals as goal

pub returns-in-empty : goal.returns-in-empty
returns-in-empty c = no_words c.args.words.now c.in-empty.len_below

pub returns-in-len6 : goal.returns-in-len6
returns-in-len6 c =
    let is = six_texts c.args.words.now c.in-len6.len_at_least c.in-len6.len_below
    c.word-item-then-words-lt7.is c.second-item-then-words-lt7.is c.third-item-then-words-lt7.is
    c.fourth-item-then-words-lt7.is c.fifth-item-then-words-lt7.is c.sixth-item.is in
    rw (
      is,
      sym c.deref-in-len6.ensures,
      sym c.deref-in-len6-2.ensures,
      sym c.deref-in-len6-3.ensures,
      sym c.deref-in-len6-4.ensures,
      sym c.deref-in-len6-5.ensures,
      sym c.deref-in-len6-6.ensures,
    )
    c.on_six.ensures

pub returns-in-len7-up : goal.returns-in-len7-up
returns-in-len7-up c = many_words c.args.words.now c.in-len7-up.len_at_least
