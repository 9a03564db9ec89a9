use Rattle.std.proofs.Common.{sym}
use Rattle.surf_text.specs.Text.{is_blank}
use Rattle.surf_text.proofs.Cuts.{before_at, behind_at, behind_none, word_none}
use Rattle.surf_text.proofs.places.split_blank.Goals as goal

pub returns-in-Some : goal.returns-in-Some
returns-in-Some c = record {
  word = before_at is_blank c.args.bytes.now c.in-Some.end (sym c.in-Some.ensures.place);
  behind = behind_at is_blank c.args.bytes.now c.in-Some.end (sym c.in-Some.ensures.place);
}

pub returns-in-None : goal.returns-in-None
returns-in-None c = record {
  word = word_none is_blank c.args.bytes.now (sym c.in-None.ensures.place);
  behind = behind_none is_blank c.args.bytes.now (sym c.in-None.ensures.place);
}
