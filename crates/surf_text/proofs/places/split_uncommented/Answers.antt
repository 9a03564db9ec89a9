use Rattle.std.proofs.Common.{◌≡◌, Some, take, sym, ◌∙◌, ap, eq-eqb}
use Rattle.std.specs.List.{position}
use Rattle.surf_text.specs.Text.{is_comment_sign, is_line_end, uncommented}
use Rattle.surf_text.proofs.Cuts.{before_at, before_none, found_is, none_is}
use Rattle.surf_text.proofs.Signs.{first_of_both, none_before_both, none_of_both}
use Rattle.surf_text.proofs.places.split_uncommented.Goals as goal

pub returns-in_default : goal.returns-in_default
returns-in_default c =
    let bytes = c.args.bytes.now in
    let none = none_of_both is_line_end is_comment_sign bytes (sym c.first_sign.ensures.place ∙ c.in_default.is) in
    record {
      line = before_none is_comment_sign bytes none.1 ∙ ap uncommented (before_none is_line_end bytes none.0);
      len = sym (none_is is_line_end bytes none.0);
    }

pub returns-then-bytes-sign-eq10 : goal.returns-then-bytes-sign-eq10
returns-then-bytes-sign-eq10 c =
    let bytes = c.args.bytes.now in
    let i = c.in-Some.sign in
    let found = sym c.first_sign.ensures.place ∙ c.in-Some.is in
    let end : position is_line_end bytes ≡ Some i = first_of_both is_line_end is_comment_sign bytes i found (eq-eqb _ _ c.if-bytes-sign-eq10.true) in
    record {
      line = sym (none_before_both is_line_end is_comment_sign bytes i found) ∙ ap uncommented (before_at is_line_end bytes i end);
      len = sym (found_is is_line_end bytes i end).1;
    }

pub returns : goal.returns
returns c = record {
  line = c.before_comment.ensures.bytes ∙ ap (λ k. uncommented (take k c.args.bytes.now)) c.line_len-len.ensures.len;
  len = c.line_len-len.ensures.len;
}
