use Rattle.std.proofs.Common.{◌≡◌, ◌<◌, ◌≤◌, ◌^◌, take}
use Rattle.std.specs.List.{position_or_len}
use Rattle.surf_text.specs.Text.{is_no_digit, value_of}
use Rattle.surf_text.proofs.number.few_digits.Given as goal

abbrev pub invariant-loop-i : goal.invariant-loop-i
invariant-loop-i l = record {
  fits : l.number < 10 ^ l.i;
  within : l.i ≤ position_or_len is_no_digit l.bytes;
  so_far : l.number ≡ value_of (take l.i l.bytes);
}
