use Rattle.std.proofs.Common.{◌≡◌, ◌<◌, ◌≤◌, ◌^◌, drop}
use Rattle.std.specs.List.{position_or_len}
use Rattle.surf_text.specs.Text.{is_no_digit, front_digits}
use Rattle.surf_text.proofs.Digits.{number_on}
use Rattle.surf_text.proofs.number.long_number.Given as goal

abbrev pub invariant-loop-i : goal.invariant-loop-i
invariant-loop-i l = record {
  fits : l.number < 2 ^ 32;
  within : l.i ≤ position_or_len is_no_digit l.bytes;
  so_far : number_on l.number (drop l.i (front_digits l.bytes)) ≡ number_on 0 (front_digits l.bytes);
}
