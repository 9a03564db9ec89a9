use Rattle.std.proofs.Common.{◌∙◌, ap, length, arith}
use Rattle.surf_text.specs.Text.{trimmed_front, trimmed_back}
use Rattle.surf_text.proofs.Words.{front_le}
use Rattle.surf_text.proofs.Spans.{line_stands}
use Rattle.surf_text.proofs.placed.long_line.Goals as goal

pub returns : goal.returns
returns c =
    let front = c.trim_front-front.ensures.bytes ∙ ap trimmed_front c.split_uncommented-len.ensures.line in
    let bytes = c.trim_back.ensures.bytes ∙ ap trimmed_back front in
    record {
      len = c.split_uncommented-len.ensures.len;
      bytes = bytes;
      place = line_stands c.args.text.now _ _ _ c.split_uncommented-len.ensures.line front bytes;
    }

pub overflow_sub-result : goal.overflow_sub-result
overflow_sub-result c = omega (arith, front_le c.split_uncommented-len.result.0.now, ap length c.trim_front-front.ensures.bytes)
