use Rattle.std.proofs.Common.{ap, ◌∙◌, List, ℕ, length}
use Rattle.memchr.specs.Find.{is_byte}
use Rattle.memchr.proofs.lemmas.CallerLemmas.{length-places}
use Rattle.surf_sew.proofs.copies.count_ends.Goals as goal

pub returns : goal.returns
returns c = record { count = c.count.ensures ∙ ap (λ (ks : List ℕ). length ks) c.memchr_iter.ensures.value ∙ length-places (is_byte 10) c.args.bytes.now }
