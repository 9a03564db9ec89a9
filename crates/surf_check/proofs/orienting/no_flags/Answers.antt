use Rattle.std.proofs.Common.{◌≡◌, replicate, false, ap, ◌∙◌, rules}
use Rattle.surf_check.proofs.orienting.no_flags.Goals as goal

pub returns : goal.returns
returns c =
    (let own : c.in_ok-flags.flags.items ≡ replicate c.faces.result false = search rules in own)
    ∙ ap (λ k. replicate k false) c.faces.ensures.count
