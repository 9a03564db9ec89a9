use Rattle.std.proofs.Common.{rules, ◌≡◌}
use Rattle.surf_certcheck.proofs.Cleared.{first_tops}
use Rattle.surf_certcheck.proofs.tops.clear_flags.Goals as goal

pub loop-k-init : goal.loop-k-init
loop-k-init c =
    let judge = c.args.judge.now in
    let tops = c.in_ok-tops.tops.items in
    let same : tops ≡ judge.links.now.parent.items = search rules in
    record {
      tops = first_tops judge 340282366920938463463374607431768211455 c.law_of_surface.ensures.surface tops same;
      doubts = c.requires.flags;
    }
