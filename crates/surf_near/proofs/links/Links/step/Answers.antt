use Rattle.surf_near.proofs.Common.{arith, inl, ◌≤◌, short_lengths, barred_lengths}
use Rattle.surf_near.proofs.Barring.{are_lengths, sizes_apart, still_past}
use Rattle.surf_near.proofs.links.Links.step.Goals as goal

pub returns-then-radius-from : goal.returns-then-radius-from
returns-then-radius-from c =
    let inside = c.self.inside in
    let kept = c.self.invariant in
    record {
      step = rw (← c.self.view_is) (still_past inside.mesh.now inside.lengths.now inside.barred.items (λ x. x ≤ inside.sizes.greatest_small) c.args.radius
          inside.barring kept.none (inl (omega (arith, kept.sizes_are.fits, c.if-radius-from.true, c.from.ensures)))
          (sizes_apart inside.lengths.now inside.sizes kept.sizes_are c.args.radius (omega (arith, c.if-radius-from.true, c.from.ensures))));
    }

pub returns-then-is_past_bars : goal.returns-then-is_past_bars
returns-then-is_past_bars c =
    let inside = c.self.inside in
    let kept = c.self.invariant in
    record {
      step = rw (← c.self.view_is) (still_past inside.mesh.now inside.lengths.now inside.barred.items (λ x. x ≤ inside.sizes.greatest) c.args.radius
          inside.barring kept.none (c.is_past_bars.ensures.past c.if-is_past_bars.true) (λ e l. inl (kept.sizes_are.all e l)));
    }

pub returns-else-is_past_bars : goal.returns-else-is_past_bars
returns-else-is_past_bars c =
    let inside = c.self.inside in
    record {
      step = rw (← c.self.view_is) (λ e l. inl (short_lengths (barred_lengths inside.mesh.now inside.barred.items inside.lengths.now)
          (are_lengths inside.mesh.now inside.lengths.now inside.barred.items c.self.invariant.links.are_lengths) e));
    }
