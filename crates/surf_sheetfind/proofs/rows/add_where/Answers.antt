use Rattle.surf_surfaces.proofs.Common.{refl, ◌∙◌, arith}
use Rattle.surf_sheetfind.proofs.Tables.{moved_more, all_moved}
use Rattle.surf_sheetfind.proofs.rows.add_where.Goals as goal

pub loop-row-init : goal.loop-row-init
loop-row-init c = record {
  width = refl;
  moved = record { count = refl; done = λ j l. absurd (omega (arith, l)); rest = λ j l. refl };
}

pub loop-row-preserved : goal.loop-row-preserved
loop-row-preserved c = record {
  width = c.add_at.ensures.width ∙ c.loop-row.invariant.width;
  moved = moved_more c.args.k c.args.other.now c.args.rows.now.sets c.loop-row.rows.sets c.add_at.new.rows.sets c.loop-row.row
      c.loop-row.invariant.moved c.add_at.ensures.count c.add_at.ensures.added;
}

pub returns : goal.returns
returns c =
    let size = c.requires.count in
    record {
      moved = all_moved c.args.k c.args.other.now c.args.rows.now.sets c.loop-row.rows.sets c.loop-row.row
          (omega (arith, size, c.loop-row-test.false)) c.loop-row.invariant.moved;
      width = c.loop-row.invariant.width;
    }
