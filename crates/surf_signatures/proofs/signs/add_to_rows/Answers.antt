use Rattle.std.proofs.Common.{rules, ◌≡◌, ◌∙◌}
use Rattle.surf_signatures.proofs.Rewritten.{rows_more, rows_whole}
use Rattle.surf_signatures.proofs.signs.add_to_rows.Goals as goal

pub loop-edge-preserved : goal.loop-edge-preserved
loop-edge-preserved c = record {
  count = c.add_at.ensures.count ∙ c.loop-edge.invariant.count;
  rows = rows_more c.args.words c.args.k c.args.other.now c.loop-edge.edge c.args.table.now c.loop-edge.table
      c.add_at.new.table c.loop-edge.invariant.rows c.add_at.ensures.added;
}

pub returns-clause-added : goal.returns-clause-added
returns-clause-added c =
    let all : c.loop-edge.edge ≡ c.args.edges = search rules in
    rows_whole c.args.words c.args.k c.args.other.now c.args.edges c.args.table.now c.loop-edge.table
    (rw all at c.loop-edge.invariant.rows)
