use Rattle.surf_basis.proofs.Common.{grown_rooted, AreTreeRowsBelow, ◌≡◌, ◌<◌, subst, arith, lengths_positive}
use Rattle.surf_tree.specs.Grown.{IsGrown}
use Rattle.surf_basis.proofs.Certified.{rows_more}
use Rattle.surf_basis.proofs.cert.all_tree_rows.Goals as goal

pub tree_rows-requires : goal.tree_rows-requires
tree_rows-requires c =
    let mesh = c.args.mesh.now in
    let lengths = c.args.lengths.now in
    let positive = lengths_positive mesh lengths c.law_of_lengths.ensures.lengths c.requires.lengths in
    record { rooted = grown_rooted mesh lengths c.new.result c.grow.new.self c.law_of_surface.ensures.surface positive c.grow.ensures.grown }

pub loop-base-preserved : goal.loop-base-preserved
loop-base-preserved c =
    let mesh = c.args.mesh.now in
    let lengths = c.args.lengths.now in
    let x = c.loop-base.base in
    let t = c.grow.new.self in
    let positive = lengths_positive mesh lengths c.law_of_lengths.ensures.lengths c.requires.lengths in
    let inside : x < mesh.vertices = omega (arith, c.loop-base-test.true, c.vertices-vertices.ensures.count) in
    let grown = subst (λ b. IsGrown mesh lengths b t) c.new.ensures c.grow.ensures.grown in
    record {
      made = grown.made;
      rows = rows_more mesh lengths c.law_of_surface.ensures.surface positive x t c.loop-base.rows.items c.push.new.self.items c.in_ok-tree_rows.field-0 inside grown
          c.loop-base.invariant.rows c.in_ok-tree_rows.ensures.rows c.in_ok-push.ensures.items;
    }

pub returns : goal.returns
returns c =
    let n = c.vertices-vertices.ensures.count in
    let e : c.loop-base.base ≡ c.args.mesh.now.vertices = omega (arith, n, c.loop-base-test.false, c.loop-base.auto.base-end) in
    record { rows = subst (λ k. AreTreeRowsBelow c.args.mesh.now c.args.lengths.now k c.loop-base.rows.items) e c.loop-base.invariant.rows }
