use Rattle.surf_surfaces.proofs.Common.{ℕ, Contains, get_or, subst, get_or_default, pair, edges}
use Rattle.surf_certcheck.proofs.loops.total_of.Goals as goal

pub edge_between-edge-requires : goal.edge_between-edge-requires
edge_between-edge-requires c =
    let left = c.args.left.now in
    let i = c.loop-i.i in
    let a = c.index-left-i.result in
    let b = c.index-left-i-in-loop-i.result in
    record {
      joined = subst (λ (z : ℕ × ℕ). Contains (edges c.args.case.now.mesh.now) (pair (get_or left i a).0 z.1))
          (get_or_default left i a b c.loop-i-test.true) (c.requires.edges i a c.loop-i-test.true);
    }
