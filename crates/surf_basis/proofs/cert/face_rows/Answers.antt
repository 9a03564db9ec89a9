use Rattle.surf_basis.proofs.Common.{dual_rows_of, IsGreedy, ◌<◌, ◌∙◌, map, sym, ap, subst, ends, some_vertex, CotreeTables, cotree_of}
use Rattle.surf_basis.proofs.cert.face_rows.Goals as goal

pub greedy-requires-clause-base : goal.greedy-requires-clause-base
greedy-requires-clause-base c = subst (λ n. n < c.args.mesh.now.vertices) (sym c.new.ensures) (some_vertex c.args.mesh.now c.law_of_surface.ensures.surface)

pub returns : goal.returns
returns c =
    let mesh = c.args.mesh.now in
    let lengths = c.args.lengths.now in
    let t = c.greedy.new.self in
    record {
      rows = record {
        tables = t;
        greedy = subst (λ b. IsGreedy mesh lengths b t) c.new.ensures c.greedy.ensures.greedy;
        dual_is = c.in_ok-dual.ensures.rows ∙ ap (λ (x : CotreeTables). dual_rows_of mesh (cotree_of x)) c.cotree.ensures.cotree;
        left_is = c.in_ok-left.ensures.pairs ∙ ap (λ (x : CotreeTables). map (ends mesh) x.left) c.cotree-2.ensures.cotree;
      };
    }
