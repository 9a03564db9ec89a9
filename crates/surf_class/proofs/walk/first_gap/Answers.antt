use Rattle.surf_surfaces.proofs.Common.{◌≡◌, ◌<◌, ◌+◌, false, sym, arith, inl, inr, cases_lt, pair, among, edges, edge_count, ends}
use Rattle.surf_class.proofs.LeastFaults.{none_found, some_found}
use Rattle.surf_class.proofs.Gaps.{gap_at, gap_none, there_is}
use Rattle.surf_class.proofs.walk.first_gap.Goals as goal

pub returns-then-is_none : goal.returns-then-is_none
returns-then-is_none c =
    let mesh = c.args.mesh.now in
    let list = c.args.list.now in
    let i = c.loop-i.i in
    let p = pair c.index-list-i.result c.index-list-i-in-loop-i.result in
    let none : among p (edges mesh) ≡ false =
    none_found c.find_edge.result (among p (edges mesh) ≡ false) (λ e. (e < edge_count mesh) × (ends mesh e ≡ p)) c.if-is_none.ensures c.find_edge.ensures in
    record {
      place = sym (gap_at mesh list i c.index-list-i.result c.index-list-i-in-loop-i.result c.loop-i.auto.i c.loop-i-test.true
          c.index-list-i.is c.index-list-i-in-loop-i.is c.loop-i.invariant none);
    }

pub loop-i-preserved : goal.loop-i-preserved
loop-i-preserved c = λ k l.
    let mesh = c.args.mesh.now in
    let list = c.args.list.now in
    let i = c.loop-i.i in
    elim (cases_lt (k + 1) i) [
      | inl below ↦ c.loop-i.invariant k below
      | inr above ↦
          let p = pair c.index-list-i.result c.index-list-i-in-loop-i.result in
          let found = some_found c.find_edge.result (among p (edges mesh) ≡ false) (λ e. (e < edge_count mesh) × (ends mesh e ≡ p)) c.if-is_none.ensures c.find_edge.ensures in
          let at : i ≡ k + 1 = omega (arith, l, above) in
          there_is mesh list i k c.index-list-i.result c.index-list-i-in-loop-i.result found.0 at c.loop-i-test.true
          c.index-list-i.is c.index-list-i-in-loop-i.is found.1.0 found.1.1
    ]

pub returns : goal.returns
returns c = record {
  place = sym (gap_none c.args.mesh.now c.args.list.now (λ k l. c.loop-i.invariant k (omega (arith, l, c.loop-i-test.false))));
}
