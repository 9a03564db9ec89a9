use Rattle.surf_cert.proofs.Common.{◌≡◌, ◌<◌, ℕ, List, All, AllPairs, Contains, true, false, get_or, subst, sym, ap, ◌∙◌, arith, get_or_default, pair, pair_lt, among, edges, edge_count, ends, contains_from_among}
use Rattle.surf_class.proofs.Common.{IsNoPair}
use Rattle.surf_class.proofs.LeastFaults.{no_pair_at, none_found}
use Rattle.surf_class.proofs.Pairs.{pair_ordered}
use Rattle.surf_class.proofs.check.first_stranger.Goals as goal

pub returns-then-is_none : goal.returns-then-is_none
returns-then-is_none c =
    let mesh = c.args.mesh.now in
    let items = c.pairs-u-items.result.now in
    let same : items ≡ c.args.list.now = c.pairs-u-items.ensures.list in
    let rises : AllPairs (λ a b. pair_lt a b ≡ true) items =
    subst (λ (xs : List (ℕ × ℕ)). AllPairs (λ a b. pair_lt a b ≡ true) xs) (sym same) c.pairs-u-items.ensures.rises in
    let all_ordered : All (λ a. a.0 < a.1) items =
    subst (λ (xs : List (ℕ × ℕ)). All (λ a. a.0 < a.1) xs) (sym same) c.pairs-u-items.ensures.ordered in
    let p = c.loop-u-item.result in
    let ordered : p.0 < p.1 =
    subst (λ (q : ℕ × ℕ). q.0 < q.1) (sym c.loop-u-item.is) (all_ordered c.loop-u.u-index p c.loop-u-test.true) in
    let none : among (pair p.0 p.1) (edges mesh) ≡ false =
    none_found c.find_edge.result (among (pair p.0 p.1) (edges mesh) ≡ false) (λ e. (e < edge_count mesh) × (ends mesh e ≡ pair p.0 p.1)) c.if-is_none.ensures c.find_edge.ensures in
    record {
      pair = subst (λ (xs : List (ℕ × ℕ)). IsNoPair mesh xs p.0 p.1) same
          (no_pair_at mesh items c.loop-u.u-index p rises c.loop-u-test.true c.loop-u-item.is
          (ap (λ q. among q (edges mesh)) (sym (pair_ordered p ordered)) ∙ none) c.loop-u.invariant);
    }

pub returns : goal.returns
returns c =
    let mesh = c.args.mesh.now in
    let items = c.pairs-u-items.result.now in
    let all : All (Contains (edges mesh)) items = λ k d l.
    contains_from_among (get_or items k d) (edges mesh)
    (ap (λ q. among q (edges mesh)) (get_or_default items k d (0, 0) l)
    ∙ c.loop-u.invariant k (omega (arith, l, c.loop-u-test.false))) in
    record { pair = subst (λ (xs : List (ℕ × ℕ)). All (Contains (edges mesh)) xs) c.pairs-u-items.ensures.list all }
