use Rattle.surf_cotree.proofs.Common.{◌≡◌, ◌<◌, ◌≤◌, ◌+◌, ◌*◌, ◌/◌, ◌%◌, ℕ, List, length, bit_xor, subst, sym, ap, ◌∙◌, arith, inl, inr, cases_eq, cases_lt, numbers, div-mul-add, mod-mul-add, row_fits, add_zero, at}
use Rattle.surf_cover.proofs.Common.{far, distance_at, IsDivided, IsOnRound}
use Rattle.surf_cover.proofs.rounds.start_by.Goals as goal

pub loop-node-init : goal.loop-node-init
loop-node-init c =
    let t = c.args.desk.now in
    let set = c.args.set in
    let base = c.args.base in
    let own : c.distance-length.result ≡ distance_at t base set = c.distance-length.ensures.distance in
    let some : 0 < t.sets = omega (arith, c.requires.set) in
    let none : distance_at t base 0 ≡ 0 = c.requires.none in
    let rest : distance_at t base (bit_xor set 0) ≡ distance_at t base set =
    ap (distance_at t base) (add_zero numbers set) in
    record {
      inside = omega arith;
      on_round = (0, some, omega (arith, own, none, rest));
      least = λ i l. absurd (omega arith);
    }

pub lesser_by-vertex-requires-clause-node : goal.lesser_by-vertex-requires-clause-node
lesser_by-vertex-requires-clause-node c =
    let t = c.args.desk.now in
    let items = c.settled-node-items.result.now in
    let i = c.loop-node.node-index in
    let same : items ≡ t.settled = c.settled-node-items.ensures.settled in
    let long = ap (λ (xs : List ℕ). length xs) same in
    let inside = c.requires.listed.inside i (omega (arith, c.loop-node-test.true, long)) in
    let here : at items i < length t.distances = subst (λ (xs : List ℕ). at xs i < length t.distances) (sym same) inside.0 in
    omega (arith, here, c.requires.nodes)

pub loop-node-preserved : goal.loop-node-preserved
loop-node-preserved c =
    let t = c.args.desk.now in
    let set = c.args.set in
    let n = c.distance-length.result in
    let old = c.loop-node.invariant in
    let by = c.lesser_by-vertex.ensures in
    let items = c.settled-node-items.result.now in
    let vertex = c.lesser_by-vertex.result in
    record {
      inside = omega (arith, by.low, old.inside);
      on_round = elim by.one [
        | inl same ↦ subst (IsOnRound t set n) (sym same) old.on_round
        | inr on ↦ on
      ];
      least = λ i l divided. elim (cases_eq i c.loop-node.node-index) [
        | inl own ↦
            subst (λ j. vertex ≤ at items j / t.sets) (sym own)
            (by.here (subst (λ j. IsDivided t set n (at items j / t.sets) (at items j % t.sets)) own divided))
        | inr ne ↦
            let before = old.least i (omega (arith, l, ne)) divided in
            omega (arith, by.low, before)
      ];
    }

pub returns : goal.returns
returns c =
    let t = c.args.desk.now in
    let set = c.args.set in
    let n = c.distance-length.result in
    let i = c.loop-node.invariant in
    let listed = c.requires.listed in
    let same : c.settled-node-items.result.now ≡ t.settled = c.settled-node-items.ensures.settled in
    let found : n ≡ far → ⊥ = c.if-length.false in
    record {
      start = record {
        length_is = c.distance-length.ensures.distance;
        found = found;
        on_round = i.on_round;
        start_in = omega (arith, i.inside, c.requires.base);
        least = λ y (part, part_in, sum). elim (cases_lt y t.vertices) [
          | inr past ↦ omega (arith, past, i.inside, c.requires.base)
          | inl y_in ↦
              let adds : distance_at t y part + distance_at t y (bit_xor set part) ≡ n = sum in
              let node = y * t.sets + part in
              let fits : y * t.sets + t.sets ≤ t.vertices * t.sets = row_fits y t.sets t.vertices t.sets y_in (omega arith) in
              let (k, k_in, there) = listed.all node (omega (arith, fits, part_in, c.requires.nodes))
              (λ e. absurd (found (omega (arith, adds, e)))) in
              let v_is : at t.settled k / t.sets ≡ y = ap (λ n. n / t.sets) there ∙ div-mul-add y t.sets part part_in in
              let p_is : at t.settled k % t.sets ≡ part = ap (λ n. n % t.sets) there ∙ mod-mul-add y t.sets part part_in in
              let here : IsDivided t set n (at t.settled k / t.sets) (at t.settled k % t.sets) =
              subst (λ v. IsDivided t set n v (at t.settled k % t.sets)) (sym v_is)
              (subst (IsDivided t set n y) (sym p_is) sum) in
              let low : c.loop-node.vertex ≤ at t.settled k / t.sets =
              (rw same at i.least) k (omega (arith, k_in, c.loop-node-test.false, ap (λ (xs : List ℕ). length xs) same)) here in
              omega (arith, v_is, low)
        ];
      };
    }
