use Rattle.surf_cotree.proofs.Common.{◌≡◌, ◌≤◌, ◌+◌, ◌*◌, ◌/◌, ◌%◌, ℕ, List, [], ◌∷◌, ◌++◌, slice_index, sym, ap, ◌∙◌, subst, add-zero, arith, div-mul-add, mod-mul-add, row_fits}
use Rattle.surf_cover.proofs.Common.{IsReadTo, tables_read_on, link_by, table_of}
use Rattle.surf_cover.proofs.Covering.{some_set}
use Rattle.surf_cover.proofs.Stepping.{step_at}
use Rattle.surf_cover.proofs.reading.read_off.Goals as goal

pub loop-node-init : goal.loop-node-init
loop-node-init c =
    let n = c.args.network.now in
    let base = c.args.base in
    let set = c.args.set in
    let at : c.number.result ≡ base = c.number.ensures in
    let fits : base * n.sets + n.sets ≤ n.mesh.now.vertices * n.sets = row_fits base n.sets n.mesh.now.vertices n.sets c.requires.base (omega arith) in
    let from : c.number.result * n.sets + set ≡ base * n.sets + set = ap (λ v. v * n.sets + set) at in
    record {
      last = ap (λ v. v * n.sets) at;
      inside = omega (arith, from, fits, c.requires.set);
      read = λ d by. (
        [],
        c.in_ok-push.ensures.items ∙ ap (λ (xs : List ℕ). xs ++ base ∷ []) c.requires.none,
        (
          sym (ap (λ k. k / n.sets) from ∙ div-mul-add base n.sets set c.requires.set),
          sym (ap (λ k. k % n.sets) from ∙ mod-mul-add base n.sets set c.requires.set),
        ),
      );
    }

pub least_tight-requires-clause-node : goal.least_tight-requires-clause-node
least_tight-requires-clause-node c = c.loop-node.invariant.inside

pub loop-node-smaller : goal.loop-node-smaller
loop-node-smaller c =
    let n = c.args.network.now in
    let can = c.requires.valid in
    let u = c.least_tight.result.0 in
    let node = c.loop-node.node in
    let (d, by) = c.requires.certified in
    (step_at n.mesh.now n.lengths.now n.sets n.signs.now c.args.distance.now c.args.base can.surface c.requires.positive can.few c.loop-node.node
    u (link_by n.mesh.now n.sets (slice_index n.signs.now) (node / n.sets) (node % n.sets) c.least_tight.result.1).1 c.loop-node.invariant.inside (λ same. c.loop-node-test.true (same ∙ sym c.loop-node.invariant.last)) c.least_tight.ensures.least d by).1

pub loop-node-preserved : goal.loop-node-preserved
loop-node-preserved c =
    let n = c.args.network.now in
    let can = c.requires.valid in
    let u = c.least_tight.result.0 in
    let node = c.loop-node.node in
    let w : c.new.result ≡ u / n.sets = c.new.ensures in
    let step = step_at n.mesh.now n.lengths.now n.sets n.signs.now c.args.distance.now c.args.base can.surface c.requires.positive can.few c.loop-node.node
    u (link_by n.mesh.now n.sets (slice_index n.signs.now) (node / n.sets) (node % n.sets) c.least_tight.result.1).1 c.loop-node.invariant.inside (λ same. c.loop-node-test.true (same ∙ sym c.loop-node.invariant.last)) c.least_tight.ensures.least in
    record {
      last = c.loop-node.invariant.last;
      inside = (step c.requires.certified.0 c.requires.certified.1).0.inside;
      read = λ d by.
          let table = table_of n.sets c.args.distance.now in
          let back = (step d by).0 in
          let (before, items, read) = c.loop-node.invariant.read d by in
          let more : c.push-in-loop-node.new.self.items ≡ c.loop-node.list.items ++ c.new.result ∷ [] = c.in_ok-push-2.ensures.items in
          let on = (tables_read_on n.mesh.now n.lengths.now d table).goes_on c.args.base c.args.set before (node / n.sets) (node % n.sets) (u / n.sets) read back.least in (
            before ++ (u / n.sets) ∷ [],
            more ∙ ap (λ (xs : List ℕ). xs ++ c.new.result ∷ []) items ∙ ap (λ k. c.args.base ∷ (before ++ k ∷ [])) w,
            subst (λ k. IsReadTo n.mesh.now n.lengths.now d table c.args.base c.args.set (before ++ (u / n.sets) ∷ []) (u / n.sets) k) (sym back.rest) on,
          );
    }

pub returns : goal.returns
returns c =
    let n = c.args.network.now in
    let base = c.args.base in
    let node = c.loop-node.node in
    let at : node ≡ base * n.sets + 0 = c.loop-node-test.false ∙ c.loop-node.invariant.last ∙ sym (add-zero (base * n.sets)) in
    record {
      read = λ d by.
          let table = table_of n.sets c.args.distance.now in
          let (before, items, read) = c.loop-node.invariant.read d by in
          let some = some_set n.mesh.now d n.sets n.signs.now by.signed in
          let vertex : node / n.sets ≡ base = ap (λ k. k / n.sets) at ∙ div-mul-add base n.sets 0 some in
          let none : node % n.sets ≡ 0 = ap (λ k. k % n.sets) at ∙ mod-mul-add base n.sets 0 some in
          let back : IsReadTo n.mesh.now n.lengths.now d table base c.args.set before base 0 =
          subst (λ s. IsReadTo n.mesh.now n.lengths.now d table base c.args.set before base s) none
          (subst (λ v. IsReadTo n.mesh.now n.lengths.now d table base c.args.set before v (node % n.sets)) vertex read) in
          (before, items, (tables_read_on n.mesh.now n.lengths.now d table).ends base c.args.set before base back);
    }
