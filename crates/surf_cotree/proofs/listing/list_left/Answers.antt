use Rattle.surf_cotree.proofs.Common.{◌≡◌, ◌≤◌, ◌+◌, ◌∙◌, ◌++◌, ◌∷◌, [], List, ℕ, true, false, ap, length, arith, sym, subst, filter, range_with_len, is_unmarked, passing_few, passing_taken, passing_left}
use Rattle.surf_cotree.proofs.listing.list_left.Goals as goal
use Rattle.surf_cotree.proofs.listing.list_left.Goals.{then-is_unmarked, else-is_unmarked}

pub push_reserved-requires : goal.push_reserved-requires
push_reserved-requires c =
    let pass = is_unmarked c.args.first.now c.args.second.now in
    let e = c.loop-edge.edge in
    let few : length (filter pass (range_with_len 0 e)) ≤ e = passing_few pass 0 e in
    let listed : length c.loop-edge.left.items ≤ e = subst (λ (xs : List ℕ). length xs ≤ e) (sym c.loop-edge.invariant.listed) few in
    omega (arith, listed, c.loop-edge.invariant.room, c.requires.room, c.loop-edge-test.true)

pub loop-edge-preserved : goal.loop-edge-preserved
loop-edge-preserved c =
    let pass = is_unmarked c.args.first.now c.args.second.now in
    let e = c.loop-edge.edge in
    let inv = c.loop-edge.invariant in
    elim c.if-is_unmarked.branch [
      | then-is_unmarked w ↦
          let yes_pass : pass e ≡ true = sym c.is_unmarked.ensures.unmarked ∙ w.if-is_unmarked.true in
          let listed : w.push_reserved.new.self.items ≡ filter pass (range_with_len 0 (e + 1)) =
          w.push_reserved.ensures.items ∙ ap (λ (x : ℕ). c.loop-edge.left.items ++ x ∷ []) w.new.ensures ∙ ap (λ (xs : List ℕ). xs ++ e ∷ []) inv.listed ∙ sym (passing_taken pass e yes_pass) in
          rw w.left-is (record { listed = listed; room = omega (arith, inv.room, w.push_reserved.ensures.capacity) })
      | else-is_unmarked w ↦
          let no_pass : pass e ≡ false = sym c.is_unmarked.ensures.unmarked ∙ w.if-is_unmarked.false in
          rw w.left-is (record { listed = inv.listed ∙ sym (passing_left pass e no_pass); room = inv.room })
    ]
