use Rattle.surf_choice.proofs.Common.{ℕ, List, length, length-map, Signed, candidates, map-append, sym, ◌+◌, ◌≡◌, ◌++◌, ◌∷◌, [], refl, ap, ◌∙◌, subst, arith, length-append, numbers, Spanned, kept_after, IsAdmitted}
use Rattle.surf_choice.specs.declared.candidate.Candidate.{Candidate}
use Rattle.surf_choice.proofs.Sifted.{sifted_kept, sifted_out, sifted, as_many}
use Rattle.surf_choice.proofs.merging.sift.Goals as goal
use Rattle.surf_choice.proofs.merging.sift.Goals.{then-admit, else-admit}

pub loop-signed-init : goal.loop-signed-init
loop-signed-init c = record {
  sifting = record { rest = refl; are = c.requires.rows };
  keys = c.requires.keys;
  width = refl;
  room = omega arith;
  keys_room = omega arith;
}

pub push_reserved-requires : goal.push_reserved-requires
push_reserved-requires c =
    let old = c.loop-signed.rows.rows in
    let new = c.admit.new.self.rows in
    let a = c.if-admit.ensures.rows in
    let n = as_many c.loop-signed.kept.items old c.loop-signed.invariant.sifting.are in
    let m : length new ≡ length old + 1 = ap (λ (xs : List ℕ). length xs) a.new_is ∙ length-append old (a.row ∷ []) in
    omega (
      arith,
      n,
      m,
      c.law_of_echelon.ensures.few,
      c.admit.ensures.width,
      c.loop-signed.invariant.width,
      c.loop-signed.invariant.room,
      c.requires.room.0,
    )

pub push_reserved-requires-then-admit : goal.push_reserved-requires-then-admit
push_reserved-requires-then-admit c =
    let old = c.loop-signed.rows.rows in
    let new = c.admit.new.self.rows in
    let a = c.if-admit.ensures.rows in
    let n = as_many c.loop-signed.kept.items old c.loop-signed.invariant.sifting.are in
    let many : length c.loop-signed.keys.items ≡ length c.loop-signed.kept.items =
    ap (λ (xs : List Candidate). length xs) c.loop-signed.invariant.keys ∙ length-map c.loop-signed.kept.items (λ (k : Signed). k.candidate) in
    let m : length new ≡ length old + 1 = ap (λ (xs : List ℕ). length xs) a.new_is ∙ length-append old (a.row ∷ []) in
    omega (
      arith,
      n,
      many,
      m,
      c.law_of_echelon.ensures.few,
      c.admit.ensures.width,
      c.loop-signed.invariant.width,
      c.loop-signed.invariant.keys_room,
      c.requires.room.1,
    )

pub loop-signed-preserved : goal.loop-signed-preserved
loop-signed-preserved c =
    let s = c.loop-signed.invariant.sifting in
    let cs = c.args.others.now in
    let whole = kept_after c.args.kept.now.items cs in
    let kept = c.loop-signed.kept.items in
    let old = c.loop-signed.rows.rows in
    let new = c.admit.new.self.rows in
    let x = c.signed-item.result in
    elim c.if-admit.branch [
      | then-admit w ↦
          let items : c.if-admit.kept.items ≡ kept ++ x ∷ [] = rw w.kept-is (w.push_reserved.ensures.items ∙ ap (λ y. kept ++ y ∷ []) w.copy_of.ensures.same) in
          let free : Spanned numbers old x.signature → ⊥ = subst (λ n. Spanned numbers old n → ⊥) c.bits.ensures (rw w.if-admit.true at c.admit.ensures.sum) in
          let more : IsAdmitted old x.signature new = subst (λ n. IsAdmitted old n new) c.bits.ensures (rw w.if-admit.true at c.admit.ensures.rows) in
          record {
            sifting = sifted_kept whole cs kept c.if-admit.kept.items old new c.loop-signed.signed-index x s c.loop-signed-test.true c.signed-item.is free items more;
            keys = (rw w.keys-is w.push_reserved-then-admit.ensures.items) ∙ ap (λ ks. ks ++ x.candidate ∷ []) c.loop-signed.invariant.keys
                ∙ sym (ap candidates items ∙ map-append (λ (k : Signed). k.candidate) kept (x ∷ []));
            width = c.admit.ensures.width ∙ c.loop-signed.invariant.width;
            room = rw w.kept-is (omega (arith, w.push_reserved.ensures.capacity, c.loop-signed.invariant.room));
            keys_room = rw w.keys-is (omega (arith, w.push_reserved-then-admit.ensures.capacity, c.loop-signed.invariant.keys_room));
          }
      | else-admit w ↦
          let sum : Spanned numbers old x.signature = subst (Spanned numbers old) c.bits.ensures (rw w.if-admit.false at c.admit.ensures.sum) in
          let same : new ≡ old = rw w.if-admit.false at c.admit.ensures.rows in
          record {
            sifting = sifted_out whole cs kept c.if-admit.kept.items old new c.loop-signed.signed-index x s c.loop-signed-test.true c.signed-item.is sum (rw w.kept-is refl) same;
            keys = rw (w.keys-is, w.kept-is) c.loop-signed.invariant.keys;
            width = c.admit.ensures.width ∙ c.loop-signed.invariant.width;
            room = rw w.kept-is c.loop-signed.invariant.room;
            keys_room = rw w.keys-is c.loop-signed.invariant.keys_room;
          }
    ]

pub returns-clause-kept : goal.returns-clause-kept
returns-clause-kept c =
    sifted (kept_after c.args.kept.now.items c.args.others.now) c.args.others.now c.loop-signed.kept.items c.loop-signed.rows.rows
    c.loop-signed.signed-index c.loop-signed.invariant.sifting c.loop-signed-test.false
