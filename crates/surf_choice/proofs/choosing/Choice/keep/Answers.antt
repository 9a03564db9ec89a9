use Rattle.surf_choice.proofs.Common.{◌<◌, ◌^◌, [], take, refl, sym, ap, ◌∙◌, subst, arith, take-map, Signed, Chosen, signed_earlier, signatures, Rows, AreRowsOf}
use Rattle.surf_choice.proofs.Changed.{part_small, front_small, kept_after_small}
use Rattle.surf_choice.proofs.Fronts.{rows_front}
use Rattle.surf_choice.proofs.Sifted.{AreSmall, all_merged, as_many}
use Rattle.surf_choice.proofs.choosing.Choice.keep.Goals as goal

pub sift-requires-clause-small : goal.sift-requires-clause-small
sift-requires-clause-small c =
    let t = c.self.inside in
    let P : Signed → Type 0 = λ s. s.signature < 2 ^ t.width in
    let offered : AreSmall t.width c.args.offered.now =
    subst (λ (k : Chosen). AreSmall k.width c.args.offered.now) (sym c.self.view_is) c.requires.small in
    let merged : AreSmall t.width c.merge.new.merged.items =
    subst (AreSmall t.width) (sym c.merge.ensures.merged)
    (all_merged signed_earlier P _ _ (part_small P c.in-Some.change.place c.deref-3.result.now t.kept.items c.deref-3.ensures.value c.self.invariant.4)
    (part_small P c.in-Some.change.fresh c.args.offered.now c.args.offered.now refl offered)) in
    let wide = ap (λ (r : Rows). r.width) c.truncate-2.ensures.rows ∙ c.self.invariant.0 in
    subst (λ w. AreSmall w c.deref-4.result.now) (sym wide) (subst (AreSmall t.width) (sym c.deref-4.ensures.value) merged)

pub sift-requires-clause-rows : goal.sift-requires-clause-rows
sift-requires-clause-rows c =
    let t = c.self.inside in
    let n = c.in-Some.change.place in
    rw (c.truncate-2.ensures.rows, c.truncate.ensures.items)
    (subst (AreRowsOf (take n t.rows.rows)) (take-map (λ (s : Signed). s.signature) n t.kept.items)
    (rows_front n [] t.rows.rows (signatures t.kept.items) c.self.invariant.5))

pub invariant_of-self-2 : goal.invariant_of-self-2
invariant_of-self-2 c =
    let t = c.self.inside in
    let P : Signed → Type 0 = λ s. s.signature < 2 ^ t.width in
    let offered : AreSmall t.width c.args.offered.now =
    subst (λ (k : Chosen). AreSmall k.width c.args.offered.now) (sym c.self.view_is) c.requires.small in
    let merged : AreSmall t.width c.merge.new.merged.items =
    subst (AreSmall t.width) (sym c.merge.ensures.merged)
    (all_merged signed_earlier P _ _ (part_small P c.in-Some.change.place c.deref-3.result.now t.kept.items c.deref-3.ensures.value c.self.invariant.4)
    (part_small P c.in-Some.change.fresh c.args.offered.now c.args.offered.now refl offered)) in
    let front : AreSmall t.width c.truncate.new.self.items =
    subst (AreSmall t.width) (sym c.truncate.ensures.items) (front_small P c.in-Some.change.place t.kept.items c.self.invariant.4) in
    let wide = c.sift.ensures.width ∙ ap (λ (r : Rows). r.width) c.truncate-2.ensures.rows ∙ c.self.invariant.0 in
    let many = as_many c.sift.new.kept.items c.sift.new.rows.rows c.sift.ensures.rows in (
      wide,
      omega (arith, many, wide, c.law_of_echelon.ensures.few),
      omega (arith, c.sift.ensures.room.0, c.truncate.ensures.capacity, c.self.invariant.2),
      c.self.invariant.3,
      subst (AreSmall t.width) (sym c.sift.ensures.kept)
          (kept_after_small P c.truncate.new.self.items c.deref-4.result.now front (subst (AreSmall t.width) (sym c.deref-4.ensures.value) merged)),
      c.sift.ensures.rows,
      c.sift.ensures.keys,
      omega (arith, c.sift.ensures.room.1, c.truncate-3.ensures.capacity, c.self.invariant.7),
    )

pub sift-requires-clause-keys : goal.sift-requires-clause-keys
sift-requires-clause-keys c =
    let t = c.self.inside in
    let n = c.in-Some.change.place in
    rw (c.truncate-3.ensures.items, c.truncate.ensures.items)
    (ap (take n) c.self.invariant.6 ∙ take-map (λ (s : Signed). s.candidate) n t.kept.items)
