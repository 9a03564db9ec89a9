use Rattle.surf_surfaces.proofs.Common.{◌≡◌, ◌≢◌, ℕ, get_or, set, ap, sym, subst, ◌∙◌, arith, bit_xor, get_or_default}
use Rattle.std.specs.Int.Bits.{xor_zero_l}
use Rattle.surf_signatures.specs.Tables.{Signed}
use Rattle.surf_base.specs.Tables.{at, nobody}
use Rattle.surf_sheetcheck.specs.Tables.{IsCleared}
use Rattle.surf_sheetcheck.specs.Serving.{IsTaken, IsKept}
use Rattle.surf_sheetcheck.proofs.TakenLaws.{set_taken, set_kept}
use Rattle.surf_sheetcheck.proofs.serving.serve_edge.Goals as goal

pub returns-then-slot-clause-taken : goal.returns-then-slot-clause-taken
returns-then-slot-clause-taken c =
    let case = c.args.case.now in
    let row = c.args.task.now.row.now in
    let left = c.args.left.now in
    let slots = case.slots.items in
    let e = c.args.e in
    let ready = c.requires.ready in
    let x = c.bits.result in
    let slot = c.index-slot.result.now in
    let is_at : slot ≡ at slots e =
    c.index-slot.ensures ∙ ap (λ i. get_or slots i slot) c.index.ensures
    ∙ get_or_default slots e slot 0 (omega (arith, c.requires.edge, ready.slots.count)) in
    let some : at slots e ≢ nobody = λ none. c.if-slot.true (is_at ∙ none) in
    let new_is : c.put.new.self ≡ record left { sets = set left.sets (at slots e) x } =
    c.put.ensures.put ∙ ap (λ (j : ℕ). record left { sets = set left.sets j x }) (c.new-then-slot.ensures ∙ is_at) in
    let old_is : c.add.new.self ≡ at left.sets (at slots e) =
    c.add.ensures ∙ ap (λ z. bit_xor z c.of.result) c.zero-set.ensures ∙ xor_zero_l c.of.result ∙ c.of.ensures.set
    ∙ ap (at left.sets) (c.new.ensures ∙ is_at) in
    let one = subst (λ n. IsCleared n c.range-from.result.1 c.add.new.self c.clear_within.new.set) c.range-from.ensures.from c.clear_within.ensures.cleared in
    let two = subst (λ n. IsCleared row.from n c.add.new.self c.clear_within.new.set) c.range-from.ensures.to one in
    let three = subst (λ n. IsCleared row.from row.to n c.clear_within.new.set) old_is two in
    let four = subst (IsCleared row.from row.to (at left.sets (at slots e))) (sym c.bits.ensures) three in
    subst (λ (s : Signed). IsTaken case row left s e) (sym new_is) (set_taken case ready row e c.requires.edge left x c.requires.lefts some four)

pub returns-then-slot-clause-kept : goal.returns-then-slot-clause-kept
returns-then-slot-clause-kept c =
    let case = c.args.case.now in
    let row = c.args.task.now.row.now in
    let left = c.args.left.now in
    let slots = case.slots.items in
    let e = c.args.e in
    let ready = c.requires.ready in
    let x = c.bits.result in
    let slot = c.index-slot.result.now in
    let is_at : slot ≡ at slots e =
    c.index-slot.ensures ∙ ap (λ i. get_or slots i slot) c.index.ensures
    ∙ get_or_default slots e slot 0 (omega (arith, c.requires.edge, ready.slots.count)) in
    let some : at slots e ≢ nobody = λ none. c.if-slot.true (is_at ∙ none) in
    let new_is : c.put.new.self ≡ record left { sets = set left.sets (at slots e) x } =
    c.put.ensures.put ∙ ap (λ (j : ℕ). record left { sets = set left.sets j x }) (c.new-then-slot.ensures ∙ is_at) in
    λ f lf ne. subst (λ (s : Signed). IsKept case left s f) (sym new_is) (set_kept case ready row e c.requires.edge left x c.requires.lefts some f lf ne)
