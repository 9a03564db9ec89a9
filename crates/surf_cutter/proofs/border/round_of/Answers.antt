use Rattle.surf_slit.proofs.Common.{◌≡◌, ℕ, replicate, ap, sym, ◌∙◌, subst, arith, rules, with_items_is}
use Rattle.surf_cutter.proofs.Common.{nobody, AreRims, AreReaches, sides_of}
use Rattle.surf_cutter.proofs.border.round_of.Goals as goal

pub fill_rims-requires : goal.fill_rims-requires
fill_rims-requires c =
    let none : (ℕ × ℕ) × (ℕ × ℕ) = ((nobody, 0), (nobody, 0)) in
    let own : c.deref_mut.result.now ≡ replicate c.copies-copies.result none = search rules in
    own ∙ ap (λ n. replicate n none) c.copies-copies.ensures

pub go_round-requires-clause-rims : goal.go_round-requires-clause-rims
go_round-requires-clause-rims c =
    let table = c.fill_rims.new.rims in
    let own : c.deref.result.now ≡ table = c.deref.ensures.value ∙ with_items_is c.in_ok-rims.rims table (omega (arith, c.fill_rims.auto.rims, c.deref_mut.ensures.len)) in
    subst (λ rims. AreRims c.args.border.now (sides_of rims)) (sym own) c.fill_rims.ensures.rims

pub go_round-requires-clause-reaches : goal.go_round-requires-clause-reaches
go_round-requires-clause-reaches c =
    let table = c.fill_rims.new.rims in
    let own : c.deref.result.now ≡ table = c.deref.ensures.value ∙ with_items_is c.in_ok-rims.rims table (omega (arith, c.fill_rims.auto.rims, c.deref_mut.ensures.len)) in
    subst (AreReaches c.args.border.now) (sym own) c.fill_rims.ensures.reaches
