use Rattle.surf_choice.proofs.Common.{ℕ, List, ◌≡◌, ◌<◌, take, ◌∙◌, subst, IfSome, numbers, Spanned, number, xor_zero_l, Rows}
use Rattle.surf_choice.proofs.Admitted.{words_enough}
use Rattle.surf_choice.proofs.echelon.Echelon.reach.Goals as goal

pub add_to-requires : goal.add_to-requires
add_to-requires c = record {
  fits = words_enough c.args.self.now.width c.args.set.now c.law_of_echelon.ensures.width c.requires.small;
}

pub returns-clause-least : goal.returns-clause-least
returns-clause-least c =
    let set = c.args.set.now in
    let old : number c.add_to.new.words ≡ set = c.add_to.ensures.sum ∙ xor_zero_l set in
    subst (λ (r : Rows). IfSome c.used_rows.result (λ n. (m : ℕ) → m < n → Spanned numbers (take m r.rows) set → ⊥)) c.self.view_is
    (subst (λ (xs : List ℕ). IfSome c.used_rows.result (λ n. (m : ℕ) → m < n → Spanned numbers (take m xs) set → ⊥)) c.deref.ensures.value
    (subst (λ s. IfSome c.used_rows.result (λ n. (m : ℕ) → m < n → Spanned numbers (take m c.deref.result.now) s → ⊥)) old
    c.used_rows.ensures.least))
