-- Trimming by the greatest goes on to its end.
use Rattle.std.proofs.Common.{◌≡◌, ℕ, zero, suc, ◌<◌, ◌≤◌, ◌⊎◌, inl, inr, sym, subst, ap, ◌∙◌, true, not, ◌&&◌, eqb, List, ◌∷◌, arith, ne_eqb}
use Rattle.surf_surfaces.proofs.Common.{cases_eq, cases_lt, ◌≢◌, Chain, count_below-same, count_below-without, Mesh, edge_count, IsSurface, degree_in}
use Rattle.surf_opening.specs.Laws.{TellsCut, cut_count, without}
use Rattle.surf_opening.specs.Named.{IsTrimmedByGreatest}
use Rattle.surf_opening.specs.Side.{Side}
use Rattle.surf_opening.proofs.counts.CutCounts.{leaf_counted, trimming_by_greatest_goes_on}
use Rattle.surf_opening.proofs.cuts.CutLists.{edge_told}

-- the greatest number below n that passes, or none does
greatest_below : (n : ℕ) (P : ℕ → Type 0) → ((k : ℕ) → P k ⊎ (P k → ⊥)) →
    ((k : ℕ) × (k < n) × P k × ((l : ℕ) → l < n → P l → l ≤ k)) ⊎ ((k : ℕ) → k < n → P k → ⊥)
greatest_below zero P test = inr (λ k h p. omega arith)
greatest_below (suc n) P test = elim (test n) [
  | inl p ↦ inl (n, omega arith, p, λ l h q. omega arith)
  | inr not_n ↦ elim (greatest_below n P test) [
    | inl found ↦
        let h : found.0 < n = found.1 in
        inl (
          found.0,
          omega arith,
          found.2,
          λ l l_in q. elim (cases_eq l n) [
            | inl same ↦ absurd (not_n (subst P same q))
            | inr differ ↦ found.3 l (omega arith) q
          ],
        )
    | inr none ↦ inr (λ k h p. elim (cases_eq k n) [
      | inl same ↦ not_n (subst P same p)
      | inr differ ↦ none k (omega arith) p
    ])
  ]
]

eqb-turned : (a b : ℕ) → eqb a b ≡ eqb b a
eqb-turned a b = elim (cases_eq a b) [
  | inl same ↦ ap (λ b. eqb a b) (sym same) ∙ ap (λ b. eqb b a) same
  | inr differ ↦ ne_eqb a b differ ∙ sym (ne_eqb b a (λ e. differ (sym e)))
]

-- one edge less is cut
one_less : (mesh : Mesh) (cut : Chain) (e : ℕ) → e < edge_count mesh → cut e ≡ true →
    cut_count mesh cut ≡ suc (cut_count mesh (without cut e))
one_less mesh cut e h held =
    count_below-without (edge_count mesh) e cut h held
    ∙ ap suc (count_below-same (edge_count mesh) (λ k. cut k && not (eqb e k)) (without cut e)
    (λ k l. ap (λ b. cut k && not b) (eqb-turned e k)))

-- a cut that is trimmed to its end
pub record IsTrimmedOut (mesh : Mesh) (list : List (ℕ × ℕ)) : Type 0 where
  pub uncut : List (ℕ × ℕ)
  pub cut : Chain
  pub trimmed : IsTrimmedByGreatest (Side mesh) list uncut
  pub told : TellsCut mesh uncut cut
  pub ended : (cut_count mesh cut ≤ 2) ⊎ ((v : ℕ) → v < mesh.vertices → degree_in mesh cut v ≢ 1)

pub trim_on : {mesh : Mesh} (surface : IsSurface mesh) (list : List (ℕ × ℕ)) (steps : ℕ) (uncut : List (ℕ × ℕ))
    (cut : Chain) →
    IsTrimmedByGreatest (Side mesh) list uncut → TellsCut mesh uncut cut → cut_count mesh cut ≤ steps →
    IsTrimmedOut mesh list
trim_on {mesh} surface list zero uncut cut trimmed told few =
    record { uncut = uncut; cut = cut; trimmed = trimmed; told = told; ended = inl (omega arith) }
trim_on {mesh} surface list (suc steps) uncut cut trimmed told few = elim (cases_lt 2 (cut_count mesh cut)) [
  | inr small ↦ record { uncut = uncut; cut = cut; trimmed = trimmed; told = told; ended = inl small }
  | inl many ↦ elim (greatest_below mesh.vertices (λ v. degree_in mesh cut v ≡ 1)
      (λ v. cases_eq (degree_in mesh cut v) 1)) [
        | inr none ↦ record { uncut = uncut; cut = cut; trimmed = trimmed; told = told; ended = inr none }
        | inl found ↦
            let p = found.0 in
            let leaf = leaf_counted surface uncut cut told p found.2 in
            let e = edge_told surface uncut cut told p leaf.end (leaf.face, leaf.cut) in
            let step = trimming_by_greatest_goes_on mesh list uncut cut e.0 p leaf.end surface trimmed told e.1 e.3 e.2
            found.2 (omega arith) found.3 in
            let less : cut_count mesh cut ≡ suc (cut_count mesh (without cut e.0)) = one_less mesh cut e.0 e.1 e.3 in
            trim_on surface list steps ((p, leaf.end) ∷ uncut) (without cut e.0) step.0 step.1 (omega arith)
      ]
]

pub trim_all : {mesh : Mesh} (surface : IsSurface mesh) (list : List (ℕ × ℕ)) (cut : Chain) → TellsCut mesh list cut →
    IsTrimmedOut mesh list
trim_all {mesh} surface list cut told =
    trim_on surface list (cut_count mesh cut) list cut Rattle.surf_opening.specs.Named.whole told (omega arith)
