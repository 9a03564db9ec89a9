use Rattle.surf_surfaces.proofs.Common.{ℕ, None, length, get_or, ap, ◌∙◌, arith, length-map, Option, List}
use Rattle.surf_sheetcheck.specs.Labels.{shared_label}
use Rattle.surf_sheetcheck.proofs.Sharing.{no_label, forgotten}
use Rattle.surf_sheetcheck.proofs.labels.Labels.clear.Goals as goal

pub invariant_of-self : goal.invariant_of-self
invariant_of-self c =
    let s = c.self.inside in
    let size = length-map s.ids.items (shared_label s.rows.items) in
    let view = ap (λ (xs : List (Option ℕ)). length xs) c.self.view_is in
    λ v l ne. absurd (ne (no_label s.ids.items s.rows.items v l
    (ap (λ (xs : List (Option ℕ)). get_or xs v None) c.self.view_is ∙ c.requires.none v (omega (arith, l, size, view)))))

pub returns : goal.returns
returns c =
    let s = c.self.inside in
    let size = length-map s.ids.items (shared_label s.rows.items) in
    let view = ap (λ (xs : List (Option ℕ)). length xs) c.self.view_is in
    record {
      same = forgotten s.ids.items c.clear.new.self.items s.rows.items (λ v l. no_label s.ids.items s.rows.items v l
          (ap (λ (xs : List (Option ℕ)). get_or xs v None) c.self.view_is ∙ c.requires.none v (omega (arith, l, size, view)))) ∙ c.self.view_is;
    }
