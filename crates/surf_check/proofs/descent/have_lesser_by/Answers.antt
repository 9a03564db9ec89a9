use Rattle.surf_surfaces.proofs.Common.{◌≡◌, ◌<◌, ◌==◌, ◌∙◌, ℕ, List, Bool, true, false, length, get_or, sym, ap, arith, list_any, MatchBool, true≢false, length-replicate, get_or_default, ends}
use Rattle.surf_surfaces.proofs.meshes.CellLaws.{ends_below}
use Rattle.surf_check.specs.Descent.{HaveLesserNeighbours, is_greater_end}
use Rattle.surf_check.proofs.descent.have_lesser_by.Goals as goal

pub mark_greater_ends-requires-clause-inside : goal.mark_greater_ends-requires-clause-inside
mark_greater_ends-requires-clause-inside c = λ k d lt.
    let mesh = c.args.soup.now in
    let size : length c.args.marked.now ≡ mesh.vertices = ap length c.requires.none ∙ length-replicate mesh.vertices false in
    let is : get_or c.args.pairs.now k d ≡ ends mesh k = get_or_default c.args.pairs.now k d (0, 0) lt ∙ ap (λ (xs : List (ℕ × ℕ)). get_or xs k (0, 0)) c.requires.edges in
    let below = ends_below mesh c.law_of_soup.ensures.mesh k (omega (arith, lt, ap length c.requires.edges)) in
    let high = below.1 in
    let same : (get_or c.args.pairs.now k d).1 ≡ (ends mesh k).1 = ap (λ (p : ℕ × ℕ). p.1) is in
    omega (arith, high, same, size)

turned : (all : Bool) (P Q P' Q' : Type 0) → (P → P') → (Q → Q') → MatchBool all P Q → MatchBool all P' Q'
turned true P Q P' Q' f g h = f h
turned false P Q P' Q' f g h = g h

pub returns : goal.returns
returns c =
    let mesh = c.args.soup.now in
    let marked = c.mark_greater_ends.new.marked in
    let size : length marked ≡ mesh.vertices = c.mark_greater_ends.ensures.size ∙ (ap length c.requires.none ∙ length-replicate mesh.vertices false) in
    let marks : (v : ℕ) → v < mesh.vertices → get_or marked v false ≡ is_greater_end mesh v = λ v lt.
    c.mark_greater_ends.ensures.marks v (omega (arith, lt, size)) ∙ ap (list_any (λ (p : ℕ × ℕ). p.1 == v)) c.requires.edges in
    turned c.are_set_behind_first.result ((v : ℕ) → 0 < v → v < length marked → get_or marked v false ≡ true)
    ((v : ℕ) × (0 < v) × (v < length marked) × (get_or marked v false ≡ false))
    (HaveLesserNeighbours mesh) (HaveLesserNeighbours mesh → ⊥)
    (λ all v some lt. sym (marks v lt) ∙ all v some (omega (arith, lt, size)))
    (λ out all. true≢false (sym (all out.0 out.1 (omega (arith, out.2, size))) ∙ (sym (marks out.0 (omega (arith, out.2, size))) ∙ out.3)))
    c.are_set_behind_first.ensures
