-- Two sides more are mates.
use Rattle.surf_surfaces.proofs.Common.{◌≡◌, ℕ, ◌-◌, ◌<◌, ◌==◌, ◌||◌, true, false, Bool, List, [], ◌∷◌, ◌++◌, length, get_or, set, replicate, inl, inr, Option, Some, None, refl, sym, ap, ◌∙◌, arith, true≢false, cases_eq, eq-eqb, ne_eqb, or_left, or_right, list_any, Mesh, side_count}
use Rattle.std.proofs.lemmas.List.{length_push, get_or_push, length-set, get_or-set_same, get_or-set_other, length-replicate, get_or-replicate}
use Rattle.surf_surfaces.proofs.meshes.EdgeLaws.{list_any-append}
use Rattle.surf_soup.specs.Pairing.{EndsWith, AreMatedUpto, AreGreaterEnds}
use Rattle.surf_soup.proofs.PairSteps.{paired_none}

abbrev is_there : Option (ℕ × ℕ) → Bool
is_there None = false
is_there (Some p) = true

abbrev the_pair : Option (ℕ × ℕ) → ℕ × ℕ
the_pair None = (0, 0)
the_pair (Some p) = p

or_none : (b : Bool) → (b || (false || false)) ≡ b
or_none true = refl
or_none false = refl

pub greater_none : (count : ℕ) → AreGreaterEnds count [] (replicate count false)
greater_none count = record {
  size = length-replicate count false;
  marked = λ v lt. get_or-replicate count v false false (omega (arith, lt, length-replicate count false));
}

-- the greater end of one pair more
pub greater_push : (count : ℕ) (edges : List (ℕ × ℕ)) (marks : List Bool) (p : ℕ × ℕ) →
    AreGreaterEnds count edges marks → p.1 < count → AreGreaterEnds count (edges ++ p ∷ []) (set marks p.1 true)
greater_push count edges marks p are below = record {
  size = length-set marks p.1 true ∙ are.size;
  marked = λ v lt.
      let test = λ (q : ℕ × ℕ). q.1 == v in
      let more : list_any test (edges ++ p ∷ []) ≡ (list_any test edges || (test p || false)) =
      list_any-append test edges (p ∷ []) in
      let size = are.size in
      elim (cases_eq v p.1) [
        | inl is ↦
            let here : test p ≡ true = eq-eqb p.1 v (sym is) in
            ap (λ u. get_or (set marks p.1 true) u false) is
            ∙ get_or-set_same marks p.1 true false (omega arith)
            ∙ sym (more ∙ or_right (list_any test edges) (test p || false) (or_left (test p) false here))
        | inr ne ↦
            let other : test p ≡ false = ne_eqb p.1 v (λ e. ne (sym e)) in
            get_or-set_other marks p.1 v true false ne ∙ are.marked v lt
            ∙ sym (more ∙ ap (λ b. list_any test edges || (b || false)) other ∙ or_none (list_any test edges))
      ];
}

pub mated_none : (mesh : Mesh) (mate : List ℕ) → length mate ≡ side_count mesh →
    AreMatedUpto mesh 0 mate None (replicate mesh.vertices false)
mated_none mesh mate size = record {
  edge_list = [];
  first = [];
  edge_of = mate;
  paired = paired_none mesh [] [] mate mate refl refl size size;
  last_is = λ p. (λ h. absurd (let some = h.0 in omega arith), λ e. absurd (true≢false (sym (ap is_there e))));
  greater = greater_none mesh.vertices;
}

-- a list ends with the pair that is added to it
pub ends_with_push : (edges : List (ℕ × ℕ)) (p : ℕ × ℕ) → EndsWith (edges ++ p ∷ []) (Some p)
ends_with_push edges p q =
    let es = edges ++ p ∷ [] in
    let long = length_push edges p in
    let end : length es - 1 ≡ length edges = omega arith in
    let at : get_or es (length es - 1) (0, 0) ≡ p =
    ap (λ j. get_or es j (0, 0)) end ∙ get_or_push edges p (0, 0) (length edges) refl in
    (λ h. ap Some (sym at ∙ h.1), λ e. (omega arith, at ∙ ap the_pair e))
