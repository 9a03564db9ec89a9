-- Flags by edge number.
use Rattle.surf_treecheck.proofs.Common.{◌≡◌, ℕ, suc, ◌+◌, ◌<◌, Bool, true, false, ◌||◌, eqb, List, length, get_or, set, sym, ap, ◌∙◌, arith, inl, inr, get_or-set_same, get_or-set_other, cases_eq, eq-eqb, ne_eqb, any_below, Mesh, pair, pair_eq, edges, among, edge_count, ends, place_of, pair_eq-same, place_of-ends, ends-eq, list_any_from, AreFlags}

-- the flag of the edge between two vertices is on
pub flagged : (mesh : Mesh) (u v edge : ℕ) (flags : List Bool) → length flags ≡ edge_count mesh → edge < edge_count mesh →
    ends mesh edge ≡ pair u v → (e : ℕ) → e < edge_count mesh →
    get_or (set flags edge true) e false ≡ (pair_eq (ends mesh e) (pair u v) || get_or flags e false)
flagged mesh u v edge flags count edge_in same e e_in =
    let there : among (pair u v) (edges mesh) ≡ true =
    list_any_from (pair_eq (pair u v)) (edges mesh) (0, 0) edge edge_in (pair_eq-same (pair u v) (ends mesh edge) (sym same))
    in
    let number : place_of (pair u v) (edges mesh) ≡ edge =
    ap (λ q. place_of q (edges mesh)) (sym same) ∙ place_of-ends mesh edge edge_in in
    let test : pair_eq (ends mesh e) (pair u v) ≡ eqb e edge =
    ends-eq mesh (pair u v) e there e_in ∙ ap (eqb e) number in
    elim (cases_eq e edge) [
      | inl is ↦ rw (test, eq-eqb e edge is, is) (get_or-set_same flags edge true false (omega (arith, count, edge_in)))
      | inr not ↦ rw (test, ne_eqb e edge not) (get_or-set_other flags edge e true false not)
    ]

-- one more test
pub more_flags : (n k : ℕ) (test : ℕ → ℕ → Bool) (old new : List Bool) →
    AreFlags n (λ e. any_below k (test e)) old → length new ≡ n →
    ((e : ℕ) → e < n → get_or new e false ≡ (test e k || get_or old e false)) →
    AreFlags n (λ e. any_below (k + 1) (test e)) new
more_flags n k test old new are count step = record {
  count = count;
  each = λ e l. step e l ∙ ap (λ b. test e k || b) (are.each e l) ∙ ap (λ m. any_below m (test e)) one_more;
}
  where
    one_more : suc k ≡ k + 1
    one_more = omega arith
