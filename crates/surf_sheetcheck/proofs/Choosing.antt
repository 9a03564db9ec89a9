-- The least tight neighbour, link by link.
use Rattle.surf_surfaces.proofs.Common.{ℕ, ◌<◌, ◌≤◌, ◌≡◌, ◌+◌, ap, ◌∙◌, subst, sym, arith, inl, inr, List, length, true, cases_eq, Graph, joins}
use Rattle.surf_mesh.specs.Links.{link_at, IsRow}
use Rattle.surf_sheetcheck.specs.Searches.{IsTightIn}

module _ (g : Graph) (len dist : ℕ → ℕ) (v : ℕ) (links : List (ℕ × ℕ)) (row : IsRow g v links) (n w e : ℕ) (in_row : n < length links) (is : link_at links n ≡ (w, e)) where
  pub chosen_in : (w < g.nodes) × (e < g.edges) × (joins g v w e ≡ true)
  chosen_in = subst (λ (x : ℕ × ℕ). (x.0 < g.nodes) × (x.1 < g.edges) × (joins g v x.0 x.1 ≡ true)) is (row.neighbour_in n in_row, row.edge_in n in_row, row.joined n in_row)

  pub chosen_tight : dist w + len e ≡ dist v → (w < g.nodes) × IsTightIn g len dist v w e
  chosen_tight h = (chosen_in.0, record { edge_in = chosen_in.1; joined = chosen_in.2; is = h })

  pub chosen_least : (old new : ℕ) → ((i : ℕ) → i < n → dist (link_at links i).0 + len (link_at links i).1 ≡ dist v → old ≤ (link_at links i).0) → new ≤ old →
      (dist w + len e ≡ dist v → new ≤ w) → (i : ℕ) → i < n + 1 → dist (link_at links i).0 + len (link_at links i).1 ≡ dist v → new ≤ (link_at links i).0
  chosen_least old new before le here i l tight = elim (cases_eq i n) [
    | inl same ↦
        let at : link_at links i ≡ (w, e) = ap (link_at links) same ∙ is in
        let now : new ≤ w = here (subst (λ (x : ℕ × ℕ). dist x.0 + len x.1 ≡ dist v) at tight) in
        subst (λ (x : ℕ × ℕ). new ≤ x.0) (sym at) now
    | inr ne ↦ let was : old ≤ (link_at links i).0 = before i (omega arith) tight in omega (arith, was, le)
  ]

-- where all links were looked at
pub chosen_all : (g : Graph) (len dist : ℕ → ℕ) (v : ℕ) (links : List (ℕ × ℕ)) → IsRow g v links → (u n : ℕ) → length links ≤ n →
    ((i : ℕ) → i < n → dist (link_at links i).0 + len (link_at links i).1 ≡ dist v → u ≤ (link_at links i).0) →
    (w f : ℕ) → IsTightIn g len dist v w f → u ≤ w
chosen_all g len dist v links row u n all least w f tight =
    let (i, li, is) = row.whole f w tight.edge_in tight.joined in
    subst (λ (x : ℕ × ℕ). u ≤ x.0) is (least i (omega (arith, all, li))
    (subst (λ (x : ℕ × ℕ). dist x.0 + len x.1 ≡ dist v) (sym is) tight.is))
