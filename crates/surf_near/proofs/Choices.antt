-- The choice among the links of a vertex, link by link.
use Rattle.surf_near.proofs.Common.{ℕ, ◌<◌, ◌≤◌, ◌≡◌, ◌≢◌, ◌+◌, ◌⊎◌, min, refl, sym, ap, ◌∙◌, subst, arith, inl, inr, List, length, set, get_or-set_same, get_or-set_other, cases_eq, cases_lt, Graph, link_at, IsRow, nobody, at, IsTight, never, IsChoice}
use Rattle.surf_tree.proofs.Choosing.{chosen_tight}

-- the lesser of two numbers
pub min_parts : (a b m : ℕ) → m ≡ min a b → (m ≤ a) × (m ≤ b) × ((m ≡ a) ⊎ (m ≡ b))
min_parts a b m is = elim (cases_lt a b) [
  | inl l ↦ let e : m ≡ a = omega arith in (omega arith, omega arith, inl e)
  | inr ge ↦ let e : m ≡ b = omega arith in (omega arith, omega arith, inr e)
]

-- the choice among the first n links
pub record IsChoiceSome (g : Graph) (len dist least : ℕ → ℕ) (v : ℕ) (links : List (ℕ × ℕ)) (n p e m : ℕ) : Type 0 where
  pub parent : (i : ℕ) → i < n → IsTight g len dist v (link_at links i).0 (link_at links i).1 → p ≤ (link_at links i).0
  pub tight : p ≢ nobody → (p < g.nodes) × IsTight g len dist v p e
  pub own : m ≤ v
  pub before : (i : ℕ) → i < n → IsTight g len dist v (link_at links i).0 (link_at links i).1 →
      m ≤ least (link_at links i).0
  pub one : (m ≡ v) ⊎ ((u f : ℕ) × (u < g.nodes) × IsTight g len dist v u f × (m ≡ least u))

module _ (g : Graph) (len dist least : ℕ → ℕ) (v : ℕ) (links : List (ℕ × ℕ)) (row : IsRow g v links) where
  pub choice_none : (e : ℕ) → IsChoiceSome g len dist least v links 0 nobody e v
  choice_none e = record {
    parent = λ i l. absurd (omega arith);
    tight = λ ne. absurd (ne refl);
    own = omega arith;
    before = λ i l. absurd (omega arith);
    one = inl refl;
  }

  pub choice_all : (n p e m : ℕ) → length links ≤ n → IsChoiceSome g len dist least v links n p e m →
      IsChoice g len dist least v p e m
  choice_all n p e m all some = record {
    parent = record {
      least = λ w f tight. let (i, l, is) = there w f tight in subst (λ (x : ℕ × ℕ). p ≤ x.0) is (some.parent i (omega arith) (of_link w f tight i is));
      tight = some.tight;
    };
    own = some.own;
    before = λ w f tight. let (i, l, is) = there w f tight in subst (λ (x : ℕ × ℕ). m ≤ least x.0) is (some.before i (omega arith) (of_link w f tight i is));
    one = some.one;
  }
    where
      there : (w f : ℕ) → IsTight g len dist v w f → (i : ℕ) × (i < length links) × (link_at links i ≡ (w, f))
      there w f tight = row.whole f w tight.edge_in tight.joined

      of_link : (w f : ℕ) → IsTight g len dist v w f → (i : ℕ) → link_at links i ≡ (w, f) → IsTight g len dist v (link_at links i).0 (link_at links i).1
      of_link w f tight i is = subst (λ (x : ℕ × ℕ). IsTight g len dist v x.0 x.1) (sym is) tight

  module _ (n w f : ℕ) (l : n < length links) (is : link_at links n ≡ (w, f)) (p e m : ℕ) (some : IsChoiceSome g len dist least v links n p e m) where
    pub choice_skip : dist w + len f ≢ dist v → IsChoiceSome g len dist least v links (n + 1) p e m
    choice_skip loose = record {
      parent = λ i li tight. elim (cases_eq i n) [
        | inl same ↦ absurd (loose (now i same tight))
        | inr ne ↦ some.parent i (omega arith) tight
      ];
      tight = some.tight;
      own = some.own;
      before = λ i li tight. elim (cases_eq i n) [
        | inl same ↦ absurd (loose (now i same tight))
        | inr ne ↦ some.before i (omega arith) tight
      ];
      one = some.one;
    }
      where
        now : (i : ℕ) → i ≡ n → IsTight g len dist v (link_at links i).0 (link_at links i).1 → dist w + len f ≡ dist v
        now i same tight = subst (λ (x : ℕ × ℕ). dist x.0 + len x.1 ≡ dist v) (ap (link_at links) same ∙ is) tight.is

    -- a tight neighbour is taken into account
    pub choice_take : (p2 e2 m2 : ℕ) → dist w + len f ≡ dist v → (w < p → (p2 ≡ w) × (e2 ≡ f)) → (p ≤ w → (p2 ≡ p) × (e2 ≡ e)) →
        m2 ≡ min m (least w) → IsChoiceSome g len dist least v links (n + 1) p2 e2 m2
    choice_take p2 e2 m2 is_tight lower higher m_is =
        let (m_old, m_new, m_one) = min_parts m (least w) m2 m_is in
        let here = chosen_tight g len dist v links row n w f l is is_tight in
        let parts : (p2 ≤ p) × (p2 ≤ w) = elim (cases_lt w p) [
          | inl low ↦ let same = (lower low).0 in (omega arith, omega arith)
          | inr high ↦ let same = (higher high).0 in (omega arith, omega arith)
        ] in
        record {
          parent = λ i li tight. elim (cases_eq i n) [
            | inl same ↦ subst (λ (x : ℕ × ℕ). p2 ≤ x.0) (sym (ap (link_at links) same ∙ is)) parts.1
            | inr ne ↦ let was : p ≤ (link_at links i).0 = some.parent i (omega arith) tight in omega (arith, was, parts.0)
          ];
          tight = λ ne. elim (cases_lt w p) [
            | inl low ↦ rw ((lower low).0, (lower low).1) here
            | inr high ↦ rw ((higher high).0, (higher high).1) (some.tight (λ none. ne ((higher high).0 ∙ none)))
          ];
          own = let was : m ≤ v = some.own in omega (arith, was, m_old);
          before = λ i li tight. elim (cases_eq i n) [
            | inl same ↦ subst (λ (x : ℕ × ℕ). m2 ≤ least x.0) (sym (ap (link_at links) same ∙ is)) m_new
            | inr ne ↦ let was : m ≤ least (link_at links i).0 = some.before i (omega arith) tight in omega (arith, was, m_old)
          ];
          one = elim m_one [ inl same ↦ rw same some.one | inr same ↦ inr (w, f, here.0, here.1, same) ];
        }

-- Another node, which was not settled, gets a distance that is no less
module _ (g : Graph) (len : ℕ → ℕ) (positive : (e : ℕ) → e < g.edges → 1 ≤ len e) (dist : List ℕ) (v d : ℕ) (l : v < length dist)
    (free : at dist v ≡ never) (u : ℕ) (le : at dist u ≤ d) (near : at dist u < never) (ne : u ≢ v) where
  -- the tight neighbours are the same
  tight_before : (p e : ℕ) → IsTight g len (at (set dist v d)) u p e → (p ≢ v) × IsTight g len (at dist) u p e
  tight_before p e tight = elim (cases_eq p v) [
    | inl same ↦
        let is : at (set dist v d) p + len e ≡ at (set dist v d) u = tight.is in
        let here : at (set dist v d) p ≡ d = ap (at (set dist v d)) same ∙ get_or-set_same dist v d 0 l in
        let there : at (set dist v d) u ≡ at dist u = get_or-set_other dist v u d 0 ne in
        let some : 1 ≤ len e = positive e tight.edge_in in
        absurd (omega arith)
    | inr other ↦ (
      other,
      record {
        edge_in = tight.edge_in;
        joined = tight.joined;
        is = ap (λ x. x + len e) (sym (get_or-set_other dist v p d 0 other)) ∙ tight.is ∙ get_or-set_other dist v u d 0 ne;
      },
    )
  ]

  tight_after : (p e : ℕ) → IsTight g len (at dist) u p e → IsTight g len (at (set dist v d)) u p e
  tight_after p e tight = elim (cases_eq p v) [
    | inl same ↦
        let is : at dist p + len e ≡ at dist u = tight.is in
        let here : at dist p ≡ never = ap (at dist) same ∙ free in
        absurd (omega arith)
    | inr other ↦ record {
      edge_in = tight.edge_in;
      joined = tight.joined;
      is = ap (λ x. x + len e) (get_or-set_other dist v p d 0 other) ∙ tight.is ∙ sym (get_or-set_other dist v u d 0 ne);
    }
  ]

  one_after : (least : ℕ → ℕ) (m : ℕ) →
      ((m ≡ u) ⊎ ((w f : ℕ) × (w < g.nodes) × IsTight g len (at dist) u w f × (m ≡ least w))) →
      (m ≡ u) ⊎ ((w f : ℕ) × (w < g.nodes) × IsTight g len (at (set dist v d)) u w f × (m ≡ least w))
  one_after least m one = elim one [
    | inl same ↦ inl same
    | inr (w, f, w_in, tight, is) ↦ inr (w, f, w_in, tight_after w f tight, is)
  ]

  -- what was chosen stays chosen
  pub choice_stays : (least : ℕ → ℕ) (p e m : ℕ) → IsChoice g len (at dist) least u p e m → IsChoice g len (at (set dist v d)) least u p e m
  choice_stays least p e m choice = record {
    parent = record {
      least = λ w f tight. choice.parent.least w f (tight_before w f tight).1;
      tight = λ some. let old = choice.parent.tight some in (old.0, tight_after p e old.1);
    };
    own = choice.own;
    before = λ w f tight. choice.before w f (tight_before w f tight).1;
    one = one_after least m choice.one;
  }

  -- so does what was chosen among the first links
  pub some_stays : (least : ℕ → ℕ) (links : List (ℕ × ℕ)) (n p e m : ℕ) → IsChoiceSome g len (at dist) least u links n p e m →
      IsChoiceSome g len (at (set dist v d)) least u links n p e m
  some_stays least links n p e m choice = record {
    parent = λ i li tight. choice.parent i li (tight_before (link_at links i).0 (link_at links i).1 tight).1;
    tight = λ some. let old = choice.tight some in (old.0, tight_after p e old.1);
    own = choice.own;
    before = λ i li tight. choice.before i li (tight_before (link_at links i).0 (link_at links i).1 tight).1;
    one = one_after least m choice.one;
  }

-- a node that is no nearer gets its least
pub choice_written : (g : Graph) (len : ℕ → ℕ) → ((e : ℕ) → e < g.edges → 1 ≤ len e) → (dist : ℕ → ℕ) (least : List ℕ) (v d : ℕ) (u p e m : ℕ) →
    dist u ≤ dist v → IsChoice g len dist (at least) u p e m → IsChoice g len dist (at (set least v d)) u p e m
choice_written g len positive dist least v d u p e m le choice = record {
  parent = choice.parent;
  own = choice.own;
  before = λ w f tight. subst (λ y. m ≤ y) (sym (get_or-set_other least v w d 0 (apart w f tight))) (choice.before w f tight);
  one = elim choice.one [
    | inl same ↦ inl same
    | inr (w, f, w_in, tight, is) ↦ inr (w, f, w_in, tight, is ∙ sym (get_or-set_other least v w d 0 (apart w f tight)))
  ];
}
  where
    apart : (w f : ℕ) → IsTight g len dist u w f → w ≢ v
    apart w f tight same =
        let is : dist w + len f ≡ dist u = tight.is in
        let here : dist w ≡ dist v = ap dist same in
        let some : 1 ≤ len f = positive f tight.edge_in in
        absurd (omega arith)

-- what is chosen of one node more, once it is written, and that of nodes that are no farther
pub chosen_kept : (g : Graph) (len : ℕ → ℕ) → ((e : ℕ) → e < g.edges → 1 ≤ len e) → (dist : ℕ → ℕ) (parent up least : List ℕ)
    (v p e m : ℕ) → v < length parent → v < length up → v < length least → IsChoice g len dist (at least) v p e m →
    (u : ℕ) → dist u ≤ dist v → (u ≢ v → IsChoice g len dist (at least) u (at parent u) (at up u) (at least u)) →
    IsChoice g len dist (at (set least v m)) u (at (set parent v p) u) (at (set up v e) u) (at (set least v m) u)
chosen_kept g len positive dist parent up least v p e m lp lu ll choice u le old = elim (cases_eq u v) [
  | inl same ↦ rw (same, get_or-set_same parent v p 0 lp, get_or-set_same up v e 0 lu, get_or-set_same least v m 0 ll)
      (choice_written g len positive dist least v m v p e m (omega arith) choice)
  | inr ne ↦ rw (get_or-set_other parent v u p 0 ne, get_or-set_other up v u e 0 ne, get_or-set_other least v u m 0 ne)
      (choice_written g len positive dist least v m u (at parent u) (at up u) (at least u) le (old ne))
]
