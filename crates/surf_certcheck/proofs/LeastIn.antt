-- The least short number of a set that grows, and that of the edges between two nodes of a tree.
use Rattle.surf_treecheck.proofs.Common.{◌≡◌, ◌≢◌, ℕ, ◌<◌, ◌≤◌, Bool, true, false, not, ◌&&◌, List, eqb, ltb, refl, sym, ap, ◌∙◌, subst, arith, inl, inr, ◌⊎◌, Option, Some, None, cases_Bool, cases_eq, cases_lt, false≢true, ltb-true, ne_eqb, eq-eqb, nat_tests, xor, Graph, between, Tree, IsTree, on_path, Mesh, edge_count, faces_of, LoopCert, dual_tree, loop_size, IsNotHeavier, FindsFirst}
use Rattle.surf_certcheck.proofs.Common.{climbed, either_first, none_between, IsShort, IsLeastIn, IsLeastWith}
use Rattle.surf_graphs.proofs.Trees.{path_root, path_step, up_once, down_tree}
use Rattle.surf_certcheck.specs.Least.{least_with}

-- ---- a set with one more number

module _ (short : ℕ → Type 0) (old new : ℕ → Bool) (e : ℕ)
    (grows : (c : ℕ) → new c ≡ true → (old c ≡ true) ⊎ (c ≡ e))
    (wider : (c : ℕ) → old c ≡ true → new c ≡ true) (there : new e ≡ true) where
  -- a further number that isn't short
  keep : (o : Option ℕ) → (short e → ⊥) → IsLeastIn short old o → IsLeastIn short new o
  keep None long h = λ c is s. elim (grows c is) [ inl was ↦ h c was s | inr same ↦ long (subst short same s) ]
  keep (Some b) long h = (
    wider b h.0,
    h.1,
    λ c is s. elim (grows c is) [
      | inl was ↦ h.2 c was s
      | inr same ↦ absurd (long (subst short same s))
    ],
  )

  -- one that is
  take : (o : Option ℕ) → short e → IsLeastIn short old o → IsLeastIn short new (Some (least_with e o))
  take None s h = (
    there,
    s,
    λ c is t. elim (grows c is) [ inl was ↦ absurd (h c was t) | inr same ↦ omega (arith, same) ],
  )
  take (Some b) s h = elim (cases_Bool (ltb b e)) [
    | inl less ↦
        let below : b < e = ltb-true b e less in
        rw less (
          wider b h.0,
          h.1,
          λ c is t. elim (grows c is) [
            | inl was ↦ h.2 c was t
            | inr same ↦ omega (arith, same, below)
          ],
        )
    | inr no_less ↦
        let above : e ≤ b = grind (arith, nat_tests) in
        rw no_less (
          there,
          s,
          λ c is t. elim (grows c is) [
            | inl was ↦ (let bound : b ≤ c = h.2 c was t in omega (arith, bound, above))
            | inr same ↦ omega (arith, same)
          ],
        )
  ]

  least_more : (before after : Option ℕ) → IsLeastWith short e before after → IsLeastIn short old before →
      IsLeastIn short new after
  least_more before after (inl is) h = subst (IsLeastIn short new) (sym is.1) (take before is.0 h)
  least_more before after (inr is) h = subst (IsLeastIn short new) (sym is.1) (keep before is.0 h)

-- the same for another test of the same numbers
least_same : (short : ℕ → Type 0) (old new : ℕ → Bool) (o : Option ℕ) → ((c : ℕ) → old c ≡ new c) →
    IsLeastIn short old o → IsLeastIn short new o
least_same short old new None same h = λ c is s. h c (same c ∙ is) s
least_same short old new (Some b) same h = (sym (same b) ∙ h.0, h.1, λ c is s. h.2 c (same c ∙ is) s)

-- ---- the edges between two nodes of a tree

module _ (g : Graph) (t : Tree) (tree : IsTree g t) where
  -- the root has the least rank
  root_lowest : (q : ℕ) → q < g.nodes → q ≢ t.root → t.rank t.root < t.rank q
  root_lowest = down_tree g t tree (λ q. q ≢ t.root → t.rank t.root < t.rank q) (λ ne. absurd (ne refl))
      (λ q lq nq above ne.
      let falls : t.rank (t.parent q) < t.rank q = tree.rank_falls q lq nq in
      elim (cases_eq (t.parent q) t.root) [
        | inl same ↦ subst (λ r. t.rank r < t.rank q) same falls
        | inr apart ↦ let low : t.rank t.root < t.rank (t.parent q) = above apart in omega (arith, low, falls)
      ])

  -- the edge of a node isn't on the way of another node that is no deeper
  off_way : (n : ℕ) → n < g.nodes → n ≢ t.root → (q : ℕ) → q < g.nodes → t.rank q ≤ t.rank n → q ≢ n →
      on_path t q (t.up n) ≡ false
  off_way n ln nn = down_tree g t tree (λ q. t.rank q ≤ t.rank n → q ≢ n → on_path t q (t.up n) ≡ false)
      (λ deep ne. path_root t (t.up n))
      (λ q lq nq above deep ne.
      let falls : t.rank (t.parent q) < t.rank q = tree.rank_falls q lq nq in
      let apart : t.up q ≢ t.up n = λ same. ne (up_once g t tree q n lq nq ln nn same) in
      let other : t.parent q ≢ n = λ same. lower (t.parent q) n same (omega (arith, falls, deep)) in
      path_step g t tree q (t.up n) lq nq
      ∙ rw (ne_eqb (t.up q) (t.up n) apart) (above (omega (arith, falls, deep)) other))
    where
      lower : (a b : ℕ) → a ≡ b → t.rank a < t.rank b → ⊥
      lower a b same less = let is : t.rank a ≡ t.rank b = ap t.rank same in absurd (omega (arith, is, less))

-- of the edges between two nodes, those that aren't between two others
abbrev pub is_passed : Tree → ℕ → ℕ → ℕ → ℕ → ℕ → Bool
is_passed t a b near far c = between t a b c && not (between t near far c)

-- the edges between two nodes are those between two others and those that are passed, of which this is the least short
pub record IsLeastPassed (short : ℕ → Type 0) (t : Tree) (a b near far : ℕ) (o : Option ℕ) : Type 0 where
  pub inside : (c : ℕ) → between t near far c ≡ true → between t a b c ≡ true
  pub least : IsLeastIn short (is_passed t a b near far) o

none_passed : (b : Bool) → (b && not b) ≡ true → false ≡ true
none_passed true e = e
none_passed false e = e

all_passed : (b : Bool) → (b && not false) ≡ b
all_passed true = refl
all_passed false = refl

-- at the start none is
pub passed_none : (short : ℕ → Type 0) (t : Tree) (a b : ℕ) → IsLeastPassed short t a b a b None
passed_none short t a b = record {
  inside = λ c on. on;
  least = λ c is s. false≢true (none_passed (between t a b c) is);
}

-- where the two nodes meet all are
pub passed_all : (short : ℕ → Type 0) (t : Tree) (a b near far : ℕ) (least : Option ℕ) → near ≡ far →
    IsLeastPassed short t a b near far least → IsLeastIn short (between t a b) least
passed_all short t a b near far least same h =
    least_same short (is_passed t a b near far) (between t a b) least
    (λ c. ap (λ x. between t a b c && not x) (none_between t near far c same) ∙ all_passed (between t a b c)) h.least

-- one step up from the deeper of two nodes, n
module _ (g : Graph) (t : Tree) (tree : IsTree g t) (near far n m : ℕ)
    (both : ((n ≡ near) × (m ≡ far)) ⊎ ((n ≡ far) × (m ≡ near))) (apart : near ≢ far) (near_in : near < g.nodes)
    (far_in : far < g.nodes) (deeper : t.rank m ≤ t.rank n) where
  n_in : n < g.nodes
  n_in = elim both [ inl is ↦ subst (λ x. x < g.nodes) (sym is.0) near_in | inr is ↦ subst (λ x. x < g.nodes) (sym is.0) far_in ]

  m_in : m < g.nodes
  m_in = elim both [ inl is ↦ subst (λ x. x < g.nodes) (sym is.1) far_in | inr is ↦ subst (λ x. x < g.nodes) (sym is.1) near_in ]

  others : m ≢ n
  others same = elim both [
    | inl is ↦ apart (sym is.0 ∙ sym same ∙ is.1)
    | inr is ↦ apart (sym is.1 ∙ same ∙ is.0)
  ]

  pub not_root : n ≢ t.root
  not_root same =
      let low : t.rank t.root < t.rank m = root_lowest g t tree m m_in (λ is. others (is ∙ sym same)) in
      let is : t.rank n ≡ t.rank t.root = ap t.rank same in
      absurd (omega (arith, low, is, deeper))

  abbrev e : ℕ
  e = t.up n

  abbrev now : ℕ → Bool
  now = between t (t.parent n) m

  before_is : (c : ℕ) → xor (eqb e c) (now c) ≡ between t near far c
  before_is c = climbed g t tree n m c n_in not_root ∙ either_first t near far n m c both

  -- the edge of the step isn't between the nodes any more
  behind : now e ≡ false
  behind =
      let falls : t.rank (t.parent n) < t.rank n = tree.rank_falls n n_in not_root in
      rw (
        off_way g t tree n n_in not_root (t.parent n) (tree.parent_in n n_in not_root) (omega (arith, falls))
            (λ same. let is : t.rank (t.parent n) ≡ t.rank n = ap t.rank same in absurd (omega (arith, is, falls))),
        off_way g t tree n n_in not_root m m_in deeper others,
      ) refl

  was_between : between t near far e ≡ true
  was_between = sym (before_is e) ∙ rw (eq-eqb e e refl, behind) refl

  other_same : (c : ℕ) → c ≢ e → now c ≡ between t near far c
  other_same c ne = sym (ap (λ x. xor x (now c)) (ne_eqb e c (λ is. ne (sym is)))) ∙ before_is c

  narrower : (c : ℕ) → now c ≡ true → between t near far c ≡ true
  narrower c on = elim (cases_eq c e) [
    | inl same ↦ absurd (false≢true (sym behind ∙ sym (ap now same) ∙ on))
    | inr ne ↦ sym (other_same c ne) ∙ on
  ]

  module _ (short : ℕ → Type 0) (a b : ℕ) (old new : Option ℕ) (h : IsLeastPassed short t a b near far old)
      (step : IsLeastWith short e old new) where
    grows : (c : ℕ) → (between t a b c && not (now c)) ≡ true → (is_passed t a b near far c ≡ true) ⊎ (c ≡ e)
    grows c is = elim (cases_eq c e) [
      | inl same ↦ inr same
      | inr ne ↦ inl (ap (λ x. between t a b c && not x) (sym (other_same c ne)) ∙ is)
    ]

    wider : (c : ℕ) → is_passed t a b near far c ≡ true → (between t a b c && not (now c)) ≡ true
    wider c is = fewer (between t a b c) (between t near far c) (now c) (narrower c) is
      where
        fewer : (x y z : Bool) → (z ≡ true → y ≡ true) → (x && not y) ≡ true → (x && not z) ≡ true
        fewer true false true less e = absurd (false≢true (less refl))
        fewer true false false less e = refl
        fewer true true z less e = absurd (false≢true e)
        fewer false y z less e = absurd (false≢true e)

    there : (between t a b e && not (now e)) ≡ true
    there = rw (h.inside e was_between, behind) refl

    pub passed_more : IsLeastPassed short t a b (t.parent n) m new
    passed_more = record {
      inside = λ c on. h.inside c (narrower c on);
      least = least_more short (is_passed t a b near far) (λ c. between t a b c && not (now c)) e grows wider there old new
          step h.least;
    }

-- ---- what the least tells

-- the least short edge between the two faces of an edge is the first that is lighter
pub least_is_first : (mesh : Mesh) (lengths : List ℕ) (cert : LoopCert) (l : ℕ) (o : Option ℕ) →
    IsLeastIn (IsShort mesh lengths cert.tree (loop_size mesh lengths cert.tree l))
    (between (dual_tree mesh cert.dual) (faces_of mesh l).0 (faces_of mesh l).1) o →
    FindsFirst (edge_count mesh) (IsNotHeavier mesh lengths cert l) o
least_is_first mesh lengths cert l None h = λ k inside on.
    elim (cases_lt (loop_size mesh lengths cert.tree k) (loop_size mesh lengths cert.tree l)) [
      | inl less ↦ absurd (h k on (record { inside = inside; shorter = less }))
      | inr no_less ↦ omega (arith, no_less)
    ]
least_is_first mesh lengths cert l (Some b) h = record {
  below = h.1.inside;
  fails = λ no_less.
      let at_least = no_less h.0 in
      let less = h.1.shorter in
      absurd (omega (arith, at_least, less));
  before = λ k lower on.
      elim (cases_lt (loop_size mesh lengths cert.tree k) (loop_size mesh lengths cert.tree l)) [
        | inl less ↦
            let inside = h.1.inside in
            let within : k < edge_count mesh = omega (arith, lower, inside) in
            let least : b ≤ k = h.2 k on (record { inside = within; shorter = less }) in
            absurd (omega (arith, least, lower))
        | inr no_less ↦ omega (arith, no_less)
      ];
}
