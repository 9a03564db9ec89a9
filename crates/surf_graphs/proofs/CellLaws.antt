-- Boundaries, and the signatures of null chains.
use Rattle.surf_z2.proofs.Common.{true, ◌≡◌, ◌≢◌, ℕ, ◌<◌, Bool, false, ◌&&◌, eqb, refl, sym, ◌∙◌, ap, arith, ne_eqb, eq-eqb, inl, inr, ◌↔◌, List, [], ◌∷◌, length, get_or, xor, odd_below}
use Rattle.std.proofs.lemmas.Bool.{and_parts, cases_eq, cases_Bool, cases_order, false≢true, true_from_ne_false}
use Rattle.surf_graphs.specs.Graphs.{leaves, graph_touches, IsEven, IsGraphWalk, walk_chain, edge_between}
use Rattle.surf_graphs.specs.Trees.{Tree, IsTree, in_tree, on_path}
use Rattle.surf_graphs.specs.Cells.{Cells, primal, dual, IsCellComplex, cell_boundary, IsNullChain, Split, IsSplit, parts, signature, chain_signature, graph_walk_signature}
use Rattle.surf_z2.proofs.ParityLaws.{xor_ends, and-xor, xor_base, xor_equal, and_comm, and-false, xor-false, xor-same, odd_below-same, odd_below-none, odd_below-and-xor, odd_below-xor-and, odd_below-at}
use Rattle.surf_graphs.proofs.Graphs.{walk_even, by_nodes, even-xor, edge_between_is}
use Rattle.surf_graphs.proofs.Trees.{tree_edge, leaves_path, along, along_same, along_leaves, path_leaves, along_is, path_inside, empty_inside}

-- the boundary of a set of faces is even
pub boundary_even : (s : Cells) → IsCellComplex s → (set : ℕ → Bool) → IsEven (primal s) (cell_boundary s set)
boundary_even s ok set v l =
    odd_below-same s.edges (λ e. cell_boundary s set e && graph_touches (primal s) v e)
    (λ e. graph_touches (primal s) v e && leaves (dual s) set e) (λ e h. and_comm (cell_boundary s set e) (graph_touches (primal s) v e))
    ∙ (by_nodes (dual s) ok.dual_ends (λ e. graph_touches (primal s) v e) set
    ∙ odd_below-none s.faces (λ f. set f && odd_below s.edges (λ e. graph_touches (primal s) v e && graph_touches (dual s) f e))
    (λ f lf. rw (ok.corners_even v f l lf) (and-false (set f))))

-- a set of faces that no edge outside the tree leaves has all faces or none
pub outside_joins : (s : Cells) → IsCellComplex s → (t : Tree) → IsTree (primal s) t → (set : ℕ → Bool) →
    ((e : ℕ) → e < s.edges → in_tree (primal s) t e ≡ false → cell_boundary s set e ≡ false) → (a b : ℕ) → a < s.faces →
    b < s.faces → set a ≡ set b
outside_joins s ok t tree set stays =
    ok.dual_connected set (empty_inside (primal s) t ok.primal_ends tree (cell_boundary s set) (boundary_even s ok set)
    (λ e l h. true_from_ne_false (in_tree (primal s) t e) (λ out. false≢true (sym (stays e l out) ∙ h))))

-- a left edge is listed once
pub left_once : (s : Cells) (d : Split) → IsSplit s d → (j k : ℕ) → j < length d.left → k < length d.left →
    get_or d.left j 0 ≡ get_or d.left k 0 → j ≡ k
left_once s d ok j k lj lk e = elim (cases_order j k) [
  | inl same ↦ same
  | inr apart ↦ elim apart [
    | inl below ↦ let rises = ok.left_rises j k below lk in absurd (omega arith)
    | inr above ↦ let rises = ok.left_rises k j above lj in absurd (omega arith)
  ]
]

-- in one form for all edges: the k-th left edge, and the edges on the cotree's path between its faces
pub signature_is : (s : Cells) (d : Split) → IsCellComplex s → IsSplit s d → (e k : ℕ) → e < s.edges →
    k < length d.left → signature s d e k ≡ xor (eqb (get_or d.left k 0) e) (parts s d e (get_or d.left k 0))
signature_is s d ok ds e k l lk =
    let m = get_or d.left k 0 in
    let ends = ok.dual_ends m (ds.left_in k lk) in
    elim (cases_Bool (in_tree (primal s) d.tree e)) [
      | inl yes_t ↦
          let differ : m ≢ e =
          λ same. false≢true (sym (ds.left_outside k lk) ∙ (ap (in_tree (primal s) d.tree) same ∙ yes_t)) in
          let no_c : in_tree (dual s) d.cotree e ≡ false = ds.apart e l yes_t in
          rw (
            yes_t,
            ne_eqb m e differ,
            path_inside (dual s) d.cotree ds.cotree_is e no_c (s.near m) ends.0,
            path_inside (dual s) d.cotree ds.cotree_is e no_c (s.far m) ends.1,
          )
      | inr no_t ↦ elim (cases_Bool (in_tree (dual s) d.cotree e)) [
        | inl yes_c ↦
            let differ : m ≢ e =
            λ same. false≢true (sym (ds.left_outside_dual k lk) ∙ (ap (in_tree (dual s) d.cotree) same ∙ yes_c)) in
            rw (no_t, yes_c, ne_eqb m e differ)
        | inr no_c ↦
            rw (
              no_t,
              no_c,
              path_inside (dual s) d.cotree ds.cotree_is e no_c (s.near m) ends.0,
              path_inside (dual s) d.cotree ds.cotree_is e no_c (s.far m) ends.1,
            ) (sym (xor-false (eqb m e)))
      ]
    ]

-- the signature of a chain, in that form
pub chain_signature_is : (s : Cells) (d : Split) → IsCellComplex s → IsSplit s d → (chain : ℕ → Bool) (k : ℕ) →
    k < length d.left →
    chain_signature s d chain k ≡ xor (chain (get_or d.left k 0))
    (leaves (dual s) (along (dual s) d.cotree chain) (get_or d.left k 0))
unfolding along
chain_signature_is s d ok ds chain k lk =
    let m = get_or d.left k 0 in
    odd_below-same s.edges (λ e. chain e && signature s d e k) (λ e. chain e && xor (eqb m e) (parts s d e m))
    (λ e l. ap (λ x. chain e && x) (signature_is s d ok ds e k l lk))
    ∙ (odd_below-and-xor s.edges chain (λ e. eqb m e) (λ e. parts s d e m)
    ∙ rw (
      odd_below-same s.edges (λ e. chain e && eqb m e) (λ e. eqb m e && chain e)
          (λ e l. and_comm (chain e) (eqb m e)),
      odd_below-at s.edges m chain (ds.left_in k lk),
      odd_below-and-xor s.edges chain (λ e. on_path d.cotree (s.near m) e) (λ e. on_path d.cotree (s.far m) e),
    ))

pub null_signature : (s : Cells) (d : Split) → IsCellComplex s → IsSplit s d → (chain : ℕ → Bool) → IsNullChain s chain →
    (k : ℕ) → k < length d.left → chain_signature s d chain k ≡ false
null_signature s d ok ds chain (set, is) k lk =
    let m = get_or d.left k 0 in
    let lm : m < s.edges = ds.left_in k lk in
    let ends = ok.dual_ends m lm in
    let sums : (f : ℕ) → f < s.faces → along (dual s) d.cotree chain f ≡ xor (set f) (set d.cotree.root) = λ f l.
    along_same (dual s) d.cotree chain (leaves (dual s) set) is f ∙ path_leaves (dual s) d.cotree ds.cotree_is set f l
    in
    chain_signature_is s d ok ds chain k lk
    ∙ rw (sums (s.near m) ends.0, sums (s.far m) ends.1, is m lm)
    (xor_base (set (s.near m)) (set (s.far m)) (set d.cotree.root))

pub signature_null : (s : Cells) (d : Split) → IsCellComplex s → IsSplit s d → (chain : ℕ → Bool) →
    IsEven (primal s) chain → ((k : ℕ) → k < length d.left → chain_signature s d chain k ≡ false) → IsNullChain s chain
signature_null s d ok ds chain even zeros =
    let set = along (dual s) d.cotree chain in
    let rest : ℕ → Bool = λ e. xor (chain e) (cell_boundary s set e) in
    let outside : (e : ℕ) → e < s.edges → in_tree (primal s) d.tree e ≡ false → rest e ≡ false = λ e l no_t.
    elim (cases_Bool (in_tree (dual s) d.cotree e)) [
      | inl yes_c ↦
          let (n, ln, ne, is) = tree_edge (dual s) d.cotree e yes_c in
          let same : leaves (dual s) set e ≡ chain e =
          rw is at (along_leaves (dual s) d.cotree ds.cotree_is chain n ln ne) in
          rw same (xor-same (chain e))
      | inr no_c ↦
          let (k, lk, is) = ds.left_whole e l no_t no_c in
          let zero_here : xor (chain (get_or d.left k 0)) (leaves (dual s) set (get_or d.left k 0)) ≡ false =
          sym (chain_signature_is s d ok ds chain k lk) ∙ zeros k lk in
          rw is at zero_here
    ] in
    let empty = empty_inside (primal s) d.tree ok.primal_ends ds.tree_is rest
    (even-xor (primal s) chain (cell_boundary s set) even (boundary_even s ok set))
    (λ e l h. true_from_ne_false (in_tree (primal s) d.tree e) (λ out. false≢true (sym (outside e l out) ∙ h))) in
    (set, λ e l. xor_equal (chain e) (cell_boundary s set e) (empty e l))

-- the edges of a face
pub face_zero : (s : Cells) (d : Split) → IsCellComplex s → IsSplit s d → (f k : ℕ) → f < s.faces → k < length d.left →
    chain_signature s d (λ e. graph_touches (dual s) f e) k ≡ false
face_zero s d ok ds f k lf lk =
    null_signature s d ok ds (λ e. graph_touches (dual s) f e) ((λ x. eqb x f), (λ e l. refl)) k lk

-- a walk's signature is that of its chain
pub walk_signature_is : (s : Cells) (d : Split) (a : ℕ) (w : List ℕ) (b k : ℕ) → IsGraphWalk (primal s) a w b →
    graph_walk_signature s d a w k ≡ chain_signature s d (walk_chain (primal s) a w) k
walk_signature_is s d a [] b k h = sym (odd_below-none s.edges (λ e. false) (λ e l. refl))
walk_signature_is s d a (c ∷ w) b k h =
    let step = edge_between_is (primal s) a c h.0 in
    let here : odd_below s.edges (λ e. eqb (edge_between (primal s) a c) e && signature s d e k)
    ≡ signature s d (edge_between (primal s) a c) k =
    odd_below-at s.edges (edge_between (primal s) a c) (λ e. signature s d e k) step.0 in
    let rest : graph_walk_signature s d c w k ≡ chain_signature s d (walk_chain (primal s) c w) k =
    walk_signature_is s d c w b k h.1 in
    sym (odd_below-xor-and s.edges (λ e. eqb (edge_between (primal s) a c) e) (walk_chain (primal s) c w)
    (λ e. signature s d e k) ∙ rw (here, rest))

-- the faces with edge c of the cotree on their path: no other edge of the cotree leaves the set
pub beyond : (s : Cells) (d : Split) → IsSplit s d → (c e : ℕ) → e ≢ c → in_tree (dual s) d.cotree e ≡ true →
    cell_boundary s (λ f. on_path d.cotree f c) e ≡ false
beyond s d ok c e ne yes_e =
    let (n, ln, nn, is) = tree_edge (dual s) d.cotree e yes_e in
    let here : leaves (dual s) (λ f. on_path d.cotree f c) e ≡ eqb e c =
    rw is at (leaves_path (dual s) d.cotree ok.cotree_is n c ln nn) in
    here ∙ ne_eqb e c ne

-- a set of faces that no other edge of the cotree than c leaves changes at c alone
one_jump : (s : Cells) (d : Split) → IsSplit s d → (c : ℕ) (set : ℕ → Bool) → c < s.edges →
    ((e : ℕ) → e < s.edges → e ≢ c → in_tree (dual s) d.cotree e ≡ true → cell_boundary s set e ≡ false) →
    (f : ℕ) → f < s.faces → xor (set f) (set d.cotree.root) ≡ (cell_boundary s set c && on_path d.cotree f c)
one_jump s d ok c set lc stays f lf =
    sym (path_leaves (dual s) d.cotree ok.cotree_is set f lf)
    ∙ (along_is (dual s) d.cotree (leaves (dual s) set) f
    ∙ (odd_below-same s.edges (λ e. leaves (dual s) set e && on_path d.cotree f e)
    (λ e. eqb c e && (leaves (dual s) set e && on_path d.cotree f e)) (λ e le. elim (cases_eq e c) [
      | inl same ↦ rw (eq-eqb c e (sym same))
      | inr ne ↦ rw (ne_eqb c e (λ same. ne (sym same))) (elim (cases_Bool (in_tree (dual s) d.cotree e)) [
        | inl yes_e ↦ rw (stays e le ne yes_e)
        | inr no_e ↦ rw (path_inside (dual s) d.cotree ok.cotree_is e no_e f lf) (and-false (leaves (dual s) set e))
      ])
    ])
    ∙ odd_below-at s.edges c (λ e. leaves (dual s) set e && on_path d.cotree f e) lc))

pub cotree_parts : (s : Cells) (d : Split) → IsCellComplex s → IsSplit s d → (c l : ℕ) → c < s.edges → l < s.edges →
    in_tree (dual s) d.cotree c ≡ true →
    (parts s d c l ≡ true)
    ↔ ((set : ℕ → Bool) × ((e : ℕ) → e < s.edges → e ≢ c → in_tree (dual s) d.cotree e ≡ true →
    cell_boundary s set e ≡ false) × (cell_boundary s set l ≡ true))
cotree_parts s d cells ok c l lc ll on = (
  (λ h. ((λ f. on_path d.cotree f c), (λ e le ne yes_e. beyond s d ok c e ne yes_e), h)),
  λ (set, stays, apart).
      let ends = cells.dual_ends l ll in
      let one : xor (set (s.near l)) (set d.cotree.root) ≡ (cell_boundary s set c && on_path d.cotree (s.near l) c) =
      one_jump s d ok c set lc stays (s.near l) ends.0 in
      let two : xor (set (s.far l)) (set d.cotree.root) ≡ (cell_boundary s set c && on_path d.cotree (s.far l) c) =
      one_jump s d ok c set lc stays (s.far l) ends.1 in
      let both : (cell_boundary s set c && parts s d c l) ≡ true =
      and-xor (cell_boundary s set c) (on_path d.cotree (s.near l) c) (on_path d.cotree (s.far l) c)
      ∙ (rw (← one, ← two) (xor_ends (set (s.near l)) (set (s.far l)) (set d.cotree.root)) ∙ apart) in
      (and_parts (cell_boundary s set c) (parts s d c l) both).1,
)

pub faces_closed : (s : Cells) (start : ℕ → ℕ) (around : ℕ → List ℕ) →
    ((f : ℕ) → f < s.faces → IsGraphWalk (primal s) (start f) (around f) (start f)) →
    ((f e : ℕ) → f < s.faces → e < s.edges → graph_touches (dual s) f e ≡ walk_chain (primal s) (start f) (around f) e) →
    (v f : ℕ) → v < s.vertices → f < s.faces → odd_below s.edges (λ e. graph_touches (primal s) v e && graph_touches (dual s) f e)
    ≡ false
faces_closed s start around closed edges v f lv lf =
    odd_below-same s.edges (λ e. graph_touches (primal s) v e && graph_touches (dual s) f e)
    (λ e. walk_chain (primal s) (start f) (around f) e && graph_touches (primal s) v e)
    (λ e le. rw (edges f e lf le) (and_comm (graph_touches (primal s) v e) (walk_chain (primal s) (start f) (around f) e)))
    ∙ walk_even (primal s) (start f) (around f) (closed f lf) v lv
