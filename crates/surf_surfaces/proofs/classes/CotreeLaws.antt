-- Laws of the heaviest tree of faces.
use Rattle.surf_surfaces.proofs.Common.{◌≡◌, ◌≢◌, ℕ, zero, suc, ◌+◌, ◌<◌, ◌≤◌, Bool, true, false, not, ◌&&◌, cond, eqb, List, [], ◌∷◌, length, get_or, refl, sym, ap, ◌∙◌, subst, arith, inl, inr, cases_Bool, cases_eq, and_parts, false≢true, false_from_ne_true, nat_tests, xor, odd_below, between, Tree, IsTree, in_tree, on_path, Mesh, face_count, edge_count, faces_of, IsSurface, edge_length, cells_of, loop_length, primal, dual, IsSplit, IsHeaviest, Graph, leaves}
use Rattle.std.specs.List.{AllByRecursion, filter, range_with_len}
use Rattle.surf_z2.proofs.ParityLaws.{same_tests, odd_below-found, odd_below-and-xor, xor_ends}
use Rattle.surf_graphs.proofs.CellLaws.{beyond}
use Rattle.surf_graphs.proofs.SameTrees.{parents_same, ups_same}
use Rattle.surf_graphs.proofs.Trees.{down_tree, path_leaves, path_inside, leaves_path, tree_edge, along_is}
use Rattle.surf_surfaces.specs.Cotree.{tree_edges, cotree_edges, is_left, left_edges, split_of, precedes, is_no_later, IsHeaviestCotree, CotreesAreOne, HeavyCotreesAreHeaviest}
use Rattle.surf_surfaces.proofs.meshes.CellLaws.{surfaces_are_cells}

-- ---- the numbers that pass a test, in order

-- each member is above all those before
abbrev pub Climbs : ℕ → List ℕ → Type 0
Climbs low [] = Unit {0}
Climbs low (x ∷ xs) = (low ≤ x) × Climbs (suc x) xs

climbs_lower : (a b : ℕ) (xs : List ℕ) → a ≤ b → Climbs b xs → Climbs a xs
climbs_lower a b [] h c = tt
climbs_lower a b (x ∷ xs) h c = (omega (arith, c.0), c.1)

pub passing_climb : (p : ℕ → Bool) (a n : ℕ) → Climbs a (filter p (range_with_len a n))
passing_climb p a zero = tt
passing_climb p a (suc n) =
    split (p a) (subst (λ b. Climbs b (filter p (range_with_len (a + 1) n))) (omega arith) (passing_climb p (a + 1) n))
  where
    split : (b : Bool) → Climbs (suc a) (filter p (range_with_len (a + 1) n)) →
        Climbs a (cond b (a ∷ filter p (range_with_len (a + 1) n)) (filter p (range_with_len (a + 1) n)))
    split true c = (omega arith, c)
    split false c = climbs_lower a (suc a) (filter p (range_with_len (a + 1) n)) (omega arith) c

climbs_above : (low : ℕ) (xs : List ℕ) (k : ℕ) → Climbs low xs → k < length xs → low ≤ get_or xs k 0
climbs_above low [] k c l = absurd (omega arith)
climbs_above low (x ∷ xs) zero c l = c.0
climbs_above low (x ∷ xs) (suc k) c l = let later = climbs_above (suc x) xs k c.1 (omega arith) in
    omega (arith, later, c.0)

-- a later number is greater
pub climbs_order : (low : ℕ) (xs : List ℕ) → Climbs low xs → (i j : ℕ) → i < j → j < length xs →
    get_or xs i 0 < get_or xs j 0
climbs_order low [] c i j h l = absurd (omega arith)
climbs_order low (x ∷ xs) c zero zero h l = absurd (omega arith)
climbs_order low (x ∷ xs) c zero (suc j) h l = let later = climbs_above (suc x) xs j c.1 (omega arith) in
    omega (arith, later)
climbs_order low (x ∷ xs) c (suc i) zero h l = absurd (omega arith)
climbs_order low (x ∷ xs) c (suc i) (suc j) h l = climbs_order (suc x) xs c.1 i j (omega arith) (omega arith)

pub passing_each : (p : ℕ → Bool) (a n : ℕ) →
    AllByRecursion (λ x. (x < a + n) × (p x ≡ true)) (filter p (range_with_len a n))
passing_each p a zero = tt
passing_each p a (suc n) =
    split (p a) refl (subst (λ m. AllByRecursion (λ x. (x < m) × (p x ≡ true)) (filter p (range_with_len (a + 1) n)))
    (omega arith) (passing_each p (a + 1) n))
  where
    split : (b : Bool) → p a ≡ b →
        AllByRecursion (λ x. (x < a + suc n) × (p x ≡ true)) (filter p (range_with_len (a + 1) n)) →
        AllByRecursion (λ x. (x < a + suc n) × (p x ≡ true))
        (cond b (a ∷ filter p (range_with_len (a + 1) n)) (filter p (range_with_len (a + 1) n)))
    split true e h = ((omega arith, e), h)
    split false e h = h

pub passing_found : (p : ℕ → Bool) (a n x : ℕ) → a ≤ x → x < a + n → p x ≡ true →
    (k : ℕ) × (k < length (filter p (range_with_len a n))) × (get_or (filter p (range_with_len a n)) k 0 ≡ x)
passing_found p a zero x h l is = absurd (omega arith)
passing_found p a (suc n) x h l is = elim (cases_eq a x) [
  | inl e ↦ let here : p a ≡ true = ap p e ∙ is in rw here (0, omega arith, e)
  | inr ne ↦ later (p a) (passing_found p (a + 1) n x (omega arith) (omega arith) is)
]
  where
    later : (b : Bool) → (k : ℕ) × (k < length (filter p (range_with_len (a + 1) n)))
        × (get_or (filter p (range_with_len (a + 1) n)) k 0 ≡ x) →
        (k : ℕ) × (k < length (cond b (a ∷ filter p (range_with_len (a + 1) n)) (filter p (range_with_len (a + 1) n))))
        × (get_or (cond b (a ∷ filter p (range_with_len (a + 1) n)) (filter p (range_with_len (a + 1) n))) k 0 ≡ x)
    later true (k, l, e) = (suc k, omega arith, e)
    later false r = r

all_at : (P : ℕ → Type 0) (xs : List ℕ) (k : ℕ) → AllByRecursion P xs → k < length xs → P (get_or xs k 0)
all_at P [] k h l = absurd (omega arith)
all_at P (x ∷ xs) zero h l = h.0
all_at P (x ∷ xs) (suc k) h l = all_at P xs k h.1 (omega arith)

-- ---- the split

pub not-false_is : (b : Bool) → not b ≡ true → b ≡ false
not-false_is true h = absurd (false≢true h)
not-false_is false h = refl

module _ (mesh : Mesh) (tree cotree : Tree) where
  -- a left edge is in neither tree
  pub left_each : (k : ℕ) → k < length (left_edges mesh tree cotree) →
      (get_or (left_edges mesh tree cotree) k 0 < edge_count mesh)
      × (tree_edges mesh tree (get_or (left_edges mesh tree cotree) k 0) ≡ false)
      × (cotree_edges mesh cotree (get_or (left_edges mesh tree cotree) k 0) ≡ false)
  left_each k l =
      let e = get_or (left_edges mesh tree cotree) k 0 in
      let is = all_at (λ x. (x < 0 + edge_count mesh) × (is_left mesh tree cotree x ≡ true))
      (left_edges mesh tree cotree) k (passing_each (is_left mesh tree cotree) 0 (edge_count mesh)) l in
      let both = and_parts (not (tree_edges mesh tree e)) (not (cotree_edges mesh cotree e)) is.1 in (
        omega (arith, is.0),
        not-false_is (tree_edges mesh tree e) both.0,
        not-false_is (cotree_edges mesh cotree e) both.1,
      )

  -- two trees that share no edge, and the edges in neither, are a split
  pub trees_split : IsTree (primal (cells_of mesh)) tree → IsTree (dual (cells_of mesh)) cotree →
      ((e : ℕ) → e < edge_count mesh → cotree_edges mesh cotree e ≡ true → tree_edges mesh tree e ≡ false) →
      IsSplit (cells_of mesh) (split_of mesh tree cotree)
  trees_split is_tree is_cotree outside = record {
    tree_is = is_tree;
    cotree_is = is_cotree;
    apart = λ e l on. false_from_ne_true (cotree_edges mesh cotree e)
        (λ other. false≢true (sym (outside e l other) ∙ on));
    left_rises = λ i j h l. climbs_order 0 (left_edges mesh tree cotree)
        (passing_climb (is_left mesh tree cotree) 0 (edge_count mesh)) i j h l;
    left_in = λ k l. (left_each k l).0;
    left_outside = λ k l. (left_each k l).1;
    left_outside_dual = λ k l. (left_each k l).2;
    left_whole = λ e l no_tree no_cotree. passing_found (is_left mesh tree cotree) 0 (edge_count mesh) e (omega arith)
        (omega arith) (rw (no_tree, no_cotree) refl);
  }

module _ (mesh : Mesh) (lengths : List ℕ) (tree cotree : Tree) (heavy : IsHeaviestCotree mesh lengths tree cotree) where
  pub is_split : IsTree (primal (cells_of mesh)) tree → IsSplit (cells_of mesh) (split_of mesh tree cotree)
  is_split is_tree = trees_split mesh tree cotree is_tree heavy.joins_faces.spans heavy.outside

  precedes_below : (weight : ℕ → ℕ) (a b : ℕ) → precedes weight a b ≡ true → weight a ≤ weight b
  precedes_below weight a b h = grind (arith, nat_tests)

  pub is_heaviest : IsHeaviest (cells_of mesh) (edge_length lengths) (split_of mesh tree cotree)
  is_heaviest k e lk le on parted =
      let is = left_each mesh tree cotree k lk in
      let l = get_or (left_edges mesh tree cotree) k 0 in
      precedes_below (loop_length mesh lengths tree) l e (heavy.heaviest l e is.0 (rw (is.1, is.2) refl) parted)

-- ---- there is one such tree

-- an edge of the way between two nodes leaves a set that has just one of them
crossing : (g : Graph) (t : Tree) → IsTree g t → (set : ℕ → Bool) (a b : ℕ) → a < g.nodes → b < g.nodes →
    xor (set a) (set b) ≡ true →
    (e : ℕ) × (e < g.edges) × (leaves g set e ≡ true) × (between t a b e ≡ true)
crossing g t is_tree set a b a_in b_in parted =
    let sums : odd_below g.edges (λ e. leaves g set e && between t a b e) ≡ true =
    odd_below-and-xor g.edges (leaves g set) (on_path t a) (on_path t b)
    ∙ ap (λ x. xor x (odd_below g.edges (λ e. leaves g set e && on_path t b e)))
    (sym (along_is g t (leaves g set) a) ∙ path_leaves g t is_tree set a a_in)
    ∙ ap (xor (xor (set a) (set t.root))) (sym (along_is g t (leaves g set) b) ∙ path_leaves g t is_tree set b b_in)
    ∙ xor_ends (set a) (set b) (set t.root) ∙ parted in
    let (e, l, both) = odd_below-found g.edges (λ x. leaves g set x && between t a b x) sums in
    let parts = and_parts (leaves g set e) (between t a b e) both in
    (e, l, parts.0, parts.1)

-- an edge between two nodes of a tree is in the tree
pub between_inside : (g : Graph) (t : Tree) → IsTree g t → (a b e : ℕ) → a < g.nodes → b < g.nodes →
    between t a b e ≡ true → in_tree g t e ≡ true
between_inside g t is_tree a b e a_in b_in on = elim (cases_Bool (in_tree g t e)) [
  | inl inside ↦ inside
  | inr out ↦ absurd (false≢true
      (sym (rw (path_inside g t is_tree e out a a_in, path_inside g t is_tree e out b b_in) refl) ∙ on))
]

not_both : (weight : ℕ → ℕ) (a b : ℕ) → precedes weight a b ≡ true → precedes weight b a ≡ true → ⊥
not_both weight a b h k = grind (arith, nat_tests)

-- the edges of one are edges of the other
inside_other : (mesh : Mesh) → IsSurface mesh → (lengths : List ℕ) (tree a b : Tree) →
    IsTree (primal (cells_of mesh)) tree → IsHeaviestCotree mesh lengths tree a → IsHeaviestCotree mesh lengths tree b →
    (c : ℕ) → c < edge_count mesh → cotree_edges mesh a c ≡ true → cotree_edges mesh b c ≡ true
inside_other mesh surface lengths tree a b is_tree x y c c_in on = elim (cases_Bool (cotree_edges mesh b c)) [
  | inl inside ↦ inside
  | inr out ↦
      let s = cells_of mesh in
      let g = dual s in
      let cells = (surfaces_are_cells mesh surface).complex in
      let faces = cells.dual_ends c c_in in
      let set : ℕ → Bool = λ f. on_path a f c in
      let (n, n_in, ne, is) = tree_edge g a c on in
      let parted : leaves g set c ≡ true =
      subst (λ e. leaves g (λ f. on_path a f e) e ≡ true) is
      (leaves_path g a x.joins_faces.spans n (a.up n) n_in ne ∙ eqb_same (a.up n)) in
      let (e, e_in, leaves_e, on_way) =
      crossing g b y.joins_faces.spans set (faces_of mesh c).0 (faces_of mesh c).1 faces.0 faces.1 parted in
      let e_faces = cells.dual_ends e e_in in
      let in_b : cotree_edges mesh b e ≡ true =
      between_inside g b y.joins_faces.spans (faces_of mesh c).0 (faces_of mesh c).1 e faces.0 faces.1 on_way in
      let other : e ≢ c = λ same. false≢true (sym out ∙ ap (cotree_edges mesh b) (sym same) ∙ in_b) in
      let not_in_a : cotree_edges mesh a e ≡ false =
      false_from_ne_true (cotree_edges mesh a e)
      (λ in_a. false≢true (sym (beyond s (split_of mesh tree a) (is_split mesh lengths tree a x is_tree) c e other in_a)
      ∙ leaves_e)) in
      let c_left : is_left mesh tree b c ≡ true = rw (x.outside c c_in on, out) refl in
      let e_left : is_left mesh tree a e ≡ true = rw (y.outside e e_in in_b, not_in_a) refl in
      absurd (not_both (loop_length mesh lengths tree) c e (y.heaviest c e c_in c_left on_way)
      (x.heaviest e c e_in e_left leaves_e))
]
  where
    eqb_same : (n : ℕ) → eqb n n ≡ true
    eqb_same n = grind (arith, nat_tests)

same_edges : (mesh : Mesh) (lengths : List ℕ) (tree a b : Tree) → IsSurface mesh →
    IsTree (primal (cells_of mesh)) tree → IsHeaviestCotree mesh lengths tree a → IsHeaviestCotree mesh lengths tree b →
    (e : ℕ) → e < edge_count mesh → cotree_edges mesh a e ≡ cotree_edges mesh b e
same_edges mesh lengths tree a b surface is_tree x y e l =
    same_tests (cotree_edges mesh a e) (cotree_edges mesh b e)
    (inside_other mesh surface lengths tree a b is_tree x y e l)
    (inside_other mesh surface lengths tree b a is_tree y x e l)

pub cotrees_are_one : CotreesAreOne
cotrees_are_one mesh lengths tree a b surface is_tree x y =
    let g = dual (cells_of mesh) in
    let graph = (surfaces_are_cells mesh surface).complex.dual_ends in
    let root : a.root ≡ b.root = x.joins_faces.root ∙ sym y.joins_faces.root in
    let edges = same_edges mesh lengths tree a b surface is_tree x y in
    let parents : (f : ℕ) → f < face_count mesh → f ≢ 0 → a.parent f ≡ b.parent f =
    λ f l ne. parents_same g a b graph x.joins_faces.spans y.joins_faces.spans root edges f l (λ is. ne (is ∙ x.joins_faces.root)) in
    record {
      edges = edges;
      parents = parents;
      ups = λ f l ne. ups_same g a b graph x.joins_faces.spans y.joins_faces.spans root edges f l (λ is. ne (is ∙ x.joins_faces.root));
      depths = down_tree g a x.joins_faces.spans (λ f. a.rank f ≡ b.rank f)
          (ap a.rank x.joins_faces.root ∙ x.joins_faces.root_depth ∙ sym y.joins_faces.root_depth ∙ ap b.rank (sym x.joins_faces.root)) (λ f l ne above.
          let apart : f ≢ 0 = λ is. ne (is ∙ sym x.joins_faces.root) in
          x.joins_faces.depths f l apart ∙ ap (λ n. n + 1) (above ∙ ap b.rank (parents f l apart)) ∙ sym (y.joins_faces.depths f l apart));
    }

-- ---- what makes a tree heaviest

precedes_from : (weight : ℕ → ℕ) (a b : ℕ) → a ≢ b → is_no_later weight a b ≡ true → precedes weight a b ≡ true
precedes_from weight a b ne h = grind (arith, nat_tests)

pub heavy_cotrees_are_heaviest : HeavyCotreesAreHeaviest
heavy_cotrees_are_heaviest mesh lengths tree cotree surface joins_faces over heavy = record {
  joins_faces = joins_faces;
  outside = λ e l on.
      let (f, f_in, ne, is) = tree_edge (dual (cells_of mesh)) cotree e on in
      ap (tree_edges mesh tree) (sym is) ∙ over f f_in (λ z. ne (z ∙ sym joins_faces.root));
  heaviest = λ l c l_in left on.
      let faces = (surfaces_are_cells mesh surface).complex.dual_ends l l_in in
      let both = and_parts (not (tree_edges mesh tree l)) (not (cotree_edges mesh cotree l)) left in
      let c_in : cotree_edges mesh cotree c ≡ true =
      between_inside (dual (cells_of mesh)) cotree joins_faces.spans (faces_of mesh l).0 (faces_of mesh l).1 c faces.0 faces.1 on
      in
      let apart : l ≢ c = λ same. false≢true
      (sym (not-false_is (cotree_edges mesh cotree l) both.1) ∙ ap (cotree_edges mesh cotree) same ∙ c_in) in
      precedes_from (loop_length mesh lengths tree) l c apart
      (heavy l c l_in (not-false_is (tree_edges mesh tree l) both.0) on);
}
