-- The classes of the ways from the base of a search, vertex by vertex.
use Rattle.surf_finder.proofs.Common.{◌≡◌, ◌≢◌, ℕ, ◌<◌, ◌≤◌, ◌+◌, true, false, List, length, slice_index, bit_xor, get_or, sym, ap, ◌∙◌, subst, arith, inl, inr, eq-eqb, ◌==◌, cases_eq, cases_lt, leb-true, le-leb, nat_tests, get_or_read, Tree, Mesh, edge_count, IsSurface, ArePositive, edge_number, IsShortestTree, edge_signature, choice_exists, shortest_is_tree, way_class, way_none, way_more, SignTables, NearTables, IsNear, IsNearTo, is_near, WayTables, class_at, IsWayAt, AreWays, IsNumbered, HasParent}
use Rattle.std.specs.Int.Bits.{xor_comm}
use Rattle.surf_finder.proofs.Climbed.{at_edge}

-- the first of those that were settled have it
abbrev pub AreWaysTo : Mesh → List ℕ → ℕ → SignTables → NearTables → WayTables → ℕ → Type 0
AreWaysTo mesh lengths base s t w count =
    (j : ℕ) → j < count → IsWayAt mesh lengths base s w (slice_index t.settled j)

-- one of those that were settled
pub item_settled : (xs settled : List ℕ) (i v : ℕ) → xs ≡ settled → i < length xs → v ≡ get_or xs i v →
    (i < length settled) × (v ≡ slice_index settled i)
item_settled xs settled i v same l is =
    (subst (λ (ys : List ℕ). i < length ys) same l, get_or_read xs i v l is 0 ∙ ap (λ (ys : List ℕ). slice_index ys i) same)

-- as far as a distance the parents of a search are those of the tree
pub near_parent : (mesh : Mesh) (lengths : List ℕ) (base far : ℕ) (tree : Tree) (t : NearTables) →
    IsShortestTree mesh lengths base tree → IsNearTo mesh lengths base far tree t → (v : ℕ) → v < mesh.vertices →
    tree.rank v ≤ far → v ≢ base → (slice_index t.parents v ≡ tree.parent v) × (slice_index t.ups v ≡ tree.up v)
near_parent mesh lengths base far tree t short n v v_in within ne =
    let down : slice_index t.parents v ≤ tree.parent v =
    n.tables.least (tree.parent v) v v_in within ne (short.tight v v_in ne) in
    let up : tree.parent v ≤ slice_index t.parents v =
    short.least (slice_index t.parents v) v v_in ne (n.tables.tight v v_in within ne) in
    let same : slice_index t.parents v ≡ tree.parent v = omega arith in (
      same,
      n.tables.up v v_in within ne ∙ ap (λ p. edge_number mesh (p, v)) same ∙ sym (short.up v v_in ne),
    )

module _ (mesh : Mesh) (lengths : List ℕ) (surface : IsSurface mesh) (positive : ArePositive mesh lengths) (base far : ℕ)
    (base_in : base < mesh.vertices) (s : SignTables) (t : NearTables) (near : IsNear mesh lengths base far t) where
  -- what is known of one tree
  one_tree : (tree : Tree) × IsShortestTree mesh lengths base tree
  one_tree = let (trees, chosen) = choice_exists mesh lengths surface positive in ((trees base).tree, (chosen base base_in).shortest)

  -- the parent of one that was settled was settled before
  parent_before : (i : ℕ) → i < length t.settled → slice_index t.settled i ≢ base →
      (j : ℕ) × (j < i) × (slice_index t.settled j ≡ slice_index t.parents (slice_index t.settled i))
  parent_before i l ne = let (tree, short) = one_tree in
      elim ((near.near tree short).order i l) [ inl is ↦ absurd (ne is) | inr r ↦ r ]

  pub settled_in : (i : ℕ) → i < length t.settled → slice_index t.settled i < mesh.vertices
  settled_in i l = let (tree, short) = one_tree in ((near.near tree short).inside i l).0

  pub settled_near : (i : ℕ) → i < length t.settled → is_near t (slice_index t.settled i) ≡ true
  settled_near i l = let (tree, short) = one_tree in
      let n = near.near tree short in
      let (v_in, within) = n.inside i l in
      n.is_near (slice_index t.settled i) v_in ∙ le-leb (tree.rank (slice_index t.settled i)) far within

  -- so it has a class
  pub has_parent : (w : WayTables) (i v : ℕ) → i < length t.settled → v ≡ slice_index t.settled i →
      length w.numbers ≡ mesh.vertices → length s.signatures ≡ edge_count mesh → AreWaysTo mesh lengths base s t w i →
      v ≢ base → HasParent s t w v
  has_parent w i v l at count signs ways ne =
      let (tree, short) = one_tree in
      let n = near.near tree short in
      let inside = n.inside i l in
      let ne' : slice_index t.settled i ≢ base = λ e. ne (at ∙ e) in
      let (j, before, is) = parent_before i l ne' in
      let is_tree = shortest_is_tree mesh lengths base tree surface positive short in
      let off : slice_index t.settled i ≢ tree.root = λ e. ne' (e ∙ short.root) in
      let up = near_parent mesh lengths base far tree t short n (slice_index t.settled i) inside.0 inside.1 ne' in
      let parent_in : tree.parent (slice_index t.settled i) < mesh.vertices = is_tree.parent_in (slice_index t.settled i) inside.0 off in
      let up_in : tree.up (slice_index t.settled i) < edge_count mesh = is_tree.up_in (slice_index t.settled i) inside.0 off in
      subst (HasParent s t w) (sym at) (record {
        parent = omega (arith, up.0, parent_in, count);
        numbered = subst (λ p. slice_index w.numbers p < length w.classes) is (ways j before).numbered;
        up = omega (arith, up.1, up_in, signs);
      })

  -- one more has its class
  way_numbered : (w next : WayTables) (i v : ℕ) → i < length t.settled → v ≡ slice_index t.settled i →
      AreWaysTo mesh lengths base s t w i → IsNumbered s t base v w next → IsWayAt mesh lengths base s next v
  way_numbered w next i v l at ways step = record {
    numbered = step.numbered;
    class = λ d are tree short.
        (let n = near.near tree short in
        let inside = n.inside i l in
        let is_tree = shortest_is_tree mesh lengths base tree surface positive short in
        let v_in : v < mesh.vertices = omega (arith, at, inside.0) in
        let within : tree.rank v ≤ far = subst (λ x. tree.rank x ≤ far) (sym at) inside.1 in
        elim (cases_eq v base) [
          | inl same ↦
              let on : (v == base) ≡ true = eq-eqb v base same in
              let none : class_at next v ≡ 0 = rw on at step.class in
              none ∙ sym (ap (way_class mesh d tree) (same ∙ sym short.root) ∙ way_none mesh d tree)
          | inr ne ↦
              let off : (v == base) ≡ false = grind (arith, nat_tests) in
              let sum : class_at next v ≡ bit_xor (class_at w (slice_index t.parents v)) (slice_index s.signatures (slice_index t.ups v)) =
              rw off at step.class in
              let (j, before, is) = parent_before i l (λ e. ne (at ∙ e)) in
              let up = near_parent mesh lengths base far tree t short n v v_in within ne in
              let root : v ≢ tree.root = λ e. ne (e ∙ short.root) in
              let above : class_at w (slice_index t.parents v) ≡ way_class mesh d tree (tree.parent v) =
              ap (λ x. class_at w (slice_index t.parents x)) at
              ∙ ap (class_at w) (sym is) ∙ (ways j before).class d are tree short
              ∙ ap (way_class mesh d tree) (is ∙ ap (λ x. slice_index t.parents x) (sym at) ∙ up.0) in
              let own : slice_index s.signatures (slice_index t.ups v) ≡ edge_signature mesh d (tree.up v) =
              ap (slice_index s.signatures) up.1 ∙ at_edge mesh d s (tree.up v) are (is_tree.up_in v v_in root) in
              sum ∙ ap (λ a. bit_xor a (slice_index s.signatures (slice_index t.ups v))) above
              ∙ ap (bit_xor (way_class mesh d tree (tree.parent v))) own
              ∙ xor_comm (way_class mesh d tree (tree.parent v)) (edge_signature mesh d (tree.up v))
              ∙ sym (way_more mesh d tree is_tree v v_in root)
        ]);
  }

  -- and the others keep theirs
  pub ways_more : (w next : WayTables) (i v : ℕ) → i < length t.settled → v ≡ slice_index t.settled i →
      AreWaysTo mesh lengths base s t w i → IsNumbered s t base v w next → AreWaysTo mesh lengths base s t next (i + 1)
  ways_more w next i v l at ways step j before = elim (cases_eq (slice_index t.settled j) v) [
    | inl same ↦ subst (IsWayAt mesh lengths base s next) (sym same) (way_numbered w next i v l at ways step)
    | inr ne ↦
        let earlier : j < i = elim (cases_lt j i) [
          | inl less ↦ less
          | inr more ↦ let is : j ≡ i = omega arith in absurd (ne (ap (slice_index t.settled) is ∙ sym at))
        ] in
        let old = ways j earlier in
        let (numbered, same) = step.others (slice_index t.settled j) ne old.numbered in
        record { numbered = numbered; class = λ d are tree short. same ∙ old.class d are tree short }
  ]

  -- all that were reached have theirs
  pub ways_all : (w : WayTables) (i : ℕ) → length t.settled ≤ i → AreWaysTo mesh lengths base s t w i →
      AreWays mesh lengths base s t w
  ways_all w i past ways v v_in reached =
      let (tree, short) = one_tree in
      let n = near.near tree short in
      let within : tree.rank v ≤ far = leb-true (tree.rank v) far (sym (n.is_near v v_in) ∙ reached) in
      let (k, l, is) = n.all v v_in within in
      subst (IsWayAt mesh lengths base s w) (slice_at t.settled k v l is) (ways k (omega arith))
    where
      slice_at : (xs : List ℕ) (k v : ℕ) → k < length xs → get_or xs k v ≡ v → slice_index xs k ≡ v
      slice_at xs k v l is = sym (get_or_read xs k v l (sym is) 0)
