-- Leaves are hung on the tree again, the last first.
use Rattle.surf_cotree.proofs.Common.{ℕ, suc, ◌<◌, ◌≤◌, ◌≡◌, ◌≢◌, ◌+◌, ◌-◌, ◌⊎◌, refl, sym, ap, ◌∙◌, subst, arith, inl, inr, List, length, set, Some, None, Bool, true, false, not, eqb, eq-eqb, ne_eqb, get_or-set_same, get_or-set_other, length-set, cases_eq, cases_Bool, and_parts, false≢true, not-true, xor, count_below, xor-same, on_path, one_of, joins_ends, joins_turned, Graph, IsGraph, joins, leaves, Grown, IsHeavy, inner_end, Entries, entry_of, IsEmpty, IsLeastEntry, nobody, at, heaviest, reached, lighter, spanned_tree, HasPair, IsOffered, IsWaiting, IsPrim, IsHeaviestTree, Leaf, leaf_at, left_after, IsLeaf, IsPeeled, IsHung}
use Rattle.surf_cotree.proofs.Growing.{Connects, turn_keeps, depth_fits, prim_ends}
use Rattle.surf_cotree.proofs.Pairs.{no_entry, same_pair}

-- the ends of an edge by two nodes that it joins
pub other_end : (g : Graph) (f a u w e : ℕ) → joins g f a e ≡ true → joins g u w e ≡ true → ((u ≡ f) × (w ≡ a)) ⊎ ((u ≡ a) × (w ≡ f))
other_end g f a u w e one two = elim (one_of g f a e one) [
  | inl (from_f, to_a) ↦ elim (one_of g u w e two) [
    | inl (from_u, to_w) ↦ inl (sym from_u ∙ from_f, sym to_w ∙ to_a)
    | inr (from_w, to_u) ↦ inr (sym to_u ∙ to_a, sym from_w ∙ from_f)
  ]
  | inr (from_a, to_f) ↦ elim (one_of g u w e two) [
    | inl (from_u, to_w) ↦ inr (sym from_u ∙ from_a, sym to_w ∙ to_f)
    | inr (from_w, to_u) ↦ inl (sym to_u ∙ to_f, sym from_w ∙ from_a)
  ]
]

-- the reached and the other end of an edge that leaves the reached nodes
ends_of : (g : Graph) → IsGraph g → (r : ℕ → Bool) (l : ℕ) → l < g.edges → leaves g r l ≡ true →
    (u : ℕ) × (w : ℕ) × (u < g.nodes) × (w < g.nodes) × (joins g u w l ≡ true) × (r u ≡ true) × (r w ≡ false)
ends_of g graph r l ll out =
    let ends = graph l ll in
    elim (cases_Bool (r (g.from l))) [
      | inl yes_f ↦
          let no_t : r (g.to l) ≡ false = not-true (r (g.to l)) (rw yes_f at out) in
          (g.from l, g.to l, ends.0, ends.1, joins_ends g l, yes_f, no_t)
      | inr no_f ↦
          let yes_t : r (g.to l) ≡ true = rw no_f at out in
          (g.to l, g.from l, ends.1, ends.0, joins_turned g (g.from l) (g.to l) l (joins_ends g l), yes_t, no_f)
    ]

module _ (g : Graph) (allowed : ℕ → Bool) (weight : ℕ → ℕ) (graph : IsGraph g) (few : g.edges ≤ nobody) (small : g.nodes ≤ nobody) (list : List Leaf) (k : ℕ)
    (parent up depth : List ℕ) (h : IsHung g allowed weight list (suc k) parent up depth) where
  abbrev f : ℕ
  f = (leaf_at list k).face

  abbrev e : ℕ
  e = (leaf_at list k).edge

  abbrev rest : ℕ → Bool
  rest = left_after allowed list k

  pub leaf : IsLeaf g allowed list k
  leaf = h.leaf k (omega arith)

  abbrev pub on : ℕ
  on = (leaf_at list k).on

  -- the edge of the leaf is the one that came back
  came_back : (l : ℕ) → rest l ≡ true → (l ≡ e) ⊎ (left_after allowed list (suc k) l ≡ true)
  came_back l is_left = elim (cases_eq l e) [
    | inl same ↦ inl same
    | inr ne ↦ inr (rw (is_left, ne_eqb l e ne))
  ]

  pub unreached : reached depth f ≡ false
  unreached = elim (cases_Bool (reached depth f)) [
    | inl there ↦
        let above = h.prim.grown.edge f leaf.node_in there leaf.not_first in
        let both : (rest (at up f) ≡ true) × (not (eqb (at up f) e) ≡ true) = and_parts (rest (at up f)) (not (eqb (at up f) e)) above.1 in
        let same : at up f ≡ e = leaf.hangs.only (at up f) (at parent f) above.0 both.0 (h.prim.grown.joined f leaf.node_in there leaf.not_first) in
        absurd (false≢true (sym (rw (eq-eqb (at up f) e same)) ∙ both.1))
    | inr out ↦ out
  ]

  no_way : (u w l : ℕ) → u < g.nodes → w < g.nodes → l < g.edges → left_after allowed list (suc k) l ≡ true → joins g u w l ≡ true → reached depth u ≡ true → reached depth w ≡ false → ⊥
  no_way u w l lu lw ll al join ru out =
      let p = h.prim.offered u w l lu lw ll al join ru out in
      no_entry (entry_of h.heap w) p.key p.tie (h.empty w) p.entry

  -- an edge that leaves the reached nodes is that of the leaf
  leaving_is : (l : ℕ) → l < g.edges → rest l ≡ true → leaves g (reached depth) l ≡ true → l ≡ e
  leaving_is l ll is_left out = elim (came_back l is_left) [
    | inl same ↦ same
    | inr old ↦
        let (u, w, lu, lw, join, ru, rw_) = ends_of g graph (reached depth) l ll out in
        absurd (no_way u w l lu lw ll old join ru rw_)
  ]

  grown : Grown g rest (reached depth) (spanned_tree 0 parent up depth)
  grown =
      let old = h.prim.grown in
      record {
        root_in = old.root_in;
        root_reached = old.root_reached;
        inside = old.inside;
        edge = λ n l rn ne. let was = old.edge n l rn ne in (was.0, (and_parts (rest (at up n)) (not (eqb (at up n) e)) was.1).0);
        joined = old.joined;
        falls = old.falls;
      }

  heavy : IsHeavy g rest (reached depth) (spanned_tree 0 parent up depth) (lighter weight)
  heavy = record {
    inside = λ l c ll is_left rf rt between. elim (came_back l is_left) [
      | inl same ↦ elim (other_end g f on (g.from l) (g.to l) l (subst (λ x. joins g f on x ≡ true) (sym same) leaf.hangs.joined) (joins_ends g l)) [
        | inl (is_f, _) ↦ absurd (false≢true (sym unreached ∙ (ap (reached depth) (sym is_f) ∙ rf)))
        | inr (_, is_f) ↦ absurd (false≢true (sym unreached ∙ (ap (reached depth) (sym is_f) ∙ rt)))
      ]
      | inr old ↦ h.prim.heavy.inside l c ll old rf rt between
    ];
    leaving = λ l m c ll lm is_left m_left out_l out_m between.
        let same : l ≡ m = leaving_is l ll is_left out_l ∙ sym (leaving_is m lm m_left out_m) in
        absurd (false≢true (sym (xor-same (on_path (spanned_tree 0 parent up depth) (inner_end g (reached depth) m) c)) ∙ subst (λ x. xor (on_path (spanned_tree 0 parent up depth) (inner_end g (reached depth) x) c) (on_path (spanned_tree 0 parent up depth) (inner_end g (reached depth) m) c) ≡ true) same between));
  }

  -- a heap in which the leaf alone may wait, by its edge
  module _ (heap : Entries) (waits : (w x t : ℕ) → entry_of heap w ≡ Some (x, t) → IsWaiting g rest weight (reached depth) w x t)
      (has : reached depth on ≡ true → HasPair heap f (heaviest - weight e) (nobody - e)) where
    widened : IsPrim g rest weight (reached depth) (spanned_tree 0 parent up depth) heap (count_below g.nodes (λ v. eqb (at depth v) nobody))
    widened = record {
      grown = grown;
      heavy = heavy;
      waiting = waits;
      offered = λ u w l lu lw ll is_left join ru out. elim (came_back l is_left) [
        | inl same ↦ elim (other_end g f on u w e leaf.hangs.joined (subst (λ x. joins g u w x ≡ true) same join)) [
          | inl (u_is, _) ↦ absurd (false≢true (sym unreached ∙ (ap (reached depth) (sym u_is) ∙ ru)))
          | inr (u_is, w_is) ↦
              let pair = has (ap (reached depth) (sym u_is) ∙ ru) in
              subst (λ x. HasPair heap x (heaviest - weight l) (nobody - l)) (sym w_is) (subst (λ x. HasPair heap f (heaviest - weight x) (nobody - x)) (sym same) pair)
        ]
        | inr old ↦ absurd (no_way u w l lu lw ll old join ru out)
      ];
      shallow = h.prim.shallow;
      root_rank = h.prim.root_rank;
      deep = h.prim.deep;
    }

  -- where the node that a leaf hangs on isn't reached, nothing changes
  pub hang_none : reached depth on ≡ false → IsHung g allowed weight list k parent up depth
  hang_none away = record {
    light = h.light;
    few = let l = h.few in omega arith;
    leaf = λ j l. h.leaf j (omega arith);
    root = h.root;
    heap = h.heap;
    places = h.places;
    empty = h.empty;
    prim = widened h.heap (λ w x t is. absurd (no_entry (entry_of h.heap w) x t (h.empty w) is)) (λ there. absurd (false≢true (sym away ∙ there)));
  }

  -- where it is, the leaf becomes the next node
  module _ (there : reached depth on ≡ true) where
    abbrev key : ℕ
    key = heaviest - weight e

    abbrev tie : ℕ
    tie = nobody - e

    abbrev offered : Entries
    offered = set h.heap f (Some (key, tie))

    in_heap : f < length h.heap
    in_heap = let l = leaf.node_in in let p = h.places in omega arith

    at_leaf : entry_of offered f ≡ Some (key, tie)
    at_leaf = get_or-set_same h.heap f (Some (key, tie)) None in_heap

    elsewhere : (w : ℕ) → w ≢ f → entry_of offered w ≡ None
    elsewhere w ne = get_or-set_other h.heap f w (Some (key, tie)) None ne ∙ h.empty w

    leaf_alone : (w x t : ℕ) → entry_of offered w ≡ Some (x, t) → (w ≡ f) × (x ≡ key) × (t ≡ tie)
    leaf_alone w x t is = elim (cases_eq w f) [
      | inl same ↦
          let both = same_pair (entry_of offered w) x t key tie is (ap (entry_of offered) same ∙ at_leaf) in
          (same, both.0, both.1)
      | inr ne ↦ absurd (no_entry (entry_of offered w) x t (elsewhere w ne) is)
    ]

    waits : (w x t : ℕ) → entry_of offered w ≡ Some (x, t) → IsWaiting g rest weight (reached depth) w x t
    waits w x t is =
        let (same, x_is, t_is) = leaf_alone w x t is in
        let light : weight e ≤ heaviest = h.light e in
        let le : e < g.edges = leaf.hangs.edge_in in
        record {
          within = subst (λ v. v < g.nodes) (sym same) leaf.node_in;
          free = ap (reached depth) same ∙ unreached;
          before = on;
          edge = e;
          before_in = leaf.hangs.other_in;
          before_reached = there;
          bridge = record {
            edge_in = le;
            allowed_edge = leaf.hangs.is_left;
            joined = subst (λ v. joins g v on e ≡ true) (sym same) leaf.hangs.joined;
            key_is = omega arith;
            tie_is = omega arith;
          };
        }

    search : IsPrim g rest weight (reached depth) (spanned_tree 0 parent up depth) offered (count_below g.nodes (λ v. eqb (at depth v) nobody))
    search = widened offered waits (λ _. record { key = key; tie = tie; entry = at_leaf; bound = inr (refl, omega arith) })

    least : IsLeastEntry offered f key tie
    least = record {
      within = let long = length-set h.heap f (Some (key, tie)) in let l = in_heap in omega arith;
      holds = at_leaf;
      least = λ w x t is. let (same, x_is, t_is) = leaf_alone w x t is in inr (sym x_is, inr (sym t_is, omega arith));
    }

    -- what was taken is the leaf by its edge
    taken_is : (w : IsWaiting g rest weight (reached depth) f key tie) → (on ≡ w.before) × (e ≡ w.edge)
    taken_is w =
        let same : w.edge ≡ e = leaf.hangs.only w.edge w.before w.bridge.edge_in w.bridge.allowed_edge w.bridge.joined in
        elim (other_end g f on f w.before e leaf.hangs.joined (subst (λ x. joins g f w.before x ≡ true) same w.bridge.joined)) [
          | inl (_, before_on) ↦ (sym before_on, sym same)
          | inr (f_on, _) ↦ absurd (false≢true (sym unreached ∙ (ap (reached depth) f_on ∙ there)))
        ]

    module _ (lp : length parent ≡ g.nodes) (lu : length up ≡ g.nodes) (ld : length depth ≡ g.nodes) where
      pub hang_fits : at depth on + 1 < g.nodes
      hang_fits =
          let w : IsWaiting g rest weight (reached depth) f key tie = search.waiting f key tie at_leaf in
          let fits = depth_fits g rest weight graph few h.light small 0 parent up depth offered f key tie lp lu ld search least in
          subst (λ x. at depth x + 1 < g.nodes) (sym (taken_is (search.waiting f key tie least.holds)).0) fits

      abbrev emptied : Entries
      emptied = set offered f None

      in_emptied : (w : ℕ) → entry_of emptied w ≡ None
      in_emptied w = elim (cases_eq w f) [
        | inl same ↦ ap (entry_of emptied) same ∙ get_or-set_same offered f None None least.within
        | inr ne ↦ get_or-set_other offered f w None None ne ∙ elsewhere w ne
      ]

      abbrev d : ℕ
      d = at depth on + 1

      -- the new node has no other edge that is left
      no_other : IsOffered g rest weight (reached (set depth f d)) f emptied emptied
      no_other = record {
        same_length = refl;
        came = λ w x t is. inl is;
        kept = λ w x t is. record { key = x; tie = t; entry = is; bound = inr (refl, omega arith) };
        offered = λ w l ll is_left join out.
            let same : l ≡ e = leaf.hangs.only l w ll is_left join in
            let apart : on ≢ f = λ is. false≢true (sym unreached ∙ (ap (reached depth) (sym is) ∙ there)) in
            let is_on : w ≡ on = elim (other_end g f on f w e leaf.hangs.joined (subst (λ x. joins g f w x ≡ true) same join)) [
              | inl (_, w_is) ↦ w_is
              | inr (f_is, _) ↦ absurd (apart (sym f_is))
            ] in
            let still : reached (set depth f d) on ≡ true = rw (get_or-set_other depth f on d 0 apart) there in
            absurd (false≢true (sym out ∙ (ap (reached (set depth f d)) is_on ∙ still)));
      }

      pub hang_one : IsHung g allowed weight list k (set parent f on) (set up f e) (set depth f (at depth on + 1))
      hang_one =
          let same = taken_is (search.waiting f key tie least.holds) in
          record {
            light = h.light;
            few = let l = h.few in omega arith;
            leaf = λ j l. h.leaf j (omega arith);
            root = get_or-set_other up f 0 e 0 (λ is. leaf.not_first (sym is)) ∙ h.root;
            heap = emptied;
            places = length-set offered f None ∙ (length-set h.heap f (Some (key, tie)) ∙ h.places);
            empty = in_emptied;
            prim = turn_keeps g rest weight graph few h.light small 0 parent up depth offered f key tie lp lu ld search least on e d emptied emptied same.0 same.1 refl refl no_other;
          }

-- one turn of the hanging, over the tables
module _ (g : Graph) (allowed : ℕ → Bool) (weight : ℕ → ℕ) (graph : IsGraph g) (few : g.edges ≤ nobody) (small : g.nodes ≤ nobody) (list : List Leaf) (k : ℕ)
    (parent up depth : List ℕ) (h : IsHung g allowed weight list k parent up depth) (some : 0 < k) (x : Leaf) (is : x ≡ leaf_at list (k - 1)) where
  before : IsHung g allowed weight list (suc (k - 1)) parent up depth
  before = let e : suc (k - 1) ≡ k = omega arith in subst (λ n. IsHung g allowed weight list n parent up depth) (sym e) h

  abbrev last : IsLeaf g allowed list (k - 1)
  last = leaf g allowed weight graph few small list (k - 1) parent up depth before

  pub face_in : x.face < g.nodes
  face_in = subst (λ (y : Leaf). y.face < g.nodes) (sym is) last.node_in

  pub next_in : x.on < g.nodes
  next_in = subst (λ (y : Leaf). y.on < g.nodes) (sym is) last.hangs.other_in

  pub turn_free : reached depth x.face ≡ false
  turn_free = subst (λ (y : Leaf). reached depth y.face ≡ false) (sym is) (unreached g allowed weight graph few small list (k - 1) parent up depth before)

  pub turn_joined : joins g x.face x.on x.edge ≡ true
  turn_joined = subst (λ (y : Leaf). joins g y.face y.on y.edge ≡ true) (sym is) last.hangs.joined

  pub turn_none : reached depth x.on ≡ false → IsHung g allowed weight list (k - 1) parent up depth
  turn_none away = hang_none g allowed weight graph few small list (k - 1) parent up depth before (subst (λ (y : Leaf). reached depth y.on ≡ false) is away)

  module _ (lp : length parent ≡ g.nodes) (lu : length up ≡ g.nodes) (ld : length depth ≡ g.nodes) (there : reached depth x.on ≡ true) where
    there_too : reached depth (leaf_at list (k - 1)).on ≡ true
    there_too = subst (λ (y : Leaf). reached depth y.on ≡ true) is there

    pub turn_fits : at depth x.on + 1 < g.nodes
    turn_fits = subst (λ (y : Leaf). at depth y.on + 1 < g.nodes) (sym is) (hang_fits g allowed weight graph few small list (k - 1) parent up depth before there_too lp lu ld)

    pub turn_one : IsHung g allowed weight list (k - 1) (set parent x.face x.on) (set up x.face x.edge) (set depth x.face (at depth x.on + 1))
    turn_one = subst (λ (y : Leaf). IsHung g allowed weight list (k - 1) (set parent y.face y.on) (set up y.face y.edge) (set depth y.face (at depth y.on + 1))) (sym is) (hang_one g allowed weight graph few small list (k - 1) parent up depth before there_too lp lu ld)

-- before the first turn
pub hung_first : (g : Graph) (allowed : ℕ → Bool) (weight : ℕ → ℕ) → ((e : ℕ) → weight e ≤ heaviest) → (list : List Leaf) (n : ℕ) (rest : ℕ → Bool) → IsPeeled g allowed list n rest → (parent up depth : List ℕ) (heap : Entries) → length heap ≡ g.nodes → IsEmpty heap → at up 0 ≡ nobody →
    IsPrim g rest weight (reached depth) (spanned_tree 0 parent up depth) heap (count_below g.nodes (λ v. eqb (at depth v) nobody)) → IsHung g allowed weight list n parent up depth
hung_first g allowed weight light list n rest peeled parent up depth heap places empty root prim =
    let same : rest ≡ left_after allowed list n = λ i. λ e. peeled.rest_is e i in
    record {
      light = light;
      few = peeled.few;
      leaf = peeled.leaf;
      root = root;
      heap = heap;
      places = places;
      empty = empty;
      prim = subst (λ r. IsPrim g r weight (reached depth) (spanned_tree 0 parent up depth) heap (count_below g.nodes (λ v. eqb (at depth v) nobody))) same prim;
    }

-- when all leaves have been hung, the tree is heaviest
pub hung_all : (g : Graph) (allowed : ℕ → Bool) (weight : ℕ → ℕ) → IsGraph g → g.edges ≤ nobody → (list : List Leaf) (parent up depth : List ℕ) → IsHung g allowed weight list 0 parent up depth → Connects g allowed → IsHeaviestTree g allowed weight (spanned_tree 0 parent up depth)
hung_all g allowed weight graph few list parent up depth h joined =
    prim_ends g allowed weight graph few h.light (reached depth) (spanned_tree 0 parent up depth) h.heap _ h.prim joined h.empty
