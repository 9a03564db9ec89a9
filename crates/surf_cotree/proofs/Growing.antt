use Rattle.surf_cotree.proofs.Common.{ℕ, suc, ◌<◌, ◌≤◌, ◌≡◌, ◌≢◌, ◌+◌, ◌-◌, ◌⊎◌, refl, sym, ap, ◌∙◌, subst, arith, inl, inr, List, length, set, None, Bool, true, false, cond, not, ◌&&◌, ◌||◌, eqb, ltb, leb, eq-eqb, ne_eqb, eqb-true, get_or-set_same, get_or-set_other, cases_eq, cases_Bool, lt-ltb, le-ltb, le-leb, leb-true, ltb-true, and_parts, or_cases, false≢true, not-true, Tree, IsTree, on_path, xor-same, joins_turned, joins_ends, count_below, count_below-without, count_below-same, count_below-all, Graph, IsGraph, joins, leaves, one_of, path_inside, with_node, with_edge, inner_end, between, Entries, entry_of, IsLeastEntry, IsEmpty, at, nobody, heaviest, IsPairUpTo, lighter, reached, HasPair, IsOffered, IsWaiting, IsPrim, spanned_tree, IsHeaviestTree}
use Rattle.surf_graphs.proofs.Growth.{grow_one, old_node}
use Rattle.surf_graphs.proofs.Heavy.{grow_heavy}
use Rattle.surf_cotree.proofs.Pairs.{no_entry, pair_trans, pair_from}

-- the allowed edges join all nodes
abbrev pub Connects : Graph → (ℕ → Bool) → Type 0
Connects g allowed = (set : ℕ → Bool) → ((e : ℕ) → e < g.edges → allowed e ≡ true → leaves g set e ≡ false) → (a b : ℕ) → a < g.nodes → b < g.nodes → set a ≡ set b

pub lighter_is : (weight : ℕ → ℕ) (l c : ℕ) → lighter weight l c ≡ true → (weight l < weight c) ⊎ ((weight l ≡ weight c) × (l ≤ c))
lighter_is weight l c h = elim (or_cases (ltb (weight l) (weight c)) (eqb (weight l) (weight c) && leb l c) h) [
  | inl less ↦ inl (ltb-true (weight l) (weight c) less)
  | inr both ↦
      let p : (eqb (weight l) (weight c) ≡ true) × (leb l c ≡ true) = and_parts (eqb (weight l) (weight c)) (leb l c) both in
      inr (eqb-true (weight l) (weight c) p.0, leb-true l c p.1)
]

pub lighter_from : (weight : ℕ → ℕ) (l c : ℕ) → (weight l < weight c) ⊎ ((weight l ≡ weight c) × (l ≤ c)) → lighter weight l c ≡ true
lighter_from weight l c h = elim h [
  | inl less ↦ rw (lt-ltb (weight l) (weight c) less)
  | inr (same, le) ↦ let more : weight c ≤ weight l = omega arith in rw (le-ltb (weight l) (weight c) more, eq-eqb (weight l) (weight c) same, le-leb l c le)
]

pub lighter_chain : (weight : ℕ → ℕ) (x y z : ℕ) → lighter weight x y ≡ true → lighter weight y z ≡ true → lighter weight x z ≡ true
lighter_chain weight x y z a b = lighter_from weight x z (elim (lighter_is weight x y a) [
  | inl l ↦ elim (lighter_is weight y z b) [ inl m ↦ inl (omega arith) | inr (e, m) ↦ inl (omega arith) ]
  | inr (e, l) ↦ elim (lighter_is weight y z b) [ inl m ↦ inl (omega arith) | inr (e2, m) ↦ inr (e ∙ e2, omega arith) ]
])

pair_lighter : (weight : ℕ → ℕ) (k t l e : ℕ) → k + weight e ≡ heaviest → t + e ≡ nobody → weight l ≤ heaviest → l ≤ nobody → IsPairUpTo k t (heaviest - weight l) (nobody - l) → lighter weight l e ≡ true
pair_lighter weight k t l e is_k is_t wl ll h = lighter_from weight l e (elim h [
  | inl less ↦ inl (omega arith)
  | inr (same, le) ↦ inr (omega arith, omega arith)
])

with_old : (r : ℕ → Bool) (b n : ℕ) → r n ≡ true → with_node r b n ≡ true
with_old r b n h = rw h (any_true (eqb n b))
  where
    any_true : (x : Bool) → (x || true) ≡ true
    any_true true = refl
    any_true false = refl

not_old : (r : ℕ → Bool) (b n : ℕ) → with_node r b n ≡ false → r n ≡ false
not_old r b n h = elim (cases_Bool (r n)) [
  | inl yes_r ↦ absurd (false≢true (sym h ∙ with_old r b n yes_r))
  | inr no_r ↦ no_r
]

-- the ends of an edge between a new and a reached node
pub leaving : (g : Graph) (r : ℕ → Bool) (b a e : ℕ) → joins g b a e ≡ true → r b ≡ false → r a ≡ true → (leaves g r e ≡ true) × (inner_end g r e ≡ a)
leaving g r b a e join rb ra = elim (one_of g b a e join) [
  | inl (from_b, to_a) ↦ rw (from_b, to_a, rb, ra) (refl, refl)
  | inr (from_a, to_b) ↦ rw (from_a, to_b, rb, ra) (refl, refl)
]

module _ (g : Graph) (allowed : ℕ → Bool) (weight : ℕ → ℕ) (graph : IsGraph g) (few : g.edges ≤ nobody) (light : (e : ℕ) → weight e ≤ heaviest) where
  module _ (r : ℕ → Bool) (tree : Tree) (heap mid new : Entries) (left f k t : ℕ)
      (s : IsPrim g allowed weight r tree heap (suc left)) (least : IsLeastEntry heap f k t) (next : IsWaiting g allowed weight r f k t) (took : mid ≡ set heap f None) (done : IsOffered g allowed weight (with_node r f) f mid new) where
    in_mid : (w : ℕ) → w ≢ f → entry_of mid w ≡ entry_of heap w
    in_mid w ne = ap (λ h. entry_of h w) took ∙ get_or-set_other heap f w None None ne

    at_mid : entry_of mid f ≡ None
    at_mid = ap (λ h. entry_of h f) took ∙ get_or-set_same heap f None None least.within

    keeps_pair : (w a b : ℕ) → w ≢ f → HasPair heap w a b → HasPair new w a b
    keeps_pair w a b ne h =
        let n = done.kept w h.key h.tie (in_mid w ne ∙ h.entry) in
        record { key = n.key; tie = n.tie; entry = n.entry; bound = pair_trans n.key n.tie h.key h.tie a b n.bound h.bound }

    pair_bound : (l w : ℕ) → l < g.edges → HasPair heap w (heaviest - weight l) (nobody - l) → lighter weight l next.edge ≡ true
    pair_bound l w ll h =
        let up_to : IsPairUpTo k t h.key h.tie = pair_from k t f h.key h.tie w (least.least w h.key h.tie h.entry) in
        pair_lighter weight k t l next.edge next.bridge.key_is next.bridge.tie_is (light l) (omega arith) (pair_trans k t h.key h.tie (heaviest - weight l) (nobody - l) up_to h.bound)

    apart : (n : ℕ) → r n ≡ true → n ≢ f
    apart n rn same = false≢true (sym next.free ∙ (ap r (sym same) ∙ rn))

    most : (l : ℕ) → l < g.edges → allowed l ≡ true → leaves g r l ≡ true → lighter weight l next.edge ≡ true
    most l ll al out =
        let ends = graph l ll in
        elim (cases_Bool (r (g.from l))) [
          | inl yes_f ↦
              let no_t : r (g.to l) ≡ false = not-true (r (g.to l)) (rw yes_f at out) in
              pair_bound l (g.to l) ll (s.offered (g.from l) (g.to l) l ends.0 ends.1 ll al (joins_ends g l) yes_f no_t)
          | inr no_f ↦
              let yes_t : r (g.to l) ≡ true = rw no_f at out in
              pair_bound l (g.from l) ll (s.offered (g.to l) (g.from l) l ends.1 ends.0 ll al (joins_turned g (g.from l) (g.to l) l (joins_ends g l)) yes_t no_f)
        ]

    pub prim_step : IsPrim g allowed weight (with_node r f) (with_edge tree next.before f next.edge (suc (tree.rank next.before))) new left
    prim_step =
        let a = next.before in
        let e = next.edge in
        let b = next.bridge in
        let l = leaving g r f a e b.joined next.free next.before_reached in
        let more : tree.rank a < suc (tree.rank a) = omega arith in
        record {
          grown = grow_one g allowed r tree s.grown a f e (suc (tree.rank a)) more next.before_in next.within b.edge_in b.allowed_edge next.before_reached next.free b.joined;
          heavy = grow_heavy g allowed r tree (lighter weight) graph (lighter_chain weight) s.grown s.heavy a f e (suc (tree.rank a)) more next.before_in b.edge_in b.allowed_edge next.before_reached next.free l.0 l.1 most;
          waiting = λ w k2 t2 h. elim (done.came w k2 t2 h) [
            | inl old ↦
                let ne : w ≢ f = λ same. no_entry (entry_of mid w) k2 t2 (ap (entry_of mid) same ∙ at_mid) old in
                let o = s.waiting w k2 t2 (sym (in_mid w ne) ∙ old) in
                record {
                  within = o.within;
                  free = rw (ne_eqb w f ne) o.free;
                  before = o.before;
                  edge = o.edge;
                  before_in = o.before_in;
                  before_reached = with_old r f o.before o.before_reached;
                  bridge = o.bridge;
                }
            | inr (lw, free, (e2, bridge)) ↦ record { within = lw; free = free; before = f; edge = e2; before_in = next.within; before_reached = rw (eq-eqb f f refl); bridge = bridge }
          ];
          offered = λ u w e2 lu lw le al join ru rw_. elim (cases_eq u f) [
            | inl same ↦ done.offered w e2 le al (rw same at join) rw_
            | inr ne ↦
                let nw : w ≢ f = λ same. false≢true (sym rw_ ∙ (ap (with_node r f) same ∙ rw (eq-eqb f f refl))) in
                keeps_pair w (heaviest - weight e2) (nobody - e2) nw (s.offered u w e2 lu lw le al join (old_node r f u ne ru) (not_old r f w rw_))
          ];
          shallow = λ u lu ru. elim (cases_eq u f) [
            | inl same ↦ let d : tree.rank a + suc left < g.nodes = s.shallow a next.before_in next.before_reached in rw (eq-eqb u f same) (omega arith)
            | inr ne ↦ let d : tree.rank u + suc left < g.nodes = s.shallow u lu (old_node r f u ne ru) in rw (ne_eqb u f ne) (omega arith)
          ];
          root_rank = rw (ne_eqb tree.root f (apart tree.root s.grown.root_reached)) s.root_rank;
          deep = λ u lu ru nr. elim (cases_eq u f) [
            | inl same ↦ rw (eq-eqb u f same, ne_eqb a f (apart a next.before_reached))
            | inr ne ↦
                let old = old_node r f u ne ru in
                let above : r (tree.parent u) ≡ true = (s.grown.inside u lu old nr).1 in
                rw (ne_eqb u f ne, ne_eqb (tree.parent u) f (apart (tree.parent u) above)) (s.deep u lu old nr)
          ];
        }

  -- before the first edge is taken
  pub prim_begins : (r : ℕ → Bool) (tree : Tree) (old new : Entries) (left : ℕ) → tree.root < g.nodes → r tree.root ≡ true → ((n : ℕ) → n < g.nodes → r n ≡ true → n ≡ tree.root) → tree.rank tree.root ≡ 0 → tree.rank tree.root + left < g.nodes → IsEmpty old →
      IsOffered g allowed weight r tree.root old new → IsPrim g allowed weight r tree new left
  prim_begins r tree old new left in_range first only zero_rank fits empty done = record {
    grown = record {
      root_in = in_range;
      root_reached = first;
      inside = λ n l rn ne. absurd (ne (only n l rn));
      edge = λ n l rn ne. absurd (ne (only n l rn));
      joined = λ n l rn ne. absurd (ne (only n l rn));
      falls = λ n l rn ne. absurd (ne (only n l rn));
    };
    heavy = record {
      inside = λ l c ll al rf rt on. absurd (false≢true (sym (xor-same (on_path tree tree.root c)) ∙ rw (only (g.from l) (graph l ll).0 rf, only (g.to l) (graph l ll).1 rt) at on));
      leaving = λ l m c ll lm al am out_l out_m on. absurd (false≢true (sym (xor-same (on_path tree tree.root c)) ∙ rw (only (inner_end g r l) (inner_in l ll out_l).0 (inner_in l ll out_l).1, only (inner_end g r m) (inner_in m lm out_m).0 (inner_in m lm out_m).1) at on));
    };
    waiting = λ w k t h. elim (done.came w k t h) [
      | inl was ↦ absurd (no_entry (entry_of old w) k t (empty w) was)
      | inr (lw, free, (e, bridge)) ↦ record { within = lw; free = free; before = tree.root; edge = e; before_in = in_range; before_reached = first; bridge = bridge }
    ];
    offered = λ u w e lu lw le al join ru rw_. let same : u ≡ tree.root = only u lu ru in done.offered w e le al (rw same at join) rw_;
    shallow = λ u lu ru. rw (only u lu ru) fits;
    root_rank = zero_rank;
    deep = λ u lu ru nr. absurd (nr (only u lu ru));
  }
    where
      inner_in : (l : ℕ) → l < g.edges → leaves g r l ≡ true → (inner_end g r l < g.nodes) × (r (inner_end g r l) ≡ true)
      inner_in l ll out = elim (cases_Bool (r (g.from l))) [
        | inl yes_f ↦ rw yes_f ((graph l ll).0, yes_f)
        | inr no_f ↦ let yes_t : r (g.to l) ≡ true = rw no_f at out in rw no_f ((graph l ll).1, yes_t)
      ]

  module _ (r : ℕ → Bool) (tree : Tree) (heap : Entries) (left : ℕ) (s : IsPrim g allowed weight r tree heap left) (joined : Connects g allowed) (empty : IsEmpty heap) where
    no_way : (u w e : ℕ) → u < g.nodes → w < g.nodes → e < g.edges → allowed e ≡ true → joins g u w e ≡ true → r u ≡ true → r w ≡ false → ⊥
    no_way u w e lu lw le al join ru out = let h = s.offered u w e lu lw le al join ru out in no_entry (entry_of heap w) h.key h.tie (empty w) h.entry

    stays : (e : ℕ) → e < g.edges → allowed e ≡ true → leaves g r e ≡ false
    stays e le al =
        let ends = graph e le in
        let there = joins_ends g e in
        elim (cases_Bool (r (g.from e))) [
          | inl yes_f ↦ elim (cases_Bool (r (g.to e))) [
            | inl yes_t ↦ rw (yes_f, yes_t)
            | inr no_t ↦ absurd (no_way (g.from e) (g.to e) e ends.0 ends.1 le al there yes_f no_t)
          ]
          | inr no_f ↦ elim (cases_Bool (r (g.to e))) [
            | inl yes_t ↦ absurd (no_way (g.to e) (g.from e) e ends.1 ends.0 le al (joins_turned g (g.from e) (g.to e) e there) yes_t no_f)
            | inr no_t ↦ rw (no_f, no_t)
          ]
        ]

    pub all_reached : (n : ℕ) → n < g.nodes → r n ≡ true
    all_reached n l = joined r stays n tree.root l s.grown.root_in ∙ s.grown.root_reached

    whole : IsTree g tree
    whole = let ok = s.grown in record {
      root_in = ok.root_in;
      parent_in = λ n l ne. (ok.inside n l (all_reached n l) ne).0;
      up_in = λ n l ne. (ok.edge n l (all_reached n l) ne).0;
      up_joins = λ n l ne. ok.joined n l (all_reached n l) ne;
      rank_falls = λ n l ne. ok.falls n l (all_reached n l) ne;
    }

    pub prim_ends : IsHeaviestTree g allowed weight tree
    prim_ends = record {
      tree = whole;
      over = λ n l ne. (s.grown.edge n l (all_reached n l) ne).1;
      root_rank = s.root_rank;
      deep = λ n l ne. s.deep n l (all_reached n l) ne;
      greater = λ l c ll al out on.
          let ends = graph l ll in
          let apart : l ≢ c = λ same. false≢true (sym (rw (path_inside g tree whole l out (g.from l) ends.0, path_inside g tree whole l out (g.to l) ends.1)) ∙ (ap (between tree (g.from l) (g.to l)) same ∙ on)) in
          elim (lighter_is weight l c (s.heavy.inside l c ll al (all_reached (g.from l) ends.0) (all_reached (g.to l) ends.1) on)) [
            | inl less ↦ inl less
            | inr (same, le) ↦ inr (same, omega arith)
          ];
    }

at_set : (xs : List ℕ) (b x n : ℕ) → b < length xs → cond (eqb n b) x (at xs n) ≡ at (set xs b x) n
at_set xs b x n l = elim (cases_eq n b) [
  | inl same ↦ rw (same, eq-eqb b b refl) (sym (get_or-set_same xs b x 0 l))
  | inr ne ↦ rw (ne_eqb n b ne) (sym (get_or-set_other xs b n x 0 ne))
]

-- a new edge in the tables
pub tree_set : (root : ℕ) (parent up depth : List ℕ) (a b e d : ℕ) → b < length parent → b < length up → b < length depth →
    with_edge (spanned_tree root parent up depth) a b e d ≡ spanned_tree root (set parent b a) (set up b e) (set depth b d)
tree_set root parent up depth a b e d lp lu ld =
    λ i. record { root = root; parent = λ n. at_set parent b a n lp i; up = λ n. at_set up b e n lu i; rank = λ n. at_set depth b d n ld i }

-- a new node in the tables
pub reached_set : (depth : List ℕ) (b d : ℕ) → b < length depth → d ≢ nobody → with_node (reached depth) b ≡ reached (set depth b d)
reached_set depth b d l ne =
    let each : (n : ℕ) → with_node (reached depth) b n ≡ reached (set depth b d) n = λ n. elim (cases_eq n b) [
      | inl same ↦ rw (same, eq-eqb b b refl, get_or-set_same depth b d 0 l, ne_eqb d nobody ne)
      | inr nb ↦ rw (ne_eqb n b nb, get_or-set_other depth b n d 0 nb)
    ] in
    λ i. λ n. each n i

-- a node less is unreached
pub one_less : (none n v d : ℕ) (depth : List ℕ) → v < n → n ≡ length depth → at depth v ≡ none → d ≢ none → count_below n (λ u. eqb (at depth u) none) ≡ suc (count_below n (λ u. eqb (at (set depth v d) u) none))
one_less none n v d depth lv all free ne_d =
    let lv2 : v < length depth = omega arith in
    count_below-without n v (λ u. eqb (at depth u) none) lv (eq-eqb (at depth v) none free)
    ∙ ap suc (count_below-same n (λ u. eqb (at depth u) none && not (eqb v u)) (λ u. eqb (at (set depth v d) u) none) (λ u lu. elim (cases_eq u v) [
      | inl same ↦ rw (same, get_or-set_same depth v d 0 lv2, ne_eqb d none ne_d, eq-eqb v v refl) (gone (eqb (at depth v) none))
      | inr ne ↦ rw (get_or-set_other depth v u d 0 ne, ne_eqb v u (λ e. ne (sym e))) (stay (eqb (at depth u) none))
    ]))
  where
    gone : (b : Bool) → (b && false) ≡ false
    gone true = refl
    gone false = refl

    stay : (b : Bool) → (b && true) ≡ b
    stay true = refl
    stay false = refl

not_reached : (depth : List ℕ) (v : ℕ) → reached depth v ≡ false → at depth v ≡ nobody
not_reached depth v h = elim (cases_eq (at depth v) nobody) [
  | inl same ↦ same
  | inr ne ↦ absurd (false≢true (sym h ∙ rw (ne_eqb (at depth v) nobody ne)))
]

-- one turn of the search, over the tables
module _ (g : Graph) (allowed : ℕ → Bool) (weight : ℕ → ℕ) (graph : IsGraph g) (few : g.edges ≤ nobody) (light : (e : ℕ) → weight e ≤ heaviest) (small : g.nodes ≤ nobody)
    (root : ℕ) (parent up depth : List ℕ) (heap : Entries) (f k t : ℕ) (lp : length parent ≡ g.nodes) (lu : length up ≡ g.nodes) (ld : length depth ≡ g.nodes)
    (s : IsPrim g allowed weight (reached depth) (spanned_tree root parent up depth) heap (count_below g.nodes (λ v. eqb (at depth v) nobody))) (least : IsLeastEntry heap f k t) where
  abbrev pub taken : IsWaiting g allowed weight (reached depth) f k t
  taken = s.waiting f k t least.holds

  some_left : count_below g.nodes (λ v. eqb (at depth v) nobody) ≡ suc (count_below g.nodes (λ v. eqb (at depth v) nobody && not (eqb f v)))
  some_left = count_below-without g.nodes f (λ v. eqb (at depth v) nobody) taken.within (eq-eqb (at depth f) nobody (not_reached depth f taken.free))

  pub depth_fits : at depth taken.before + 1 < g.nodes
  depth_fits =
      let d : at depth taken.before + count_below g.nodes (λ v. eqb (at depth v) nobody) < g.nodes = s.shallow taken.before taken.before_in taken.before_reached in
      let e = some_left in
      omega arith

  pub turn_count : (d : ℕ) → d ≡ at depth taken.before + 1 → count_below g.nodes (λ v. eqb (at depth v) nobody) ≡ suc (count_below g.nodes (λ v. eqb (at (set depth f d) v) nobody))
  turn_count d is = let fits = depth_fits in let ne : d ≢ nobody = omega arith in one_less nobody g.nodes f d depth taken.within (sym ld) (not_reached depth f taken.free) ne

  pub turn_keeps : (a e d : ℕ) (mid new : Entries) → a ≡ taken.before → e ≡ taken.edge → d ≡ at depth a + 1 → mid ≡ set heap f None → IsOffered g allowed weight (reached (set depth f d)) f mid new →
      IsPrim g allowed weight (reached (set depth f d)) (spanned_tree root (set parent f a) (set up f e) (set depth f d)) new (count_below g.nodes (λ v. eqb (at (set depth f d) v) nobody))
  turn_keeps a e d mid new is_a is_e is_d took done =
      let lf : f < g.nodes = taken.within in
      let d_is : d ≡ at depth taken.before + 1 = is_d ∙ ap (λ x. at depth x + 1) is_a in
      let fits = depth_fits in
      let ne : d ≢ nobody = omega arith in
      let nodes = reached_set depth f d (omega arith) ne in
      let rank_is : suc (at depth taken.before) ≡ d = omega arith in
      let trees = tree_set root parent up depth taken.before f taken.edge d (omega arith) (omega arith) (omega arith) in
      let old : IsPrim g allowed weight (reached depth) (spanned_tree root parent up depth) heap (suc (count_below g.nodes (λ v. eqb (at (set depth f d) v) nobody))) =
      subst (λ n. IsPrim g allowed weight (reached depth) (spanned_tree root parent up depth) heap n) (turn_count d d_is) s in
      let left = count_below g.nodes (λ v. eqb (at (set depth f d) v) nobody) in
      let step = prim_step g allowed weight graph few light (reached depth) (spanned_tree root parent up depth) heap mid new left f k t old least taken took (subst (λ r. IsOffered g allowed weight r f mid new) (sym nodes) done) in
      subst (λ x. IsPrim g allowed weight (reached (set depth f d)) (spanned_tree root (set parent f x) (set up f e) (set depth f d)) new left) (sym is_a)
      (subst (λ x. IsPrim g allowed weight (reached (set depth f d)) (spanned_tree root (set parent f taken.before) (set up f x) (set depth f d)) new left) (sym is_e)
      (subst (λ r. IsPrim g allowed weight r (spanned_tree root (set parent f taken.before) (set up f taken.edge) (set depth f d)) new left) nodes
      (subst (λ x. IsPrim g allowed weight (with_node (reached depth) f) x new left) trees
      (subst (λ x. IsPrim g allowed weight (with_node (reached depth) f) (with_edge (spanned_tree root parent up depth) taken.before f taken.edge x) new left) rank_is step))))

-- face 0 alone is reached
pub first_count : (n : ℕ) (fresh : List ℕ) → 0 < n → n ≡ length fresh → ((u : ℕ) → u < n → at fresh u ≡ nobody) → count_below n (λ v. eqb (at (set fresh 0 0) v) nobody) < n
first_count n fresh some long free =
    let all : count_below n (λ u. eqb (at fresh u) nobody) ≡ n = count_below-same n (λ u. eqb (at fresh u) nobody) (λ u. true) (λ u l. eq-eqb (at fresh u) nobody (free u l)) ∙ count_below-all n in
    let ne : 0 ≢ nobody = omega arith in
    let less = one_less nobody n 0 0 fresh some long (free 0 some) ne in
    omega arith

pub first_only : (n : ℕ) (fresh : List ℕ) → ((u : ℕ) → u < n → at fresh u ≡ nobody) → (v : ℕ) → v < n → reached (set fresh 0 0) v ≡ true → v ≡ 0
first_only n fresh free v l h = elim (cases_eq v 0) [
  | inl same ↦ same
  | inr ne ↦ absurd (false≢true (sym (rw (get_or-set_other fresh 0 v 0 0 ne, eq-eqb (at fresh v) nobody (free v l))) ∙ h))
]
