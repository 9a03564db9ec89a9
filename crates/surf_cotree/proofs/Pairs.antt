use Rattle.surf_cotree.proofs.Common.{ℕ, ◌<◌, ◌≤◌, ◌≡◌, ◌+◌, ◌-◌, ◌⊎◌, refl, sym, ap, ◌∙◌, subst, arith, inl, inr, List, length, set, Option, Some, None, replicate, Bool, true, false, cond, eq-eqb, ne_eqb, get_or-set_same, get_or-set_other, length-set, length-replicate, cases_eq, cases_lt, lt-ltb, le-ltb, get_or-replicate, get_or_past, Graph, joins_turned, Entries, entry_of, lesser, precedes, IsUpTo, link_at, IsRow, nobody, heaviest, IsPairUpTo, HasPair, IsOffered, IsBridge}

-- what the first n edges of a node's row offer (IsOffered is of all its edges)
pub record IsOfferedSome (g : Graph) (allowed : ℕ → Bool) (weight : ℕ → ℕ) (in_tree : ℕ → Bool) (v : ℕ) (old new : Entries) (neighbour number : ℕ → ℕ) (n : ℕ) : Type 0 where
  pub same_length : length new ≡ length old
  pub came : (w k t : ℕ) → entry_of new w ≡ Some (k, t) → (entry_of old w ≡ Some (k, t)) ⊎ ((w < g.nodes) × (in_tree w ≡ false) × ((e : ℕ) × IsBridge g allowed weight v w k t e))
  pub kept : (w k t : ℕ) → entry_of old w ≡ Some (k, t) → HasPair new w k t
  pub offered : (i : ℕ) → i < n → allowed (number i) ≡ true → in_tree (neighbour i) ≡ false → HasPair new (neighbour i) (heaviest - weight (number i)) (nobody - number i)

pub no_entry : (o : Option (ℕ × ℕ)) (k t : ℕ) → o ≡ None → ◌≡◌ {A = Option (ℕ × ℕ)} o (Some (k, t)) → ⊥
no_entry o k t none some = let e = sym none ∙ some in cc

key_of : Option (ℕ × ℕ) → ℕ
key_of None = 0
key_of (Some x) = x.0

tie_of : Option (ℕ × ℕ) → ℕ
tie_of None = 0
tie_of (Some x) = x.1

pub same_pair : (o : Option (ℕ × ℕ)) (k t k2 t2 : ℕ) → ◌≡◌ {A = Option (ℕ × ℕ)} o (Some (k, t)) → ◌≡◌ {A = Option (ℕ × ℕ)} o (Some (k2, t2)) → (k ≡ k2) × (t ≡ t2)
unfolding key_of tie_of
same_pair o k t k2 t2 a b = (ap key_of (sym a ∙ b), ap tie_of (sym a ∙ b))

pub pair_trans : (a b k t k2 t2 : ℕ) → IsPairUpTo a b k t → IsPairUpTo k t k2 t2 → IsPairUpTo a b k2 t2
pair_trans a b k t k2 t2 x y = elim x [
  | inl l ↦ elim y [ inl m ↦ inl (omega arith) | inr (e, _) ↦ inl (omega arith) ]
  | inr (e, l) ↦ elim y [ inl m ↦ inl (omega arith) | inr (e2, m) ↦ inr (e ∙ e2, omega arith) ]
]

pub pair_from : (k t p k2 t2 p2 : ℕ) → IsUpTo k t p k2 t2 p2 → IsPairUpTo k t k2 t2
pair_from k t p k2 t2 p2 h = elim h [
  | inl l ↦ inl l
  | inr (e, r) ↦ elim r [ inl l ↦ inr (e, omega arith) | inr (e2, _) ↦ inr (e, omega arith) ]
]

-- the lesser pair is the old or the new one
lesser_from : (o : Option (ℕ × ℕ)) (key tie k t : ℕ) → ◌≡◌ {A = Option (ℕ × ℕ)} (Some (lesser o key tie)) (Some (k, t)) → (◌≡◌ {A = Option (ℕ × ℕ)} o (Some (k, t))) ⊎ ((k ≡ key) × (t ≡ tie))
unfolding key_of tie_of
lesser_from None key tie k t e = inr (sym (ap key_of e), sym (ap tie_of e))
lesser_from (Some old) key tie k t e = split (precedes key tie old) e
  where
    split : (b : Bool) → ◌≡◌ {A = Option (ℕ × ℕ)} (Some (cond b (key, tie) old)) (Some (k, t)) → (◌≡◌ {A = Option (ℕ × ℕ)} (Some old) (Some (k, t))) ⊎ ((k ≡ key) × (t ≡ tie))
    split true h = inr (sym (ap key_of h), sym (ap tie_of h))
    split false h = inl h

lesser_pair : (key tie k t : ℕ) → IsPairUpTo (lesser (Some (k, t)) key tie).0 (lesser (Some (k, t)) key tie).1 key tie × IsPairUpTo (lesser (Some (k, t)) key tie).0 (lesser (Some (k, t)) key tie).1 k t
lesser_pair key tie k t = elim (cases_lt key k) [
  | inl l ↦ rw (lt-ltb key k l) (inr (refl, omega arith), inl l)
  | inr le ↦ elim (cases_eq key k) [
    | inl same ↦ elim (cases_lt tie t) [
      | inl less ↦ rw (le-ltb key k le, eq-eqb key k same, lt-ltb tie t less) (inr (refl, omega arith), inr (same, omega arith))
      | inr more ↦ rw (le-ltb key k le, eq-eqb key k same, le-ltb tie t more) (inr (sym same, more), inr (refl, omega arith))
    ]
    | inr ne ↦ rw (le-ltb key k le, ne_eqb key k ne) (inl (omega arith), inr (refl, omega arith))
  ]
]

lesser_new : (o : Option (ℕ × ℕ)) (key tie : ℕ) → IsPairUpTo (lesser o key tie).0 (lesser o key tie).1 key tie
lesser_new None key tie = inr (refl, omega arith)
lesser_new (Some (k, t)) key tie = (lesser_pair key tie k t).0

abbrev offer : Entries → ℕ → ℕ → ℕ → Entries
offer old w key tie = set old w (Some (lesser (entry_of old w) key tie))

module _ (old : Entries) (w key tie : ℕ) (lw : w < length old) where
  offer_there : entry_of (offer old w key tie) w ≡ Some (lesser (entry_of old w) key tie)
  offer_there = get_or-set_same old w (Some (lesser (entry_of old w) key tie)) None lw

  offer_came : (q k t : ℕ) → entry_of (offer old w key tie) q ≡ Some (k, t) → (entry_of old q ≡ Some (k, t)) ⊎ ((q ≡ w) × (k ≡ key) × (t ≡ tie))
  offer_came q k t h = elim (cases_eq q w) [
    | inl same ↦
        let here : ◌≡◌ {A = Option (ℕ × ℕ)} (Some (lesser (entry_of old w) key tie)) (Some (k, t)) = sym offer_there ∙ (ap (entry_of (offer old w key tie)) (sym same) ∙ h) in
        elim (lesser_from (entry_of old w) key tie k t here) [
          | inl was ↦ inl (ap (entry_of old) same ∙ was)
          | inr (is_k, is_t) ↦ inr (same, is_k, is_t)
        ]
    | inr ne ↦ inl (sym (get_or-set_other old w q (Some (lesser (entry_of old w) key tie)) None ne) ∙ h)
  ]

  offer_here : HasPair (offer old w key tie) w key tie
  offer_here = record { key = (lesser (entry_of old w) key tie).0; tie = (lesser (entry_of old w) key tie).1; entry = offer_there; bound = lesser_new (entry_of old w) key tie }

  offer_kept : (q k t : ℕ) → HasPair old q k t → HasPair (offer old w key tie) q k t
  offer_kept q k t h = elim (cases_eq q w) [
    | inl same ↦
        let was : entry_of old w ≡ Some (h.key, h.tie) = ap (entry_of old) (sym same) ∙ h.entry in
        let less : IsPairUpTo (lesser (entry_of old w) key tie).0 (lesser (entry_of old w) key tie).1 h.key h.tie =
        subst (λ o. IsPairUpTo (lesser o key tie).0 (lesser o key tie).1 h.key h.tie) (sym was) (lesser_pair key tie h.key h.tie).1 in
        record {
          key = (lesser (entry_of old w) key tie).0;
          tie = (lesser (entry_of old w) key tie).1;
          entry = ap (entry_of (offer old w key tie)) same ∙ offer_there;
          bound = pair_trans _ _ h.key h.tie k t less h.bound;
        }
    | inr ne ↦ record { key = h.key; tie = h.tie; entry = get_or-set_other old w q (Some (lesser (entry_of old w) key tie)) None ne ∙ h.entry; bound = h.bound }
  ]

module _ (g : Graph) (allowed : ℕ → Bool) (weight : ℕ → ℕ) (in_tree : ℕ → Bool) (v : ℕ) (links : List (ℕ × ℕ)) (row : IsRow g v links) where
  abbrev pub neighbour : ℕ → ℕ
  neighbour k = (link_at links k).0

  abbrev pub number : ℕ → ℕ
  number k = (link_at links k).1

  pub offered_none : (heap : Entries) → IsOfferedSome g allowed weight in_tree v heap heap neighbour number 0
  offered_none heap = record {
    same_length = refl;
    came = λ w k t h. inl h;
    kept = λ w k t h. record { key = k; tie = t; entry = h; bound = inr (refl, omega arith) };
    offered = λ i l a f. absurd (omega arith);
  }

  module _ (old mid : Entries) (n : ℕ) (some : IsOfferedSome g allowed weight in_tree v old mid neighbour number n) (ln : n < length links) where
    pub offered_skip : ((allowed (number n) ≡ true) → (in_tree (neighbour n) ≡ false) → ⊥) → IsOfferedSome g allowed weight in_tree v old mid neighbour number (n + 1)
    offered_skip not_here = record {
      same_length = some.same_length;
      came = some.came;
      kept = some.kept;
      offered = λ i l a f. elim (cases_eq i n) [
        | inl same ↦ absurd (not_here (ap (λ j. allowed (number j)) (sym same) ∙ a) (ap (λ j. in_tree (neighbour j)) (sym same) ∙ f))
        | inr ne ↦ some.offered i (omega arith) a f
      ];
    }

    pub offered_more : (new : Entries) (key tie : ℕ) → allowed (number n) ≡ true → in_tree (neighbour n) ≡ false → neighbour n < length mid → key + weight (number n) ≡ heaviest → tie + number n ≡ nobody →
        new ≡ set mid (neighbour n) (Some (lesser (entry_of mid (neighbour n)) key tie)) → IsOfferedSome g allowed weight in_tree v old new neighbour number (n + 1)
    offered_more new key tie a f lw is_key is_tie is =
        let w = neighbour n in
        let e = number n in
        let key2 : key ≡ heaviest - weight e = omega arith in
        let tie2 : tie ≡ nobody - e = omega arith in
        rw is (record {
          same_length = length-set mid w (Some (lesser (entry_of mid w) key tie)) ∙ some.same_length;
          came = λ q k t h. elim (offer_came mid w key tie lw q k t h) [
            | inl was ↦ some.came q k t was
            | inr (same, k_is, t_is) ↦ inr (
              rw same (row.neighbour_in n ln),
              ap in_tree same ∙ f,
              (
                e,
                record {
                  edge_in = row.edge_in n ln;
                  allowed_edge = a;
                  joined = rw same (joins_turned g v w e (row.joined n ln));
                  key_is = rw k_is is_key;
                  tie_is = rw t_is is_tie;
                },
              ),
            )
          ];
          kept = λ q k t h. offer_kept mid w key tie lw q k t (some.kept q k t h);
          offered = λ i l ai fi. elim (cases_eq i n) [
            | inl same ↦ subst (λ j. HasPair (offer mid w key tie) (neighbour j) (heaviest - weight (number j)) (nobody - number j)) (sym same)
                (subst (λ x. HasPair (offer mid w key tie) w x (nobody - e)) key2 (subst (λ x. HasPair (offer mid w key tie) w key x) tie2 (offer_here mid w key tie lw)))
            | inr ne ↦ offer_kept mid w key tie lw (neighbour i) (heaviest - weight (number i)) (nobody - number i) (some.offered i (omega arith) ai fi)
          ];
        })

  -- the link at a place
  module _ (old mid : Entries) (n : ℕ) (some : IsOfferedSome g allowed weight in_tree v old mid neighbour number n) (ln : n < length links) (p : ℕ × ℕ) (is : link_at links n ≡ p) where
    pub link_in : (p.0 < g.nodes) × (p.1 < g.edges)
    link_in = subst (λ (x : ℕ × ℕ). (x.0 < g.nodes) × (x.1 < g.edges)) is (row.neighbour_in n ln, row.edge_in n ln)

    pub link_skip : ((allowed p.1 ≡ true) → (in_tree p.0 ≡ false) → ⊥) → IsOfferedSome g allowed weight in_tree v old mid neighbour number (n + 1)
    link_skip not_here = offered_skip old mid n some ln (λ a f. not_here (ap (λ (x : ℕ × ℕ). allowed x.1) (sym is) ∙ a) (ap (λ (x : ℕ × ℕ). in_tree x.0) (sym is) ∙ f))

    pub link_more : (new : Entries) → allowed p.1 ≡ true → in_tree p.0 ≡ false → p.0 < length mid → weight p.1 ≤ heaviest → g.edges ≤ nobody →
        new ≡ set mid p.0 (Some (lesser (entry_of mid p.0) (heaviest - weight p.1) (nobody - p.1))) → IsOfferedSome g allowed weight in_tree v old new neighbour number (n + 1)
    link_more new a f lw light few made =
        let le : p.1 < g.edges = link_in.1 in
        offered_more old mid n some ln new (heaviest - weight p.1) (nobody - p.1) (ap (λ (x : ℕ × ℕ). allowed x.1) is ∙ a) (ap (λ (x : ℕ × ℕ). in_tree x.0) is ∙ f)
        (subst (λ (x : ℕ × ℕ). x.0 < length mid) (sym is) lw)
        (subst (λ (x : ℕ × ℕ). (heaviest - weight p.1) + weight x.1 ≡ heaviest) (sym is) (omega arith))
        (subst (λ (x : ℕ × ℕ). (nobody - p.1) + x.1 ≡ nobody) (sym is) (omega arith))
        (subst (λ (x : ℕ × ℕ). new ≡ set mid x.0 (Some (lesser (entry_of mid x.0) (heaviest - weight p.1) (nobody - p.1)))) (sym is) made)

  pub offered_all : (old new : Entries) (n : ℕ) → length links ≤ n → IsOfferedSome g allowed weight in_tree v old new neighbour number n → IsOffered g allowed weight in_tree v old new
  offered_all old new n all some = record {
    same_length = some.same_length;
    came = some.came;
    kept = some.kept;
    offered = λ w e le a join f.
        let (i, li, is) = row.whole e w le join in
        let is_e : number i ≡ e = ap (λ (p : ℕ × ℕ). p.1) is in
        let is_w : neighbour i ≡ w = ap (λ (p : ℕ × ℕ). p.0) is in
        let pair : HasPair new (neighbour i) (heaviest - weight (number i)) (nobody - number i) = some.offered i (omega arith) (ap allowed is_e ∙ a) (ap in_tree is_w ∙ f) in
        subst (λ x. HasPair new x (heaviest - weight e) (nobody - e)) is_w (subst (λ y. HasPair new (neighbour i) (heaviest - weight y) (nobody - y)) is_e pair);
  }

pub none_there : (n : ℕ) (heap : Entries) → heap ≡ replicate n None → (w : ℕ) → entry_of heap w ≡ None
none_there n heap is w = ap (λ h. entry_of h w) is ∙ elim (cases_lt w n) [
  | inl l ↦ get_or-replicate n w None None l
  | inr past ↦ get_or_past (replicate n None) w None (let e = length-replicate {A = Option (ℕ × ℕ)} n None in omega arith)
]
