-- What a search from a part offers to its heap.
use Rattle.std.proofs.Common.{ℕ, suc, ◌<◌, ◌≤◌, ◌≡◌, ◌≢◌, ◌+◌, ◌⊎◌, refl, sym, ap, ◌∙◌, subst, replicate, ◌*◌, arith, inl, inr, List, length, set, Option, Some, None, Bool, true, false, cond, not, ◌&&◌, eqb, ltb, eq-eqb, ne_eqb, get_or-set_same, get_or-set_other, get_or, map}
use Rattle.std.proofs.Math.ListN.{length-set, length-replicate}
use Rattle.surf_surfaces.proofs.Common.{cases_eq, cases_lt, cases_Bool, lt-ltb, le-ltb, nat_tests, Graph, joins, get_or-map, length-map, get_or-replicate, get_or_past, count_below, count_below-without, count_below-same, count_below-all, joins_turned}
use Rattle.surf_heap.specs.Entries.{Entries, entry_of, lesser, precedes, IsLeastEntry}
use Rattle.surf_mesh.specs.Links.{link_at, IsRow}
use Rattle.surf_base.specs.Tables.{at}
use Rattle.surf_sheetcheck.specs.Searches.{far, HasKey, IsOffered}
use Rattle.surf_lengths.specs.Lengths.{longest}
use Rattle.surf_sheetcheck.proofs.SearchWords.{IsNext, IsSearch, IsOfferedSome}
use Rattle.surf_sheetcheck.proofs.Settling.{least_next, settle_one}

first_of : Option (ℕ × ℕ) → ℕ
first_of None = 0
first_of (Some x) = x.0

-- the lesser pair is the old one or has the new key
lesser_from : (o : Option (ℕ × ℕ)) (key k t : ℕ) → ◌≡◌ {A = Option (ℕ × ℕ)} (Some (lesser o key 0)) (Some (k, t)) → (◌≡◌ {A = Option (ℕ × ℕ)} o (Some (k, t))) ⊎ (k ≡ key)
unfolding first_of
lesser_from None key k t e = inr (sym (ap first_of e))
lesser_from (Some old) key k t e = split (precedes key 0 old) e
  where
    split : (b : Bool) → ◌≡◌ {A = Option (ℕ × ℕ)} (Some (cond b (key, 0) old)) (Some (k, t)) → (◌≡◌ {A = Option (ℕ × ℕ)} (Some old) (Some (k, t))) ⊎ (k ≡ key)
    split true h = inr (sym (ap first_of h))
    split false h = inl h

lesser_pair : (key k t : ℕ) → ((lesser (Some (k, t)) key 0).0 ≤ key) × ((lesser (Some (k, t)) key 0).0 ≤ k)
lesser_pair key k t = elim (cases_lt key k) [
  | inl l ↦ rw (lt-ltb key k l) (omega arith, omega arith)
  | inr le ↦ elim (cases_Bool (eqb key k && ltb 0 t)) [
    | inl yes_t ↦ let same : key ≡ k = grind (arith, nat_tests) in rw (le-ltb key k le, yes_t) (omega arith, omega arith)
    | inr no_t ↦ rw (le-ltb key k le, no_t) (omega arith, omega arith)
  ]
]

lesser_key : (o : Option (ℕ × ℕ)) (key : ℕ) → (lesser o key 0).0 ≤ key
lesser_key None key = omega arith
lesser_key (Some (k, t)) key = (lesser_pair key k t).0

module _ (old : Entries) (w key : ℕ) (lw : w < length old) where
  pub offer_came : (q k t : ℕ) → entry_of (set old w (Some (lesser (entry_of old w) key 0))) q ≡ Some (k, t) → (entry_of old q ≡ Some (k, t)) ⊎ ((q ≡ w) × (k ≡ key))
  offer_came q k t h = elim (cases_eq q w) [
    | inl same ↦
        let here : ◌≡◌ {A = Option (ℕ × ℕ)} (Some (lesser (entry_of old w) key 0)) (Some (k, t)) = sym (get_or-set_same old w (Some (lesser (entry_of old w) key 0)) None lw) ∙ (ap (entry_of (set old w (Some (lesser (entry_of old w) key 0)))) (sym same) ∙ h) in
        elim (lesser_from (entry_of old w) key k t here) [
          | inl was ↦ inl (ap (entry_of old) same ∙ was)
          | inr is ↦ inr (same, is)
        ]
    | inr ne ↦ inl (sym (get_or-set_other old w q (Some (lesser (entry_of old w) key 0)) None ne) ∙ h)
  ]

  pub offer_here : HasKey (set old w (Some (lesser (entry_of old w) key 0))) w key
  offer_here = record {
    key = (lesser (entry_of old w) key 0).0;
    tie = (lesser (entry_of old w) key 0).1;
    entry = get_or-set_same old w (Some (lesser (entry_of old w) key 0)) None lw;
    bound = lesser_key (entry_of old w) key;
  }

  pub offer_kept : (q x : ℕ) → HasKey old q x → HasKey (set old w (Some (lesser (entry_of old w) key 0))) q x
  offer_kept q x h = elim (cases_eq q w) [
    | inl same ↦
        let was : entry_of old w ≡ Some (h.key, h.tie) = ap (entry_of old) (sym same) ∙ h.entry in
        let b : h.key ≤ x = h.bound in
        let less : (lesser (entry_of old w) key 0).0 ≤ h.key = rw was (lesser_pair key h.key h.tie).1 in
        record {
          key = (lesser (entry_of old w) key 0).0;
          tie = (lesser (entry_of old w) key 0).1;
          entry = ap (entry_of (set old w (Some (lesser (entry_of old w) key 0)))) same ∙ get_or-set_same old w (Some (lesser (entry_of old w) key 0)) None lw;
          bound = omega arith;
        }
    | inr ne ↦ record { key = h.key; tie = h.tie; entry = get_or-set_other old w q (Some (lesser (entry_of old w) key 0)) None ne ∙ h.entry; bound = h.bound }
  ]

-- the link of an item of a row
pub link_of : (f : ℕ → ℕ × ℕ) (items : List ℕ) (k e w : ℕ) → k < length items → e ≡ get_or items k e → w ≡ (f e).0 →
    link_at (map f items) k ≡ (w, (f e).1)
link_of f items k e w l is end =
    get_or-map f items k e (0, 0) l ∙ ap f (sym is) ∙ ap (λ (x : ℕ). (x, (f e).1)) (sym end)

-- it joins the node of the row and another
pub item_in : {g : Graph} {v : ℕ} (f : ℕ → ℕ × ℕ) (items : List ℕ) → IsRow g v (map f items) → {k e w : ℕ} →
    k < length items → e ≡ get_or items k e → w ≡ (f e).0 → (w < g.nodes) × ((f e).1 < g.edges) × (joins g v w (f e).1 ≡ true)
item_in {g} {v} f items row {k} {e} {w} l is end =
    let lm : k < length (map f items) = omega (arith, l, length-map items f) in
    subst (λ (x : ℕ × ℕ). (x.0 < g.nodes) × (x.1 < g.edges) × (joins g v x.0 x.1 ≡ true)) (link_of f items k e w l is end)
    (row.neighbour_in k lm, row.edge_in k lm, row.joined k lm)

module _ (g : Graph) (len : ℕ → ℕ) (limit : ℕ) (dist : ℕ → ℕ) (v d : ℕ) (links : List (ℕ × ℕ)) (row : IsRow g v links) where
  abbrev pub neighbour : ℕ → ℕ
  neighbour k = (link_at links k).0

  abbrev pub number : ℕ → ℕ
  number k = (link_at links k).1

  pub offered_none : (heap : Entries) → IsOfferedSome g len limit dist v d heap heap neighbour number 0
  offered_none heap = record {
    same_length = refl;
    came = λ w k t h. inl h;
    kept = λ w k t h. record { key = k; tie = t; entry = h; bound = omega arith };
    offered = λ i l f less. absurd (omega arith);
  }

  module _ (old mid : Entries) (n : ℕ) (some : IsOfferedSome g len limit dist v d old mid neighbour number n) (ln : n < length links) where
    pub offered_skip : (dist (neighbour n) ≡ far → d + len (number n) < limit → ⊥) → IsOfferedSome g len limit dist v d old mid neighbour number (n + 1)
    offered_skip settled = record {
      same_length = some.same_length;
      came = some.came;
      kept = some.kept;
      offered = λ i l f less. elim (cases_eq i n) [
        | inl same ↦ absurd (settled (ap (λ j. dist (neighbour j)) (sym same) ∙ f) (subst (λ j. d + len (number j) < limit) same less))
        | inr ne ↦ some.offered i (omega (arith, l, ne)) f less
      ];
    }

    pub offered_more : (new : Entries) → dist (neighbour n) ≡ far → d + len (number n) < limit → neighbour n < length mid → new ≡ set mid (neighbour n) (Some (lesser (entry_of mid (neighbour n)) (d + len (number n)) 0)) →
        IsOfferedSome g len limit dist v d old new neighbour number (n + 1)
    offered_more new free less lw is =
        let w = neighbour n in
        let key = d + len (number n) in
        rw is (record {
          same_length = length-set mid w (Some (lesser (entry_of mid w) key 0)) ∙ some.same_length;
          came = λ q k t h. elim (offer_came mid w key lw q k t h) [
            | inl was ↦ some.came q k t was
            | inr (same, k_is) ↦ inr (number n, row.edge_in n ln, rw same (row.neighbour_in n ln), rw same (joins_turned g v w (number n) (row.joined n ln)), rw same free, less, k_is)
          ];
          kept = λ q k t h. offer_kept mid w key lw q k (some.kept q k t h);
          offered = λ i l f under. elim (cases_eq i n) [
            | inl same ↦ rw same (offer_here mid w key lw)
            | inr ne ↦ offer_kept mid w key lw (neighbour i) (d + len (number i)) (some.offered i (omega (arith, l, ne)) f under)
          ];
        })

    -- the same for a link with its two parts
    module _ (w e : ℕ) (is : link_at links n ≡ (w, e)) where
      pub link_skip : (dist w ≡ far → d + len e < limit → ⊥) → IsOfferedSome g len limit dist v d old mid neighbour number (n + 1)
      link_skip settled = offered_skip (λ f less. settled (ap (λ (x : ℕ × ℕ). dist x.0) (sym is) ∙ f) (subst (λ (x : ℕ × ℕ). d + len x.1 < limit) is less))

      pub link_more : (new : Entries) → dist w ≡ far → d + len e < limit → w < length mid → new ≡ set mid w (Some (lesser (entry_of mid w) (d + len e) 0)) → IsOfferedSome g len limit dist v d old new neighbour number (n + 1)
      link_more new free less lw made =
          offered_more new (ap (λ (x : ℕ × ℕ). dist x.0) is ∙ free) (subst (λ (x : ℕ × ℕ). d + len x.1 < limit) (sym is) less) (subst (λ (x : ℕ × ℕ). x.0 < length mid) (sym is) lw)
          (subst (λ (x : ℕ × ℕ). new ≡ set mid x.0 (Some (lesser (entry_of mid x.0) (d + len x.1) 0))) (sym is) made)

  pub offered_all : (old new : Entries) (n : ℕ) → length links ≤ n → IsOfferedSome g len limit dist v d old new neighbour number n → IsOffered g len limit dist v d old new
  offered_all old new n all some = record {
    same_length = some.same_length;
    came = some.came;
    kept = some.kept;
    offered = λ w e le join f less.
        let (i, li, is) = row.whole e w le join in
        let key : HasKey new (neighbour i) (d + len (number i)) = some.offered i (omega arith) (ap (λ (x : ℕ × ℕ). dist x.0) is ∙ f) (subst (λ (x : ℕ × ℕ). d + len x.1 < limit) (sym is) less) in
        subst (λ (x : ℕ × ℕ). HasKey new x.0 (d + len x.1)) is key;
  }

-- a node less is unsettled
pub one_less : (n v d : ℕ) (dist : List ℕ) → v < n → n ≡ length dist → at dist v ≡ far → d ≢ far → count_below n (λ u. eqb (at dist u) far) ≡ suc (count_below n (λ u. eqb (at (set dist v d) u) far))
one_less n v d dist lv all free near_end =
    let lv2 : v < length dist = omega arith in
    count_below-without n v (λ u. eqb (at dist u) far) lv (eq-eqb (at dist v) far free)
    ∙ ap suc (count_below-same n (λ u. eqb (at dist u) far && not (eqb v u)) (λ u. eqb (at (set dist v d) u) far) (λ u lu. elim (cases_eq u v) [
      | inl same ↦ rw (same, get_or-set_same dist v d 0 lv2, ne_eqb d far near_end, eq-eqb v v refl) (gone (eqb (at dist v) far))
      | inr ne ↦ rw (get_or-set_other dist v u d 0 ne, ne_eqb v u (λ e. ne (sym e))) (stay (eqb (at dist u) far))
    ]))
  where
    gone : (b : Bool) → (b && false) ≡ false
    gone true = refl
    gone false = refl

    stay : (b : Bool) → (b && true) ≡ b
    stay true = refl
    stay false = refl

pub all_free : (n : ℕ) (dist : List ℕ) → ((u : ℕ) → u < n → at dist u ≡ far) → count_below n (λ u. eqb (at dist u) far) ≡ n
all_free n dist free = count_below-same n (λ u. eqb (at dist u) far) (λ u. true) (λ u l. eq-eqb (at dist u) far (free u l)) ∙ count_below-all n

none_there : (n w : ℕ) → entry_of (replicate n None) w ≡ None
none_there n w = elim (cases_lt w n) [
  | inl l ↦ get_or-replicate n w None None l
  | inr past ↦ get_or_past (replicate n None) w None (let e = length-replicate {A = Option (ℕ × ℕ)} n None in omega arith)
]

-- one turn of a search: the node that is settled and its distance are in range, a node less is unsettled, what was
-- settled before isn't farther, and the search goes on
pub record IsTurn (g : Graph) (len : ℕ → ℕ) (part : List ℕ) (limit : ℕ) (dist : List ℕ) (heap : Entries) (v k : ℕ) : Type 0 where
  pub inside : (v < g.nodes) × (k + longest ≤ g.nodes * longest)
  pub unsettled : at dist v ≡ far
  pub near_end : k ≢ far
  pub after : (last : ℕ) → IsSearch g len part limit (at dist) heap last (count_below g.nodes (λ u. eqb (at dist u) far)) → last ≤ k
  pub smaller : count_below g.nodes (λ u. eqb (at (set dist v k) u) far) < count_below g.nodes (λ u. eqb (at dist u) far)
  pub last : (u : ℕ) → u < g.nodes → at (set dist v k) u ≢ far → at (set dist v k) u ≤ k
  pub keeps : (mid new : Entries) → mid ≡ set heap v None → IsOffered g len limit (at (set dist v k)) v k mid new →
      IsSearch g len part limit (at (set dist v k)) new k (count_below g.nodes (λ u. eqb (at (set dist v k) u) far))

module _ (g : Graph) (len : ℕ → ℕ) (part : List ℕ) (limit : ℕ) (small : g.nodes ≤ longest) (short : (e : ℕ) → len e ≤ longest) (dist : List ℕ) (heap : Entries) (last v k t : ℕ)
    (long : length dist ≡ g.nodes) (s : IsSearch g len part limit (at dist) heap last (count_below g.nodes (λ u. eqb (at dist u) far))) (next : IsNext heap v k t) where
  next_inside : (v < g.nodes) × (k + longest ≤ g.nodes * longest)
  next_inside =
      let o = s.outside v k t next.holds in
      let some : count_below g.nodes (λ u. eqb (at dist u) far) ≡ suc (count_below g.nodes (λ u. eqb (at dist u) far && not (eqb v u))) = count_below-without g.nodes v (λ u. eqb (at dist u) far) o.within (eq-eqb (at dist v) far o.unsettled) in
      let f : k + suc (count_below g.nodes (λ u. eqb (at dist u) far && not (eqb v u))) * longest ≤ g.nodes * longest = subst (λ n. k + n * longest ≤ g.nodes * longest) some o.fits in
      (o.within, omega arith)

  next_less : (k ≢ far) × (count_below g.nodes (λ u. eqb (at dist u) far) ≡ suc (count_below g.nodes (λ u. eqb (at (set dist v k) u) far)))
  next_less =
      let o = s.outside v k t next.holds in
      let some : count_below g.nodes (λ u. eqb (at dist u) far) ≡ suc (count_below g.nodes (λ u. eqb (at dist u) far && not (eqb v u))) = count_below-without g.nodes v (λ u. eqb (at dist u) far) o.within (eq-eqb (at dist v) far o.unsettled) in
      let f : k + suc (count_below g.nodes (λ u. eqb (at dist u) far && not (eqb v u))) * longest ≤ g.nodes * longest = subst (λ n. k + n * longest ≤ g.nodes * longest) some o.fits in
      let ne : k ≢ far = omega arith in
      (ne, one_less g.nodes v k dist o.within (sym long) o.unsettled ne)

  next_smaller : count_below g.nodes (λ u. eqb (at (set dist v k) u) far) < count_below g.nodes (λ u. eqb (at dist u) far)
  next_smaller = let e = next_less.1 in omega arith

  next_keeps : (mid new : Entries) → mid ≡ set heap v None → IsOffered g len limit (at (set dist v k)) v k mid new → IsSearch g len part limit (at (set dist v k)) new k (count_below g.nodes (λ u. eqb (at (set dist v k) u) far))
  next_keeps mid new took done =
      let o = s.outside v k t next.holds in
      let lv : v < length dist = let l : v < g.nodes = o.within in omega arith in
      settle_one g len part limit small short (at dist) (at (set dist v k)) heap mid new last (count_below g.nodes (λ u. eqb (at (set dist v k) u) far)) v k t
      (subst (λ n. IsSearch g len part limit (at dist) heap last n) next_less.1 s) next took (get_or-set_same dist v k 0 lv) (λ q ne. get_or-set_other dist v q k 0 ne) done

  next_last : (u : ℕ) → u < g.nodes → at (set dist v k) u ≢ far → at (set dist v k) u ≤ k
  next_last u l some = elim (cases_eq u v) [
    | inl same ↦ rw (same, get_or-set_same dist v k 0 (let lv : v < g.nodes = (s.outside v k t next.holds).within in omega arith)) (omega arith)
    | inr ne ↦
        let was = get_or-set_other dist v u k 0 ne in
        let up : at dist u ≤ last = s.settled u l (λ e. some (was ∙ e)) in
        let later : last ≤ k = (s.outside v k t next.holds).later in
        rw was (omega arith)
  ]

  next_turn : IsTurn g len part limit dist heap v k
  next_turn = record { inside = next_inside; unsettled = (s.outside v k t next.holds).unsettled; near_end = next_less.0; after = λ l z. (z.outside v k t next.holds).later; smaller = next_smaller; last = next_last; keeps = next_keeps }

-- where the least entry of a heap is taken
module _ {g : Graph} {len : ℕ → ℕ} {part : List ℕ} {limit : ℕ} (small : g.nodes ≤ longest) (short : (e : ℕ) → len e ≤ longest) (dist : List ℕ) {heap : Entries} {last v k : ℕ}
    (long : length dist ≡ g.nodes) (s : IsSearch g len part limit (at dist) heap last (count_below g.nodes (λ u. eqb (at dist u) far))) where
  pub least_turn : {t : ℕ} → IsLeastEntry heap v k t → IsTurn g len part limit dist heap v k
  least_turn {t} least = next_turn g len part limit small short dist heap last v k t long s (least_next heap v k t least)
