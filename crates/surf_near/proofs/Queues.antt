-- The list of settled nodes as a queue, where all edges have one length but those that lead past the radius.
use Rattle.surf_near.proofs.Common.{ℕ, suc, ◌<◌, ◌≤◌, ◌≡◌, ◌≢◌, ◌+◌, ◌*◌, ◌⊎◌, true, sym, ap, ◌∙◌, subst, arith, inl, inr, List, length, set, eqb, get_or-set_same, get_or-set_other, cases_eq, count_below, Graph, joins, joins_turned, length-set, longest, link_at, IsRow, at, IsReached, one_less, all_free, Tables, never, IsListed, IsChosenAt, IsBlank, IsFound, IsQueue, IsLooked}
use Rattle.surf_tree.proofs.Choosing.{chosen_in}
use Rattle.surf_near.proofs.Turns.{list_more}
use Rattle.surf_near.proofs.Choices.{IsChoiceSome, choice_skip, choice_all, choice_stays, some_stays, chosen_kept}

-- a link leads past the radius, or its neighbour is settled and no farther than it leads
abbrev pub IsPassed : (ℕ → ℕ) → ℕ → ℕ → List ℕ → ℕ × ℕ → Type 0
IsPassed len radius d dist x = d + len x.1 ≤ radius → (at dist x.0 ≢ never) × (at dist x.0 ≤ d + len x.1)

-- the links before a place have been looked at
pub record IsLooking (g : Graph) (len : ℕ → ℕ) (size radius : ℕ) (t : Tables) (place v d : ℕ) (links : List (ℕ × ℕ)) (n p e m : ℕ) : Type 0 where
  pub queue : IsQueue g len size radius t place
  pub here : place < t.count
  pub node : at t.order.items place ≡ v
  pub distance : at t.distance.items v ≡ d
  pub near : (i : ℕ) → i < n → IsPassed len radius d t.distance.items (link_at links i)
  pub choice : IsChoiceSome g len (at t.distance.items) (at t.least.items) v links n p e m

module _ (g : Graph) (len : ℕ → ℕ) (size radius : ℕ) (small : g.nodes ≤ longest) (positive : (e : ℕ) → e < g.edges → 1 ≤ len e)
    (even : (e : ℕ) → e < g.edges → (len e ≡ size) ⊎ (radius < len e)) (fits : size ≤ longest) where
  -- a node of the list is one, and its distance is short
  pub queue_in : (t : Tables) (place : ℕ) → IsQueue g len size radius t place → (i : ℕ) → i < t.count →
      (at t.order.items i < g.nodes) × (at t.distance.items (at t.order.items i) + longest ≤ g.nodes * longest)
  queue_in t place q i l =
      let step = q.steps i l in
      (q.listed.inside i l, omega (arith, step, q.counted, l))

  pub queue_short : (t : Tables) (place : ℕ) → IsQueue g len size radius t place → (u : ℕ) → u < g.nodes →
      at t.distance.items u ≢ never → at t.distance.items u + longest ≤ g.nodes * longest
  queue_short t place q u l settled =
      let (i, li, is) = q.listed.all u l settled in
      subst (λ x. at t.distance.items x + longest ≤ g.nodes * longest) is (queue_in t place q i li).1

  -- while a node is free there is room
  pub queue_room : (t : Tables) (place : ℕ) → IsQueue g len size radius t place → (w : ℕ) → w < g.nodes → at t.distance.items w ≡ never →
      t.count < length t.order.items
  queue_room t place q w w_in free =
      let one = one_less g.nodes w 0 t.distance.items w_in (sym q.room.distance) free (λ e. absurd (omega arith)) in
      omega (arith, one, q.counted, q.room.order)

  -- a node that is listed
  module _ (t : Tables) (place v d : ℕ) (q : IsQueue g len size radius t place) (here : place < t.count)
      (node : at t.order.items place ≡ v) (distance : at t.distance.items v ≡ d) (t2 : Tables) (w e : ℕ) (w_in : w < g.nodes)
      (e_in : e < g.edges) (join : joins g v w e ≡ true) (free : at t.distance.items w ≡ never) (even_here : len e ≡ size) (near : d + size ≤ radius)
      (order_is : t2.order.items ≡ set t.order.items t.count w) (count_is : t2.count ≡ t.count + 1)
      (distance_is : t2.distance.items ≡ set t.distance.items w (d + size)) (parent_is : t2.parent ≡ t.parent)
      (up_is : t2.up ≡ t.up) (least_is : t2.least ≡ t.least) where
    w_room : w < length t.distance.items
    w_room = omega (arith, w_in, q.room.distance)

    d_is : at t.distance.items (at t.order.items place) ≡ d
    d_is = ap (at t.distance.items) node ∙ distance

    d_short : d + longest ≤ g.nodes * longest
    d_short = subst (λ x. x + longest ≤ g.nodes * longest) d_is (queue_in t place q place here).1

    not_never : d + size ≢ never
    not_never same = absurd (omega (arith, same, d_short, fits, small))

    one_fewer : count_below g.nodes (λ u. eqb (at t.distance.items u) never) ≡ suc (count_below g.nodes (λ u. eqb (at (set t.distance.items w (d + size)) u) never))
    one_fewer = one_less g.nodes w (d + size) t.distance.items w_in (sym q.room.distance) free not_never

    order_room : t.count < length t.order.items
    order_room = queue_room t place q w w_in free

    apart : (i : ℕ) → i < t.count → at t.order.items i ≢ w
    apart i l same = q.listed.settled i l (ap (at t.distance.items) same ∙ free)

    others : (u : ℕ) → u ≢ w → at t2.distance.items u ≡ at t.distance.items u
    others u ne = ap (λ xs. at xs u) distance_is ∙ get_or-set_other t.distance.items w u (d + size) 0 ne

    now : at t2.distance.items w ≡ d + size
    now = ap (λ xs. at xs w) distance_is ∙ get_or-set_same t.distance.items w (d + size) 0 w_room

    old_at : (i : ℕ) → i < t.count → at t2.order.items i ≡ at t.order.items i
    old_at i l = ap (λ xs. at xs i) order_is ∙ get_or-set_other t.order.items t.count i w 0 (λ same. absurd (omega arith))

    new_at : at t2.order.items t.count ≡ w
    new_at = ap (λ xs. at xs t.count) order_is ∙ get_or-set_same t.order.items t.count w 0 order_room

    old_distance : (i : ℕ) → i < t.count → at t2.distance.items (at t2.order.items i) ≡ at t.distance.items (at t.order.items i)
    old_distance i l = ap (at t2.distance.items) (old_at i l) ∙ others (at t.order.items i) (apart i l)

    new_distance : at t2.distance.items (at t2.order.items t.count) ≡ d + size
    new_distance = ap (at t2.distance.items) new_at ∙ now

    no_farther : (u : ℕ) → u < g.nodes → at t.distance.items u ≢ never → at t.distance.items u ≤ d + size
    no_farther u l settled =
        let (i, li, is) = q.listed.all u l settled in
        let span = q.span i place li (omega arith) here in
        let same : at t.distance.items (at t.order.items i) ≡ at t.distance.items u = ap (at t.distance.items) is in
        omega (arith, span, same, d_is)

    -- a later entry is no nearer
    behind : (j : ℕ) → place ≤ j → j < t.count → d ≤ at t.distance.items (at t.order.items j)
    behind j le l = elim (cases_eq place j) [
      | inl same ↦ let e : at t.distance.items (at t.order.items place) ≡ at t.distance.items (at t.order.items j) = ap (λ k. at t.distance.items (at t.order.items k)) same in omega (arith, e, d_is)
      | inr ne ↦ let up = q.listed.rise place j (omega arith) l in omega (arith, up, d_is)
    ]

    reached_still : (u x : ℕ) → IsReached g len (at t.distance.items) u x → IsReached g len (at t2.distance.items) u x
    reached_still u x r =
        let ne : r.before ≢ w = λ same. r.settled (ap (at t.distance.items) same ∙ free) in
        let is = others r.before ne in
        record {
          before = r.before;
          edge = r.edge;
          before_in = r.before_in;
          edge_in = r.edge_in;
          settled = λ none. r.settled (sym is ∙ none);
          joined = r.joined;
          is = r.is ∙ ap (λ y. y + len r.edge) (sym is);
        }

    pub queue_more : IsQueue g len size radius t2 place
    queue_more = record {
      room = record {
        order = ap length order_is ∙ length-set t.order.items t.count w ∙ q.room.order;
        distance = ap length distance_is ∙ length-set t.distance.items w (d + size) ∙ q.room.distance;
        parent = ap (λ (x : List ℕ). length x) (ap (λ xs. xs.items) parent_is) ∙ q.room.parent;
        up = ap (λ (x : List ℕ). length x) (ap (λ xs. xs.items) up_is) ∙ q.room.up;
        least = ap (λ (x : List ℕ). length x) (ap (λ xs. xs.items) least_is) ∙ q.room.least;
      };
      place_in = omega (arith, count_is, here);
      some = omega (arith, count_is);
      at_first = old_distance 0 q.some ∙ q.at_first;
      listed = subst (λ (n : ℕ). IsListed g.nodes (at t2.distance.items) (at t2.order.items) n) (sym count_is)
          (subst (λ (xs : List ℕ). IsListed g.nodes (at t2.distance.items) (at xs) (t.count + 1)) (sym order_is)
          (subst (λ (xs : List ℕ). IsListed g.nodes (at xs) (at (set t.order.items t.count w)) (t.count + 1)) (sym distance_is)
          (list_more g.nodes t.distance.items t.order.items t.count w (d + size) q.listed w_in w_room order_room free not_never no_farther)));
      counted = subst (λ (xs : List ℕ). t2.count + count_below g.nodes (λ u. eqb (at xs u) never) ≡ g.nodes) (sym distance_is) (omega (arith, count_is, one_fewer, q.counted));
      span = λ i j l le lj. elim (cases_eq i t.count) [
        | inl same ↦ elim (cases_eq j t.count) [
          | inl same2 ↦ rw (same, same2) (omega arith)
          | inr nj ↦
              let lj2 : j < t.count = omega (arith, lj, count_is) in
              let up = behind j le lj2 in
              rw (same, new_distance, old_distance j lj2) (omega (arith, up))
        ]
        | inr ni ↦
            let li2 : i < t.count = omega (arith, l, count_is) in
            elim (cases_eq j t.count) [
              | inl same2 ↦
                  let up = q.span i place li2 (omega arith) here in
                  rw (same2, new_distance, old_distance i li2) (omega (arith, up, d_is))
              | inr nj ↦
                  let lj2 : j < t.count = omega (arith, lj, count_is) in
                  rw (old_distance i li2, old_distance j lj2) (q.span i j li2 le lj2)
            ]
      ];
      steps = λ i l. elim (cases_eq i t.count) [
        | inl same ↦ let step = q.steps place here in rw (same, new_distance) (omega (arith, step, d_is, fits, here))
        | inr ne ↦ let li : i < t.count = omega (arith, l, count_is) in rw (old_distance i li) (q.steps i li)
      ];
      within = λ i l. elim (cases_eq i t.count) [
        | inl same ↦ rw (same, new_distance) near
        | inr ne ↦ let li : i < t.count = omega (arith, l, count_is) in rw (old_distance i li) (q.within i li)
      ];
      tight = λ i pos l. elim (cases_eq i t.count) [
        | inl same ↦
            let v_is = others v (λ e. q.listed.settled place here (ap (at t.distance.items) (node ∙ e) ∙ free)) in
            rw (same, new_distance, new_at) (record {
              before = v;
              edge = e;
              before_in = subst (λ x. x < g.nodes) node (q.listed.inside place here);
              edge_in = e_in;
              settled = λ none. absurd (omega (arith, none, v_is, distance, d_short, small));
              joined = joins_turned g v w e join;
              is = omega (arith, v_is, distance, even_here);
            })
        | inr ne ↦
            let li : i < t.count = omega (arith, l, count_is) in
            rw (old_distance i li, old_at i li) (reached_still (at t.order.items i) (at t.distance.items (at t.order.items i)) (q.tight i pos li))
      ];
      near = λ i u f l u_in f_in join2 close.
          let li : i < t.count = omega (arith, l, here) in
          let was = q.near i u f l u_in f_in (rw (old_at i li) at join2) (rw (old_distance i li) at close) in
          let ne : u ≢ w = λ same. was.0 (ap (at t.distance.items) same ∙ free) in
          rw (old_distance i li, others u ne) was;
      chosen = λ i l.
          let li : i < t.count = omega (arith, l, here) in
          let u = at t.order.items i in
          let u_in = q.listed.inside i li in
          let settled = q.listed.settled i li in
          let room = queue_short t place q u u_in settled in
          let stays = choice_stays g len positive t.distance.items w (d + size) w_room free u (no_farther u u_in settled) (omega (arith, room, small)) (apart i li)
          (at t.least.items) (at t.parent.items u) (at t.up.items u) (at t.least.items u) (q.chosen i l) in
          rw (old_at i li, distance_is, least_is, parent_is, up_is) stays;
    }

  -- the links of the node at the place, one by one
  module _ (t : Tables) (place v d : ℕ) (links : List (ℕ × ℕ)) (row : IsRow g v links) (n p e m : ℕ)
      (looking : IsLooking g len size radius t place v d links n p e m) (w f : ℕ) (l : n < length links) (is : link_at links n ≡ (w, f)) where
    other : (w < g.nodes) × (f < g.edges) × (joins g v w f ≡ true)
    other = chosen_in g len (at t.distance.items) v links row n w f l is

    v_in : v < g.nodes
    v_in = subst (λ x. x < g.nodes) looking.node (looking.queue.listed.inside place looking.here)

    v_short : d + longest ≤ g.nodes * longest
    v_short = subst (λ x. x + longest ≤ g.nodes * longest) (ap (at t.distance.items) looking.node ∙ looking.distance) (queue_in t place looking.queue place looking.here).1

    loose : at t.distance.items w ≡ never → at t.distance.items w + len f ≢ at t.distance.items v
    loose free tight = absurd (omega (arith, free, tight, looking.distance, v_short, small))

    near_more : (P : ℕ × ℕ → Type 0) → ((i : ℕ) → i < n → P (link_at links i)) → P (w, f) → (i : ℕ) → i < n + 1 → P (link_at links i)
    near_more P old last i li = elim (cases_eq i n) [
      | inl same ↦ subst P (sym (ap (link_at links) same ∙ is)) last
      | inr ne ↦ old i (omega arith)
    ]

    -- a free one past the radius
    pub looking_passes : at t.distance.items w ≡ never → radius < d + len f → IsLooking g len size radius t place v d links (n + 1) p e m
    looking_passes free past = record {
      queue = looking.queue;
      here = looking.here;
      node = looking.node;
      distance = looking.distance;
      near = near_more (IsPassed len radius d t.distance.items) looking.near (λ close. absurd (omega arith));
      choice = choice_skip g len (at t.distance.items) (at t.least.items) v links row n w f l is p e m looking.choice (loose free);
    }

    -- a settled one
    pub looking_settled : (p2 e2 m2 : ℕ) → at t.distance.items w ≢ never → IsChoiceSome g len (at t.distance.items) (at t.least.items) v links (n + 1) p2 e2 m2 →
        IsLooking g len size radius t place v d links (n + 1) p2 e2 m2
    looking_settled p2 e2 m2 settled choice = record {
      queue = looking.queue;
      here = looking.here;
      node = looking.node;
      distance = looking.distance;
      near = near_more (IsPassed len radius d t.distance.items) looking.near (λ close. elim (even f other.1) [
        | inl size_is ↦
            let (j, lj, at_j) = looking.queue.listed.all w other.0 settled in
            let span = looking.queue.span j place lj (omega arith) looking.here in
            let first : at t.distance.items (at t.order.items j) ≡ at t.distance.items w = ap (at t.distance.items) at_j in
            let second : at t.distance.items (at t.order.items place) ≡ d = ap (at t.distance.items) looking.node ∙ looking.distance in
            (settled, omega (arith, span, first, second, size_is))
        | inr past ↦ absurd (omega (arith, close, past))
      ]);
      choice = choice;
    }

    -- a free one within the radius, which is listed
    pub looking_lists : (t2 : Tables) → at t.distance.items w ≡ never → len f ≡ size → d + size ≤ radius →
        t2.order.items ≡ set t.order.items t.count w → t2.count ≡ t.count + 1 → t2.distance.items ≡ set t.distance.items w (d + size) →
        t2.parent ≡ t.parent → t2.up ≡ t.up → t2.least ≡ t.least → IsLooking g len size radius t2 place v d links (n + 1) p e m
    looking_lists t2 free size_is close order_is count_is distance_is parent_is up_is least_is =
        let w_room : w < length t.distance.items = omega (arith, other.0, looking.queue.room.distance) in
        let apart : v ≢ w = λ same. absurd (omega (arith, ap (at t.distance.items) same, free, looking.distance, v_short, small)) in
        let skipped = choice_skip g len (at t.distance.items) (at t.least.items) v links row n w f l is p e m looking.choice (loose free) in
        let stays = some_stays g len positive t.distance.items w (d + size) w_room free v (omega (arith, looking.distance))
        (omega (arith, looking.distance, v_short, small)) apart (at t.least.items) links (n + 1) p e m skipped in
        record {
          queue = queue_more t place v d looking.queue looking.here looking.node looking.distance t2 w f other.0 other.1 other.2 free size_is close
              order_is count_is distance_is parent_is up_is least_is;
          here = omega (arith, looking.here, count_is);
          node = ap (λ xs. at xs place) order_is ∙ get_or-set_other t.order.items t.count place w 0 (λ same. absurd (omega (arith, same, looking.here))) ∙ looking.node;
          distance = ap (λ xs. at xs v) distance_is ∙ get_or-set_other t.distance.items w v (d + size) 0 apart ∙ looking.distance;
          near =
              let there : at t2.distance.items w ≡ d + size = ap (λ xs. at xs w) distance_is ∙ get_or-set_same t.distance.items w (d + size) 0 w_room in
              near_more (IsPassed len radius d t2.distance.items) (λ i li within.
              let was = looking.near i li within in
              let u = (link_at links i).0 in
              let away : u ≢ w = λ same. was.0 (ap (at t.distance.items) same ∙ free) in
              let kept : at t2.distance.items u ≡ at t.distance.items u = ap (λ xs. at xs u) distance_is ∙ get_or-set_other t.distance.items w u (d + size) 0 away in
              rw kept was) (λ within. ((λ none. absurd (omega (arith, none, there, v_short, fits, small))), omega (arith, there, size_is)));
          choice = rw (distance_is, least_is) stays;
        }

  -- once all of them have been looked at
  pub looking_ends : (t : Tables) (place v d : ℕ) (links : List (ℕ × ℕ)) → IsRow g v links → (n p e m : ℕ) → length links ≤ n →
      IsLooking g len size radius t place v d links n p e m → IsLooked g len size radius t place p e m
  looking_ends t place v d links row n p e m all looking =
      let d_is : at t.distance.items (at t.order.items place) ≡ d = ap (at t.distance.items) looking.node ∙ looking.distance in
      record {
        queue = looking.queue;
        here = looking.here;
        choice = rw looking.node (choice_all g len (at t.distance.items) (at t.least.items) v links row n p e m all looking.choice);
        near = λ w f w_in f_in join close.
            let (i, li, is) = row.whole f w f_in (rw looking.node at join) in
            rw d_is (subst (IsPassed len radius d t.distance.items) is (looking.near i (omega arith)) (omega (arith, d_is, close)));
      }

  -- the choice is kept, and the next node follows
  pub queue_next : (t t2 : Tables) (place p e m : ℕ) → IsLooked g len size radius t place p e m → t2.order ≡ t.order →
      t2.count ≡ t.count → t2.distance ≡ t.distance → t2.parent.items ≡ set t.parent.items (at t.order.items place) p →
      t2.up.items ≡ set t.up.items (at t.order.items place) e → t2.least.items ≡ set t.least.items (at t.order.items place) m →
      IsQueue g len size radius t2 (place + 1)
  queue_next t t2 place p e m looked order_is count_is distance_is parent_is up_is least_is =
      let q = looked.queue in
      let v = at t.order.items place in
      let v_in = q.listed.inside place looked.here in
      let orders : t2.order.items ≡ t.order.items = ap (λ xs. xs.items) order_is in
      let distances : t2.distance.items ≡ t.distance.items = ap (λ xs. xs.items) distance_is in
      record {
        room = record {
          order = ap length orders ∙ q.room.order;
          distance = ap length distances ∙ q.room.distance;
          parent = ap length parent_is ∙ length-set t.parent.items v p ∙ q.room.parent;
          up = ap length up_is ∙ length-set t.up.items v e ∙ q.room.up;
          least = ap length least_is ∙ length-set t.least.items v m ∙ q.room.least;
        };
        place_in = omega (arith, looked.here, count_is);
        some = omega (arith, looked.here, count_is);
        at_first = rw (orders, distances) q.at_first;
        listed = rw (orders, distances, count_is) q.listed;
        counted = rw (distances, count_is) q.counted;
        span = λ i j l le lj. rw (orders, distances) (q.span i j (omega (arith, l, count_is)) (omega arith) (omega (arith, lj, count_is)));
        steps = λ i l. rw (orders, distances) (q.steps i (omega (arith, l, count_is)));
        within = λ i l. rw (orders, distances) (q.within i (omega (arith, l, count_is)));
        tight = λ i pos l. rw (orders, distances) (q.tight i pos (omega (arith, l, count_is)));
        near = λ i w f l w_in f_in join close. elim (cases_eq i place) [
          | inl same ↦ rw (orders, distances, same) (looked.near w f w_in f_in (rw (orders, same) at join) (rw (orders, distances, same) at close))
          | inr ne ↦ rw (orders, distances) (q.near i w f (omega arith) w_in f_in (rw orders at join) (rw (orders, distances) at close))
        ];
        chosen = λ i l.
            let li : i ≤ place = omega arith in
            let u = at t.order.items i in
            let le : at t.distance.items u ≤ at t.distance.items v = elim (cases_eq i place) [
              | inl same ↦ rw same (omega arith)
              | inr ne ↦ q.listed.rise i place (omega arith) looked.here
            ] in
            rw (orders, distances, parent_is, up_is, least_is) (chosen_kept g len positive (at t.distance.items) t.parent.items t.up.items t.least.items v p e m
            (omega (arith, v_in, q.room.parent)) (omega (arith, v_in, q.room.up)) (omega (arith, v_in, q.room.least)) looked.choice u le (λ ne.
            q.chosen i (elim (cases_eq i place) [
              | inl same ↦ absurd (ne (ap (at t.order.items) same))
              | inr before ↦ omega arith
            ])));
      }

  -- before the first node
  pub queue_begins : (t t2 : Tables) (base : ℕ) → base < g.nodes → IsBlank g.nodes t → t2.order.items ≡ set t.order.items t.count base →
      t2.count ≡ t.count + 1 → t2.distance.items ≡ set t.distance.items base 0 → t2.parent ≡ t.parent → t2.up ≡ t.up →
      t2.least ≡ t.least → IsQueue g len size radius t2 0 × (at t2.order.items 0 ≡ base)
  queue_begins t t2 base base_in blank order_is count_is distance_is parent_is up_is least_is = (
    record {
      room = record {
        order = ap length order_is ∙ length-set t.order.items t.count base ∙ blank.room.order;
        distance = ap length distance_is ∙ length-set t.distance.items base 0 ∙ blank.room.distance;
        parent = ap (λ (x : List ℕ). length x) (ap (λ xs. xs.items) parent_is) ∙ blank.room.parent;
        up = ap (λ (x : List ℕ). length x) (ap (λ xs. xs.items) up_is) ∙ blank.room.up;
        least = ap (λ (x : List ℕ). length x) (ap (λ xs. xs.items) least_is) ∙ blank.room.least;
      };
      place_in = omega arith;
      some = omega (arith, count_is);
      at_first = ap (at t2.distance.items) first ∙ zero_there;
      listed = record {
        inside = λ i l. rw (only i l) base_in;
        settled = λ i l none. absurd (omega (arith, ap (at t2.distance.items) (only i l), zero_there, none));
        all = λ u l settled. (0, omega (arith, count_is), first ∙ sym (alone u l settled));
        rise = λ i j lt l. absurd (omega (arith, count_is, blank.count));
      };
      counted = subst (λ (xs : List ℕ). t2.count + count_below g.nodes (λ u. eqb (at xs u) never) ≡ g.nodes) (sym distance_is) (omega (arith, count_is, blank.count, one_fewer, all_left));
      span = λ i j l le lj. rw (only i l, only j lj) (omega arith);
      steps = λ i l. rw (only i l, zero_there) (omega arith);
      within = λ i l. rw (only i l, zero_there) (omega arith);
      tight = λ i pos l. absurd (omega (arith, count_is, blank.count));
      near = λ i w f l. absurd (omega arith);
      chosen = λ i l. absurd (omega arith);
    },
    first,
  )
    where
      base_room : base < length t.distance.items
      base_room = omega (arith, base_in, blank.room.distance)

      all_left : count_below g.nodes (λ u. eqb (at t.distance.items u) never) ≡ g.nodes
      all_left = all_free g.nodes t.distance.items blank.none

      one_fewer : count_below g.nodes (λ u. eqb (at t.distance.items u) never) ≡ suc (count_below g.nodes (λ u. eqb (at (set t.distance.items base 0) u) never))
      one_fewer = one_less g.nodes base 0 t.distance.items base_in (sym blank.room.distance) (blank.none base base_in) (λ e. absurd (omega arith))

      first : at t2.order.items 0 ≡ base
      first = ap (λ k. at t2.order.items k) (sym blank.count) ∙ (ap (λ xs. at xs t.count) order_is
          ∙ get_or-set_same t.order.items t.count base 0 (omega (arith, blank.count, blank.room.order, base_in)))

      zero_there : at t2.distance.items base ≡ 0
      zero_there = ap (λ xs. at xs base) distance_is ∙ get_or-set_same t.distance.items base 0 0 base_room

      only : (i : ℕ) → i < t2.count → at t2.order.items i ≡ base
      only i l = let z : i ≡ 0 = omega (arith, count_is, blank.count) in ap (at t2.order.items) z ∙ first

      alone : (u : ℕ) → u < g.nodes → at t2.distance.items u ≢ never → u ≡ base
      alone u l settled = elim (cases_eq u base) [
        | inl same ↦ same
        | inr ne ↦ absurd (settled (ap (λ xs. at xs u) distance_is ∙ get_or-set_other t.distance.items base u 0 0 ne ∙ blank.none u l))
      ]

  -- once all nodes of the list have passed on
  pub queue_ends : (t : Tables) (base : ℕ) → IsQueue g len size radius t t.count → at t.order.items 0 ≡ base → IsFound g len base radius t
  queue_ends t base q first = record {
    room = q.room;
    count_in = omega (arith, q.counted);
    reached = record {
      at_base = ap (at t.distance.items) (sym first) ∙ q.at_first;
      within = λ u l settled.
          let (i, li, is) = q.listed.all u l settled in
          subst (λ x. at t.distance.items x ≤ radius) is (q.within i li);
      fits = queue_short t t.count q;
      near = λ u w f u_in w_in f_in join settled close.
          let (i, li, is) = q.listed.all u u_in settled in
          rw is at (q.near i w f li w_in f_in (rw is join) (rw is close));
      tight = λ w w_in ne settled.
          let (i, li, is) = q.listed.all w w_in settled in
          let pos : 0 < i = elim (cases_eq i 0) [
            | inl none ↦ absurd (ne (sym is ∙ ap (at t.order.items) none ∙ first))
            | inr some ↦ omega arith
          ] in
          rw is at (q.tight i pos li);
    };
    listed = q.listed;
    chosen = λ u l settled.
        let (i, li, is) = q.listed.all u l settled in
        subst (IsChosenAt g len t) is (q.chosen i li);
  }
