-- The list of settled nodes as a queue, where all edges have one length.
use Rattle.surf_surfaces.proofs.Common.{ℕ, suc, ◌<◌, ◌≤◌, ◌≡◌, ◌≢◌, ◌+◌, ◌*◌, true, refl, sym, ap, ◌∙◌, subst, arith, inl, inr, List, length, set, eqb, get_or-set_same, get_or-set_other, cases_eq, count_below, joins_turned, Graph, IsGraph, IsConnectedGraph, joins}
use Rattle.std.proofs.Math.ListN.{length-set}
use Rattle.surf_lengths.specs.Lengths.{longest}
use Rattle.surf_mesh.specs.Links.{link_at, IsRow}
use Rattle.surf_base.specs.Tables.{at}
use Rattle.surf_tree.specs.Searches.{far, IsReached, IsSettled}
use Rattle.surf_tree.specs.Queues.{IsQueue}
use Rattle.surf_tree.proofs.Choosing.{chosen_in}
use Rattle.surf_tree.proofs.Offering.{one_less, all_free}
use Rattle.surf_tree.proofs.Settling.{all_or_none}

-- the first of a list stays when a later one is written
pub first_kept : (order : List ℕ) (count w : ℕ) → 0 < count → at (set order count w) 0 ≡ at order 0
first_kept order count w some = get_or-set_other order count 0 w 0 (λ same. absurd (omega arith))

-- the links before a number have been looked at
pub record IsPassing (g : Graph) (len : ℕ → ℕ) (size : ℕ) (dist order : List ℕ) (count place v d : ℕ) (links : List (ℕ × ℕ)) (n : ℕ) : Type 0 where
  pub queue : IsQueue g len size dist order count place
  pub here : place < count
  pub node : at order place ≡ v
  pub distance : at dist v ≡ d
  pub near : (i : ℕ) → i < n → (at dist (link_at links i).0 ≢ far) × (at dist (link_at links i).0 ≤ d + size)

module _ (g : Graph) (len : ℕ → ℕ) (size : ℕ) (small : g.nodes ≤ longest) (even : (e : ℕ) → e < g.edges → len e ≡ size) (fits : size ≤ longest) where
  -- the distance of a listed node is short
  pub queue_short : (dist order : List ℕ) (count place : ℕ) → IsQueue g len size dist order count place → (i : ℕ) → i < count →
      at dist (at order i) + longest ≤ g.nodes * longest
  queue_short dist order count place q i l = let step = q.steps i l in omega (arith, step, q.counted, l)

  -- while a node is free there is room
  pub queue_room : (dist order : List ℕ) (count place : ℕ) → IsQueue g len size dist order count place → (w : ℕ) → w < g.nodes → at dist w ≡ far → count < g.nodes
  queue_room dist order count place q w w_in free =
      let one = one_less g.nodes w 0 dist w_in (sym q.dist_room) free (λ e. absurd (omega arith)) in
      omega (arith, one, q.counted)

  -- a node that is listed
  module _ (dist order : List ℕ) (count place v d : ℕ) (q : IsQueue g len size dist order count place) (here : place < count)
      (node : at order place ≡ v) (distance : at dist v ≡ d) (w e : ℕ) (w_in : w < g.nodes)
      (e_in : e < g.edges) (join : joins g v w e ≡ true) (free : at dist w ≡ far) where
    abbrev dist2 : List ℕ
    dist2 = set dist w (d + size)

    abbrev order2 : List ℕ
    order2 = set order count w

    w_room : w < length dist
    w_room = omega (arith, w_in, q.dist_room)

    d_is : at dist (at order place) ≡ d
    d_is = ap (at dist) node ∙ distance

    d_short : d + longest ≤ g.nodes * longest
    d_short = subst (λ x. x + longest ≤ g.nodes * longest) d_is (queue_short dist order count place q place here)

    pub not_far : d + size ≢ far
    not_far same = absurd (omega (arith, same, d_short, fits, small))

    one_fewer : count_below g.nodes (λ u. eqb (at dist u) far) ≡ suc (count_below g.nodes (λ u. eqb (at dist2 u) far))
    one_fewer = one_less g.nodes w (d + size) dist w_in (sym q.dist_room) free not_far

    room : count < length order
    room = let l = queue_room dist order count place q w w_in free in omega (arith, l, q.order_room)

    apart : (i : ℕ) → i < count → at order i ≢ w
    apart i l same = q.settled i l (ap (at dist) same ∙ free)

    others : (u : ℕ) → u ≢ w → at dist2 u ≡ at dist u
    others u ne = get_or-set_other dist w u (d + size) 0 ne

    now : at dist2 w ≡ d + size
    now = get_or-set_same dist w (d + size) 0 w_room

    old_at : (i : ℕ) → i < count → at order2 i ≡ at order i
    old_at i l = get_or-set_other order count i w 0 (λ same. absurd (omega arith))

    new_at : at order2 count ≡ w
    new_at = get_or-set_same order count w 0 room

    old_distance : (i : ℕ) → i < count → at dist2 (at order2 i) ≡ at dist (at order i)
    old_distance i l = ap (at dist2) (old_at i l) ∙ others (at order i) (apart i l)

    new_distance : at dist2 (at order2 count) ≡ d + size
    new_distance = ap (at dist2) new_at ∙ now

    -- a later entry is no nearer
    behind : (j : ℕ) → place ≤ j → j < count → d ≤ at dist (at order j)
    behind j le l = elim (cases_eq place j) [
      | inl same ↦ let e : at dist (at order place) ≡ at dist (at order j) = ap (λ k. at dist (at order k)) same in omega (arith, e, d_is)
      | inr ne ↦ let up = q.rise place j (omega arith) l in omega (arith, up, d_is)
    ]

    reached_still : (u x : ℕ) → IsReached g len (at dist) u x → IsReached g len (at dist2) u x
    reached_still u x r =
        let ne : r.before ≢ w = λ same. r.settled (ap (at dist) same ∙ free) in
        let is = others r.before ne in
        record {
          before = r.before;
          edge = r.edge;
          before_in = r.before_in;
          edge_in = r.edge_in;
          settled = λ none. r.settled (sym is ∙ none);
          joined = r.joined;
          is = r.is ∙ ap (λ y. y + len r.edge) (sym is);
        }

    pub queue_more : IsQueue g len size dist2 order2 (count + 1) place
    queue_more = record {
      order_room = length-set order count w ∙ q.order_room;
      dist_room = length-set dist w (d + size) ∙ q.dist_room;
      place_in = omega (arith, here);
      some = omega arith;
      at_first = old_distance 0 q.some ∙ q.at_first;
      inside = λ i l. elim (cases_eq i count) [
        | inl same ↦ rw (same, new_at) w_in
        | inr ne ↦ let li : i < count = omega (arith, l) in rw (old_at i li) (q.inside i li)
      ];
      settled = λ i l. elim (cases_eq i count) [
        | inl same ↦ rw (same, new_distance) not_far
        | inr ne ↦ let li : i < count = omega (arith, l) in rw (old_distance i li) (q.settled i li)
      ];
      all = λ u l known. elim (cases_eq u w) [
        | inl same ↦ (count, omega arith, new_at ∙ sym same)
        | inr ne ↦
            let (i, li, is) = q.all u l (λ none. known (others u ne ∙ none)) in
            (i, omega arith, old_at i li ∙ is)
      ];
      rise = λ i j lt lj. elim (cases_eq j count) [
        | inl same ↦
            let li : i < count = omega (arith, lt, same) in
            let up = q.span i place li (omega arith) here in
            rw (same, new_distance, old_distance i li) (omega (arith, up, d_is))
        | inr ne ↦
            let lj2 : j < count = omega (arith, lj) in
            let li : i < count = omega (arith, lt) in
            rw (old_distance i li, old_distance j lj2) (q.rise i j lt lj2)
      ];
      counted = omega (arith, one_fewer, q.counted);
      span = λ i j l le lj. elim (cases_eq i count) [
        | inl same ↦ elim (cases_eq j count) [
          | inl same2 ↦ rw (same, same2) (omega arith)
          | inr nj ↦
              let lj2 : j < count = omega (arith, lj) in
              let up = behind j le lj2 in
              rw (same, new_distance, old_distance j lj2) (omega (arith, up))
        ]
        | inr ni ↦
            let li2 : i < count = omega (arith, l) in
            elim (cases_eq j count) [
              | inl same2 ↦
                  let up = q.span i place li2 (omega arith) here in
                  rw (same2, new_distance, old_distance i li2) (omega (arith, up, d_is))
              | inr nj ↦
                  let lj2 : j < count = omega (arith, lj) in
                  rw (old_distance i li2, old_distance j lj2) (q.span i j li2 le lj2)
            ]
      ];
      steps = λ i l. elim (cases_eq i count) [
        | inl same ↦ let step = q.steps place here in rw (same, new_distance) (omega (arith, step, d_is, fits, here))
        | inr ne ↦ let li : i < count = omega (arith, l) in rw (old_distance i li) (q.steps i li)
      ];
      tight = λ i pos l. elim (cases_eq i count) [
        | inl same ↦
            let v_is = others v (λ e. q.settled place here (ap (at dist) (node ∙ e) ∙ free)) in
            rw (same, new_distance, new_at) (record {
              before = v;
              edge = e;
              before_in = subst (λ x. x < g.nodes) node (q.inside place here);
              edge_in = e_in;
              settled = λ none. absurd (omega (arith, none, v_is, distance, d_short, small));
              joined = joins_turned g v w e join;
              is = omega (arith, v_is, distance, even e e_in);
            })
        | inr ne ↦
            let li : i < count = omega (arith, l) in
            rw (old_distance i li, old_at i li) (reached_still (at order i) (at dist (at order i)) (q.tight i pos li))
      ];
      near = λ i u f l u_in f_in join2.
          let li : i < count = omega (arith, l, here) in
          let was = q.near i u f l u_in f_in (rw (old_at i li) at join2) in
          let ne : u ≢ w = λ same. was.0 (ap (at dist) same ∙ free) in
          rw (old_distance i li, others u ne) was;
    }

  -- the links of the node at the place, one by one
  module _ (dist order : List ℕ) (count place v d : ℕ) (links : List (ℕ × ℕ)) (row : IsRow g v links) (n : ℕ)
      (passing : IsPassing g len size dist order count place v d links n) (w f : ℕ) (l : n < length links) (is : link_at links n ≡ (w, f)) where
    other : (w < g.nodes) × (f < g.edges) × (joins g v w f ≡ true)
    other = chosen_in g len (at dist) v links row n w f l is

    -- a settled one
    pub passing_settled : at dist w ≢ far → IsPassing g len size dist order count place v d links (n + 1)
    passing_settled settled = record {
      queue = passing.queue;
      here = passing.here;
      node = passing.node;
      distance = passing.distance;
      near = λ i li. elim (cases_eq i n) [
        | inl same ↦
            let (j, lj, at_j) = passing.queue.all w other.0 settled in
            let span = passing.queue.span j place lj (omega arith) passing.here in
            let first : at dist (at order j) ≡ at dist w = ap (at dist) at_j in
            let second : at dist (at order place) ≡ d = ap (at dist) passing.node ∙ passing.distance in
            subst (λ (x : ℕ × ℕ). (at dist x.0 ≢ far) × (at dist x.0 ≤ d + size)) (sym (ap (link_at links) same ∙ is)) (settled, omega (arith, span, first, second))
        | inr ne ↦ passing.near i (omega arith)
      ];
    }

    -- a free one, which is listed
    pub passing_lists : at dist w ≡ far → IsPassing g len size (set dist w (d + size)) (set order count w) (count + 1) place v d links (n + 1)
    passing_lists free =
        let w_room : w < length dist = omega (arith, other.0, passing.queue.dist_room) in
        let apart : v ≢ w = λ same. passing.queue.settled place passing.here (ap (at dist) (passing.node ∙ same) ∙ free) in
        record {
          queue = queue_more dist order count place v d passing.queue passing.here passing.node passing.distance w f other.0 other.1 other.2 free;
          here = omega (arith, passing.here);
          node = get_or-set_other order count place w 0 (λ same. absurd (omega (arith, same, passing.here))) ∙ passing.node;
          distance = get_or-set_other dist w v (d + size) 0 apart ∙ passing.distance;
          near = λ i li. elim (cases_eq i n) [
            | inl same ↦
                let there : at (set dist w (d + size)) w ≡ d + size = get_or-set_same dist w (d + size) 0 w_room in
                let away = not_far dist order count place v d passing.queue passing.here passing.node passing.distance w f other.0 other.1 other.2 free in
                subst (λ (x : ℕ × ℕ). (at (set dist w (d + size)) x.0 ≢ far) × (at (set dist w (d + size)) x.0 ≤ d + size)) (sym (ap (link_at links) same ∙ is)) ((λ none. away (sym there ∙ none)), omega (arith, there))
            | inr ne ↦
                let was = passing.near i (omega arith) in
                let u = (link_at links i).0 in
                let other_one : u ≢ w = λ same. was.0 (ap (at dist) same ∙ free) in
                let kept : at (set dist w (d + size)) u ≡ at dist u = get_or-set_other dist w u (d + size) 0 other_one in
                rw kept was
          ];
        }

  pub passing_none : (dist order : List ℕ) (count place : ℕ) (links : List (ℕ × ℕ)) → IsQueue g len size dist order count place → place < count →
      IsPassing g len size dist order count place (at order place) (at dist (at order place)) links 0
  passing_none dist order count place links q here = record { queue = q; here = here; node = refl; distance = refl; near = λ i l. absurd (omega arith) }

  -- once all of them have been looked at, the next node follows
  pub passing_ends : (dist order : List ℕ) (count place v d : ℕ) (links : List (ℕ × ℕ)) → IsRow g v links → (n : ℕ) → length links ≤ n →
      IsPassing g len size dist order count place v d links n → IsQueue g len size dist order count (place + 1)
  passing_ends dist order count place v d links row n all passing =
      let q = passing.queue in
      let d_is : at dist (at order place) ≡ d = ap (at dist) passing.node ∙ passing.distance in
      record {
        order_room = q.order_room;
        dist_room = q.dist_room;
        place_in = omega (arith, passing.here);
        some = q.some;
        at_first = q.at_first;
        inside = q.inside;
        settled = q.settled;
        all = q.all;
        rise = q.rise;
        counted = q.counted;
        span = λ i j l le lj. q.span i j l (omega arith) lj;
        steps = q.steps;
        tight = q.tight;
        near = λ i w f l w_in f_in join. elim (cases_eq i place) [
          | inl same ↦
              let (k, lk, is) = row.whole f w f_in (rw (same, passing.node) at join) in
              let found = passing.near k (omega arith) in
              rw (same, d_is) (subst (λ (x : ℕ × ℕ). (at dist x.0 ≢ far) × (at dist x.0 ≤ d + size)) is found)
          | inr ne ↦ q.near i w f (omega arith) w_in f_in join
        ];
      }

  -- before the first node
  module _ (base : ℕ) (base_in : base < g.nodes) (blank order : List ℕ) (dist_room : length blank ≡ g.nodes) (order_room : length order ≡ g.nodes) (free : (v : ℕ) → v < g.nodes → at blank v ≡ far) where
    first : at (set order 0 base) 0 ≡ base
    first = get_or-set_same order 0 base 0 (omega (arith, order_room, base_in))

    zero_there : at (set blank base 0) base ≡ 0
    zero_there = get_or-set_same blank base 0 0 (omega (arith, base_in, dist_room))

    only : (i : ℕ) → i < 1 → at (set order 0 base) i ≡ base
    only i l = let z : i ≡ 0 = omega arith in ap (at (set order 0 base)) z ∙ first

    there : (i : ℕ) → i < 1 → at (set blank base 0) (at (set order 0 base) i) ≡ 0
    there i l = ap (at (set blank base 0)) (only i l) ∙ zero_there

    pub queue_begins : IsQueue g len size (set blank base 0) (set order 0 base) 1 0 × (at (set order 0 base) 0 ≡ base)
    queue_begins = (
      record {
        order_room = length-set order 0 base ∙ order_room;
        dist_room = length-set blank base 0 ∙ dist_room;
        place_in = omega arith;
        some = omega arith;
        at_first = there 0 (omega arith);
        inside = λ i l. rw (only i l) base_in;
        settled = λ i l none. absurd (omega (arith, there i l, none));
        all = λ u l known. elim (cases_eq u base) [
          | inl same ↦ (0, omega arith, first ∙ sym same)
          | inr ne ↦ absurd (known (get_or-set_other blank base u 0 0 ne ∙ free u l))
        ];
        rise = λ i j lt l. absurd (omega arith);
        counted =
            let one = one_less g.nodes base 0 blank base_in (sym dist_room) (free base base_in) (λ e. absurd (omega arith)) in
            let every = all_free g.nodes blank free in
            omega (arith, one, every);
        span = λ i j l le lj. rw (there i l, there j lj) (omega arith);
        steps = λ i l. rw (there i l) (omega arith);
        tight = λ i pos l. absurd (omega arith);
        near = λ i w f l. absurd (omega arith);
      },
      first,
    )

  -- once all nodes of the list have passed on
  pub queue_ends : (dist order : List ℕ) (count base : ℕ) → IsGraph g → IsConnectedGraph g → base < g.nodes → IsQueue g len size dist order count count → at order 0 ≡ base → IsSettled g len base (at dist)
  queue_ends dist order count base graph connected base_in q first =
      let zero_there : at dist base ≡ 0 = ap (at dist) (sym first) ∙ q.at_first in
      let goes_on : (u w e : ℕ) → u < g.nodes → w < g.nodes → e < g.edges → joins g u w e ≡ true → at dist u ≢ far → (at dist w ≢ far) × (at dist w ≤ at dist u + len e) =
      λ u w e lu lw le join known.
      let (i, li, is) = q.all u lu known in
      let found = q.near i w e li lw le (rw is join) in
      let bound : at dist w ≤ at dist u + size = rw is at found.1 in
      (found.0, omega (arith, bound, even e le))
      in
      let settled : (u : ℕ) → u < g.nodes → at dist u ≢ far =
      all_or_none g (at dist) base graph connected base_in (λ none. absurd (omega (arith, zero_there, none))) (λ u w e lu lw le join known. (goes_on u w e lu lw le join known).0)
      in
      record {
        at_base = zero_there;
        fits = λ u l.
            let (i, li, is) = q.all u l (settled u l) in
            subst (λ x. at dist x + longest ≤ g.nodes * longest) is (queue_short dist order count count q i li);
        near = λ u w e lu lw le join. (goes_on u w e lu lw le join (settled u lu)).1;
        tight = λ w l ne.
            let (i, li, is) = q.all w l (settled w l) in
            let pos : 0 < i = elim (cases_eq i 0) [
              | inl none ↦ absurd (ne (sym is ∙ (ap (at order) none ∙ first)))
              | inr known ↦ omega arith
            ] in
            rw is at (q.tight i pos li);
      }
