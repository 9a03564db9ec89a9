-- Rounds: what is kept of their searches, and in the end has the places of the basis.
use Rattle.surf_search.proofs.Common.{◌≡◌, ℕ, ◌<◌, max, ◌≤◌, ◌≢◌, ◌*◌, ◌^◌, ◌⊎◌, get_or-set_same, get_or-set_other, Bool, true, false, eqb, leb, le-leb, leb-true, not, List, [], length, get_or, set, All, eq-eqb, edge_count, Found, is_no_later, merge, get_or_default, no_member, Option, refl, sym, ap, ◌∙◌, subst, arith, inl, inr, IsTrue, ◌&&◌, cases_Bool, cases_eq, cases_lt, or_cases, or_left, or_right, and_parts, and_from, false≢true, Tree, IsSurface, ArePositive, IsLoopCount, MeetsAll, Place, get_or_past, choice_exists, least_base_on_way, shortest_trees, AgreeOff, with_near_places, Sought, AreSoughtFromStart, MeetsUpTo, either, everywhere, with_places, either_start, on_set_start, Candidate, Signed, Chosen, signed_earlier, independent_of, limit_of, SurfaceTables, AreFound, is_among, is_marked, AreMarkedNear, AreNoShorter, spare_of, HavePlacesOfBasis, is_placed, is_within_cap, cap_at, in_caps, in_round, IsCapped, AreKeptTo, AreKeptUpTo, AreCapped, IsKeptAt, IsBarring, KeepsInRound, AreLongerOr, AreNoLess, AreDone, AreRaisedTo, StaysEnough, fall_order, AreSigned, sorted_by_number}
use Rattle.surf_search.proofs.Asked.{caps_meet, cut_meets, raised_kept, capped_places, within_by_none, within_by_size, within_more}
use Rattle.surf_search.proofs.Capped.{within_start, within_zero, is_beyond, kept_begun, kept_fewer, kept_next, kept_near}
use Rattle.surf_search.proofs.Capping.{capped_more}
use Rattle.surf_search.proofs.Looped.{tells_at, tells_long, signed_of}
use Rattle.surf_finder.proofs.PassedOver.{marked_more}
use Rattle.surf_search.proofs.Placed.{placed_found}
use Rattle.surf_finder.proofs.Searched.{found_short}

-- ---- a round

-- the tables of a finder that bars vertices are those of the surface, with other lengths
pub barring_is : (f scout : SurfaceTables) (marks : List Bool) → IsBarring f scout marks →
    scout ≡ record f { lengths = scout.lengths }
barring_is f scout marks h t = record { mesh = h.ahead.mesh t; lengths = scout.lengths; signs = h.ahead.signs t; given = h.ahead.given t }

-- and with the lengths before any vertex was barred they are those of the surface
pub unbarred_is : (f scout : SurfaceTables) (marks : List Bool) → IsBarring f scout marks → f.given ≡ f.lengths →
    record scout { lengths = scout.given } ≡ f
unbarred_is f scout marks h same t =
    record { mesh = h.ahead.mesh t; lengths = (h.ahead.given ∙ same) t; signs = h.ahead.signs t; given = h.ahead.given t }

round_start : (caps : List ℕ) (marks : List Bool) (bound z : ℕ) (p q : Place) → IsTrue (is_no_later p q) →
    IsTrue (in_round caps marks bound z q) → IsTrue (in_round caps marks bound z p)
round_start caps marks bound z =
    either_start (in_caps caps) (λ z place. is_marked marks z && is_within_cap bound place)
    (λ z. within_start (cap_at caps z)) (on_set_start (is_marked marks) (is_within_cap bound) (within_start bound)) z

marked_inside : (marks : List Bool) (v : ℕ) → IsTrue (is_marked marks v) → v < length marks
marked_inside marks v on = elim (cases_lt v (length marks)) [
  | inl less ↦ less
  | inr past ↦ absurd (false≢true (sym (get_or_past marks v false past) ∙ on))
]

-- what was kept is enough in a round that has marked only what was searched without a cap
pub round_begun : (f : SurfaceTables) (caps : List ℕ) (choice : Chosen) (marks : List Bool) →
    AreDone caps marks → IsSurface f.mesh → ArePositive f.mesh f.lengths →
    AreKeptUpTo f (in_caps caps) choice → (bound : ℕ) → AreKeptUpTo f (in_round caps marks bound) choice
round_begun f caps choice marks done surface positive kept bound trees chosen d split are =
    kept_fewer f.mesh f.lengths (λ x. (trees x).tree) surface positive
    (shortest_trees f.mesh f.lengths surface positive trees chosen) d split (limit_of choice) (limit_of choice) (in_caps caps)
    (in_round caps marks bound) choice.kept (kept trees chosen d split are) (λ p on. on)
    (λ z p on. elim (or_cases (in_caps caps z p) (is_marked marks z && is_within_cap bound p) on) [
      | inl old ↦ old
      | inr new ↦
          let is = done z (and_parts (is_marked marks z) (is_within_cap bound p) new).0 in
          within_by_none (cap_at caps z) p (omega (arith, is))
    ])

-- where it has marked one more of these
pub done_more : (caps : List ℕ) (old new : List Bool) (v : ℕ) → AreDone caps old → new ≡ set old v true →
    cap_at caps v ≡ 18446744073709551615 → AreDone caps new
done_more caps old new v h is all u on = elim (cases_eq u v) [
  | inl here ↦ ap (cap_at caps) here ∙ all
  | inr ne ↦ h u (sym (get_or-set_other old v u true false ne) ∙ ap (λ ms. is_marked ms u) (sym is) ∙ on)
]

-- for fewer places
pub round_fewer : (f : SurfaceTables) (sought part : Sought) (choice : Chosen) → IsSurface f.mesh → ArePositive f.mesh f.lengths →
    ((z : ℕ) (p : Place) → IsTrue (part z p) → IsTrue (sought z p)) → AreKeptUpTo f sought choice → AreKeptUpTo f part choice
round_fewer f sought part choice surface positive less kept trees chosen d split are =
    kept_fewer f.mesh f.lengths (λ x. (trees x).tree) surface positive
    (shortest_trees f.mesh f.lengths surface positive trees chosen) d split (limit_of choice) (limit_of choice) sought part
    choice.kept (kept trees chosen d split are) (λ p on. on) less

module _ (f : SurfaceTables) (other : List ℕ) (surface : IsSurface f.mesh) (positive : ArePositive f.mesh f.lengths)
    (positive_too : ArePositive f.mesh other) (few_v : f.mesh.vertices ≤ 2 ^ 32) (few_e : edge_count f.mesh ≤ 2 ^ 32)
    (no_shorter : AreNoShorter f.mesh f.lengths other) (set : ℕ → Bool) (agree : AgreeOff f.mesh f.lengths other set)
    (z cap : ℕ) (z_in : z < f.mesh.vertices) (sought : Sought) (starts : AreSoughtFromStart sought)
    (as_far : (n : ℕ) (p : Place) → IsTrue (set n) → IsTrue (is_within_cap cap p) → IsTrue (sought n p)) (old new : Chosen)
    (limit : Option Candidate) (capped : IsCapped (limit_of old) cap limit)
    (next : IsKeptAt (record f { lengths = other }) z limit old new) where
  -- a search at a vertex
  pub searched_here : AreKeptUpTo f sought old → AreKeptUpTo f (with_places z (is_within_cap cap) sought) new
  searched_here kept trees chosen d split are =
      let (others, chosen_too) = choice_exists f.mesh other surface positive_too in
      let too : ℕ → Tree = λ x. (others x).tree in
      let shortest_too = shortest_trees f.mesh other surface positive_too others chosen_too in
      let found = next.are others chosen_too d are in
      let order = sorted_by_number next.list (found_short f.mesh other too surface positive_too shortest_too d split few_v few_e
      next.list found.each) next.sorted in
      subst (λ (c : Chosen). AreKeptTo f.mesh f.lengths (λ x. (trees x).tree) d (limit_of c) (with_places z (is_within_cap cap) sought) c.kept)
      (sym next.new_is)
      (kept_next f.mesh f.lengths (λ x. (trees x).tree) surface positive
      (shortest_trees f.mesh f.lengths surface positive trees chosen) d split other too positive_too shortest_too no_shorter set agree
      z z_in sought starts cap as_far limit old next.list (independent_of (merge signed_earlier old.kept next.list)) capped
      (kept trees chosen d split are) found order refl)

-- what a search keeps is enough with its base marked
pub searched_marked : (f : SurfaceTables) (other : List ℕ) (before after : List Bool) (least z cap : ℕ) (old new : Chosen)
    (limit : Option Candidate) → IsSurface f.mesh → ArePositive f.mesh f.lengths → ArePositive f.mesh other →
    f.mesh.vertices ≤ 2 ^ 32 → edge_count f.mesh ≤ 2 ^ 32 → AreNoShorter f.mesh f.lengths other →
    AgreeOff f.mesh f.lengths other (is_marked before) → z < f.mesh.vertices → IsCapped (limit_of old) cap limit →
    IsKeptAt (record f { lengths = other }) z limit old new → after ≡ set before z true →
    KeepsInRound f least cap before after old new
searched_marked f other before after least z cap old new limit surface positive positive_too few_v few_e no_shorter agree z_in
    capped next is caps low kept =
    let round = in_round caps before cap in
    let here = searched_here f other surface positive positive_too few_v few_e no_shorter (is_marked before) agree z cap z_in round
    (round_start caps before cap) (λ n p in_set on. or_right (in_caps caps n p) (is_marked before n && is_within_cap cap p)
    (and_from (is_marked before n) (is_within_cap cap p) in_set on)) old new limit capped next kept in
    round_fewer f (with_places z (is_within_cap cap) round) (in_round caps after cap) new surface positive
    (λ y p on. elim (or_cases (in_caps caps y p) (is_marked after y && is_within_cap cap p) on) [
      | inl far ↦ or_left (round y p) (eqb y z && is_within_cap cap p)
          (or_left (in_caps caps y p) (is_marked before y && is_within_cap cap p) far)
      | inr there ↦
          let parts = and_parts (is_marked after y) (is_within_cap cap p) there in
          elim (marked_more before z z y refl (subst (λ (ms : List Bool). IsTrue (is_marked ms y)) is parts.0)) [
            | inl was ↦ or_left (round y p) (eqb y z && is_within_cap cap p)
                (or_right (in_caps caps y p) (is_marked before y && is_within_cap cap p)
                (and_from (is_marked before y) (is_within_cap cap p) was parts.1))
            | inr same ↦ or_right (round y p) (eqb y z && is_within_cap cap p)
                (and_from (eqb y z) (is_within_cap cap p) (eq-eqb y z same) parts.1)
          ]
    ]) here

-- and with the vertices that are so near
pub searched_near : (f : SurfaceTables) (other : List ℕ) (before after : List Bool) (least z cap far margin : ℕ) (old new : Chosen)
    (limit now wide : Option Candidate) (found : List Signed) → IsSurface f.mesh → ArePositive f.mesh f.lengths →
    ArePositive f.mesh other → f.mesh.vertices ≤ 2 ^ 32 → edge_count f.mesh ≤ 2 ^ 32 → AreNoShorter f.mesh f.lengths other →
    AgreeOff f.mesh f.lengths other (is_marked before) → z < f.mesh.vertices → IsCapped (limit_of old) cap limit →
    IsKeptAt (record f { lengths = other }) z limit old new → IsCapped (limit_of new) cap now →
    AreFound f.mesh other f.signs wide z found → 2 * far < margin → margin ≤ spare_of now wide →
    AreLongerOr new.kept least margin found → length after ≡ f.mesh.vertices → AreMarkedNear f.mesh other z far before after →
    KeepsInRound f least cap before after old new
searched_near f other before after least z cap far margin old new limit now wide found surface positive positive_too few_v few_e
    no_shorter agree z_in capped next capped_now there less within long count near caps low kept trees chosen d split are =
    let round = in_round caps before cap in
    let as_far : (n : ℕ) (p : Place) → IsTrue (is_marked before n) → IsTrue (is_within_cap cap p) → IsTrue (round n p) =
    λ n p in_set on. or_right (in_caps caps n p) (is_marked before n && is_within_cap cap p)
    (and_from (is_marked before n) (is_within_cap cap p) in_set on) in
    let (others, chosen_too) = choice_exists f.mesh other surface positive_too in
    let by : ℕ → Tree = λ x. (trees x).tree in
    let too : ℕ → Tree = λ x. (others x).tree in
    let shortest = shortest_trees f.mesh f.lengths surface positive trees chosen in
    let shortest_too = shortest_trees f.mesh other surface positive_too others chosen_too in
    let wider = searched_here f other surface positive positive_too few_v few_e no_shorter (is_marked before) agree z cap z_in round
    (round_start caps before cap) as_far old new limit capped next kept in
    let here = kept_fewer f.mesh f.lengths by surface positive shortest d split (limit_of new) (limit_of new)
    (with_places z (is_within_cap cap) round) round new.kept (wider trees chosen d split are) (λ p on. on)
    (λ y p on. or_left (round y p) (eqb y z && is_within_cap cap p) on) in
    let whole = kept_near f.mesh f.lengths by surface positive shortest d split other too positive_too shortest_too no_shorter
    (is_marked before) agree z z_in round (round_start caps before cap) cap as_far (limit_of new) now wide far least margin new.kept
    found capped_now here (there others chosen_too d are) less within long in
    kept_fewer f.mesh f.lengths by surface positive shortest d split (limit_of new) (limit_of new)
    (with_near_places too z far (is_beyond least cap) round) (in_round caps after cap) new.kept whole (λ p on. on)
    (λ y p on. elim (or_cases (in_caps caps y p) (is_marked after y && is_within_cap cap p) on) [
      | inl old ↦ or_left (round y p) (leb ((too z).rank y) far && is_beyond least cap p)
          (or_left (in_caps caps y p) (is_marked before y && is_within_cap cap p) old)
      | inr new ↦
          let parts = and_parts (is_marked after y) (is_within_cap cap p) new in
          elim (near.only (too z) (chosen_too z z_in).shortest y parts.0) [
            | inl was ↦ or_left (round y p) (leb ((too z).rank y) far && is_beyond least cap p)
                (as_far y p was parts.1)
            | inr close ↦ elim (cases_Bool (leb p.0 least)) [
              | inl short ↦
                  let inside : y < f.mesh.vertices = (let l = marked_inside after y parts.0 in omega (arith, l, count)) in
                  let le = leb-true p.0 least short in
                  let up = low y inside in
                  or_left (round y p) (leb ((too z).rank y) far && is_beyond least cap p)
                  (or_left (in_caps caps y p) (is_marked before y && is_within_cap cap p)
                  (within_by_size (cap_at caps y) p.0 p.1 (omega (arith, le, up))))
              | inr long ↦ or_right (round y p) (leb ((too z).rank y) far && is_beyond least cap p)
                  (and_from (leb ((too z).rank y) far) (is_beyond least cap p) (le-leb ((too z).rank y) far close)
                  (and_from (is_within_cap cap p) (not (leb p.0 least)) parts.1 (ap not long)))
            ]
          ]
    ])

-- after a search each vertex that is searched to its cap has that cap
pub visited_caps : (f : SurfaceTables) (caps new : List ℕ) (marks : List Bool) (v cap bound : ℕ) (choice : Chosen) →
    IsSurface f.mesh → ArePositive f.mesh f.lengths → IsTrue (is_marked marks v) → bound ≤ cap →
    ((y : ℕ) → (cap_at new y ≡ cap_at caps y) ⊎ ((y ≡ v) × (cap_at new y ≡ cap))) →
    AreKeptUpTo f (in_round caps marks cap) choice → AreKeptUpTo f (in_round new marks bound) choice
visited_caps f caps new marks v cap bound choice surface positive on le each =
    round_fewer f (in_round caps marks cap) (in_round new marks bound) choice surface positive
    (λ y p there. elim (or_cases (in_caps new y p) (is_marked marks y && is_within_cap bound p) there) [
      | inl far ↦ elim (each y) [
        | inl same ↦ or_left (in_caps caps y p) (is_marked marks y && is_within_cap cap p)
            (subst (λ n. is_within_cap n p ≡ true) same far)
        | inr (at, is) ↦ or_right (in_caps caps y p) (is_marked marks y && is_within_cap cap p)
            (and_from (is_marked marks y) (is_within_cap cap p) (subst (λ x. IsTrue (is_marked marks x)) (sym at) on)
            (subst (λ n. is_within_cap n p ≡ true) is far))
      ]
      | inr near ↦
          let parts = and_parts (is_marked marks y) (is_within_cap bound p) near in
          or_right (in_caps caps y p) (is_marked marks y && is_within_cap cap p)
          (and_from (is_marked marks y) (is_within_cap cap p) parts.0 (within_more bound cap p le parts.1))
    ])

-- an entry of a table is raised to a cap
pub record IsRaisedAt (old new : List ℕ) (v cap : ℕ) : Type 0 where
  pub each : (y : ℕ) → (cap_at new y ≡ cap_at old y) ⊎ ((y ≡ v) × (cap_at new y ≡ cap))
  pub no_less : AreNoLess old new
  pub there : cap ≤ cap_at new v

pub raised_at : (old : List ℕ) (i j v cap n : ℕ) → i ≡ v → j ≡ v → v < length old → n ≡ max (get_or old i 0) cap →
    IsRaisedAt old (set old j n) v cap
raised_at old i j v cap n is same v_in at =
    let own : cap_at (set old j n) v ≡ n =
    ap (λ k. cap_at (set old k n) v) same ∙ get_or-set_same old v n 0 v_in in
    let was : get_or old i 0 ≡ cap_at old v = ap (cap_at old) is in
    let off : (y : ℕ) → y ≢ v → cap_at (set old j n) y ≡ cap_at old y =
    λ y ne. ap (λ k. cap_at (set old k n) y) same ∙ get_or-set_other old v y n 0 ne in
    elim (cases_lt (cap_at old v) cap) [
      | inl less ↦
          let up : n ≡ cap = omega (arith, at, was, less) in record {
            each = λ y. elim (cases_eq y v) [ inl here ↦ inr (here, ap (cap_at (set old j n)) here ∙ own ∙ up) | inr ne ↦ inl (off y ne) ];
            no_less = λ y. elim (cases_eq y v) [
              | inl here ↦
                  let a = ap (cap_at (set old j n)) here ∙ own ∙ up in
                  let b = ap (cap_at old) here in
                  omega (arith, a, b, less)
              | inr ne ↦ let a = off y ne in omega (arith, a)
            ];
            there = omega (arith, own, up);
          }
      | inr more ↦
          let up : n ≡ cap_at old v = omega (arith, at, was, more) in
          let all : (y : ℕ) → cap_at (set old j n) y ≡ cap_at old y = λ y. elim (cases_eq y v) [
            | inl here ↦ ap (cap_at (set old j n)) here ∙ own ∙ up ∙ sym (ap (cap_at old) here)
            | inr ne ↦ off y ne
          ] in record {
            each = λ y. inl (all y);
            no_less = λ y. (let a = all y in omega (arith, a));
            there = omega (arith, own, up, more);
          }
    ]

-- nothing is kept, and nothing is searched
pub begun_none : (f : SurfaceTables) (caps : List ℕ) (choice : Chosen) → choice.kept ≡ [] → ((v : ℕ) → cap_at caps v ≡ 0) →
    IsSurface f.mesh → ArePositive f.mesh f.lengths → AreKeptUpTo f (in_caps caps) choice
begun_none f caps choice none low surface positive trees chosen d split are =
    kept_begun f.mesh f.lengths (λ x. (trees x).tree) surface positive
    (shortest_trees f.mesh f.lengths surface positive trees chosen) d split (limit_of choice) (in_caps caps) choice.kept none
    (λ z p on. within_zero p (subst (λ n. is_within_cap n p ≡ true) (low z) on))

-- a first search at vertex 0, as far as the surface goes
pub begun_at : (f : SurfaceTables) (caps : List ℕ) (z : ℕ) (old new : Chosen) (limit : Option Candidate) → IsSurface f.mesh →
    ArePositive f.mesh f.lengths → f.mesh.vertices ≤ 2 ^ 32 → edge_count f.mesh ≤ 2 ^ 32 → z ≡ 0 → 0 < f.mesh.vertices →
    0 < length caps → IsCapped (limit_of old) 18446744073709551615 limit → IsKeptAt f z limit old new →
    AreKeptUpTo f (in_caps caps) old → AreKeptUpTo f (in_caps (set caps 0 18446744073709551615)) new
begun_at f caps z old new limit surface positive few_v few_e zero_is some room capped next kept =
    let all : ℕ = 18446744073709551615 in
    round_fewer f (with_places z (is_within_cap all) (in_caps caps)) (in_caps (set caps 0 all)) new surface positive
    (λ y p on. elim (cases_eq y 0) [
      | inl here ↦ or_right (in_caps caps y p) (eqb y z && is_within_cap all p)
          (and_from (eqb y z) (is_within_cap all p) (eq-eqb y z (here ∙ sym zero_is)) (within_by_none all p (omega arith)))
      | inr ne ↦ or_left (in_caps caps y p) (eqb y z && is_within_cap all p)
          (subst (λ n. is_within_cap n p ≡ true) (get_or-set_other caps 0 y all 0 ne) on)
    ])
    (searched_here f f.lengths surface positive positive few_v few_e (λ e e_in. omega arith) no_member
    (λ e e_in low high. refl) z all (omega (arith, zero_is, some)) (in_caps caps) (λ y. within_start (cap_at caps y))
    (λ n p in_set on. absurd (false≢true in_set)) old new limit capped next kept)

-- a search from any vertex, as far as any cap, keeps what is enough
pub probed : (f : SurfaceTables) (z cap : ℕ) (old new : Chosen) (limit : Option Candidate) → IsSurface f.mesh →
    ArePositive f.mesh f.lengths → f.mesh.vertices ≤ 2 ^ 32 → edge_count f.mesh ≤ 2 ^ 32 → z < f.mesh.vertices →
    IsCapped (limit_of old) cap limit → IsKeptAt f z limit old new → StaysEnough f old new
probed f z cap old new limit surface positive few_v few_e z_in capped next caps kept =
    round_fewer f (with_places z (is_within_cap cap) (in_caps caps)) (in_caps caps) new surface positive
    (λ y p on. or_left (in_caps caps y p) (eqb y z && is_within_cap cap p) on)
    (searched_here f f.lengths surface positive positive few_v few_e (λ e e_in. omega arith) no_member
    (λ e e_in low high. refl) z cap z_in (in_caps caps) (λ y. within_start (cap_at caps y))
    (λ n p in_set on. absurd (false≢true in_set)) old new limit capped next kept)

-- ---- the order of falling caps

-- in that order caps fall
pub caps_fall : (caps ranks : List ℕ) (u v : ℕ) → cap_at caps u < 2 ^ 64 → cap_at caps v < 2 ^ 64 → cap_at ranks u < 2 ^ 32 →
    cap_at ranks v < 2 ^ 32 → fall_order caps ranks u ≤ fall_order caps ranks v → cap_at caps v ≤ cap_at caps u
caps_fall caps ranks u v lu lv ru rv le = omega (arith, lu, lv, ru, rv, le)

-- ---- the end of a round

-- walks within a length are met, so what is kept is enough up to that length
pub round_raised : (f : SurfaceTables) (vertices : List ℕ) (most : ℕ) (before caps reached new : List ℕ) (old choice : Chosen) →
    IsSurface f.mesh → ArePositive f.mesh f.lengths → MeetsAll f.mesh (is_among vertices) →
    AreKeptUpTo f (in_caps before) old → AreCapped f.mesh f.signs old.kept most caps ⊎ All (λ v. most ≤ cap_at caps v) vertices →
    length caps ≡ f.mesh.vertices → All (λ v. v < length caps) vertices →
    ((v : ℕ) → v < length caps → cap_at caps v ≤ cap_at reached v) → AreRaisedTo most reached new →
    AreKeptUpTo f (in_caps reached) choice → AreKeptUpTo f (in_caps new) choice
round_raised f vertices most before caps reached new old choice surface positive met was capped count inside more raised kept
    trees chosen d split are =
    let by : ℕ → Tree = λ x. (trees x).tree in
    let shortest = shortest_trees f.mesh f.lengths surface positive trees chosen in
    let meets : MeetsUpTo f.mesh f.lengths (is_within_cap most) (in_caps reached) = elim capped [
      | inl asked ↦ caps_meet f.mesh f.lengths by surface positive shortest d split f.signs are (limit_of old) (in_caps before) old.kept
          (was trees chosen d split are) most reached (capped_more f.mesh surface f.signs old.kept most caps reached count more asked)
      | inr cut ↦ cut_meets f.mesh f.lengths by surface positive shortest d split vertices most reached met
          (λ k e l. (let a = cut k e l in let b = more (get_or vertices k e) (inside k e l) in omega (arith, a, b)))
    ] in
    kept_fewer f.mesh f.lengths by surface positive shortest d split (limit_of choice) (limit_of choice)
    (either (in_caps reached) (everywhere (is_within_cap most))) (in_caps new) choice.kept
    (raised_kept f.mesh f.lengths by surface positive shortest d split (limit_of choice) most reached choice.kept meets
    (kept trees chosen d split are)) (λ p on. on)
    (λ z p on. elim (cases_lt z (length reached)) [
      | inl less ↦ elim (raised.each z less).1 [
        | inl same ↦ or_left (in_caps reached z p) (is_within_cap most p) (subst (λ n. is_within_cap n p ≡ true) same on)
        | inr up ↦ or_right (in_caps reached z p) (is_within_cap most p) (subst (λ n. is_within_cap n p ≡ true) up on)
      ]
      | inr past ↦
          let a = get_or_past reached z 0 past in
          let b = get_or_past new z 0 (let n = raised.count in omega (arith, n, past)) in
          or_left (in_caps reached z p) (is_within_cap most p) (subst (λ n. is_within_cap n p ≡ true) (b ∙ sym a) on)
    ])

-- where all is found that there is
module _ (f : SurfaceTables) (surface : IsSurface f.mesh) (positive : ArePositive f.mesh f.lengths) (width : ℕ)
    (signed : AreSigned f.mesh f.signs width) (caps : List ℕ) (choice : Chosen) (kept : AreKeptUpTo f (in_caps caps) choice) where
  -- the bases are vertices
  pub round_inside : All (λ k. k.candidate.base < f.mesh.vertices) choice.kept
  round_inside =
      let (trees, chosen) = choice_exists f.mesh f.lengths surface positive in
      let k = kept trees chosen signed.split signed.is_split signed.signatures in
      λ i c l.
      (let n = tells_long f.mesh signed.split k.loops choice.kept k.told in
      let x : Found = record { size = 0; through = 0; walk = [] } in
      let i_in : i < length k.loops = omega (arith, l, n) in
      let at = tells_at f.mesh signed.split k.loops choice.kept k.told i x i_in in
      let by = k.enough.loops i x i_in in
      let positive_too : ArePositive f.mesh by.other = λ e e_in. (let a = positive e e_in in let b = by.no_less e e_in in omega (arith, a, b)) in
      let inside = (least_base_on_way f.mesh by.other by.trees surface positive_too by.shortest by.loop.from by.loop.edge
      by.loop.from_in by.loop.edge_in).0 in
      let same = get_or_default choice.kept i (signed_of f.mesh signed.split x) c l in
      let base : (get_or k.loops i x).through ≡ (get_or choice.kept i c).candidate.base =
      ap (λ (t : ℕ × (ℕ × ℕ)). t.1.0) at ∙ ap (λ (s : Signed). s.candidate.base) same in
      subst (λ m. m < f.mesh.vertices) (sym by.loop.at.through ∙ base) inside)

  pub round_places : ((v : ℕ) → v < f.mesh.vertices → 18446744073709551615 ≤ cap_at caps v) →
      length choice.kept ≤ choice.width → IsLoopCount f.mesh choice.width → HavePlacesOfBasis f.mesh f.lengths choice.kept
  round_places all few full trees chosen basis is =
      let short = shortest_trees f.mesh f.lengths surface positive trees chosen in
      let k = kept trees chosen signed.split signed.is_split signed.signatures in
      let each = capped_places f.mesh f.lengths trees surface positive chosen short signed.split signed.is_split basis is
      (in_caps caps) choice k (λ z p z_in. within_by_none (cap_at caps z) p (all z z_in)) few full in
      λ i b l.
      (let (x, in_found, size, base) = each i b l in
      let placed = placed_found f.mesh signed.split k.loops choice.kept k.told x in_found in
      ap (λ n. is_placed choice.kept (n, (get_or basis i b).base)) (sym size) ∙ ap (λ n. is_placed choice.kept (x.size, n)) (sym base) ∙ placed)
