-- What the tables of a search tell of the loops at its base.
use Rattle.surf_finder.proofs.Common.{◌≡◌, ◌≢◌, ℕ, zero, suc, ◌<◌, ◌≤◌, ◌+◌, ◌*◌, ◌/◌, ◌^◌, ◌++◌, ◌∷◌, [], true, not, eqb, eqb-true, cond, ◌-◌, List, length, get_or, map, slice_index, bit_xor, min, All, Contains, Option, Some, None, refl, sym, ap, ◌∙◌, subst, arith, inl, inr, IsTrue, ◌==◌, cases_Bool, cases_eq, cases_lt, and_parts, and_from, leb-true, le-leb, nat_tests, get_or_default, get_or_read, length-map, get_or-map, Split, Tree, Mesh, edge_count, ends, IsSurface, ArePositive, edge_length, edge_number, AreShortestTrees, loop_length, Trees, AreChosen, edge_signature, All-push, Contains-append_left, Contains-append_right, place_at, comes_sooner, least_base, least_on_way, shortest_trees, ends_are_near, zero_distance, least_tables_are_least, shortest_is_tree, shortest_is_shortest, way_class, loop_class, lengths_positive, ends_in, SignTables, Link, AreLinks, NearTables, IsNear, IsNearTo, is_near, Candidate, Signed, place_of, is_sought, AreDistances, radius_of, AreSignatures, WayTables, class_at, AreWays, Search, IsReady, is_between, told_loop, is_wanted, is_among, IsTold, ListsAt, IsFound, AreFoundBy, HasNoLater, precedes, CoversAt, AreFirstTold, ◌&&◌, ◌⊎◌, Bool, AllByRecursion, get_or-set_same, get_or-set_other, set, length-set, All-append, All-contains, All-from_recursion, Contains-get_or}
use Rattle.surf_finder.specs.declared.told_loops.Ties.{Ties}
use Rattle.surf_finder.specs.declared.told_loops.Ties.TheVariants.{LesserBase, LesserEdge}
use Rattle.std.proofs.lemmas.List.Elements.{All-set}
use Rattle.std.specs.Int.Bits.{xor_assoc, xor_comm}
use Rattle.surf_lengths.specs.Lengths.{longest, AreLengths}
use Rattle.surf_tree.proofs.LengthLaws.{short_lengths}
use Rattle.surf_finder.proofs.Climbed.{at_edge}
use Rattle.surf_finder.proofs.Searched.{among_contained, among_contains}
use Rattle.surf_finder.proofs.Rising.{starts_all}
use Rattle.surf_finder.specs.Rises.{AreStarts, IsRise}
use Rattle.surf_finder.specs.declared.rises.Rise.{Rise}

-- ---- the ends of an edge in the tables

-- an end that was reached
pub record IsEnd (x : Search) (u : ℕ) : Type 0 where
  pub distances : u < length x.near.distances
  pub leasts : u < length x.near.leasts
  pub numbers : u < length x.ways.numbers
  pub numbered : slice_index x.ways.numbers u < length x.ways.classes
  pub fits : slice_index x.near.distances u < 2 ^ 62

pub ready_end : (x : Search) (u : ℕ) → IsReady x → u < x.mesh.vertices → is_near x.near u ≡ true → IsEnd x u
ready_end x u ready u_in near = record {
  distances = omega (arith, ready.made.distances);
  leasts = omega (arith, ready.made.leasts);
  numbers = omega (arith, ready.numbers);
  numbered = ready.numbered u u_in near;
  fits = ready.fits u u_in near;
}

-- both ends of an edge
pub rise_ends : (x : Search) (rise : Rise) → IsReady x → IsRise x.mesh rise → is_between x rise.edge ≡ true →
    IsEnd x rise.low × IsEnd x rise.high
rise_ends x rise ready is between =
    let (low, high) = and_parts (is_near x.near (ends x.mesh rise.edge).0) (is_near x.near (ends x.mesh rise.edge).1) between in (
      ready_end x rise.low ready is.low_in (subst (λ (p : ℕ × ℕ). is_near x.near p.0 ≡ true) is.ends_are low),
      ready_end x rise.high ready is.high_in (subst (λ (p : ℕ × ℕ). is_near x.near p.1 ≡ true) is.ends_are high),
    )

pub sooner_size : (a b c d : ℕ) → comes_sooner (a, b) (c, d) ≡ true → c ≤ a
sooner_size a b c d h = grind (arith, nat_tests)

pub half_below : (n m : ℕ) → 2 * n ≤ m → n ≤ m / 2
half_below n m le = omega arith

-- half of what comes before a limit is within the radius
sooner_half : (c : Candidate) (size base n : ℕ) → comes_sooner (place_of c) (size, base) ≡ true → 2 * n ≤ size →
    n ≤ radius_of (Some c)
sooner_half c size base n before half = elim (cases_Bool (eqb c.base 0)) [
  | inl low ↦
      let at : c.base ≡ 0 = eqb-true c.base 0 low in
      let less : size < c.length = sooner_than_first c.length c.base size base at before in
      subst (λ b. n ≤ cond b ((c.length - 1) / 2) (c.length / 2)) (sym low) (half_below n (c.length - 1) (omega (arith, less, half)))
  | inr high ↦
      let no_longer : size ≤ c.length = sooner_size c.length c.base size base before in
      subst (λ b. n ≤ cond b ((c.length - 1) / 2) (c.length / 2)) (sym high) (half_below n c.length (omega (arith, no_longer, half)))
]
  where
    sooner_than_first : (a b c d : ℕ) → b ≡ 0 → comes_sooner (a, b) (c, d) ≡ true → c < a
    sooner_than_first a b c d at h = grind (arith, nat_tests)

-- ---- lists of them

precedes_self : (ties : Ties) (c : Candidate) → precedes ties c c ≡ true
precedes_self LesserBase c = grind (arith, nat_tests)
precedes_self LesserEdge c = grind (arith, nat_tests)

-- one of the class that is no later
pub no_later_self : (ties : Ties) (found : List Signed) (c : Signed) → Contains found c → HasNoLater ties found c
no_later_self ties found c has = record { loop = c; listed = has; class = refl; no_later = precedes_self ties c.candidate }

pub no_later_all : (ties : Ties) (found : List Signed) → All (HasNoLater ties found) found
no_later_all ties found = λ k c l. no_later_self ties found (get_or found k c) (Contains-get_or found k c l)

precedes-trans : (ties : Ties) (a b c : Candidate) → precedes ties a b ≡ true → precedes ties b c ≡ true → precedes ties a c ≡ true
precedes-trans LesserBase a b c h k = grind (arith, nat_tests)
precedes-trans LesserEdge a b c h k = grind (arith, nat_tests)

pub no_later_on : (ties : Ties) (old new : List Signed) (s : Signed) → All (HasNoLater ties new) old → HasNoLater ties old s → HasNoLater ties new s
no_later_on ties old new s kept h =
    let g = All-contains (HasNoLater ties new) old h.loop kept h.listed in
    record {
      loop = g.loop;
      listed = g.listed;
      class = g.class ∙ h.class;
      no_later = precedes-trans ties g.loop.candidate h.loop.candidate s.candidate g.no_later h.no_later;
    }

-- the first of a listed loop and one of its class takes its place, and stands for both
pub told_taken : (ties : Ties) (x : Search) (limit : Option Candidate) (found : List Signed) (k e : ℕ) (old : Signed) (first : Candidate) →
    All (IsTold x limit) found → k < length found → old ≡ get_or found k old → e < edge_count x.mesh → is_between x e ≡ true →
    is_sought limit (place_of (told_loop x e).candidate) ≡ true → (told_loop x e).signature ≡ old.signature →
    (first ≡ (told_loop x e).candidate) ⊎ (first ≡ old.candidate) → precedes ties first (told_loop x e).candidate ≡ true →
    precedes ties first old.candidate ≡ true → let new = set found k (record { candidate = first; from = old.from; signature = old.signature }) in
    All (IsTold x limit) new × All (HasNoLater ties new) found × HasNoLater ties new (told_loop x e)
told_taken ties x limit found k e old first each k_in is e_in between sought class either before before_old =
    let m : Signed = record { candidate = first; from = old.from; signature = old.signature } in
    let new = set found k m in
    let was : IsTold x limit old = subst (IsTold x limit) (sym is) (each k old k_in) in
    let some : not (old.signature == 0) ≡ true = subst (λ (c : Signed). not (c.signature == 0) ≡ true) (sym was.told)
    (and_parts (is_sought limit _) _ (and_parts (is_between x _) _ was.wanted).1).1 in
    let on : is_wanted x limit e ≡ true = and_from (is_between x e) _ between (and_from (is_sought limit _) _ sought
    (subst (λ n. not (n == 0) ≡ true) (sym class) some)) in
    let now : IsTold x limit m = elim either [
      | inl fresh ↦
          let same : told_loop x e ≡ m = sym (ap (λ c. record { candidate = c; from = old.from; signature = old.signature }) fresh
          ∙ ap (λ n. record { candidate = (told_loop x e).candidate; from = n; signature = old.signature }) (ap (λ (c : Signed). c.from) was.told)
          ∙ ap (λ n. record { candidate = (told_loop x e).candidate; from = x.base; signature = n }) (sym class)) in
          subst (IsTold x limit) same (record { edge_in = e_in; wanted = on; told = refl })
      | inr stays ↦ subst (IsTold x limit) (sym (ap (λ c. record { candidate = c; from = old.from; signature = old.signature }) stays)) was
    ] in
    let many : length new ≡ length found = length-set found k m in
    let has : Contains new m = (k, omega (arith, k_in, many), get_or-set_same found k m m k_in) in (
      All-set (IsTold x limit) found k m now each,
      λ i d l. elim (cases_eq i k) [
        | inl same ↦ record {
          loop = m;
          listed = has;
          class = ap (λ (c : Signed). c.signature) (is ∙ get_or_default found k old d k_in ∙ ap (λ n. get_or found n d) (sym same));
          no_later = subst (λ (c : Signed). precedes ties first c.candidate ≡ true)
              (is ∙ get_or_default found k old d k_in ∙ ap (λ n. get_or found n d) (sym same)) before_old;
        }
        | inr ne ↦ no_later_self ties new (get_or found i d)
            (i, omega (arith, l, many), get_or-set_other found k i m (get_or found i d) ne ∙ get_or_default found i (get_or found i d) d l)
      ],
      record { loop = m; listed = has; class = sym class; no_later = before },
    )

pub told_stands : (ties : Ties) (x : Search) (limit : Option Candidate) (found : List Signed) (k e : ℕ) (old s : Signed) →
    All (IsTold x limit) found → k < length found → old ≡ get_or found k old → e < edge_count x.mesh → is_between x e ≡ true →
    is_sought limit (place_of (told_loop x e).candidate) ≡ true → (told_loop x e).signature ≡ old.signature →
    s ≡ record old { candidate = s.candidate } → (s.candidate ≡ (told_loop x e).candidate) ⊎ (s.candidate ≡ old.candidate) →
    precedes ties s.candidate (told_loop x e).candidate ≡ true → precedes ties s.candidate old.candidate ≡ true →
    All (IsTold x limit) (set found k s) × All (HasNoLater ties (set found k s)) found × HasNoLater ties (set found k s) (told_loop x e)
told_stands ties x limit found k e old s each k_in is e_in between sought class rest either before before_old =
    subst (λ m. All (IsTold x limit) (set found k m) × All (HasNoLater ties (set found k m)) found × HasNoLater ties (set found k m) (told_loop x e))
    (sym rest) (told_taken ties x limit found k e old s.candidate each k_in is e_in between sought class either before before_old)

-- one more
pub told_pushed : (ties : Ties) (x : Search) (limit : Option Candidate) (found new : List Signed) (e : ℕ) (s : Signed) → All (IsTold x limit) found →
    new ≡ found ++ s ∷ [] → s ≡ told_loop x e → e < edge_count x.mesh → is_wanted x limit e ≡ true →
    All (IsTold x limit) new × All (HasNoLater ties new) found × HasNoLater ties new (told_loop x e)
told_pushed ties x limit found new e s each push is e_in on =
    let told : IsTold x limit s = subst (IsTold x limit) (sym is) (record { edge_in = e_in; wanted = on; told = refl }) in
    let all = λ (ys : List Signed). All (IsTold x limit) ys × All (HasNoLater ties ys) found × HasNoLater ties ys (told_loop x e) in
    subst all (sym push) (
      All-push (IsTold x limit) found s each told,
      λ k d l. no_later_self ties (found ++ s ∷ []) (get_or found k d)
          (Contains-append_left found (s ∷ []) (get_or found k d) (Contains-get_or found k d l)),
      no_later_self ties (found ++ s ∷ []) (told_loop x e) (Contains-append_right found (s ∷ []) (told_loop x e) (0, omega arith, is)),
    )

-- ---- the edges with one lesser end, one after the other

-- what a list has of the edges between two numbers, and of what it had before
pub record IsListedTo (ties : Ties) (x : Search) (limit : Option Candidate) (start : ℕ) (old found : List Signed) (e : ℕ) : Type 0 where
  pub kept : All (HasNoLater ties found) old
  pub here : (f : ℕ) → start ≤ f → f < e → is_wanted x limit f ≡ true → HasNoLater ties found (told_loop x f)

module _ (ties : Ties) (x : Search) (limit : Option Candidate) (start : ℕ) (old : List Signed) where
  pub listed_first : IsListedTo ties x limit start old old start
  listed_first = record { kept = no_later_all ties old; here = λ f le l. absurd (omega (arith, le, l)) }

  -- one more edge
  pub listed_more : (found new : List Signed) (e n : ℕ) → IsListedTo ties x limit start old found e → n ≡ e → All (HasNoLater ties new) found →
      (is_wanted x limit n ≡ true → HasNoLater ties new (told_loop x n)) → IsListedTo ties x limit start old new (e + 1)
  listed_more found new e n h at kept here = record {
    kept = λ i d l. no_later_on ties found new (get_or old i d) kept (h.kept i d l);
    here = λ f le l on. elim (cases_eq f e) [
      | inl same ↦
          let is : n ≡ f = at ∙ sym same in
          subst (λ n. HasNoLater ties new (told_loop x n)) is (here (ap (is_wanted x limit) is ∙ on))
      | inr ne ↦ no_later_on ties found new (told_loop x f) kept (h.here f le (omega arith) on)
    ];
  }

  -- all of them
  pub listed_all : (found : List Signed) (e v : ℕ) (starts : List ℕ) → IsListedTo ties x limit start old found e →
      AreStarts x.mesh starts → v < x.mesh.vertices → start ≡ slice_index starts v → slice_index starts (v + 1) ≤ e →
      CoversAt ties x limit v found
  listed_all found e v starts h are v_in from past f f_in low on =
      let (after, below) = starts_all x.mesh starts v f are v_in f_in low in
      h.here f (omega (arith, from, after)) (omega (arith, below, past)) on

-- the edges at one more vertex
pub lists_more : (ties : Ties) (x : Search) (limit : Option Candidate) (settled : List ℕ) (i v : ℕ) (old new : List Signed) →
    ((j : ℕ) → j < i → CoversAt ties x limit (slice_index settled j) old) → All (HasNoLater ties new) old → CoversAt ties x limit v new →
    v ≡ slice_index settled i → (j : ℕ) → j < i + 1 → CoversAt ties x limit (slice_index settled j) new
lists_more ties x limit settled i v old new was kept here is j l e e_in low on = elim (cases_lt j i) [
  | inl less ↦ no_later_on ties old new (told_loop x e) kept (was j less e e_in low on)
  | inr more ↦
      let same : j ≡ i = omega arith in
      here e e_in (low ∙ ap (slice_index settled) same ∙ sym is) on
]

-- ---- those that are left out

-- the edge's loop is wanted, and its lesser end was settled
abbrev is_due : Search → Option Candidate → ℕ → Bool
is_due x limit e = is_wanted x limit e && is_among x.near.settled (ends x.mesh e).0

abbrev due_below : Search → Option Candidate → ℕ → List Signed
due_below x limit zero = []
due_below x limit (suc e) = cond (is_due x limit e) (told_loop x e ∷ due_below x limit e) (due_below x limit e)

due_each : (x : Search) (limit : Option Candidate) (P : Signed → Type 0) (n : ℕ) →
    ((e : ℕ) → e < n → is_due x limit e ≡ true → P (told_loop x e)) → AllByRecursion P (due_below x limit n)
due_each x limit P zero h = tt
due_each x limit P (suc e) h =
    let rest = due_each x limit P e (λ f l. h f (omega arith)) in
    elim (cases_Bool (is_due x limit e)) [ inl on ↦ rw on (h e (omega arith) on, rest) | inr off ↦ rw off rest ]

due_has : (x : Search) (limit : Option Candidate) (n e : ℕ) → e < n → is_due x limit e ≡ true → Contains (due_below x limit n) (told_loop x e)
due_has x limit zero e l on = absurd (omega arith)
due_has x limit (suc n) e l on = elim (cases_eq e n) [
  | inl same ↦ rw (subst (λ k. is_due x limit k ≡ true) same on) (0, omega arith, ap (told_loop x) (sym same))
  | inr ne ↦
      let rest = due_has x limit n e (omega arith) on in
      elim (cases_Bool (is_due x limit n)) [
        | inl more ↦ rw more (Contains-append_right (told_loop x n ∷ []) (due_below x limit n) (told_loop x e) rest)
        | inr off ↦ rw off rest
      ]
]

-- candidates are told, and those of the edges whose lesser ends were settled are among them
pub record AreTold (x : Search) (limit : Option Candidate) (found : List Signed) : Type 0 where
  pub each : All (IsTold x limit) found
  pub all : (i : ℕ) → i < length x.near.settled → ListsAt x limit (slice_index x.near.settled i) found

-- with those that are left out all are told
pub first_told : (ties : Ties) (x : Search) (limit : Option Candidate) (found : List Signed) → AreFirstTold ties x limit found →
    (left : List Signed) × AreTold x limit (left ++ found) × All (HasNoLater ties found) left
first_told ties x limit found h =
    let left = due_below x limit (edge_count x.mesh) in
    let parts : (e : ℕ) → is_due x limit e ≡ true → (is_wanted x limit e ≡ true) × (is_among x.near.settled (ends x.mesh e).0 ≡ true) =
    λ e. and_parts (is_wanted x limit e) (is_among x.near.settled (ends x.mesh e).0) in (
      left,
      record {
        each = All-append (IsTold x limit) left found (All-from_recursion (IsTold x limit) left
            (due_each x limit (IsTold x limit) (edge_count x.mesh) (λ e e_in on. record { edge_in = e_in; wanted = (parts e on).0; told = refl }))) h.each;
        all = λ i l e e_in low on. Contains-append_left left found (told_loop x e) (due_has x limit (edge_count x.mesh) e e_in
            (and_from (is_wanted x limit e) (is_among x.near.settled (ends x.mesh e).0) on
            (among_contained x.near.settled (ends x.mesh e).0 (i, l, get_or_default x.near.settled i (ends x.mesh e).0 0 l ∙ sym low))));
      },
      All-from_recursion (HasNoLater ties found) left (due_each x limit (HasNoLater ties found) (edge_count x.mesh) (λ e e_in on.
          (let (i, l, is) = among_contains x.near.settled (ends x.mesh e).0 (parts e on).1 in
          h.all i l e e_in (sym is ∙ get_or_default x.near.settled i (ends x.mesh e).0 0 l) (parts e on).0))),
    )

-- what a search was made for, as it was asked
pub near_there : (mesh m : Mesh) (lengths l : List ℕ) (z far r : ℕ) (t : NearTables) → m ≡ mesh → l ≡ lengths → r ≡ far →
    IsNear m l z r t → IsNear mesh lengths z far t
near_there mesh m lengths l z far r t a b c h =
    subst (λ x. IsNear mesh lengths z x t) c (subst (λ x. IsNear mesh x z r t) b (subst (λ x. IsNear x l z r t) a h))

-- what the tables have of settled vertices are their distances
pub distances_are : (mesh : Mesh) (lengths : List ℕ) (z far : ℕ) (t : NearTables) → IsNear mesh lengths z far t →
    AreDistances mesh lengths z (map (slice_index t.distances) t.settled)
distances_are mesh lengths z far t near tree short i l =
    let n = near.near tree short in
    let m : length (map (slice_index t.distances) t.settled) ≡ length t.settled = length-map t.settled (slice_index t.distances) in
    let i_in : i < length t.settled = omega (arith, l, m) in
    let there = n.inside i i_in in (
      slice_index t.settled i,
      there.0,
      sym (n.tables.ranks (slice_index t.settled i) there.0 there.1) ∙ sym (get_or-map (slice_index t.distances) t.settled i 0 0 i_in),
    )

-- the lengths of links are positive
pub links_positive : (mesh m : Mesh) (lengths : List ℕ) (rows : List (List Link)) → m ≡ mesh → AreLinks m lengths rows →
    ArePositive mesh lengths
links_positive mesh m lengths rows same h =
    subst (λ x. ArePositive x lengths) same (lengths_positive m lengths h.are_lengths h.as_many)

-- ---- they are the loops by each tree

module _ (mesh : Mesh) (lengths : List ℕ) (surface : IsSurface mesh) (positive : ArePositive mesh lengths) (lens : AreLengths lengths) (z : ℕ)
    (z_in : z < mesh.vertices) (s : SignTables) (t : NearTables) (w : WayTables) (limit : Option Candidate)
    (near : IsNear mesh lengths z (radius_of limit) t) (ways : AreWays mesh lengths z s t w) where
  abbrev told : Search
  told = record { mesh = mesh; lengths = lengths; signs = s; near = t; ways = w; base = z }

  module _ (trees : ℕ → Trees) (chosen : AreChosen mesh lengths trees) (d : Split) (are : AreSignatures mesh d s) where
    abbrev searched : ℕ → Tree
    searched = λ x. (trees x).tree

    shortest : AreShortestTrees mesh lengths searched
    shortest = shortest_trees mesh lengths surface positive trees chosen

    agrees : IsNearTo mesh lengths z (radius_of limit) (trees z).tree t
    agrees = near.near (trees z).tree (chosen z z_in).shortest

    within : (v : ℕ) → v < mesh.vertices → is_near t v ≡ true → (trees z).tree.rank v ≤ radius_of limit
    within v v_in on = leb-true ((trees z).tree.rank v) (radius_of limit) (sym (agrees.is_near v v_in) ∙ on)

    reached : (v : ℕ) → v < mesh.vertices → (trees z).tree.rank v ≤ radius_of limit → is_near t v ≡ true
    reached v v_in le = agrees.is_near v v_in ∙ le-leb ((trees z).tree.rank v) (radius_of limit) le

    -- what an edge's loop is told to be
    told_found : (e : ℕ) → e < edge_count mesh → is_between told e ≡ true → IsFound mesh lengths searched d (told_loop told e)
    told_found e e_in between =
        let u = (ends mesh e).0 in
        let v = (ends mesh e).1 in
        let tree = (trees z).tree in
        let short = (chosen z z_in).shortest in
        let (u_in, v_in) = ends_in mesh surface e e_in in
        let (near_u, near_v) = and_parts (is_near t u) (is_near t v) between in
        let u_far = within u u_in near_u in
        let v_far = within v v_in near_v in
        let least_is : (x : ℕ) → x < mesh.vertices → tree.rank x ≤ radius_of limit → slice_index t.leasts x ≡ least_on_way mesh searched z x =
        λ x. least_tables_are_least mesh lengths searched z (radius_of limit) (slice_index t.leasts) surface positive shortest z_in agrees.least x in
        let own : slice_index s.signatures e ≡ edge_signature mesh d e = at_edge mesh d s e are e_in in
        let a : class_at w u ≡ way_class mesh d tree u = (ways u u_in near_u).class d are tree short in
        let b : class_at w v ≡ way_class mesh d tree v = (ways v v_in near_v).class d are tree short in
        record {
          from_in = z_in;
          edge_in = e_in;
          size = ap (λ n. n + edge_length lengths e + slice_index t.distances v) (agrees.tables.ranks u u_in u_far)
              ∙ ap (λ n. tree.rank u + edge_length lengths e + n) (agrees.tables.ranks v v_in v_far);
          base = ap (λ n. min n (slice_index t.leasts v)) (least_is u u_in u_far)
              ∙ ap (λ n. min (least_on_way mesh searched z u) n) (least_is v v_in v_far);
          signature =
              ap (λ n. bit_xor (bit_xor n (slice_index s.signatures e)) (class_at w v)) a
              ∙ ap (λ n. bit_xor (bit_xor (way_class mesh d tree u) n) (class_at w v)) own
              ∙ ap (bit_xor (bit_xor (way_class mesh d tree u) (edge_signature mesh d e))) b
              ∙ ap (λ n. bit_xor n (way_class mesh d tree v)) (xor_comm (way_class mesh d tree u) (edge_signature mesh d e))
              ∙ xor_assoc (edge_signature mesh d e) (way_class mesh d tree u) (way_class mesh d tree v)
              ∙ sym (loop_class mesh lengths d tree e surface (shortest_is_tree mesh lengths z tree surface positive short)
              (shortest_is_shortest mesh lengths z tree surface positive short) e_in);
        }

    -- a search without a limit reaches all
    all_near : radius_of limit ≡ 18446744073709551615 → (k v : ℕ) → v < mesh.vertices → (trees z).tree.rank v < k →
        (trees z).tree.rank v ≤ radius_of limit
    all_near big zero v v_in l = absurd (omega arith)
    all_near big (suc k) v v_in l = elim (cases_eq v z) [
      | inl same ↦
          let none : (trees z).tree.rank z ≡ 0 = zero_distance mesh lengths searched surface positive shortest z z_in in
          let here : (trees z).tree.rank v ≡ (trees z).tree.rank z = ap (trees z).tree.rank same in
          omega arith
      | inr ne ↦
          let tree = (trees z).tree in
          let short = (chosen z z_in).shortest in
          let is_tree = shortest_is_tree mesh lengths z tree surface positive short in
          let off : v ≢ tree.root = λ e. ne (e ∙ short.root) in
          let p = tree.parent v in
          let p_in : tree.parent v < mesh.vertices = is_tree.parent_in v v_in off in
          let falls : tree.rank (tree.parent v) < tree.rank v = is_tree.rank_falls v v_in off in
          let le = all_near big k (tree.parent v) p_in (omega arith) in
          let fit : slice_index t.distances (tree.parent v) < 2 ^ 62 = near.fits (tree.parent v) p_in (reached (tree.parent v) p_in le) in
          let is : slice_index t.distances (tree.parent v) ≡ tree.rank (tree.parent v) = agrees.tables.ranks (tree.parent v) p_in le in
          let tight : tree.rank (tree.parent v) + edge_length lengths (edge_number mesh (tree.parent v, v)) ≡ tree.rank v = (short.tight v v_in ne).1 in
          let most : edge_length lengths (edge_number mesh (tree.parent v, v)) ≤ longest = short_lengths lengths lens (edge_number mesh (tree.parent v, v)) in
          omega arith
    ]

    -- the ends of an edge whose loop is sought were reached
    sought_near : (e : ℕ) → e < edge_count mesh → is_sought limit (place_at mesh lengths searched z e) ≡ true →
        is_between told e ≡ true
    sought_near e e_in sought =
        let (u_in, v_in) = ends_in mesh surface e e_in in
        let half = ends_are_near mesh lengths searched z e shortest z_in e_in in
        and_from (is_near t (ends mesh e).0) (is_near t (ends mesh e).1)
        (reached (ends mesh e).0 u_in (far limit refl (ends mesh e).0 u_in half.0))
        (reached (ends mesh e).1 v_in (far limit refl (ends mesh e).1 v_in half.1))
      where
        far : (o : Option Candidate) → limit ≡ o → (v : ℕ) → v < mesh.vertices →
            2 * (trees z).tree.rank v ≤ loop_length mesh lengths (trees z).tree e → (trees z).tree.rank v ≤ radius_of limit
        far None is v v_in half = all_near (ap radius_of is) (suc ((trees z).tree.rank v)) v v_in (omega arith)
        far (Some c) is v v_in half =
            let before : comes_sooner (place_of c) (place_at mesh lengths searched z e) ≡ true =
            subst (λ o. is_sought o (place_at mesh lengths searched z e) ≡ true) is sought in
            subst (λ o. (trees z).tree.rank v ≤ radius_of o) (sym is)
            (sooner_half c (loop_length mesh lengths (trees z).tree e) (least_base mesh searched z e) ((trees z).tree.rank v) before half)

    -- the lesser end of an edge whose ends were reached was settled
    low_settled : (e : ℕ) → e < edge_count mesh → is_between told e ≡ true →
        (k : ℕ) × (k < length t.settled) × (slice_index t.settled k ≡ (ends mesh e).0)
    low_settled e e_in between =
        let u = (ends mesh e).0 in
        let (u_in, v_in) = ends_in mesh surface e e_in in
        let (near_u, near_v) = and_parts (is_near t u) (is_near t (ends mesh e).1) between in
        let (k, l, is) = agrees.all u u_in (within u u_in near_u) in
        (k, l, sym (get_or_read t.settled k u l (sym is) 0))

    -- what is told has all that are sought, and no others
    pub told_are_found : (found : List Signed) → AreTold told limit found → AreFoundBy mesh lengths searched d limit z found
    told_are_found found h = record {
      each = λ k c l.
          (let i = h.each k c l in
          subst (IsFound mesh lengths searched d) (sym i.told) (told_found _ i.edge_in (and_parts (is_between told _) _ i.wanted).0));
      here = λ k c l. ap (λ (x : Signed). x.from) (h.each k c l).told;
      sooner = λ k c l.
          (let i = h.each k c l in
          subst (λ (x : Signed). IsTrue (is_sought limit (place_of x.candidate))) (sym i.told) (parts _ i.wanted).0);
      some = λ k c l.
          (let i = h.each k c l in
          subst (λ (x : Signed). x.signature ≢ 0) (sym i.told) (not_zero _ (parts _ i.wanted).1));
      all = λ e e_in some sought.
          (let between = sought_near e e_in sought in
          let f = told_found e e_in between in
          let on : is_wanted told limit e ≡ true = and_from (is_between told e) _ between
          (and_from (is_sought limit (place_of (told_loop told e).candidate)) (not ((told_loop told e).signature == 0))
          (subst (λ p. is_sought limit p ≡ true)
          (sym (ap (λ n. (n, (told_loop told e).candidate.base)) f.size ∙ ap (λ n. (loop_length mesh lengths (trees z).tree e, n)) f.base)) sought)
          (zero_not (told_loop told e).signature (λ zero_is. some (sym f.signature ∙ zero_is)))) in
          let (k, l, is) = low_settled e e_in between in
          (told_loop told e, h.all k l e e_in (sym is) on, refl, refl));
    }
      where
        parts : (e : ℕ) → is_wanted told limit e ≡ true →
            (is_sought limit (place_of (told_loop told e).candidate) ≡ true) × (not ((told_loop told e).signature == 0) ≡ true)
        parts e on = and_parts (is_sought limit (place_of (told_loop told e).candidate)) (not ((told_loop told e).signature == 0))
            (and_parts (is_between told e) _ on).1

        not_zero : (n : ℕ) → not (n == 0) ≡ true → n ≢ 0
        not_zero n h e = grind (arith, nat_tests)

        zero_not : (n : ℕ) → n ≢ 0 → not (n == 0) ≡ true
        zero_not n h = grind (arith, nat_tests)
