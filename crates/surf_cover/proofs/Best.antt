-- The least vertex at which a round is shortest, found by searches from the lesser ends of some edges.
use Rattle.surf_cotree.proofs.Common.{◌≡◌, ◌≢◌, ℕ, ◌+◌, ◌^◌, ◌<◌, ◌≤◌, ◌⊎◌, true, refl, List, Option, None, Some, length, map, get_or, slice_index, bit_xor, sym, ap, ◌∙◌, subst, arith, inl, inr, MatchOption, cases_eq, cases_lt, length-map, get_or-map, has, Split, IsSplit, primal, joins, Tree, joins_ends, Mesh, IsSurface, ends, cells_of, ArePositive, none-some, same_Some, ends_below, some_vertex, IsRow, edge_link, CotreeTables, split_with}
use Rattle.surf_cover.proofs.Common.{IsSet, IsSignedDistance, AreSignedDistances, way_to, signed_distances_exist, xor_set, nearest_from, nearest_to, far, IsSigned, IsSignedBy, CoverTables, distance_at, IsLesserEnd, AreClosedSets, IsStartBy, IsBetter, IsLeastStart, Start}
use Rattle.surf_cover.proofs.Distances.{IsWithin, AreDistancesWithin}
use Rattle.surf_cover.specs.Starts.{IsUpTo}
use Rattle.surf_cover.proofs.Covering.{is_set}
use Rattle.surf_cover.proofs.Signed.{sign_is}
use Rattle.surf_cover.proofs.Through.{HasRound, HasRoundBy, round_by, round_least, round_here, round_there}

-- sums of sets are sets
pub closed_sets : (mesh : Mesh) (d : Split) (t : CoverTables) → IsSignedBy mesh d t.sets t.signs → AreClosedSets t
closed_sets mesh d t signed set other l m =
    subst (λ n. bit_xor set other < n) (sym signed.sets_are)
    (xor_set d set other (is_set mesh d t.sets t.signs signed set l) (is_set mesh d t.sets t.signs signed other m))

-- where no edge at a vertex is such, the vertex is the lesser end of none
pub no_lesser_end : (mesh : Mesh) (v : ℕ) (items signatures : List ℕ) (number : ℕ) →
    IsRow (primal (cells_of mesh)) v (map (edge_link mesh v) items) →
    ((k : ℕ) → k < length items → (ends mesh (get_or items k 0)).0 ≡ v →
    has (slice_index signatures (get_or items k 0)) number ≡ true → ⊥) → IsLesserEnd mesh signatures number v → ⊥
no_lesser_end mesh v items signatures number row none (e, e_in, at, on) =
    let g = primal (cells_of mesh) in
    let joined = subst (λ a. joins g a (ends mesh e).1 e ≡ true) at (joins_ends g e) in
    let (k, l, link) = row.whole e (ends mesh e).1 e_in joined in
    let k_in : k < length items = omega (arith, l, length-map items (edge_link mesh v)) in
    let same : get_or items k 0 ≡ e =
    ap (λ p. p.1) (sym (get_or-map (edge_link mesh v) items k 0 (0, 0) k_in) ∙ link) in
    none k k_in (subst (λ x. (ends mesh x).0 ≡ v) (sym same) at)
    (subst (λ x. has (slice_index signatures x) number ≡ true) (sym same) on)

-- ---- the start by way of one base

module _ (mesh : Mesh) (lengths : List ℕ) (d : Split) (surface : IsSurface mesh) (positive : ArePositive mesh lengths)
    (split : IsSplit (cells_of mesh) d) (base set radius : ℕ) (base_in : base < mesh.vertices) (set_in : IsSet d set)
    (t : CoverTables) (signed : IsSignedBy mesh d t.sets t.signs)
    (near : AreDistancesWithin mesh lengths d base radius (distance_at t)) where
  all_ways : (v s : ℕ) → (n : ℕ) × (v < mesh.vertices → IsSet d s → IsSignedDistance mesh lengths d base v s n)
  all_ways v s = elim (cases_lt v mesh.vertices) [
    | inl v_in ↦ elim (cases_lt s (2 ^ length d.left)) [
      | inl s_in ↦
          let (n, is) = signed_distances_exist mesh lengths d surface positive split base v s base_in v_in s_in in
          (n, λ _ _. is)
      | inr past ↦ (0, λ _ s_in. absurd (omega (arith, past, s_in)))
    ]
    | inr past ↦ (0, λ v_in. absurd (omega (arith, past, v_in)))
  ]

  -- the least lengths, within the radius or not
  way : ℕ → ℕ → ℕ
  way v s = (all_ways v s).0

  ways : AreSignedDistances mesh lengths d base way
  unfolding way all_ways
  ways v s v_in s_in = (all_ways v s).1 v_in s_in

  within : (v s : ℕ) → v < mesh.vertices → IsSet d s → IsWithin radius (way v s) (distance_at t v s)
  within v s v_in s_in = near v s (way v s) v_in s_in (ways v s v_in s_in)

  settled_way : (v s : ℕ) → v < mesh.vertices → IsSet d s → distance_at t v s ≢ far →
      (distance_at t v s ≡ way v s) × (way v s ≤ radius) × (distance_at t v s < far)
  settled_way v s v_in s_in settled = elim (cases_lt radius (way v s)) [
    | inl beyond ↦ absurd (settled ((within v s v_in s_in).past beyond))
    | inr fits ↦
        let (same, less) = (within v s v_in s_in).near fits in
        (same, fits, less)
  ]

  part_set : (part : ℕ) → part < t.sets → IsSet d part
  part_set = is_set mesh d t.sets t.signs signed

  rest_set : (part : ℕ) → IsSet d part → IsSet d (bit_xor set part)
  rest_set part part_in = xor_set d set part set_in part_in

  module _ (count : t.vertices ≡ mesh.vertices) (start : Start) (is : IsStartBy t base set start) where
    own_way : (start.length ≡ way base set) × (way base set ≤ radius) × (start.length < far)
    own_way =
        let own : start.length ≡ distance_at t base set = is.length_is in
        let here = settled_way base set base_in set_in (λ e. is.found (own ∙ e)) in
        (own ∙ here.0, here.1, omega (arith, own, here.2))

    -- a round is as long there
    pub starts_round : (start.vertex < mesh.vertices) × HasRound mesh lengths d start.vertex start.length set
    starts_round =
        let y = start.vertex in
        let y_in : y < mesh.vertices = subst (λ n. y < n) count is.start_in in
        let (part, part_in, sum) = is.on_round in
        let rest = bit_xor set part in
        let own = own_way in
        let adds : distance_at t y part + distance_at t y rest ≡ start.length = sum in
        let first = settled_way y part y_in (part_set part part_in) (λ e. absurd (omega (arith, adds, own.2, e))) in
        let second = settled_way y rest y_in (rest_set part (part_set part part_in)) (λ e. absurd (omega (arith, adds, own.2, e))) in
        let size : way y part + way y rest ≡ start.length = omega (arith, adds, first.0, second.0) in (
          y_in,
          subst (λ n. HasRound mesh lengths d y n set) size
              (round_here mesh lengths d surface base base_in way ways y y_in set set_in part (part_set part part_in)),
        )

    -- and no round by way of the base is before it
    pub starts_before : (y n : ℕ) → y < mesh.vertices → HasRoundBy mesh lengths d base y n set → IsUpTo start y n
    starts_before y n y_in by =
        let (part, part_in, most) = round_least mesh lengths d surface base base_in way ways y y_in set set_in n by in
        let rest = bit_xor set part in
        let two : way y part + way y rest ≤ n = most in
        let there : way base set ≤ way y part + way y rest =
        round_there mesh lengths d surface base base_in way ways y y_in set set_in part part_in in
        let own = own_way in (
          omega (arith, two, there, own.0),
          (λ same.
              let first = (within y part y_in part_in).near (omega (arith, same, two, own.0, own.1)) in
              let second = (within y rest y_in (rest_set part part_in)).near (omega (arith, same, two, own.0, own.1)) in
              is.least y (
                part,
                subst (λ k. part < k) (sym signed.sets_are) part_in,
                omega (arith, same, two, there, own.0, first.0, second.0),
              )),
        )

  -- where none is found, each round by way of the base is longer than the radius
  pub none_before : distance_at t base set ≡ far → (y n : ℕ) → y < mesh.vertices →
      HasRoundBy mesh lengths d base y n set → radius < n
  none_before none y n y_in by = elim (cases_lt radius (way base set)) [
    | inl beyond ↦
        let (part, part_in, most) = round_least mesh lengths d surface base base_in way ways y y_in set set_in n by in
        let two : way y part + way y (bit_xor set part) ≤ n = most in
        let there : way base set ≤ way y part + way y (bit_xor set part) =
        round_there mesh lengths d surface base base_in way ways y y_in set set_in part part_in in
        omega (arith, beyond, two, there)
    | inr fits ↦
        let less = ((within base set base_in set_in).near fits).1 in
        absurd (omega (arith, less, none))
  ]

-- ---- the best of them

pub up_to_trans : (r s : Start) (y n : ℕ) → IsUpTo r s.vertex s.length → IsUpTo s y n → IsUpTo r y n
up_to_trans r s y n (short, low) (less, down) =
    let one : r.length ≤ s.length = short in
    let two : s.length ≤ n = less in (
      omega arith,
      (λ same.
          let first : r.vertex ≤ s.vertex = low (omega arith) in
          let second : s.vertex ≤ y = down (omega arith) in
          omega arith),
    )

-- of the rounds by way of lesser ends below a bound it is the first
pub record IsBestBelow (mesh : Mesh) (lengths : List ℕ) (d : Split) (signatures : List ℕ) (set number bound : ℕ)
    (best : Option Start) : Type 0 where
  pub round : (start : Start) → best ≡ Some start →
      (start.vertex < mesh.vertices) × HasRound mesh lengths d start.vertex start.length set
  pub least : (m y n : ℕ) → m < bound → IsLesserEnd mesh signatures number m → y < mesh.vertices →
      HasRoundBy mesh lengths d m y n set → (start : Start) × (best ≡ Some start) × IsUpTo start y n

module _ (mesh : Mesh) (lengths : List ℕ) (d : Split) (signatures : List ℕ) (set number : ℕ) where
  pub none_below : IsBestBelow mesh lengths d signatures set number 0 None
  none_below = record {
    round = λ start is. absurd (none-some start is);
    least = λ m y n l. absurd (omega arith);
  }

  -- a vertex that is no lesser end is passed over
  pub passed_over : (v : ℕ) (best : Option Start) → IsBestBelow mesh lengths d signatures set number v best →
      (IsLesserEnd mesh signatures number v → ⊥) → IsBestBelow mesh lengths d signatures set number (v + 1) best
  passed_over v best so_far none = record {
    round = so_far.round;
    least = λ m y n l end y_in by. elim (cases_eq m v) [
      | inl same ↦ absurd (none (subst (IsLesserEnd mesh signatures number) same end))
      | inr ne ↦ so_far.least m y n (omega arith) end y_in by
    ];
  }

  -- one that is
  pub taken_in : (v : ℕ) (best : Option Start) (other new : Start) →
      IsBestBelow mesh lengths d signatures set number v best →
      (other.vertex < mesh.vertices) × HasRound mesh lengths d other.vertex other.length set →
      ((y n : ℕ) → y < mesh.vertices → HasRoundBy mesh lengths d v y n set → IsUpTo other y n) →
      (new ≡ other) ⊎ (best ≡ Some new) → IsUpTo new other.vertex other.length →
      ((start : Start) → best ≡ Some start → IsUpTo new start.vertex start.length) →
      IsBestBelow mesh lengths d signatures set number (v + 1) (Some new)
  taken_in v best other new so_far round before one up_to_other up_to_best = record {
    round = λ start is.
        let same = same_Some new start is in
        subst (λ s. (s.vertex < mesh.vertices) × HasRound mesh lengths d s.vertex s.length set) same
        (elim one [
          | inl is_other ↦
              subst (λ s. (s.vertex < mesh.vertices) × HasRound mesh lengths d s.vertex s.length set) (sym is_other) round
          | inr is_best ↦ so_far.round new is_best
        ]);
    least = λ m y n l end y_in by. (
      new,
      refl,
      elim (cases_eq m v) [
        | inl same ↦
            up_to_trans new other y n up_to_other
            (before y n y_in (subst (λ x. HasRoundBy mesh lengths d x y n set) same by))
        | inr ne ↦
            let (start, is, up_to) = so_far.least m y n (omega arith) end y_in by in
            up_to_trans new start y n (up_to_best start is) up_to
      ],
    );
  }

-- a search from one lesser end more, as far as the best so far
module _ (mesh : Mesh) (lengths : List ℕ) (d : Split) (surface : IsSurface mesh) (positive : ArePositive mesh lengths)
    (split : IsSplit (cells_of mesh) d) (signatures : List ℕ) (number base set radius : ℕ) (base_in : base < mesh.vertices)
    (set_in : IsSet d set) (t : CoverTables) (signed : IsSignedBy mesh d t.sets t.signs)
    (near : AreDistancesWithin mesh lengths d base radius (distance_at t)) (count : t.vertices ≡ mesh.vertices)
    (all : radius ≡ far → distance_at t base set ≢ far) where
  -- a base at whose search none is found
  none_taken : (best : Option Start) → IsBestBelow mesh lengths d signatures set number base best →
      MatchOption best (radius ≡ far) (λ start. radius ≡ start.length) → distance_at t base set ≡ far →
      IsBestBelow mesh lengths d signatures set number (base + 1) best
  none_taken None so_far reach none = absurd (all reach none)
  none_taken (Some start) so_far reach none = record {
    round = so_far.round;
    least = λ m y n l end y_in by. elim (cases_eq m base) [
      | inl same ↦
          let longer = none_before mesh lengths d surface positive split base set radius base_in set_in t signed near none
          y n y_in (subst (λ x. HasRoundBy mesh lengths d x y n set) same by) in
          let is : radius ≡ start.length = reach in
          (start, refl, (omega (arith, longer, is), λ e. absurd (omega (arith, longer, is, e))))
      | inr ne ↦ so_far.least m y n (omega (arith, l, ne)) end y_in by
    ];
  }

  pub takes_in : (best found new : Option Start) → IsBestBelow mesh lengths d signatures set number base best →
      MatchOption best (radius ≡ far) (λ start. radius ≡ start.length) →
      MatchOption found (distance_at t base set ≡ far) (IsStartBy t base set) → (found ≡ None → new ≡ best) →
      ((other : Start) → found ≡ Some other → IsBetter best other new) →
      IsBestBelow mesh lengths d signatures set number (base + 1) new
  takes_in best None new so_far reach none same better =
      subst (IsBestBelow mesh lengths d signatures set number (base + 1)) (sym (same refl))
      (none_taken best so_far reach none)
  takes_in best (Some other) new so_far reach is same better =
      let b = better other refl in
      subst (IsBestBelow mesh lengths d signatures set number (base + 1)) (sym b.is)
      (taken_in mesh lengths d signatures set number base best other b.start so_far
      (starts_round mesh lengths d surface positive split base set radius base_in set_in t signed near count other is)
      (starts_before mesh lengths d surface positive split base set radius base_in set_in t signed near count other is)
      b.one b.up_to_other b.up_to_best)

-- ---- once all are taken in

module _ (mesh : Mesh) (lengths : List ℕ) (surface : IsSurface mesh) (t : CotreeTables) (signed : IsSigned mesh t)
    (tree : Tree) (split : IsSplit (cells_of mesh) (split_with tree t)) (set number : ℕ) (on : has set number ≡ true)
    (best : Option Start)
    (all : IsBestBelow mesh lengths (split_with tree t) t.signatures set number mesh.vertices best) where
  found : (y n : ℕ) → y < mesh.vertices → HasRound mesh lengths (split_with tree t) y n set →
      (start : Start) × (best ≡ Some start) × IsUpTo start y n
  found y n y_in round =
      let d = split_with tree t in
      let (m, begins, by) = round_by mesh lengths d surface number y n set round on in
      let (e, e_in, at, has_it) = begins in
      let both = ends_below mesh surface.is_mesh e e_in in
      let low : (ends mesh e).0 < mesh.vertices = omega (arith, both.0, both.1) in
      let m_in : m < mesh.vertices = subst (λ x. x < mesh.vertices) at low in
      let end : IsLesserEnd mesh t.signatures number m =
      (e, e_in, at, subst (λ x. has x number ≡ true) (sym (sign_is mesh t signed tree split e e_in)) has_it) in
      all.least m y n m_in end y_in by

  round_of : (y n : ℕ) → y < mesh.vertices → IsSignedDistance mesh lengths (split_with tree t) y y set n →
      HasRound mesh lengths (split_with tree t) y n set
  round_of y n y_in there =
      let near = nearest_from mesh lengths (split_with tree t) surface y y set n y_in there in
      (near.walk, near.goes)

  -- there is one
  pub some_best : IsSet (split_with tree t) set → (start : Start) × (best ≡ Some start)
  some_best is =
      let some = some_vertex mesh surface in
      let way = way_to mesh lengths (split_with tree t) surface split 0 0 set some some is in
      let (start, same, up_to) = found 0 way.size some (way.walk, way.goes) in
      (start, same)

  -- and it is the least start
  pub least_of_all : (start : Start) → best ≡ Some start → IsLeastStart mesh lengths (split_with tree t) set start
  least_of_all start same =
      let d = split_with tree t in
      let own = all.round start same in
      let before : (y n : ℕ) → y < mesh.vertices → HasRound mesh lengths d y n set → IsUpTo start y n =
      λ y n y_in round.
      let (other, is, up_to) = found y n y_in round in
      subst (λ s. IsUpTo s y n) (same_Some other start (sym is ∙ same)) up_to in
      record {
        start_in = own.0;
        round = nearest_to mesh lengths d surface start.vertex start.vertex set start.length own.0 (record {
          walk = own.1.0;
          goes = own.1.1;
          least = λ w m goes. (before start.vertex m own.0 (w, goes)).0;
        });
        least = λ y n y_in there. before y n y_in (round_of y n y_in there);
      }
