-- The lengths with bars, and what barring one more vertex does to them.
use Rattle.surf_near.proofs.Common.{◌≡◌, ℕ, ◌<◌, ◌≤◌, ◌⊎◌, [], Bool, true, false, ◌||◌, if◌then◌else◌, eqb, eq-eqb, List, length, set, replicate, refl, sym, ap, ◌∙◌, subst, arith, inl, inr, get_or-set_same, get_or-set_other, cases_Bool, cases_lt, eqb-true, or_cases, or_left, or_right, or_from, or_parts, ext_get_or, get_or-replicate, get_or_past, length-replicate, All-from_get_or, get_or-map-range_with_len, length-map-range_with_len, Mesh, edge_count, ends, edge_length, slice_index_or, Option, Some, None, longest, IsLength, AreLengths, short_lengths, Link, AreLinks, AreLinksAt, AreGiven, AreGivenAt, AreUpToOrPast, AreEvenOrPast, AreSizes, link_in, length_past, is_barred, barred_lengths, KeepsOff, IsShutAt}
use Rattle.std.specs.Prelude.{All, slice_index, MatchOption, ⊤}
use Rattle.surf_buckets.specs.declared.TheConstants.{BUCKETS}
use Rattle.surf_tree.specs.Queues.{IsEvenness}
use Rattle.surf_near.specs.declared.sizes.Sizes.{Sizes}
use Rattle.surf_near.proofs.Linking.{link_to_in, link_edge_in, link_ends}

at_bar : (bar : Bool) (n : ℕ) → bar ≡ true → (if bar then longest else n) ≡ longest
at_bar bar n e = rw e refl

off_bar : (bar : Bool) (n : ℕ) → bar ≡ false → (if bar then longest else n) ≡ n
off_bar bar n e = rw e refl

-- a length that is less than the least of the great ones is at most the greatest of the small ones
pub sizes_apart : (lengths : List ℕ) (sizes : Sizes) → AreSizes lengths sizes → (radius : ℕ) → radius < sizes.least_great →
    AreUpToOrPast lengths radius sizes.greatest_small
sizes_apart lengths sizes are radius near e l = elim (cases_lt (slice_index lengths e) BUCKETS) [
  | inl low ↦ inl (are.small e l low)
  | inr high ↦ let from = are.great e l high in inr (omega arith)
]

module _ (mesh : Mesh) (given : List ℕ) where
  module _ (barred : List Bool) where
    pub barred_count : length (barred_lengths mesh barred given) ≡ length given
    barred_count = length-map-range_with_len (λ e. if is_barred mesh barred e then longest else edge_length given e) 0 (length given)

    pub barred_at : (e : ℕ) → e < length given →
        edge_length (barred_lengths mesh barred given) e ≡ (if is_barred mesh barred e then longest else edge_length given e)
    barred_at e l = get_or-map-range_with_len (λ e. if is_barred mesh barred e then longest else edge_length given e) 0 (length given) e e 0 l (omega arith)

    pub shut_at : (e : ℕ) → e < length given → is_barred mesh barred e ≡ true → edge_length (barred_lengths mesh barred given) e ≡ longest
    shut_at e l bar = barred_at e l ∙ at_bar (is_barred mesh barred e) (edge_length given e) bar

    pub open_at : (e : ℕ) → e < length given → is_barred mesh barred e ≡ false →
        edge_length (barred_lengths mesh barred given) e ≡ edge_length given e
    open_at e l bar = barred_at e l ∙ off_bar (is_barred mesh barred e) (edge_length given e) bar

    -- where no edge is barred, the lengths are those that were given
    pub all_open : ((e : ℕ) → e < length given → is_barred mesh barred e ≡ false) → barred_lengths mesh barred given ≡ given
    all_open none = ext_get_or 0 (barred_lengths mesh barred given) given barred_count (λ e l.
        open_at e (omega (arith, barred_count)) (none e (omega (arith, barred_count))))

    pub are_lengths : AreLengths given → AreLengths (barred_lengths mesh barred given)
    are_lengths are = All-from_get_or IsLength (barred_lengths mesh barred given) 0 (λ e l.
        let le : e < length given = omega (arith, barred_count) in
        elim (cases_Bool (is_barred mesh barred e)) [
          | inl bar ↦ subst IsLength (sym (shut_at e le bar)) (record { positive = omega arith; fits = omega arith })
          | inr free ↦ subst IsLength (sym (open_at e le free)) (are e 0 le)
        ])

    -- what holds of all given lengths but those past a radius holds of those with bars, if a bar is past it or none is there
    pub still_past : (P : ℕ → Type 0) (radius : ℕ) (barring : Bool) → (barring ≡ false → barred_lengths mesh barred given ≡ given) →
        (radius < longest) ⊎ (barring ≡ false) → ((e : ℕ) → e < length given → P (edge_length given e) ⊎ (radius < edge_length given e)) →
        (e : ℕ) → e < length (barred_lengths mesh barred given) →
        P (edge_length (barred_lengths mesh barred given) e) ⊎ (radius < edge_length (barred_lengths mesh barred given) e)
    still_past P radius barring same (inr none) all e l = rw (same none) (all e (omega (arith, barred_count)))
    still_past P radius barring same (inl near) all e l =
        let le : e < length given = omega (arith, barred_count) in
        elim (cases_Bool (is_barred mesh barred e)) [
          | inl bar ↦ let is = shut_at e le bar in inr (omega arith)
          | inr free ↦ subst (λ x. P x ⊎ (radius < x)) (sym (open_at e le free)) (all e le)
        ]

    pub even_past : (radius : ℕ) (barring : Bool) → (barring ≡ false → barred_lengths mesh barred given ≡ given) →
        (radius < longest) ⊎ (barring ≡ false) → (even : Option ℕ) → IsEvenness given even → MatchOption even ⊤ (AreEvenOrPast (barred_lengths mesh barred given) radius)
    even_past radius barring same known None is = tt
    even_past radius barring same known (Some size) is = still_past (λ x. x ≡ size) radius barring same known (λ e l. inl (is e l))

  pub none_barred : (n : ℕ) → barred_lengths mesh (replicate n false) given ≡ given
  none_barred n = all_open (replicate n false) (λ e l. or_from (slice_index_or (replicate n false) (ends mesh e).0 false) (slice_index_or (replicate n false) (ends mesh e).1 false)
      (unset (ends mesh e).0) (unset (ends mesh e).1))
    where
      unset : (v : ℕ) → slice_index_or (replicate n false) v false ≡ false
      unset v = elim (cases_lt v n) [
        | inl l ↦ get_or-replicate n v false false l
        | inr past ↦ get_or_past (replicate n false) v false (let long = length-replicate n false in omega arith)
      ]

  -- barring one more
  module _ (barred : List Bool) (v : ℕ) (v_in : v < length barred) (as_many : length given ≡ edge_count mesh) where
    same_flag : (u : ℕ) → eqb u v ≡ false → slice_index_or (set barred v true) u false ≡ slice_index_or barred u false
    same_flag u ne = get_or-set_other barred v u true false (λ e. absurd (let x = sym (eq-eqb u v e) ∙ ne in cc))

    own_flag : (u : ℕ) → eqb u v ≡ true → slice_index_or (set barred v true) u false ≡ true
    own_flag u same = ap (λ k. slice_index_or (set barred v true) k false) (eqb-true u v same) ∙ get_or-set_same barred v true false v_in

    pub bar_keeps : KeepsOff mesh v (barred_lengths mesh barred given) (barred_lengths mesh (set barred v true) given)
    bar_keeps = record {
      count = barred_count (set barred v true) ∙ sym (barred_count barred);
      same = λ e e_in off.
          let l : e < length given = omega arith in
          let apart = or_parts (eqb (ends mesh e).0 v) (eqb (ends mesh e).1 v) off in
          barred_at (set barred v true) e l
          ∙ rw (same_flag (ends mesh e).0 apart.0, same_flag (ends mesh e).1 apart.1) (sym (barred_at barred e l));
    }

    pub bar_shuts : IsShutAt mesh v (barred_lengths mesh (set barred v true) given)
    bar_shuts e e_in on =
        let l : e < length given = omega arith in
        let first = slice_index_or (set barred v true) (ends mesh e).0 false in
        let second = slice_index_or (set barred v true) (ends mesh e).1 false in
        shut_at (set barred v true) e l (elim (or_cases (eqb (ends mesh e).0 v) (eqb (ends mesh e).1 v) on) [
          | inl one ↦ or_left first second (own_flag (ends mesh e).0 one)
          | inr two ↦ or_right first second (own_flag (ends mesh e).1 two)
        ])

  -- the links of a vertex
  module _ (barred : List Bool) (v : ℕ) (links : List Link) (are : AreGivenAt mesh given v links) (as_many : length given ≡ edge_count mesh) where
    given_links : AreLinksAt mesh given v links
    given_links = record { row = are.row; measured = λ k l. inl (sym (are.measured k l)) }

    edge_in : (k : ℕ) → k < length links → (link_in links k).edge < length given
    edge_in k l = let e_in = link_edge_in mesh given v links given_links k l in omega arith

    pub barred_links : AreLinksAt mesh (barred_lengths mesh barred given) v links
    barred_links = record {
      row = are.row;
      measured = λ k l.
          let e = (link_in links k).edge in
          elim (cases_Bool (is_barred mesh barred e)) [
            | inl bar ↦ inr (shut_at barred e (edge_in k l) bar)
            | inr free ↦ inl (open_at barred e (edge_in k l) free ∙ sym (are.measured k l))
          ];
    }

    -- a link is barred where its vertex or the other end is
    link_barred : (k : ℕ) → k < length links →
        is_barred mesh barred (link_in links k).edge ≡ (slice_index_or barred v false || slice_index_or barred (link_in links k).to false)
    link_barred k l = elim (link_ends mesh given v links given_links k l) [
      | inl is ↦ rw is refl
      | inr is ↦ rw is (or_turned (slice_index_or barred (link_in links k).to false) (slice_index_or barred v false))
    ]
      where
        or_turned : (x y : Bool) → (x || y) ≡ (y || x)
        or_turned true true = refl
        or_turned true false = refl
        or_turned false true = refl
        or_turned false false = refl

    pub length_there : (k : ℕ) → k < length links →
        length_past barred (slice_index_or barred v false) (link_in links k) ≡ edge_length (barred_lengths mesh barred given) (link_in links k).edge
    length_there k l =
        let x = link_in links k in
        rw (are.measured k l, ← link_barred k l) (sym (barred_at barred x.edge (edge_in k l)))

    pub length_least : AreLengths given → (k : ℕ) → k < length links →
        (link_in links k).length ≤ edge_length (barred_lengths mesh barred given) (link_in links k).edge
    length_least fit k l = elim (barred_links.measured k l) [
      | inl same ↦ omega (arith, same)
      | inr bar ↦ let most = short_lengths given fit (link_in links k).edge in omega (arith, bar, most, are.measured k l)
    ]

  module _ (barred : List Bool) (rows : List (List Link)) (are : AreGiven mesh given rows) where
    pub barred_row : (v : ℕ) → v < mesh.vertices → AreLinksAt mesh (barred_lengths mesh barred given) v (slice_index_or rows v [])
    barred_row v l = barred_links barred v (slice_index_or rows v []) (are.at v l) are.as_many

    pub barred_rows : AreLinks mesh (barred_lengths mesh barred given) rows
    barred_rows = record {
      surface = are.surface;
      few = are.few;
      are_lengths = are_lengths barred are.are_lengths;
      as_many = barred_count barred ∙ are.as_many;
      count = are.count;
      at = barred_row;
    }

    pub row_inside : (v : ℕ) → v < mesh.vertices → All (λ (x : Link). x.to < mesh.vertices) (slice_index_or rows v [])
    row_inside v l = All-from_get_or (λ (x : Link). x.to < mesh.vertices) (slice_index_or rows v []) (record { to = 0; length = 0; edge = 0 })
        (link_to_in mesh (barred_lengths mesh barred given) v (slice_index_or rows v []) (barred_row v l))

    pub row_lengths : (v : ℕ) → v < mesh.vertices → (k : ℕ) → k < length (slice_index_or rows v []) →
        length_past barred (slice_index_or barred v false) (link_in (slice_index_or rows v []) k)
        ≡ edge_length (barred_lengths mesh barred given) (link_in (slice_index_or rows v []) k).edge
    row_lengths v l = length_there barred v (slice_index_or rows v []) (are.at v l) are.as_many
