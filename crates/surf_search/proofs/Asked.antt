-- Caps as great as edges ask for meet all closed walks, so what is kept has the places of the basis.
use Rattle.surf_search.proofs.Common.{◌≡◌, ℕ, zero, suc, ◌<◌, ◌≤◌, ◌^◌, ◌&&◌, true, List, [], ◌∷◌, length, get_or, map, take, All, Option, Some, None, refl, sym, ap, ◌∙◌, subst, arith, inl, inr, IsTrue, nat_le, slice_index, min, cases_Bool, cases_lt, leb-true, le-leb, or_cases, or_left, or_right, and_from, and_parts, false≢true, nat_tests, numbers, Independent, Spanned, sorted_from_order, Split, IsSplit, signature, Tree, Mesh, edge_count, ends, IsSurface, IsClosed, ArePositive, IsIndependent, IsLoopCount, cells_of, class_of, AreShortestTrees, edge_signature, Trees, AreChosen, Loop, IsChosenBasis, length-map, take-map, get_or-map, recursion_from_All, All-from_recursion, All-contains, small, Place, place_at, is_no_later, Found, HasFound, IsWithin, walks_found, place_of_loop, MeetsAll, independent_by_classes, all_mapped, Sought, AreSized, AreEnoughFor, HaveAskedEnds, MeetsUpTo, asks, both, either, everywhere, limited, caps_grow_enough, both_start, limited_start, found_are_walks, SignTables, Candidate, Signed, Chosen, signatures, place_of, is_sought, last_of, limit_of, stands_before, before_last, limit_none, limit_last, is_among, is_within_cap, cap_at, in_caps, AreKeptTo, IsAsked, HasCappedEnd, AreCapped, AreSigned, AreSignatures}
use Rattle.surf_caps.specs.Heights.{AreHeights}
use Rattle.surf_caps.proofs.Covers.{enough_everywhere}
use Rattle.surf_caps.proofs.Heights.{asked_ends_meet}
use Rattle.surf_caps.proofs.Images.{everywhere_meets, meets_fewer, sets_meet}
use Rattle.surf_caps.proofs.Places.{enough_have_places, full_count_has_places}
use Rattle.surf_search.proofs.Capped.{within_start, limit_start}
use Rattle.surf_finder.proofs.Climbed.{at_edge}
use Rattle.surf_finder.proofs.Searched.{among_contains}
use Rattle.surf_search.proofs.Looped.{tells_sizes, tells_walks, tells_long, tells_at, tells_order, signed_of}

-- the signature of an edge is as small as there are left edges
pub sign_small : (mesh : Mesh) (s : SignTables) (width e : ℕ) → AreSigned mesh s width → e < edge_count mesh →
    slice_index s.signatures e < 2 ^ width
sign_small mesh s width e signed e_in =
    let own : slice_index s.signatures e ≡ edge_signature mesh signed.split e = at_edge mesh signed.split s e signed.signatures e_in in
    subst (λ n. n < 2 ^ width) (sym own)
    (subst (λ n. edge_signature mesh signed.split e < 2 ^ n) signed.count
    (small (length signed.split.left) (signature (cells_of mesh) signed.split e)))

-- ---- what is within a cap

pub within_by_none : (cap : ℕ) (p : Place) → 18446744073709551615 ≤ cap → is_within_cap cap p ≡ true
within_by_none cap p le = or_right (nat_le p.0 cap) (nat_le 18446744073709551615 cap) (le-leb 18446744073709551615 cap le)

pub within_by_size : (cap size base : ℕ) → size ≤ cap → is_within_cap cap (size, base) ≡ true
within_by_size cap size base le = or_left (nat_le size cap) (nat_le 18446744073709551615 cap) (le-leb size cap le)

-- what is within a cap is within a greater one
pub within_more : (cap more : ℕ) (p : Place) → cap ≤ more → is_within_cap cap p ≡ true → is_within_cap more p ≡ true
within_more cap more p le h = grind (arith, nat_tests)

-- ---- heights by what edges ask

-- how many of the first kept loops the signature needs, where it isn't asked for all
count_of : (kept : List Signed) (ask set : ℕ) → IsAsked kept ask set → Option ℕ
count_of kept ask set (inl all) = None
count_of kept ask set (inr h) = Some h.count

count_in : (kept : List Signed) (ask set n : ℕ) (x : IsAsked kept ask set) → count_of kept ask set x ≡ Some n →
    (n ≤ length kept) × Spanned numbers (signatures (take n kept)) set
unfolding count_of
count_in kept ask set n (inl all) is = cc
count_in kept ask set n (inr h) is =
    let same : h.count ≡ n = cc in
    subst (λ m. (m ≤ length kept) × Spanned numbers (signatures (take m kept)) set) same (h.count_in, h.sum)

-- a loop that an edge asks for, and that is within a length, is within each cap that is as great
asked_within : (kept : List Signed) (ask set most cap size base : ℕ) (x : IsAsked kept ask set) →
    is_within_cap most (size, base) ≡ true → min ask most ≤ cap →
    asks (map (λ (s : Signed). s.candidate.length) kept) (count_of kept ask set x) size ≡ true →
    is_within_cap cap (size, base) ≡ true
unfolding count_of
asked_within kept ask set most cap size base (inl all) short le on =
    elim (cases_lt cap 18446744073709551615) [
      | inr none ↦ within_by_none cap (size, base) none
      | inl less ↦ within_more most cap (size, base) (omega (arith, all, less, le)) short
    ]
asked_within kept ask set most cap size base (inr h) short le on = of h.count refl on
  where
    of : (n : ℕ) → h.count ≡ n → asks (map (λ (s : Signed). s.candidate.length) kept) (Some n) size ≡ true →
        is_within_cap cap (size, base) ≡ true
    of zero is on = absurd (false≢true on)
    of (suc i) is on =
        let i_in : i < length kept = (let l = h.count_in in omega (arith, is, l)) in
        let d : Signed = get_or kept i (first_or kept i i_in) in
        let at : slice_index (map (λ (s : Signed). s.candidate.length) kept) i ≡ (get_or kept i d).candidate.length =
        get_or-map (λ (s : Signed). s.candidate.length) kept i d 0 i_in in
        let last : (get_or kept i d).candidate.length ≡ ask = h.last i d (sym is) in
        let fits : size ≤ slice_index (map (λ (s : Signed). s.candidate.length) kept) i = leb-true size _ on in
        elim (cases_lt ask most) [
          | inl less ↦ within_by_size cap size base (omega (arith, fits, at, last, less, le))
          | inr more ↦ within_more most cap (size, base) (omega (arith, more, le)) short
        ]
      where
        first_or : (ks : List Signed) (i : ℕ) → i < length ks → Signed
        first_or (k ∷ ks) i l = k
        first_or [] i l = absurd (omega arith)

module _ (mesh : Mesh) (lengths : List ℕ) (trees : ℕ → Tree) (surface : IsSurface mesh)
    (positive : ArePositive mesh lengths) (shortest : AreShortestTrees mesh lengths trees) (d : Split)
    (split : IsSplit (cells_of mesh) d) where
  module _ (s : SignTables) (are : AreSignatures mesh d s) (limit : Option Candidate) (sought : Sought) (kept : List Signed)
      (k : AreKeptTo mesh lengths trees d limit sought kept) (most : ℕ) (caps : List ℕ)
      (capped : AreCapped mesh s kept most caps) where
    -- what is asked of an edge; all is asked of what is no edge
    record AskAt (e : ℕ) : Type 0 where
      ask : ℕ
      asked : IsAsked kept ask (slice_index s.signatures e)
      capped_end : e < edge_count mesh → HasCappedEnd mesh caps (min ask most) e

    ask_at : (e : ℕ) → AskAt e
    ask_at e = elim (cases_lt e (edge_count mesh)) [
      | inl e_in ↦ let (n, asked, there) = capped e e_in in record { ask = n; asked = asked; capped_end = λ l. there }
      | inr past ↦ record { ask = 18446744073709551615; asked = inl refl; capped_end = λ l. absurd (omega (arith, l, past)) }
    ]

    height : ℕ → Option ℕ
    height e = count_of kept (ask_at e).ask (slice_index s.signatures e) (ask_at e).asked

    sized : AreSized mesh lengths (walks_found k.loops) (map (λ (c : Signed). c.candidate.length) kept)
    sized = subst (AreSized mesh lengths (walks_found k.loops)) (tells_sizes mesh d k.loops kept k.told)
        ((found_are_walks mesh lengths k.loops surface positive k.enough.loops).sized
        (tells_order mesh d k.loops kept k.told k.order))

    heights : AreHeights mesh d (walks_found k.loops) height
    unfolding count_of height
    heights = record {
      within = λ e n e_in is.
          (let h = count_in kept (ask_at e).ask (slice_index s.signatures e) n (ask_at e).asked is in
          let a : length (walks_found k.loops) ≡ length k.loops = length-map k.loops (λ (x : Found). x.walk) in
          let b = tells_long mesh d k.loops kept k.told in
          omega (arith, h.0, a, b));
      spanned = λ e n e_in is.
          (let h = count_in kept (ask_at e).ask (slice_index s.signatures e) n (ask_at e).asked is in
          let front : map (class_of mesh d) (take n (walks_found k.loops)) ≡ signatures (take n kept) =
          sym (take-map (class_of mesh d) n (walks_found k.loops)) ∙ ap (take n) (tells_walks mesh d k.loops kept k.told)
          ∙ take-map (λ (c : Signed). c.signature) n kept in
          subst (λ vs. Spanned numbers vs (edge_signature mesh d e)) (sym front)
          (subst (Spanned numbers (signatures (take n kept))) (at_edge mesh d s e are e_in) h.1));
    }

    asked_ends : HaveAskedEnds mesh (map (λ (c : Signed). c.candidate.length) kept) height (is_within_cap most) (in_caps caps)
    unfolding count_of height
    asked_ends e place e_in short on = elim ((ask_at e).capped_end e_in) [
      | inl low ↦ inl (asked_within kept (ask_at e).ask (slice_index s.signatures e) most (cap_at caps (ends mesh e).0) place.0 place.1
          (ask_at e).asked short low on)
      | inr high ↦ inr (asked_within kept (ask_at e).ask (slice_index s.signatures e) most (cap_at caps (ends mesh e).1) place.0 place.1
          (ask_at e).asked short high on)
    ]

    -- each closed walk within the length that is no sum of shorter ones goes over a vertex where its place is sought
    pub caps_meet : MeetsUpTo mesh lengths (is_within_cap most) (in_caps caps)
    caps_meet = asked_ends_meet mesh lengths d (walks_found k.loops) (map (λ (c : Signed). c.candidate.length) kept) height
        (is_within_cap most) (in_caps caps) surface split sized heights asked_ends

  -- so it is where a cut has such caps
  pub cut_meets : (vertices : List ℕ) (most : ℕ) (caps : List ℕ) → MeetsAll mesh (is_among vertices) →
      All (λ v. most ≤ cap_at caps v) vertices → MeetsUpTo mesh lengths (is_within_cap most) (in_caps caps)
  cut_meets vertices most caps met high =
      meets_fewer mesh lengths (is_within_cap most) (is_within_cap most) (λ z p. is_among vertices z && is_within_cap most p)
      (in_caps caps) (sets_meet mesh lengths (is_among vertices) (is_within_cap most) met) (λ p on. on)
      (λ z p on among. (let le = All-contains (λ v. most ≤ cap_at caps v) vertices z high
      (among_contains vertices z (and_parts (is_among vertices z) (is_within_cap most p) among).0) in
      within_more most (cap_at caps z) p le on))

  -- where walks within a length are met, what is kept is enough up to that length everywhere
  pub raised_kept : (limit : Option Candidate) (most : ℕ) (caps : List ℕ) (kept : List Signed) →
      MeetsUpTo mesh lengths (is_within_cap most) (in_caps caps) → AreKeptTo mesh lengths trees d limit (in_caps caps) kept →
      AreKeptTo mesh lengths trees d limit (either (in_caps caps) (everywhere (is_within_cap most))) kept
  raised_kept limit most caps kept meets k =
      let grow = caps_grow_enough mesh lengths trees surface positive shortest in
      let target = both (is_within_cap most) (is_sought limit) in
      let start = both_start (is_within_cap most) (is_sought limit) (within_start most) (limit_start limit) in
      let starts = limited_start (is_sought limit) (in_caps caps) (limit_start limit) (λ z. within_start (cap_at caps z)) in
      let met : MeetsUpTo mesh lengths target (limited (is_sought limit) (in_caps caps)) =
      meets_fewer mesh lengths (is_within_cap most) target (in_caps caps) (limited (is_sought limit) (in_caps caps)) meets
      (λ p on. (and_parts (is_within_cap most p) (is_sought limit p) on).0)
      (λ z p on there. and_from (in_caps caps z p) (is_sought limit p) there
      (and_parts (is_within_cap most p) (is_sought limit p) on).1) in
      let all = enough_everywhere mesh lengths trees target (limited (is_sought limit) (in_caps caps)) k.loops surface positive
      shortest start starts met k.enough in record {
        loops = k.loops;
        told = k.told;
        enough = grow.fewer (either (limited (is_sought limit) (in_caps caps)) (everywhere target))
            (limited (is_sought limit) (either (in_caps caps) (everywhere (is_within_cap most)))) k.loops
            (grow.join (limited (is_sought limit) (in_caps caps)) (everywhere target) k.loops k.enough all)
            (λ z p on. (let parts = and_parts (either (in_caps caps) (everywhere (is_within_cap most)) z p) (is_sought limit p) on in
            elim (or_cases (in_caps caps z p) (is_within_cap most p) parts.0) [
              | inl old ↦ or_left (limited (is_sought limit) (in_caps caps) z p) (target p)
                  (and_from (in_caps caps z p) (is_sought limit p) old parts.1)
              | inr new ↦ or_right (limited (is_sought limit) (in_caps caps) z p) (target p)
                  (and_from (is_within_cap most p) (is_sought limit p) new parts.1)
            ]));
        order = k.order;
        independent = k.independent;
      }

-- where all is sought, what is kept has the places of the basis
module _ (mesh : Mesh) (lengths : List ℕ) (trees : ℕ → Trees) (surface : IsSurface mesh)
    (positive : ArePositive mesh lengths) (chosen : AreChosen mesh lengths trees)
    (shortest : AreShortestTrees mesh lengths (λ x. (trees x).tree)) (d : Split) (split : IsSplit (cells_of mesh) d)
    (basis : List Loop) (is : IsChosenBasis mesh lengths trees basis) (sought : Sought) (choice : Chosen)
    (k : AreKeptTo mesh lengths (λ x. (trees x).tree) d (limit_of choice) sought choice.kept)
    (whole : (z : ℕ) (p : Place) → z < mesh.vertices → IsTrue (sought z p)) where
  abbrev searched : ℕ → Tree
  searched = λ x. (trees x).tree

  abbrev limit : Option Candidate
  limit = limit_of choice

  -- what is kept is enough at each vertex
  enough : AreEnoughFor mesh lengths searched (everywhere (is_sought limit)) k.loops
  enough = record {
    loops = k.enough.loops;
    depend = λ z e z_in e_in on. k.enough.depend z e z_in e_in
        (and_from (sought z (place_at mesh lengths searched z e)) (is_sought limit (place_at mesh lengths searched z e))
        (whole z (place_at mesh lengths searched z e) z_in) on);
  }

  kept_free : IsIndependent mesh (walks_found k.loops)
  kept_free = (independent_by_classes mesh d surface split (walks_found k.loops)
      (closed_walks (found_are_walks mesh lengths k.loops surface positive k.enough.loops).closed)).1
      (subst (Independent numbers) (sym (tells_walks mesh d k.loops choice.kept k.told)) k.independent)
    where
      closed_walks : All (λ x. IsClosed mesh x.walk) k.loops → All (IsClosed mesh) (walks_found k.loops)
      closed_walks h = All-from_recursion (IsClosed mesh) (walks_found k.loops)
          (all_mapped (IsClosed mesh) (λ (x : Found). x.walk) k.loops (recursion_from_All (λ x. IsClosed mesh x.walk) k.loops h))

  pub capped_places : length choice.kept ≤ choice.width → IsLoopCount mesh choice.width → All (HasFound k.loops) basis
  capped_places few full = elim (cases_Bool (nat_le choice.width (length choice.kept))) [
    | inr off ↦ every (limit_none choice.width choice.kept off)
    | inl on ↦ of on (last_of choice.kept) refl
  ]
    where
      every : limit ≡ None → All (HasFound k.loops) basis
      every none j c l =
          (enough_have_places mesh lengths trees searched (is_sought limit) (everywhere (is_sought limit)) k.loops basis
          surface positive chosen shortest (limit_start limit) (λ z. limit_start limit)
          (everywhere_meets mesh lengths (is_sought limit)) enough is).some j c l
          (subst (λ o. is_sought o (place_of_loop (get_or basis j c)) ≡ true) (sym none) refl)

      within_last : (c : Candidate) → last_of choice.kept ≡ Some c → All (IsWithin (place_of c)) k.loops
      within_last c e i x l =
          let all = before_last choice.kept c e (sorted_from_order stands_before choice.kept k.order) in
          let at = tells_at mesh d k.loops choice.kept k.told i x l in
          let n = tells_long mesh d k.loops choice.kept k.told in
          (λ t. is_no_later ((at t).0, (at t).1.0) (place_of c))
          ∙ All-from_recursion (λ (s : Signed). is_no_later (place_of s.candidate) (place_of c) ≡ true) choice.kept all i
          (signed_of mesh d x) (omega (arith, l, n))

      of : nat_le choice.width (length choice.kept) ≡ true → (o : Option Candidate) → last_of choice.kept ≡ o →
          All (HasFound k.loops) basis
      of on None e = every (limit_last choice.width choice.kept on ∙ e)
      of on (Some c) e =
          let at : limit ≡ Some c = limit_last choice.width choice.kept on ∙ e in
          let many : choice.width ≤ length choice.kept = leb-true choice.width (length choice.kept) on in
          let n = tells_long mesh d k.loops choice.kept k.told in
          let count : IsLoopCount mesh (length k.loops) = omega (arith, n, many, few, full) in
          (full_count_has_places mesh lengths trees searched (place_of c) (everywhere (is_sought limit)) k.loops basis
          surface positive chosen shortest (λ z. limit_start limit)
          (subst (λ o. MeetsUpTo mesh lengths (is_sought o) (everywhere (is_sought limit))) at
          (everywhere_meets mesh lengths (is_sought limit))) enough kept_free count (within_last c e) is).some
