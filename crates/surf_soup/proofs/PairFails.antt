-- Where sides don't come in pairs, some edge hasn't two faces.
use Rattle.surf_surfaces.proofs.Common.{◌≡◌, ◌≢◌, ℕ, zero, suc, ◌+◌, ◌-◌, ◌*◌, ◌/◌, ◌%◌, ◌<◌, ◌≤◌, ◌⊎◌, Bool, true, false, not, eqb, List, [], ◌∷◌, ◌++◌, length, get_or, set, take, refl, sym, ap, ◌∙◌, subst, arith, inl, inr, cases_eq, cases_lt, cases_Bool, eq-eqb, eqb-true, true≢false, length_push, get_or_push, get_or-map, get_or_default, take_all, length-map, All-from_recursion, sum_by-cons, div-add-mod', mod_below, Mesh, IsMesh, pair_eq, pair_lt, side_count, sides_with, pair_at}
use Rattle.std.specs.List.{filter, sum_by}
use Rattle.surf_surfaces.proofs.meshes.PairLaws.{pair_eq-true, pair_eq-same, pair_lt-irreflexive, pair_lt-trans}
use Rattle.surf_soup.specs.Order.{lesser_ends, greater_ends, pair_in, running, IsLast, AreSideEntries}
use Rattle.surf_soup.specs.Pairs.{HasTwoFaces}
use Rattle.surf_soup.specs.Pairing.{pair_rows, ArePairedUpto}
use Rattle.surf_soup.proofs.Order.{Ordered, NotAbove, side_order-rises}
use Rattle.surf_soup.proofs.EdgeTables.{order_keeps, ends_below, pair_in_is}
use Rattle.surf_soup.proofs.EdgeRows.{running_yes, running_no}
use Rattle.surf_soup.proofs.ListSteps.{order_of, IsNextSide, listed_next, next_side, entries_total, row_end}
use Rattle.surf_soup.proofs.ApartLaws.{two_sides}
use Rattle.surf_soup.proofs.PairSteps.{rows_len_is, row_runs, paired_next}

filter_take : (q : ℕ → Bool) (n : ℕ) (xs : List ℕ) → length (filter q (take n xs)) ≤ length (filter q xs)
filter_take q zero xs = omega arith
filter_take q (suc n) [] = omega arith
filter_take q (suc n) (x ∷ xs) =
    let later = filter_take q n xs in
    elim (cases_Bool (q x)) [ inl e ↦ rw e (omega (arith, later)) | inr e ↦ rw e later ]

ordered_at : (R : ℕ → ℕ → Type 0) (xs : List ℕ) → Ordered R xs → (i j : ℕ) → i < j → j < length xs →
    R (get_or xs i 0) (get_or xs j 0)
ordered_at R [] h i j before lt = absurd (omega arith)
ordered_at R (x ∷ xs) h i zero before lt = absurd (omega arith)
ordered_at R (x ∷ xs) h zero (suc j) before lt = All-from_recursion (R x) xs h.0 j 0 (omega arith)
ordered_at R (x ∷ xs) h (suc i) (suc j) before lt = ordered_at R xs h.1 i j (omega arith) (omega arith)

-- a place among all things of rows
located : {X : Type 0} (rows : List (List X)) (j : ℕ) → j < sum_by length rows → (u : ℕ) × ((m : ℕ)
    × (u < length rows) × (m < length (get_or rows u [])) × (j ≡ sum_by length (take u rows) + m))
located {X} [] j lt = absurd (omega arith)
located {X} (row ∷ rest) j lt = elim (cases_lt j (length row)) [
  | inl in' ↦ (0, (j, omega arith, in', omega arith))
  | inr out ↦
      let all = sum_by-cons {X = List X} length row rest in
      let r = located rest (j - length row) (omega arith) in
      let c = sum_by-cons {X = List X} length row (take r.0 rest) in
      let at = r.1.3 in
      (suc r.0, (r.1.0, omega (arith, r.1.1), r.1.2, omega arith))
]

last_or : (edges : List (ℕ × ℕ)) (p : ℕ × ℕ) → IsLast edges p ⊎ (IsLast edges p → ⊥)
last_or edges p = elim (cases_eq (length edges) 0) [
  | inl none ↦ inr (λ h. let some = h.0 in omega arith)
  | inr some ↦
      let last = get_or edges (length edges - 1) (0, 0) in
      elim (cases_Bool (pair_eq last p)) [
        | inl e ↦ inl (omega arith, pair_eq-true last p e)
        | inr e ↦ inr (λ h. true≢false (sym (pair_eq-same last p h.1) ∙ e))
      ]
]

module _ (mesh : Mesh) (is_mesh : IsMesh mesh) (two : HasTwoFaces mesh) (k low high s : ℕ)
    (next : IsNextSide mesh k low high s) where
  side_pair_is : pair_in (lesser_ends mesh) (greater_ends mesh) s ≡ (low, high)
  side_pair_is = λ i. (sym next.low_is i, sym next.high_is i)

  here : (low, high) ≡ pair_in (lesser_ends mesh) (greater_ends mesh) (get_or (order_of mesh) k 0)
  here = sym side_pair_is ∙ ap (pair_in (lesser_ends mesh) (greater_ends mesh)) next.side_is

  -- two sides run the pair
  whole : length (running (pair_in (lesser_ends mesh) (greater_ends mesh)) (order_of mesh) (low, high)) ≡ 2
  whole =
      let lows = lesser_ends mesh in
      let highs = greater_ends mesh in
      let low_is : lows ≡ lesser_ends mesh = λ _. lows in
      let high_is : highs ≡ greater_ends mesh = λ _. highs in
      let lt = next.in_table in
      let below = ends_below mesh is_mesh lows highs low_is high_is s lt in
      let own : (low, high) ≡ pair_at mesh s =
      sym side_pair_is ∙ pair_in_is mesh is_mesh lows highs low_is high_is s lt in
      let a = next.low_is in
      let b = next.high_is in
      ap length (order_keeps mesh is_mesh lows highs low_is high_is (low, high) (omega (arith, below.0))
      (omega (arith, below.1)))
      ∙ ap (λ p. length (sides_with mesh p)) own ∙ two_sides mesh is_mesh two s lt

  module _ (edges : List (ℕ × ℕ)) (first mate edge_of : List ℕ)
      (so_far : ArePairedUpto mesh k edges first mate edge_of) where
    -- no third side runs the last edge
    pub crowded : IsLast edges (low, high) → ⊥
    crowded last =
        let pair = pair_in (lesser_ends mesh) (greater_ends mesh) in
        let order = order_of mesh in
        let p : ℕ × ℕ = (low, high) in
        let n = rows_len_is mesh k edges first mate edge_of so_far in
        let e = length edges - 1 in
        let some = last.0 in
        let row = row_runs mesh k edges first mate edge_of so_far e (omega arith) in
        let old : length (running pair (take k order) p) ≡ 2 =
        ap (λ q. length (running pair (take k order) q)) (sym last.1) ∙ ap length row in
        let more = ap length (running_yes pair order k next.in_order p here) in
        let longer = length_push (running pair (take k order) p) (get_or order k 0) in
        let within = filter_take (λ t. pair_eq p (pair t)) (k + 1) order in
        let all = whole in
        omega arith

    -- no new edge is run by one side alone
    pub alone : (IsLast edges (low, high) → ⊥) →
        ((j : ℕ) → k < j → j < length (order_of mesh) →
        pair_in (lesser_ends mesh) (greater_ends mesh) (get_or (order_of mesh) j 0) ≢ (low, high)) → ⊥
    alone new later =
        let pair = pair_in (lesser_ends mesh) (greater_ends mesh) in
        let order = order_of mesh in
        let p : ℕ × ℕ = (low, high) in
        let rows = pair_rows first mate in
        let n = length edges in
        let es = edges ++ p ∷ [] in
        let ones = rows ++ (s ∷ []) ∷ [] in
        let step = listed_next next so_far.listed es ones so_far.number_size (inr (new, refl, refl)) in
        let long = length_push edges p in
        let rows_n : length rows ≡ n =
        length-map first (λ t. t ∷ get_or mate t 0 ∷ []) ∙ rows_len_is mesh k edges first mate edge_of so_far in
        let one : running pair (take (k + 1) order) p ≡ s ∷ [] =
        ap (running pair (take (k + 1) order)) (sym (get_or_push edges p (0, 0) n refl))
        ∙ sym (get_or-map (running pair (take (k + 1) order)) es n (0, 0) [] (omega arith))
        ∙ ap (λ (r : List (List ℕ)). get_or r n []) (sym step.0.in_rows.rows_are)
        ∙ get_or_push rows (s ∷ []) [] n rows_n in
        let stay : (m : ℕ) → k + 1 + m ≤ length order →
        running pair (take (k + 1 + m) order) p ≡ running pair (take (k + 1) order) p =
        stays (k + 1) p (λ j from lt. later j (omega arith) lt) in
        let in' = next.in_order in
        let m = length order - (k + 1) in
        let end : k + 1 + m ≡ length order = omega arith in
        let all = whole in
        let size : length (running pair order p) ≡ 1 =
        ap (λ xs. length (running pair xs p)) (sym (take_all (length order) order (omega arith)))
        ∙ ap (λ j. length (running pair (take j order) p)) (sym end) ∙ ap length (stay m (omega arith)) ∙ ap length one in
        omega arith
      where
        stays : (from : ℕ) (p : ℕ × ℕ) → ((j : ℕ) → from ≤ j → j < length (order_of mesh) →
            pair_in (lesser_ends mesh) (greater_ends mesh) (get_or (order_of mesh) j 0) ≢ p) →
            (m : ℕ) → from + m ≤ length (order_of mesh) →
            running (pair_in (lesser_ends mesh) (greater_ends mesh)) (take (from + m) (order_of mesh)) p
            ≡ running (pair_in (lesser_ends mesh) (greater_ends mesh)) (take from (order_of mesh)) p
        stays from p other zero le =
            let z : from + 0 ≡ from = omega arith in
            ap (λ j. running (pair_in (lesser_ends mesh) (greater_ends mesh)) (take j (order_of mesh)) p) z
        stays from p other (suc m) le =
            let pair = pair_in (lesser_ends mesh) (greater_ends mesh) in
            let order = order_of mesh in
            let e : from + suc m ≡ from + m + 1 = omega arith in
            ap (λ j. running pair (take j order) p) e
            ∙ running_no pair order (from + m) (omega arith) p
            (λ same. other (from + m) (omega arith) (omega arith) (sym same))
            ∙ stays from p other m (omega arith)

    unpaired : ((j : ℕ) → k < j → j < length (order_of mesh) →
        pair_in (lesser_ends mesh) (greater_ends mesh) (get_or (order_of mesh) j 0) ≢ (low, high)) → ⊥
    unpaired later = elim (last_or edges (low, high)) [ inl last ↦ crowded last | inr new ↦ alone new later ]

    -- the side behind runs another pair
    pub differs : (other t : ℕ) → IsNextSide mesh (k + 1) low other t → other ≢ high → ⊥
    differs other t after apart =
        let lows = lesser_ends mesh in
        let highs = greater_ends mesh in
        let pair = pair_in lows highs in
        let order = order_of mesh in
        let p : ℕ × ℕ = (low, high) in
        let q = pair (get_or order (k + 1) 0) in
        let rises = side_order-rises lows highs mesh.vertices in
        let q_is : q ≡ (low, other) = ap pair (sym after.side_is) ∙ (λ i. (sym after.low_is i, sym after.high_is i)) in
        let lt : pair_lt p q ≡ true =
        elim (ordered_at (NotAbove lows highs) order rises k (k + 1) (omega arith) after.in_order) [
          | inl less ↦ ap (λ r. pair_lt r q) here ∙ less
          | inr same ↦ absurd (apart (ap (λ (r : ℕ × ℕ). r.1) (sym q_is ∙ sym same ∙ sym here)))
        ] in
        unpaired (λ j behind in' is. elim (cases_eq j (k + 1)) [
          | inl e ↦ pair_lt-irreflexive p q lt (sym is ∙ ap (λ i. pair (get_or order i 0)) e)
          | inr ne ↦ elim (ordered_at (NotAbove lows highs) order rises (k + 1) j (omega arith) in') [
            | inl less ↦ pair_lt-irreflexive p (pair (get_or order j 0))
                (pair_lt-trans p q (pair (get_or order j 0)) lt less) (sym is)
            | inr same ↦ pair_lt-irreflexive p q lt (sym is ∙ sym same)
          ]
        ])

    -- the side is the last of its row
    pub ends_row : (entries : List (List (ℕ × ℕ))) → AreSideEntries mesh entries → (v m : ℕ) → v < mesh.vertices →
        low ≡ v → k ≡ sum_by length (take v entries) + m → m + 1 ≡ length (get_or entries v []) → ⊥
    ends_row entries are v m lt is at end =
        let lows = lesser_ends mesh in
        let highs = greater_ends mesh in
        let pair = pair_in lows highs in
        let order = order_of mesh in
        unpaired (λ j behind in' same.
        let total = entries_total are in
        let r = located entries j (omega arith) in
        let u = r.0 in
        let i = r.1.0 in
        let place = r.1.3 in
        let size = are.size in
        let inside = r.1.1 in
        let in_row = r.1.2 in
        let row = get_or entries u [] in
        let e = get_or row i (0, 0) in
        let n = next_side are {row = row} (omega arith) refl in_row refl (get_or_default row i (0, 0) e in_row) in
        let own : u ≡ get_or lows (get_or order (sum_by length (take u entries) + i) 0) 0 =
        n.low_is ∙ ap (λ x. get_or lows x 0) n.side_is in
        let here_is : u ≡ v = own ∙ ap (λ x. get_or lows (get_or order x 0) 0) (sym place)
        ∙ ap (λ (x : ℕ × ℕ). x.0) same ∙ is in
        omega (arith, ap (λ x. sum_by length (take x entries)) here_is, ap (λ x. length (get_or entries x [])) here_is))

-- two entries of a row, one after the other
half_below : (n k : ℕ) → k < n / 2 → 2 * k + 1 < n
half_below n k lt = omega (arith, div-add-mod' n 2)

module _ {mesh : Mesh} (is_mesh : IsMesh mesh) {entries : List (List (ℕ × ℕ))} (are : AreSideEntries mesh entries)
    {v low : ℕ} {row : List (ℕ × ℕ)} (lt : v < mesh.vertices) (row_is : row ≡ get_or entries v []) (low_is : low ≡ v)
  where
    next_in_row : (m : ℕ) → m < length row → (d e : ℕ × ℕ) →
        IsNextSide mesh (sum_by length (take v entries) + m) low (get_or row m d).0 (get_or row m e).1
    next_in_row m in' d e =
        let x = get_or row m (0, 0) in
        let n = next_side are lt row_is in' low_is (get_or_default row m (0, 0) x in') in
        rw (get_or_default row m d (0, 0) in', get_or_default row m e (0, 0) in') n

    module _ {k : ℕ} {edges : List (ℕ × ℕ)} {first mate edge_of : List ℕ}
        (so_far : ArePairedUpto mesh (sum_by length (take v entries) + 2 * k) edges first mate edge_of) where
      module _ (here : k < length row / 2) where
        one : (d e : ℕ × ℕ) →
            IsNextSide mesh (sum_by length (take v entries) + 2 * k) low (get_or row (2 * k) d).0 (get_or row (2 * k) e).1
        one d e = next_in_row (2 * k) (let h = half_below (length row) k here in omega arith) d e

        two_at : (f g : ℕ × ℕ) →
            IsNextSide mesh (sum_by length (take v entries) + 2 * k + 1) low (get_or row (2 * k + 1) f).0
            (get_or row (2 * k + 1) g).1
        two_at f g =
            let P : ℕ → Type 0 =
            λ n. IsNextSide mesh n low (get_or row (2 * k + 1) f).0 (get_or row (2 * k + 1) g).1 in
            let sum : sum_by length (take v entries) + (2 * k + 1) ≡ sum_by length (take v entries) + 2 * k + 1 =
            omega arith in
            subst P sum (next_in_row (2 * k + 1) (half_below (length row) k here) f g)

        pub first_inside : (e : ℕ × ℕ) → (get_or row (2 * k) e).1 < side_count mesh
        first_inside e = (one e e).in_table

        pub high_inside : (d : ℕ × ℕ) → (get_or row (2 * k) d).0 < mesh.vertices
        high_inside d =
            let lows = lesser_ends mesh in
            let highs = greater_ends mesh in
            let low_is : lows ≡ lesser_ends mesh = λ _. lows in
            let high_is : highs ≡ greater_ends mesh = λ _. highs in
            let n = one d d in
            let below = ends_below mesh is_mesh lows highs low_is high_is (get_or row (2 * k) d).1 n.in_table in
            let at = n.high_is in
            omega (arith, below.1)

        pub second_inside : (g : ℕ × ℕ) → (get_or row (2 * k + 1) g).1 < side_count mesh
        second_inside g = (two_at g g).in_table

        pub edges_below : length edges < side_count mesh
        edges_below =
            let n = one (0, 0) (0, 0) in
            let a = so_far.listed.numbered.few in
            let b = n.in_order in
            let c = n.few in
            omega arith

        pub pairs_next : (d e f g : ℕ × ℕ) → (get_or row (2 * k + 1) f).0 ≡ (get_or row (2 * k) d).0 →
            (IsLast edges (low, (get_or row (2 * k) d).0) → ⊥) →
            ArePairedUpto mesh (sum_by length (take v entries) + 2 * (k + 1))
            (edges ++ (low, (get_or row (2 * k) d).0) ∷ []) (first ++ (get_or row (2 * k) e).1 ∷ [])
            (set (set mate (get_or row (2 * k) e).1 (get_or row (2 * k + 1) g).1) (get_or row (2 * k + 1) g).1
            (get_or row (2 * k) e).1)
            (set (set edge_of (get_or row (2 * k) e).1 (length edges)) (get_or row (2 * k + 1) g).1 (length edges))
        pairs_next d e f g same new =
            let high = (get_or row (2 * k) d).0 in
            let s = (get_or row (2 * k) e).1 in
            let t = (get_or row (2 * k + 1) g).1 in
            let base = sum_by length (take v entries) in
            let H : ℕ → Type 0 = λ h. IsNextSide mesh (base + 2 * k + 1) low h t in
            let sum : base + 2 * k + 2 ≡ base + 2 * (k + 1) = omega arith in
            let P : ℕ → Type 0 =
            λ n. ArePairedUpto mesh n (edges ++ (low, high) ∷ []) (first ++ s ∷ []) (set (set mate s t) t s)
            (set (set edge_of s (length edges)) t (length edges)) in
            subst P sum (paired_next mesh (base + 2 * k) edges first mate edge_of so_far low high s t (one d e)
            (subst H same (two_at f g)) new)

        pub pair_differs : (d f : ℕ × ℕ) → (get_or row (2 * k + 1) f).0 ≢ (get_or row (2 * k) d).0 →
            HasTwoFaces mesh → ⊥
        pair_differs d f ne two =
            differs mesh is_mesh two (sum_by length (take v entries) + 2 * k) low (get_or row (2 * k) d).0
            (get_or row (2 * k) d).1 (one d d) edges first mate edge_of so_far (get_or row (2 * k + 1) f).0
            (get_or row (2 * k + 1) f).1 (two_at f f) ne

        pub pair_crowded : (d : ℕ × ℕ) → IsLast edges (low, (get_or row (2 * k) d).0) → HasTwoFaces mesh → ⊥
        pair_crowded d last two =
            crowded mesh is_mesh two (sum_by length (take v entries) + 2 * k) low (get_or row (2 * k) d).0
            (get_or row (2 * k) d).1 (one d d) edges first mate edge_of so_far last

      pub row_paired : k ≡ length row / 2 → length row % 2 ≡ 0 →
          ArePairedUpto mesh (sum_by length (take (v + 1) entries)) edges first mate edge_of
      row_paired end even =
          let P : ℕ → Type 0 = λ n. ArePairedUpto mesh n edges first mate edge_of in
          let all : 2 * k ≡ length (get_or entries v []) =
          omega (arith, div-add-mod' (length row) 2, ap length row_is) in
          subst P (row_end are lt all) so_far

      pub row_odd : k ≡ length row / 2 → length row % 2 ≢ 0 → HasTwoFaces mesh → ⊥
      row_odd end odd two =
          let whole = div-add-mod' (length row) 2 in
          let part = mod_below (length row) 2 (omega arith) in
          let m = 2 * k in
          let size : m + 1 ≡ length row = omega arith in
          let n = next_in_row m (omega arith) (0, 0) (0, 0) in
          ends_row mesh is_mesh two (sum_by length (take v entries) + m) low (get_or row m (0, 0)).0
          (get_or row m (0, 0)).1 n edges first mate edge_of so_far entries are v m lt low_is refl
          (size ∙ ap length row_is)

-- whether two ends differ, as it is told
pub differ_told : (a b : ℕ) → true ≡ not (eqb a b) → a ≢ b
differ_told a b h same = true≢false (h ∙ ap not (eq-eqb a b same))

pub same_told : (a b : ℕ) → false ≡ not (eqb a b) → a ≡ b
same_told a b h = elim (cases_Bool (eqb a b))
    [ inl e ↦ eqb-true a b e | inr e ↦ absurd (true≢false (sym (h ∙ ap not e))) ]
