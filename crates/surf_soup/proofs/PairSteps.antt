-- Two sides more are paired.
use Rattle.surf_surfaces.proofs.Common.{◌≡◌, ◌≢◌, ℕ, ◌+◌, ◌-◌, ◌<◌, true, List, [], ◌∷◌, ◌++◌, length, get_or, map, set, take, refl, sym, ap, ◌∙◌, subst, arith, inl, inr, sum_by, cases_eq, length_push, get_or_push, get_or_append_left, get_or_default, same_lists, All-from_recursion, Mesh, IsMesh, pair_eq, edges, edge_count, side_count, owners}
use Rattle.std.proofs.lemmas.List.{length-map, get_or-map, length-set, get_or-set_same, get_or-set_other}
use Rattle.surf_surfaces.proofs.meshes.PairLaws.{pair_eq-true, pair_lt-irreflexive}
use Rattle.surf_rows.specs.Rows.{with_last_longer}
use Rattle.surf_soup.specs.Order.{lesser_ends, greater_ends, pair_in, running, IsLast, AreListedUpto, AreSideEntries}
use Rattle.surf_soup.specs.Pairs.{HasTwoFaces}
use Rattle.surf_soup.specs.Pairing.{least_side, pair_rows, ArePairedUpto, AreAllPairs}
use Rattle.surf_soup.proofs.Order.{passing}
use Rattle.surf_soup.proofs.ListSteps.{order_of, IsNextSide, listed_none, listed_next, listed_all}
use Rattle.surf_soup.proofs.Paired.{rows_len, row_is, row_degree}
use Rattle.surf_soup.proofs.Mates.{mates_from}

-- two entries that are written one after the other, the second where the first may be
first_of_two : (mate : List ℕ) (s t : ℕ) → s < length mate → t < length mate →
    get_or (set (set mate s t) t s) s 0 ≡ t
first_of_two mate s t ls lt = elim (cases_eq s t) [
  | inl e ↦ rw e (get_or-set_same (set mate t t) t t 0 (omega (arith, length-set mate t t)))
  | inr ne ↦ get_or-set_other (set mate s t) t s s 0 ne ∙ get_or-set_same mate s t 0 ls
]

second_of_two : (mate : List ℕ) (s t : ℕ) → t < length mate → get_or (set (set mate s t) t s) t 0 ≡ s
second_of_two mate s t lt = get_or-set_same (set mate s t) t s 0 (omega (arith, length-set mate s t))

neither_of_two : (mate : List ℕ) (s t x : ℕ) → x ≢ s → x ≢ t → get_or (set (set mate s t) t s) x 0 ≡ get_or mate x 0
neither_of_two mate s t x ns nt = get_or-set_other (set mate s t) t x s 0 nt ∙ get_or-set_other mate s x t 0 ns

pub paired_none : (mesh : Mesh) (edges : List (ℕ × ℕ)) (first mate edge_of : List ℕ) → edges ≡ [] → first ≡ [] →
    length mate ≡ side_count mesh → length edge_of ≡ side_count mesh → ArePairedUpto mesh 0 edges first mate edge_of
paired_none mesh edges first mate edge_of none no_first a b = record {
  mate_size = a;
  number_size = b;
  listed = listed_none mesh edges (pair_rows first mate) edge_of none (ap (λ xs. pair_rows xs mate) no_first);
  back = λ e lt. let empty = ap length no_first in absurd (omega arith);
}

module _ (mesh : Mesh) (k : ℕ) (edges : List (ℕ × ℕ)) (first mate edge_of : List ℕ)
    (so_far : ArePairedUpto mesh k edges first mate edge_of) where
  pub rows_len_is : length first ≡ length edges
  rows_len_is =
      sym (length-map first (λ s. s ∷ get_or mate s 0 ∷ []))
      ∙ ap length so_far.listed.in_rows.rows_are
      ∙ length-map edges (running (pair_in (lesser_ends mesh) (greater_ends mesh)) (take k (order_of mesh)))

  pair_row_at : (e : ℕ) (d : List ℕ) → e < length first →
      get_or (pair_rows first mate) e d ≡ get_or first e 0 ∷ get_or mate (get_or first e 0) 0 ∷ []
  pair_row_at e d lt = get_or-map (λ s. s ∷ get_or mate s 0 ∷ []) first e 0 d lt

  -- the sides of a row are those so far that run its edge
  pub row_runs : (e : ℕ) → e < length first →
      running (pair_in (lesser_ends mesh) (greater_ends mesh)) (take k (order_of mesh)) (get_or edges e (0, 0))
      ≡ get_or first e 0 ∷ get_or mate (get_or first e 0) 0 ∷ []
  row_runs e lt =
      let pair = pair_in (lesser_ends mesh) (greater_ends mesh) in
      let n = rows_len_is in
      sym (ap (λ (r : List (List ℕ)). get_or r e []) so_far.listed.in_rows.rows_are
      ∙ get_or-map (running pair (take k (order_of mesh))) edges e (0, 0) [] (omega arith)) ∙ pair_row_at e [] lt

  runs : (e i : ℕ) → e < length first → i < 2 →
      pair_in (lesser_ends mesh) (greater_ends mesh)
      (get_or (get_or first e 0 ∷ get_or mate (get_or first e 0) 0 ∷ []) i 0) ≡ get_or edges e (0, 0)
  runs e i lt few =
      let pair = pair_in (lesser_ends mesh) (greater_ends mesh) in
      let p = get_or edges e (0, 0) in
      let row = get_or first e 0 ∷ get_or mate (get_or first e 0) 0 ∷ [] in
      let test = λ (t : ℕ). pair_eq p (pair t) in
      let all = running pair (take k (order_of mesh)) p in
      let is : all ≡ row = row_runs e lt in
      let size : length all ≡ 2 = ap length is in
      sym (pair_eq-true p (pair (get_or row i 0))
      (ap (λ (r : List ℕ). test (get_or r i 0)) (sym is)
      ∙ All-from_recursion (λ t. test t ≡ true) all (passing test (take k (order_of mesh))) i 0 (omega arith)))

  module _ (low high s t : ℕ) (one : IsNextSide mesh k low high s) (two : IsNextSide mesh (k + 1) low high t)
      (new : IsLast edges (low, high) → ⊥) where
    -- the sides of earlier rows aren't these
    other_than : (e i u : ℕ) → e < length first → i < 2 →
        pair_in (lesser_ends mesh) (greater_ends mesh) u ≡ (low, high) →
        get_or (get_or first e 0 ∷ get_or mate (get_or first e 0) 0 ∷ []) i 0 ≢ u
    other_than e i u lt few is same =
        let pair = pair_in (lesser_ends mesh) (greater_ends mesh) in
        let rows = pair_rows first mate in
        let n = length edges in
        let size = rows_len_is in
        let below : e < n = omega arith in
        let es = edges ++ (low, high) ∷ [] in
        let long = length_push edges (low, high) in
        let step = listed_next one so_far.listed es (rows ++ (s ∷ []) ∷ []) so_far.number_size
        (inr (new, refl, refl)) in
        let before = step.0.numbered.rises e n (0, 0) below (omega arith) in
        let last : get_or es n (0, 0) ≡ (low, high) = get_or_push edges (low, high) (0, 0) n refl in
        let at : get_or es e (0, 0) ≡ get_or edges e (0, 0) =
        get_or_append_left edges ((low, high) ∷ []) (0, 0) e below in
        pair_lt-irreflexive (get_or es e (0, 0)) (get_or es n (0, 0)) before
        (at ∙ sym (runs e i lt few) ∙ ap pair same ∙ is ∙ sym last)

    first_pair : pair_in (lesser_ends mesh) (greater_ends mesh) s ≡ (low, high)
    first_pair = λ i. (sym one.low_is i, sym one.high_is i)

    second_pair : pair_in (lesser_ends mesh) (greater_ends mesh) t ≡ (low, high)
    second_pair = λ i. (sym two.low_is i, sym two.high_is i)

    -- a side of an earlier row keeps its mate
    kept : (e i : ℕ) → e < length first → i < 2 →
        get_or (set (set mate s t) t s) (get_or (get_or first e 0 ∷ get_or mate (get_or first e 0) 0 ∷ []) i 0) 0
        ≡ get_or mate (get_or (get_or first e 0 ∷ get_or mate (get_or first e 0) 0 ∷ []) i 0) 0
    kept e i lt few =
        neither_of_two mate s t (get_or (get_or first e 0 ∷ get_or mate (get_or first e 0) 0 ∷ []) i 0)
        (other_than e i s lt few first_pair) (other_than e i t lt few second_pair)

    rows_after : with_last_longer (pair_rows first mate ++ (s ∷ []) ∷ []) t
        ≡ pair_rows (first ++ s ∷ []) (set (set mate s t) t s)
    rows_after =
        let mate' = set (set mate s t) t s in
        let old = λ (x : ℕ). x ∷ get_or mate x 0 ∷ [] in
        let row = λ (x : ℕ). x ∷ get_or mate' x 0 ∷ [] in
        let rows = pair_rows first mate in
        let ones = rows ++ (s ∷ []) ∷ [] in
        let more = first ++ s ∷ [] in
        let n = length first in
        let rows_n : length rows ≡ n = length-map first old in
        let ones_n = length_push rows (s ∷ []) in
        let more_n = length_push first s in
        let m = length ones - 1 in
        let m_is : m ≡ n = omega arith in
        let end : get_or ones m [] ≡ s ∷ [] = ap (λ j. get_or ones j []) m_is ∙ get_or_push rows (s ∷ []) [] n rows_n in
        let longer = get_or ones m [] ++ t ∷ [] in
        let size = length-set ones m longer in
        let made = length-map more row in
        same_lists (set ones m longer) (map row more) (omega arith) (λ e d below.
        let in' : e < length more = omega arith in
        elim (cases_eq e m) [
          | inl is ↦
              let at : get_or more e 0 ≡ s = ap (λ j. get_or more j 0) (is ∙ m_is) ∙ get_or_push first s 0 n refl in
              ap (λ j. get_or (set ones m longer) j d) is ∙ get_or-set_same ones m longer d (omega arith)
              ∙ ap (λ r. r ++ t ∷ []) end
              ∙ ap (λ u. s ∷ u ∷ []) (sym (first_of_two mate s t (let a = one.in_table in let z = so_far.mate_size in
              omega arith) (let a = two.in_table in let z = so_far.mate_size in omega arith)))
              ∙ ap row (sym at) ∙ sym (get_or-map row more e 0 d in')
          | inr ne ↦
              let lt : e < n = omega arith in
              let at : get_or more e 0 ≡ get_or first e 0 = get_or_append_left first (s ∷ []) 0 e lt in
              get_or-set_other ones m e longer d ne ∙ get_or_append_left rows ((s ∷ []) ∷ []) d e (omega arith)
              ∙ get_or-map old first e 0 d lt
              ∙ ap (λ u. get_or first e 0 ∷ u ∷ []) (sym (kept e 0 lt (omega arith)))
              ∙ ap row (sym at) ∙ sym (get_or-map row more e 0 d in')
        ])

    pub paired_next : ArePairedUpto mesh (k + 2) (edges ++ (low, high) ∷ []) (first ++ s ∷ [])
        (set (set mate s t) t s) (set (set edge_of s (length edges)) t (length edges))
    paired_next =
        let mate' = set (set mate s t) t s in
        let rows = pair_rows first mate in
        let ones = rows ++ (s ∷ []) ∷ [] in
        let more = first ++ s ∷ [] in
        let n = length edges in
        let p : ℕ × ℕ = (low, high) in
        let es = edges ++ p ∷ [] in
        let long : length es ≡ n + 1 = length_push edges p in
        let end : length es - 1 ≡ n = omega arith in
        let step = listed_next one so_far.listed es ones so_far.number_size (inr (new, refl, refl)) in
        let numbered = set edge_of s (length es - 1) in
        let last : IsLast es p =
        (omega arith, ap (λ j. get_or es j (0, 0)) end ∙ get_or_push edges p (0, 0) n refl) in
        let again = listed_next two step.0 es (with_last_longer ones t)
        (length-set edge_of s (length es - 1) ∙ so_far.number_size) (inl (last, refl, refl)) in
        let two_more : k + 1 + 1 ≡ k + 2 = omega arith in
        let L : ℕ → Type 0 =
        λ j. AreListedUpto mesh j es (with_last_longer ones t) (set (set edge_of s (length es - 1)) t (length es - 1)) in
        let E : ℕ → Type 0 =
        λ j. AreListedUpto mesh (k + 2) es (with_last_longer ones t) (set (set edge_of s j) t j) in
        let R : List (List ℕ) → Type 0 = λ r. AreListedUpto mesh (k + 2) es r (set (set edge_of s n) t n) in
        let ls : s < length mate = let a = one.in_table in let z = so_far.mate_size in omega arith in
        let lt : t < length mate = let a = two.in_table in let z = so_far.mate_size in omega arith in
        record {
          mate_size = length-set (set mate s t) t s ∙ length-set mate s t ∙ so_far.mate_size;
          number_size = length-set (set edge_of s n) t n ∙ length-set edge_of s n ∙ so_far.number_size;
          listed = subst R rows_after (subst E end (subst L two_more again.0));
          back = λ e below.
              let more_n = length_push first s in
              elim (cases_eq e (length first)) [
                | inl is ↦
                    let at : get_or more e 0 ≡ s =
                    ap (λ j. get_or more j 0) is ∙ get_or_push first s 0 (length first) refl in
                    ap (λ x. get_or mate' (get_or mate' x 0) 0) at
                    ∙ ap (λ x. get_or mate' x 0) (first_of_two mate s t ls lt) ∙ second_of_two mate s t lt ∙ sym at
                | inr ne ↦
                    let in' : e < length first = omega arith in
                    let at : get_or more e 0 ≡ get_or first e 0 = get_or_append_left first (s ∷ []) 0 e in' in
                    ap (λ x. get_or mate' (get_or mate' x 0) 0) at
                    ∙ ap (λ x. get_or mate' x 0) (kept e 0 in' (omega arith))
                    ∙ kept e 1 in' (omega arith) ∙ so_far.back e in' ∙ sym at
              ];
        }

-- all sides are paired
pub paired_all : (mesh : Mesh) → IsMesh mesh → (entries : List (List (ℕ × ℕ))) → AreSideEntries mesh entries →
    (edge_list : List (ℕ × ℕ)) (first mate edge_of : List ℕ) →
    ArePairedUpto mesh (sum_by length entries) edge_list first mate edge_of →
    AreAllPairs mesh edge_list first mate edge_of
paired_all mesh is_mesh entries are edge_list first mate edge_of paired =
    let rows = pair_rows first mate in
    let row = λ (s : ℕ). s ∷ get_or mate s 0 ∷ [] in
    let os = owners 0 mesh.faces in
    let listing = listed_all mesh is_mesh entries are edge_list rows edge_of paired.number_size paired.listed in
    let n : length first ≡ length rows = sym (length-map first row) in
    let count : length rows ≡ edge_count mesh = rows_len mesh is_mesh rows os listing.rows_are refl in
    let at : (e : ℕ) → e < length first → get_or rows e [] ≡ row (get_or first e 0) =
    λ e lt. get_or-map row first e 0 [] lt in
    let two : HasTwoFaces mesh =
    λ e lt. row_degree mesh is_mesh rows os listing.rows_are refl e lt ∙ ap length (at e (omega arith)) in
    record {
      edges_are = listing.edges_are;
      first_are = same_lists first (map (least_side mesh) (edges mesh)) (n ∙ count
          ∙ sym (length-map (edges mesh) (least_side mesh))) (λ e d lt.
          let in' : e < edge_count mesh = omega arith in
          get_or_default first e d 0 lt
          ∙ sym (ap (λ (r : List ℕ). get_or r 0 0) (at e lt))
          ∙ ap (λ (r : List ℕ). get_or r 0 0) (row_is mesh is_mesh rows os listing.rows_are refl e in')
          ∙ sym (get_or-map (least_side mesh) (edges mesh) e (0, 0) d in'));
      mates = mates_from mesh is_mesh rows os edge_of listing.rows_are refl listing.numbers two mate paired.mate_size
          (λ e lt. let here = at e (omega arith) in ap (λ (r : List ℕ). get_or mate (get_or r 0 0) 0) here
          ∙ sym (ap (λ (r : List ℕ). get_or r 1 0) here))
          (λ e lt. let here = at e (omega arith) in ap (λ (r : List ℕ). get_or mate (get_or r 1 0) 0) here
          ∙ paired.back e (omega arith) ∙ sym (ap (λ (r : List ℕ). get_or r 0 0) here));
      numbers = listing.numbers;
      two = two;
    }
