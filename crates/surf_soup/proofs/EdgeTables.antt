-- The listed pairs are the edges, and the groups by edge are the sides of the edges.
use Rattle.surf_surfaces.proofs.Common.{◌≡◌, ℕ, zero, suc, ◌+◌, ◌<◌, ◌≤◌, Bool, true, false, eqb, List, [], ◌∷◌, length, get_or, map, take, refl, sym, ap, ◌∙◌, arith, true≢false, eqb-true, length-map, get_or-map, same_lists, take_all, All-from_recursion, sum_by-cons, Mesh, IsMesh, sides, pair_of, pair_eq, among, edges, edge_count, ends, length-flat_map, side_count, side_pairs, pair_at, sides_with}
use Rattle.std.specs.List.{AllByRecursion, filter, flat_map, range_with_len, sum_by}
use Rattle.surf_surfaces.proofs.meshes.PairLaws.{pair_eq-true, pair_eq-self, pair_eq-same, pair_same}
use Rattle.surf_surfaces.proofs.meshes.EdgeLaws.{among-sorted, list_any_at, list_any_from, rising_unique, rising_from_AllPairs}
use Rattle.surf_surfaces.proofs.meshes.EdgeLaws.{edges-rise}
use Rattle.surf_surfaces.proofs.meshes.SurfaceLaws.{edge_below}
use Rattle.surf_surfaces.proofs.meshes.CountLaws.{length-sides}
use Rattle.surf_soup.specs.Order.{by_key, side_order, pair_in, running, AreRowsOf, IsNumbered}
use Rattle.surf_soup.proofs.Order.{by_key-keeps, side_order-below, side_order-has}

same_Bool : (a b : Bool) → (a ≡ true → b ≡ true) → (b ≡ true → a ≡ true) → a ≡ b
same_Bool true b f g = sym (f refl)
same_Bool false true f g = absurd (true≢false (sym (g refl)))
same_Bool false false f g = refl

pub sizes : (faces : List (List ℕ)) → sum_by (λ f. length (sides f)) faces ≡ sum_by length faces
sizes [] = refl
sizes (face ∷ rest) =
    omega (
      arith,
      sum_by-cons {X = List ℕ} (λ f. length (sides f)) face rest,
      sum_by-cons {X = List ℕ} length face rest,
      length-sides face,
      sizes rest,
    )

pub length-side_pairs : (mesh : Mesh) → length (side_pairs mesh.faces) ≡ side_count mesh
length-side_pairs mesh = length-map (flat_map sides mesh.faces) pair_of ∙ length-flat_map sides mesh.faces
    ∙ sizes mesh.faces

-- the pair of each side is an edge
pub pair_at-edge : (mesh : Mesh) (s : ℕ) → s < side_count mesh → among (pair_at mesh s) (edges mesh) ≡ true
pair_at-edge mesh s lt =
    let n = length-side_pairs mesh in
    among-sorted (pair_at mesh s) (side_pairs mesh.faces)
    ∙ list_any_from (pair_eq (pair_at mesh s)) (side_pairs mesh.faces) (
      0,
      0,
    ) s (omega arith) (pair_eq-self (pair_at mesh s))

-- a table of ends
pub end_at : (end : ℕ × ℕ → ℕ) (mesh : Mesh) (table : List ℕ) → table ≡ map end (side_pairs mesh.faces) → (s d : ℕ) →
    s < side_count mesh → get_or table s d ≡ end (pair_at mesh s)
end_at end mesh table is s d lt = let n = length-side_pairs mesh in ap (λ xs. get_or xs s d) is
    ∙ get_or-map end (side_pairs mesh.faces) s (0, 0) d (omega arith)

pub ends_len : (end : ℕ × ℕ → ℕ) (mesh : Mesh) (table : List ℕ) → table ≡ map end (side_pairs mesh.faces) →
    length table ≡ side_count mesh
ends_len end mesh table is = ap length is ∙ length-map (side_pairs mesh.faces) end ∙ length-side_pairs mesh

filter_same : (p q : ℕ → Bool) (xs : List ℕ) → AllByRecursion (λ x. p x ≡ q x) xs → filter p xs ≡ filter q xs
filter_same p q [] h = refl
filter_same p q (x ∷ xs) h = rw (h.0, filter_same p q xs h.1) refl

all_range : (P : ℕ → Type 0) (a n : ℕ) → ((s : ℕ) → a ≤ s → s < a + n → P s) → AllByRecursion P (range_with_len a n)
all_range P a zero f = tt
all_range P a (suc n) f =
    (f a (omega arith) (omega arith), all_range P (a + 1) n (λ s l h. f s (omega arith) (omega arith)))

module _ (mesh : Mesh) (is_mesh : IsMesh mesh) (lows highs : List ℕ)
    (low_is : lows ≡ map (λ p. p.0) (side_pairs mesh.faces)) (high_is : highs ≡ map (λ p. p.1) (side_pairs mesh.faces))
  where
    pub ends_below : (s : ℕ) → s < side_count mesh → (get_or lows s 0 < mesh.vertices)
        × (get_or highs s 0 < mesh.vertices)
    ends_below s lt =
        let b = edge_below mesh is_mesh (pair_at mesh s) (pair_at-edge mesh s lt) in
        let l = end_at (λ p. p.0) mesh lows low_is s 0 lt in
        let h = end_at (λ p. p.1) mesh highs high_is s 0 lt in
        (omega (arith, b.0, b.1), omega (arith, b.1))

    pub pair_in_is : (s : ℕ) → s < side_count mesh → pair_in lows highs s ≡ pair_at mesh s
    pair_in_is s lt = pair_same (pair_in lows highs s) (pair_at mesh s) (end_at (λ p. p.0) mesh lows low_is s 0 lt)
        (end_at (λ p. p.1) mesh highs high_is s 0 lt)

    module _ (edge_list : List (ℕ × ℕ)) (edge_of : List ℕ)
        (numbered : IsNumbered (pair_in lows highs) (side_order lows highs mesh.vertices)
        (length (side_order lows highs mesh.vertices)) edge_list edge_of) where
      listed : (s : ℕ) → s < side_count mesh → (j : ℕ) × (j < length (side_order lows highs mesh.vertices))
          × (get_or (side_order lows highs mesh.vertices) j 0 ≡ s)
      listed s lt =
          let n = ends_len (λ p. p.0) mesh lows low_is in
          let b = ends_below s lt in
          let r = list_any_at (eqb s) (side_order lows highs mesh.vertices) 0
          (side_order-has lows highs mesh.vertices s (omega arith) b.0 b.1) in
          (r.0, r.1, sym (eqb-true s (get_or (side_order lows highs mesh.vertices) r.0 0) r.2))

      pub number_below : (s : ℕ) → s < side_count mesh → get_or edge_of s 0 < length edge_list
      number_below s lt = let r = listed s lt in let b = numbered.below r.0 r.1 in rw r.2 at b

      pub number_same : (s : ℕ) → s < side_count mesh → get_or edge_list (get_or edge_of s 0) (0, 0) ≡ pair_at mesh s
      number_same s lt = let r = listed s lt in let b = numbered.same r.0 r.1 in (rw r.2 at b) ∙ pair_in_is s lt

      pub edge_list_is : edge_list ≡ edges mesh
      edge_list_is = rising_unique edge_list (edges mesh) (rising_from_AllPairs edge_list numbered.rises)
          (edges-rise mesh) (λ p. same_Bool (among p edge_list) (among p (edges mesh)) (to p) (from p))
        where
          order : List ℕ
          order = side_order lows highs mesh.vertices

          to : (p : ℕ × ℕ) → among p edge_list ≡ true → among p (edges mesh) ≡ true
          to p has =
              let r = list_any_at (pair_eq p) edge_list (0, 0) has in
              let u = numbered.used r.0 r.1 in
              let s = get_or (side_order lows highs mesh.vertices) u.0 0 in
              let n = ends_len (λ q. q.0) mesh lows low_is in
              let below : s < length lows =
              All-from_recursion (λ t. t < length lows) (side_order lows highs mesh.vertices)
              (side_order-below lows highs mesh.vertices) u.0 0 u.1 in
              let is : p ≡ pair_at mesh s = pair_eq-true p (get_or edge_list r.0 (0, 0)) r.2 ∙ u.2
              ∙ pair_in_is s (omega arith) in
              rw is (pair_at-edge mesh s (omega arith))

          from : (p : ℕ × ℕ) → among p (edges mesh) ≡ true → among p edge_list ≡ true
          from p has =
              let sorted = among-sorted p (side_pairs mesh.faces) in
              let r = list_any_at (pair_eq p) (side_pairs mesh.faces) (0, 0) (sym sorted ∙ has) in
              let n = length-side_pairs mesh in
              let lt : r.0 < side_count mesh = omega (arith, r.1) in
              list_any_from (pair_eq p) edge_list (
                0,
                0,
              ) (get_or edge_of r.0 0) (number_below r.0 lt)
              (pair_eq-same p (get_or edge_list (get_or edge_of r.0 0) (0, 0)) (pair_eq-true p (pair_at mesh r.0) r.2
              ∙ sym (number_same r.0 lt)))

-- the sides of each edge in an order are those among all sides
module _ (mesh : Mesh) (is_mesh : IsMesh mesh) (lows highs : List ℕ)
    (low_is : lows ≡ map (λ p. p.0) (side_pairs mesh.faces)) (high_is : highs ≡ map (λ p. p.1) (side_pairs mesh.faces))
  where
    pub order_keeps : (p : ℕ × ℕ) → p.0 < mesh.vertices → p.1 < mesh.vertices →
        running (pair_in lows highs) (side_order lows highs mesh.vertices) p ≡ sides_with mesh p
    order_keeps p low high =
        let all = range_with_len 0 (length lows) in
        let test = λ (s : ℕ). pair_eq p (pair_in lows highs s) in
        let is : (s : ℕ) → test s ≡ true → p ≡ pair_in lows highs s = λ s e. pair_eq-true p (pair_in lows highs s) e in
        by_key-keeps lows (by_key highs mesh.vertices all) test p.0 (λ s e. sym (ap (λ (q : ℕ × ℕ). q.0) (is s e)))
        mesh.vertices low
        ∙ by_key-keeps highs all test p.1 (λ s e. sym (ap (λ (q : ℕ × ℕ). q.1) (is s e))) mesh.vertices high
        ∙ ap (λ n. filter test (range_with_len 0 n)) (ends_len (λ p. p.0) mesh lows low_is)
        ∙ filter_same test (λ s. pair_eq p (pair_at mesh s)) (range_with_len 0 (side_count mesh))
        (all_range (λ s. test s ≡ pair_eq p (pair_at mesh s)) 0 (side_count mesh)
        (λ s from upto. ap (pair_eq p) (pair_in_is mesh is_mesh lows highs low_is high_is s (omega arith))))

    pub rows_are_sides : (edge_list : List (ℕ × ℕ)) (rows : List (List ℕ)) → edge_list ≡ edges mesh →
        AreRowsOf (pair_in lows highs) (side_order lows highs mesh.vertices)
        (length (side_order lows highs mesh.vertices)) edge_list rows →
        rows ≡ map (sides_with mesh) (edges mesh)
    rows_are_sides edge_list rows is are =
        let order = side_order lows highs mesh.vertices in
        let in_rows = running (pair_in lows highs) (take (length order) order) in
        are.rows_are ∙ ap (map in_rows) is
        ∙ same_lists (map in_rows (edges mesh)) (map (sides_with mesh) (edges mesh)) (length-map (edges mesh) in_rows
        ∙ sym (length-map (edges mesh) (sides_with mesh))) (λ e d lt.
        let size = length-map (edges mesh) in_rows in
        let in' : e < edge_count mesh = omega arith in
        let p = ends mesh e in
        let below = edge_below mesh is_mesh p (among_at e in') in
        get_or-map in_rows (edges mesh) e (0, 0) d in'
        ∙ ap (λ o. running (pair_in lows highs) o p) (take_all (length order) order (omega arith))
        ∙ order_keeps p (omega (arith, below.0, below.1)) below.1
        ∙ sym (get_or-map (sides_with mesh) (edges mesh) e (0, 0) d in'))
      where
        among_at : (e : ℕ) → e < edge_count mesh → among (ends mesh e) (edges mesh) ≡ true
        among_at e in' = list_any_from (pair_eq (ends mesh e)) (edges mesh) (0, 0) e in' (pair_eq-self (ends mesh e))
