-- The odd evidence of chains that are no boundaries.
use Rattle.surf_surfaces.proofs.Common.{◌≡◌, ℕ, ◌<◌, Bool, true, false, ◌&&◌, ◌||◌, eqb, List, [], ◌∷◌, length, get_or, map, bit_xor, Option, Some, None, refl, sym, ap, ◌∙◌, subst, arith, inl, inr, Contains, cases_lt, cases_order, cases_Bool, false≢true, false_from_ne_true, All-from_recursion, recursion_from_All, Contains-get_or, any_below, Chain, has, and_comm, odd_below-same, any_below-none, primal, dual, Split, signature, chain_signature, signature_of, Mesh, pair_eq, pair_lt, among, edges, edge_count, ends, borders, IsSurface, parity, place_of, cells_of, edge_signature, walk_signature, below_law, graph_touches, IsEven, even-xor, signature_of-linear, null_zero, zero_null}
use Rattle.std.specs.List.{AllByRecursion, filter, range_with_len}
use Rattle.surf_graphs.proofs.CellLaws.{face_zero, signature_null}
use Rattle.surf_graphs.proofs.ShortestWalks.{first_passing}
use Rattle.surf_surfaces.proofs.meshes.CellLaws.{surfaces_are_cells}
use Rattle.surf_surfaces.proofs.meshes.PairLaws.{Rising, pair_eq-true}
use Rattle.surf_surfaces.proofs.meshes.EdgeLaws.{rising_from_AllPairs, rising_at, rising_unique, edges-rise, ends-eq, place_of-ends, place_of-among, among-contains, list_any_at}
use Rattle.surf_surfaces.proofs.walks.GraphWalkLaws.{closed_parity_even}
use Rattle.surf_surfaces.proofs.classes.SignatureLaws.{signatures_are_classes}
use Rattle.surf_classes.specs.Evidence.{joint_parity, AreClosed, is_listed, IsChosenOdd}
use Rattle.surf_classes.specs.EvidenceLaws.{OddChoiceIsRight, OddChoiceIsOne, OddChoiceIsFiltered, ClassesAreDecided, JointSignaturesAdd}
use Rattle.surf_classes.proofs.Listed.{Climbing, passing_climb, passing_below, passing_listed, rising_once}
use Rattle.surf_classes.proofs.PairSums.{sides_over_edges, chain_over_edges, borders_touches}
use Rattle.surf_classes.proofs.OneKind.{contained_edges}

-- a number that is in a signature is that of a left edge
number_below : (mesh : Mesh) (d : Split) (chain : Chain) (k : ℕ) →
    has (signature_of (cells_of mesh) d chain) k ≡ true → k < length d.left
number_below mesh d chain k is = elim (cases_lt k (length d.left)) [
  | inl below ↦ below
  | inr above ↦ absurd (false≢true
      (sym (below_law.no_member (length d.left) (chain_signature (cells_of mesh) d chain) k above) ∙ is))
]

pub odd_choice_is_right : OddChoiceIsRight
odd_choice_is_right mesh d surface split chain pairs h =
    let s = cells_of mesh in
    let k = h.number in
    let below : k < length d.left = number_below mesh d chain k h.in_signature in
    let on : (e : ℕ) → e < edge_count mesh → among (ends mesh e) pairs ≡ signature s d e k =
    λ e l. h.exactly e l ∙ below_law.member (length d.left) (signature s d e) k below in
    record {
      rises = h.rises;
      are_edges = h.are_edges;
      faces_even = λ f l.
          sides_over_edges mesh surface pairs f l
          ∙ odd_below-same (edge_count mesh) (λ e. borders mesh f e && among (ends mesh e) pairs)
          (λ e. graph_touches (dual s) f e && signature s d e k)
          (λ e m. ap (λ b. b && among (ends mesh e) pairs) (borders_touches mesh surface f e m)
          ∙ ap (λ b. graph_touches (dual s) f e && b) (on e m))
          ∙ face_zero s d (surfaces_are_cells mesh surface).complex split f k l below;
      chain_odd =
          chain_over_edges mesh surface chain pairs (rising_once pairs (rising_from_AllPairs pairs h.rises))
          (contained_edges mesh pairs (recursion_from_All (Contains (edges mesh)) pairs h.are_edges))
          ∙ odd_below-same (edge_count mesh) (λ e. among (ends mesh e) pairs && chain e)
          (λ e. chain e && signature s d e k)
          (λ e m. and_comm (among (ends mesh e) pairs) (chain e) ∙ ap (λ b. chain e && b) (on e m))
          ∙ sym (below_law.member (length d.left) (chain_signature s d chain) k below)
          ∙ h.in_signature;
    }

-- ---- lists of edges by their numbers

pub numbers_rise : (mesh : Mesh) (es : List ℕ) → Climbing es → AllByRecursion (λ e. e < edge_count mesh) es →
    Rising (map (ends mesh) es)
numbers_rise mesh [] h in' = tt
numbers_rise mesh (e ∷ es) h in' = (later es h.0 in'.1, numbers_rise mesh es h.1 in'.1)
  where
    later : (xs : List ℕ) → AllByRecursion (λ x. e < x) xs → AllByRecursion (λ x. x < edge_count mesh) xs →
        AllByRecursion (λ q. pair_lt (ends mesh e) q ≡ true) (map (ends mesh) xs)
    later [] a b = tt
    later (x ∷ xs) a b = (rising_at (edges mesh) (edges-rise mesh) e x (0, 0) a.0 b.0, later xs a.1 b.1)

is_edge : (mesh : Mesh) (e : ℕ) → e < edge_count mesh → among (ends mesh e) (edges mesh) ≡ true
is_edge mesh e l = among-contains (ends mesh e) (edges mesh) (Contains-get_or (edges mesh) e (0, 0) l)

numbers_contained : (mesh : Mesh) (es : List ℕ) → AllByRecursion (λ e. e < edge_count mesh) es →
    AllByRecursion (Contains (edges mesh)) (map (ends mesh) es)
numbers_contained mesh [] h = tt
numbers_contained mesh (e ∷ es) h = (Contains-get_or (edges mesh) e (0, 0) h.0, numbers_contained mesh es h.1)

numbers_listed : (mesh : Mesh) (es : List ℕ) → AllByRecursion (λ e. e < edge_count mesh) es → (e : ℕ) →
    e < edge_count mesh → among (ends mesh e) (map (ends mesh) es) ≡ is_listed es e
numbers_listed mesh [] h e l = refl
numbers_listed mesh (x ∷ xs) h e l =
    ap (λ b. b || among (ends mesh e) (map (ends mesh) xs))
    (ends-eq mesh (ends mesh x) e (is_edge mesh x h.0) l ∙ ap (eqb e) (place_of-ends mesh x h.0))
    ∙ ap (λ b. eqb e x || b) (numbers_listed mesh xs h.1 e l)

-- rising lists of edges that have the same edges are one list
pub same_pairs : (mesh : Mesh) (xs ys : List (ℕ × ℕ)) → Rising xs → Rising ys →
    AllByRecursion (λ p. among p (edges mesh) ≡ true) xs → AllByRecursion (λ p. among p (edges mesh) ≡ true) ys →
    ((e : ℕ) → e < edge_count mesh → among (ends mesh e) xs ≡ among (ends mesh e) ys) → xs ≡ ys
same_pairs mesh xs ys rx ry ex ey same = rising_unique xs ys rx ry (λ p. elim (cases_Bool (among p (edges mesh))) [
  | inl edge ↦
      let at = place_of-among p (edges mesh) (0, 0) edge in
      subst (λ q. among q xs ≡ among q ys) at.1 (same (place_of p (edges mesh)) at.0)
  | inr no_edge ↦ none p no_edge xs ex ∙ sym (none p no_edge ys ey)
])
  where
    none : (p : ℕ × ℕ) → among p (edges mesh) ≡ false → (zs : List (ℕ × ℕ)) →
        AllByRecursion (λ p. among p (edges mesh) ≡ true) zs → among p zs ≡ false
    none p out zs are = false_from_ne_true (among p zs) (λ in'.
        let r = list_any_at (pair_eq p) zs (0, 0) in' in
        let is : p ≡ get_or zs r.0 (0, 0) = pair_eq-true p (get_or zs r.0 (0, 0)) r.2 in
        false≢true (sym out ∙ ap (λ q. among q (edges mesh)) is
        ∙ All-from_recursion (λ q. among q (edges mesh) ≡ true) zs are r.0 (0, 0) r.1))

-- ---- the chains of closed walks

pub joint_even : (mesh : Mesh) → IsSurface mesh → (walk : List ℕ) (other : Option (List ℕ)) →
    AreClosed mesh walk other → IsEven (primal (cells_of mesh)) (joint_parity mesh walk other)
joint_even mesh surface walk None closed = closed_parity_even mesh surface walk closed
joint_even mesh surface walk (Some other) closed =
    even-xor (primal (cells_of mesh)) (parity mesh walk) (parity mesh other)
    (closed_parity_even mesh surface walk closed.0) (closed_parity_even mesh surface other closed.1)

pub classes_are_decided : ClassesAreDecided
classes_are_decided mesh d surface split walk other closed =
    let s = cells_of mesh in
    let cells = (surfaces_are_cells mesh surface).complex in (
      null_zero s d cells split (joint_parity mesh walk other),
      zero_null s d cells split (joint_parity mesh walk other) (joint_even mesh surface walk other closed),
    )

pub joint_signatures_add : JointSignaturesAdd
joint_signatures_add mesh d surface walk None closed = sym (signatures_are_classes mesh d surface walk closed.is_walk)
joint_signatures_add mesh d surface walk (Some other) closed =
    let s = cells_of mesh in
    (signature_of-linear s d).add (parity mesh walk) (parity mesh other)
    ∙ ap (λ n. bit_xor n (signature_of s d (parity mesh other)))
    (sym (signatures_are_classes mesh d surface walk closed.0.is_walk))
    ∙ ap (bit_xor (walk_signature mesh d walk)) (sym (signatures_are_classes mesh d surface other closed.1.is_walk))

-- the least number of a set is one
least_one : (set a b : ℕ) → has set a ≡ true → has set b ≡ true → ((k : ℕ) → k < a → has set k ≡ false) →
    ((k : ℕ) → k < b → has set k ≡ false) → a ≡ b
least_one set a b ha hb la lb = elim (cases_order a b) [
  | inl same ↦ same
  | inr apart ↦ elim apart [
    | inl less ↦ absurd (false≢true (sym (lb a less) ∙ ha))
    | inr more ↦ absurd (false≢true (sym (la b more) ∙ hb))
  ]
]

-- the choice is one, also over two splits that give the same signatures
pub choice_same : (mesh : Mesh) (d other : Split) (chain : Chain) (xs ys : List (ℕ × ℕ)) →
    signature_of (cells_of mesh) d chain ≡ signature_of (cells_of mesh) other chain →
    ((e : ℕ) → e < edge_count mesh → edge_signature mesh d e ≡ edge_signature mesh other e) →
    IsChosenOdd mesh d chain xs → IsChosenOdd mesh other chain ys → xs ≡ ys
choice_same mesh d other chain xs ys whole each x y =
    let set = signature_of (cells_of mesh) other chain in
    let one : x.number ≡ y.number = least_one set x.number y.number
    (ap (λ n. has n x.number) (sym whole) ∙ x.in_signature) y.in_signature
    (λ k l. ap (λ n. has n k) (sym whole) ∙ x.least k l) y.least in
    same_pairs mesh xs ys (rising_from_AllPairs xs x.rises) (rising_from_AllPairs ys y.rises)
    (contained_edges mesh xs (recursion_from_All (Contains (edges mesh)) xs x.are_edges))
    (contained_edges mesh ys (recursion_from_All (Contains (edges mesh)) ys y.are_edges))
    (λ e l. x.exactly e l ∙ ap (λ n. has n x.number) (each e l) ∙ ap (has (edge_signature mesh other e)) one
    ∙ sym (y.exactly e l))

pub odd_choice_is_filtered : OddChoiceIsFiltered
odd_choice_is_filtered mesh d chain number in_signature least =
    let test : ℕ → Bool = λ e. has (edge_signature mesh d e) number in
    let E = edge_count mesh in
    let es = filter test (range_with_len 0 E) in
    let inside : AllByRecursion (λ e. e < E) es = passing_below test 0 E E (omega arith) in
    record {
      number = number;
      in_signature = in_signature;
      least = least;
      rises = rising_at (map (ends mesh) es) (numbers_rise mesh es (passing_climb test 0 E) inside);
      are_edges = All-from_recursion (Contains (edges mesh)) (map (ends mesh) es) (numbers_contained mesh es inside);
      exactly = λ e m. numbers_listed mesh es inside e m ∙ passing_listed test 0 E e (omega arith) (omega arith);
    }

pub odd_choice_is_one : OddChoiceIsOne
odd_choice_is_one mesh d surface split walk other closed no_boundary =
    let s = cells_of mesh in
    let chain = joint_parity mesh walk other in
    let n = length d.left in
    elim (cases_Bool (any_below n (chain_signature s d chain))) [
      | inr none ↦ absurd (no_boundary (signature_null s d (surfaces_are_cells mesh surface).complex split chain
          (joint_even mesh surface walk other closed) (any_below-none n (chain_signature s d chain) none)))
      | inl some ↦
          let (k, l, is, before) = first_passing n (chain_signature s d chain) some in
          let es = filter (λ e. has (edge_signature mesh d e) k) (range_with_len 0 (edge_count mesh)) in
          let chosen : IsChosenOdd mesh d chain (map (ends mesh) es) = odd_choice_is_filtered mesh d chain k
          (below_law.member n (chain_signature s d chain) k l ∙ is)
          (λ j m. below_law.member n (chain_signature s d chain) j (omega arith) ∙ before j m) in (
            map (ends mesh) es,
            chosen,
            (λ others h. choice_same mesh d d chain others (map (ends mesh) es) refl
                (λ e m. refl) h chosen),
          )
    ]
