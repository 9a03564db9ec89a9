-- What is least, by sums of members that are no longer.
use Rattle.surf_surfaces.proofs.Common.{◌≡◌, ℕ, ◌≤◌, Bool, true, false, cond, leb, List, [], ◌∷◌, ◌++◌, map, filter, refl, sym, ap, ◌∙◌, subst, arith, inl, inr, AllByRecursion, cases_Bool, leb-true, true≢false, length-append, map-append, recursion_from_All, All-from_recursion, All-contains, Decides-is_nothing, Split, IsSplit, signed, Mesh, IsSurface, IsIndependent, cells_of, class_of, weighed_walk, spans, independence_law, free_filter, free_from_independent, independent_from_free, IsClosed, IsClosedAt, walk_length}
use Rattle.surf_z2.specs.Space.{numbers, is_nothing, Independent, vectors, up_to, Spanned, SpannedUpToWeight}
use Rattle.surf_z2.proofs.Greedy.{spans_law}
use Rattle.surf_surfaces.specs.Places.{walks_up_to, AreNoLonger, IsShortSum}
use Rattle.surf_surfaces.specs.PlaceLaws.{LoopSystemsAreLeastByShortSums, BasesAreLeastByShortSums}
use Rattle.surf_surfaces.proofs.classes.ClassLaws.{some_split, independent_by_classes}
use Rattle.surf_surfaces.proofs.bases.GreedyChoiceLaws.{spanned_from_depends, depends_from_spanned}
use Rattle.surf_surfaces.proofs.classes.LeastLaws.{all_each}
use Rattle.surf_surfaces.proofs.classes.OrderedNumbers.{counted, all_counted}
use Rattle.surf_surfaces.proofs.classes.ShortSums.{signed_walks, spanned_no_longer}
use Rattle.surf_surfaces.proofs.classes.PlaceLaws.{loop_systems_are_least_in_order, bases_are_least_in_order}

all_with : {X : Type 0} (P : X → Type 0) (xs : List X) (y : X) → AllByRecursion P xs → P y →
    AllByRecursion P (xs ++ y ∷ [])
all_with P [] y h k = (k, tt)
all_with P (x ∷ xs) y h k = (h.0, all_with P xs y h.1 k)

-- those that pass have what all have, and pass
all_passing : {X : Type 0} (P : X → Type 0) (p : X → Bool) (xs : List X) → AllByRecursion P xs →
    AllByRecursion (λ x. P x × (p x ≡ true)) (filter p xs)
all_passing P p [] h = tt
all_passing P p (x ∷ xs) h = split (p x) refl (all_passing P p xs h.1)
  where
    split : (b : Bool) → p x ≡ b → AllByRecursion (λ x. P x × (p x ≡ true)) (filter p xs) →
        AllByRecursion (λ x. P x × (p x ≡ true)) (cond b (x ∷ filter p xs) (filter p xs))
    split true e rest = ((h.0, e), rest)
    split false e rest = rest

module _ (mesh : Mesh) (lengths : List ℕ) (d : Split) (surface : IsSurface mesh) (split : IsSplit (cells_of mesh) d) where
  classes_up_to : (limit : ℕ) (ws : List (List ℕ)) → vectors (up_to limit (signed_walks mesh lengths d ws))
      ≡ map (class_of mesh d) (walks_up_to mesh lengths limit ws)
  classes_up_to limit [] = refl
  classes_up_to limit (w ∷ ws) = by (leb (walk_length mesh lengths w) limit) (classes_up_to limit ws)
    where
      by : (b : Bool) → vectors (up_to limit (signed_walks mesh lengths d ws))
          ≡ map (class_of mesh d) (walks_up_to mesh lengths limit ws) →
          vectors (cond b (signed (cells_of mesh) d (weighed_walk mesh lengths w) ∷ up_to limit (signed_walks mesh lengths d ws))
          (up_to limit (signed_walks mesh lengths d ws)))
          ≡ map (class_of mesh d) (cond b (w ∷ walks_up_to mesh lengths limit ws) (walks_up_to mesh lengths limit ws))
      by true e = ap (λ vs. class_of mesh d w ∷ vs) e
      by false e = e

  spanned_from_short : (ws : List (List ℕ)) (w : List ℕ) → IsShortSum mesh lengths ws w →
      SpannedUpToWeight numbers (signed_walks mesh lengths d ws) (signed (cells_of mesh) d (weighed_walk mesh lengths w))
  spanned_from_short ws w h =
      subst (λ vs. Spanned numbers vs (class_of mesh d w)) (sym (classes_up_to (walk_length mesh lengths w) ws))
      (spanned_from_depends mesh d surface split (walks_up_to mesh lengths (walk_length mesh lengths w) ws) w h)

  module _ (ws : List (List ℕ)) (closed : AllByRecursion (IsClosed mesh) ws) (free : IsIndependent mesh ws) (w : List ℕ)
      (w_closed : IsClosed mesh w) where
    -- the members that are no longer than the walk
    abbrev near : List (List ℕ)
    near = walks_up_to mesh lengths (walk_length mesh lengths w) ws

    near_each : AllByRecursion (λ v. IsClosed mesh v × (leb (walk_length mesh lengths v) (walk_length mesh lengths w) ≡ true))
        (walks_up_to mesh lengths (walk_length mesh lengths w) ws)
    near_each = all_passing (IsClosed mesh) (λ v. leb (walk_length mesh lengths v) (walk_length mesh lengths w)) ws closed

    near_closed : AllByRecursion (IsClosed mesh) (walks_up_to mesh lengths (walk_length mesh lengths w) ws)
    near_closed = all_each (λ v. IsClosed mesh v × (leb (walk_length mesh lengths v) (walk_length mesh lengths w) ≡ true))
        (IsClosed mesh) near (λ v h. h.0) near_each

    -- where it is no sum of them, they are independent with it
    with_independent : (Spanned numbers (map (class_of mesh d) near) (class_of mesh d w) → ⊥) →
        IsIndependent mesh (near ++ w ∷ [])
    with_independent fresh =
        let class = class_of mesh d in
        let all : Independent numbers (map class ws) =
        (independent_by_classes mesh d surface split ws (All-from_recursion (IsClosed mesh) ws closed)).0 free in
        let some : Independent numbers (map class near) =
        independent_from_free numbers (map class near)
        (free_filter numbers class (λ v. leb (walk_length mesh lengths v) (walk_length mesh lengths w)) ws
        (free_from_independent numbers (map class ws) all)) in
        (independent_by_classes mesh d surface split (near ++ w ∷ [])
        (All-from_recursion (IsClosed mesh) (near ++ w ∷ []) (all_with (IsClosed mesh) near w near_closed w_closed))).1
        (subst (Independent numbers) (sym (map-append class near (w ∷ [])))
        ((independence_law numbers).push (map class near) (class w) some fresh))

    -- and they are too many
    with_too_many : AreNoLonger mesh lengths ws (near ++ w ∷ []) → ⊥
    with_too_many h =
        let size = walk_length mesh lengths in
        let limit = size w in
        let bound = h limit in
        let many = all_counted size limit (near ++ w ∷ []) (all_with (λ v. size v ≤ limit) near w
        (all_each (λ v. IsClosed mesh v × (leb (size v) (size w) ≡ true)) (λ v. size v ≤ limit) near
        (λ v k. leb-true (size v) (size w) k.1) near_each) (omega arith)) in
        let count = counted size limit (near ++ w ∷ []) in
        let sum = length-append near (w ∷ []) in
        omega arith

    short_sum : ((IsIndependent mesh (near ++ w ∷ [])) → AreNoLonger mesh lengths ws (near ++ w ∷ [])) →
        IsShortSum mesh lengths ws w
    short_sum no_more =
        let class = class_of mesh d in
        let law = spans_law numbers is_nothing Decides-is_nothing (map class near) (class w) in
        elim (cases_Bool (spans numbers is_nothing (map class near) (class w))) [
          | inl is ↦ depends_from_spanned mesh d surface split near w near_closed w_closed (law.0 is)
          | inr out ↦ absurd (with_too_many (no_more (with_independent (λ h. true≢false (sym (law.1 h) ∙ out)))))
        ]

pub loop_systems_are_least_by_short_sums : LoopSystemsAreLeastByShortSums
loop_systems_are_least_by_short_sums mesh lengths base ws surface positive system = (
  λ least w closed.
      let (d, split) = some_split mesh surface in
      let in_order = (loop_systems_are_least_in_order mesh lengths base ws surface positive).0 least in
      let each = recursion_from_All (IsClosedAt mesh base) ws system.at_base in
      short_sum mesh lengths d surface split ws
      (all_each (IsClosedAt mesh base) (IsClosed mesh) ws (λ v h. h.is_closed) each) system.independent w closed.is_closed
      (λ free. in_order.least (walks_up_to mesh lengths (walk_length mesh lengths w) ws ++ w ∷ [])
      (All-from_recursion (IsClosedAt mesh base) (walks_up_to mesh lengths (walk_length mesh lengths w) ws ++ w ∷ [])
      (all_with (IsClosedAt mesh base) (walks_up_to mesh lengths (walk_length mesh lengths w) ws) w
      (all_each (λ v. IsClosedAt mesh base v × (leb (walk_length mesh lengths v) (walk_length mesh lengths w) ≡ true))
      (IsClosedAt mesh base) (walks_up_to mesh lengths (walk_length mesh lengths w) ws) (λ v h. h.0)
      (all_passing (IsClosedAt mesh base) (λ v. leb (walk_length mesh lengths v) (walk_length mesh lengths w)) ws each))
      closed)) free),
  λ sums.
      let (d, split) = some_split mesh surface in
      (loop_systems_are_least_in_order mesh lengths base ws surface positive).1 (record {
        is_system = system;
        least = λ others closed free. spanned_no_longer mesh lengths d surface split ws others
            (λ k n l. (closed k n l).is_closed) free (λ w at. spanned_from_short mesh lengths d surface split ws w
            (sums w (All-contains (IsClosedAt mesh base) others w closed at)));
      }),
)

pub bases_are_least_by_short_sums : BasesAreLeastByShortSums
bases_are_least_by_short_sums mesh lengths ws surface positive basis = (
  λ least w closed.
      let (d, split) = some_split mesh surface in
      let in_order = (bases_are_least_in_order mesh lengths ws surface positive).0 least in
      let each = recursion_from_All (IsClosed mesh) ws basis.closed in
      short_sum mesh lengths d surface split ws each basis.independent w closed
      (λ free. in_order.least (walks_up_to mesh lengths (walk_length mesh lengths w) ws ++ w ∷ [])
      (All-from_recursion (IsClosed mesh) (walks_up_to mesh lengths (walk_length mesh lengths w) ws ++ w ∷ [])
      (all_with (IsClosed mesh) (walks_up_to mesh lengths (walk_length mesh lengths w) ws) w
      (near_closed mesh lengths d surface split ws each basis.independent w closed) closed)) free),
  λ sums.
      let (d, split) = some_split mesh surface in
      (bases_are_least_in_order mesh lengths ws surface positive).1 (record {
        is_basis = basis;
        least = λ others closed free. spanned_no_longer mesh lengths d surface split ws others closed free
            (λ w at. spanned_from_short mesh lengths d surface split ws w
            (sums w (All-contains (IsClosed mesh) others w closed at)));
      }),
)
