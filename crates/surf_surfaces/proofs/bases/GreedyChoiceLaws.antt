-- The greedy choice from loops, by the classes of their walks.
use Rattle.std.proofs.Common.{◌≡◌, ℕ, ◌<◌, Bool, true, false, List, ◌∷◌, length, map, take, get_or, All, sym, subst, MatchBool}
use Rattle.surf_surfaces.proofs.Common.{AllByRecursion, map-map, greedy, Decides-is_nothing, IsEven, signature_of, Mesh, IsSurface, IsClosed, parity, cells_of, class_of, Loop, walks, DependsOn, IsGreedyChoice, recursion_from_All, All-from_recursion, All-take, chains, chosen, numbers, is_nothing, difference, sum_of, Spanned, primal, Split, IsSplit, IsNullChain}
use Rattle.surf_z2.proofs.Below.{chosen-map}
use Rattle.surf_z2.proofs.Kept.{kept_law}
use Rattle.surf_graphs.proofs.Independence.{spanned_from_null, null_from_spanned}
use Rattle.surf_surfaces.proofs.meshes.CellLaws.{surfaces_are_cells}
use Rattle.surf_surfaces.proofs.classes.SumLaws.{sum_from_total, total_from_sum}
use Rattle.surf_surfaces.proofs.walks.GraphWalkLaws.{closed_parity_even}
use Rattle.surf_surfaces.proofs.classes.LeastLaws.{all_each, all_mapped}

pub match_same : (b : Bool) (P Q : Type 0) → (P → Q) → (Q → P) → MatchBool b (P → ⊥) P → MatchBool b (Q → ⊥) Q
match_same true P Q f g h = λ q. h (g q)
match_same false P Q f g h = f h

-- each is a closed walk
abbrev pub AreClosed : Mesh → List Loop → Type 0
AreClosed mesh loops = AllByRecursion (λ c. IsClosed mesh c.walk) loops

module _ (mesh : Mesh) (d : Split) (surface : IsSurface mesh) (split : IsSplit (cells_of mesh) d) where
  -- the class of a loop's walk
  abbrev pub vector : Loop → ℕ
  vector c = class_of mesh d c.walk

  pub spanned_from_depends : (before : List (List ℕ)) (walk : List ℕ) → DependsOn mesh before walk →
      Spanned numbers (map (class_of mesh d) before) (class_of mesh d walk)
  spanned_from_depends before walk h =
      subst (λ vs. Spanned numbers vs (class_of mesh d walk))
      (map-map (signature_of (cells_of mesh) d) (parity mesh) before)
      (spanned_from_null (cells_of mesh) d (surfaces_are_cells mesh surface).complex split (map (parity mesh) before)
      (parity mesh walk) h.0
      (subst (λ xs. IsNullChain (cells_of mesh) (difference (parity mesh walk) (sum_of chains xs)))
      (sym (chosen-map (parity mesh) h.0 before)) (sum_from_total mesh (walk ∷ chosen h.0 before) h.1)))

  pub depends_from_spanned : (before : List (List ℕ)) (walk : List ℕ) → AllByRecursion (IsClosed mesh) before →
      IsClosed mesh walk → Spanned numbers (map (class_of mesh d) before) (class_of mesh d walk) →
      DependsOn mesh before walk
  depends_from_spanned before walk closed_before closed h =
      let r = null_from_spanned (cells_of mesh) d (surfaces_are_cells mesh surface).complex split
      (map (parity mesh) before) (parity mesh walk)
      (all_mapped (IsEven (primal (cells_of mesh))) (parity mesh) before
      (all_each (IsClosed mesh) (λ w. IsEven (primal (cells_of mesh)) (parity mesh w)) before
      (closed_parity_even mesh surface) closed_before))
      (closed_parity_even mesh surface walk closed)
      (subst (λ vs. Spanned numbers vs (class_of mesh d walk))
      (sym (map-map (signature_of (cells_of mesh) d) (parity mesh) before)) h) in (
        r.0,
        total_from_sum mesh (walk ∷ chosen r.0 before)
            (subst (λ xs. IsNullChain (cells_of mesh) (difference (parity mesh walk) (sum_of chains xs)))
            (chosen-map (parity mesh) r.0 before) r.1),
      )

  -- what the walks at the first places span
  module _ (loops : List Loop) (closed : AreClosed mesh loops) where
    closed_walks : (i : ℕ) → AllByRecursion (IsClosed mesh) (walks (take i loops))
    closed_walks i = all_mapped (IsClosed mesh) (λ c. c.walk) (take i loops)
        (recursion_from_All (λ c. IsClosed mesh c.walk) (take i loops)
        (All-take (λ c. IsClosed mesh c.walk) i loops (All-from_recursion (λ c. IsClosed mesh c.walk) loops closed)))

    closed_at : (i : ℕ) (c : Loop) → i < length loops → IsClosed mesh (get_or loops i c).walk
    closed_at i c l = let all : All (λ x. IsClosed mesh x.walk) loops =
        All-from_recursion (λ x. IsClosed mesh x.walk) loops closed in all i c l

    pub to_spanned : (i : ℕ) (c : Loop) → DependsOn mesh (walks (take i loops)) (get_or loops i c).walk →
        Spanned numbers (map (λ x. class_of mesh d x.walk) (take i loops)) (class_of mesh d (get_or loops i c).walk)
    to_spanned i c h = subst (λ vs. Spanned numbers vs (class_of mesh d (get_or loops i c).walk))
        (map-map (class_of mesh d) (λ x. x.walk) (take i loops))
        (spanned_from_depends (walks (take i loops)) (get_or loops i c).walk h)

    pub from_spanned : (i : ℕ) (c : Loop) → i < length loops →
        Spanned numbers (map (λ x. class_of mesh d x.walk) (take i loops)) (class_of mesh d (get_or loops i c).walk) →
        DependsOn mesh (walks (take i loops)) (get_or loops i c).walk
    from_spanned i c l h = depends_from_spanned (walks (take i loops)) (get_or loops i c).walk (closed_walks i)
        (closed_at i c l) (subst (λ vs. Spanned numbers vs (class_of mesh d (get_or loops i c).walk))
        (sym (map-map (class_of mesh d) (λ x. x.walk) (take i loops))) h)

    -- the greedy choice is the one by classes
    pub choice_is_greedy : (kept : List Loop) → IsGreedyChoice mesh loops kept →
        kept ≡ greedy numbers is_nothing (λ c. class_of mesh d c.walk) loops
    choice_is_greedy kept h =
        (kept_law numbers is_nothing Decides-is_nothing (λ c. class_of mesh d c.walk)).kept_is_greedy loops kept
        (record {
          keep = h.keep;
          are_kept = h.are_kept;
          exactly = λ i c l. match_same (get_or h.keep i false) _ _ (to_spanned i c) (from_spanned i c l) (h.exactly i c l);
        })

    pub greedy_is_choice : IsGreedyChoice mesh loops (greedy numbers is_nothing (λ c. class_of mesh d c.walk) loops)
    greedy_is_choice =
        let h = (kept_law numbers is_nothing Decides-is_nothing (λ c. class_of mesh d c.walk)).greedy_is_kept loops in
        record {
          keep = h.keep;
          are_kept = h.are_kept;
          exactly = λ i c l. match_same (get_or h.keep i false) _ _ (from_spanned i c l) (to_spanned i c)
              (h.exactly i c l);
        }
