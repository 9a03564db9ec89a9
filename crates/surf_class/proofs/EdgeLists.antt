-- The ends of chosen edges, in order.
use Rattle.surf_cert.proofs.Common.{◌≡◌, ℕ, ◌<◌, ◌≤◌, true, Bool, List, [], ◌∷◌, map, filter, AllPairs, All, arith, range_with_len, AllByRecursion, All-from_recursion, Mesh, pair_lt, edge_count, ends, IsSurface, rising_at, edges_are_ordered}
use Rattle.surf_class.proofs.Common.{passing_climb, passing_below, numbers_rise}

pub edges_rise : (mesh : Mesh) (pass : ℕ → Bool) (n : ℕ) → n ≤ edge_count mesh →
    AllPairs (λ a b. pair_lt a b ≡ true) (map (ends mesh) (filter pass (range_with_len 0 n)))
edges_rise mesh pass n few =
    rising_at _ (numbers_rise mesh (filter pass (range_with_len 0 n)) (passing_climb pass 0 n)
    (passing_below pass 0 n (edge_count mesh) (omega (arith, few))))

ordered : (mesh : Mesh) → IsSurface mesh → (es : List ℕ) → AllByRecursion (λ e. e < edge_count mesh) es →
    AllByRecursion (λ a. a.0 < a.1) (map (ends mesh) es)
ordered mesh surface [] inside = tt
ordered mesh surface (e ∷ es) inside =
    ((edges_are_ordered mesh surface.is_mesh e (0, 0) inside.0).0, ordered mesh surface es inside.1)

pub edges_ordered : (mesh : Mesh) → IsSurface mesh → (pass : ℕ → Bool) (n : ℕ) → n ≤ edge_count mesh →
    All (λ a. a.0 < a.1) (map (ends mesh) (filter pass (range_with_len 0 n)))
edges_ordered mesh surface pass n few =
    All-from_recursion (λ a. a.0 < a.1) _
    (ordered mesh surface (filter pass (range_with_len 0 n)) (passing_below pass 0 n (edge_count mesh) (omega (arith, few))))
