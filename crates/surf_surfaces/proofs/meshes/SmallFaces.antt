-- Triangles and squares are faces.
use Rattle.surf_surfaces.proofs.Common.{◌≢◌, ℕ, zero, suc, ◌<◌, List, [], ◌∷◌, arith, AllPairs, All-from_recursion, IsFace}
use Rattle.surf_surfaces.proofs.meshes.FaceLaws.{Distinct}

pairs_differ : (xs : List ℕ) → Distinct xs → AllPairs (λ u v. u ≢ v) xs
pairs_differ [] h i j d lt in' = absurd (omega arith)
pairs_differ (x ∷ xs) h i zero d lt in' = absurd (omega arith)
pairs_differ (x ∷ xs) h zero (suc j) d lt in' = All-from_recursion (λ w. x ≢ w) xs h.0 j d (omega arith)
pairs_differ (x ∷ xs) h (suc i) (suc j) d lt in' = pairs_differ xs h.1 i j d (omega arith) (omega arith)

pub triangle : (n a b c : ℕ) → a ≢ b → a ≢ c → b ≢ c → a < n → b < n → c < n → IsFace n (a ∷ b ∷ c ∷ [])
triangle n a b c x y z i j k = record {
  large = omega arith;
  distinct = pairs_differ (a ∷ b ∷ c ∷ []) ((x, (y, tt)), ((z, tt), (tt, tt)));
  inside = All-from_recursion (λ v. v < n) (a ∷ b ∷ c ∷ []) (i, (j, (k, tt)));
}

pub square : (n a b c d : ℕ) → a ≢ b → a ≢ c → a ≢ d → b ≢ c → b ≢ d → c ≢ d → a < n → b < n → c < n → d < n →
    IsFace n (a ∷ b ∷ c ∷ d ∷ [])
square n a b c d ab ac ad bc bd cd la lb lc ld = record {
  large = omega arith;
  distinct = pairs_differ (a ∷ b ∷ c ∷ d ∷ []) ((ab, (ac, (ad, tt))), ((bc, (bd, tt)), ((cd, tt), (tt, tt))));
  inside = All-from_recursion (λ v. v < n) (a ∷ b ∷ c ∷ d ∷ []) (la, (lb, (lc, (ld, tt))));
}
