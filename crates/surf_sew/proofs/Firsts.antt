-- Tables of least copies.
use Rattle.surf_sew.proofs.Common.{◌≡◌, ◌<◌, ◌+◌, ℕ, List, length, get_or, refl, sym, ◌∙◌, arith, get_or-map-range_with_len, length-map-range_with_len, eq-eqb, ext_get_or, list_any_at, first_copy, first_like, first_copies}
use Rattle.surf_sew.proofs.Gaps.{among_copy}

pub table_is : (vs table : List ℕ) (from n : ℕ) → length table ≡ n → ((k : ℕ) → k < n → get_or table k 0 ≡ first_copy vs (from + k)) → table ≡ first_copies vs from n
table_is vs table from n len at = ext_get_or 0 table (first_copies vs from n) (len ∙ sym (length-map-range_with_len (first_copy vs) from n)) (λ i lt. at i (omega arith) ∙ sym (get_or-map-range_with_len (first_copy vs) from n i (from + i) 0 (omega arith) refl))

-- The least copy with the origin of a copy is one.
pub like_few : (vs : List ℕ) (c : ℕ) → c < length vs → first_like vs c < length vs
like_few vs c lt = among_copy vs (get_or vs c 0) (list_any_at (λ o. Rattle.std.specs.Prelude.◌==◌ o (get_or vs c 0)) vs c 0 lt (eq-eqb _ _ refl))
