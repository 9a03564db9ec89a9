-- What was read of a line fits the lines of a text.
use Rattle.surf_cert.proofs.Common.{◌≡◌, ◌<◌, ◌≤◌, ◌^◌, ℕ, suc, Bool, true, false, List, [], ◌∷◌, length, Option, Some, None, refl, ap, codes, inl, inr, arith, nat_le, nat_lt, ◌&&◌, ◌==◌, IfSome, bytes_eq, cases_Bool, leb-true, ltb-true, eqb-true, is_ascii_digit, All-nil, All-cons, All, list_all, is_nonempty, value_of, whole, Counts, option_filter, cert_number, three_counts, counts_of, base_of, base_at, parent_of, tree_row, dual_row, is_next, pair_behind, cycle_of, option_map, option_zip, greatest, IsNumber, IsParent, IsPair, IsFaceRow, CycleFits}
use Rattle.surf_cert.specs.Lines.{pair_of, numbers_of}
use Rattle.surf_cert.proofs.Numbers.{onto_numbers}

-- what passes a test has what the test shows
pub filter_fits : {A : Type 0} (test : A → Bool) (P Q : A → Type 0) → ((x : A) → test x ≡ true → P x → Q x) → (o : Option A)
    → IfSome o P → IfSome (option_filter test o) Q
filter_fits test P Q then None fits = tt
filter_fits test P Q then (Some x) fits = elim (cases_Bool (test x)) [ inl passes ↦ rw passes (then x passes fits) | inr other ↦ rw other tt ]

any_value : {A : Type 0} (o : Option A) → IfSome o (λ x. Unit {0})
any_value None = tt
any_value (Some x) = tt

-- numbers

pub number_fits : (token : List ℕ) → IfSome (cert_number token) IsNumber
number_fits token =
    filter_fits (λ n. nat_le n greatest) (λ n. Unit {0}) IsNumber (λ n low any. leb-true n greatest low) (whole token) (any_value (whole token))

second : (p q : Bool) → (p && q) ≡ true → q ≡ true
second true q e = e
second false q e = absurd cc

pub whole_fits : (token : List ℕ) → IfSome (whole token) (λ n. n < 2 ^ 64)
whole_fits token = elim (cases_Bool (is_nonempty token && list_all is_ascii_digit token && nat_lt (value_of token) (2 ^ 64))) [
  | inl is ↦ rw is (ltb-true (value_of token) (2 ^ 64) (second (is_nonempty token && list_all is_ascii_digit token) (nat_lt (value_of token) (2 ^ 64)) is))
  | inr other ↦ rw other tt
]

-- forms of lines

parent_fits : (token : List ℕ) → IfSome (parent_of token) IsParent
parent_fits token = elim (cases_Bool (bytes_eq token (codes "-"))) [ inl is ↦ rw is tt | inr other ↦ rw other (at (cert_number token) (number_fits token)) ]
  where
    at : (n : Option ℕ) → IfSome n IsNumber → IfSome (option_map (λ u. Some u) n) IsParent
    at None fits = tt
    at (Some n) fits = fits

abbrev pub IsRow : ℕ × Option ℕ → Type 0
IsRow row = (row.0 < 2 ^ 64) × IsParent row.1

pub row_fits : (tokens : List (List ℕ)) → IfSome (tree_row tokens) IsRow
row_fits [] = tt
row_fits (d ∷ []) = tt
row_fits (d ∷ p ∷ []) = at (whole d) (parent_of p) (whole_fits d) (parent_fits p)
  where
    at : (d : Option ℕ) (p : Option (Option ℕ)) → IfSome d (λ n. n < 2 ^ 64) → IfSome p IsParent
        → IfSome (option_zip d p) IsRow
    at None p small fits = tt
    at (Some d) None small fits = tt
    at (Some d) (Some p) small fits = (small, fits)
row_fits (d ∷ p ∷ t ∷ ts) = tt

pub pair_fits : (tokens : List (List ℕ)) → IfSome (pair_of tokens) IsPair
pair_fits [] = tt
pair_fits (u ∷ []) = tt
pair_fits (u ∷ v ∷ []) =
    filter_fits (λ p. nat_lt p.0 p.1) (λ p. IsNumber p.1) IsPair (λ p less fits. record { ordered = ltb-true p.0 p.1 less; number = fits })
    (option_zip (cert_number u) (cert_number v)) (at (cert_number u) (cert_number v) (number_fits v))
  where
    at : (u v : Option ℕ) → IfSome v IsNumber → IfSome (option_zip u v) (λ p. IsNumber p.1)
    at None v fits = tt
    at (Some u) None fits = tt
    at (Some u) (Some v) fits = fits
pair_fits (u ∷ v ∷ t ∷ ts) = tt

pub face_fits : (tokens : List (List ℕ)) → IfSome (dual_row tokens) IsFaceRow
face_fits [] = tt
face_fits (d ∷ []) = tt
face_fits (d ∷ u ∷ []) = elim (cases_Bool (bytes_eq d (codes "0") && bytes_eq u (codes "-"))) [ inl is ↦ rw is refl | inr other ↦ rw other tt ]
face_fits (d ∷ u ∷ v ∷ []) =
    at (option_filter (nat_le 1) (cert_number d)) (pair_of (u ∷ v ∷ []))
    (filter_fits (nat_le 1) IsNumber (λ d. (1 ≤ d) × IsNumber d) (λ d low fits. (leb-true 1 d low, fits)) (cert_number d) (number_fits d))
    (pair_fits (u ∷ v ∷ []))
  where
    at : (d : Option ℕ) (p : Option (ℕ × ℕ)) → IfSome d (λ d. (1 ≤ d) × IsNumber d) → IfSome p IsPair
        → IfSome (option_zip d (option_map (λ p. Some p) p)) IsFaceRow
    at None p few fits = tt
    at (Some d) None few fits = tt
    at (Some d) (Some p) few fits = (few.0, few.1, fits)
face_fits (d ∷ u ∷ v ∷ t ∷ ts) = tt

pub behind_fits : (before : Option (ℕ × ℕ)) (tokens : List (List ℕ))
    → IfSome (pair_behind before tokens) (λ p. IsPair p × (is_next before p ≡ true))
behind_fits before tokens =
    filter_fits (is_next before) IsPair (λ p. IsPair p × (is_next before p ≡ true)) (λ p next fits. (fits, next)) (pair_of tokens) (pair_fits tokens)

pub all_fit : (tokens : List (List ℕ)) → IfSome (numbers_of tokens) (λ ns. (length ns ≡ length tokens) × All IsNumber ns)
unfolding numbers_of
all_fit [] = (refl, All-nil IsNumber)
all_fit (token ∷ tokens) = at (cert_number token) (numbers_of tokens) (number_fits token) (all_fit tokens)
  where
    at : (n : Option ℕ) (ns : Option (List ℕ)) → IfSome n IsNumber
        → IfSome ns (λ ns. (length ns ≡ length tokens) × All IsNumber ns)
        → IfSome (onto_numbers n ns) (λ ns. (length ns ≡ suc (length tokens)) × All IsNumber ns)
    at None ns fits all = tt
    at (Some n) None fits all = tt
    at (Some n) (Some ns) fits all = (ap suc all.0, All-cons IsNumber n ns fits all.1)

pub cycle_fits : (tokens : List (List ℕ)) → IfSome (cycle_of tokens) CycleFits
cycle_fits [] = tt
cycle_fits (token ∷ tokens) = at (numbers_of (token ∷ tokens)) (all_fit (token ∷ tokens))
  where
    at : (ns : Option (List ℕ)) → IfSome ns (λ ns. (length ns ≡ suc (length tokens)) × All IsNumber ns)
        → IfSome ns CycleFits
    at None all = tt
    at (Some ns) all = record { some = omega (arith, all.0); numbers = all.1 }

pub base_fits : (tokens : List (List ℕ)) → IfSome (base_of tokens) IsNumber
base_fits [] = tt
base_fits (w ∷ []) = tt
base_fits (w ∷ x ∷ []) = elim (cases_Bool (bytes_eq w (codes "tree"))) [ inl is ↦ rw is (number_fits x) | inr other ↦ rw other tt ]
base_fits (w ∷ x ∷ t ∷ ts) = tt

pub base_at_fits : (base : ℕ) (tokens : List (List ℕ)) → IfSome (base_at base tokens) (λ x. IsNumber x × (x ≡ base))
base_at_fits base tokens =
    filter_fits (λ y. y == base) IsNumber (λ x. IsNumber x × (x ≡ base)) (λ x same fits. (fits, eqb-true x base same)) (base_of tokens) (base_fits tokens)

pub record AreCounts (counts : Counts) : Type 0 where
  pub vertices : IsNumber counts.vertices
  pub faces : IsNumber counts.faces
  pub left : IsNumber counts.left

pub counts_fit : (tokens : List (List ℕ)) → IfSome (counts_of tokens) AreCounts
counts_fit [] = tt
counts_fit (w ∷ []) = tt
counts_fit (w ∷ v ∷ []) = tt
counts_fit (w ∷ v ∷ f ∷ []) = tt
counts_fit (w ∷ v ∷ f ∷ k ∷ []) = elim (cases_Bool (bytes_eq w (codes "counts"))) [
  | inl is ↦ rw is (at (cert_number v) (cert_number f) (cert_number k) (number_fits v) (number_fits f) (number_fits k))
  | inr other ↦ rw other tt
]
  where
    at : (v f k : Option ℕ) → IfSome v IsNumber → IfSome f IsNumber → IfSome k IsNumber
        → IfSome (three_counts v f k) AreCounts
    at None f k a b c = tt
    at (Some v) None k a b c = tt
    at (Some v) (Some f) None a b c = tt
    at (Some v) (Some f) (Some k) a b c = record { vertices = a; faces = b; left = c }
counts_fit (w ∷ v ∷ f ∷ k ∷ t ∷ ts) = tt
