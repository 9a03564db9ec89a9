-- The texts of words by their number; no row of the command table has no word, or seven words or more.
use Rattle.std.proofs.Common.{◌≡◌, ◌<◌, ◌≤◌, ℕ, false, List, [], ◌∷◌, length, get_or, None, String, refl, arith}
use Rattle.std.specs.Prelude.{◌==◌, string_bytes}
use Rattle.surf_surfaces.proofs.Common.{ne_eqb, length-map}
use Rattle.std.specs.declared.alloc.Global.{Global}
use Rattle.surf_words.specs.Words.{texts, request_of}

pub no_words : (words : List (String Global)) → length words < 1 → request_of (texts words) ≡ None
unfolding request_of
no_words [] l = refl
no_words (a ∷ more) l = absurd (omega (arith, l))

pub six_texts : (words : List (String Global)) {a b c d e f : String Global} → 6 ≤ length words → length words < 7 →
    a ≡ get_or words 0 a → b ≡ get_or words 1 b → c ≡ get_or words 2 c → d ≡ get_or words 3 d → e ≡ get_or words 4 e →
    f ≡ get_or words 5 f →
    texts words ≡ string_bytes a ∷ string_bytes b ∷ string_bytes c ∷ string_bytes d ∷ string_bytes e ∷ string_bytes f ∷ []
six_texts [] l m a b c d e f = absurd (omega (arith, l))
six_texts (_ ∷ []) l m a b c d e f = absurd (omega (arith, l))
six_texts (_ ∷ _ ∷ []) l m a b c d e f = absurd (omega (arith, l))
six_texts (_ ∷ _ ∷ _ ∷ []) l m a b c d e f = absurd (omega (arith, l))
six_texts (_ ∷ _ ∷ _ ∷ _ ∷ []) l m a b c d e f = absurd (omega (arith, l))
six_texts (_ ∷ _ ∷ _ ∷ _ ∷ _ ∷ []) l m a b c d e f = absurd (omega (arith, l))
six_texts (_ ∷ _ ∷ _ ∷ _ ∷ _ ∷ _ ∷ []) l m a b c d e f = rw (a, b, c, d, e, f) refl
six_texts (_ ∷ _ ∷ _ ∷ _ ∷ _ ∷ _ ∷ _ ∷ more) l m a b c d e f = absurd (omega (arith, m))

many_texts : (words : List (List ℕ)) → 7 ≤ length words → request_of words ≡ None
unfolding request_of
many_texts words l = rw (
  other 1 (omega arith),
  other 2 (omega arith),
  other 3 (omega arith),
  other 4 (omega arith),
  other 5 (omega arith),
  other 6 (omega arith),
) refl
  where
    other : (n : ℕ) → n < 7 → (n == length words) ≡ false
    other n few = ne_eqb n (length words) (λ is. omega (arith, is, few, l))

pub many_words : (words : List (String Global)) → 7 ≤ length words → request_of (texts words) ≡ None
many_words words l = many_texts (texts words) (rw (length-map words string_bytes) l)
