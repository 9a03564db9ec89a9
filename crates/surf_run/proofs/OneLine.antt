-- Each line that says why there is no answer is one line.
use Rattle.surf_answers.proofs.Common.{◌≡◌, ◌+◌, ◌/◌, ◌%◌, ℕ, zero, suc, Bool, true, false, List, [], ◌∷◌, ◌++◌, refl, sym, ap, ◌∙◌, append_assoc, arith, inl, inr, nat_lt, if◌then◌else◌, codes, decimal, ◌==◌, list_any, cases_Bool, ne_eqb, Cause, due, unread, starved, misused, line_of, limit_name, answers, refuses, misses}
use Rattle.surf_answers.proofs.Commands.{LimitKind, numbers_text, numbered, is_line_end, file_words, WalkFile, First}
use Rattle.surf_answers.proofs.Commands.{Second}
use Rattle.surf_run.proofs.Common.{IsOneLine}
use Rattle.std.specs.Fmt.{digits, digit_glyph, digits_onto}
use Rattle.surf_base.specs.declared.limits.LimitKind.TheVariants as limits
use Rattle.surf_off.proofs.NumberLines.{none_append}

-- what is due has one line, if it has any
abbrev pub IsSaid : Cause → Type 0
IsSaid (due (answers status text)) = Unit {0}
IsSaid (due (refuses status line)) = IsOneLine line
IsSaid (due misses) = Unit {0}
IsSaid unread = Unit {0}
IsSaid starved = Unit {0}

-- ---- numbers

glyph_is_none : (d : ℕ) → is_line_end (digit_glyph false d) ≡ false
glyph_is_none d = elim (cases_Bool (nat_lt d 10)) [
  | inl few ↦ rw few (ne_eqb (48 + d) 10 (λ is. absurd (omega (arith, is))))
  | inr many ↦ rw many (ne_eqb (87 + d) 10 (λ is. absurd (omega (arith, is))))
]

front_none : (b : ℕ) (bs : List ℕ) → is_line_end b ≡ false → list_any is_line_end bs ≡ false →
    list_any is_line_end (b ∷ bs) ≡ false
front_none b bs here rest = rw (here, rest) refl

digits_none : (k n : ℕ) (acc : List ℕ) → list_any is_line_end acc ≡ false →
    list_any is_line_end (digits_onto k 10 false n acc) ≡ false
digits_none zero n acc none = none
digits_none (suc k) n acc none =
    let more = front_none (digit_glyph false (n % 10)) acc (glyph_is_none (n % 10)) none in
    at (n / 10 == 0) more (digits_none k (n / 10) (digit_glyph false (n % 10) ∷ acc) more)
  where
    at : (last : Bool) → list_any is_line_end (digit_glyph false (n % 10) ∷ acc) ≡ false →
        list_any is_line_end (digits_onto k 10 false (n / 10) (digit_glyph false (n % 10) ∷ acc)) ≡ false →
        list_any is_line_end (if last then digit_glyph false (n % 10) ∷ acc else digits_onto k 10 false (n / 10)
        (digit_glyph false (n % 10) ∷ acc)) ≡ false
    at true here rest = here
    at false here rest = rest

pub decimal_none : (n : ℕ) → list_any is_line_end (decimal n) ≡ false
unfolding digits
decimal_none n = digits_none 64 n [] refl

numbers_none : (ns : List ℕ) → list_any is_line_end (numbers_text ns) ≡ false
numbers_none [] = refl
numbers_none (n ∷ ns) =
    none_append is_line_end (codes " " ++ decimal n) (numbers_text ns)
    (none_append is_line_end (codes " ") (decimal n) refl (decimal_none n)) (numbers_none ns)

-- ---- lines

-- two pieces before the line feed, and more
both_first : (a b e : List ℕ) → a ++ (b ++ e) ≡ (a ++ b) ++ e
both_first a b e = sym (append_assoc a b e)

three_first : (a b c e : List ℕ) → a ++ (b ++ (c ++ e)) ≡ (a ++ (b ++ c)) ++ e
three_first a b c e = ap (λ (x : List ℕ). a ++ x) (both_first b c e) ∙ both_first a (b ++ c) e

four_first : (a b c d e : List ℕ) → a ++ (b ++ (c ++ (d ++ e))) ≡ (a ++ (b ++ (c ++ d))) ++ e
four_first a b c d e = ap (λ (x : List ℕ). a ++ x) (three_first b c d e) ∙ both_first a (b ++ (c ++ d)) e

pub numbered_is_one : (words numbers : List ℕ) → list_any is_line_end words ≡ false → IsOneLine (numbered words numbers)
numbered_is_one words numbers none = record {
  front = words ++ numbers_text numbers;
  is = both_first words (numbers_text numbers) (codes "\n");
  no_other = none_append is_line_end words (numbers_text numbers) none (numbers_none numbers);
}

-- words and a number, twice
pub counted_is_one : (words between : List ℕ) (n m : ℕ) → list_any is_line_end words ≡ false →
    list_any is_line_end between ≡ false →
    IsOneLine (words ++ (decimal n ++ (between ++ (decimal m ++ codes "\n"))))
counted_is_one words between n m first second = record {
  front = words ++ (decimal n ++ (between ++ decimal m));
  is = four_first words (decimal n) between (decimal m) (codes "\n");
  no_other = none_append is_line_end words (decimal n ++ (between ++ decimal m)) first
      (none_append is_line_end (decimal n) (between ++ decimal m) (decimal_none n)
      (none_append is_line_end between (decimal m) second (decimal_none m)));
}

limit_none : (kind : LimitKind) → list_any is_line_end (limit_name kind) ≡ false
limit_none limits.Text = refl
limit_none limits.Vertices = refl
limit_none limits.Faces = refl
limit_none limits.Sides = refl
limit_none limits.Loops = refl
limit_none limits.BasisVertices = refl
limit_none limits.CertificateVertices = refl
limit_none limits.Answer = refl
limit_none limits.CoverLoops = refl
limit_none limits.CoverNodes = refl

pub limit_is_one : (kind : LimitKind) → IsOneLine (codes "limit: " ++ limit_name kind ++ codes "\n")
limit_is_one kind = record {
  front = codes "limit: " ++ limit_name kind;
  is = both_first (codes "limit: ") (limit_name kind) (codes "\n");
  no_other = none_append is_line_end (codes "limit: ") (limit_name kind) refl (limit_none kind);
}

file_none : (file : WalkFile) → list_any is_line_end (file_words file) ≡ false
file_none First = refl
file_none Second = refl

pub walk_is_one : (file : WalkFile) (words numbers : List ℕ) → list_any is_line_end words ≡ false →
    IsOneLine (file_words file ++ numbered words numbers)
walk_is_one file words numbers none = record {
  front = file_words file ++ (words ++ numbers_text numbers);
  is = three_first (file_words file) words (numbers_text numbers) (codes "\n");
  no_other = none_append is_line_end (file_words file) (words ++ numbers_text numbers) (file_none file)
      (none_append is_line_end words (numbers_text numbers) none (numbers_none numbers));
}

-- ---- the lines that name no number

pub misused_is_one : IsOneLine (line_of (due misused))
misused_is_one =
    record { front = codes "usage: the words are in no row of the command table"; is = refl; no_other = refl }

pub read_fault_is_one : IsOneLine (codes "read fault\n")
read_fault_is_one = record { front = codes "read fault"; is = refl; no_other = refl }

pub write_fault_is_one : IsOneLine (codes "write fault\n")
write_fault_is_one = record { front = codes "write fault"; is = refl; no_other = refl }

pub memory_is_one : IsOneLine (codes "memory\n")
memory_is_one = record { front = codes "memory"; is = refl; no_other = refl }
