-- What is read as a length file gives each edge a length.
use Rattle.surf_surfaces.proofs.Common.{◌≡◌, ◌<◌, ◌⊎◌, ◌∷◌, ◌&&◌, ℕ, false, List, [], length, get_or, set, Option, Some, None, Result, Ok, refl, sym, ap, ◌∙◌, subst, arith, inl, inr, nat_le, cases_Bool, cases_eq, and_parts, leb-true, eqb-false, replicate, unwrap_or, slice_index, length-replicate, length-set, get_or-replicate, get_or-set_other, get_or-set_same, IfSome, get_or_default, Mesh, edge_count, ◌==◌}
use Rattle.std.specs.Prelude.{codes, is_some, ok_or}
use Rattle.std.specs.List.{fold, position}
use Rattle.surf_text.specs.Text.{TextLine, tokens_of, lines_of}
use Rattle.surf_lengths.specs.Files.{Head, behind_version, length_head, Named, none_named, name_edge, name_line, all_named, missing_edge, lengths_in}
use Rattle.surf_lengths.specs.Lengths.{IsLength, AreLengths, longest}
use Rattle.surf_lengths.specs.Lines.{as_length, entry_of, of_numbers, default_of, three_numbers, edge_named, begins_with, is_version, second_number}
use Rattle.surf_lengths.specs.declared.fault.LengthFault.{LengthFault}
use Rattle.surf_lengths.specs.declared.fault.LengthFault.TheVariants.{Form, Range, NotEdge}
use Rattle.surf_class.proofs.Lists.{none_passes}
use Rattle.surf_outcomes.proofs.Holding.{Holds, then_holds, anything, of_read, of_option, of_choice}

-- ---- lines

length_is : (n m : ℕ) → as_length n ≡ Some m → IsLength m
length_is n m is = elim (cases_Bool (nat_le 1 n && nat_le n longest)) [
  | inl fits ↦
      let both = and_parts (nat_le 1 n) (nat_le n longest) fits in
      let same : n ≡ m = some_same n m (rw fits at is) in
      subst IsLength same (record { positive = leb-true 1 n both.0; fits = leb-true n longest both.1 })
  | inr out ↦ absurd (let bad : None ≡ Some m = rw out at is in cc)
]
  where
    some_same : (a b : ℕ) → Some a ≡ Some b → a ≡ b
    some_same a b is = cc

entry_is : (mesh : Mesh) (line : TextLine) → Holds (λ (x : ℕ × ℕ). IsLength x.1) (entry_of mesh line)
entry_is mesh line =
    let Good : ℕ × ℕ → Type 0 = λ x. IsLength x.1 in
    let three : Result (ℕ × ℕ × ℕ) LengthFault = ok_or (three_numbers (tokens_of line.bytes)) (Form line.number) in
    then_holds (λ _. Unit {0}) Good three (of_numbers mesh line.number) (anything three)
    (λ x _. let long : Result ℕ LengthFault = ok_or (as_length x.2) (Range line.number) in
    let edge : Result ℕ LengthFault = ok_or (edge_named mesh x.0 x.1) (NotEdge line.number) in
    then_holds IsLength Good long _ (of_option IsLength (as_length x.2) (Range line.number) (λ m is. length_is x.2 m is))
    (λ n is. then_holds (λ _. Unit {0}) Good edge _ (anything edge) (λ e _. is)))

abbrev HasDefault : Head → Type 0
HasDefault head = IfSome head.default IsLength

default_is : (line : TextLine) → Holds IsLength (default_of line)
default_is line =
    let number : Result ℕ LengthFault = ok_or (second_number (tokens_of line.bytes)) (Form line.number) in
    then_holds (λ _. Unit {0}) IsLength number _ (anything number)
    (λ n _. of_option IsLength (as_length n) (Range line.number) (λ m is. length_is n m is))

behind_is : (lines : List TextLine) → Holds HasDefault (behind_version lines)
behind_is [] = tt
behind_is (line ∷ rest) =
    of_choice HasDefault (begins_with (codes "default") (tokens_of line.bytes)) _ _
    (λ _. then_holds IsLength HasDefault (default_of line) _ (default_is line) (λ n is. is)) (λ _. tt)

head_is : (lines : List TextLine) → Holds HasDefault (length_head lines)
head_is [] = tt
head_is (line ∷ rest) =
    of_choice HasDefault (begins_with (codes "SURFLEN") (tokens_of line.bytes)) _ _
    (λ _. of_choice HasDefault (is_version (tokens_of line.bytes)) _ _ (λ _. behind_is rest) (λ _. tt)) (λ _. tt)

-- ---- edges

module _ (mesh : Mesh) (default : Option ℕ) (is_default : IfSome default IsLength) where
  -- an edge has a length, unless no line names it and there is no default
  abbrev HasLengthAt : Named → ℕ → Type 0
  HasLengthAt named e =
      IsLength (slice_index named.lengths e) ⊎ ((slice_index named.lines e ≡ 0) × (is_some default ≡ false))

  pub record AreSoFar (named : Named) : Type 0 where
    pub lengths : length named.lengths ≡ edge_count mesh
    pub lines : length named.lines ≡ edge_count mesh
    pub each : (e : ℕ) → e < edge_count mesh → HasLengthAt named e

  none_yet : AreSoFar (none_named mesh default)
  none_yet = record {
    lengths = length-replicate (edge_count mesh) (unwrap_or default 0);
    lines = length-replicate (edge_count mesh) 0;
    each = λ e l. at default is_default e l;
  }
    where
      at : (o : Option ℕ) → IfSome o IsLength → (e : ℕ) → e < edge_count mesh →
          IsLength (slice_index (replicate (edge_count mesh) (unwrap_or o 0)) e)
          ⊎ ((slice_index (replicate (edge_count mesh) 0) e ≡ 0) × (is_some o ≡ false))
      at None is e l = inr (get_or-replicate (edge_count mesh) e 0 0 l, refl)
      at (Some n) is e l = inl (subst IsLength (sym (get_or-replicate (edge_count mesh) e n 0 l)) is)

  one_named : (named : Named) (line : ℕ) (x : ℕ × ℕ) → IsLength x.1 → AreSoFar named →
      Holds AreSoFar (name_edge named line x)
  one_named named line x long so =
      of_choice AreSoFar (slice_index named.lines x.0 == 0) _ _ (λ _. record {
        lengths = length-set named.lengths x.0 x.1 ∙ so.lengths;
        lines = length-set named.lines x.0 line ∙ so.lines;
        each = λ e l. elim (cases_eq x.0 e) [
          | inl here ↦ inl (subst IsLength (sym (ap (λ k. get_or (set named.lengths k x.1) e 0) here
              ∙ get_or-set_same named.lengths e x.1 0 (let count = so.lengths in omega (arith, count, l)))) long)
          | inr other ↦ subst2 (sym (get_or-set_other named.lengths x.0 e x.1 0 (λ same. other (sym same))))
              (sym (get_or-set_other named.lines x.0 e line 0 (λ same. other (sym same)))) (so.each e l)
        ];
      }) (λ _. tt)
    where
      subst2 : {a b c d : ℕ} → a ≡ b → c ≡ d → IsLength a ⊎ ((c ≡ 0) × (is_some default ≡ false)) →
          IsLength b ⊎ ((d ≡ 0) × (is_some default ≡ false))
      subst2 first second (inl long) = inl (subst IsLength first long)
      subst2 first second (inr none) = inr (sym second ∙ none.0, none.1)

  line_named : (read : Result Named LengthFault) (line : TextLine) → Holds AreSoFar read →
      Holds AreSoFar (name_line mesh read line)
  unfolding name_line
  line_named read line so =
      then_holds AreSoFar AreSoFar read _ so (λ named are.
      then_holds (λ (x : ℕ × ℕ). IsLength x.1) AreSoFar (entry_of mesh line) (name_edge named line.number)
      (entry_is mesh line) (λ x long. one_named named line.number x long are))

  lines_named : (read : Result Named LengthFault) (lines : List TextLine) → Holds AreSoFar read →
      Holds AreSoFar (fold (name_line mesh) read lines)
  lines_named read [] so = so
  lines_named read (line ∷ lines) so = lines_named (name_line mesh read line) lines (line_named read line so)

  pub entries_named : (lines : List TextLine) → Holds AreSoFar (fold (name_line mesh) (Ok (none_named mesh default)) lines)
  entries_named lines = lines_named (Ok (none_named mesh default)) lines none_yet

  -- each edge has its length
  abbrev AreAll : List ℕ → Type 0
  AreAll lengths = AreLengths lengths × (length lengths ≡ edge_count mesh)

  each_long : (named : Named) → AreSoFar named → missing_edge default named.lines ≡ None → (e : ℕ) →
      e < edge_count mesh → IsLength (slice_index named.lengths e)
  each_long named so none e l = elim (so.each e l) [
    | inl long ↦ long
    | inr out ↦
        let places : position (λ line. line == 0) named.lines ≡ None = rw out.1 at none in
        absurd (eqb-false (slice_index named.lines e) 0
        (none_passes (λ line. line == 0) named.lines 0 places e (let count = so.lines in omega (arith, count, l))) out.0)
  ]

  all_long : (named : Named) (o : Option ℕ) → missing_edge default named.lines ≡ o → AreSoFar named →
      Holds AreAll (all_named mesh named o)
  all_long named None is so = (
    λ k d l. subst IsLength (sym (get_or_default named.lengths k d 0 l))
        (each_long named so is k (let count = so.lengths in omega (arith, count, l))),
    so.lengths,
  )
  all_long named (Some e) is so = tt

abbrev AreLong : Mesh → List ℕ → Type 0
AreLong mesh lengths = AreLengths lengths × (length lengths ≡ edge_count mesh)

texts_long : (mesh : Mesh) (text : List ℕ) → Holds (AreLong mesh) (lengths_in mesh text)
texts_long mesh text =
    then_holds HasDefault (AreLong mesh) (length_head (lines_of text)) _ (head_is (lines_of text))
    (λ head default. then_holds (AreSoFar mesh head.default default) (AreLong mesh)
    (fold (name_line mesh) (Ok (none_named mesh head.default)) head.entries) _
    (entries_named mesh head.default default head.entries)
    (λ named so. all_long mesh head.default default named (missing_edge head.default named.lines) refl so))

pub texts_are_long : (mesh : Mesh) (text lengths : List ℕ) → lengths_in mesh text ≡ Ok lengths →
    AreLengths lengths × (length lengths ≡ edge_count mesh)
texts_are_long mesh text lengths is = of_read (AreLong mesh) (lengths_in mesh text) lengths is (texts_long mesh text)
