-- Lines that name edges, one after the other, and the one table of their lengths.
use Rattle.surf_surfaces.proofs.Common.{◌≡◌, ◌≢◌, ℕ, zero, suc, ◌<◌, ◌≤◌, ◌+◌, ◌⊎◌, eqb, Bool, true, false, List, [], ◌∷◌, ◌++◌, append_assoc, length, get_or, set, map, replicate, Option, Some, None, Result, Ok, Err, unwrap_or, refl, sym, ap, ◌∙◌, subst, arith, inl, inr, ◌&&◌, AllByRecursion, fold, position, position_or_len, nat_le, All, cases_eq, cases_Bool, eq-eqb, eqb-true, ne_eqb, nat_tests, get_or-set_same, get_or-set_other, append-nil, get_or-map, get_or-replicate, get_or_default, length-map, Mesh, edge_count, same_number_lists, fold-append}
use Rattle.std.specs.Prelude.{ok_or}
use Rattle.std.proofs.Math.ListN.{length-set, length-replicate}
use Rattle.surf_text.specs.Text.{TextLine, tokens_of, trimmed, uncommented, onto_lines, numbered_from}
use Rattle.surf_text.proofs.Cuts.{none_is}
use Rattle.surf_lengths.specs.Lengths.{longest}
use Rattle.surf_base.specs.Gives.{◌>>=◌}
use Rattle.surf_lengths.specs.Lines.{entry_of, of_numbers, edge_named, three_numbers}
use Rattle.surf_lengths.specs.Files.{Head, Named, none_named, name_edge, name_line, all_named, missing_edge}
use Rattle.surf_lengths.specs.Naming.{NamesOther, IsFirstNaming, length_or, IsTableOf, AreNamed}
use Rattle.surf_lengths.specs.Walks.{IsEntry, IsFaulty}
use Rattle.surf_lengths.specs.declared.line.Entry.{Entry}
use Rattle.surf_lengths.specs.declared.fault.LengthFault.{LengthFault}
use Rattle.surf_lengths.specs.declared.fault.LengthFault.TheVariants.{Form, NotEdge, Twice}

-- behind a faulty line nothing is read
pub after_fault : (mesh : Mesh) (fault : LengthFault) (lines : List TextLine) → fold (name_line mesh) (Err fault) lines ≡ Err fault
unfolding name_line
after_fault mesh fault [] = refl
after_fault mesh fault (line ∷ rest) = after_fault mesh fault rest

pub bad_line : (mesh : Mesh) (named : Named) (fault : LengthFault) (line : TextLine) (rest : List TextLine) → entry_of mesh line >>= name_edge named line.number ≡ Err fault →
    fold (name_line mesh) (Ok named) (line ∷ rest) ≡ Err fault
unfolding name_line
bad_line mesh named fault line rest bad = ap (λ (s : Result Named LengthFault). fold (name_line mesh) s rest) bad ∙ after_fault mesh fault rest

pub good_line : (mesh : Mesh) (named next : Named) (line : TextLine) (rest : List TextLine) → entry_of mesh line >>= name_edge named line.number ≡ Ok next →
    fold (name_line mesh) (Ok named) (line ∷ rest) ≡ fold (name_line mesh) (Ok next) rest
unfolding name_line
good_line mesh named next line rest good = ap (λ (s : Result Named LengthFault). fold (name_line mesh) s rest) good

-- the first line to come, as it is read
pub entry_bad : (mesh : Mesh) (named : Named) (fault : LengthFault) (old : List TextLine) → IsFaulty mesh old fault →
    fold (name_line mesh) (Ok named) old ≡ Err fault
entry_bad mesh named fault old is =
    ap (fold (name_line mesh) (Ok named)) is.first
    ∙ bad_line mesh named fault is.line is.rest (ap (λ r. r >>= name_edge named is.line.number) is.said)

module _ (mesh : Mesh) (named : Named) (old new : List TextLine) (entry : Entry) (is : IsEntry mesh old new entry) where
  named_by : entry_of mesh is.line >>= name_edge named is.line.number ≡ name_edge named entry.line (entry.edge, entry.length)
  named_by = ap (λ r. r >>= name_edge named is.line.number) is.said ∙ ap (λ (n : ℕ). name_edge named n (entry.edge, entry.length)) is.number

  pub entry_twice : (fault : LengthFault) → name_edge named entry.line (entry.edge, entry.length) ≡ Err fault →
      fold (name_line mesh) (Ok named) old ≡ Err fault
  entry_twice fault bad = ap (fold (name_line mesh) (Ok named)) is.first ∙ bad_line mesh named fault is.line new (named_by ∙ bad)

  pub entry_named : (next : Named) → name_edge named entry.line (entry.edge, entry.length) ≡ Ok next →
      fold (name_line mesh) (Ok named) old ≡ fold (name_line mesh) (Ok next) new
  entry_named next good = ap (fold (name_line mesh) (Ok named)) is.first ∙ good_line mesh named next is.line new (named_by ∙ good)

  pub entry_fewer : length new < length old
  entry_fewer = omega (arith, ap (λ (xs : List TextLine). length xs) is.first)

second : Result (ℕ × ℕ) LengthFault → ℕ
second (Ok x) = x.1
second (Err fault) = 0

-- a line that is an entry has a positive length
entry_positive : (mesh : Mesh) (line : TextLine) (x : ℕ × ℕ) → entry_of mesh line ≡ Ok x → 1 ≤ x.1
unfolding second
entry_positive mesh line x is = of_three (three_numbers (tokens_of line.bytes)) is
  where
    of_edge : (l n : ℕ) (found : Option ℕ) → 1 ≤ n → ok_or found (NotEdge l) >>= (λ e. Ok (e, n)) ≡ Ok x → 1 ≤ x.1
    of_edge l n None p h = cc
    of_edge l n (Some e) p h = subst (λ (r : Result (ℕ × ℕ) LengthFault). 1 ≤ second r) h p

    of_number : (l u v n : ℕ) → of_numbers mesh l (u, v, n) ≡ Ok x → 1 ≤ x.1
    of_number l u v n h = elim (cases_Bool (nat_le 1 n && nat_le n longest)) [
      | inl fits ↦ of_edge l n (edge_named mesh u v) (grind (arith, nat_tests)) (rw fits at h)
      | inr out ↦ let bad = rw out at h in cc
    ]

    of_three : (three : Option (ℕ × ℕ × ℕ)) → ok_or three (Form line.number) >>= of_numbers mesh line.number ≡ Ok x → 1 ≤ x.1
    of_three None h = cc
    of_three (Some t) h = of_number line.number t.0 t.1 t.2 h

-- the lines that are read from a line on have no lesser number
pub numbered_more : (n : ℕ) (parts : List (List ℕ)) (line : TextLine) (rest : List TextLine) → numbered_from n parts ≡ line ∷ rest → n ≤ line.number
numbered_more n [] line rest is = absurd cc
numbered_more n (p ∷ ps) line rest is = at (tokens_of p) is (λ h. numbered_more (n + 1) ps line rest h)
  where
    at : (ts : List (List ℕ)) → onto_lines (record { number = n; bytes = trimmed (uncommented p) }) ts (numbered_from (n + 1) ps) ≡ line ∷ rest →
        (numbered_from (n + 1) ps ≡ line ∷ rest → n + 1 ≤ line.number) → n ≤ line.number
    at [] h more = omega (arith, more h)
    at (t ∷ ts) h more =
        let same : ◌≡◌ {A = TextLine} (record { number = n; bytes = trimmed (uncommented p) }) line = cc in
        omega (arith, ap (λ (l : TextLine). l.number) same)

heads : Result Head LengthFault → List TextLine
heads (Ok head) = head.entries
heads (Err fault) = []

pub head_same : (a b : Head) → ◌≡◌ {A = Result Head LengthFault} (Ok a) (Ok b) → a.entries ≡ b.entries
unfolding heads
head_same a b h = ap heads h

pub err_not_ok : (fault : LengthFault) (n : ℕ) → ◌≡◌ {A = Result ℕ LengthFault} (Err fault) (Ok n) → ⊥
err_not_ok fault n h = cc

pub ok_number : (a b : ℕ) → ◌≡◌ {A = Result ℕ LengthFault} (Ok a) (Ok b) → b ≡ a
ok_number a b h = cc

-- ---- the first line that names an edge

module _ (mesh : Mesh) (e : ℕ) where
  others_push : (front : List TextLine) (line : TextLine) → AllByRecursion (NamesOther mesh e) front → NamesOther mesh e line → AllByRecursion (NamesOther mesh e) (front ++ line ∷ [])
  others_push [] line all other = (other, tt)
  others_push (x ∷ xs) line all other = (all.0, others_push xs line all.1 other)

  naming_more : (lines more : List TextLine) (n : ℕ) → IsFirstNaming mesh e lines n → IsFirstNaming mesh e (lines ++ more) n
  naming_more lines more n f = record {
    front = f.front;
    line = f.line;
    rest = f.rest ++ more;
    parts = ap (λ (t : List TextLine). t ++ more) f.parts ∙ append_assoc f.front (f.line ∷ f.rest) more;
    before = f.before;
    size = f.size;
    said = f.said;
    number_is = f.number_is;
    positive = f.positive;
  }

  module _ (lines new : List TextLine) (entry : Entry) (is : IsEntry mesh lines new entry) (n : ℕ) (f : IsFirstNaming mesh e lines n) where
    edge_of : Result (ℕ × ℕ) LengthFault → ℕ
    edge_of (Ok x) = x.0
    edge_of (Err fault) = 0

    same_edge : (d a b : ℕ) → ◌≡◌ {A = Result (ℕ × ℕ) LengthFault} (Ok (d, a)) (Ok (e, b)) → d ≡ e
    unfolding edge_of
    same_edge d a b h = ap edge_of h

    -- it is the next line
    pub naming_here : entry.edge ≡ e → entry.line ≡ n
    naming_here same = at f.front f.before (sym is.first ∙ f.parts)
      where
        at : (front : List TextLine) → AllByRecursion (NamesOther mesh e) front → is.line ∷ new ≡ front ++ f.line ∷ f.rest → entry.line ≡ n
        at [] before h =
            let line_is : is.line ≡ f.line = cc in
            sym is.number ∙ ap (λ (l : TextLine). l.number) line_is ∙ f.number_is
        at (x ∷ xs) before h =
            let line_is : is.line ≡ x = cc in
            let other = before.0 in
            absurd (other.other (same_edge other.entry.0 other.entry.1 entry.length (sym other.said ∙ ap (entry_of mesh) (sym line_is) ∙ is.said ∙ ap (λ (d : ℕ). Ok (d, entry.length)) same)))

    -- it comes later
    pub naming_later : entry.edge ≢ e → IsFirstNaming mesh e new n
    naming_later differ = at f.front f.before (sym is.first ∙ f.parts)
      where
        at : (front : List TextLine) → AllByRecursion (NamesOther mesh e) front → is.line ∷ new ≡ front ++ f.line ∷ f.rest → IsFirstNaming mesh e new n
        at [] before h =
            let line_is : is.line ≡ f.line = cc in
            absurd (differ (same_edge entry.edge entry.length f.size (sym is.said ∙ ap (entry_of mesh) line_is ∙ f.said)))
        at (x ∷ xs) before h =
            let rest_is : new ≡ xs ++ f.line ∷ f.rest = cc in
            record {
              front = xs;
              line = f.line;
              rest = f.rest;
              parts = rest_is;
              before = before.1;
              size = f.size;
              said = f.said;
              number_is = f.number_is;
              positive = f.positive;
            }

  -- the next line isn't faulty
  pub naming_sound : (lines : List TextLine) (n : ℕ) (fault : LengthFault) → IsFirstNaming mesh e lines n → IsFaulty mesh lines fault → ⊥
  naming_sound lines n fault f bad = at f.front f.before (sym bad.first ∙ f.parts)
    where
      at : (front : List TextLine) → AllByRecursion (NamesOther mesh e) front → bad.line ∷ bad.rest ≡ front ++ f.line ∷ f.rest → ⊥
      at [] before h =
          let line_is : bad.line ≡ f.line = cc in
          let both : ◌≡◌ {A = Result (ℕ × ℕ) LengthFault} (Err fault) (Ok (e, f.size)) = sym bad.said ∙ ap (entry_of mesh) line_is ∙ f.said in
          cc
      at (x ∷ xs) before h =
          let line_is : bad.line ≡ x = cc in
          let other = before.0 in
          let both : ◌≡◌ {A = Result (ℕ × ℕ) LengthFault} (Err fault) (Ok other.entry) = sym bad.said ∙ ap (entry_of mesh) line_is ∙ other.said in
          cc

  pub naming_some : (n : ℕ) → IsFirstNaming mesh e [] n → ⊥
  naming_some n f = at f.front f.parts
    where
      at : (front : List TextLine) → [] ≡ front ++ f.line ∷ f.rest → ⊥
      at [] h = cc
      at (x ∷ xs) h = cc

-- ---- the table of the lines so far

pub record IsSoFar (mesh : Mesh) (default : Option ℕ) (entries ahead : List TextLine) (table : List ℕ) : Type 0 where
  pub front : List TextLine
  pub parts : entries ≡ front ++ ahead
  pub named : AreNamed mesh default front table
  pub first : (e : ℕ) → e < edge_count mesh →
      ((get_or named.named.lines e 0 ≡ 0) × AllByRecursion (NamesOther mesh e) front) ⊎ IsFirstNaming mesh e front (get_or named.named.lines e 0)

module _ (mesh : Mesh) (default : Option ℕ) (entries : List TextLine) where
  pub none_so_far : (table : List ℕ) → table ≡ replicate (edge_count mesh) 0 → IsSoFar mesh default entries entries table
  none_so_far table none = subst (IsSoFar mesh default entries entries) (sym none) (record {
    front = [];
    parts = refl;
    named = record {
      named = none_named mesh default;
      read = refl;
      table_of = record {
        sized = length-replicate (edge_count mesh) 0;
        lengths_sized = length-replicate (edge_count mesh) (unwrap_or default 0);
        lines_sized = length-replicate (edge_count mesh) 0;
        none = λ e l. refl;
        lengths = λ e l. rw (get_or-replicate (edge_count mesh) e (unwrap_or default 0) 0 l, get_or-replicate {A = ℕ} (edge_count mesh) e 0 0 l) refl;
      };
    };
    first = λ e l. inl (get_or-replicate {A = ℕ} (edge_count mesh) e 0 0 l, tt);
  })

  module _ (old : List TextLine) (table : List ℕ) (so : IsSoFar mesh default entries old table) where
    named : Named
    named = so.named.named

    read_on : fold (name_line mesh) (Ok (none_named mesh default)) entries ≡ fold (name_line mesh) (Ok named) old
    unfolding named
    read_on =
        ap (fold (name_line mesh) (Ok (none_named mesh default))) so.parts
        ∙ fold-append (name_line mesh) (Ok (none_named mesh default)) so.front old
        ∙ ap (λ (s : Result Named LengthFault). fold (name_line mesh) s old) so.named.read

    pub so_far_bad : (fault : LengthFault) → IsFaulty mesh old fault → fold (name_line mesh) (Ok (none_named mesh default)) entries ≡ Err fault
    so_far_bad fault bad = read_on ∙ entry_bad mesh named fault old bad

    pub so_far_done : old ≡ [] → AreNamed mesh default entries table
    so_far_done none = subst (λ (es : List TextLine). AreNamed mesh default es table) (sym (so.parts ∙ ap (λ (t : List TextLine). so.front ++ t) none ∙ append-nil so.front)) so.named

    module _ (new : List TextLine) (entry : Entry) (is : IsEntry mesh old new entry) (inside : entry.edge < edge_count mesh) where
      e : ℕ
      e = entry.edge

      number : ℕ
      number = get_or named.lines e 0

      taken_first : get_or table entry.edge 0 ≢ 0 → IsFirstNaming mesh e so.front number
      unfolding number named e
      taken_first taken = elim (so.first entry.edge inside) [
        | inl out ↦ absurd (taken (eqb-true (get_or table entry.edge 0) 0 (so.named.table_of.none entry.edge inside ∙ eq-eqb (get_or so.named.named.lines entry.edge 0) 0 out.0)))
        | inr first ↦ first
      ]

      -- an edge that a line before names
      pub so_far_first : get_or table entry.edge 0 ≢ 0 → IsFirstNaming mesh entry.edge entries (get_or so.named.named.lines entry.edge 0)
      unfolding number named e
      so_far_first taken = subst (λ (es : List TextLine). IsFirstNaming mesh entry.edge es (get_or so.named.named.lines entry.edge 0)) (sym so.parts)
          (naming_more mesh entry.edge so.front old (get_or so.named.named.lines entry.edge 0) (taken_first taken))

      pub so_far_twice : get_or table entry.edge 0 ≢ 0 → fold (name_line mesh) (Ok (none_named mesh default)) entries ≡ Err (Twice entry.line (get_or so.named.named.lines entry.edge 0))
      unfolding named number e
      so_far_twice taken =
          let first = taken_first taken in
          let some : eqb (get_or so.named.named.lines entry.edge 0) 0 ≡ false = ne_eqb (get_or so.named.named.lines entry.edge 0) 0 (λ z. absurd (omega (arith, z, first.positive))) in
          read_on ∙ entry_twice mesh so.named.named old new entry is (Twice entry.line (get_or so.named.named.lines entry.edge 0)) (rw some refl)

      -- an edge that no line before names
      module _ (free : get_or table entry.edge 0 ≡ 0) (positive : 1 ≤ entry.line) where
        free_line : eqb (get_or so.named.named.lines entry.edge 0) 0 ≡ true
        free_line = sym (so.named.table_of.none entry.edge inside) ∙ eq-eqb (get_or table entry.edge 0) 0 free

        next : Named
        next = record { lengths = set so.named.named.lengths entry.edge entry.length; lines = set so.named.named.lines entry.edge entry.line }

        some_length : 1 ≤ entry.length
        some_length = entry_positive mesh is.line (entry.edge, entry.length) is.said

        in_table : entry.edge < length table
        in_table = omega (arith, so.named.table_of.sized, inside)

        in_lengths : entry.edge < length so.named.named.lengths
        in_lengths = omega (arith, so.named.table_of.lengths_sized, inside)

        in_lines : entry.edge < length so.named.named.lines
        in_lines = omega (arith, so.named.table_of.lines_sized, inside)

        no_length : eqb entry.length 0 ≡ false
        no_length = ne_eqb entry.length 0 (λ z. absurd (omega (arith, z, some_length)))

        no_line : eqb entry.line 0 ≡ false
        no_line = ne_eqb entry.line 0 (λ z. absurd (omega (arith, z, positive)))

        table_next : IsTableOf mesh default next (set table entry.edge entry.length)
        unfolding next
        table_next =
            let t = so.named.table_of in
            record {
              sized = length-set table entry.edge entry.length ∙ t.sized;
              lengths_sized = length-set so.named.named.lengths entry.edge entry.length ∙ t.lengths_sized;
              lines_sized = length-set so.named.named.lines entry.edge entry.line ∙ t.lines_sized;
              none = λ d l. elim (cases_eq d entry.edge) [
                | inl same ↦ rw (same, get_or-set_same table entry.edge entry.length 0 in_table, get_or-set_same so.named.named.lines entry.edge entry.line 0 in_lines, no_length, no_line) refl
                | inr ne ↦ rw (get_or-set_other table entry.edge d entry.length 0 ne, get_or-set_other so.named.named.lines entry.edge d entry.line 0 ne) (t.none d l)
              ];
              lengths = λ d l. elim (cases_eq d entry.edge) [
                | inl same ↦ rw (same, get_or-set_same so.named.named.lengths entry.edge entry.length 0 in_lengths, get_or-set_same table entry.edge entry.length 0 in_table, no_length) refl
                | inr ne ↦ rw (get_or-set_other so.named.named.lengths entry.edge d entry.length 0 ne, get_or-set_other table entry.edge d entry.length 0 ne) (t.lengths d l)
              ];
            }

        read_next : fold (name_line mesh) (Ok (none_named mesh default)) (so.front ++ is.line ∷ []) ≡ Ok next
        unfolding next
        read_next =
            fold-append (name_line mesh) (Ok (none_named mesh default)) so.front (is.line ∷ [])
            ∙ ap (λ (s : Result Named LengthFault). fold (name_line mesh) s (is.line ∷ [])) so.named.read
            ∙ good_line mesh so.named.named next is.line [] (
            ap (λ r. r >>= name_edge so.named.named is.line.number) is.said
            ∙ ap (λ (n : ℕ). name_edge so.named.named n (entry.edge, entry.length)) is.number
            ∙ rw free_line refl)

        first_here : IsFirstNaming mesh entry.edge (so.front ++ is.line ∷ []) entry.line
        first_here = elim (so.first entry.edge inside) [
          | inl out ↦ record {
            front = so.front;
            line = is.line;
            rest = [];
            parts = refl;
            before = out.1;
            size = entry.length;
            said = is.said;
            number_is = is.number;
            positive = positive;
          }
          | inr first ↦
              let zero_line : get_or so.named.named.lines entry.edge 0 ≡ 0 = eqb-true (get_or so.named.named.lines entry.edge 0) 0 free_line in
              absurd (omega (arith, zero_line, first.positive))
        ]

        first_next : (d : ℕ) → d < edge_count mesh →
            ((get_or (set so.named.named.lines entry.edge entry.line) d 0 ≡ 0) × AllByRecursion (NamesOther mesh d) (so.front ++ is.line ∷ []))
            ⊎ IsFirstNaming mesh d (so.front ++ is.line ∷ []) (get_or (set so.named.named.lines entry.edge entry.line) d 0)
        first_next d l = elim (cases_eq d entry.edge) [
          | inl same ↦ rw (same, get_or-set_same so.named.named.lines entry.edge entry.line 0 in_lines) (inr first_here)
          | inr ne ↦
              rw (get_or-set_other so.named.named.lines entry.edge d entry.line 0 ne)
              (elim (so.first d l) [
                | inl out ↦ inl (out.0, others_push mesh d so.front is.line out.1 (record { entry = (entry.edge, entry.length); said = is.said; other = λ same. ne (sym same) }))
                | inr first ↦ inr (naming_more mesh d so.front (is.line ∷ []) (get_or so.named.named.lines d 0) first)
              ])
        ]

        pub so_far_more : IsSoFar mesh default entries new (set table entry.edge entry.length)
        unfolding next
        so_far_more = record {
          front = so.front ++ is.line ∷ [];
          parts = so.parts ∙ ap (λ (t : List TextLine). so.front ++ t) is.first ∙ sym (append_assoc so.front (is.line ∷ []) new);
          named = record { named = next; read = read_next; table_of = table_next };
          first = first_next;
        }

-- ---- the lengths of all edges

none_passes : (p : ℕ → Bool) (xs : List ℕ) → position_or_len p xs ≡ length xs → (k : ℕ) → k < length xs → p (get_or xs k 0) ≡ true → ⊥
none_passes p [] e k l h = omega arith
none_passes p (x ∷ xs) e zero l h = let bad = rw h at e in omega arith
none_passes p (x ∷ xs) e (suc k) l h = elim (cases_Bool (p x)) [
  | inl here ↦ let bad = rw here at e in omega arith
  | inr out ↦ let later = rw out at e in none_passes p xs (omega arith) k (omega arith) h
]

-- tests that agree find one place
place_same : (p : ℕ → Bool) (xs ys : List ℕ) → length xs ≡ length ys → ((k : ℕ) → k < length xs → p (get_or xs k 0) ≡ p (get_or ys k 0)) → position_or_len p xs ≡ position_or_len p ys
place_same p [] [] size same = refl
place_same p [] (y ∷ ys) size same = absurd (omega (arith, size))
place_same p (x ∷ xs) [] size same = absurd (omega (arith, size))
place_same p (x ∷ xs) (y ∷ ys) size same =
    let here : p x ≡ p y = same 0 (omega arith) in
    let rest : position_or_len p xs ≡ position_or_len p ys = place_same p xs ys (omega (arith, size)) (λ k l. same (suc k) (omega (arith, l))) in
    rw (here, rest) refl

pub position_same : (p : ℕ → Bool) (xs ys : List ℕ) → length xs ≡ length ys → ((k : ℕ) → k < length xs → p (get_or xs k 0) ≡ p (get_or ys k 0)) → position p xs ≡ position p ys
position_same p xs ys size same = rw (place_same p xs ys size same, size) refl

module _ (mesh : Mesh) (default : Option ℕ) (named : Named) (table : List ℕ) (is : IsTableOf mesh default named table) where
  pub missing_same : position (λ n. eqb n 0) named.lines ≡ position (λ n. eqb n 0) table
  missing_same = sym (position_same (λ n. eqb n 0) table named.lines (is.sized ∙ sym is.lines_sized) (λ k l. is.none k (omega (arith, l, is.sized))))

  pub lengths_filled : named.lengths ≡ map (length_or default) table
  lengths_filled = same_number_lists named.lengths (map (length_or default) table) (is.lengths_sized ∙ sym is.sized ∙ sym (length-map table (length_or default)))
      (λ k l. let inside : k < length table = omega (arith, l, is.lengths_sized, is.sized) in
      is.lengths k (omega (arith, l, is.lengths_sized)) ∙ sym (get_or-map (length_or default) table k 0 0 inside))

length_none : (n : ℕ) → length_or None n ≡ n
length_none n = elim (cases_eq n 0) [
  | inl z ↦ rw z refl
  | inr ne ↦ rw (ne_eqb n 0 ne) refl
]

map_none : (xs : List ℕ) → map (length_or None) xs ≡ xs
map_none [] = refl
map_none (x ∷ xs) = rw (map_none xs) (ap (λ (n : ℕ). n ∷ xs) (length_none x))

-- with a default no edge is missing
pub complete_some : (mesh : Mesh) (m : ℕ) (named : Named) (table : List ℕ) → IsTableOf mesh (Some m) named table → all_named mesh named (missing_edge (Some m) named.lines) ≡ Ok (map (length_or (Some m)) table)
complete_some mesh m named table is = ap (λ (xs : List ℕ). Ok xs) (lengths_filled mesh (Some m) named table is)

pub filled_some : (m : ℕ) (table : List ℕ) → 1 ≤ m → All (λ n. n ≢ 0) (map (length_or (Some m)) table)
filled_some m table positive k d l z =
    let inside : k < length table = omega (arith, l, length-map table (length_or (Some m))) in
    at (get_or table k 0) (sym (get_or-map (length_or (Some m)) table k 0 d inside) ∙ z)
  where
    at : (n : ℕ) → length_or (Some m) n ≡ 0 → ⊥
    at n h = elim (cases_eq n 0) [
      | inl none ↦ let bad : m ≡ 0 = rw none at h in omega (arith, bad, positive)
      | inr ne ↦ let bad : n ≡ 0 = rw (ne_eqb n 0 ne) at h in ne bad
    ]

-- without one the first edge without a length is
pub missing_none : (mesh : Mesh) (named : Named) (table : List ℕ) → IsTableOf mesh None named table → missing_edge None named.lines ≡ position (λ n. eqb n 0) table
missing_none mesh named table is = missing_same mesh None named table is

pub complete_none : (mesh : Mesh) (named : Named) (table : List ℕ) → IsTableOf mesh None named table → position (λ n. eqb n 0) table ≡ None → all_named mesh named (missing_edge None named.lines) ≡ Ok table
complete_none mesh named table is none =
    rw (missing_none mesh named table is ∙ none) (ap (λ (xs : List ℕ). Ok xs) (lengths_filled mesh None named table is ∙ map_none table))

pub some_none : (table : List ℕ) → position (λ n. eqb n 0) table ≡ None → All (λ n. n ≢ 0) table
some_none table none k d l z =
    none_passes (λ n. eqb n 0) table (none_is (λ n. eqb n 0) table none) k l (eq-eqb (get_or table k 0) 0 (get_or_default table k 0 d l ∙ z))
