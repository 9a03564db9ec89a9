-- Lengths that are written are read as what was handed in.
use Rattle.surf_surfaces.proofs.Common.{◌≡◌, ◌<◌, ◌≤◌, ◌+◌, ◌^◌, eqb, ℕ, zero, suc, Bool, true, false, List, [], ◌∷◌, ◌++◌, length, get_or, set, replicate, map, Some, None, Option, Ok, Err, Result, unwrap_or, refl, sym, ◌∙◌, ap, append_assoc, arith, codes, inl, inr, zip, fold, position, position_or_len, range_with_len, le-ltb, ne_eqb, length-range_with_len, Mesh, IsMesh, edges, edge_count, ends}
use Rattle.std.proofs.Math.Seq.{set-append_seam}
use Rattle.std.proofs.lemmas.Slice.Zip.{length-zip, seconds-zip}
use Rattle.surf_surfaces.proofs.meshes.CellLaws.{ends_below}
use Rattle.surf_text.specs.Text.{TextLine, lines_of}
use Rattle.surf_off.proofs.Reread.{lines_from}
use Rattle.surf_lengths.specs.Lengths.{AreLengths}
use Rattle.surf_lengths.specs.Lines.{entry_of}
use Rattle.surf_base.specs.Gives.{◌>>=◌}
use Rattle.surf_lengths.specs.Files.{Named, none_named, name_edge, name_line, length_head, lengths_in}
use Rattle.surf_lengths.specs.declared.fault.LengthFault.{LengthFault}
use Rattle.surf_geom.specs.Texts.{lengths_text}
use Rattle.surf_geom.proofs.Entries.{IsEntry, entries_text, line_of, entry_first, entry_is, no_version}

-- entries for the edges from a number on
unfoldable AreEntries : Mesh → ℕ → List ((ℕ × ℕ) × ℕ) → Type 0
AreEntries mesh e [] = Unit {0}
AreEntries mesh e (x ∷ xs) = IsEntry mesh e x × AreEntries mesh (e + 1) xs

-- their lines, the first of this number
text_lines : ℕ → List ((ℕ × ℕ) × ℕ) → List TextLine
text_lines n [] = []
text_lines n (x ∷ xs) = record { number = n; bytes = line_of x } ∷ text_lines (n + 1) xs

lines_are : (mesh : Mesh) (e n : ℕ) (xs : List ((ℕ × ℕ) × ℕ)) → AreEntries mesh e xs → lines_from n (entries_text xs) ≡ text_lines n xs
unfolding AreEntries text_lines
lines_are mesh e n [] all = refl
lines_are mesh e n (x ∷ xs) all =
    entry_first mesh e x all.0 n (entries_text xs) ∙ ap (λ (ls : List TextLine). record { number = n; bytes = line_of x } ∷ ls) (lines_are mesh (e + 1) (n + 1) xs all.1)

-- the tables before and after some lines
abbrev before_lines : List ℕ → List ℕ → ℕ → Named
before_lines front marks n = record { lengths = front ++ replicate n 0; lines = marks ++ replicate n 0 }

get-append_seam : (xs ys : List ℕ) (y d e : ℕ) → length xs ≡ e → get_or (xs ++ y ∷ ys) e d ≡ y
get-append_seam [] ys y d e is = ap (λ (k : ℕ). get_or (y ∷ ys) k d) (sym is)
get-append_seam (x ∷ xs) ys y d zero is = absurd (omega arith)
get-append_seam (x ∷ xs) ys y d (suc e) is = get-append_seam xs ys y d e (omega arith)

pushed-append : (xs ys : List ℕ) (x : ℕ) → (xs ++ x ∷ []) ++ ys ≡ xs ++ x ∷ ys
pushed-append xs ys x = append_assoc xs (x ∷ []) ys

length_more : (xs : List ℕ) (x e : ℕ) → length xs ≡ e → length (xs ++ x ∷ []) ≡ e + 1
length_more xs x e is = omega (arith, Rattle.std.proofs.Common.length-append xs (x ∷ []))

one_named : (e l n rest : ℕ) (front marks : List ℕ) → length front ≡ e → length marks ≡ e →
    name_edge (before_lines front marks (suc rest)) l (e, n) ≡ Ok (before_lines (front ++ n ∷ []) (marks ++ l ∷ []) rest)
one_named e l n rest front marks long also =
    let free : get_or (marks ++ replicate (suc rest) 0) e 0 ≡ 0 = get-append_seam marks (replicate rest 0) 0 0 e also in
    let lengths : set (front ++ replicate (suc rest) 0) e n ≡ (front ++ n ∷ []) ++ replicate rest 0 =
    ap (λ (k : ℕ). set (front ++ replicate (suc rest) 0) k n) (sym long) ∙ set-append_seam front 0 (replicate rest 0) n ∙ sym (pushed-append front (replicate rest 0) n) in
    let lines : set (marks ++ replicate (suc rest) 0) e l ≡ (marks ++ l ∷ []) ++ replicate rest 0 =
    ap (λ (k : ℕ). set (marks ++ replicate (suc rest) 0) k l) (sym also) ∙ set-append_seam marks 0 (replicate rest 0) l ∙ sym (pushed-append marks (replicate rest 0) l) in
    rw (free, lengths, lines) refl

all_named : (mesh : Mesh) (e : ℕ) (xs : List ((ℕ × ℕ) × ℕ)) (front marks : List ℕ) → AreEntries mesh e xs → length front ≡ e → length marks ≡ e →
    fold (name_line mesh) (Ok (before_lines front marks (length xs))) (text_lines (e + 1) xs)
    ≡ Ok (record { lengths = front ++ map (λ x. x.1) xs; lines = marks ++ range_with_len (e + 1) (length xs) })
unfolding AreEntries text_lines name_line
all_named mesh e [] front marks all long also = refl
all_named mesh e (x ∷ xs) front marks all long also =
    let first : entry_of mesh (record { number = e + 1; bytes = line_of x }) >>= name_edge (before_lines front marks (suc (length xs))) (e + 1) ≡ Ok (before_lines (front ++ x.1 ∷ []) (marks ++ (e + 1) ∷ []) (length xs)) =
    ap (λ r. r >>= name_edge (before_lines front marks (suc (length xs))) (e + 1)) (entry_is mesh e x all.0 (e + 1)) ∙ one_named e (e + 1) x.1 (length xs) front marks long also in
    let later = all_named mesh (e + 1) xs (front ++ x.1 ∷ []) (marks ++ (e + 1) ∷ []) all.1 (length_more front x.1 e long) (length_more marks (e + 1) e also) in
    ap (λ (r : Result Named LengthFault). fold (name_line mesh) r (text_lines (e + 1 + 1) xs)) first ∙ later
    ∙ ap (λ (ns : List ℕ). Ok (record { lengths = ns; lines = (marks ++ (e + 1) ∷ []) ++ range_with_len (e + 1 + 1) (length xs) })) (pushed-append front (map (λ x. x.1) xs) x.1)
    ∙ ap (λ (ls : List ℕ). Ok (record { lengths = front ++ x.1 ∷ map (λ x. x.1) xs; lines = ls })) (pushed-append marks (range_with_len (e + 1 + 1) (length xs)) (e + 1))

-- lines are numbered from 1, so none is 0
none_zero : (from n : ℕ) → position_or_len (λ line. eqb line 0) (range_with_len (from + 1) n) ≡ n
none_zero from zero = refl
none_zero from (suc n) = rw (ne_eqb (from + 1) 0 (λ e. omega arith)) (omega (arith, none_zero (from + 1) n))

none_missing : (n : ℕ) → position (λ line. eqb line 0) (range_with_len 1 n) ≡ None
none_missing n = rw (le-ltb (position_or_len (λ line. eqb line 0) (range_with_len 1 n)) (length (range_with_len 1 n)) (omega (arith, none_zero 0 n, length-range_with_len 1 n))) refl

entries_of : (mesh : Mesh) (e : ℕ) (ps : List (ℕ × ℕ)) (ns : List ℕ) →
    ((k : ℕ) → k < length ps → (e + k < edge_count mesh) × (ends mesh (e + k) ≡ get_or ps k (0, 0)) × ((get_or ps k (0, 0)).0 < (get_or ps k (0, 0)).1) × ((get_or ps k (0, 0)).1 < 2 ^ 64)) →
    AreLengths ns → AreEntries mesh e (zip ps ns)
unfolding AreEntries
entries_of mesh e [] ns edges lengths = tt
entries_of mesh e (p ∷ ps) [] edges lengths = tt
entries_of mesh e (p ∷ ps) (n ∷ ns) edges lengths =
    let here = edges zero (omega arith) in
    let none : e + 0 ≡ e = omega arith in
    let later : (k : ℕ) → k < length ps → (e + 1 + k < edge_count mesh) × (ends mesh (e + 1 + k) ≡ get_or ps k (0, 0)) × ((get_or ps k (0, 0)).0 < (get_or ps k (0, 0)).1) × ((get_or ps k (0, 0)).1 < 2 ^ 64) =
    λ k lt. let at = edges (suc k) (omega arith) in let same : e + 1 + k ≡ e + suc k = omega arith in (omega (arith, at.0), ap (ends mesh) same ∙ at.1, at.2, at.3) in (
      record { inside = omega (arith, here.0); ends_are = ap (ends mesh) (sym none) ∙ here.1; rises = here.2; fits = here.3; length = lengths zero 0 (omega arith) },
      entries_of mesh (e + 1) ps ns later (λ k d lt. lengths (suc k) d (omega arith)),
    )

-- a text without the head of version 2
plain_head : (mesh : Mesh) (xs : List ((ℕ × ℕ) × ℕ)) → AreEntries mesh 0 xs → length_head (text_lines 1 xs) ≡ Ok (record { default = None; entries = text_lines 1 xs })
unfolding AreEntries text_lines
plain_head mesh [] all = refl
plain_head mesh (x ∷ xs) all = rw (no_version mesh 0 x all.0) refl

pub reread : (mesh : Mesh) (lengths : List ℕ) → IsMesh mesh → mesh.vertices < 2 ^ 64 → AreLengths lengths → length lengths ≡ edge_count mesh → lengths_in mesh (lengths_text mesh lengths) ≡ Ok lengths
reread mesh lengths is_mesh small are count =
    let xs = zip (edges mesh) lengths in
    let m = edge_count mesh in
    let all : AreEntries mesh 0 xs = entries_of mesh 0 (edges mesh) lengths (λ k lt. let none : 0 + k ≡ k = omega arith in let below = ends_below mesh is_mesh k lt in (omega arith, ap (ends mesh) none, below.0, omega (arith, below.1))) are in
    let long : length xs ≡ m = omega (arith, length-zip (edges mesh) lengths) in
    let seconds : map (λ x. x.1) xs ≡ lengths = seconds-zip (edges mesh) lengths count in
    let lines : lines_of (lengths_text mesh lengths) ≡ text_lines 1 xs = lines_are mesh 0 1 xs all in
    let names = all_named mesh 0 xs [] [] all refl refl in
    let start : fold (name_line mesh) (Ok (none_named mesh None)) (text_lines 1 xs) ≡ Ok (record { lengths = lengths; lines = range_with_len 1 m }) =
    ap (λ (n : ℕ). fold (name_line mesh) (Ok (before_lines [] [] n)) (text_lines 1 xs)) (sym long) ∙ names
    ∙ ap (λ (ns : List ℕ). Ok (record { lengths = ns; lines = range_with_len 1 (length xs) })) seconds ∙ ap (λ (n : ℕ). Ok (record { lengths = lengths; lines = range_with_len 1 n })) long in
    rw (lines, plain_head mesh xs all, start, none_missing m) refl
