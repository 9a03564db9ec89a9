-- A certificate that was read fits the lines of a text.
use Rattle.surf_cert.proofs.Common.{◌≡◌, ◌<◌, ◌+◌, ◌^◌, ℕ, zero, suc, true, List, [], ◌∷◌, length, get_or, Option, Some, None, Result, Ok, Err, refl, sym, ◌∙◌, ap, subst, codes, inl, inr, arith, map, IfOk, IfSome, cases_Bool, length-map, pair_lt, All-nil, All-cons, All, AllPairs, zip, pair_lt-trans, TextLine, tokens_of, lines_of, CertText, Memory, Form, Trailing, Loops, Basis, ok_or, Counts, TreeRows, DualRows, LoopCert, BasisCert, is_header, counts_of, base_of, base_at, tree_row, dual_row, is_next, pair_behind, cycle_of, the_word, IsNumber, IsParent, IsPair, IsFaceRow, TreeFits, DualFits, LeftFits, CycleFits, LoopFits, BasisFits, CertFits, Gives, ◌>>=◌, onto_rows, ended, parsed_cert}
use Rattle.std.proofs.lemmas.List.Kept.{AllPairs-cons}
use Rattle.surf_records.specs.declared.cert.Cert.{Cert}
use Rattle.surf_cert.specs.Grammar.{next_of, rows_of, pairs_of, tree_of, based_tree, trees_of, dual_rows_of, dual_of, left_of, cycles_of, loops_in, basis_in, cert_in}
use Rattle.surf_cert.proofs.Reread.{Follow}
use Rattle.surf_cert.proofs.ReadLines.{IsRow, row_fits, face_fits, behind_fits, cycle_fits, base_fits, base_at_fits, AreCounts, counts_fit}

-- lines

pub bind_fits : {A B : Type 0} (read : Result A CertText) (f : A → Result B CertText) (P : A → Type 0) (Q : B → Type 0)
    → IfOk read P → ((x : A) → P x → IfOk (f x) Q) → IfOk (read >>= f) Q
bind_fits (Ok x) f P Q fits then = then x fits
bind_fits (Err e) f P Q fits then = tt

pub next_fits : {A : Type 0} (form : List (List ℕ) → Option A) (Good : A → Type 0)
    → ((tokens : List (List ℕ)) → IfSome (form tokens) Good) → (lines : List TextLine)
    → IfOk (next_of form lines) (λ x. Good x.0)
unfolding next_of
next_fits form Good fits [] = tt
next_fits {A} form Good fits (line ∷ lines) = at (form (tokens_of line.bytes)) (fits (tokens_of line.bytes))
  where
    at : (x : Option A) → IfSome x Good → IfOk {T = A × List TextLine} (ok_or x (Form line.number) >>= λ x. Ok (x, lines)) (λ x. Good x.0)
    at None good = tt
    at (Some x) good = good

unfoldable pub AreRows : {A : Type 0} → (A → Type 0) → ℕ → List A × List TextLine → Type 0
AreRows Good n read = (length read.0 ≡ n) × All Good read.0

onto_fits : {A : Type 0} (Good : A → Type 0) (n : ℕ) (x : A) (read : Result (List A × List TextLine) CertText) → Good x
    → IfOk read (AreRows Good n) → IfOk (onto_rows x read) (AreRows Good (suc n))
unfolding AreRows
onto_fits Good n x (Ok rows) good fits = (ap suc fits.0, All-cons Good x rows.0 good fits.1)
onto_fits Good n x (Err e) good fits = tt

pub rows_fit : {A : Type 0} (form : List (List ℕ) → Option A) (Good : A → Type 0)
    → ((tokens : List (List ℕ)) → IfSome (form tokens) Good) → (n : ℕ) (lines : List TextLine)
    → IfOk (rows_of form n lines) (AreRows Good n)
unfolding rows_of AreRows
rows_fit form Good fits zero lines = (refl, All-nil Good)
rows_fit form Good fits (suc n) lines =
    bind_fits (next_of form lines) (λ x. onto_rows x.0 (rows_of form n x.1)) (λ x. Good x.0) (AreRows Good (suc n)) (next_fits form Good fits lines)
    (λ x good. onto_fits Good n x.0 (rows_of form n x.1) good (rows_fit form Good fits n x.1))

record ArePairs (before : Option (ℕ × ℕ)) (n : ℕ) (read : List (ℕ × ℕ) × List TextLine) : Type 0 where
  count : length read.0 ≡ n
  pairs : All IsPair read.0
  follow : Follow before read.0

pairs_fit : (before : Option (ℕ × ℕ)) (n : ℕ) (lines : List TextLine)
    → IfOk (pairs_of before n lines) (ArePairs before n)
unfolding pairs_of
pairs_fit before zero lines = record { count = refl; pairs = All-nil IsPair; follow = tt }
pairs_fit before (suc n) lines =
    bind_fits (next_of (pair_behind before) lines) (λ x. onto_rows x.0 (pairs_of (Some x.0) n x.1)) (λ x. IsPair x.0 × (is_next before x.0 ≡ true)) (ArePairs before (suc n))
    (next_fits (pair_behind before) (λ p. IsPair p × (is_next before p ≡ true)) (behind_fits before) lines)
    (λ x good. at x.0 (pairs_of (Some x.0) n x.1) good (pairs_fit (Some x.0) n x.1))
  where
    at : (p : ℕ × ℕ) (read : Result (List (ℕ × ℕ) × List TextLine) CertText) → IsPair p × (is_next before p ≡ true)
        → IfOk read (ArePairs (Some p) n) → IfOk (onto_rows p read) (ArePairs before (suc n))
    at p (Ok ps) good fits = record { count = ap suc fits.count; pairs = All-cons IsPair p ps.0 good.0 fits.pairs; follow = (good.1, fits.follow) }
    at p (Err e) good fits = tt

behind_all : (p q : ℕ × ℕ) (ps : List (ℕ × ℕ)) → pair_lt p q ≡ true → Follow (Some q) ps
    → All (λ r. pair_lt p r ≡ true) (q ∷ ps)
behind_all p q [] lt follow = All-cons (λ r. pair_lt p r ≡ true) q [] lt (All-nil (λ r. pair_lt p r ≡ true))
behind_all p q (r ∷ ps) lt follow = All-cons (λ r. pair_lt p r ≡ true) q (r ∷ ps) lt (behind_all p r ps (pair_lt-trans p q r lt follow.0) follow.1)

pub rise : (before : Option (ℕ × ℕ)) (ps : List (ℕ × ℕ)) → Follow before ps → AllPairs (λ p q. pair_lt p q ≡ true) ps
rise before [] follow = λ i j d lt within. absurd (omega (arith, within))
rise before (p ∷ []) follow = λ i j d lt within. absurd (omega (arith, lt, within))
rise before (p ∷ q ∷ ps) follow = AllPairs-cons (λ p q. pair_lt p q ≡ true) p (q ∷ ps) (behind_all p q ps follow.1.0 follow.1.1) (rise (Some p) (q ∷ ps) follow.1)

word_fits : (word : List ℕ) (tokens : List (List ℕ)) → IfSome (the_word word tokens) (λ x. Unit {0})
word_fits word tokens = at (the_word word tokens)
  where
    at : (x : Option (Unit {0})) → IfSome x (λ x. Unit {0})
    at None = tt
    at (Some x) = tt

-- parts

firsts : {A B : Type 0} (P : A → Type 0) (Q : A × B → Type 0) → ((row : A × B) → Q row → P row.0)
    → (rows : List (A × B)) → All Q rows → All P (map (λ row. row.0) rows)
firsts P Q then [] all = All-nil P
firsts P Q then (row ∷ rows) all = All-cons P row.0 (map (λ row. row.0) rows) (then row (all 0 row (omega arith))) (firsts P Q then rows (λ k d lt. all (suc k) d (omega arith)))

seconds : {A B : Type 0} (P : B → Type 0) (Q : A × B → Type 0) → ((row : A × B) → Q row → P row.1)
    → (rows : List (A × B)) → All Q rows → All P (map (λ row. row.1) rows)
seconds P Q then [] all = All-nil P
seconds P Q then (row ∷ rows) all = All-cons P row.1 (map (λ row. row.1) rows) (then row (all 0 row (omega arith))) (seconds P Q then rows (λ k d lt. all (suc k) d (omega arith)))

zipped : {A B : Type 0} (rows : List (A × B)) → zip (map (λ row. row.0) rows) (map (λ row. row.1) rows) ≡ rows
zipped [] = refl
zipped (row ∷ rows) = ap (λ rest. row ∷ rest) (zipped rows)

tree_fits : (base v : ℕ) (lines : List TextLine) → IsNumber base
    → IfOk (tree_of base v lines) (λ x. TreeFits v x.0 × (x.0.base ≡ base))
unfolding tree_of AreRows
tree_fits base v lines number = at (rows_of tree_row v lines) (rows_fit tree_row IsRow row_fits v lines)
  where
    at : (read : Result (List (ℕ × Option ℕ) × List TextLine) CertText) → IfOk read (AreRows IsRow v)
        → IfOk {T = TreeRows × List TextLine} (read >>= λ rows. Ok (record { base = base; distance = map (λ row. row.0) rows.0; parent = map (λ row. row.1) rows.0 }, rows.1)) (λ x. TreeFits v x.0 × (x.0.base ≡ base))
    at (Err e) fits = tt
    at (Ok rows) fits = (
      record {
        base = number;
        distances = length-map rows.0 (λ row. row.0) ∙ fits.0;
        parents = length-map rows.0 (λ row. row.1) ∙ fits.0;
        whole = firsts (λ d. d < 2 ^ 64) IsRow (λ row good. good.0) rows.0 fits.1;
        numbers = seconds IsParent IsRow (λ row good. good.1) rows.0 fits.1;
      },
      refl,
    )

based_fits : (form : List (List ℕ) → Option ℕ) (Good : ℕ → Type 0)
    → ((tokens : List (List ℕ)) → IfSome (form tokens) (λ x. IsNumber x × Good x)) → (v : ℕ) (lines : List TextLine)
    → IfOk (based_tree form v lines) (λ x. TreeFits v x.0 × Good x.0.base)
unfolding based_tree
based_fits form Good fits v lines =
    bind_fits (next_of form lines) (λ x. tree_of x.0 v x.1) (λ x. IsNumber x.0 × Good x.0) (λ x. TreeFits v x.0 × Good x.0.base) (next_fits form (λ x. IsNumber x × Good x) fits lines)
    (λ x good. at x.0 (tree_of x.0 v x.1) good.1 (tree_fits x.0 v x.1 good.0))
  where
    at : (base : ℕ) (read : Result (TreeRows × List TextLine) CertText) → Good base
        → IfOk read (λ x. TreeFits v x.0 × (x.0.base ≡ base)) → IfOk read (λ x. TreeFits v x.0 × Good x.0.base)
    at base (Ok x) good fits = (fits.0, subst Good (sym fits.1) good)
    at base (Err e) good fits = tt

record AreTrees (base v n : ℕ) (read : List TreeRows × List TextLine) : Type 0 where
  count : length read.0 ≡ n
  trees : All (TreeFits v) read.0
  bases : (x : ℕ) (d : TreeRows) → x < length read.0 → (get_or read.0 x d).base ≡ base + x

trees_fit : (base v n : ℕ) (lines : List TextLine) → IfOk (trees_of base v n lines) (AreTrees base v n)
unfolding trees_of
trees_fit base v zero lines = record { count = refl; trees = All-nil (TreeFits v); bases = λ x d lt. absurd (omega (arith, lt)) }
trees_fit base v (suc n) lines =
    bind_fits (based_tree (base_at base) v lines) (λ x. onto_rows x.0 (trees_of (base + 1) v n x.1)) (λ x. TreeFits v x.0 × (x.0.base ≡ base)) (AreTrees base v (suc n)) (based_fits (base_at base) (λ x. x ≡ base) (base_at_fits base) v lines)
    (λ x good. at x.0 (trees_of (base + 1) v n x.1) good (trees_fit (base + 1) v n x.1))
  where
    bases_more : (t : TreeRows) (ts : List TreeRows) → t.base ≡ base
        → ((x : ℕ) (d : TreeRows) → x < length ts → (get_or ts x d).base ≡ base + 1 + x) → (x : ℕ) (d : TreeRows)
        → x < length (t ∷ ts) → (get_or (t ∷ ts) x d).base ≡ base + x
    bases_more t ts is more zero d lt = is ∙ omega arith
    bases_more t ts is more (suc x) d lt = more x d (omega arith) ∙ omega arith

    at : (t : TreeRows) (read : Result (List TreeRows × List TextLine) CertText) → TreeFits v t × (t.base ≡ base)
        → IfOk read (AreTrees (base + 1) v n) → IfOk (onto_rows t read) (AreTrees base v (suc n))
    at t (Ok ts) good fits = record { count = ap suc fits.count; trees = All-cons (TreeFits v) t ts.0 good.0 fits.trees; bases = bases_more t ts.0 good.1 fits.bases }
    at t (Err e) good fits = tt

dual_fits : (f : ℕ) (lines : List TextLine) → IfOk (dual_of f lines) (λ x. DualFits f x.0)
unfolding dual_of dual_rows_of AreRows
dual_fits f lines =
    bind_fits (next_of (the_word (codes "dual")) lines) (λ word. dual_rows_of f word.1) (λ word. Unit {0}) (λ x. DualFits f x.0) (next_fits (the_word (codes "dual")) (λ word. Unit {0}) (word_fits (codes "dual")) lines)
    (λ word good. at (rows_of dual_row f word.1) (rows_fit dual_row IsFaceRow face_fits f word.1))
  where
    at : (read : Result (List (ℕ × Option (ℕ × ℕ)) × List TextLine) CertText) → IfOk read (AreRows IsFaceRow f)
        → IfOk {T = DualRows × List TextLine} (read >>= λ rows. Ok (record { depth = map (λ row. row.0) rows.0; side = map (λ row. row.1) rows.0 }, rows.1)) (λ x. DualFits f x.0)
    at (Err e) fits = tt
    at (Ok rows) fits = record {
      depths = length-map rows.0 (λ row. row.0) ∙ fits.0;
      sides = length-map rows.0 (λ row. row.1) ∙ fits.0;
      rows = subst (All IsFaceRow) (sym (zipped rows.0)) fits.1;
    }

left_fits : (k : ℕ) (lines : List TextLine) → IfOk (left_of k lines) (λ x. LeftFits k x.0)
unfolding left_of
left_fits k lines =
    bind_fits (next_of (the_word (codes "left")) lines) (λ word. pairs_of None k word.1) (λ word. Unit {0}) (λ x. LeftFits k x.0) (next_fits (the_word (codes "left")) (λ word. Unit {0}) (word_fits (codes "left")) lines)
    (λ word good. at (pairs_of None k word.1) (pairs_fit None k word.1))
  where
    at : (read : Result (List (ℕ × ℕ) × List TextLine) CertText) → IfOk read (ArePairs None k)
        → IfOk read (λ x. LeftFits k x.0)
    at (Ok ps) fits = record { count = fits.count; pairs = fits.pairs; rises = rise None ps.0 fits.follow }
    at (Err e) fits = tt

pub cycles_fit : (k : ℕ) (lines : List TextLine) → IfOk (cycles_of k lines) (λ x. (length x.0 ≡ k) × All CycleFits x.0)
unfolding cycles_of AreRows
cycles_fit k lines =
    bind_fits (next_of (the_word (codes "cycles")) lines) (λ word. rows_of cycle_of k word.1) (λ word. Unit {0}) (λ x. (length x.0 ≡ k) × All CycleFits x.0) (next_fits (the_word (codes "cycles")) (λ word. Unit {0}) (word_fits (codes "cycles")) lines)
    (λ word good. rows_fit cycle_of CycleFits cycle_fits k word.1)

pub ended_fits : {A : Type 0} (x : A) (lines : List TextLine) (P : A → Type 0) → P x → IfOk (ended Trailing lines x) P
ended_fits x [] P fits = fits
ended_fits x (line ∷ lines) P fits = tt

loop_made : (counts : Counts) (tree : TreeRows) (dual : DualRows) (left : List (ℕ × ℕ)) → AreCounts counts
    → TreeFits counts.vertices tree → DualFits counts.faces dual → LeftFits counts.left left
    → LoopFits (record { tree = tree; dual = dual; left = left })
loop_made counts tree dual left few t d l = record {
  vertices = omega (arith, few.vertices, t.distances);
  faces = omega (arith, few.faces, d.depths);
  count = omega (arith, few.left, l.count);
  tree = subst (λ v. TreeFits v tree) (sym t.distances) t;
  dual = subst (λ f. DualFits f dual) (sym d.depths) d;
  left = subst (λ k. LeftFits k left) (sym l.count) l;
}

loops_fit : (lines : List TextLine) → IfOk (loops_in lines) LoopFits
unfolding loops_in
loops_fit lines =
    bind_fits (next_of counts_of lines) _ (λ counts. AreCounts counts.0) LoopFits (next_fits counts_of AreCounts counts_fit lines) (λ counts few.
    bind_fits (based_tree base_of counts.0.vertices counts.1) _ (λ tree. TreeFits counts.0.vertices tree.0 × Unit {0}) LoopFits (based_fits base_of (λ x. Unit {0}) any_base counts.0.vertices counts.1) (λ tree t.
    bind_fits (dual_of counts.0.faces tree.1) _ (λ dual. DualFits counts.0.faces dual.0) LoopFits (dual_fits counts.0.faces tree.1) (λ dual d.
    bind_fits (left_of counts.0.left dual.1) _ (λ left. LeftFits counts.0.left left.0) LoopFits (left_fits counts.0.left dual.1) (λ left l.
    ended_fits (record { tree = tree.0; dual = dual.0; left = left.0 }) left.1 LoopFits (loop_made counts.0 tree.0 dual.0 left.0 few t.0 d l)))))
  where
    any_base : (tokens : List (List ℕ)) → IfSome (base_of tokens) (λ x. IsNumber x × Unit {0})
    any_base tokens = at (base_of tokens) (base_fits tokens)
      where
        at : (x : Option ℕ) → IfSome x IsNumber → IfSome x (λ x. IsNumber x × Unit {0})
        at None fits = tt
        at (Some x) fits = (fits, tt)

basis_made : (counts : Counts) (trees : List TreeRows) (dual : DualRows) (left : List (ℕ × ℕ)) (cycles : List (List ℕ))
    → AreCounts counts → length trees ≡ counts.vertices → All (TreeFits counts.vertices) trees
    → ((x : ℕ) (d : TreeRows) → x < length trees → (get_or trees x d).base ≡ 0 + x) → DualFits counts.faces dual
    → LeftFits counts.left left → length cycles ≡ counts.left → All CycleFits cycles
    → BasisFits (record { trees = trees; dual = dual; left = left; cycles = cycles })
basis_made counts trees dual left cycles few count t bases d l many c = record {
  vertices = omega (arith, few.vertices, count);
  faces = omega (arith, few.faces, d.depths);
  count = omega (arith, few.left, l.count);
  trees = subst (λ v. All (TreeFits v) trees) (sym count) t;
  bases = λ x d lt. bases x d lt ∙ omega arith;
  dual = subst (λ f. DualFits f dual) (sym d.depths) d;
  left = subst (λ k. LeftFits k left) (sym l.count) l;
  as_many = omega (arith, many, l.count);
  cycles = c;
}

basis_fit : (lines : List TextLine) → IfOk (basis_in lines) BasisFits
unfolding basis_in
basis_fit lines =
    bind_fits (next_of counts_of lines) _ (λ counts. AreCounts counts.0) BasisFits (next_fits counts_of AreCounts counts_fit lines) (λ counts few.
    bind_fits (trees_of 0 counts.0.vertices counts.0.vertices counts.1) _ (AreTrees 0 counts.0.vertices counts.0.vertices) BasisFits (trees_fit 0 counts.0.vertices counts.0.vertices counts.1) (λ trees t.
    bind_fits (dual_of counts.0.faces trees.1) _ (λ dual. DualFits counts.0.faces dual.0) BasisFits (dual_fits counts.0.faces trees.1) (λ dual d.
    bind_fits (left_of counts.0.left dual.1) _ (λ left. LeftFits counts.0.left left.0) BasisFits (left_fits counts.0.left dual.1) (λ left l.
    bind_fits (cycles_of counts.0.left left.1) _ (λ x. (length x.0 ≡ counts.0.left) × All CycleFits x.0) BasisFits (cycles_fit counts.0.left left.1) (λ cycles c.
    ended_fits (record { trees = trees.0; dual = dual.0; left = left.0; cycles = cycles.0 }) cycles.1 BasisFits (basis_made counts.0 trees.0 dual.0 left.0 cycles.0 few t.count t.trees t.bases d l c.0 c.1))))))

cert_fits : (lines : List TextLine) → IfOk (cert_in lines) CertFits
unfolding cert_in
cert_fits [] = tt
cert_fits (line ∷ lines) = elim (cases_Bool (is_header (codes "loops") (tokens_of line.bytes))) [
  | inl loops ↦ rw loops (at_loops (loops_in lines) (loops_fit lines))
  | inr other ↦ elim (cases_Bool (is_header (codes "basis") (tokens_of line.bytes))) [
    | inl basis ↦ rw (other, basis) (at_basis (basis_in lines) (basis_fit lines))
    | inr neither ↦ rw (other, neither) tt
  ]
]
  where
    at_loops : (read : Result LoopCert CertText) → IfOk read LoopFits → IfOk {T = Cert} (read >>= λ cert. Ok (Loops cert)) CertFits
    at_loops (Ok cert) fits = fits
    at_loops (Err e) fits = tt

    at_basis : (read : Result BasisCert CertText) → IfOk read BasisFits → IfOk {T = Cert} (read >>= λ cert. Ok (Basis cert)) CertFits
    at_basis (Ok cert) fits = fits
    at_basis (Err e) fits = tt

-- What a call gave that reads a text fits, if it is a certificate.
pub given_fits : (result : Result Cert CertText) (text : List ℕ) → Gives Memory (λ x. x) result (parsed_cert text)
    → IfOk result CertFits
given_fits (Ok cert) text gives = subst (λ (read : Result Cert CertText). IfOk read CertFits) gives (cert_fits (lines_of text))
given_fits (Err e) text gives = tt
