-- What is written of a certificate that fits is read as that certificate.
use Rattle.surf_cert.proofs.Common.{◌≡◌, ◌<◌, ◌+◌, ◌^◌, ℕ, zero, suc, true, List, [], ◌∷◌, ◌++◌, length, get_or, Option, Some, None, Result, Ok, refl, sym, ◌∙◌, ap, subst, append_assoc, append-nil, codes, arith, decimal, flat_map, All, AllPairs, zip, length-zip, firsts-zip, seconds-zip, TextLine, tokens_of, IsWord, word_decimal, lines_from, CertText, Loops, Basis, Counts, TreeRows, DualRows, LoopCert, BasisCert, counts_of, base_of, base_at, tree_row, dual_row, is_next, cycle_of, IsNumber, IsParent, IsPair, IsFaceRow, TreeFits, DualFits, LeftFits, CycleFits, LoopFits, BasisFits, next_of, cert_head_text, base_line, vertex_line, face_line, pair_line, cycle_line, tree_text, dual_text, left_text, cycles_text, RereadsLoops, RereadsBasis}
use Rattle.surf_surfaces.specs.Mesh.{pair_lt}
use Rattle.surf_cert.specs.Grammar.{rows_of, pairs_of, tree_of, based_tree, trees_of, dual_rows_of, dual_of, left_of, cycles_of, loops_in, basis_in, cert_in}
use Rattle.surf_cert.proofs.WordLines.{line_of, AllWords, line_first, kept_is, line_again}
use Rattle.surf_cert.proofs.LineTexts.{Reads, number_again, dual_again, left_again, cycles_again, base_again, base_at_again, vertex_again, face_again, pair_again, cycle_again}

-- what a part of a certificate reads in front of a text
abbrev pub ReadsPart : {A : Type 0} → (List TextLine → Result (A × List TextLine) CertText) → List ℕ → A → Type 0
ReadsPart read text x = (n : ℕ) (rest : List ℕ) → (m : ℕ) × (read (lines_from n (text ++ rest)) ≡ Ok (x, lines_from m rest))

-- rows of one form
pub rows_again : {A : Type 0} (form : List (List ℕ) → Option A) (line : A → List ℕ) (Good : A → Type 0)
    → ((x : A) → Good x → Reads form (line x) x) → (rows : List A) → All Good rows
    → ReadsPart (rows_of form (length rows)) (flat_map line rows) rows
unfolding rows_of
rows_again form line Good reads [] good n rest = (n, refl)
rows_again form line Good reads (x ∷ xs) good n rest =
    let more = rows_again form line Good reads xs (λ k d lt. good (suc k) d (omega arith)) (n + 1) rest in
    let text : flat_map line (x ∷ xs) ++ rest ≡ line x ++ (flat_map line xs ++ rest) = append_assoc (line x) (flat_map line xs) rest in
    let first = reads x (good 0 x (omega arith)) n (flat_map line xs ++ rest) in
    (more.0, rw (text, first, more.1) refl)

-- pairs, each behind the one before
abbrev pub Follow : Option (ℕ × ℕ) → List (ℕ × ℕ) → Type 0
Follow before [] = Unit {0}
Follow before (p ∷ ps) = (is_next before p ≡ true) × Follow (Some p) ps

pairs_again : (before : Option (ℕ × ℕ)) (pairs : List (ℕ × ℕ)) → All IsPair pairs → Follow before pairs
    → ReadsPart (pairs_of before (length pairs)) (flat_map pair_line pairs) pairs
unfolding pairs_of
pairs_again before [] good follow n rest = (n, refl)
pairs_again before (p ∷ ps) good follow n rest =
    let more = pairs_again (Some p) ps (λ k d lt. good (suc k) d (omega arith)) follow.1 (n + 1) rest in
    let text : flat_map pair_line (p ∷ ps) ++ rest ≡ pair_line p ++ (flat_map pair_line ps ++ rest) = append_assoc (pair_line p) (flat_map pair_line ps) rest in
    let first = pair_again before p (good 0 p (omega arith)) follow.0 n (flat_map pair_line ps ++ rest) in
    (more.0, rw (text, first, more.1) refl)

follow_on : (p : ℕ × ℕ) (ps : List (ℕ × ℕ)) → AllPairs (λ p q. pair_lt p q ≡ true) (p ∷ ps) → Follow (Some p) ps
follow_on p [] rises = tt
follow_on p (q ∷ ps) rises = (rises 0 1 (0, 0) (omega arith) (omega arith), follow_on q ps (λ i j d lt within. rises (suc i) (suc j) d (omega arith) (omega arith)))

pub follow_all : (ps : List (ℕ × ℕ)) → AllPairs (λ p q. pair_lt p q ≡ true) ps → Follow None ps
follow_all [] rises = tt
follow_all (p ∷ ps) rises = (refl, follow_on p ps rises)

all_rows : (v : ℕ) (ds : List ℕ) (ps : List (Option ℕ)) → All (λ d. d < 2 ^ 64) ds → All IsParent ps
    → All (λ row. (row.0 < 2 ^ 64) × IsParent row.1) (zip ds ps)
all_rows v [] ps small fits k d lt = absurd (omega (arith, lt))
all_rows v (x ∷ ds) [] small fits k d lt = absurd (omega (arith, lt))
all_rows v (x ∷ ds) (p ∷ ps) small fits zero d lt = (small 0 x (omega arith), fits 0 p (omega arith))
all_rows v (x ∷ ds) (p ∷ ps) small fits (suc k) d lt = all_rows v ds ps (λ k d lt. small (suc k) d (omega arith)) (λ k d lt. fits (suc k) d (omega arith)) k d (omega arith)

-- the rows of a tree
tree_again : (v : ℕ) (tree : TreeRows) → TreeFits v tree
    → ReadsPart (tree_of tree.base v) (flat_map vertex_line (zip tree.distance tree.parent)) tree
unfolding tree_of
tree_again v tree fits n rest =
    let ds = tree.distance in
    let ps = tree.parent in
    let rows = zip ds ps in
    let same : length ps ≡ length ds = omega (arith, fits.distances, fits.parents) in
    let count : length rows ≡ v = omega (arith, length-zip ds ps, fits.distances, fits.parents) in
    let read = rows_again tree_row vertex_line (λ row. (row.0 < 2 ^ 64) × IsParent row.1) (λ row good. vertex_again row.0 row.1 good.0 good.1) rows (all_rows v ds ps fits.whole fits.numbers) n rest in
    let is : rows_of tree_row v (lines_from n (flat_map vertex_line rows ++ rest)) ≡ Ok (rows, lines_from read.0 rest) = subst (λ (k : ℕ). rows_of tree_row k (lines_from n (flat_map vertex_line rows ++ rest)) ≡ Ok (rows, lines_from read.0 rest)) count read.1 in
    (read.0, rw (is, firsts-zip ds ps same, seconds-zip ds ps same) refl)

-- a tree behind the line of its base
based_again : (form : List (List ℕ) → Option ℕ) (v : ℕ) (tree : TreeRows) → Reads form (base_line tree.base) tree.base
    → TreeFits v tree → ReadsPart (based_tree form v) (tree_text tree) tree
unfolding based_tree
based_again form v tree first fits n rest =
    let rows = flat_map vertex_line (zip tree.distance tree.parent) in
    let more = tree_again v tree fits (n + 1) rest in
    (more.0, ap (λ (t : List ℕ). based_tree form v (lines_from n t)) (append_assoc (base_line tree.base) rows rest) ∙ rw (first n (rows ++ rest), more.1) refl)

trees_again : (base v : ℕ) (trees : List TreeRows) → All (TreeFits v) trees
    → ((x : ℕ) (d : TreeRows) → x < length trees → (get_or trees x d).base ≡ base + x)
    → ReadsPart (trees_of base v (length trees)) (flat_map tree_text trees) trees
unfolding trees_of
trees_again base v [] fits bases n rest = (n, refl)
trees_again base v (t0 ∷ ts) fits bases n rest =
    let good : TreeFits v t0 = fits 0 t0 (omega arith) in
    let here : t0.base ≡ base = bases 0 t0 (omega arith) ∙ omega arith in
    let first : Reads (base_at base) (base_line t0.base) t0.base = subst (λ (b : ℕ). Reads (base_at b) (base_line t0.base) t0.base) here (base_at_again t0.base good.base) in
    let one = based_again (base_at base) v t0 first good n (flat_map tree_text ts ++ rest) in
    let more = trees_again (base + 1) v ts (λ k d lt. fits (suc k) d (omega arith)) (λ x d lt. bases (suc x) d (omega arith) ∙ omega arith) one.0 rest in
    (more.0, ap (λ (t : List ℕ). trees_of base v (length (t0 ∷ ts)) (lines_from n t)) (append_assoc (tree_text t0) (flat_map tree_text ts) rest) ∙ rw (one.1, more.1) refl)

-- the rows of faces behind their word
dual_part : (f : ℕ) (dual : DualRows) → DualFits f dual → ReadsPart (dual_of f) (dual_text dual) dual
unfolding dual_of dual_rows_of
dual_part f dual fits n rest =
    let rows = zip dual.depth dual.side in
    let lines = flat_map face_line rows in
    let same : length dual.side ≡ length dual.depth = omega (arith, fits.depths, fits.sides) in
    let count : length rows ≡ f = omega (arith, length-zip dual.depth dual.side, fits.depths, fits.sides) in
    let read = rows_again dual_row face_line IsFaceRow face_again rows fits.rows (n + 1) rest in
    let is : rows_of dual_row f (lines_from (n + 1) (lines ++ rest)) ≡ Ok (rows, lines_from read.0 rest) = subst (λ (k : ℕ). rows_of dual_row k (lines_from (n + 1) (lines ++ rest)) ≡ Ok (rows, lines_from read.0 rest)) count read.1 in
    (read.0, ap (λ (t : List ℕ). dual_of f (lines_from n t)) (append_assoc (codes "dual\n") lines rest) ∙ rw (dual_again n (lines ++ rest), is, firsts-zip dual.depth dual.side same, seconds-zip dual.depth dual.side same) refl)

left_part : (k : ℕ) (left : List (ℕ × ℕ)) → LeftFits k left → ReadsPart (left_of k) (left_text left) left
unfolding left_of
left_part k left fits n rest =
    let lines = flat_map pair_line left in
    let read = pairs_again None left fits.pairs (follow_all left fits.rises) (n + 1) rest in
    let is : pairs_of None k (lines_from (n + 1) (lines ++ rest)) ≡ Ok (left, lines_from read.0 rest) = subst (λ (k : ℕ). pairs_of None k (lines_from (n + 1) (lines ++ rest)) ≡ Ok (left, lines_from read.0 rest)) fits.count read.1 in
    (read.0, ap (λ (t : List ℕ). left_of k (lines_from n t)) (append_assoc (codes "left\n") lines rest) ∙ rw (left_again n (lines ++ rest), is) refl)

pub cycles_part : (k : ℕ) (cycles : List (List ℕ)) → length cycles ≡ k → All CycleFits cycles
    → ReadsPart (cycles_of k) (cycles_text cycles) cycles
unfolding cycles_of
cycles_part k cycles count fits n rest =
    let lines = flat_map cycle_line cycles in
    let read = rows_again cycle_of cycle_line CycleFits cycle_again cycles fits (n + 1) rest in
    let is : rows_of cycle_of k (lines_from (n + 1) (lines ++ rest)) ≡ Ok (cycles, lines_from read.0 rest) = subst (λ (k : ℕ). rows_of cycle_of k (lines_from (n + 1) (lines ++ rest)) ≡ Ok (cycles, lines_from read.0 rest)) count read.1 in
    (read.0, ap (λ (t : List ℕ). cycles_of k (lines_from n t)) (append_assoc (codes "cycles\n") lines rest) ∙ rw (cycles_again n (lines ++ rest), is) refl)

-- the first two lines
module _ (kind : List ℕ) (v f k : ℕ) (is_word : IsWord kind) (few_v : IsNumber v) (few_f : IsNumber f) (few_k : IsNumber k) (rest : List ℕ) where
  header : List (List ℕ)
  header = codes "1" ∷ kind ∷ []

  counts : List (List ℕ)
  counts = decimal v ∷ decimal f ∷ decimal k ∷ []

  two_lines : cert_head_text kind v f k ++ rest ≡ line_of (codes "SURFCERT") header ++ 10 ∷ (line_of (codes "counts") counts ++ 10 ∷ rest)
  unfolding header counts
  two_lines = simp (append_assoc, append-nil)

  header_words : AllWords header
  unfolding header AllWords
  header_words = (record { some = refl; dark = refl; one_line = refl; uncommented = refl }, (is_word, tt))

  counts_words : AllWords counts
  unfolding counts AllWords
  counts_words = (word_decimal v (omega (arith, few_v)), (word_decimal f (omega (arith, few_f)), (word_decimal k (omega (arith, few_k)), tt)))

  name : IsWord (codes "SURFCERT")
  name = record { some = refl; dark = refl; one_line = refl; uncommented = refl }

  counts_given : counts_of (codes "counts" ∷ counts) ≡ Some (record { vertices = v; faces = f; left = k })
  unfolding counts
  counts_given = rw (number_again v few_v, number_again f few_f, number_again k few_k) refl

  counts_again : next_of counts_of (lines_from 2 (line_of (codes "counts") counts ++ 10 ∷ rest)) ≡ Ok (record { vertices = v; faces = f; left = k }, lines_from 3 rest)
  counts_again = line_again (codes "counts") counts (record { some = refl; dark = refl; one_line = refl; uncommented = refl }) counts_words counts_of (record { vertices = v; faces = f; left = k }) counts_given 2 rest

  -- the first line names the kind, the second gives the counts, and the rest follows
  pub header_again : (line : TextLine) × (lines : List TextLine) × (lines_from 1 (cert_head_text kind v f k ++ rest) ≡ line ∷ lines) × (tokens_of line.bytes ≡ codes "SURFCERT" ∷ codes "1" ∷ kind ∷ [])
      × (next_of counts_of lines ≡ Ok (record { vertices = v; faces = f; left = k }, lines_from 3 rest))
  unfolding header
  header_again = (_, _, ap (lines_from 1) two_lines ∙ line_first (codes "SURFCERT") header name header_words 1 (line_of (codes "counts") counts ++ 10 ∷ rest), kept_is (codes "SURFCERT") header name header_words, counts_again)

loops_word : IsWord (codes "loops")
loops_word = record { some = refl; dark = refl; one_line = refl; uncommented = refl }

basis_word : IsWord (codes "basis")
basis_word = record { some = refl; dark = refl; one_line = refl; uncommented = refl }

-- the first line of each kind
cert_loops : (line : TextLine) (lines : List TextLine) (cert : LoopCert)
    → tokens_of line.bytes ≡ codes "SURFCERT" ∷ codes "1" ∷ codes "loops" ∷ [] → loops_in lines ≡ Ok cert
    → cert_in (line ∷ lines) ≡ Ok (Loops cert)
unfolding cert_in
cert_loops line lines cert words read = rw (words, read) refl

cert_basis : (line : TextLine) (lines : List TextLine) (cert : BasisCert)
    → tokens_of line.bytes ≡ codes "SURFCERT" ∷ codes "1" ∷ codes "basis" ∷ [] → basis_in lines ≡ Ok cert
    → cert_in (line ∷ lines) ≡ Ok (Basis cert)
unfolding cert_in
cert_basis line lines cert words read = rw (words, read) refl

-- the parts behind it, one after the other
loops_parts : (lines behind after last : List TextLine) (counts : Counts) (cert : LoopCert)
    → next_of counts_of lines ≡ Ok (counts, behind) → based_tree base_of counts.vertices behind ≡ Ok (cert.tree, after)
    → dual_of counts.faces after ≡ Ok (cert.dual, last)
    → left_of counts.left last ≡ Ok (cert.left, []) → loops_in lines ≡ Ok cert
unfolding loops_in
loops_parts lines behind after last counts cert first tree dual left = rw (first, tree, dual, left) refl

basis_parts : (lines behind after next last : List TextLine) (counts : Counts) (cert : BasisCert)
    → next_of counts_of lines ≡ Ok (counts, behind)
    → trees_of 0 counts.vertices counts.vertices behind ≡ Ok (cert.trees, after)
    → dual_of counts.faces after ≡ Ok (cert.dual, next) → left_of counts.left next ≡ Ok (cert.left, last)
    → cycles_of counts.left last ≡ Ok (cert.cycles, []) → basis_in lines ≡ Ok cert
unfolding basis_in
basis_parts lines behind after next last counts cert first trees dual left cycles = rw (first, trees, dual, left, cycles) refl

-- The text of a certificate of loops is read as that certificate.
pub loops_again : (cert : LoopCert) → LoopFits cert → RereadsLoops cert
loops_again cert fits =
    let v = length cert.tree.distance in
    let f = length cert.dual.depth in
    let k = length cert.left in
    let tree = tree_text cert.tree in
    let dual = dual_text cert.dual in
    let left = left_text cert.left in
    let head = header_again (codes "loops") v f k loops_word fits.vertices fits.faces fits.count (tree ++ (dual ++ left)) in
    let trees = based_again base_of v cert.tree (base_again cert.tree.base fits.tree.base) fits.tree 3 (dual ++ left) in
    let duals = dual_part f cert.dual fits.dual trees.0 left in
    let lefts = left_part k cert.left fits.left duals.0 [] in
    let last : left_of k (lines_from duals.0 left) ≡ Ok (cert.left, lines_from lefts.0 []) = ap (λ (t : List ℕ). left_of k (lines_from duals.0 t)) (sym (append-nil left)) ∙ lefts.1 in
    ap cert_in head.2 ∙ cert_loops head.0 head.1 cert head.3 (loops_parts head.1 _ _ _ _ cert head.4 trees.1 duals.1 last)

-- The text of a certificate of a basis is read as that certificate.
pub basis_again : (cert : BasisCert) → BasisFits cert → RereadsBasis cert
basis_again cert fits =
    let v = length cert.trees in
    let f = length cert.dual.depth in
    let k = length cert.left in
    let trees = flat_map tree_text cert.trees in
    let dual = dual_text cert.dual in
    let left = left_text cert.left in
    let cycles = cycles_text cert.cycles in
    let head = header_again (codes "basis") v f k basis_word fits.vertices fits.faces fits.count (trees ++ (dual ++ (left ++ cycles))) in
    let read = trees_again 0 v cert.trees fits.trees (λ x d lt. fits.bases x d lt ∙ omega arith) 3 (dual ++ (left ++ cycles)) in
    let duals = dual_part f cert.dual fits.dual read.0 (left ++ cycles) in
    let lefts = left_part k cert.left fits.left duals.0 cycles in
    let walks = cycles_part k cert.cycles fits.as_many fits.cycles lefts.0 [] in
    let last : cycles_of k (lines_from lefts.0 cycles) ≡ Ok (cert.cycles, lines_from walks.0 []) = ap (λ (t : List ℕ). cycles_of k (lines_from lefts.0 t)) (sym (append-nil cycles)) ∙ walks.1 in
    ap cert_in head.2 ∙ cert_basis head.0 head.1 cert head.3 (basis_parts head.1 _ _ _ _ _ cert head.4 read.1 duals.1 lefts.1 last)
