-- A certificate of loops by its front and the lines behind that.
use Rattle.surf_cert.proofs.Common.{◌≡◌, ◌≤◌, ◌+◌, ◌-◌, ◌++◌, ℕ, zero, suc, List, [], ◌∷◌, drop, Option, Some, None, Result, Ok, Err, true, refl, sym, ◌∙◌, ap, subst, codes, arith, map, IfOk, MatchOption, ⊤, ok_or, drop-drop, map-append, div-le_self, TextLine, tokens_of, TreeRows, DualRows, LoopCert, Gives, ◌>>=◌, text_line, CertText, Memory, Form, Trailing, counts_of, base_of, tree_row, dual_row, the_word, LineForm, Read, onto_rows, left_of, ended, Loops, Front, front_faces, begins_loops, Counts}
use Rattle.surf_text.specs.declared.lines.Line.{Line}
use Rattle.surf_cert.specs.Grammar.{next_of, rows_of, tree_of, based_tree, dual_rows_of, dual_of, loops_in, cert_in}
use Rattle.surf_cert.specs.Fronts.{more_faces, front_in, behind_front}

Leaves : {A : Type 0} → ℕ → List TextLine → Read A → Type 0
Leaves n lines read = IfOk read (λ x. x.1 ≡ drop n lines)

onto_leaves : {A : Type 0} (x : A) (n : ℕ) (line : TextLine) (lines : List TextLine) (read : Read (List A)) → Leaves n lines read → Leaves (suc n) (line ∷ lines) (onto_rows x read)
unfolding Leaves
onto_leaves x n line lines (Ok rows) same = same
onto_leaves x n line lines (Err e) same = tt

-- what a line says, and the lines behind it
abbrev line_read : {A : Type 0} → ℕ → List TextLine → Option A → Read A
line_read n lines x = ok_or x (Form n) >>= λ x. Ok (x, lines)

next_leaves : {A : Type 0} (form : LineForm A) (lines : List TextLine) → Leaves 1 lines (next_of form lines)
unfolding next_of Leaves
next_leaves form [] = tt
next_leaves {A} form (line ∷ lines) = at (form (tokens_of line.bytes))
  where
    at : (x : Option A) → Leaves 1 (line ∷ lines) (line_read line.number lines x)
    at None = tt
    at (Some x) = refl

rows_leave : {A : Type 0} (form : LineForm A) (n : ℕ) (lines : List TextLine) → Leaves n lines (rows_of form n lines)
unfolding rows_of next_of Leaves
rows_leave form zero lines = refl
rows_leave form (suc n) [] = tt
rows_leave {A} form (suc n) (line ∷ lines) = at (form (tokens_of line.bytes)) (rows_leave form n lines)
  where
    at : (x : Option A) → Leaves n lines (rows_of form n lines) → Leaves (suc n) (line ∷ lines) (line_read line.number lines x >>= λ x. onto_rows x.0 (rows_of form n x.1))
    at None same = tt
    at (Some x) same = onto_leaves x n line lines (rows_of form n lines) same

-- rows in front of those that are read behind them
behind_rows : {A : Type 0} → List A → Read (List A) → Read (List A)
behind_rows rows (Ok rest) = Ok (rows ++ rest.0, rest.1)
behind_rows rows (Err e) = Err e

rows_split : {A : Type 0} (form : LineForm A) (m k : ℕ) (lines : List TextLine) → rows_of form (m + k) lines ≡ (rows_of form m lines >>= λ a. behind_rows a.0 (rows_of form k a.1))
unfolding rows_of behind_rows
rows_split {A} form zero k lines =
    let all : 0 + k ≡ k = omega arith in
    ap (λ (n : ℕ). rows_of form n lines) all ∙ at (rows_of form k lines)
  where
    at : (read : Read (List A)) → read ≡ behind_rows [] read
    at (Ok rows) = refl
    at (Err e) = refl
rows_split {A} form (suc m) k lines =
    let all : suc m + k ≡ suc (m + k) = omega arith in
    ap (λ (n : ℕ). rows_of form n lines) all ∙ at (next_of form lines) (rows_split form m k)
  where
    two : (x : A) (xs : List A) (read : Read (List A)) → onto_rows x (behind_rows xs read) ≡ behind_rows (x ∷ xs) read
    two x xs (Ok rows) = refl
    two x xs (Err e) = refl

    one : (x : A) (read : Read (List A)) → onto_rows x (read >>= λ a. behind_rows a.0 (rows_of form k a.1)) ≡ (onto_rows x read >>= λ a. behind_rows a.0 (rows_of form k a.1))
    one x (Ok a) = two x a.0 (rows_of form k a.1)
    one x (Err e) = refl

    at : (next : Read A) → ((lines : List TextLine) → rows_of form (m + k) lines ≡ (rows_of form m lines >>= λ a. behind_rows a.0 (rows_of form k a.1)))
        → (next >>= λ x. onto_rows x.0 (rows_of form (m + k) x.1)) ≡ ((next >>= λ x. onto_rows x.0 (rows_of form m x.1)) >>= λ a. behind_rows a.0 (rows_of form k a.1))
    at (Ok x) split = ap (onto_rows x.0) (split x.1) ∙ one x.0 (rows_of form m x.1)
    at (Err e) split = refl

abbrev Rows : Type 0
Rows = List (ℕ × Option (ℕ × ℕ))

-- the rows of faces, behind those of a tree
abbrev put_rows : DualRows → Rows × List TextLine → Read DualRows
put_rows dual rows = Ok (record { depth = dual.depth ++ map (λ row. row.0) rows.0; side = dual.side ++ map (λ row. row.1) rows.0 }, rows.1)

abbrev none : DualRows
none = record { depth = []; side = [] }

-- The rows of all faces are some, and the others behind them.
faces_split : (m f : ℕ) (lines : List TextLine) → m ≤ f → dual_rows_of f lines ≡ (more_faces none m lines >>= λ x. more_faces x.0 (f - m) x.1)
unfolding dual_rows_of more_faces behind_rows
faces_split m f lines le =
    let all : f ≡ m + (f - m) = omega (arith, le) in
    ap (λ (n : ℕ). rows_of dual_row n lines >>= put_rows none) all ∙ ap (λ (read : Read Rows). read >>= put_rows none) (rows_split dual_row m (f - m) lines) ∙ at (rows_of dual_row m lines)
  where
    two : (xs : Rows) (read : Read Rows) → (behind_rows xs read >>= put_rows none) ≡ (read >>= put_rows (record { depth = map (λ row. row.0) xs; side = map (λ row. row.1) xs }))
    two xs (Ok rows) = λ i. Ok (record { depth = map-append (λ row. row.0) xs rows.0 i; side = map-append (λ row. row.1) xs rows.0 i }, rows.1)
    two xs (Err e) = refl

    at : (read : Read Rows) → ((read >>= λ a. behind_rows a.0 (rows_of dual_row (f - m) a.1)) >>= put_rows none) ≡ ((read >>= put_rows none) >>= λ x. more_faces x.0 (f - m) x.1)
    at (Ok a) = two a.0 (rows_of dual_row (f - m) a.1)
    at (Err e) = refl

abbrev end_of : Counts → TreeRows → DualRows × List TextLine → Result LoopCert CertText
end_of counts tree dual = left_of counts.left dual.1 >>= λ left. ended Trailing left.1 (record { tree = tree; dual = dual.0; left = left.0 })

abbrev front_of : Counts → TreeRows → DualRows × List TextLine → Read Front
front_of counts tree dual = Ok ((counts, tree, dual.0), dual.1)

abbrev behind : Front × List TextLine → Result LoopCert CertText
behind x = behind_front x.0 x.1

-- A loop certificate is its front and what stands behind that.
pub loops_split : (lines : List TextLine) → loops_in lines ≡ (front_in lines >>= λ x. behind_front x.0 x.1)
unfolding loops_in front_in behind_front dual_of
loops_split lines = one (next_of counts_of lines)
  where
    four : (counts : Counts) (tree : TreeRows) (read : Read DualRows) → ((read >>= λ x. more_faces x.0 (counts.faces - front_faces counts) x.1) >>= end_of counts tree) ≡ ((read >>= front_of counts tree) >>= behind)
    four counts tree (Ok dual) = refl
    four counts tree (Err e) = refl

    three : (counts : Counts) (tree : TreeRows) (word : Read ⊤) → ((word >>= λ word. dual_rows_of counts.faces word.1) >>= end_of counts tree) ≡ ((word >>= λ word. more_faces none (front_faces counts) word.1 >>= front_of counts tree) >>= behind)
    three counts tree (Ok word) =
        ap (λ (read : Read DualRows). read >>= end_of counts tree) (faces_split (front_faces counts) counts.faces word.1 (div-le_self counts.faces 3))
        ∙ four counts tree (more_faces none (front_faces counts) word.1)
    three counts tree (Err e) = refl

    two : (counts : Counts) (tree : Read TreeRows) → (tree >>= λ tree. dual_of counts.faces tree.1 >>= end_of counts tree.0)
        ≡ ((tree >>= λ tree. next_of (the_word (codes "dual")) tree.1 >>= λ word. more_faces none (front_faces counts) word.1 >>= front_of counts tree.0) >>= behind)
    two counts (Ok tree) = three counts tree.0 (next_of (the_word (codes "dual")) tree.1)
    two counts (Err e) = refl

    one : (counts : Read Counts) → (counts >>= λ counts. based_tree base_of counts.0.vertices counts.1 >>= λ tree. dual_of counts.0.faces tree.1 >>= end_of counts.0 tree.0)
        ≡ ((counts >>= λ counts. based_tree base_of counts.0.vertices counts.1 >>= λ tree. next_of (the_word (codes "dual")) tree.1 >>= λ word. more_faces none (front_faces counts.0) word.1 >>= front_of counts.0 tree.0) >>= behind)
    one (Ok counts) = two counts.0 (based_tree base_of counts.0.vertices counts.1)
    one (Err e) = refl

more_leave : (dual : DualRows) (n : ℕ) (lines : List TextLine) → Leaves n lines (more_faces dual n lines)
unfolding more_faces Leaves
more_leave dual n lines = at (rows_of dual_row n lines) (rows_leave dual_row n lines)
  where
    at : (read : Read Rows) → Leaves n lines read → Leaves n lines (read >>= put_rows dual)
    at (Ok rows) same = same
    at (Err e) same = tt

abbrev vertex_rows : ℕ → List (ℕ × Option ℕ) × List TextLine → Read TreeRows
vertex_rows base rows = Ok (record { base = base; distance = map (λ row. row.0) rows.0; parent = map (λ row. row.1) rows.0 }, rows.1)

tree_leave : (v : ℕ) (lines : List TextLine) → Leaves (1 + v) lines (based_tree base_of v lines)
unfolding based_tree tree_of Leaves
tree_leave v lines = one (next_of base_of lines) (next_leaves base_of lines)
  where
    two : (base : ℕ) (rest : List TextLine) → rest ≡ drop 1 lines → (read : Read (List (ℕ × Option ℕ))) → Leaves v rest read
        → Leaves (1 + v) lines (read >>= vertex_rows base)
    two base rest at (Ok rows) same = same ∙ ap (drop v) at ∙ drop-drop v 1 lines
    two base rest at (Err e) same = tt

    one : (base : Read ℕ) → Leaves 1 lines base → Leaves (1 + v) lines (base >>= λ x. tree_of x.0 v x.1)
    one (Ok base) same = two base.0 base.1 same (rows_of tree_row v base.1) (rows_leave tree_row v base.1)
    one (Err e) same = tt

-- how many lines a front has
FrontLeaves : List TextLine → Read Front → Type 0
FrontLeaves lines read = IfOk read (λ x. x.1 ≡ drop (x.0.0.vertices + front_faces x.0.0 + 3) lines)

front_leaves : (lines : List TextLine) → FrontLeaves lines (front_in lines)
unfolding front_in Leaves FrontLeaves
front_leaves lines = one (next_of counts_of lines) (next_leaves counts_of lines)
  where
    four : (counts : Counts) (tree : TreeRows) (rest : List TextLine) → rest ≡ drop (1 + (1 + counts.vertices) + 1) lines → (read : Read DualRows) → Leaves (front_faces counts) rest read
        → FrontLeaves lines (read >>= front_of counts tree)
    four counts tree rest at (Ok dual) same =
        let all : 1 + (1 + counts.vertices) + 1 + front_faces counts ≡ counts.vertices + front_faces counts + 3 = omega arith in
        same ∙ ap (drop (front_faces counts)) at ∙ drop-drop (front_faces counts) (1 + (1 + counts.vertices) + 1) lines ∙ ap (λ (n : ℕ). drop n lines) all
    four counts tree rest at (Err e) same = tt

    three : (counts : Counts) (tree : TreeRows) (rest : List TextLine) → rest ≡ drop (1 + (1 + counts.vertices)) lines → (read : Read ⊤) → Leaves 1 rest read
        → FrontLeaves lines (read >>= λ word. more_faces none (front_faces counts) word.1 >>= front_of counts tree)
    three counts tree rest at (Ok word) same = four counts tree word.1 (same ∙ ap (drop 1) at ∙ drop-drop 1 (1 + (1 + counts.vertices)) lines) (more_faces none (front_faces counts) word.1) (more_leave none (front_faces counts) word.1)
    three counts tree rest at (Err e) same = tt

    two : (counts : Counts) (rest : List TextLine) → rest ≡ drop 1 lines → (read : Read TreeRows) → Leaves (1 + counts.vertices) rest read
        → FrontLeaves lines (read >>= λ tree. next_of (the_word (codes "dual")) tree.1 >>= λ word. more_faces none (front_faces counts) word.1 >>= front_of counts tree.0)
    two counts rest at (Ok tree) same = three counts tree.0 tree.1 (same ∙ ap (drop (1 + counts.vertices)) at ∙ drop-drop (1 + counts.vertices) 1 lines) (next_of (the_word (codes "dual")) tree.1) (next_leaves (the_word (codes "dual")) tree.1)
    two counts rest at (Err e) same = tt

    one : (read : Read Counts) → Leaves 1 lines read
        → FrontLeaves lines (read >>= λ counts. based_tree base_of counts.0.vertices counts.1 >>= λ tree. next_of (the_word (codes "dual")) tree.1 >>= λ word. more_faces none (front_faces counts.0) word.1 >>= front_of counts.0 tree.0)
    one (Ok counts) same = two counts.0 counts.1 same (based_tree base_of counts.0.vertices counts.1) (tree_leave counts.0.vertices counts.1)
    one (Err e) same = tt

-- The lines behind a front are those of the text behind as many.
pub front_behind : {X : Type 0} (result : Result X CertText) (view : X → Front) (lines rest : List TextLine)
    → Gives Memory (λ x. (view x, rest)) result (front_in (drop 1 lines))
    → Gives Memory (λ x. (view x, drop ((view x).0.vertices + front_faces (view x).0 + 4) lines)) result (front_in (drop 1 lines))
unfolding FrontLeaves
front_behind (Ok x) view lines rest gives =
    let n = (view x).0.vertices + front_faces (view x).0 in
    let same : rest ≡ drop (n + 3) (drop 1 lines) = subst (λ read. IfOk read (λ x. x.1 ≡ drop (x.0.0.vertices + front_faces x.0.0 + 3) (drop 1 lines))) gives (front_leaves (drop 1 lines)) in
    let all : 1 + (n + 3) ≡ n + 4 = omega arith in
    gives ∙ ap (λ (rest : List TextLine). Ok (view x, rest)) (same ∙ drop-drop (n + 3) 1 lines ∙ ap (λ (k : ℕ). drop k lines) all)
front_behind (Err e) view lines rest gives = gives

pub header_gone : (line : Option Line) (old new : List TextLine) → MatchOption line ((old ≡ []) × (new ≡ [])) (λ line. old ≡ text_line line ∷ new) → new ≡ drop 1 old
header_gone None old new none = none.1 ∙ sym (ap (drop 1) none.0)
header_gone (Some line) old new next = sym (ap (drop 1) next)

-- what is answered of a loop certificate whose front is read
pub front_read : (result : Result LoopCert CertText) (front : Front) (lines rest : List TextLine) → front_in lines ≡ Ok (front, rest)
    → Gives Memory (λ x. x) result (behind_front front rest) → Gives Memory (λ x. x) result (loops_in lines)
front_read result front lines rest is gives = subst (Gives Memory (λ x. x) result) (sym (loops_split lines ∙ ap (λ (read : Read Front). read >>= behind) is)) gives

pub front_bad : (lines : List TextLine) (e : CertText) → front_in lines ≡ Err e → loops_in lines ≡ Err e
front_bad lines e is = loops_split lines ∙ ap (λ (read : Read Front). read >>= behind) is

-- a text that begins as a loop certificate
pub loops_begun : (lines : List TextLine) → begins_loops lines ≡ true → cert_in lines ≡ (loops_in (drop 1 lines) >>= λ cert. Ok (Loops cert))
unfolding cert_in
loops_begun [] begun = absurd cc
loops_begun (line ∷ lines) begun = rw begun refl
