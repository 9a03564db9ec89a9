-- What a flat table of signatures holds.
use Rattle.surf_surfaces.proofs.Common.{ℕ, ◌<◌, ◌≤◌, ◌≡◌, ◌≢◌, ◌+◌, ◌*◌, ◌/◌, ◌%◌, ◌^◌, refl, sym, ap, ◌∙◌, subst, arith, inl, inr, List, [], length, map, take, drop, replicate, get_or, min, eqb, false, range_with_len, cases_lt, has, number, xor, dual, Split, IsSplit, signature, Graph, Tree, IsTree, on_path, Mesh, edge_count, IsSurface, cells_of, edge_signature, bit_at, bit_at-zero, get_or-take, get_or-drop, get_or_past, get_or-replicate, length-replicate, length-take, take_all, same_number_lists, below_law, same_from_has, path_root, path_step, down_tree}
use Rattle.std.proofs.Math.Nat.{mul-le-mul_right}
use Rattle.std.proofs.lemmas.List.FromFn.{get_or-map-range_with_len, length-map-range_with_len, fill_by_all}
use Rattle.surf_z2.proofs.Words.{bit_number, number_zero}
use Rattle.surf_bits.proofs.Rows.{front_small, take_most}
use Rattle.surf_graphs.proofs.CellLaws.{signature_is}
use Rattle.surf_surfaces.proofs.meshes.CellLaws.{surfaces_are_cells}
use Rattle.surf_signatures.specs.Tables.{Signed, words_for, row_of, sets_in, face_tree, HangsBy}
use Rattle.surf_signatures.specs.Signs.{sign_bit, has_left}

-- ---- rows of a flat table

pub rows-length : (words count : ℕ) (signs : List ℕ) → length (sets_in words count signs) ≡ count
rows-length words count signs = length-map-range_with_len (λ e. number (take words (drop (e * words) signs))) 0 count

pub rows-at : (words count : ℕ) (signs : List ℕ) (e : ℕ) → e < count → get_or (sets_in words count signs) e 0 ≡ row_of words signs e
rows-at words count signs e l = get_or-map-range_with_len (λ e. number (take words (drop (e * words) signs))) 0 count e e 0 l (omega arith)

pub cell_room : (count words e len : ℕ) → e < count → len ≡ count * words → e * words + words ≤ len
cell_room count words e len l is =
    let up : e + 1 ≤ count = omega arith in
    let m : (e + 1) * words ≤ count * words = mul-le-mul_right words up in
    omega (arith, m, is)

-- so many words write no greater number than they have room for
pub words_small : (words : ℕ) (row : List ℕ) → length row ≤ words → ((k : ℕ) → get_or row k 0 < 2 ^ 64) → number row < 2 ^ (64 * words)
words_small words row few fit =
    subst (λ (ws : List ℕ). number ws < 2 ^ (64 * words)) (take_all words row few) (front_small words row fit)

-- the words of a row are those of the table
pub row_word : (words : ℕ) (table : List ℕ) (e j : ℕ) → j < words →
    get_or (take words (drop (e * words) table)) j 0 ≡ get_or table (e * words + j) 0
row_word words table e j l = get_or-take words (drop (e * words) table) j 0 l ∙ get_or-drop (e * words) table j 0

-- and no more
pub row_past : (words : ℕ) (table : List ℕ) (e j : ℕ) → words ≤ j → get_or (take words (drop (e * words) table)) j 0 ≡ 0
row_past words table e j l =
    let n : length (take words (drop (e * words) table)) ≡ min words (length (drop (e * words) table)) =
    length-take words (drop (e * words) table) in
    get_or_past (take words (drop (e * words) table)) j 0 (omega (arith, n, l))

-- ---- signatures

-- the ways to the root are the same in two trees in which each node hangs alike
pub ways_same : (g : Graph) (a b : Tree) → IsTree g a → IsTree g b → a.root ≡ b.root →
    ((n : ℕ) → n < g.nodes → n ≢ a.root → (a.parent n ≡ b.parent n) × (a.up n ≡ b.up n)) → (n e : ℕ) → n < g.nodes →
    on_path a n e ≡ on_path b n e
ways_same g a b ta tb root same n e l =
    down_tree g a ta (λ m. on_path a m e ≡ on_path b m e)
    (path_root a e ∙ sym (path_root b e) ∙ ap (λ r. on_path b r e) (sym root))
    (λ m lm ne above.
    let here = same m lm ne in
    path_step g a ta m e lm ne
    ∙ ap (xor (eqb (a.up m) e)) above
    ∙ ap (λ u. xor (eqb u e) (on_path b (a.parent m) e)) here.1
    ∙ ap (λ p. xor (eqb (b.up m) e) (on_path b p e)) here.0
    ∙ sym (path_step g b tb m e lm (λ is. ne (is ∙ sym root)))) n l

module _ (mesh : Mesh) (d : Split) (surface : IsSurface mesh) (split : IsSplit (cells_of mesh) d) (words : ℕ) (signs : List ℕ)
    (fit : (k : ℕ) → get_or signs k 0 < 2 ^ 64) (enough : length d.left ≤ 64 * words)
    (rest : (e k : ℕ) → length d.left ≤ k → k < 64 * words → sign_bit signs words e k ≡ false)
    (signed : (e k : ℕ) → k < length d.left → sign_bit signs words e k ≡ has_left (dual (cells_of mesh)) d.cotree (get_or d.left k 0) e) where
  row_fits : (e j : ℕ) → get_or (take words (drop (e * words) signs)) j 0 < 2 ^ 64
  row_fits e j = elim (cases_lt j words) [
    | inl l ↦ subst (λ x. x < 2 ^ 64) (sym (row_word words signs e j l)) (fit (e * words + j))
    | inr past ↦ subst (λ x. x < 2 ^ 64) (sym (row_past words signs e j past)) (omega arith)
  ]

  row_bit : (e i : ℕ) → i < 64 * words → has (number (take words (drop (e * words) signs))) i ≡ sign_bit signs words e i
  row_bit e i l =
      let lw : i / 64 < words = omega arith in
      ap (λ x. eqb x 1) (bit_number (take words (drop (e * words) signs)) i (row_fits e) ∙ ap (λ x. bit_at x (i % 64)) (row_word words signs e (i / 64) lw))

  row_none : (e i : ℕ) → 64 * words ≤ i → has (number (take words (drop (e * words) signs))) i ≡ false
  row_none e i l =
      let lw : words ≤ i / 64 = omega arith in
      ap (λ x. eqb x 1) (bit_number (take words (drop (e * words) signs)) i (row_fits e) ∙ ap (λ x. bit_at x (i % 64)) (row_past words signs e (i / 64) lw) ∙ bit_at-zero (i % 64))

  signature_bit : (e k : ℕ) → e < edge_count mesh → k < length d.left → has (edge_signature mesh d e) k ≡ has_left (dual (cells_of mesh)) d.cotree (get_or d.left k 0) e
  signature_bit e k l lk =
      below_law.member (length d.left) (signature (cells_of mesh) d e) k lk
      ∙ signature_is (cells_of mesh) d (surfaces_are_cells mesh surface).complex split e k l lk

  signature_none : (e k : ℕ) → length d.left ≤ k → has (edge_signature mesh d e) k ≡ false
  signature_none e k l = below_law.no_member (length d.left) (signature (cells_of mesh) d e) k l

  row_is : (e : ℕ) → e < edge_count mesh → number (take words (drop (e * words) signs)) ≡ edge_signature mesh d e
  row_is e l = same_from_has (number (take words (drop (e * words) signs))) (edge_signature mesh d e) (λ i.
      elim (cases_lt i (64 * words)) [
        | inl li ↦ elim (cases_lt i (length d.left)) [
          | inl lk ↦ row_bit e i li ∙ signed e i lk ∙ sym (signature_bit e i l lk)
          | inr past ↦ row_bit e i li ∙ rest e i past li ∙ sym (signature_none e i past)
        ]
        | inr past ↦ row_none e i past ∙ sym (signature_none e i (omega arith))
      ])

  rows_are_signatures : sets_in words (edge_count mesh) signs ≡ map (edge_signature mesh d) (range_with_len 0 (edge_count mesh))
  rows_are_signatures =
      fill_by_all (edge_signature mesh d) (sets_in words (edge_count mesh) signs) (edge_count mesh) 0 (rows-length words (edge_count mesh) signs)
      (λ e l. rows-at words (edge_count mesh) signs e l ∙ row_is e l)

-- what is written by three tables of a tree of faces and a list of the left edges
pub record AreWritten (mesh : Mesh) (parents ups depths left : List ℕ) (words : ℕ) (signs : List ℕ) : Type 0 where
  pub surface : IsSurface mesh
  pub tree : IsTree (dual (cells_of mesh)) (face_tree parents ups depths)
  pub enough : length left ≤ 64 * words
  pub fit : (k : ℕ) → get_or signs k 0 < 2 ^ 64
  pub rest : (e k : ℕ) → length left ≤ k → k < 64 * words → sign_bit signs words e k ≡ false
  pub signed : (e k : ℕ) → k < length left →
      sign_bit signs words e k ≡ has_left (dual (cells_of mesh)) (face_tree parents ups depths) (get_or left k 0) e

pub signatures_written : (mesh : Mesh) (parents ups depths left : List ℕ) (words : ℕ) (signs : List ℕ) →
    AreWritten mesh parents ups depths left words signs → (d : Split) → IsSplit (cells_of mesh) d →
    HangsBy mesh d.cotree parents ups → d.left ≡ left →
    sets_in words (edge_count mesh) signs ≡ map (edge_signature mesh d) (range_with_len 0 (edge_count mesh))
signatures_written mesh parents ups depths left words signs w d split hangs same =
    let g = dual (cells_of mesh) in
    let t = face_tree parents ups depths in
    let ways : (n e : ℕ) → n < g.nodes → on_path t n e ≡ on_path d.cotree n e =
    ways_same g t d.cotree w.tree split.cotree_is (sym hangs.root)
    (λ n l ne. (hangs.parent n l ne, hangs.up n l ne)) in
    let enough : length d.left ≤ 64 * words = subst (λ xs. length xs ≤ 64 * words) (sym same) w.enough in
    let rest = subst (λ (xs : List ℕ). (e k : ℕ) → length xs ≤ k → k < 64 * words → sign_bit signs words e k ≡ false)
    (sym same) w.rest in
    let signed = subst
    (λ (xs : List ℕ). (e k : ℕ) → k < length xs → sign_bit signs words e k ≡ has_left g t (get_or xs k 0) e)
    (sym same) w.signed in
    rows_are_signatures mesh d w.surface split words signs w.fit enough rest (λ e k l.
    let m = get_or d.left k 0 in
    let faces = (surfaces_are_cells mesh w.surface).complex.dual_ends m (split.left_in k l) in
    signed e k l
    ∙ ap (λ b. xor (eqb m e) (xor b (on_path t (g.to m) e))) (ways (g.from m) e faces.0)
    ∙ ap (λ b. xor (eqb m e) (xor (on_path d.cotree (g.from m) e) b)) (ways (g.to m) e faces.1))

-- a table of zeros
abbrev pub zeros : ℕ → List ℕ
zeros n = replicate n 0

zeros_at : (n k : ℕ) → get_or (zeros n) k 0 ≡ 0
zeros_at n k = elim (cases_lt k n) [
  | inl l ↦ get_or-replicate n k 0 0 l
  | inr past ↦ let size : length (zeros n) ≡ n = length-replicate n 0 in get_or_past (zeros n) k 0 (omega (arith, past, size))
]

-- where no word is more than zero, the sets are empty
pub row_zero : (words : ℕ) (table : List ℕ) → ((k : ℕ) → get_or table k 0 ≡ 0) → (e : ℕ) → row_of words table e ≡ 0
row_zero words table none e = number_zero (take words (drop (e * words) table)) (λ k below. elim (cases_lt k words) [
  | inl l ↦ row_word words table e k l ∙ none (e * words + k)
  | inr past ↦ row_past words table e k past
])

pub rows_zero : (words count : ℕ) (table : List ℕ) → ((k : ℕ) → get_or table k 0 ≡ 0) → sets_in words count table ≡ zeros count
rows_zero words count table none =
    let size : length (zeros count) ≡ count = length-replicate count 0 in
    same_number_lists (sets_in words count table) (zeros count)
    (rows-length words count table ∙ sym size) (λ e l.
    let inside : e < count = omega (arith, l, rows-length words count table) in
    rows-at words count table e inside ∙ (row_zero words table none e ∙ sym (zeros_at count e)))

pub rows_none : (words count n : ℕ) → sets_in words count (zeros n) ≡ zeros count
rows_none words count n = rows_zero words count (zeros n) (zeros_at n)

-- so are those of a table in which nothing is written
pub rows_unwritten : (words count : ℕ) → sets_in words count [] ≡ zeros count
rows_unwritten words count = rows_zero words count [] (λ k. refl)

-- ---- one row, lent

module _ (s : Signed) (width count e : ℕ) (table : List ℕ)
    (view : record { width = width; sets = sets_in (words_for width) count table } ≡ s) (inside : e < length s.sets) where
  below : e < count
  below = subst (λ n. e < n) (ap (λ (t : Signed). length t.sets) (sym view) ∙ rows-length (words_for width) count table) inside

  -- the table has room for it
  pub row_room : length table ≡ count * words_for width → e * words_for width + words_for width ≤ length table
  row_room size = cell_room count (words_for width) e (length table) below size

  -- its words write the set at its place
  pub row_lent : (row : List ℕ) → row ≡ take (words_for width) (drop (e * words_for width) table) →
      ((k : ℕ) → get_or row k 0 < 2 ^ 64) → (number row ≡ get_or s.sets e 0) × (number row < 2 ^ (64 * words_for s.width))
  row_lent row is fit =
      let w = words_for width in
      let few : length row ≤ w = omega (arith, ap (λ (ws : List ℕ). length ws) is, take_most w (drop (e * w) table)) in (
        ap number is ∙ sym (rows-at w count table e below) ∙ ap (λ (t : Signed). get_or t.sets e 0) view,
        subst (λ (t : Signed). number row < 2 ^ (64 * words_for t.width)) view (words_small w row few fit),
      )
