-- For each trimmed cut there is an opening.
use Rattle.surf_surfaces.proofs.Common.{All, Contains, range_with_len, ◌≡◌, ℕ, ◌+◌, ◌<◌, ◌≤◌, ◌⊎◌, inl, inr, sym, refl, subst, ap, ◌∙◌, List, [], map, length, get_or, arith, cases_lt, length-map, get_or-map, get_or_default, same_lists, get_or-range_with_len, length-range_with_len, All-from_get_or, Mesh, face_count, face_at, IsSurface, IsOpening}
use Rattle.surf_opening.specs.Side.{Side, IsPlace}
use Rattle.surf_opening.specs.Numbers.{Numbers}
use Rattle.surf_opening.specs.Uncut.{IsDualTree, IsTrimmed}
use Rattle.surf_opening.proofs.sides.SideWords.{SameCorner, IsOpenedAlong}
use Rattle.surf_opening.specs.Opening.{corner_of}
use Rattle.surf_opening.proofs.sides.MeshSides.{is_darts}
use Rattle.surf_opening.proofs.counts.Places.{places_counted}
use Rattle.surf_opening.proofs.counts.Count.{trimmed_count}
use Rattle.surf_opening.proofs.openings.OpeningLaw.{surface_sides, tree_length, opening_law}

-- f at the places below n
abbrev pub table : {X : Type 0} → ℕ → (ℕ → X) → List X
table n f = map f (range_with_len 0 n)

pub table_length : {X : Type 0} (n : ℕ) (f : ℕ → X) → length (table n f) ≡ n
table_length n f = length-map (range_with_len 0 n) f ∙ length-range_with_len 0 n

pub table_at : {X : Type 0} (n : ℕ) (f : ℕ → X) (i : ℕ) (d : X) → i < n → get_or (table n f) i d ≡ f i
table_at n f i d h =
    let e : get_or (range_with_len 0 n) i 0 ≡ 0 + i = get_or-range_with_len 0 n i 0 h in
    let k : get_or (range_with_len 0 n) i 0 ≡ i = omega arith in
    get_or-map f (range_with_len 0 n) i 0 d (subst (λ m. i < m) (sym (length-range_with_len 0 n)) h) ∙ ap f k

module _ {mesh : Mesh} (uncut : List (ℕ × ℕ)) (n : ℕ)
    (copies : Numbers (IsPlace mesh) (SameCorner (Side mesh) (λ x. x.0) (corner_of mesh.faces) uncut) n) where
  abbrev pub row : ℕ → List ℕ
  row f = table (length (face_at mesh f)) (λ i. copies.number (f, i))

  abbrev pub rows : List (List ℕ)
  rows = table (face_count mesh) row

  abbrev pub pick : (k : ℕ) → (k < n) ⊎ (n ≤ k) → ℕ
  pick k (inl h) = corner_of mesh.faces (copies.onto k h).0
  pick k (inr h) = 0

  pick_is : (x : ℕ × ℕ) (k : ℕ) (c : (k < n) ⊎ (n ≤ k)) → IsPlace mesh x → copies.number x ≡ k →
      pick k c ≡ corner_of mesh.faces x
  pick_is x k (inl h) is e = let y = copies.onto k h in (copies.tells y.0 x y.1 is (y.2 ∙ sym e)).0
  pick_is x k (inr h) is e = let g : copies.number x < n = copies.below x is in absurd (omega arith)

  abbrev pub origins : List ℕ
  origins = table n (λ k. pick k (cases_lt k n))

  pub row_is : (f : ℕ) → f < face_count mesh → get_or rows f [] ≡ row f
  row_is f h = table_at (face_count mesh) row f [] h

  pub copy_is : (x : ℕ × ℕ) → IsPlace mesh x → corner_of rows x ≡ copies.number x
  copy_is x h = ap (λ row. get_or row x.1 0) (row_is x.0 h.0) ∙ table_at (length (face_at mesh x.0))
      (λ i. copies.number (x.0, i)) x.1 0 h.1

  pub origin_is : (x : ℕ × ℕ) → IsPlace mesh x → get_or origins (copies.number x) 0 ≡ corner_of mesh.faces x
  origin_is x h = table_at n (λ k. pick k (cases_lt k n)) (copies.number x) 0 (copies.below x h) ∙ pick_is x
      (copies.number x) (cases_lt (copies.number x) n) h refl

  pub row_length : (f : ℕ) → length (row f) ≡ length (face_at mesh f)
  row_length f = table_length (length (face_at mesh f)) (λ i. copies.number (f, i))

  row_back : (f : ℕ) → f < face_count mesh → map (λ copy. get_or origins copy 0) (row f) ≡ face_at mesh f
  row_back f h = same_lists (map (λ copy. get_or origins copy 0) (row f)) (face_at mesh f)
      (length-map (row f) (λ copy. get_or origins copy 0) ∙ row_length f) (λ i d i_in.
      let i_row : i < length (row f) = subst (λ m. i < m) (length-map (row f) (λ copy. get_or origins copy 0)) i_in in
      let i_below : i < length (face_at mesh f) = subst (λ m. i < m) (row_length f) i_row in
      get_or-map (λ copy. get_or origins copy 0) (row f) i 0 d i_row ∙ ap (λ c. get_or origins c 0)
      (table_at (length (face_at mesh f)) (λ i. copies.number (f, i)) i 0 i_below)
      ∙ origin_is (f, i) (h, i_below) ∙ get_or_default (face_at mesh f) i 0 d i_below)

  pub opened_table : IsOpenedAlong mesh uncut origins rows
  opened_table = record {
    same_faces = table_length (face_count mesh) row;
    same_corners = λ f h. subst (λ r. map (λ copy. get_or origins copy 0) r ≡ face_at mesh f) (sym (row_is f h))
        (row_back f h);
    inside = All-from_get_or (All (λ copy. copy < length origins)) rows [] (λ f f_in.
        let h : f < face_count mesh = subst (λ m. f < m) (table_length (face_count mesh) row) f_in in
        subst (λ r. All (λ copy. copy < length origins) r) (sym (row_is f h))
        (All-from_get_or (λ copy. copy < length origins) (row f) 0 (λ i i_in.
        let i_below : i < length (face_at mesh f) = subst (λ m. i < m) (row_length f) i_in in
        subst (λ c. c < length origins)
        (sym (table_at (length (face_at mesh f)) (λ i. copies.number (f, i)) i 0 i_below))
        (subst (λ m. copies.number (f, i) < m) (sym (table_length n (λ k. pick k (cases_lt k n))))
        (copies.below (f, i) (h, i_below))))));
    every_copy = λ k k_in.
        let k_below : k < n = subst (λ m. k < m) (table_length n (λ k. pick k (cases_lt k n))) k_in in
        let x = copies.onto k k_below in (
          x.0.0,
          x.1.0,
          subst (λ r. Contains r k) (sym (row_is x.0.0 x.1.0)) (
            x.0.1,
            subst (λ m. x.0.1 < m) (sym (row_length x.0.0)) x.1.1,
            table_at (length (face_at mesh x.0.0)) (λ i. copies.number (x.0.0, i)) x.0.1 k x.1.1 ∙ x.2,
          ),
        );
    one_copy = λ x y h g. (
      (λ e. copies.tells x y h g (sym (copy_is x h) ∙ e ∙ copy_is y g)),
      (λ s. copy_is x h ∙ copies.agrees x y h g s ∙ sym (copy_is y g)),
    );
  }

-- so the law speaks of something: each trimmed cut has an opening
pub opening_exists : {mesh : Mesh} {tree uncut : List (ℕ × ℕ)} → IsSurface mesh → IsDualTree (Side mesh) tree →
    IsTrimmed (Side mesh) tree uncut →
    (origins : List ℕ) × (faces : List (List ℕ)) × IsOpenedAlong mesh uncut origins faces × IsOpening mesh origins faces
opening_exists {mesh} {tree} {uncut} surface dual trimmed =
    let count = trimmed_count (surface_sides surface) (is_darts mesh surface.is_mesh) (places_counted mesh) dual
    (face_count mesh) (tree_length surface dual.faces tree dual.grows dual.every_face) trimmed in
    let opened = opened_table uncut count.copies count.are_copies in
    (_, _, opened, opening_law surface dual trimmed opened)
