-- The shapes that words name: their meshes are surfaces that can be written, with a cycle that doesn't separate them.
use Rattle.surf_surfaces.proofs.Common.{rules, ◌≡◌, ◌<◌, ◌≤◌, ◌+◌, ◌*◌, ℕ, Bool, true, false, List, [], ◌∷◌, Option, Some, None, refl, sym, subst, arith, inl, inr, AllByRecursion, cases_Bool, and_parts, leb-true, edge_count, face_count}
use Rattle.std.specs.Prelude.{codes, nat_le, ◌&&◌, if◌then◌else◌, IfSome}
use Rattle.std.specs.Option.{option_map}
use Rattle.surf_gen.specs.Made.{made_length, made_values}
use Rattle.surf_surfaces.proofs.Common.{ArePositive, IsSurface, Mesh, get_or-map-range_with_len}
use Rattle.surf_tori.proofs.ChainLaws.{chains_are_surfaces, chains_have_counts}
use Rattle.surf_tori.proofs.TorusLaws.{tori_are_surfaces, tori_have_counts}
use Rattle.surf_tori.specs.Chain.{chain}
use Rattle.surf_text.specs.Text.{words_of}
use Rattle.surf_words.specs.Shapes.{IsShape, Shape, mesh_of, shape_from, shape_named}
use Rattle.surf_words.specs.Words.{Request, Row, row, command_table, fits, given_for, help, version, gen_shape, try_shape, tried, torus_of, chain_of, word_number, request, request_in, request_of}
use Prim.Native.String.{String as Literal}

-- ---- the shapes of words

-- the shape that a request names, if it names one, is a shape
abbrev pub IsShaped : Option Request → Type 0
IsShaped None = Unit {0}
IsShaped (Some (gen_shape shape)) = IsShape shape
IsShaped (Some (try_shape shape scatter)) = IsShape shape
IsShaped (Some other) = Unit {0}

either : (b : Bool) (x y : Option Request) → IsShaped x → IsShaped y → IsShaped (if b then x else y)
either true x y a b = a
either false x y a b = b

torus_shaped : (a b : ℕ) → IfSome (shape_from 3 1 a b) IsShape
torus_shaped a b = elim (cases_Bool (nat_le 3 a && nat_le 3 b)) [
  | inl good ↦
      let parts = and_parts (nat_le 3 a) (nat_le 3 b) good in
      let rows = leb-true 3 a parts.0 in
      let columns = leb-true 3 b parts.1 in
      rw good (record { some = omega arith; rows = rows; columns = columns; longer = inl refl })
  | inr bad ↦ rw bad tt
]

chain_shaped : (g a b : ℕ) → IfSome (shape_from 4 g a b) IsShape
chain_shaped g a b = elim (cases_Bool (nat_le 1 g && (nat_le 4 a && nat_le 4 b))) [
  | inl good ↦
      let parts = and_parts (nat_le 1 g) (nat_le 4 a && nat_le 4 b) good in
      let sizes = and_parts (nat_le 4 a) (nat_le 4 b) parts.1 in
      let some = leb-true 1 g parts.0 in
      let rows = leb-true 4 a sizes.0 in
      let columns = leb-true 4 b sizes.1 in
      rw good (record {
        some = some;
        rows = omega (arith, rows);
        columns = omega (arith, columns);
        longer = inr (rows, columns);
      })
  | inr bad ↦ rw bad tt
]

torus_is : (rows columns : Option ℕ) → IfSome (shape_named 3 (Some 1) rows columns) IsShape
torus_is None columns = tt
torus_is (Some a) None = tt
torus_is (Some a) (Some b) = torus_shaped a b

chain_is : (tori rows columns : Option ℕ) → IfSome (shape_named 4 tori rows columns) IsShape
chain_is None rows columns = tt
chain_is (Some g) None columns = tt
chain_is (Some g) (Some a) None = tt
chain_is (Some g) (Some a) (Some b) = chain_shaped g a b

tried_is : (s : Option Shape) (n : Option ℕ) → IfSome s IsShape → IsShaped (tried s n)
tried_is None n is = tt
tried_is (Some s) None is = tt
tried_is (Some s) (Some n) is = is

made_is : (s : Option Shape) → IfSome s IsShape → IsShaped (option_map gen_shape s)
made_is None is = tt
made_is (Some s) is = is

torus_words : (w : Literal → List ℕ) → IfSome (torus_of w) IsShape
torus_words w = torus_is (word_number (w "a")) (word_number (w "b"))

chain_words : (w : Literal → List ℕ) → IfSome (chain_of w) IsShape
chain_words w = chain_is (word_number (w "g")) (word_number (w "a")) (word_number (w "b"))

torus_tried : (w : Literal → List ℕ) → IsShaped (tried (torus_of w) (word_number (w "s")))
torus_tried w = tried_is (torus_of w) (word_number (w "s")) (torus_words w)

chain_tried : (w : Literal → List ℕ) → IsShaped (tried (chain_of w) (word_number (w "s")))
chain_tried w = tried_is (chain_of w) (word_number (w "s")) (chain_words w)

torus_made : (w : Literal → List ℕ) → IsShaped (option_map gen_shape (torus_of w))
torus_made w = made_is (torus_of w) (torus_words w)

chain_made : (w : Literal → List ℕ) → IsShaped (option_map gen_shape (chain_of w))
chain_made w = made_is (chain_of w) (chain_words w)

-- ---- other requests name no shape

mapped_is : {A : Type 0} (f : A → Request) (x : Option A) → ((a : A) → IsShaped (Some (f a))) → IsShaped (option_map f x)
mapped_is f None all = tt
mapped_is f (Some a) all = all a

-- ---- so is each row of the table

abbrev IsShapedRow : Row → Type 0
IsShapedRow (row call effect request) = (w : Literal → List ℕ) → IsShaped (request w)

rows_are_shaped : (table : List Row) (words : List (List ℕ)) → AllByRecursion IsShapedRow table →
    IsShaped (request_in table words)
rows_are_shaped [] words shaped = tt
rows_are_shaped (row call effect request ∷ others) words shaped =
    either (fits (words_of (codes call)) words) (request (λ name. given_for (codes name) (words_of (codes call)) words))
    (request_in others words) (shaped.0 _) (rows_are_shaped others words shaped.1)

-- where a row names no shape there is nothing to show
table_is_shaped : AllByRecursion IsShapedRow command_table
table_is_shaped = search (rules, torus_made, chain_made, torus_tried, chain_tried, mapped_is)

pub words_are_shaped : (words : List (List ℕ)) → IsShaped (request_of words)
unfolding request_of
words_are_shaped words =
    rows_are_shaped (row "--help" "" (λ w. Some help) ∷ row "--version" "" (λ w. Some version) ∷ command_table) words
    (λ w. tt, (λ w. tt, table_is_shaped))

-- ---- their meshes

pub shape_is_surface : (s : Shape) → IsShape s → IsSurface (mesh_of s)
shape_is_surface s is = elim is.longer [
  | inl one ↦ subst (λ g. IsSurface (chain g s.rows s.columns)) (sym one)
      (tori_are_surfaces s.rows s.columns is.rows is.columns)
  | inr four ↦ chains_are_surfaces s.tori s.rows s.columns is.some four.0 four.1
]

pub made_are_positive : (mesh : Mesh) (scatter : ℕ) → ArePositive mesh (made_values mesh scatter)
made_are_positive mesh scatter e l =
    let is = get_or-map-range_with_len (made_length scatter) 0 (edge_count mesh) e e 0 l (omega arith) in
    omega (arith, is)

-- three halves as many edges as faces, and χ is below 2
pub record IsCounted (shape : Shape) : Type 0 where
  pub edges : 2 * edge_count (mesh_of shape) ≡ 3 * face_count (mesh_of shape)
  pub few : (mesh_of shape).vertices + face_count (mesh_of shape) < edge_count (mesh_of shape) + 2

pub shapes_are_counted : (s : Shape) → IsShape s → IsCounted s
shapes_are_counted s is = elim is.longer [
  | inl one ↦ torus_counted s.tori s.rows s.columns one is.rows is.columns
  | inr four ↦ chain_counted s.tori s.rows s.columns is.some four.0 four.1
]
  where
    torus_counted : (g a b : ℕ) → g ≡ 1 → 3 ≤ a → 3 ≤ b → IsCounted (record { tori = g; rows = a; columns = b })
    torus_counted g a b one rows columns =
        let counts = tori_have_counts a b rows columns in
        let faces = counts.faces in
        let edges = counts.edges in
        let is : IsCounted (record { tori = 1; rows = a; columns = b }) =
        record { edges = omega (arith, faces, edges); few = omega (arith, faces, edges) } in
        subst (λ n. IsCounted (record { tori = n; rows = a; columns = b })) (sym one) is

    chain_counted : (g a b : ℕ) → 1 ≤ g → 4 ≤ a → 4 ≤ b → IsCounted (record { tori = g; rows = a; columns = b })
    chain_counted g a b some rows columns =
        let counts = chains_have_counts g a b some rows columns in
        let vertices = counts.vertices in
        let faces = counts.faces in
        let edges = counts.edges in
        record { edges = edges; few = omega (arith, some, vertices, faces, edges) }
