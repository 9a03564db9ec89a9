-- The shapes that words name have surfaces as meshes, and the lengths that a scatter makes are positive.
use Rattle.surf_answers.proofs.Common.{rules, ℕ, Bool, true, false, List, [], ◌∷◌, Option, Some, None, refl, sym, subst, arith, inl, inr, AllByRecursion, cases_Bool, and_parts, leb-true, get_or-map-range_with_len, Mesh, edge_count, IsSurface, ArePositive, nat_le, ◌&&◌, if◌then◌else◌, IfSome, codes, option_map}
use Rattle.surf_answers.proofs.Commands.{made_length, made_values, Shape, IsShape, mesh_of, shape_from, shape_named}
use Rattle.surf_answers.proofs.Commands.{Request, help, version, try_shape, word_number, tried, torus_of, chain_of}
use Rattle.surf_answers.proofs.Commands.{Row, row, command_table, fits, given_for, request_in, words_of}
use Rattle.surf_tori.specs.Chain.{chain}
use Rattle.surf_tori.proofs.ChainLaws.{chains_are_surfaces}
use Rattle.surf_tori.proofs.TorusLaws.{tori_are_surfaces}
use Rattle.surf_words.specs.Words.{request_of}
use Prim.Native.String.{String as Literal}

-- ---- the shapes of words

-- the shape that a request tries is one
abbrev pub IsWellShaped : Option Request → Type 0
IsWellShaped None = Unit {0}
IsWellShaped (Some (try_shape shape scatter)) = IsShape shape
IsWellShaped (Some other) = Unit {0}

either : (b : Bool) (x y : Option Request) → IsWellShaped x → IsWellShaped y → IsWellShaped (if b then x else y)
either true x y a b = a
either false x y a b = b

torus_shaped : (a b : ℕ) → IfSome (shape_from 3 1 a b) IsShape
torus_shaped a b = elim (cases_Bool (nat_le 3 a && nat_le 3 b)) [
  | inl good ↦
      let parts = and_parts (nat_le 3 a) (nat_le 3 b) good in
      let rows = leb-true 3 a parts.0 in
      let columns = leb-true 3 b parts.1 in
      rw good (record { some = omega arith; rows = rows; columns = columns; longer = inl refl })
  | inr bad ↦ rw bad tt
]

chain_shaped : (g a b : ℕ) → IfSome (shape_from 4 g a b) IsShape
chain_shaped g a b = elim (cases_Bool (nat_le 1 g && (nat_le 4 a && nat_le 4 b))) [
  | inl good ↦
      let parts = and_parts (nat_le 1 g) (nat_le 4 a && nat_le 4 b) good in
      let sizes = and_parts (nat_le 4 a) (nat_le 4 b) parts.1 in
      let some = leb-true 1 g parts.0 in
      let rows = leb-true 4 a sizes.0 in
      let columns = leb-true 4 b sizes.1 in
      rw good (record {
        some = some;
        rows = omega (arith, rows);
        columns = omega (arith, columns);
        longer = inr (rows, columns);
      })
  | inr bad ↦ rw bad tt
]

torus_is : (rows columns : Option ℕ) → IfSome (shape_named 3 (Some 1) rows columns) IsShape
torus_is None columns = tt
torus_is (Some a) None = tt
torus_is (Some a) (Some b) = torus_shaped a b

chain_is : (tori rows columns : Option ℕ) → IfSome (shape_named 4 tori rows columns) IsShape
chain_is None rows columns = tt
chain_is (Some g) None columns = tt
chain_is (Some g) (Some a) None = tt
chain_is (Some g) (Some a) (Some b) = chain_shaped g a b

tried_is : (s : Option Shape) (n : Option ℕ) → IfSome s IsShape → IsWellShaped (tried s n)
tried_is None n is = tt
tried_is (Some s) None is = tt
tried_is (Some s) (Some n) is = is

torus_tried : (w : Literal → List ℕ) → IsWellShaped (tried (torus_of w) (word_number (w "s")))
torus_tried w = tried_is (torus_of w) (word_number (w "s")) (torus_is (word_number (w "a")) (word_number (w "b")))

chain_tried : (w : Literal → List ℕ) → IsWellShaped (tried (chain_of w) (word_number (w "s")))
chain_tried w =
    tried_is (chain_of w) (word_number (w "s")) (chain_is (word_number (w "g")) (word_number (w "a")) (word_number (w "b")))

-- ---- other requests try no shape

mapped_is : {A : Type 0} (f : A → Request) (x : Option A) → ((a : A) → IsWellShaped (Some (f a))) → IsWellShaped (option_map f x)
mapped_is f None all = tt
mapped_is f (Some a) all = all a

-- ---- so is each row of the table

abbrev IsShapedRow : Row → Type 0
IsShapedRow (row call effect request) = (w : Literal → List ℕ) → IsWellShaped (request w)

rows_are_well_shaped : (table : List Row) (words : List (List ℕ)) → AllByRecursion IsShapedRow table →
    IsWellShaped (request_in table words)
rows_are_well_shaped [] words shaped = tt
rows_are_well_shaped (row call effect request ∷ others) words shaped =
    either (fits (words_of (codes call)) words) (request (λ name. given_for (codes name) (words_of (codes call)) words))
    (request_in others words) (shaped.0 _) (rows_are_well_shaped others words shaped.1)

-- where a row tries no shape there is nothing to show
table_is_well_shaped : AllByRecursion IsShapedRow command_table
table_is_well_shaped = search (rules, mapped_is, torus_tried, chain_tried)

pub words_are_well_shaped : (words : List (List ℕ)) → IsWellShaped (request_of words)
unfolding request_of
words_are_well_shaped words =
    rows_are_well_shaped (row "--help" "" (λ w. Some help) ∷ row "--version" "" (λ w. Some version) ∷ command_table) words
    (λ w. tt, (λ w. tt, table_is_well_shaped))

-- ---- their meshes

pub shape_is_surface : (s : Shape) → IsShape s → IsSurface (mesh_of s)
shape_is_surface s is = elim is.longer [
  | inl one ↦ subst (λ g. IsSurface (chain g s.rows s.columns)) (sym one)
      (tori_are_surfaces s.rows s.columns is.rows is.columns)
  | inr four ↦ chains_are_surfaces s.tori s.rows s.columns is.some four.0 four.1
]

pub made_are_positive : (mesh : Mesh) (scatter : ℕ) → ArePositive mesh (made_values mesh scatter)
made_are_positive mesh scatter e l =
    let is = get_or-map-range_with_len (made_length scatter) 0 (edge_count mesh) e e 0 l (omega arith) in
    omega (arith, is)
