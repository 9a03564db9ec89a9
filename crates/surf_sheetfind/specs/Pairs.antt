-- Rows that are paired with the classes of walks.
use Rattle.std.specs.Prelude.{◌≡◌, ℕ, ◌<◌, ◌^◌, true, List, [], length, map, All, slice_index, slice_index_or}
use Rattle.surf_z2.specs.Space.{numbers, sum_of, Independent}
use Rattle.surf_z2.specs.Sieve.{has}
use Rattle.surf_signatures.specs.Tables.{Signed}
use Rattle.surf_surfaces.specs.Mesh.{Mesh, steps}
use Rattle.surf_surfaces.specs.Walk.{edge_number}
use Rattle.surf_paired.specs.Paired.{image, ArePairedRows}

-- the walk at a place
abbrev pub walk_at : List (List ℕ) → ℕ → List ℕ
walk_at walks k = slice_index_or walks k []

-- the sum of the sets of a walk's steps, by a table of sets of edges
abbrev pub class_by : Mesh → List ℕ → List ℕ → ℕ
class_by mesh signatures walk =
    sum_of numbers (map (λ s. slice_index signatures (edge_number mesh s)) (steps walk))

-- those of some walks
abbrev pub classes_of : Mesh → List ℕ → List (List ℕ) → List ℕ
classes_of mesh signatures walks = map (class_by mesh signatures) walks

-- independent classes, of numbers below how many they are
pub record AreClasses (classes : List ℕ) : Type 0 where
  pub independent : Independent numbers classes
  pub below : All (λ c. c < 2 ^ length classes) classes

-- a table of as many rows as numbers
pub record AreRows (count : ℕ) (rows : Signed) : Type 0 where
  pub width : rows.width ≡ count
  pub count_is : length rows.sets ≡ count

-- rows that are paired with the first n classes, of which the next is given
pub record CanPair (classes rows : List ℕ) (n class : ℕ) : Type 0 where
  pub are : AreClasses classes
  pub as_many : length rows ≡ length classes
  pub here : n < length classes
  pub is : slice_index classes n ≡ class
  pub paired : ArePairedRows classes rows n

-- they are paired so, and the image of the next class has its own number
pub record HasOwn (classes rows : List ℕ) (n : ℕ) : Type 0 where
  pub paired : ArePairedRows classes rows n
  pub own : has (image rows (slice_index classes n)) n ≡ true
