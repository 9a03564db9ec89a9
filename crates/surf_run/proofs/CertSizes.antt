-- How long the texts of certificates are.
use Rattle.surf_surfaces.proofs.Common.{◌≡◌, ◌≢◌, ◌≤◌, ◌<◌, ◌+◌, ◌*◌, ◌^◌, ◌++◌, ℕ, List, [], ◌∷◌, length, get_or, Option, Some, None, arith, eqb-true, length-append, Mesh, length-decimal-le, recursion_from_All, All-tail, length-le_from_distinct_below, IsSimpleCycle}
use Rattle.std.specs.Prelude.{◌==◌, codes, decimal, flat_map}
use Rattle.std.specs.List.{All, AllPairs, AllByRecursion, zip}
use Rattle.std.specs.Option.{option_map_or}
use Rattle.std.proofs.lemmas.Bool.Decides.{Decides-eqb}
use Rattle.std.proofs.lemmas.Map.Made.{IsDistinct-from_AllPairs}
use Rattle.surf_records.specs.Fits.{IsNumber, IsParent, TreeFits, IsPair, IsFaceRow, DualFits, LeftFits, LoopFits, BasisFits}
use Rattle.surf_text.specs.Numbers.{numbers_text}
use Rattle.surf_cert.specs.Written.{cert_head_text, base_line, vertex_line, pair_text, face_line, pair_line, cycle_line, tree_text, dual_text, left_text, cycles_text, loop_text, basis_text}
use Rattle.surf_surfaces.proofs.meshes.EdgeLaws.{list_any_at}
use Rattle.surf_validity.specs.Rows.{TreeRows, DualRows, LoopCert, BasisCert}

-- ---- pieces

pub length_of_three : (a b c : List ℕ) → length (a ++ (b ++ c)) ≡ length a + length b + length c
length_of_three a b c =
    let first = length-append a (b ++ c) in
    let second = length-append b c in
    omega (arith, first, second)

pub length_of_four : (a b c d : List ℕ) → length (a ++ (b ++ (c ++ d))) ≡ length a + length b + length c + length d
length_of_four a b c d =
    let first = length-append a (b ++ (c ++ d)) in
    let rest = length_of_three b c d in
    omega (arith, first, rest)

-- a number of a text has at most ten digits
pub number_short : (n : ℕ) → IsNumber n → length (decimal n) ≤ 10
number_short n few = length-decimal-le 10 n (omega arith) (omega (arith, few)) (omega (arith, few))

whole_short : (n : ℕ) → n < 2 ^ 64 → length (decimal n) ≤ 20
whole_short n few = length-decimal-le 20 n (omega arith) (omega (arith, few)) few

pub numbers_short : (ns : List ℕ) → AllByRecursion IsNumber ns → length (numbers_text ns) ≤ 11 * length ns
numbers_short [] all = omega arith
numbers_short (n ∷ ns) all =
    let whole = length-append (codes " " ++ decimal n) (numbers_text ns) in
    let front = length-append (codes " ") (decimal n) in
    let here = number_short n all.0 in
    let rest = numbers_short ns all.1 in
    omega (arith, whole, front, here, rest)

-- ---- a tree of the vertices

parent_short : (p : Option ℕ) → IsParent p → length (option_map_or decimal p (codes "-")) ≤ 10
parent_short None is = omega arith
parent_short (Some u) is = number_short u is

vertices_short : (ds : List ℕ) (ps : List (Option ℕ)) → AllByRecursion (λ d. d < 2 ^ 64) ds →
    AllByRecursion IsParent ps →
    length (flat_map vertex_line (zip ds ps)) ≤ 32 * length ds
vertices_short [] ps whole parents = omega arith
vertices_short (d ∷ ds) [] whole parents = omega arith
vertices_short (d ∷ ds) (p ∷ ps) whole parents =
    let all = length-append (vertex_line (d, p)) (flat_map vertex_line (zip ds ps)) in
    let line = length_of_four (decimal d) (codes " ") (option_map_or decimal p (codes "-")) (codes "\n") in
    let distance = whole_short d whole.0 in
    let parent = parent_short p parents.0 in
    let rest = vertices_short ds ps whole.1 parents.1 in
    omega (arith, all, line, distance, parent, rest)

tree_short : (v : ℕ) (tree : TreeRows) → TreeFits v tree → length (tree_text tree) ≤ 16 + 32 * v
tree_short v tree fits =
    let all = length-append (base_line tree.base) (flat_map vertex_line (zip tree.distance tree.parent)) in
    let line = length_of_three (codes "tree ") (decimal tree.base) (codes "\n") in
    let base = number_short tree.base fits.base in
    let rows =
    vertices_short tree.distance tree.parent (recursion_from_All (λ d. d < 2 ^ 64) tree.distance fits.whole)
    (recursion_from_All IsParent tree.parent fits.numbers) in
    let size = fits.distances in
    omega (arith, all, line, base, rows, size)

trees_short : (v : ℕ) (trees : List TreeRows) → v ≤ 1000 → AllByRecursion (TreeFits v) trees →
    length (flat_map tree_text trees) ≤ 32016 * length trees
trees_short v [] few all = omega arith
trees_short v (tree ∷ trees) few all =
    let whole = length-append (tree_text tree) (flat_map tree_text trees) in
    let here = tree_short v tree all.0 in
    let rest = trees_short v trees few all.1 in
    omega (arith, whole, here, rest, few)

-- ---- a tree of the faces, and the left edges

pair_short : (p : ℕ × ℕ) → IsPair p → length (pair_text p) ≤ 21
pair_short p is =
    let line = length_of_three (decimal p.0) (codes " ") (decimal p.1) in
    let order = is.ordered in
    let most = is.number in
    let first = number_short p.0 (omega (arith, order, most)) in
    let second = number_short p.1 most in
    omega (arith, line, first, second)

face_short : (depth : ℕ) (side : Option (ℕ × ℕ)) → IsFaceRow (depth, side) → length (face_line (depth, side)) ≤ 33
face_short depth None is =
    let line = length_of_four (decimal depth) (codes " ") (codes "-") (codes "\n") in
    let size = number_short depth (omega (arith, is)) in
    omega (arith, line, size)
face_short depth (Some p) is =
    let line = length_of_four (decimal depth) (codes " ") (pair_text p) (codes "\n") in
    let size = number_short depth is.1 in
    let side = pair_short p is.2 in
    omega (arith, line, size, side)

faces_short : (depths : List ℕ) (sides : List (Option (ℕ × ℕ))) → AllByRecursion IsFaceRow (zip depths sides) →
    length (flat_map face_line (zip depths sides)) ≤ 33 * length depths
faces_short [] sides all = omega arith
faces_short (d ∷ ds) [] all = omega arith
faces_short (d ∷ ds) (s ∷ ss) all =
    let whole = length-append (face_line (d, s)) (flat_map face_line (zip ds ss)) in
    let here = face_short d s all.0 in
    let rest = faces_short ds ss all.1 in
    omega (arith, whole, here, rest)

dual_short : (f : ℕ) (dual : DualRows) → DualFits f dual → length (dual_text dual) ≤ 5 + 33 * f
dual_short f dual fits =
    let all = length-append (codes "dual\n") (flat_map face_line (zip dual.depth dual.side)) in
    let rows = faces_short dual.depth dual.side (recursion_from_All IsFaceRow (zip dual.depth dual.side) fits.rows) in
    let size = fits.depths in
    omega (arith, all, rows, size)

pairs_short : (ps : List (ℕ × ℕ)) → AllByRecursion IsPair ps → length (flat_map pair_line ps) ≤ 22 * length ps
pairs_short [] all = omega arith
pairs_short (p ∷ ps) all =
    let whole = length-append (pair_line p) (flat_map pair_line ps) in
    let line = length_of_four (decimal p.0) (codes " ") (decimal p.1) (codes "\n") in
    let order = all.0.ordered in
    let most = all.0.number in
    let first = number_short p.0 (omega (arith, order, most)) in
    let second = number_short p.1 most in
    let rest = pairs_short ps all.1 in
    omega (arith, whole, line, first, second, rest)

left_short : (k : ℕ) (left : List (ℕ × ℕ)) → LeftFits k left → length (left_text left) ≤ 5 + 22 * k
left_short k left fits =
    let all = length-append (codes "left\n") (flat_map pair_line left) in
    let rows = pairs_short left (recursion_from_All IsPair left fits.pairs) in
    let size = fits.count in
    omega (arith, all, rows, size)

-- ---- cycles

-- numbers that differ are no more than there are
differ_few : (xs : List ℕ) (n : ℕ) → AllPairs (λ u v. u ≢ v) xs → All (λ v. v < n) xs → length xs ≤ n
differ_few xs n differ below =
    length-le_from_distinct_below xs n (IsDistinct-from_AllPairs Decides-eqb xs differ) (λ q there.
    let (k, l, same) = list_any_at (λ x. q == x) xs 0 there in
    let is : q ≡ get_or xs k 0 = eqb-true q (get_or xs k 0) same in
    let inside = below k 0 l in
    omega (arith, is, inside))

-- a simple cycle has at most one number more than there are vertices
simple_short : (mesh : Mesh) (walk : List ℕ) → IsSimpleCycle mesh walk → length walk ≤ mesh.vertices + 1
simple_short mesh [] is = omega arith
simple_short mesh (v ∷ walk) is =
    let few = differ_few walk mesh.vertices is.distinct
    (All-tail (λ u. u < mesh.vertices) v walk is.closed.is_walk.vertices) in
    omega (arith, few)

cycle_short : (mesh : Mesh) (cycle : List ℕ) → mesh.vertices ≤ 1000 → IsSimpleCycle mesh cycle →
    length (cycle_line cycle) ≤ 11011
cycle_short mesh [] few is = omega arith
cycle_short mesh (v ∷ vs) few is =
    let inside = recursion_from_All (λ u. u < mesh.vertices) (v ∷ vs) is.closed.is_walk.vertices in
    let line = length_of_three (decimal v) (numbers_text vs) (codes "\n") in
    let first = number_short v (let below = inside.0 in omega (arith, below, few)) in
    let rest = numbers_short vs (below_numbers vs inside.1) in
    let size = simple_short mesh (v ∷ vs) is in
    omega (arith, line, first, rest, size, few)
  where
    below_numbers : (xs : List ℕ) → AllByRecursion (λ u. u < mesh.vertices) xs → AllByRecursion IsNumber xs
    below_numbers [] all = tt
    below_numbers (x ∷ xs) all = (let below = all.0 in omega (arith, below, few), below_numbers xs all.1)

cycles_short : (mesh : Mesh) (cycles : List (List ℕ)) → mesh.vertices ≤ 1000 →
    AllByRecursion (IsSimpleCycle mesh) cycles →
    length (flat_map cycle_line cycles) ≤ 11011 * length cycles
cycles_short mesh [] few all = omega arith
cycles_short mesh (c ∷ cs) few all =
    let whole = length-append (cycle_line c) (flat_map cycle_line cs) in
    let here = cycle_short mesh c few all.0 in
    let rest = cycles_short mesh cs few all.1 in
    omega (arith, whole, here, rest)

-- ---- certificates

head_short : (word : List ℕ) (v f k : ℕ) → length word ≤ 5 → IsNumber v → IsNumber f → IsNumber k →
    length (cert_head_text word v f k) ≤ 60
head_short word v f k small few_v few_f few_k =
    let first = length-append (codes "SURFCERT 1 ")
    (word ++ (codes "\ncounts " ++ (decimal v ++
    (codes " " ++ (decimal f ++ (codes " " ++ (decimal k ++ codes "\n"))))))) in
    let second = length-append word (codes "\ncounts " ++
    (decimal v ++ (codes " " ++ (decimal f ++ (codes " " ++ (decimal k ++ codes "\n")))))) in
    let third = length_of_four (codes "\ncounts ") (decimal v) (codes " ")
    (decimal f ++ (codes " " ++ (decimal k ++ codes "\n"))) in
    let fourth = length_of_four (decimal f) (codes " ") (decimal k) (codes "\n") in
    let v_short = number_short v few_v in
    let f_short = number_short f few_f in
    let k_short = number_short k few_k in
    omega (arith, first, second, third, fourth, v_short, f_short, k_short, small)

pub loop_text_short : (cert : LoopCert) → LoopFits cert → length cert.tree.distance ≤ 1000000 →
    length cert.dual.depth ≤ 2000000 →
    length cert.left ≤ 1024 → length (loop_text cert) ≤ 268435456
loop_text_short cert fits few_v few_f few_k =
    let head = head_short (codes "loops") (length cert.tree.distance) (length cert.dual.depth) (length cert.left)
    (omega arith) fits.vertices fits.faces fits.count in
    let all =
    length_of_four (cert_head_text (codes "loops") (length cert.tree.distance) (length cert.dual.depth)
    (length cert.left)) (tree_text cert.tree) (dual_text cert.dual)
    (left_text cert.left) in
    let tree = tree_short (length cert.tree.distance) cert.tree fits.tree in
    let dual = dual_short (length cert.dual.depth) cert.dual fits.dual in
    let left = left_short (length cert.left) cert.left fits.left in
    omega (arith, head, all, tree, dual, left, few_v, few_f, few_k)

pub basis_text_short : (mesh : Mesh) (cert : BasisCert) → BasisFits cert → mesh.vertices ≤ 1000 →
    length cert.trees ≤ 1000 →
    length cert.dual.depth ≤ 2000000 → length cert.left ≤ 1024 → All (IsSimpleCycle mesh) cert.cycles →
    length (basis_text cert) ≤ 268435456
basis_text_short mesh cert fits few few_v few_f few_k simple =
    let head = head_short (codes "basis") (length cert.trees) (length cert.dual.depth) (length cert.left)
    (omega arith) fits.vertices fits.faces fits.count in
    let rest = dual_text cert.dual ++ (left_text cert.left ++ cycles_text cert.cycles) in
    let all =
    length_of_three (cert_head_text (codes "basis") (length cert.trees) (length cert.dual.depth) (length cert.left))
    (flat_map tree_text cert.trees) rest in
    let parts = length_of_three (dual_text cert.dual) (left_text cert.left) (cycles_text cert.cycles) in
    let trees = trees_short (length cert.trees) cert.trees few_v
    (recursion_from_All (TreeFits (length cert.trees)) cert.trees fits.trees) in
    let dual = dual_short (length cert.dual.depth) cert.dual fits.dual in
    let left = left_short (length cert.left) cert.left fits.left in
    let whole = length-append (codes "cycles\n") (flat_map cycle_line cert.cycles) in
    let cycles = cycles_short mesh cert.cycles few (recursion_from_All (IsSimpleCycle mesh) cert.cycles simple) in
    let many = fits.as_many in
    omega (arith, head, all, parts, trees, dual, left, whole, cycles, many, few_v, few_f, few_k)
