-- How many signatures there are, and how great they are.
use Rattle.surf_finder.proofs.Common.{◌≡◌, ℕ, ◌<◌, ◌^◌, List, length, ap, arith, ◌∙◌, subst, length-map-range_with_len, Split, chain_signature, Mesh, edge_count, parity, cells_of, class_of, edge_signature, small, SignTables, AreSigned, is_signed, slice_index, true, false, ◌≢◌, nat_tests}

-- the class of a walk is as small as there are left edges
pub class_small : (mesh : Mesh) (d : Split) (walk : List ℕ) (width : ℕ) → length d.left ≡ width → class_of mesh d walk < 2 ^ width
class_small mesh d walk width is = subst (λ n. class_of mesh d walk < 2 ^ n) is (small (length d.left) (chain_signature (cells_of mesh) d (parity mesh walk)))

-- signatures are as many as edges
pub signs_long : (mesh : Mesh) (t : SignTables) (width : ℕ) → AreSigned mesh t width → length t.signatures ≡ edge_count mesh
signs_long mesh t width s =
    ap (λ (xs : List ℕ). length xs) s.signatures ∙ length-map-range_with_len (edge_signature mesh s.split) 0 (edge_count mesh)

-- an edge is told to have a signature exactly where that isn't empty
pub signed_some : (s : SignTables) (e : ℕ) → is_signed s e ≡ true → slice_index s.signatures e ≢ 0
signed_some s e on none = grind (arith, nat_tests)

pub signed_none : (s : SignTables) (e : ℕ) → is_signed s e ≡ false → slice_index s.signatures e ≡ 0
signed_none s e off = grind (arith, nat_tests)
