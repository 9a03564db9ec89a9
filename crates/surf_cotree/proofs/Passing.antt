-- The links of the sides of a face, in the order of their numbers.
use Rattle.surf_cotree.proofs.Common.{ℕ, ◌<◌, ◌≤◌, ◌≡◌, ◌+◌, ◌-◌, List, length, arith, map, range_with_len, get_or-map-range_with_len, length-map-range_with_len, dual, Mesh, IsSurface, face_count, face_at, first_side, cells_of, link_at, side_link, IsRow, side_row}

-- the links of the sides from one number to another one
abbrev pub links : Mesh → ℕ → ℕ → List (ℕ × ℕ)
links mesh start end = map (side_link mesh) (range_with_len start (end - start))

pub links_many : (mesh : Mesh) (start end : ℕ) → length (links mesh start end) ≡ end - start
links_many mesh start end = length-map-range_with_len (side_link mesh) start (end - start)

-- those of a face are its row
pub links_row : (mesh : Mesh) → IsSurface mesh → (f start end : ℕ) → f < face_count mesh → start ≡ first_side mesh f →
    end ≡ first_side mesh f + length (face_at mesh f) → IsRow (dual (cells_of mesh)) f (links mesh start end)
links_row mesh surface f start end lt from to =
    let count : end - start ≡ length (face_at mesh f) = omega arith in
    rw (count, from) (side_row mesh surface f lt)

-- the link of a side
pub link_is : (mesh : Mesh) (start end s side : ℕ) → start ≤ s → s < end → side ≡ s →
    link_at (links mesh start end) (s - start) ≡ side_link mesh side
link_is mesh start end s side from lt is =
    get_or-map-range_with_len (side_link mesh) start (end - start) (s - start) side (0, 0) (omega arith) (omega arith)
