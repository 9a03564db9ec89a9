-- The characteristic of a surface of triangles, by its vertices and faces alone.
use Rattle.surf_surfaces.proofs.Common.{◌≡◌, ℕ, ◌+◌, ◌*◌, ◌<◌, List, [], ◌∷◌, length, refl, sym, ap, ◌∙◌, arith, sum_by, AllByRecursion, All-from_get_or, recursion_from_All, sum_by-cons, face_count, edge_count, face_at, IsSurface, Mesh, characteristic}
use Rattle.std.specs.Prelude.{ℤ, pos, ◌+ℤ◌, ◌-ℤ◌}
use Rattle.std.proofs.Math.IntN.{neg_ℤ, +ℤ_assoc, +ℤ_comm, pos-+ℤ-pos, +ℤ-neg_ℤ_cancel, -ℤ-+ℤ_cancel}
use Rattle.surf_surfaces.proofs.meshes.CountLaws.{sizes_twice}
use Rattle.surf_surfaces.proofs.meshes.EulerSums.{less_two}

pub three_each : (xs : List (List ℕ)) → AllByRecursion (λ x. length x ≡ 3) xs → sum_by length xs ≡ 3 * length xs
three_each [] h = refl
three_each (x ∷ xs) h = sum_by-cons length x xs ∙ omega (arith, h.0, three_each xs h.1)

-- three times the faces are twice the edges
pub triangle_edges : (mesh : Mesh) → IsSurface mesh → ((f : ℕ) → f < face_count mesh → length (face_at mesh f) ≡ 3) →
    3 * face_count mesh ≡ 2 * edge_count mesh
triangle_edges mesh surface three =
    sym (three_each mesh.faces (recursion_from_All (λ x. length x ≡ 3) mesh.faces
    (All-from_get_or (λ x. length x ≡ 3) mesh.faces [] three))) ∙ sizes_twice mesh surface

-- a mesh whose vertices and faces are d less than its edges and 2
pub characteristic_less : (mesh : Mesh) (d : ℕ) → d + (mesh.vertices + face_count mesh) ≡ edge_count mesh + 2 →
    characteristic mesh ≡ pos 2 -ℤ pos d
characteristic_less mesh d count =
    sym (+ℤ-neg_ℤ_cancel (characteristic mesh) (pos d)) ∙ ap (λ x. x -ℤ pos d)
    (less_two mesh.vertices (edge_count mesh) (face_count mesh) d count)

-- sums of four, and of three
four : (a b p q : ℤ) → (a +ℤ b) +ℤ (p +ℤ q) ≡ (a +ℤ p) +ℤ (b +ℤ q)
four a b p q =
    +ℤ_assoc a b (p +ℤ q)
    ∙ ap (λ x. a +ℤ x) (sym (+ℤ_assoc b p q) ∙ ap (λ x. x +ℤ q) (+ℤ_comm b p) ∙ +ℤ_assoc p b q)
    ∙ sym (+ℤ_assoc a p (b +ℤ q))

last_before : (x t y : ℤ) → (x +ℤ t) +ℤ y ≡ (x +ℤ y) +ℤ t
last_before x t y = +ℤ_assoc x t y ∙ ap (λ z. x +ℤ z) (+ℤ_comm t y) ∙ sym (+ℤ_assoc x y t)

-- vertices less edges and more faces, and the edges
with_edges : (v e f : ℕ) → ((pos v -ℤ pos e) +ℤ pos f) +ℤ pos e ≡ pos (v + f)
with_edges v e f =
    +ℤ_assoc (pos v -ℤ pos e) (pos f) (pos e)
    ∙ ap (λ x. (pos v -ℤ pos e) +ℤ x) (+ℤ_comm (pos f) (pos e))
    ∙ sym (+ℤ_assoc (pos v -ℤ pos e) (pos e) (pos f))
    ∙ ap (λ x. x +ℤ pos f) (-ℤ-+ℤ_cancel (pos v) (pos e))
    ∙ pos-+ℤ-pos v f

-- a mesh that has three vertices, three edges and two faces less than two others
pub characteristic_of_sum : (m n k : Mesh) → k.vertices + 3 ≡ m.vertices + n.vertices →
    edge_count k + 3 ≡ edge_count m + edge_count n → face_count k + 2 ≡ face_count m + face_count n →
    characteristic k ≡ (characteristic m +ℤ characteristic n) -ℤ pos 2
characteristic_of_sum m n k vertices edges faces =
    let e = edge_count m in
    let d = edge_count n in
    let v = m.vertices + face_count m in
    let w = n.vertices + face_count n in
    let x = characteristic k in
    let y = characteristic m +ℤ characteristic n in
    let left : x +ℤ pos (e + d) ≡ pos (k.vertices + face_count k + 3) =
    ap (λ t. x +ℤ t) (ap pos (sym edges) ∙ sym (pos-+ℤ-pos (edge_count k) 3))
    ∙ sym (+ℤ_assoc x (pos (edge_count k)) (pos 3))
    ∙ ap (λ t. t +ℤ pos 3) (with_edges k.vertices (edge_count k) (face_count k))
    ∙ pos-+ℤ-pos (k.vertices + face_count k) 3 in
    let sum : y +ℤ pos (e + d) ≡ pos (v + w) =
    ap (λ t. y +ℤ t) (sym (pos-+ℤ-pos e d)) ∙ four (characteristic m) (characteristic n) (pos e) (pos d)
    ∙ ap (λ t. t +ℤ (characteristic n +ℤ pos d)) (with_edges m.vertices e (face_count m))
    ∙ ap (λ t. pos v +ℤ t) (with_edges n.vertices d (face_count n))
    ∙ pos-+ℤ-pos v w in
    let all : v + w ≡ k.vertices + face_count k + 3 + 2 = omega (arith, vertices, faces) in
    let right : (y -ℤ pos 2) +ℤ pos (e + d) ≡ pos (k.vertices + face_count k + 3) =
    last_before y (neg_ℤ (pos 2)) (pos (e + d)) ∙ ap (λ t. t -ℤ pos 2) (sum ∙ ap pos all
    ∙ sym (pos-+ℤ-pos (k.vertices + face_count k + 3) 2))
    ∙ +ℤ-neg_ℤ_cancel (pos (k.vertices + face_count k + 3)) (pos 2) in
    sym (+ℤ-neg_ℤ_cancel x (pos (e + d))) ∙ ap (λ t. t -ℤ pos (e + d)) (left ∙ sym right)
    ∙ +ℤ-neg_ℤ_cancel (y -ℤ pos 2) (pos (e + d))
