-- What closes up is even at each vertex: the sides of a face, a closed walk, the boundary of a set of faces.
use Rattle.surf_surfaces.proofs.Common.{◌≡◌, ◌≢◌, ℕ, ◌<◌, Bool, true, false, ◌&&◌, eqb, List, [], ◌∷◌, ◌++◌, map, refl, sym, ap, ◌∙◌, arith, Contains, inl, inr, AllByRecursion, eqb-true, cases_lt, le-ltb, recursion_from_All, Mesh, IsMesh, IsFace, steps_from, sides, pair, pair_of, pair_eq, among, edges, xor, odd, odd_below, face_count, edge_count, face_at, ends, has_side, touches, IsSurface, IsClosed, last_from, parity, boundary}
use Rattle.surf_z2.proofs.ParityLaws.{xor_meet, or-xor, xor-same, xor-and, and-false, and_comm, odd_below-none, odd_below-same, odd_below-xor, odd_below-swap, odd_below-and}
use Rattle.surf_surfaces.proofs.meshes.EdgeLaws.{among-contains, odd_below-ends}
use Rattle.surf_surfaces.proofs.meshes.FaceLaws.{IsStepBelow, face_steps, touches-pair_of, has_side-odd}
use Rattle.surf_surfaces.proofs.meshes.SurfaceLaws.{odd_below-faces, edge_below, sides_are_edges}

-- steps along edges that move
abbrev pub AreSteps : Mesh → List (ℕ × ℕ) → Type 0
AreSteps mesh ss = AllByRecursion (λ s. (s.0 ≢ s.1) × (among (pair_of s) (edges mesh) ≡ true)) ss

-- over all edges, what is run an odd number of times is summed over the steps
odd_below-steps : (mesh : Mesh) (g : ℕ × ℕ → Bool) (ss : List (ℕ × ℕ)) → AreSteps mesh ss →
    odd_below (edge_count mesh) (λ e. odd (map (λ s. pair_eq (ends mesh e) (pair_of s)) ss) && g (ends mesh e))
    ≡ odd (map (λ s. g (pair_of s)) ss)
odd_below-steps mesh g [] h = odd_below-none (edge_count mesh) (λ e. false) (λ e in'. refl)
odd_below-steps mesh g (s ∷ ss) h =
    let E = edge_count mesh in
    let later : ℕ → Bool = λ e. odd (map (λ t. pair_eq (ends mesh e) (pair_of t)) ss) in
    let here : ℕ → Bool = λ e. pair_eq (ends mesh e) (pair_of s) in
    odd_below-same E (λ e. xor (here e) (later e) && g (ends mesh e))
    (λ e. xor (here e && g (ends mesh e)) (later e && g (ends mesh e)))
    (λ e in'. xor-and (here e) (later e) (g (ends mesh e)))
    ∙ odd_below-xor E (λ e. here e && g (ends mesh e)) (λ e. later e && g (ends mesh e))
    ∙ ap (λ t. xor t (odd_below E (λ e. later e && g (ends mesh e)))) (odd_below-ends mesh (pair_of s) g h.0.1)
    ∙ ap (xor (g (pair_of s))) (odd_below-steps mesh g ss h.1)

pub touches-xor : (v : ℕ) (p : ℕ × ℕ) → p.0 ≢ p.1 → touches v p ≡ xor (eqb p.0 v) (eqb p.1 v)
touches-xor v p apart = or-xor (eqb p.0 v) (eqb p.1 v) (λ e f. apart (eqb-true p.0 v e ∙ sym (eqb-true p.1 v f)))

-- the steps at a vertex are odd in number where the walk begins or ends there, and not both
steps_touch : (mesh : Mesh) (v u : ℕ) (rest : List ℕ) → AreSteps mesh (steps_from u rest) →
    odd (map (λ s. touches v (pair_of s)) (steps_from u rest)) ≡ xor (eqb u v) (eqb (last_from u rest) v)
steps_touch mesh v u [] h = sym (xor-same (eqb u v))
steps_touch mesh v u (w ∷ rest) h =
    ap (λ t. xor t (odd (map (λ s. touches v (pair_of s)) (steps_from w rest))))
    (touches-pair_of v (u, w) ∙ touches-xor v (u, w) h.0.0)
    ∙ ap (xor (xor (eqb u v) (eqb w v))) (steps_touch mesh v w rest h.1)
    ∙ xor_meet (eqb u v) (eqb w v) (eqb (last_from w rest) v)

path_even : (mesh : Mesh) (v u : ℕ) (rest : List ℕ) → AreSteps mesh (steps_from u rest) → last_from u rest ≡ u →
    odd_below (edge_count mesh)
    (λ e. odd (map (λ s. pair_eq (ends mesh e) (pair_of s)) (steps_from u rest)) && touches v (ends mesh e)) ≡ false
path_even mesh v u rest h closed =
    odd_below-steps mesh (touches v) (steps_from u rest) h
    ∙ steps_touch mesh v u rest h
    ∙ ap (λ w. xor (eqb u v) (eqb w v)) closed
    ∙ xor-same (eqb u v)

pub side_moves : (u v : ℕ) → (pair u v).0 < (pair u v).1 → u ≢ v
side_moves u v h e = elim (cases_lt u v) [
  | inl lt ↦ omega arith
  | inr ge ↦ let turned : v < u = rw (le-ltb u v ge) at h in omega arith
]

edge_steps : (mesh : Mesh) → IsMesh mesh → (ss : List (ℕ × ℕ)) →
    AllByRecursion (λ s. Contains (edges mesh) (pair_of s)) ss → AreSteps mesh ss
edge_steps mesh m [] h = tt
edge_steps mesh m (s ∷ ss) h =
    let has : among (pair_of s) (edges mesh) ≡ true = among-contains (pair_of s) (edges mesh) h.0 in
    let below = edge_below mesh m (pair_of s) has in
    ((side_moves s.0 s.1 below.0, has), edge_steps mesh m ss h.1)

pub closed_walk_even : (mesh : Mesh) → IsMesh mesh → (walk : List ℕ) → IsClosed mesh walk → (v : ℕ) →
    odd_below (edge_count mesh) (λ e. parity mesh walk e && touches v (ends mesh e)) ≡ false
closed_walk_even mesh m [] closed v = odd_below-none (edge_count mesh) (λ e. false) (λ e in'. refl)
closed_walk_even mesh m (u ∷ rest) closed v =
    path_even mesh v u rest
    (edge_steps mesh m (steps_from u rest)
    (recursion_from_All (λ s. Contains (edges mesh) (pair_of s)) (steps_from u rest) closed.is_walk.along_edges))
    (sym closed.returns)

pub last_push : (u z : ℕ) (rest : List ℕ) → last_from u (rest ++ z ∷ []) ≡ z
last_push u z [] = refl
last_push u z (w ∷ rest) = last_push w z rest

face_even : (mesh : Mesh) (n v : ℕ) (face : List ℕ) → IsFace n face → AreSteps mesh (sides face) →
    odd_below (edge_count mesh) (λ e. has_side (ends mesh e) face && touches v (ends mesh e)) ≡ false
face_even mesh n v [] h s = odd_below-none (edge_count mesh) (λ e. false) (λ e in'. refl)
face_even mesh n v (u ∷ rest) h s =
    odd_below-same (edge_count mesh) (λ e. has_side (ends mesh e) (u ∷ rest) && touches v (ends mesh e))
    (λ e. odd (map (λ s. pair_eq (ends mesh e) (pair_of s)) (sides (u ∷ rest))) && touches v (ends mesh e))
    (λ e in'. ap (λ t. t && touches v (ends mesh e)) (has_side-odd n (ends mesh e) (u ∷ rest) h))
    ∙ path_even mesh v u (rest ++ u ∷ []) s (last_push u u rest)

join_steps : (mesh : Mesh) (n : ℕ) (ss : List (ℕ × ℕ)) → AllByRecursion (IsStepBelow n) ss →
    AllByRecursion (λ s. among (pair_of s) (edges mesh) ≡ true) ss → AreSteps mesh ss
join_steps mesh n [] a b = tt
join_steps mesh n (s ∷ ss) a b = ((a.0.2, b.0), join_steps mesh n ss a.1 b.1)

-- of a face's edges an even number is at each vertex
pub face_edges_even : (mesh : Mesh) → IsMesh mesh → (v f : ℕ) → f < face_count mesh →
    odd_below (edge_count mesh) (λ e. touches v (ends mesh e) && has_side (ends mesh e) (face_at mesh f)) ≡ false
face_edges_even mesh m v f in' =
    let face = face_at mesh f in
    let is_face : IsFace mesh.vertices face = m f [] in' in
    odd_below-same (edge_count mesh) (λ e. touches v (ends mesh e) && has_side (ends mesh e) face)
    (λ e. has_side (ends mesh e) face && touches v (ends mesh e))
    (λ e h. and_comm (touches v (ends mesh e)) (has_side (ends mesh e) face))
    ∙ face_even mesh mesh.vertices v face is_face
    (join_steps mesh mesh.vertices (sides face) (face_steps mesh.vertices face is_face) (sides_are_edges mesh f in'))

-- of a boundary's edges an even number is at each vertex
pub boundary_even : (mesh : Mesh) → IsSurface mesh → (chosen : ℕ → Bool) (v : ℕ) →
    odd_below (edge_count mesh) (λ e. boundary mesh chosen e && touches v (ends mesh e)) ≡ false
boundary_even mesh surface chosen v =
    let E = edge_count mesh in
    let F = face_count mesh in
    let at : ℕ → ℕ → Bool = λ e f. chosen f && (touches v (ends mesh e) && has_side (ends mesh e) (face_at mesh f)) in
    odd_below-same E (λ e. boundary mesh chosen e && touches v (ends mesh e)) (λ e. odd_below F (at e)) (λ e in'.
    ap (λ t. t && touches v (ends mesh e)) (sym (odd_below-faces mesh surface chosen e in'))
    ∙ and_comm (odd_below F (λ f. has_side (ends mesh e) (face_at mesh f) && chosen f)) (touches v (ends mesh e))
    ∙ sym (odd_below-and F (touches v (ends mesh e)) (λ f. has_side (ends mesh e) (face_at mesh f) && chosen f))
    ∙ odd_below-same F (λ f. touches v (ends mesh e) && (has_side (ends mesh e) (face_at mesh f) && chosen f)) (at e)
    (λ f h. and_turn (touches v (ends mesh e)) (has_side (ends mesh e) (face_at mesh f)) (chosen f)))
    ∙ odd_below-swap E F at
    ∙ odd_below-none F (λ f. odd_below E (λ e. at e f)) (λ f in'.
    odd_below-and E (chosen f) (λ e. touches v (ends mesh e) && has_side (ends mesh e) (face_at mesh f))
    ∙ ap (λ t. chosen f && t) (face_edges_even mesh surface.is_mesh v f in')
    ∙ and-false (chosen f))
  where
    and_turn : (a b c : Bool) → (a && (b && c)) ≡ (c && (a && b))
    and_turn true b c = and_comm b c
    and_turn false b c = sym (and-false c)
