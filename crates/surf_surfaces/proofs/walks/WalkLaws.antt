-- Laws of walks: any two vertices of a surface are joined by one.
use Rattle.surf_surfaces.proofs.Common.{◌≡◌, ℕ, ◌<◌, true, List, [], ◌∷◌, ◌++◌, get_or, refl, ap, ◌∙◌, arith, Contains, All, AllByRecursion, Joined, here, over, Mesh, IsMesh, IsFace, steps_from, sides, pair, pair_of, pair_eq, among, edges, face_at, has_side, HasCorner, Share, IsSurface, last_from, LeadsFrom}
use Rattle.std.proofs.lemmas.List.Elements.{All-from_recursion, recursion_from_All, All-contains, All-contains_itself}
use Rattle.surf_surfaces.proofs.meshes.JoinedLaws.{joined_trans, joined_sym}
use Rattle.surf_surfaces.proofs.meshes.PairLaws.{pair_eq-true, pair_of_both}
use Rattle.surf_surfaces.proofs.meshes.EdgeLaws.{contains_from_among, list_any_at}
use Rattle.surf_surfaces.proofs.meshes.FaceLaws.{all_push, IsStepBelow, face_steps, pair_comm}
use Rattle.surf_surfaces.proofs.meshes.SurfaceLaws.{sides_are_edges}

-- two vertices joined by an edge
abbrev pub IsStep : Mesh → ℕ → ℕ → Type 0
IsStep mesh u v = (u < mesh.vertices) × (v < mesh.vertices) × (among (pair u v) (edges mesh) ≡ true)

pub step_sym : (mesh : Mesh) (u v : ℕ) → IsStep mesh u v → IsStep mesh v u
step_sym mesh u v h = (h.1, h.0, ap (λ p. among p (edges mesh)) (pair_comm v u) ∙ h.2)

abbrev pub Linked : Mesh → ℕ → ℕ → Type 0
Linked mesh = Joined (IsStep mesh)

pub linked_sym : (mesh : Mesh) (u v : ℕ) → Linked mesh u v → Linked mesh v u
linked_sym mesh u v h = joined_sym (step_sym mesh) h

-- the walk after its first vertex
record Path (mesh : Mesh) (u v : ℕ) : Type 0 where
  rest : List ℕ
  inside : AllByRecursion (λ w. w < mesh.vertices) rest
  along : AllByRecursion (λ s. Contains (edges mesh) (pair_of s)) (steps_from u rest)
  ends : last_from u rest ≡ v

path_of : (mesh : Mesh) {u v : ℕ} → Linked mesh u v → Path mesh u v
path_of mesh here = record { rest = []; inside = tt; along = tt; ends = refl }
path_of mesh (over {a = u} {b = w} s p) =
    let q = path_of mesh p in
    record {
      rest = w ∷ q.rest;
      inside = (s.1, q.inside);
      along =
          (contains_from_among (pair u w) (edges mesh) s.2, q.along);
      ends = q.ends;
    }

pub walk_of : (mesh : Mesh) (u v : ℕ) → u < mesh.vertices → Linked mesh u v → (walk : List ℕ) × LeadsFrom mesh u v walk
walk_of mesh u v in' h =
    let p = path_of mesh h in (
      u ∷ p.rest,
      record {
        is_walk = record {
          begins = omega arith;
          vertices = All-from_recursion (λ w. w < mesh.vertices) (u ∷ p.rest) (in', p.inside);
          along_edges = All-from_recursion (λ s. Contains (edges mesh) (pair_of s)) (steps_from u p.rest) p.along;
        };
        begins = refl;
        ends = p.ends;
      },
    )

steps_joined : (mesh : Mesh) (a u : ℕ) (xs : List ℕ) → Linked mesh a u →
    AllByRecursion (λ s. IsStep mesh s.0 s.1) (steps_from u xs) → AllByRecursion (Linked mesh a) xs
steps_joined mesh a u [] h s = tt
steps_joined mesh a u (w ∷ xs) h s =
    let next : Linked mesh a w = joined_trans h (over s.0 here) in
    (next, steps_joined mesh a w xs next s.1)

all_front : (P : ℕ → Type 0) (xs ys : List ℕ) → AllByRecursion P (xs ++ ys) → AllByRecursion P xs
all_front P [] ys h = tt
all_front P (x ∷ xs) ys h = (h.0, all_front P xs ys h.1)

corners_joined : (mesh : Mesh) (face : List ℕ) (u v : ℕ) → AllByRecursion (λ s. IsStep mesh s.0 s.1) (sides face) →
    Contains face u → Contains face v → Linked mesh u v
corners_joined mesh [] u v s a b = absurd (omega (arith, a.1))
corners_joined mesh (w ∷ rest) u v s a b =
    let from : All (Linked mesh w) (w ∷ rest) =
    All-from_recursion (Linked mesh w) (w ∷ rest)
    (here, all_front (Linked mesh w) rest (w ∷ []) (steps_joined mesh w w (rest ++ w ∷ []) here s)) in
    joined_trans (linked_sym mesh w u (All-contains (Linked mesh w) (w ∷ rest) u from a))
    (All-contains (Linked mesh w) (w ∷ rest) v from b)

join_steps : (mesh : Mesh) (ss : List (ℕ × ℕ)) → AllByRecursion (IsStepBelow mesh.vertices) ss →
    AllByRecursion (λ s. among (pair_of s) (edges mesh) ≡ true) ss → AllByRecursion (λ s. IsStep mesh s.0 s.1) ss
join_steps mesh [] a b = tt
join_steps mesh (s ∷ ss) a b = ((a.0.0, a.0.1, b.0), join_steps mesh ss a.1 b.1)

-- any two corners of a face
pub face_joined : (mesh : Mesh) → IsMesh mesh → (f u v : ℕ) → HasCorner mesh f u → HasCorner mesh f v → Linked mesh u v
face_joined mesh m f u v a b =
    let is_face : IsFace mesh.vertices (face_at mesh f) = m f [] a.0 in
    corners_joined mesh (face_at mesh f) u v
    (join_steps mesh (sides (face_at mesh f)) (face_steps mesh.vertices (face_at mesh f) is_face)
    (sides_are_edges mesh f a.0)) a.1 b.1

path_corners : (P : ℕ → Type 0) (u : ℕ) (xs : List ℕ) → P u → AllByRecursion P xs →
    AllByRecursion (λ s. P s.0 × P s.1) (steps_from u xs)
path_corners P u [] p h = tt
path_corners P u (w ∷ xs) p h = ((p, h.0), path_corners P w xs h.0 h.1)

sides_corners : (P : ℕ → Type 0) (face : List ℕ) → AllByRecursion P face →
    AllByRecursion (λ s. P s.0 × P s.1) (sides face)
sides_corners P [] h = tt
sides_corners P (u ∷ rest) h = path_corners P u (rest ++ u ∷ []) h.0 (all_push P rest u h.1 h.0)

-- the ends of a side are corners
pub side_corners : (face : List ℕ) (p : ℕ × ℕ) → has_side p face ≡ true → Contains face p.0 × Contains face p.1
side_corners face p has =
    let r = list_any_at (λ s. pair_eq p (pair_of s)) (sides face) (0, 0) has in
    let s = get_or (sides face) r.0 (0, 0) in
    let both = All-from_recursion (λ t. Contains face t.0 × Contains face t.1) (sides face)
    (sides_corners (Contains face) face (recursion_from_All (Contains face) face (All-contains_itself face))) r.0
    (0, 0) r.1 in
    rw (pair_eq-true p (pair_of s) r.2) (pair_of_both (Contains face) s both)

faces_joined : (mesh : Mesh) → IsMesh mesh → {f g : ℕ} (u v : ℕ) → Joined (Share mesh) f g → HasCorner mesh f u →
    HasCorner mesh g v → Linked mesh u v
faces_joined mesh m u v (here {a = f}) a b = face_joined mesh m f u v a b
faces_joined mesh m u v (over {a = f} s rest) a b =
    let p = s.0 in
    joined_trans
    (face_joined mesh m f u p.0 a (s.1.0, (side_corners (face_at mesh f) p s.1.1).0))
    (faces_joined mesh m p.0 v rest (s.2.0, (side_corners (face_at mesh _) p s.2.1).0) b)

pub vertices_linked : (mesh : Mesh) → IsSurface mesh → (u v : ℕ) → u < mesh.vertices → v < mesh.vertices →
    Linked mesh u v
vertices_linked mesh surface u v a b =
    let f = surface.no_isolated u a in
    let g = surface.no_isolated v b in
    faces_joined mesh surface.is_mesh u v (surface.connected f.0 g.0 f.1.0 g.1.0) f.1 g.1

pub vertices_joined : (mesh : Mesh) → IsSurface mesh → (u v : ℕ) → u < mesh.vertices → v < mesh.vertices →
    (walk : List ℕ) × LeadsFrom mesh u v walk
vertices_joined mesh surface u v a b = walk_of mesh u v a (vertices_linked mesh surface u v a b)
