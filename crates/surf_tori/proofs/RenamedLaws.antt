-- Faces whose vertices are renamed, and what is across a run of a face.
use Rattle.surf_surfaces.proofs.Common.{◌≡◌, ◌≢◌, ℕ, ◌<◌, true, List, [], ◌∷◌, ◌++◌, length, get_or, map, refl, sym, ap, ◌∙◌, arith, inl, inr, subst, Contains, list_any, map-append, get_or-map, length-map, get_or_default, All-from_recursion, Joined, here, over, Mesh, IsFace, steps_from, sides, pair, pair_eq, after, corner, face_count, face_at, has_side, runs}
use Rattle.surf_surfaces.proofs.meshes.PairLaws.{pair_eq-true, pair_eq-same, pair_eq-self}
use Rattle.surf_surfaces.proofs.meshes.EdgeLaws.{list_any_at, list_any_from, list_any-map}
use Rattle.surf_surfaces.proofs.meshes.CountLaws.{length-sides}
use Rattle.surf_surfaces.proofs.meshes.FaceLaws.{IsStepBelow, face_steps}
use Rattle.surf_surfaces.proofs.meshes.SideLaws.{sides_are_by_place, after-below}
use Rattle.surf_surfaces.proofs.meshes.SurfaceLaws.{has_side-face}
use Rattle.surf_tori.specs.Coherent.{Runs, IsCoherent}
use Rattle.surf_surfaces.proofs.meshes.RunLaws.{runs_side, one_way, some_way}

pub joined_map : {R S : ℕ → ℕ → Type 0} (f : ℕ → ℕ) {a b : ℕ} → ((x y : ℕ) → R x y → S (f x) (f y)) → Joined R a b →
    Joined S (f a) (f b)
joined_map f step here = here
joined_map f step (over {a = x} {b = y} r rest) = over (step x y r) (joined_map f step rest)

-- both ends renamed
abbrev pub both : (ℕ → ℕ) → ℕ × ℕ → ℕ × ℕ
both name p = (name p.0, name p.1)

steps_renamed : (name : ℕ → ℕ) (u : ℕ) (xs : List ℕ) →
    steps_from (name u) (map name xs) ≡ map (both name) (steps_from u xs)
steps_renamed name u [] = refl
steps_renamed name u (x ∷ xs) = ap (λ ss. both name (u, x) ∷ ss) (steps_renamed name x xs)

sides_renamed : (name : ℕ → ℕ) (face : List ℕ) → sides (map name face) ≡ map (both name) (sides face)
sides_renamed name [] = refl
sides_renamed name (u ∷ rest) =
    ap (steps_from (name u)) (sym (map-append name rest (u ∷ []))) ∙ steps_renamed name u (rest ++ u ∷ [])

pub runs_renamed : (name : ℕ → ℕ) (p : ℕ × ℕ) (face : List ℕ) → runs p face ≡ true →
    runs (both name p) (map name face) ≡ true
runs_renamed name p face h =
    let r = list_any_at (pair_eq p) (sides face) (0, 0) h in
    ap (list_any (pair_eq (both name p))) (sides_renamed name face)
    ∙ list_any-map (pair_eq (both name p)) (both name) (sides face)
    ∙ list_any_from (λ s. pair_eq (both name p) (both name s)) (sides face) (0, 0) r.0 r.1
    (pair_eq-same (both name p) (both name (get_or (sides face) r.0 (0, 0)))
    (ap (both name) (pair_eq-true p (get_or (sides face) r.0 (0, 0)) r.2)))

pub run_of_renamed : (name : ℕ → ℕ) (p : ℕ × ℕ) (face : List ℕ) → runs p (map name face) ≡ true →
    (q : ℕ × ℕ) × (runs q face ≡ true) × (p ≡ both name q)
run_of_renamed name p face h =
    let test = λ (s : ℕ × ℕ). pair_eq p (both name s) in
    let r = list_any_at test (sides face) (0, 0)
    (sym (ap (list_any (pair_eq p)) (sides_renamed name face) ∙ list_any-map (pair_eq p) (both name) (sides face)) ∙ h)
    in
    let q = get_or (sides face) r.0 (0, 0) in (
      q,
      list_any_from (pair_eq q) (sides face) (0, 0) r.0 r.1 (pair_eq-self q),
      pair_eq-true p (both name q) r.2,
    )

pub face_renamed : (name : ℕ → ℕ) (n m : ℕ) (face : List ℕ) → ((v : ℕ) → v < n → name v < m) →
    ((u v : ℕ) → u < n → v < n → name u ≡ name v → u ≡ v) → IsFace n face → IsFace m (map name face)
face_renamed name n m face in' one h = record {
  large = rw (length-map face name) h.large;
  distinct = λ i j d lt below e.
      let j_in : j < length face = rw (length-map face name) at below in
      let i_in : i < length face = omega arith in
      h.distinct i j 0 lt j_in (one (get_or face i 0) (get_or face j 0) (h.inside i 0 i_in) (h.inside j 0 j_in)
      (sym (get_or-map name face i 0 d i_in) ∙ e ∙ get_or-map name face j 0 d j_in));
  inside = λ k d below.
      let k_in : k < length face = rw (length-map face name) at below in
      rw (get_or-map name face k 0 d k_in) (in' (get_or face k 0) (h.inside k 0 k_in));
}

pub corner_of_renamed : (name : ℕ → ℕ) (face : List ℕ) (v : ℕ) → Contains (map name face) v →
    (w : ℕ) × Contains face w × (v ≡ name w)
corner_of_renamed name face v h =
    let k_in : h.0 < length face = rw (length-map face name) at h.1 in
    let w = get_or face h.0 0 in
    (w, (h.0, k_in, get_or_default face h.0 w 0 k_in), sym h.2 ∙ get_or-map name face h.0 0 v k_in)

pub corner_renamed : (name : ℕ → ℕ) (face : List ℕ) (w : ℕ) → Contains face w → Contains (map name face) (name w)
corner_renamed name face w h =
    (h.0, rw (length-map face name) h.1, get_or-map name face h.0 w (name w) h.1 ∙ ap name h.2)

-- the ends of a run are different corners
pub run_corners : (p : ℕ × ℕ) (face : List ℕ) → runs p face ≡ true → Contains face p.0 × Contains face p.1
run_corners p face h =
    let r = list_any_at (pair_eq p) (sides face) (0, 0) h in
    let k_in : r.0 < length face = let l = length-sides face in omega (arith, r.1, l) in
    let n = length face in
    let is : p ≡ (corner face r.0, corner face (after n r.0)) =
    pair_eq-true p (get_or (sides face) r.0 (0, 0)) r.2 ∙ sides_are_by_place face r.0 k_in in
    let next_in = after-below n r.0 k_in in (
      (r.0, k_in, get_or_default face r.0 p.0 0 k_in ∙ sym (ap (λ (q : ℕ × ℕ). q.0) is)),
      (after n r.0, next_in, get_or_default face (after n r.0) p.1 0 next_in ∙ sym (ap (λ (q : ℕ × ℕ). q.1) is)),
    )

pub run_below : (n : ℕ) (p : ℕ × ℕ) (face : List ℕ) → IsFace n face → runs p face ≡ true → IsStepBelow n p
run_below n p face h run =
    let r = list_any_at (pair_eq p) (sides face) (0, 0) run in
    subst (IsStepBelow n) (sym (pair_eq-true p (get_or (sides face) r.0 (0, 0)) r.2))
    (All-from_recursion (IsStepBelow n) (sides face) (face_steps n face h) r.0 (0, 0) r.1)

-- a face with an edge at a vertex has it as a corner
pub edge_corner : (v w : ℕ) (face : List ℕ) → has_side (pair v w) face ≡ true → Contains face v
edge_corner v w face h = elim (some_way v w face h) [
  | inl a ↦ (run_corners (v, w) face a).0
  | inr b ↦ (run_corners (w, v) face b).1
]

pub run_face : (mesh : Mesh) (f : ℕ) (p : ℕ × ℕ) → Runs mesh f p → f < face_count mesh
run_face mesh f p h = has_side-face mesh (pair p.0 p.1) f (runs_side p (face_at mesh f) h)

-- another face runs back
pub across : (mesh : Mesh) → IsCoherent mesh → (f u v : ℕ) → Runs mesh f (u, v) →
    (g : ℕ) × (g ≢ f) × Runs mesh g (v, u)
across mesh c f u v h =
    let r = c.back f (u, v) h in
    let is_face = c.is_mesh f [] (run_face mesh f (u, v) h) in (
      r.0,
      (λ same. one_way mesh.vertices (face_at mesh f) is_face u v
          (run_below mesh.vertices (u, v) (face_at mesh f) is_face h).2 h
          (subst (λ g. Runs mesh g (v, u)) same r.1)),
      r.1,
    )
