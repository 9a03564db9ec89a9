-- Laws of the faces at a vertex.
use Rattle.surf_surfaces.proofs.Common.{◌≡◌, ℕ, ◌<◌, Bool, true, eqb, List, [], ◌∷◌, refl, sym, ap, ◌∙◌, arith, inl, inr, All, AllByRecursion, eqb-true, or_cases, All-from_recursion, recursion_from_All, All-contains, Joined, here, over, Mesh, steps_from, pair, edges, edge_count, ends, face_at, has_side, faces_of, touches, ShareAt, IsSurface, place_of}
use Rattle.surf_surfaces.specs.Fan.{FansAreWhole, ListedFacesAreFan}
use Rattle.surf_surfaces.proofs.meshes.JoinedLaws.{joined_trans, joined_sym, joined_closed}
use Rattle.surf_surfaces.proofs.meshes.EdgeLaws.{among-edges, list_any_from, place_of-among}
use Rattle.surf_surfaces.proofs.meshes.FaceLaws.{touches_first}
use Rattle.surf_surfaces.proofs.meshes.SurfaceLaws.{two_faces_of}

share_at_sym : (mesh : Mesh) (v f g : ℕ) → ShareAt mesh v f g → ShareAt mesh v g f
share_at_sym mesh v f g h = (h.0, h.2, h.1)

share_at_alike : (mesh : Mesh) → IsSurface mesh → (v : ℕ) (set : ℕ → Bool) →
    ((e : ℕ) → e < edge_count mesh → touches v (ends mesh e) ≡ true → set (faces_of mesh e).0 ≡ set (faces_of mesh e).1)
    →
    (f g : ℕ) → ShareAt mesh v f g → set f ≡ set g
share_at_alike mesh surface v set closed f g s =
    let p = pair v s.0 in
    let at = place_of-among p (edges mesh) (0, 0)
    (among-edges mesh p ∙ list_any_from (has_side p) mesh.faces [] f s.1.0 s.1.1) in
    let e = place_of p (edges mesh) in
    let two = two_faces_of mesh surface e at.0 in
    let a = (faces_of mesh e).0 in
    let b = (faces_of mesh e).1 in
    let alike : set a ≡ set b = closed e at.0 (ap (touches v) at.1 ∙ touches_first v s.0) in
    let one : (h : ℕ) → has_side p (face_at mesh h) ≡ true → set h ≡ set a = λ h has.
    elim (or_cases (eqb h a) (eqb h b) (sym (two.no_other h) ∙ ap (λ q. has_side q (face_at mesh h)) at.1 ∙ has)) [
      | inl is ↦ ap set (eqb-true h a is)
      | inr is ↦ ap set (eqb-true h b is) ∙ sym alike
    ] in
    one f s.1.1 ∙ sym (one g s.2.1)

pub fans_are_whole : FansAreWhole
fans_are_whole mesh surface v in' set closed f g a b =
    joined_closed (λ h. set f ≡ set h) (λ x y s h. h ∙ share_at_alike mesh surface v set closed x y s)
    (surface.one_fan v in' f g a b) refl

-- the members of a list whose neighbours are related are joined to the one before it
listed_joined : (R : ℕ → ℕ → Type 0) (a u : ℕ) (xs : List ℕ) → Joined R a u →
    AllByRecursion (λ s. R s.0 s.1) (steps_from u xs) → AllByRecursion (Joined R a) xs
listed_joined R a u [] h s = tt
listed_joined R a u (w ∷ xs) h s =
    let next : Joined R a w = joined_trans h (over s.0 here) in
    (next, listed_joined R a w xs next s.1)

pub listed_faces_are_fan : ListedFacesAreFan
listed_faces_are_fan mesh v [] linked has f g a b = let c = has f a in absurd (omega (arith, c.1))
listed_faces_are_fan mesh v (u ∷ rest) linked has f g a b =
    let R : ℕ → ℕ → Type 0 = ShareAt mesh v in
    let from : All (Joined R u) (u ∷ rest) =
    All-from_recursion (Joined R u) (u ∷ rest)
    (here, listed_joined R u u rest here (recursion_from_All (λ s. R s.0 s.1) (steps_from u rest) linked)) in
    joined_trans (joined_sym (share_at_sym mesh v) (All-contains (Joined R u) (u ∷ rest) f from (has f a)))
    (All-contains (Joined R u) (u ∷ rest) g from (has g b))
