-- Lists of faces whose neighbours are related, and chains among faces with a property.
use Rattle.surf_surfaces.proofs.Common.{◌≡◌, ◌≢◌, ℕ, ◌<◌, List, [], ◌∷◌, ◌++◌, ◌⊎◌, sym, inl, inr, subst, Joined, here, over, Mesh, pair, face_at, HasCorner, HasEdge, Share, ShareAt}
use Rattle.surf_surfaces.proofs.meshes.FaceLaws.{pair_comm}
use Rattle.surf_surfaces.proofs.meshes.JoinedLaws.{joined_trans, joined_sym}
use Rattle.surf_surfaces.proofs.meshes.SurfaceLaws.{has_side-face}
use Rattle.surf_tori.specs.Coherent.{Runs}
use Rattle.surf_surfaces.proofs.meshes.RunLaws.{runs_side}

abbrev pub Linked : (ℕ → ℕ → Type 0) → List ℕ → Type 0
Linked R [] = Unit {0}
Linked R (x ∷ []) = Unit {0}
Linked R (x ∷ y ∷ rest) = R x y × Linked R (y ∷ rest)

abbrev pub Member : ℕ → List ℕ → Type 0
Member f [] = ⊥
Member f (x ∷ xs) = (f ≡ x) ⊎ Member f xs

member_left : (f : ℕ) (xs ys : List ℕ) → Member f xs → Member f (xs ++ ys)
member_left f [] ys m = elim m [ ]
member_left f (x ∷ xs) ys (inl e) = inl e
member_left f (x ∷ xs) ys (inr m) = inr (member_left f xs ys m)

member_right : (f : ℕ) (xs ys : List ℕ) → Member f ys → Member f (xs ++ ys)
member_right f [] ys m = m
member_right f (x ∷ xs) ys m = inr (member_right f xs ys m)

member_split : (f : ℕ) (xs ys : List ℕ) → Member f (xs ++ ys) → Member f xs ⊎ Member f ys
member_split f [] ys m = inr m
member_split f (x ∷ xs) ys (inl e) = inl (inl e)
member_split f (x ∷ xs) ys (inr m) =
    elim (member_split f xs ys m) [ inl a ↦ inl (inr a) | inr b ↦ inr b ]

-- a list may be turned
pub member_turn : (f : ℕ) (xs ys : List ℕ) → Member f (xs ++ ys) → Member f (ys ++ xs)
member_turn f xs ys m =
    elim (member_split f xs ys m) [ inl a ↦ member_right f ys xs a | inr b ↦ member_left f ys xs b ]

-- what isn't the last is one of those before it
pub member_but_last : (f o : ℕ) (xs : List ℕ) → Member f (xs ++ o ∷ []) → f ≢ o → Member f xs
member_but_last f o xs m other = elim (member_split f xs (o ∷ []) m) [
  | inl a ↦ a
  | inr b ↦ elim b [ inl e ↦ absurd (other e) | inr n ↦ absurd n ]
]

linked_joined : (R : ℕ → ℕ → Type 0) (x : ℕ) (xs : List ℕ) → Linked R (x ∷ xs) → (f : ℕ) → Member f (x ∷ xs) →
    Joined R x f
linked_joined R x xs l f (inl e) = subst (λ g. Joined R x g) (sym e) here
linked_joined R x [] l f (inr m) = elim m [ ]
linked_joined R x (y ∷ ys) l f (inr m) = over l.0 (linked_joined R y ys l.1 f m)

-- members of a list whose neighbours are related are joined
pub linked_members : (R : ℕ → ℕ → Type 0) → ((x y : ℕ) → R x y → R y x) → (xs : List ℕ) → Linked R xs → (f g : ℕ) →
    Member f xs → Member g xs → Joined R f g
linked_members R turned [] l f g a b = elim a [ ]
linked_members R turned (x ∷ xs) l f g a b =
    joined_trans (joined_sym turned (linked_joined R x xs l f a)) (linked_joined R x xs l g b)

-- two faces that are kept and have an edge at the vertex
abbrev pub KeptShareAt : Mesh → (ℕ → Type 0) → ℕ → ℕ → ℕ → Type 0
KeptShareAt mesh Kept v f g = Kept f × Kept g × ShareAt mesh v f g

-- two faces that are kept and have an edge
abbrev pub KeptShare : Mesh → (ℕ → Type 0) → ℕ → ℕ → Type 0
KeptShare mesh Kept f g = Kept f × Kept g × Share mesh f g

-- the kept faces at each vertex are joined by chains of kept faces there
abbrev pub HasKeptFans : Mesh → (ℕ → Type 0) → Type 0
HasKeptFans mesh Kept =
    (v : ℕ) → v < mesh.vertices → (f g : ℕ) → Kept f → Kept g → HasCorner mesh f v → HasCorner mesh g v →
    Joined (KeptShareAt mesh Kept v) f g

pub kept_share_at_turned : (mesh : Mesh) (Kept : ℕ → Type 0) (v f g : ℕ) → KeptShareAt mesh Kept v f g →
    KeptShareAt mesh Kept v g f
kept_share_at_turned mesh Kept v f g h = (h.1, h.0, (h.2.0, h.2.2, h.2.1))

pub kept_share_turned : (mesh : Mesh) (Kept : ℕ → Type 0) (f g : ℕ) → KeptShare mesh Kept f g →
    KeptShare mesh Kept g f
kept_share_turned mesh Kept f g h = (h.1, h.0, (h.2.0, h.2.2, h.2.1))

-- a face that runs away from the vertex, or to it, has the edge
pub edge_out : (mesh : Mesh) (f v w : ℕ) → Runs mesh f (v, w) → HasEdge mesh f (pair v w)
edge_out mesh f v w h =
    let has = runs_side (v, w) (face_at mesh f) h in (has_side-face mesh (pair v w) f has, has)

pub edge_back : (mesh : Mesh) (f v w : ℕ) → Runs mesh f (w, v) → HasEdge mesh f (pair v w)
edge_back mesh f v w h = subst (HasEdge mesh f) (pair_comm w v) (edge_out mesh f w v h)

-- where a face runs to a vertex and another runs back, they share the edge there
pub share_in_out : (mesh : Mesh) (v w f g : ℕ) → Runs mesh f (w, v) → Runs mesh g (v, w) → ShareAt mesh v f g
share_in_out mesh v w f g a b = (w, edge_back mesh f v w a, edge_out mesh g v w b)

pub share_run : (mesh : Mesh) (u v f g : ℕ) → Runs mesh f (u, v) → Runs mesh g (v, u) → Share mesh f g
share_run mesh u v f g a b = (pair u v, edge_out mesh f u v a, edge_back mesh g u v b)
