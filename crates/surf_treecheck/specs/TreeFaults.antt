-- Why the trees of a basis certificate aren't trees of shortest walks, one at each base.
use Rattle.std.specs.Prelude.{◌≡◌, ℕ, ◌<◌, List, Option, MatchOption}
use Rattle.surf_surfaces.specs.Mesh.{Mesh}
use Rattle.surf_surfaces.specs.Surface.{edge_count, ends}
use Rattle.surf_validity.specs.Rows.{BasisCert}
use Rattle.surf_validity.specs.Valid.{IsNoShortCut, IsTreeValid}
use Rattle.surf_validity.specs.Bases.{tree_at}
use Rattle.surf_treecheck.specs.First.{HoldsBelow, FailsFirst}
use Rattle.surf_treecheck.specs.Rows.{HasParent, HasDistance}
use Rattle.surf_treecheck.specs.declared.fault.CertFault.{CertFault}
use Rattle.surf_treecheck.specs.declared.fault.CertFault.TheVariants.{Parent, Distance, Slack}

-- the least base at which a condition of some numbers fails, and the least number for which it fails there
pub record IsFirstAt (bases n : ℕ) (P : ℕ → ℕ → Type 0) (x k : ℕ) : Type 0 where
  pub base : FailsFirst bases (λ y. HoldsBelow n (P y)) x
  pub number : FailsFirst n (P x) k

-- a search finds it, or nothing where the condition holds at all bases
abbrev pub FindsFirstAt : ℕ → ℕ → (ℕ → ℕ → Type 0) → Option (ℕ × ℕ) → Type 0
FindsFirstAt bases n P o =
    MatchOption o (HoldsBelow bases (λ x. HoldsBelow n (P x))) (λ p. IsFirstAt bases n P p.0 p.1)

abbrev pub HasParentAt : Mesh → BasisCert → ℕ → ℕ → Type 0
HasParentAt mesh cert x v = HasParent mesh (tree_at cert x) v

abbrev pub HasDistanceAt : Mesh → List ℕ → BasisCert → ℕ → ℕ → Type 0
HasDistanceAt mesh lengths cert x v = HasDistance mesh lengths (tree_at cert x) v

abbrev pub IsNoShortCutAt : Mesh → List ℕ → BasisCert → ℕ → ℕ → Type 0
IsNoShortCutAt mesh lengths cert x e = IsNoShortCut mesh lengths (tree_at cert x) e

-- in the tree at a base each vertex has the parent that it should
abbrev pub HasParents : Mesh → BasisCert → ℕ → Type 0
HasParents mesh cert x = HoldsBelow mesh.vertices (HasParentAt mesh cert x)

-- all distances in it are those by the parents
abbrev pub HasDistances : Mesh → List ℕ → BasisCert → ℕ → Type 0
HasDistances mesh lengths cert x = HoldsBelow mesh.vertices (HasDistanceAt mesh lengths cert x)

-- the tree at each base is a tree of shortest walks
abbrev pub AreTreesValid : Mesh → List ℕ → BasisCert → Type 0
AreTreesValid mesh lengths cert = (x : ℕ) → x < mesh.vertices → IsTreeValid mesh lengths (tree_at cert x)

-- the trees have this fault: each kind is sought over all bases before the next
abbrev pub IsTreesFault : Mesh → List ℕ → BasisCert → CertFault → Type 0
IsTreesFault mesh lengths cert (Parent base v) =
    IsFirstAt mesh.vertices mesh.vertices (HasParentAt mesh cert) base v
IsTreesFault mesh lengths cert (Distance base v) =
    HoldsBelow mesh.vertices (HasParents mesh cert)
    × IsFirstAt mesh.vertices mesh.vertices (HasDistanceAt mesh lengths cert) base v
IsTreesFault mesh lengths cert (Slack base u v) =
    HoldsBelow mesh.vertices (HasParents mesh cert) × HoldsBelow mesh.vertices (HasDistances mesh lengths cert)
    × ((e : ℕ) × (ends mesh e ≡ (u, v))
    × IsFirstAt mesh.vertices (edge_count mesh) (IsNoShortCutAt mesh lengths cert) base e)
IsTreesFault mesh lengths cert fault = ⊥
