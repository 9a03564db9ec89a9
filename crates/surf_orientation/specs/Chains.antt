-- Flags along a tree of the faces, and the chain of an edge that they do not fit.
use Rattle.std.specs.Prelude.{ℕ, zero, suc, ◌≡◌, ◌≢◌, ◌<◌, ◌==◌, Bool, not, if◌then◌else◌, List, [], ◌∷◌}
use Rattle.surf_graphs.specs.Trees.{Tree}
use Rattle.surf_z2.specs.Parity.{xor}
use Rattle.surf_surfaces.specs.Mesh.{Mesh}
use Rattle.surf_surfaces.specs.Surface.{face_count, face_at, ends, faces_of, runs}
use Rattle.surf_surfaces.specs.Turning.{Link}

-- whether the two faces of the e-th edge run it the same way in their listed orders
abbrev pub same_way : Mesh → ℕ → Bool
same_way mesh e =
    not (xor (runs (ends mesh e) (face_at mesh (faces_of mesh e).0))
    (runs (ends mesh e) (face_at mesh (faces_of mesh e).1)))

-- the flags fit the e-th edge: they differ where its faces run it the same way
abbrev pub Fits : Mesh → (ℕ → Bool) → ℕ → Type 0
Fits mesh flags e = xor (flags (faces_of mesh e).0) (flags (faces_of mesh e).1) ≡ same_way mesh e

-- the flags do not fit the e-th edge
abbrev pub misfit : Mesh → (ℕ → Bool) → ℕ → Bool
misfit mesh flags e = xor (xor (flags (faces_of mesh e).0) (flags (faces_of mesh e).1)) (same_way mesh e)

-- the flags fit the edges of the tree
abbrev pub FollowTree : Mesh → Tree → (ℕ → Bool) → Type 0
FollowTree mesh t flags = (f : ℕ) → f < face_count mesh → f ≢ t.root →
    flags f ≡ xor (same_way mesh (t.up f)) (flags (t.parent f))

-- from the root down the tree to face f, in at most so many steps, and then the rest
abbrev pub links_down : Mesh → Tree → ℕ → ℕ → List Link → List Link
links_down mesh t zero f rest = rest
links_down mesh t (suc steps) f rest =
    if f == t.root then rest
    else links_down mesh t steps (t.parent f) (record { face = t.parent f; ends = ends mesh (t.up f) } ∷ rest)

-- from face f up the tree to the root
abbrev pub links_up : Mesh → Tree → ℕ → ℕ → List Link
links_up mesh t zero f = []
links_up mesh t (suc steps) f =
    if f == t.root then []
    else record { face = f; ends = ends mesh (t.up f) } ∷ links_up mesh t steps (t.parent f)

-- down the tree to the one face of the e-th edge, over it, and up from the other
abbrev pub tree_chain : Mesh → Tree → ℕ → List Link
tree_chain mesh t e =
    links_down mesh t (t.rank (faces_of mesh e).0) (faces_of mesh e).0
    (record { face = (faces_of mesh e).0; ends = ends mesh e }
    ∷ links_up mesh t (t.rank (faces_of mesh e).1) (faces_of mesh e).1)

-- along a tree the chains go by single steps, as a loop does
pub record GoByStep (mesh : Mesh) (t : Tree) : Type 0 where
  pub up_root : links_up mesh t (t.rank t.root) t.root ≡ []
  pub up_step : (f : ℕ) → f < face_count mesh → f ≢ t.root →
      links_up mesh t (t.rank f) f
      ≡ record { face = f; ends = ends mesh (t.up f) } ∷ links_up mesh t (t.rank (t.parent f)) (t.parent f)
  pub down_root : (rest : List Link) → links_down mesh t (t.rank t.root) t.root rest ≡ rest
  pub down_step : (f : ℕ) (rest : List Link) → f < face_count mesh → f ≢ t.root →
      links_down mesh t (t.rank f) f rest
      ≡ links_down mesh t (t.rank (t.parent f)) (t.parent f)
      (record { face = t.parent f; ends = ends mesh (t.up f) } ∷ rest)
