-- Walks and chains that are odd on a set of edges.
use Rattle.surf_surfaces.proofs.Common.{ends, has_side, sides, face_count, face_at, IsFace, ◌++◌, subst, ◌≡◌, ℕ, ◌<◌, Bool, false, ◌&&◌, eqb, eqb-true, List, [], ◌∷◌, map, refl, sym, ap, ◌∙◌, arith, AllByRecursion, Contains, recursion_from_All, xor, odd, odd_below, odd_below-none, odd_below-same, or-xor, eqb_comm, and_comm, Chain, chains, sum_of, Graph, IsGraphWalk, IsJoined, IsEven, edge_between, walk_chain, graph_touches, leaves, primal, dual, cells_of, Mesh, IsMesh, pair_of, steps_from, edges, edge_count, faces_of, borders, IsSurface, IsClosed, parity, IsBoundary, boundary, edge_number}
use Rattle.surf_z2.proofs.ParityLaws.{odd_below-xor-and, odd_below-at}
use Rattle.surf_graphs.proofs.Graphs.{edge_between_is, even_leaves}
use Rattle.surf_surfaces.proofs.meshes.CellLaws.{face_sides, surfaces_are_cells}
use Rattle.surf_surfaces.proofs.meshes.FaceLaws.{has_side-odd}
use Rattle.surf_surfaces.proofs.walks.FaceWalkLaws.{round_closed}
use Rattle.surf_surfaces.proofs.walks.GraphWalkLaws.{graph_walk, between_is_number}
use Rattle.surf_sheets.specs.Sheets.{has_odd_sides_in, IsCocycle, is_odd_on}
use Rattle.surf_sheets.specs.Laws.{SidesAreBorderEdges, NullWalksAreEvenOnCocycles}

-- whether an odd number of the chain's edges are in the set
abbrev pub odd_in : ℕ → Chain → Chain → Bool
odd_in edges set chain = odd_below edges (λ e. chain e && set e)

-- the first step, and those after it
pub odd_step : (g : Graph) (set : Chain) (a c : ℕ) (w : List ℕ) → IsJoined g a c →
    odd_in g.edges set (walk_chain g a (c ∷ w)) ≡ xor (set (edge_between g a c)) (odd_in g.edges set (walk_chain g c w))
odd_step g set a c w joined =
    let m = edge_between g a c in
    odd_below-xor-and g.edges (λ e. eqb m e) (walk_chain g c w) set
    ∙ ap (λ b. xor b (odd_in g.edges set (walk_chain g c w)))
    (odd_below-at g.edges m set (edge_between_is g a c joined).0)

-- the sum of chains
pub odd_sum : (edges : ℕ) (set : Chain) (xs : List Chain) →
    odd_in edges set (sum_of chains xs) ≡ odd (map (λ x. odd_in edges set x) xs)
odd_sum edges set [] = odd_below-none edges (λ e. false) (λ e l. refl)
odd_sum edges set (x ∷ xs) =
    odd_below-xor-and edges x (sum_of chains xs) set ∙ ap (xor (odd_in edges set x)) (odd_sum edges set xs)

odd_steps : (mesh : Mesh) → IsMesh mesh → (set : Chain) (u v : ℕ) (rest : List ℕ) →
    AllByRecursion (λ s. Contains (edges mesh) (pair_of s)) (steps_from u rest) →
    IsGraphWalk (primal (cells_of mesh)) u rest v →
    odd (map (λ s. set (edge_number mesh s)) (steps_from u rest))
    ≡ odd_in (edge_count mesh) set (walk_chain (primal (cells_of mesh)) u rest)
odd_steps mesh m set u v [] along walk = sym (odd_below-none (edge_count mesh) (λ e. false) (λ e l. refl))
odd_steps mesh m set u v (w ∷ rest) along walk =
    let g = primal (cells_of mesh) in
    ap (λ e. xor (set e) (odd (map (λ s. set (edge_number mesh s)) (steps_from w rest))))
    (sym (between_is_number mesh m u w along.0))
    ∙ ap (xor (set (edge_between g u w))) (odd_steps mesh m set w v rest along.1 walk.1)
    ∙ sym (odd_step g set u w rest walk.0)

-- a closed walk is odd on a set where its chain in the graph is
pub odd_graph_walk : (mesh : Mesh) → IsSurface mesh → (set : Chain) (u : ℕ) (rest : List ℕ) → IsClosed mesh (u ∷ rest) →
    is_odd_on mesh set (u ∷ rest) ≡ odd_in (edge_count mesh) set (walk_chain (primal (cells_of mesh)) u rest)
odd_graph_walk mesh surface set u rest closed =
    odd_steps mesh surface.is_mesh set u u rest
    (recursion_from_All (λ s. Contains (edges mesh) (pair_of s)) (steps_from u rest) closed.is_walk.along_edges)
    (graph_walk mesh surface [] (u ∷ rest) closed).closed

pub odd_same : (edges : ℕ) (set x y : Chain) → ((e : ℕ) → e < edges → x e ≡ y e) →
    odd_in edges set x ≡ odd_in edges set y
odd_same edges set x y same =
    odd_below-same edges (λ e. x e && set e) (λ e. y e && set e) (λ e l. ap (λ b. b && set e) (same e l))

-- and so by its parity
pub odd_parity : (mesh : Mesh) → IsSurface mesh → (set : Chain) (walk : List ℕ) → IsClosed mesh walk →
    is_odd_on mesh set walk ≡ odd_in (edge_count mesh) set (parity mesh walk)
odd_parity mesh surface set [] closed = absurd (omega (arith, closed.is_walk.begins))
odd_parity mesh surface set (u ∷ rest) closed =
    odd_graph_walk mesh surface set u rest closed
    ∙ odd_same (edge_count mesh) set (walk_chain (primal (cells_of mesh)) u rest) (parity mesh (u ∷ rest))
    (λ e l. sym ((graph_walk mesh surface [] (u ∷ rest) closed).chain e l))

-- the sides of a face are the boundary of the face
pub sides_odd : (mesh : Mesh) → IsSurface mesh → (set : Chain) (f : ℕ) → f < face_count mesh →
    has_odd_sides_in mesh set f
    ≡ odd_below (edge_count mesh) (λ e. graph_touches (dual (cells_of mesh)) f e && set e)
sides_odd mesh surface set f f_in = by_corners (face_at mesh f) refl
  where
    by_corners : (corners : List ℕ) → face_at mesh f ≡ corners →
        odd (map (λ s. set (edge_number mesh s)) (sides corners))
        ≡ odd_below (edge_count mesh) (λ e. graph_touches (dual (cells_of mesh)) f e && set e)
    by_corners [] is =
        let large = (subst (IsFace mesh.vertices) is (surface.is_mesh f [] f_in)).large in absurd (omega (arith, large))
    by_corners (u ∷ rest) is =
        odd_parity mesh surface set (u ∷ (rest ++ u ∷ [])) (round_closed mesh surface f f_in u rest is)
        ∙ odd_same (edge_count mesh) set (parity mesh (u ∷ (rest ++ u ∷ []))) (graph_touches (dual (cells_of mesh)) f)
        (λ e e_in. sym (has_side-odd mesh.vertices (ends mesh e) (u ∷ rest)
        (subst (IsFace mesh.vertices) is (surface.is_mesh f [] f_in)))
        ∙ ap (has_side (ends mesh e)) (sym is) ∙ sym (face_sides mesh surface f e e_in))

pub sides_are_border_edges : SidesAreBorderEdges
sides_are_border_edges mesh set f surface f_in =
    sides_odd mesh surface set f f_in
    ∙ odd_same (edge_count mesh) set (graph_touches (dual (cells_of mesh)) f) (borders mesh f) touched
  where
    touched : (e : ℕ) → e < edge_count mesh → graph_touches (dual (cells_of mesh)) f e ≡ borders mesh f e
    touched e l =
        ap (λ b. xor b (eqb (faces_of mesh e).1 f)) (eqb_comm (faces_of mesh e).0 f)
        ∙ ap (xor (eqb f (faces_of mesh e).0)) (eqb_comm (faces_of mesh e).1 f)
        ∙ sym (or-xor (eqb f (faces_of mesh e).0) (eqb f (faces_of mesh e).1) (λ a b.
        (surfaces_are_cells mesh surface).faces_differ e l
        (sym (eqb-true f (faces_of mesh e).0 a) ∙ eqb-true f (faces_of mesh e).1 b)))

module _ (mesh : Mesh) (surface : IsSurface mesh) (set : Chain) (cocycle : IsCocycle mesh set) where
  -- each face has an even number of its edges
  cocycle_even : IsEven (dual (cells_of mesh)) set
  cocycle_even f f_in =
      odd_below-same (edge_count mesh) (λ e. set e && graph_touches (dual (cells_of mesh)) f e)
      (λ e. graph_touches (dual (cells_of mesh)) f e && set e)
      (λ e l. and_comm (set e) (graph_touches (dual (cells_of mesh)) f e))
      ∙ sym (sides_odd mesh surface set f f_in) ∙ cocycle f f_in

  -- a boundary has an even number of edges in it
  pub boundary_even_in : (chain : Chain) → IsBoundary mesh chain → odd_in (edge_count mesh) set chain ≡ false
  boundary_even_in chain (faces, is) =
      odd_below-same (edge_count mesh) (λ e. chain e && set e) (λ e. set e && leaves (dual (cells_of mesh)) faces e)
      (λ e l. ap (λ b. b && set e) (is e l) ∙ and_comm (boundary mesh faces e) (set e))
      ∙ even_leaves (dual (cells_of mesh)) (surfaces_are_cells mesh surface).complex.dual_ends set faces cocycle_even

pub null_walks_are_even_on_cocycles : NullWalksAreEvenOnCocycles
null_walks_are_even_on_cocycles mesh set walk surface cocycle closed null =
    odd_parity mesh surface set walk closed ∙ boundary_even_in mesh surface set cocycle (parity mesh walk) null
