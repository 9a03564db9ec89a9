-- Sums over lists of pairs, as sums over all edges.
use Rattle.surf_surfaces.proofs.Common.{◌≡◌, ℕ, ◌<◌, Bool, true, false, ◌&&◌, ◌||◌, eqb, List, [], ◌∷◌, map, refl, sym, ap, ◌∙◌, arith, AllByRecursion, or_left, or_right, false≢true, map-map, xor, odd, odd_below, Chain, dual, Mesh, sides, pair_of, pair_eq, among, edges, face_count, edge_count, face_at, ends, has_side, borders, faces_of, IsSurface, edge_number, cells_of, xor-and, or-xor, eqb_comm, odd_below-same, odd_below-none, odd_below-xor, graph_touches}
use Rattle.surf_surfaces.proofs.meshes.PairLaws.{pair_eq-true, pair_eq-self}
use Rattle.surf_surfaces.proofs.meshes.EdgeLaws.{odd_below-ends, rising_from_AllPairs}
use Rattle.surf_surfaces.proofs.meshes.FaceLaws.{Once, face_once, among-map}
use Rattle.surf_surfaces.proofs.meshes.SurfaceLaws.{two_faces_of, one_of_two, sides_are_edges}
use Rattle.surf_surfaces.proofs.LawProofs.{edges_are_numbered}
use Rattle.surf_classes.specs.Evidence.{has_odd_sides, is_odd_in}
use Rattle.surf_classes.specs.EvidenceLaws.{OddSumsAreSumsOverEdges}
use Rattle.surf_classes.proofs.Listed.{rising_once}

-- a sum over pairs none of which stands twice, each an edge
pub odd_over_edges : (mesh : Mesh) (q : ℕ × ℕ → Bool) (ps : List (ℕ × ℕ)) → Once ps →
    AllByRecursion (λ p. among p (edges mesh) ≡ true) ps →
    odd (map q ps) ≡ odd_below (edge_count mesh) (λ e. among (ends mesh e) ps && q (ends mesh e))
odd_over_edges mesh q [] once are = sym (odd_below-none (edge_count mesh) (λ e. false) (λ e l. refl))
odd_over_edges mesh q (p ∷ ps) once are =
    let E = edge_count mesh in
    let here : ℕ → Bool = λ e. pair_eq (ends mesh e) p in
    let later : ℕ → Bool = λ e. among (ends mesh e) ps in
    let apart : (e : ℕ) → here e ≡ true → later e ≡ true → ⊥ = λ e is in'.
    false≢true (sym once.0 ∙ ap (λ r. among r ps) (sym (pair_eq-true (ends mesh e) p is)) ∙ in') in
    ap (λ b. xor b (odd (map q ps))) (sym (odd_below-ends mesh p q are.0))
    ∙ ap (xor (odd_below E (λ e. here e && q (ends mesh e)))) (odd_over_edges mesh q ps once.1 are.1)
    ∙ sym (odd_below-xor E (λ e. here e && q (ends mesh e)) (λ e. later e && q (ends mesh e)))
    ∙ odd_below-same E (λ e. xor (here e && q (ends mesh e)) (later e && q (ends mesh e)))
    (λ e. (here e || later e) && q (ends mesh e))
    (λ e l. sym (xor-and (here e) (later e) (q (ends mesh e)))
    ∙ ap (λ b. b && q (ends mesh e)) (sym (or-xor (here e) (later e) (apart e))))

all_edges : (mesh : Mesh) (all ps : List (ℕ × ℕ)) → ((p : ℕ × ℕ) → among p ps ≡ true → among p all ≡ true) →
    ((p : ℕ × ℕ) → among p all ≡ true → among p (edges mesh) ≡ true) →
    AllByRecursion (λ p. among p (edges mesh) ≡ true) ps
all_edges mesh all [] part are = tt
all_edges mesh all (p ∷ ps) part are = (
  are p (part p (or_left (pair_eq p p) (among p ps) (pair_eq-self p))),
  all_edges mesh all ps (λ q in'. part q (or_right (pair_eq q p) (among q ps) in')) are,
)

mapped_sides : (mesh : Mesh) (ss : List (ℕ × ℕ)) → AllByRecursion (λ s. among (pair_of s) (edges mesh) ≡ true) ss →
    AllByRecursion (λ p. among p (edges mesh) ≡ true) (map pair_of ss)
mapped_sides mesh [] h = tt
mapped_sides mesh (s ∷ ss) h = (h.0, mapped_sides mesh ss h.1)

-- an edge of a face
pub borders_has : (mesh : Mesh) → IsSurface mesh → (f e : ℕ) → e < edge_count mesh →
    has_side (ends mesh e) (face_at mesh f) ≡ borders mesh f e
borders_has mesh surface f e l = (two_faces_of mesh surface e l).no_other f

pub borders_touches : (mesh : Mesh) → IsSurface mesh → (f e : ℕ) → e < edge_count mesh →
    borders mesh f e ≡ graph_touches (dual (cells_of mesh)) f e
borders_touches mesh surface f e l =
    let two = two_faces_of mesh surface e l in
    let a = (faces_of mesh e).0 in
    let b = (faces_of mesh e).1 in
    one_of_two f a b (λ same. omega (arith, two.lesser_first))
    ∙ ap (λ t. xor t (eqb f b)) (eqb_comm f a) ∙ ap (xor (eqb a f)) (eqb_comm f b)

-- the sides of a face among the pairs
pub sides_over_edges : (mesh : Mesh) → IsSurface mesh → (pairs : List (ℕ × ℕ)) (f : ℕ) → f < face_count mesh →
    has_odd_sides mesh pairs f ≡ odd_below (edge_count mesh) (λ e. borders mesh f e && among (ends mesh e) pairs)
sides_over_edges mesh surface pairs f l =
    let ss = sides (face_at mesh f) in
    ap odd (sym (map-map (λ p. among p pairs) pair_of ss))
    ∙ odd_over_edges mesh (λ p. among p pairs) (map pair_of ss)
    (face_once mesh.vertices (face_at mesh f) (surface.is_mesh f [] l)) (mapped_sides mesh ss (sides_are_edges mesh f l))
    ∙ odd_below-same (edge_count mesh) (λ e. among (ends mesh e) (map pair_of ss) && among (ends mesh e) pairs)
    (λ e. borders mesh f e && among (ends mesh e) pairs)
    (λ e in'. ap (λ b. b && among (ends mesh e) pairs) (among-map (ends mesh e) ss ∙ borders_has mesh surface f e in'))

-- the pairs in the chain
pub chain_over_edges : (mesh : Mesh) → IsSurface mesh → (chain : Chain) (pairs : List (ℕ × ℕ)) → Once pairs →
    AllByRecursion (λ p. among p (edges mesh) ≡ true) pairs →
    is_odd_in mesh chain pairs ≡ odd_below (edge_count mesh) (λ e. among (ends mesh e) pairs && chain e)
chain_over_edges mesh surface chain pairs once are =
    odd_over_edges mesh (λ p. chain (edge_number mesh p)) pairs once are
    ∙ odd_below-same (edge_count mesh) (λ e. among (ends mesh e) pairs && chain (edge_number mesh (ends mesh e)))
    (λ e. among (ends mesh e) pairs && chain e)
    (λ e l. ap (λ k. among (ends mesh e) pairs && chain k)
    ((edges_are_numbered mesh surface.is_mesh).number_of_ends e l))

pub odd_sums_are_sums_over_edges : OddSumsAreSumsOverEdges
odd_sums_are_sums_over_edges mesh surface chain pairs rises are = record {
  of_faces = sides_over_edges mesh surface pairs;
  of_chain = chain_over_edges mesh surface chain pairs (rising_once pairs (rising_from_AllPairs pairs rises))
      (all_edges mesh pairs pairs (λ p in'. in') are);
}
