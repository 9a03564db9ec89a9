-- Closed walks of a mesh, as walks of its graph with lengths and signatures, run from their ends backwards.
use Rattle.surf_surfaces.proofs.Common.{◌≡◌, ℕ, ◌<◌, List, [], ◌∷◌, ◌++◌, map, reverse, bit_xor, refl, sym, ap, ◌∙◌, subst, arith, Contains, AllByRecursion, recursion_from_All, numbers, sum_of, difference, primal, Split, Graph, IsGraphWalk, edge_between, signature_of, Mesh, IsMesh, pair_of, steps_from, edges, IsSurface, cells_of, edge_signature, walk_signature, even-xor, signature_of-linear, null_zero, zero_null}
use Rattle.std.proofs.lemmas.List.{reverse-append, append_assoc}
use Rattle.surf_z2.proofs.Span.{same_from_sum}
use Rattle.surf_surfaces.specs.Walk.{IsWalk, IsClosed, first, last_from, edge_length, edge_number, parity, walk_length}
use Rattle.surf_surfaces.proofs.meshes.CellLaws.{surfaces_are_cells}
use Rattle.surf_surfaces.proofs.walks.GraphWalkLaws.{between_is_number, walks_are_graph_walks, closed_parity_even}
use Rattle.surf_surfaces.proofs.classes.SignatureLaws.{signatures_are_classes}
use Rattle.surf_classes.specs.ShortestLaws.{HomologousBySignature}
use Rattle.surf_classes.proofs.SignedWalks.{walk_sum, turned, Goes, goes_turned}

-- a walk of the graph of vertices with a length and a signature
abbrev pub Signed : Mesh → List ℕ → Split → ℕ → List ℕ → ℕ → ℕ → ℕ → Type 0
Signed mesh lengths d = Goes (primal (cells_of mesh)) (edge_length lengths) (edge_signature mesh d)

steps_sum : (mesh : Mesh) (d : Split) → IsMesh mesh → (u : ℕ) (rest : List ℕ) →
    AllByRecursion (λ s. Contains (edges mesh) (pair_of s)) (steps_from u rest) →
    sum_of numbers (map (λ s. edge_signature mesh d (edge_number mesh s)) (steps_from u rest))
    ≡ walk_sum (primal (cells_of mesh)) (edge_signature mesh d) u rest
steps_sum mesh d m u [] h = refl
steps_sum mesh d m u (w ∷ rest) h =
    let sig = edge_signature mesh d in
    ap (λ e. bit_xor (sig e) (sum_of numbers (map (λ s. sig (edge_number mesh s)) (steps_from w rest))))
    (sym (between_is_number mesh m u w h.0))
    ∙ ap (bit_xor (sig (edge_between (primal (cells_of mesh)) u w))) (steps_sum mesh d m w rest h.1)

-- ---- lists from their ends

pub reverse_cons : (u : ℕ) (w : List ℕ) → reverse (u ∷ w) ≡ reverse w ++ u ∷ []
reverse_cons u w = reverse-append (u ∷ []) w

pub reverse_at : (p w : List ℕ) (u : ℕ) → reverse (p ++ u ∷ w) ≡ reverse w ++ u ∷ reverse p
reverse_at p w u =
    reverse-append p (u ∷ w) ∙ ap (λ xs. xs ++ reverse p) (reverse_cons u w)
    ∙ append_assoc (reverse w) (u ∷ []) (reverse p)

pub reverse_walk : (g : Graph) (a : ℕ) (w : List ℕ) (b : ℕ) → IsGraphWalk g a w b → reverse (a ∷ w) ≡ b ∷ turned a w
reverse_walk g a [] b h = ap (λ x. x ∷ []) h
reverse_walk g a (c ∷ w) b h = reverse_cons a (c ∷ w) ∙ ap (λ xs. xs ++ a ∷ []) (reverse_walk g c w b h.1)

-- ---- homologous walks

pub homologous_by_signature : HomologousBySignature
homologous_by_signature mesh d surface split walk other closed closed_other =
    let s = cells_of mesh in
    let cells = (surfaces_are_cells mesh surface).complex in
    let linear = signature_of-linear s d in
    let one = signatures_are_classes mesh d surface walk closed.is_walk in
    let two = signatures_are_classes mesh d surface other closed_other.is_walk in
    let a = signature_of s d (parity mesh walk) in
    let b = signature_of s d (parity mesh other) in (
      (λ null. one ∙ same_from_sum numbers a b (sym (linear.add (parity mesh walk) (parity mesh other))
          ∙ null_zero s d cells split (difference (parity mesh walk) (parity mesh other)) null) ∙ sym two),
      (λ same.
          let equal : a ≡ b = sym one ∙ same ∙ two in
          zero_null s d cells split (difference (parity mesh walk) (parity mesh other))
          (even-xor (primal s) (parity mesh walk) (parity mesh other) (closed_parity_even mesh surface walk closed)
          (closed_parity_even mesh surface other closed_other))
          (linear.add (parity mesh walk) (parity mesh other) ∙ ap (λ n. bit_xor n b) equal ∙ numbers.self b)),
    )

-- ---- closed walks, from their ends

module _ (mesh : Mesh) (lengths : List ℕ) (d : Split) (surface : IsSurface mesh) where
  pub signed_walk : (u : ℕ) (rest : List ℕ) → IsWalk mesh (u ∷ rest) →
      Signed mesh lengths d u rest (last_from u rest) (walk_length mesh lengths (u ∷ rest))
      (walk_signature mesh d (u ∷ rest))
  signed_walk u rest is =
      let walks = walks_are_graph_walks mesh surface in
      record {
        walk = walks.walk u rest is;
        size = sym (walks.sizes lengths u rest is);
        sum = sym (steps_sum mesh d surface.is_mesh u rest
            (recursion_from_All (λ s. Contains (edges mesh) (pair_of s)) (steps_from u rest) is.along_edges));
      }

  -- what a walk of the graph is in the mesh
  pub record MeshWalk (u v n s : ℕ) (rest : List ℕ) : Type 0 where
    pub is_walk : IsWalk mesh (u ∷ rest)
    pub ends : last_from u rest ≡ v
    pub size : walk_length mesh lengths (u ∷ rest) ≡ n
    pub signs : walk_signature mesh d (u ∷ rest) ≡ s

  pub mesh_walk : (u v n s : ℕ) (rest : List ℕ) → u < mesh.vertices → Signed mesh lengths d u rest v n s →
      MeshWalk u v n s rest
  mesh_walk u v n s rest u_in h =
      let walks = walks_are_graph_walks mesh surface in
      let back = walks.from_walk u v rest u_in h.walk in
      let own = signed_walk u rest back.0 in
      record {
        is_walk = back.0;
        ends = back.1;
        size = sym own.size ∙ h.size;
        signs = sym own.sum ∙ h.sum;
      }

  pub turn : (a : ℕ) (w : List ℕ) (b n s : ℕ) → Signed mesh lengths d a w b n s →
      Signed mesh lengths d b (turned a w) a n s
  turn a w b n s h = goes_turned (primal (cells_of mesh)) (edge_length lengths) (edge_signature mesh d)
      (surfaces_are_cells mesh surface).one_edge a w b n s h

  -- a closed walk, run backwards
  pub record Backwards (walk : List ℕ) : Type 0 where
    pub first_in : first walk < mesh.vertices
    pub rest : List ℕ
    pub is_reverse : reverse walk ≡ first walk ∷ rest
    pub goes : Signed mesh lengths d (first walk) rest (first walk) (walk_length mesh lengths walk)
        (walk_signature mesh d walk)

  pub backwards : (walk : List ℕ) → IsClosed mesh walk → Backwards walk
  backwards [] closed = absurd (omega (arith, closed.is_walk.begins))
  backwards (u ∷ rest) closed =
      let whole = signed_walk u rest closed.is_walk in
      let round : Signed mesh lengths d u rest u (walk_length mesh lengths (u ∷ rest)) (walk_signature mesh d (u ∷ rest)) =
      subst (λ v. Signed mesh lengths d u rest v (walk_length mesh lengths (u ∷ rest)) (walk_signature mesh d (u ∷ rest)))
      (sym closed.returns) whole in
      record {
        first_in = closed.is_walk.vertices 0 0 (omega arith);
        rest = turned u rest;
        is_reverse = reverse_walk (primal (cells_of mesh)) u rest u round.walk;
        goes = turn u rest u (walk_length mesh lengths (u ∷ rest)) (walk_signature mesh d (u ∷ rest)) round;
      }

  -- and forwards
  pub record Round (walk : List ℕ) (x n s : ℕ) : Type 0 where
    pub closed : IsClosed mesh walk
    pub at_base : first walk ≡ x
    pub size : walk_length mesh lengths walk ≡ n
    pub signs : walk_signature mesh d walk ≡ s

  pub forwards : (x n s : ℕ) (w : List ℕ) → x < mesh.vertices → Signed mesh lengths d x w x n s →
      Round (reverse (x ∷ w)) x n s
  forwards x n s w x_in h =
      let is = mesh_walk x x n s (turned x w) x_in (turn x w x n s h) in
      subst (λ walk. Round walk x n s) (sym (reverse_walk (primal (cells_of mesh)) x w x h.walk))
      (record {
        closed = record { is_walk = is.is_walk; returns = sym is.ends };
        at_base = refl;
        size = is.size;
        signs = is.signs;
      })
