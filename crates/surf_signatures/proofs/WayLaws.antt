-- Signatures of ways up a tree, and of loops.
use Rattle.surf_surfaces.proofs.Common.{◌≡◌, ◌≢◌, ℕ, ◌<◌, ◌&&◌, List, false, eqb, length, bit_xor, ap, ◌∙◌, xor, same_from, primal, Split, signature, chain_signature, signature_of, Tree, IsTree, IsShortest, on_path, loop, signature_of-same, signature_of-linear, Mesh, edge_count, ends, IsSurface, edge_length, parity, cells_of, class_of, loop_walk, edge_signature, eqb_comm, odd_below-same, odd_below-one, path_root, path_step}
use Rattle.surf_surfaces.proofs.classes.ClassLaws.{runs_loop}
use Rattle.surf_signatures.specs.Ways.{way_class}

-- an edge alone has its own signature
one_edge : (mesh : Mesh) (d : Split) (e : ℕ) → e < edge_count mesh →
    signature_of (cells_of mesh) d (λ h. eqb e h) ≡ edge_signature mesh d e
one_edge mesh d e l =
    same_from (length d.left) (chain_signature (cells_of mesh) d (λ h. eqb e h)) (signature (cells_of mesh) d e) (λ k below.
    odd_below-same (edge_count mesh) (λ h. eqb e h && signature (cells_of mesh) d h k)
    (λ h. eqb h e && signature (cells_of mesh) d h k)
    (λ h in'. ap (λ b. b && signature (cells_of mesh) d h k) (eqb_comm e h))
    ∙ odd_below-one (edge_count mesh) e (λ h. signature (cells_of mesh) d h k) l)

-- at the root there is none
pub way_none : (mesh : Mesh) (d : Split) (t : Tree) → way_class mesh d t t.root ≡ 0
way_none mesh d t =
    signature_of-same (cells_of mesh) d (on_path t t.root) (λ e. false) (λ e l. path_root t e)
    ∙ (signature_of-linear (cells_of mesh) d).zero

-- elsewhere that of the edge to the parent, and of the way from there
pub way_more : (mesh : Mesh) (d : Split) (t : Tree) → IsTree (primal (cells_of mesh)) t → (n : ℕ) → n < mesh.vertices →
    n ≢ t.root → way_class mesh d t n ≡ bit_xor (edge_signature mesh d (t.up n)) (way_class mesh d t (t.parent n))
way_more mesh d t tree n l ne =
    signature_of-same (cells_of mesh) d (on_path t n) (λ e. xor (eqb (t.up n) e) (on_path t (t.parent n) e))
    (λ e in'. path_step (primal (cells_of mesh)) t tree n e l ne)
    ∙ (signature_of-linear (cells_of mesh) d).add (λ e. eqb (t.up n) e) (on_path t (t.parent n))
    ∙ ap (λ x. bit_xor x (way_class mesh d t (t.parent n))) (one_edge mesh d (t.up n) (tree.up_in n l ne))

-- the loop of an edge has its own signature and those of the two ways
pub loop_class : (mesh : Mesh) (lengths : List ℕ) (d : Split) (t : Tree) (e : ℕ) → IsSurface mesh →
    IsTree (primal (cells_of mesh)) t → IsShortest (primal (cells_of mesh)) (edge_length lengths) t →
    e < edge_count mesh →
    class_of mesh d (loop_walk mesh t e)
    ≡ bit_xor (edge_signature mesh d e)
    (bit_xor (way_class mesh d t (ends mesh e).0) (way_class mesh d t (ends mesh e).1))
loop_class mesh lengths d t e surface tree short l =
    let run = runs_loop mesh lengths surface t tree short e l in
    let u = (ends mesh e).0 in
    let v = (ends mesh e).1 in
    let linear = signature_of-linear (cells_of mesh) d in
    signature_of-same (cells_of mesh) d (parity mesh (loop_walk mesh t e)) (loop (primal (cells_of mesh)) t e)
    (λ h in'. run.parities h in')
    ∙ linear.add (λ h. eqb e h) (λ h. xor (on_path t u h) (on_path t v h))
    ∙ ap (λ x. bit_xor x (signature_of (cells_of mesh) d (λ h. xor (on_path t u h) (on_path t v h)))) (one_edge mesh d e l)
    ∙ ap (bit_xor (edge_signature mesh d e)) (linear.add (on_path t u) (on_path t v))
