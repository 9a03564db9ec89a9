-- The signature of a walk is its class.
use Rattle.surf_surfaces.proofs.Common.{◌≡◌, ℕ, ◌&&◌, eqb, List, [], ◌∷◌, length, map, bit_xor, sym, ap, ◌∙◌, Contains, AllByRecursion, recursion_from_All, odd, numbers, sum_of, same_from, Split, signature, chain_signature, signature_of, signature_of-linear, Mesh, pair_of, pair_eq, steps, edges, edge_count, ends, edge_number, cells_of, odd_below-same, odd_below-one}
use Rattle.surf_surfaces.specs.Signature.{edge_signature, SignaturesAreClasses, NullBySignature}
use Rattle.surf_surfaces.proofs.meshes.EdgeLaws.{ends-eq, place_of-among, among-contains}
use Rattle.surf_surfaces.proofs.classes.ClassLaws.{null_by_class}

-- one step has the signature of its edge
step_signature : (mesh : Mesh) (d : Split) (s : ℕ × ℕ) → Contains (edges mesh) (pair_of s) →
    signature_of (cells_of mesh) d (λ e. pair_eq (ends mesh e) (pair_of s)) ≡ edge_signature mesh d (edge_number mesh s)
step_signature mesh d s has =
    let is_edge = among-contains (pair_of s) (edges mesh) has in
    let e = edge_number mesh s in
    same_from (length d.left) (chain_signature (cells_of mesh) d (λ h. pair_eq (ends mesh h) (pair_of s)))
    (signature (cells_of mesh) d e) (λ k l.
    odd_below-same (edge_count mesh) (λ h. pair_eq (ends mesh h) (pair_of s) && signature (cells_of mesh) d h k)
    (λ h. eqb h e && signature (cells_of mesh) d h k)
    (λ h below. ap (λ b. b && signature (cells_of mesh) d h k) (ends-eq mesh (pair_of s) h is_edge below))
    ∙ odd_below-one (edge_count mesh) e (λ h. signature (cells_of mesh) d h k)
    (place_of-among (pair_of s) (edges mesh) (0, 0) is_edge).0)

steps_signature : (mesh : Mesh) (d : Split) (ss : List (ℕ × ℕ)) →
    AllByRecursion (λ s. Contains (edges mesh) (pair_of s)) ss →
    sum_of numbers (map (λ s. edge_signature mesh d (edge_number mesh s)) ss)
    ≡ signature_of (cells_of mesh) d (λ e. odd (map (λ s. pair_eq (ends mesh e) (pair_of s)) ss))
steps_signature mesh d [] h = sym (signature_of-linear (cells_of mesh) d).zero
steps_signature mesh d (s ∷ ss) h =
    ap (λ n. bit_xor n (sum_of numbers (map (λ t. edge_signature mesh d (edge_number mesh t)) ss)))
    (sym (step_signature mesh d s h.0))
    ∙ ap (bit_xor (signature_of (cells_of mesh) d (λ e. pair_eq (ends mesh e) (pair_of s))))
    (steps_signature mesh d ss h.1)
    ∙ sym ((signature_of-linear (cells_of mesh) d).add (λ e. pair_eq (ends mesh e) (pair_of s))
    (λ e. odd (map (λ t. pair_eq (ends mesh e) (pair_of t)) ss)))

pub signatures_are_classes : SignaturesAreClasses
signatures_are_classes mesh d surface walk is =
    steps_signature mesh d (steps walk)
    (recursion_from_All (λ s. Contains (edges mesh) (pair_of s)) (steps walk) is.along_edges)

pub null_by_signature : NullBySignature
null_by_signature mesh d surface split walk closed =
    let same = signatures_are_classes mesh d surface walk closed.is_walk in
    let law = null_by_class mesh d surface split walk closed in
    (λ null. same ∙ law.0 null, λ none. law.1 (sym same ∙ none))
