-- Paired edges have no fault.
use Rattle.surf_surfaces.proofs.Common.{◌≡◌, ◌<◌, refl, ap, ◌∙◌, length, arith, Mesh, face_count, faces_with}
use Rattle.surf_soup.specs.Pairs.{HasTwoFaces, IsPairFault}
use Rattle.surf_soup.specs.declared.pairs.PairFault.{PairFault}
use Rattle.surf_soup.specs.declared.pairs.PairFault.TheVariants.{Empty, Border, Crowded, Memory}

pub pair_fault_only : (mesh : Mesh) (e : PairFault) → IsPairFault mesh e → 0 < face_count mesh → HasTwoFaces mesh →
    e ≡ Memory
pair_fault_only mesh Empty h some two = absurd (omega (arith, h))
pair_fault_only mesh (Border u v face) h some two =
    let b = h.1.1 in
    absurd (omega (arith, two h.1.0 b.is_edge, ap length (ap (faces_with mesh) b.its_ends ∙ b.its_face)))
pair_fault_only mesh (Crowded u v faces) h some two =
    let b = h.1.1 in
    absurd (omega (arith, two h.1.0 b.is_edge, b.many, ap (λ p. length (faces_with mesh p)) b.its_ends))
pair_fault_only mesh Memory h some two = refl
