-- A disc has no fault.
use Rattle.surf_surfaces.proofs.Common.{◌≡◌, ◌+◌, refl, ap, sym, ◌∙◌, length, arith, IsDisc, Mesh, faces_with}
use Rattle.surf_disc.specs.Fault.{IsDiscFault}
use Rattle.surf_disc.specs.declared.faults.BorderKind.TheVariants.{Nothing, Two}
use Rattle.surf_disc.specs.declared.faults.DiscFault.{DiscFault}
use Rattle.surf_disc.specs.declared.faults.DiscFault.TheVariants.{Crowded, Isolated, Pinched, Apart, Border, Count}
use Rattle.surf_disc.specs.declared.faults.DiscFault.TheVariants.{Memory}

pub fault_only : (mesh : Mesh) (e : DiscFault) → IsDiscFault mesh e → IsDisc mesh → e ≡ Memory
fault_only mesh (Crowded u v faces) h d =
    let b = h.1 in
    absurd (omega (arith, d.one_or_two h.0 b.is_edge, b.many, ap (λ p. length (faces_with mesh p)) b.its_ends))
fault_only mesh (Isolated v) h d = let m = d.no_isolated v h.1.is_vertex in absurd (h.1.no_face m.0 m.1)
fault_only mesh (Pinched v first second) h d = let p = h.2.pinch in absurd
    (p.apart (d.one_fan v h.2.is_vertex first second p.first p.second))
fault_only mesh (Apart face) h d = let lt = h.3.is_face in absurd
    (h.3.apart (d.connected 0 face (omega arith) h.3.is_face))
fault_only mesh (Border Nothing) h d = absurd (h.1 d.some_border.0 d.some_border.1)
fault_only mesh (Border (Two u v s t)) h d =
    let two = h.1 in
    absurd (two.3.outside (d.one_border two.0 two.1 two.2.on_border two.3.on_border))
fault_only mesh (Count vertices edges faces) h d = absurd
    (h.6 (ap (λ n. n + faces) h.3 ∙ ap (λ n. mesh.vertices + n) h.5 ∙ d.characteristic_one ∙ ap (λ n. n + 1) (sym h.4)))
fault_only mesh Memory h d = refl
