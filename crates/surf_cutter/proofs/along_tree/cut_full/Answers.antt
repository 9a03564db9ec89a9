use Rattle.surf_slit.proofs.Common.{◌≡◌, ◌+◌, List, Bool, length, sym, subst, rules, IfOk-weaker, face_count, edge_count}
use Rattle.surf_cutter.proofs.Common.{full, MarkedMesh, OpenMesh, IsHeld, IsChosenFor}
use Rattle.surf_cutter.proofs.Chosen.{full_counted}
use Rattle.surf_cutter.proofs.along_tree.cut_full.Goals as goal

pub returns-clause-copies : goal.returns-clause-copies
returns-clause-copies c =
    let mesh = c.args.mesh.now in
    let held = c.in_ok-flags.flags.items in
    let same : held ≡ c.args.cotree.now.held = search rules in
    let is_held : IsHeld mesh held = subst (λ (marks : List Bool). IsHeld mesh marks) (sym same) c.requires.held in
    let P : OpenMesh → Type 0 = λ o. length o.origins + (face_count mesh + face_count mesh) ≡ edge_count mesh + edge_count mesh + 2 in
    let C : MarkedMesh → OpenMesh → Type 0 = λ h o. IsChosenFor h.mesh h.marks full o in
    IfOk-weaker c.open_full.result (C c.of.result) P
    (λ o is. full_counted c.law_of_surface.ensures.surface held is_held o.origins o.faces (subst (λ (h : MarkedMesh). C h o) c.of.ensures is)) c.open_full.ensures.chosen
