use Rattle.surf_treecheck.proofs.Common.{◌≡◌, ◌∙◌, length, ap, arith, face_count, DualRows}
use Rattle.surf_certcheck.proofs.heavier.Judge.deeper_first.Goals as goal
use Rattle.surf_certcheck.proofs.heavier.Judge.deeper_first.Goals.{After-depth-depth}

-- there is a depth for each face
long : (c : After-depth-depth) → length c.depth-depth.result.now ≡ face_count c.args.self.now.mesh.now
long c =
    ap length c.depth-depth.ensures.depth ∙ ap (λ (d : DualRows). length d.depth) c.dual.ensures.dual
    ∙ c.args.self.now.faces.depths

pub bounds-depth-index : goal.bounds-depth-index
bounds-depth-index c =
    let l = long (goal.at.bounds-depth-index c).After-depth-depth in
    omega (arith, l, c.index.ensures, c.requires.far)

pub bounds-depth-index-2 : goal.bounds-depth-index-2
bounds-depth-index-2 c =
    let l = long (goal.at.bounds-depth-index-2 c).After-depth-depth in
    omega (arith, l, c.index-2.ensures, c.requires.near)
