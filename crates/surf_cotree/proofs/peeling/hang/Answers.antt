use Rattle.surf_cotree.proofs.Common.{◌≡◌, ◌<◌, ◌≤◌, ◌∙◌, ◌-◌, false, true, subst, arith, length, eq-eqb, ne_eqb, Graph, dual, cells_of, nobody, at, reached, IsHungBy}
use Rattle.std.proofs.lemmas.Grind.{get_or_default_zero}
use Rattle.surf_cotree.proofs.Faces.{graph_is}
use Rattle.surf_cotree.proofs.HangingTurns.{leaf_edge_in, near_in, far_in, none_hung, depth_room, one_hung}
use Rattle.surf_cotree.proofs.peeling.hang.Goals as goal
use Rattle.surf_cotree.proofs.peeling.hang.Goals.{After-leaf_of-face}

abbrev dual_of : After-leaf_of-face → Graph
dual_of c = dual (cells_of c.args.mesh.now)

few : (c : After-leaf_of-face) → (dual_of c).edges ≤ nobody
few c = omega (arith, c.law_of_surface.ensures.edges)

small : (c : After-leaf_of-face) → (dual_of c).nodes ≤ nobody
small c = omega (arith, c.law_of_surface.ensures.faces)

-- the state before the turn
abbrev state : (c : After-leaf_of-face) → IsHungBy (dual_of c) c.requires.some.0 c.requires.some.1 c.args.leaves.now c.loop-k.k c.loop-k.parent c.loop-k.up c.loop-k.depth
state c = c.loop-k.invariant c.requires.some.0 c.requires.some.1 c.requires.some.2

edge_is : (c : After-leaf_of-face) → c.index-leaves-k.result ≡ at c.args.leaves.now (c.loop-k.k - 1)
edge_is c =
    let inside : c.loop-k.k - 1 < length c.args.leaves.now = let l = (state c).few in omega (arith, c.loop-k-test.true) in
    c.index-leaves-k.is ∙ get_or_default_zero c.args.leaves.now (c.loop-k.k - 1) c.index-leaves-k.result inside

pub leaf_of-face-requires-clause-edge : goal.leaf_of-face-requires-clause-edge
leaf_of-face-requires-clause-edge c =
    let g = dual (cells_of c.args.mesh.now) in
    let before = c.loop-k.invariant c.requires.some.0 c.requires.some.1 c.requires.some.2 in
    let inside : c.loop-k.k - 1 < length c.args.leaves.now = let l = before.few in omega (arith, c.loop-k-test.true) in
    leaf_edge_in g c.requires.some.0 c.requires.some.1 (graph_is c.args.mesh.now c.law_of_surface.ensures.surface) (omega (arith, c.law_of_surface.ensures.edges)) (omega (arith, c.law_of_surface.ensures.faces)) c.args.leaves.now c.loop-k.k c.loop-k.parent c.loop-k.up c.loop-k.depth before c.loop-k-test.true c.index-leaves-k.result
    (c.index-leaves-k.is ∙ get_or_default_zero c.args.leaves.now (c.loop-k.k - 1) c.index-leaves-k.result inside)

face_of : (c : After-leaf_of-face) → c.leaf_of-face.result.0 < (dual_of c).nodes
face_of c = near_in (dual_of c) c.requires.some.0 c.requires.some.1 (graph_is c.args.mesh.now c.law_of_surface.ensures.surface) (few c) (small c) c.args.leaves.now c.loop-k.k c.loop-k.parent c.loop-k.up c.loop-k.depth (state c) c.loop-k-test.true c.index-leaves-k.result (edge_is c) c.leaf_of-face.result.0 c.leaf_of-face.result.1 c.leaf_of-face.ensures.leaf

next_of : (c : After-leaf_of-face) → c.leaf_of-face.result.1 < (dual_of c).nodes
next_of c = far_in (dual_of c) c.requires.some.0 c.requires.some.1 (graph_is c.args.mesh.now c.law_of_surface.ensures.surface) (few c) (small c) c.args.leaves.now c.loop-k.k c.loop-k.parent c.loop-k.up c.loop-k.depth (state c) c.loop-k-test.true c.index-leaves-k.result (edge_is c) c.leaf_of-face.result.0 c.leaf_of-face.result.1 c.leaf_of-face.ensures.leaf

pub bounds-depth-on : goal.bounds-depth-on
bounds-depth-on c =
    let l = next_of (goal.at.bounds-depth-on c).After-leaf_of-face in
    omega (arith, l, c.loop-k.auto.depth, c.requires.depths)

pub bounds-depth-on-then-depth-on : goal.bounds-depth-on-then-depth-on
bounds-depth-on-then-depth-on c =
    let l = next_of (goal.at.bounds-depth-on-then-depth-on c).After-leaf_of-face in
    omega (arith, l, c.loop-k.auto.depth, c.requires.depths)

pub bounds-depth-face : goal.bounds-depth-face
bounds-depth-face c =
    let l = face_of (goal.at.bounds-depth-face c).After-leaf_of-face in
    omega (arith, l, c.loop-k.auto.depth, c.requires.depths)

pub bounds-parent-face : goal.bounds-parent-face
bounds-parent-face c =
    let l = face_of (goal.at.bounds-parent-face c).After-leaf_of-face in
    omega (arith, l, c.loop-k.auto.parent, c.requires.parents)

pub bounds-up-face : goal.bounds-up-face
bounds-up-face c =
    let l = face_of (goal.at.bounds-up-face c).After-leaf_of-face in
    omega (arith, l, c.loop-k.auto.up, c.requires.ups)

pub returns : goal.returns
returns c = record { hung = λ allowed weight start. let none : c.loop-k.k ≡ 0 = omega (arith, c.loop-k-test.false) in subst (λ n. IsHungBy (dual (cells_of c.args.mesh.now)) allowed weight c.args.leaves.now n c.loop-k.parent c.loop-k.up c.loop-k.depth) none (c.loop-k.invariant allowed weight start) }

pub overflow_add-depth : goal.overflow_add-depth
overflow_add-depth c =
    let i = (goal.at.overflow_add-depth c).After-leaf_of-face in
    let there : reached c.loop-k.depth c.leaf_of-face.result.1 ≡ true = rw (ne_eqb (at c.loop-k.depth c.leaf_of-face.result.1) nobody c.if-depth-on.true) in
    let lp : length c.loop-k.parent ≡ (dual_of i).nodes = omega (arith, c.loop-k.auto.parent, c.requires.parents) in
    let lu : length c.loop-k.up ≡ (dual_of i).nodes = omega (arith, c.loop-k.auto.up, c.requires.ups) in
    let ld : length c.loop-k.depth ≡ (dual_of i).nodes = omega (arith, c.loop-k.auto.depth, c.requires.depths) in
    let l = depth_room (dual_of i) c.requires.some.0 c.requires.some.1 (graph_is c.args.mesh.now c.law_of_surface.ensures.surface) (few i) (small i) c.args.leaves.now c.loop-k.k c.loop-k.parent c.loop-k.up c.loop-k.depth (state i) c.loop-k-test.true c.index-leaves-k.result (edge_is i) c.leaf_of-face.result.0 c.leaf_of-face.result.1 c.leaf_of-face.ensures.leaf lp lu ld there in
    let most = small i in
    omega (arith, l, most)

pub loop-k-preserved : goal.loop-k-preserved
loop-k-preserved c allowed weight start =
    let i = (goal.at.loop-k-preserved c).After-leaf_of-face in
    let away : reached c.loop-k.depth c.leaf_of-face.result.1 ≡ false = rw (eq-eqb (at c.loop-k.depth c.leaf_of-face.result.1) nobody c.if-depth-on.false) in
    none_hung (dual_of i) allowed weight (graph_is c.args.mesh.now c.law_of_surface.ensures.surface) (few i) (small i) c.args.leaves.now c.loop-k.k c.loop-k.parent c.loop-k.up c.loop-k.depth (c.loop-k.invariant allowed weight start) c.loop-k-test.true c.index-leaves-k.result (edge_is i) c.leaf_of-face.result.0 c.leaf_of-face.result.1 c.leaf_of-face.ensures.leaf away

pub loop-k-preserved-then-depth-on : goal.loop-k-preserved-then-depth-on
loop-k-preserved-then-depth-on c allowed weight start =
    let i = (goal.at.loop-k-preserved-then-depth-on c).After-leaf_of-face in
    let there : reached c.loop-k.depth c.leaf_of-face.result.1 ≡ true = rw (ne_eqb (at c.loop-k.depth c.leaf_of-face.result.1) nobody c.if-depth-on.true) in
    let lp : length c.loop-k.parent ≡ (dual_of i).nodes = omega (arith, c.loop-k.auto.parent, c.requires.parents) in
    let lu : length c.loop-k.up ≡ (dual_of i).nodes = omega (arith, c.loop-k.auto.up, c.requires.ups) in
    let ld : length c.loop-k.depth ≡ (dual_of i).nodes = omega (arith, c.loop-k.auto.depth, c.requires.depths) in
    rw c.number.ensures (one_hung (dual_of i) allowed weight (graph_is c.args.mesh.now c.law_of_surface.ensures.surface) (few i) (small i) c.args.leaves.now c.loop-k.k c.loop-k.parent c.loop-k.up c.loop-k.depth (c.loop-k.invariant allowed weight start) c.loop-k-test.true c.index-leaves-k.result (edge_is i) c.leaf_of-face.result.0 c.leaf_of-face.result.1 c.leaf_of-face.ensures.leaf lp lu ld there)
