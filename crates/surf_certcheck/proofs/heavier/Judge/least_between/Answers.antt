use Rattle.surf_treecheck.proofs.Common.{◌≡◌, ◌≢◌, ◌<◌, ◌∙◌, sym, subst, inl, inr, Tree, IsTree, cells_of, face_count, dual_tree, dual_rows_are_tree, IsStepUp}
use Rattle.surf_certcheck.proofs.Common.{IsShortFor, IsLeastWith}
use Rattle.surf_surfaces.proofs.Common.{dual as faces}
use Rattle.surf_certcheck.proofs.LeastIn.{IsLeastPassed, passed_none, passed_all, passed_more, not_root}
use Rattle.surf_certcheck.proofs.heavier.Judge.least_between.Goals as goal
use Rattle.surf_certcheck.proofs.heavier.Judge.least_between.Goals.{After-deeper_first-face}

abbrev tree_of : After-deeper_first-face → Tree
tree_of c = dual_tree c.args.self.now.mesh.now c.args.self.now.cert.now.dual

tree_is : (c : After-deeper_first-face) → IsTree (faces (cells_of c.args.self.now.mesh.now)) (tree_of c)
tree_is c =
    dual_rows_are_tree c.args.self.now.mesh.now c.args.self.now.cert.now.dual c.law_of_surface.ensures.surface
    c.args.self.now.tree

-- the two faces are two
apart : (c : After-deeper_first-face) → c.loop-near.near ≢ c.loop-near.far
apart c same = c.loop-near-test.true (c.index.ensures ∙ same ∙ sym c.index-in-loop-near.ensures)

-- the one to climb from isn't face 0
above_root : (c : After-deeper_first-face) → c.deeper_first-face.result.0 ≢ 0
above_root c =
    not_root (faces (cells_of c.args.self.now.mesh.now)) (tree_of c) (tree_is c) c.loop-near.near c.loop-near.far
    c.deeper_first-face.result.0 c.deeper_first-face.result.1 c.deeper_first-face.ensures.both (apart c)
    c.loop-near.invariant.near_in c.loop-near.invariant.far_in c.deeper_first-face.ensures.deeper

pub step_up-above-requires-clause-below : goal.step_up-above-requires-clause-below
step_up-above-requires-clause-below c = above_root (goal.at.step_up-above-requires-clause-below c).After-deeper_first-face

pub loop-near-init : goal.loop-near-init
loop-near-init c = record {
  near_in = c.requires.faces.0;
  far_in = c.requires.faces.1;
  passed = passed_none (IsShortFor c.args.self.now c.args.limit) (dual_tree c.args.self.now.mesh.now c.args.self.now.cert.now.dual)
      c.args.ends.0 c.args.ends.1;
}

pub loop-near-preserved : goal.loop-near-preserved
loop-near-preserved c =
    let i = (goal.at.loop-near-preserved c).After-deeper_first-face in
    let judge = c.args.self.now in
    let mesh = judge.mesh.now in
    let t = tree_of i in
    let g = faces (cells_of mesh) in
    let short = IsShortFor judge c.args.limit in
    let face = c.deeper_first-face.result.0 in
    let other = c.deeper_first-face.result.1 in
    let above = c.step_up-above.result.0 in
    let edge = c.step_up-above.result.1 in
    let inv = c.loop-near.invariant in
    let step : IsStepUp mesh judge.cert.now.dual face above edge =
    subst (λ d. IsStepUp mesh d face above edge) c.dual.ensures.dual c.step_up-above.ensures.step in
    let least = c.with_edge-least.result in
    let with_it : IsLeastWith short (t.up face) c.loop-near.least least =
    subst (λ e. IsLeastWith short e c.loop-near.least least) step.up c.with_edge-least.ensures.least in
    record {
      near_in = step.face_in;
      far_in = elim c.deeper_first-face.ensures.both [
        | inl is ↦ subst (λ f. f < face_count mesh) (sym is.1) inv.far_in
        | inr is ↦ subst (λ f. f < face_count mesh) (sym is.1) inv.near_in
      ];
      passed = subst (λ f. IsLeastPassed short t c.args.ends.0 c.args.ends.1 f other least) (sym step.parent)
          (passed_more g t (tree_is i) c.loop-near.near c.loop-near.far face other c.deeper_first-face.ensures.both (apart i)
          inv.near_in inv.far_in c.deeper_first-face.ensures.deeper short c.args.ends.0 c.args.ends.1 c.loop-near.least least
          inv.passed with_it);
    }

pub returns : goal.returns
returns c =
    let judge = c.args.self.now in
    let same : c.loop-near.near ≡ c.loop-near.far = sym c.index.ensures ∙ c.loop-near-test.false ∙ c.index-in-loop-near.ensures in
    record {
      least = passed_all (IsShortFor judge c.args.limit) (dual_tree judge.mesh.now judge.cert.now.dual) c.args.ends.0
          c.args.ends.1 c.loop-near.near c.loop-near.far c.loop-near.least same c.loop-near.invariant.passed;
    }
