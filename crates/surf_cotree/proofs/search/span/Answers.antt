use Rattle.surf_cotree.proofs.Common.{◌≡◌, ◌≢◌, ◌<◌, ◌≤◌, ◌+◌, ◌-◌, ◌∙◌, ℕ, true, eqb, length, arith, ap, sym, subst, set, refl, suc, Option, None, get_or-set_same, get_or-set_other, false≢true, joins, dual, count_below, face_count, cells_of, length-set, length-replicate, nobody, at, reached, outside, spanned_tree, IsWaiting}
use Rattle.surf_cotree.proofs.Pairs.{none_there}
use Rattle.surf_cotree.proofs.Faces.{graph_is}
use Rattle.surf_cotree.proofs.Growing.{first_count, first_only, prim_begins, depth_fits, turn_count, turn_keeps}
use Rattle.surf_cotree.proofs.search.span.Given.{Over}
use Rattle.surf_cotree.proofs.search.span.Goals as goal
use Rattle.surf_cotree.proofs.search.span.Goals.{In-Some}

pub loop-face-init : goal.loop-face-init
loop-face-init gen c =
    let g = dual (cells_of c.args.network.now.mesh.now) in
    let fresh = c.fill.new.self in
    let some : 0 < face_count c.args.network.now.mesh.now = c.law_of_surface.ensures.surface.some_face in
    let few : g.edges ≤ nobody = omega (arith, c.law_of_surface.ensures.edges) in
    let free : (u : ℕ) → u < g.nodes → at fresh u ≡ nobody = λ u l. c.fill.ensures.clones u 0 (omega arith) refl in
    let long : g.nodes ≡ length fresh = omega arith in
    let lf : 0 < length fresh = omega arith in
    let lu : 0 < length c.args.up.now = omega arith in
    let zero_depth : at (set fresh 0 0) 0 ≡ 0 = get_or-set_same fresh 0 0 0 lf in
    let root_reached : reached (set fresh 0 0) 0 ≡ true = rw zero_depth in
    let shallow : at (set fresh 0 0) 0 + count_below g.nodes (λ v. eqb (at (set fresh 0 0) v) nobody) < g.nodes = rw zero_depth (let l = first_count g.nodes fresh some long free in omega arith) in
    record {
      places = c.offer_neighbours.ensures.offered.same_length ∙ (ap length c.clear.ensures.empty ∙ (length-replicate {A = Option (ℕ × ℕ)} (length c.args.heap.now) None ∙ c.requires.places));
      root = get_or-set_same c.args.up.now 0 nobody 0 lu;
      prim = prim_begins g (outside c.args.network.now.marks.now) (gen.W.Weights.weight c.args.weight.now) (graph_is c.args.network.now.mesh.now c.law_of_surface.ensures.surface) few (gen.met.W.Weights.light c.args.weight.now) (reached (set fresh 0 0)) (spanned_tree 0 c.args.parent.now (set c.args.up.now 0 nobody) (set fresh 0 0))
          c.clear.new.self c.offer_neighbours.new.heap _ some root_reached (first_only g.nodes fresh free) zero_depth shallow (none_there (length c.args.heap.now) c.clear.new.self c.clear.ensures.empty)
          c.offer_neighbours.ensures.offered;
    }

below_suc : (a b : ℕ) → b ≡ suc a → a < b
below_suc a b e = omega arith

abbrev waiting : (gen : Over) (c : In-Some gen) → IsWaiting (dual (cells_of c.args.network.now.mesh.now)) (outside c.args.network.now.marks.now) (gen.W.Weights.weight c.args.weight.now) (reached c.loop-face.depth) c.in-Some.face c.in-Some.field-0-1 c.in-Some.tie
waiting gen c = c.loop-face.invariant.prim.waiting c.in-Some.face c.in-Some.field-0-1 c.in-Some.tie c.in-Some.ensures.taken.0.holds

edge_is : (gen : Over) (c : In-Some gen) → nobody - c.in-Some.tie ≡ (waiting gen c).edge
edge_is gen c = let e = (waiting gen c).bridge.tie_is in omega arith

pub face_across-from-requires : goal.face_across-from-requires
face_across-from-requires gen c =
    let w = waiting gen (goal.at.face_across-from-requires gen c).In-Some in
    let e = edge_is gen (goal.at.face_across-from-requires gen c).In-Some in
    let l = w.bridge.edge_in in
    record { edge = omega arith }

from_is : (gen : Over) (c : In-Some gen) (a : ℕ) → ((x : ℕ) → joins (dual (cells_of c.args.network.now.mesh.now)) c.in-Some.face x (nobody - c.in-Some.tie) ≡ true → a ≡ x) → a ≡ (waiting gen c).before
from_is gen c a h = h (waiting gen c).before (subst (λ e. joins (dual (cells_of c.args.network.now.mesh.now)) c.in-Some.face (waiting gen c).before e ≡ true) (sym (edge_is gen c)) (waiting gen c).bridge.joined)

pub bounds-depth-from : goal.bounds-depth-from
bounds-depth-from gen c =
    let i = (goal.at.bounds-depth-from gen c).In-Some in
    let e = from_is gen i c.face_across-from.result c.face_across-from.ensures.across in
    let l = (waiting gen i).before_in in
    omega (arith, length-set {A = ℕ})

fits : (gen : Over) (c : In-Some gen) → at c.loop-face.depth (waiting gen c).before + 1 < face_count c.args.network.now.mesh.now
fits gen c =
    let g = dual (cells_of c.args.network.now.mesh.now) in
    let few : g.edges ≤ nobody = omega (arith, c.law_of_surface.ensures.edges) in
    let small : g.nodes ≤ nobody = omega (arith, c.law_of_surface.ensures.faces) in
    depth_fits g (outside c.args.network.now.marks.now) (gen.W.Weights.weight c.args.weight.now) (graph_is c.args.network.now.mesh.now c.law_of_surface.ensures.surface) few (gen.met.W.Weights.light c.args.weight.now) small 0 c.loop-face.parent c.loop-face.up c.loop-face.depth c.loop-face.heap c.in-Some.face c.in-Some.field-0-1 c.in-Some.tie
    (omega (arith, length-set {A = ℕ})) (omega (arith, length-set {A = ℕ})) (omega (arith, length-set {A = ℕ})) c.loop-face.invariant.prim c.in-Some.ensures.taken.0

pub overflow_add-depth : goal.overflow_add-depth
overflow_add-depth gen c =
    let i = (goal.at.overflow_add-depth gen c).In-Some in
    let e = from_is gen i c.face_across-from.result c.face_across-from.ensures.across in
    let small : face_count c.args.network.now.mesh.now ≤ nobody = omega (arith, c.law_of_surface.ensures.faces) in
    let f : at c.loop-face.depth c.face_across-from.result + 1 < face_count c.args.network.now.mesh.now = rw e (fits gen i) in
    omega arith

pub loop-face-smaller : goal.loop-face-smaller
loop-face-smaller gen c =
    let g = dual (cells_of c.args.network.now.mesh.now) in
    let i = (goal.at.loop-face-smaller gen c).In-Some in
    let few : g.edges ≤ nobody = omega (arith, c.law_of_surface.ensures.edges) in
    let small : g.nodes ≤ nobody = omega (arith, c.law_of_surface.ensures.faces) in
    let from : c.face_across-from.result ≡ (waiting gen i).before = from_is gen i c.face_across-from.result c.face_across-from.ensures.across in
    let d = at c.loop-face.depth c.face_across-from.result + 1 in
    let less : count_below g.nodes (λ v. eqb (at c.loop-face.depth v) nobody) ≡ suc (count_below g.nodes (λ v. eqb (at (set c.loop-face.depth c.in-Some.face d) v) nobody)) =
    turn_count g (outside c.args.network.now.marks.now) (gen.W.Weights.weight c.args.weight.now) (graph_is c.args.network.now.mesh.now c.law_of_surface.ensures.surface) few (gen.met.W.Weights.light c.args.weight.now) small 0 c.loop-face.parent c.loop-face.up c.loop-face.depth c.loop-face.heap c.in-Some.face c.in-Some.field-0-1 c.in-Some.tie
    (omega (arith, length-set {A = ℕ})) (omega (arith, length-set {A = ℕ})) (omega (arith, length-set {A = ℕ})) c.loop-face.invariant.prim c.in-Some.ensures.taken.0 d (ap (λ x. at c.loop-face.depth x + 1) from)
    in
    below_suc _ _ less

pub loop-face-preserved : goal.loop-face-preserved
loop-face-preserved gen c =
    let g = dual (cells_of c.args.network.now.mesh.now) in
    let i = (goal.at.loop-face-preserved gen c).In-Some in
    let few : g.edges ≤ nobody = omega (arith, c.law_of_surface.ensures.edges) in
    let small : g.nodes ≤ nobody = omega (arith, c.law_of_surface.ensures.faces) in
    let from : c.face_across-from.result ≡ (waiting gen i).before = from_is gen i c.face_across-from.result c.face_across-from.ensures.across in
    let prim = c.loop-face.invariant.prim in
    let apart : 0 ≢ c.in-Some.face = λ same. false≢true (sym (waiting gen i).free ∙ (ap (reached c.loop-face.depth) (sym same) ∙ prim.grown.root_reached)) in
    record {
      places = c.offer_neighbours-in-Some.ensures.offered.same_length ∙ (ap length c.in-Some.ensures.taken.1 ∙ (length-set c.loop-face.heap c.in-Some.face None ∙ c.loop-face.invariant.places));
      root = get_or-set_other c.loop-face.up c.in-Some.face 0 (nobody - c.in-Some.tie) 0 apart ∙ c.loop-face.invariant.root;
      prim = turn_keeps g (outside c.args.network.now.marks.now) (gen.W.Weights.weight c.args.weight.now) (graph_is c.args.network.now.mesh.now c.law_of_surface.ensures.surface) few (gen.met.W.Weights.light c.args.weight.now) small 0 c.loop-face.parent c.loop-face.up c.loop-face.depth c.loop-face.heap c.in-Some.face c.in-Some.field-0-1 c.in-Some.tie
          (omega (arith, length-set {A = ℕ})) (omega (arith, length-set {A = ℕ})) (omega (arith, length-set {A = ℕ})) prim c.in-Some.ensures.taken.0 c.face_across-from.result (nobody - c.in-Some.tie) (at c.loop-face.depth c.face_across-from.result + 1) c.take_least.new.self c.offer_neighbours-in-Some.new.heap
          from (edge_is gen i) refl c.in-Some.ensures.taken.1 c.offer_neighbours-in-Some.ensures.offered;
    }
