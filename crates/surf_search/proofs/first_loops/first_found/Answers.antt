use Rattle.surf_search.proofs.Common.{◌<◌, List, ℕ, refl, sym, ◌∙◌, subst, take_all, shortest_trees, SurfaceTables, IsFirstAmong, IsFirstAt}
use Rattle.surf_search.proofs.FirstFound.{first_begun, first_next}
use Rattle.surf_search.proofs.first_loops.first_found.Goals as goal

pub loop-v-init : goal.loop-v-init
loop-v-init c = record {
  same = refl;
  first = first_begun c.args.finder.now.mesh c.args.finder.now.lengths c.args.finder.now.signs c.args.vertices.now;
}

pub first_loop-requires : goal.first_loop-requires
first_loop-requires c = record {
  base = subst (λ (f : SurfaceTables). c.v-item.result < f.mesh.vertices) (sym c.loop-v.invariant.same)
      (subst (λ v. v < c.args.finder.now.mesh.vertices) (sym c.v-item.is) (c.requires.inside c.loop-v.v-index c.v-item.result c.loop-v-test.true));
}

pub loop-v-preserved : goal.loop-v-preserved
loop-v-preserved c =
    let f = c.args.finder.now in
    let surface = c.requires.positive.0 in
    let positive = c.requires.positive.1 in
    let z = c.v-item.result in
    let next = c.in_ok-next.next in
    let z_in : z < f.mesh.vertices =
    subst (λ v. v < f.mesh.vertices) (sym c.v-item.is) (c.requires.inside c.loop-v.v-index z c.loop-v-test.true) in
    let there : IsFirstAt f c.loop-v.first z next =
    subst (λ (g : SurfaceTables). IsFirstAt g c.loop-v.first z next) c.loop-v.invariant.same c.in_ok-next.ensures.first in
    record {
      same = c.first_loop.ensures.same ∙ c.loop-v.invariant.same;
      first = λ trees chosen d split are.
          first_next f.mesh f.lengths (λ x. (trees x).tree) surface positive (shortest_trees f.mesh f.lengths surface positive trees chosen) d split
          c.args.vertices.now c.loop-v.v-index z c.loop-v.first next there.found z_in c.loop-v-test.true (sym c.v-item.is)
          (c.loop-v.invariant.first trees chosen d split are) (there.are trees chosen d are) there.is_first;
    }

pub returns : goal.returns
returns c =
    let f = c.args.finder.now in
    record {
      first = subst (λ (xs : List ℕ). IsFirstAmong f.mesh f.lengths f.signs xs c.loop-v.first) (take_all c.loop-v.v-index c.args.vertices.now c.loop-v-test.false)
          c.loop-v.invariant.first;
    }
