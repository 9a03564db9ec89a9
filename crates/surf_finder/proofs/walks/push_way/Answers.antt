use Rattle.surf_finder.proofs.Common.{◌≡◌, ◌≢◌, ◌∷◌, ◌++◌, List, ℕ, refl, sym, ap, ◌∙◌, arith, append-nil, nat_tests, way_up, way_goes_on}
use Rattle.surf_finder.proofs.Walked.{IsUp, up_near, up_done}
use Rattle.surf_finder.proofs.Told.{links_positive}
use Rattle.surf_finder.proofs.walks.push_way.Goals as goal

pub loop-at-init : goal.loop-at-init
loop-at-init c = record {
  within = c.requires.vertex;
  near = c.requires.near;
  way = λ tree short.
      way_goes_on c.args.list.now.items c.push.new.self.items (way_up tree (tree.rank c.args.from) c.args.from)
      (c.args.list.now.items ++ c.args.from ∷ way_up tree (tree.rank c.args.from) c.args.from) c.args.from c.in_ok-push.ensures.items refl;
}

pub parent-at-requires : goal.parent-at-requires
parent-at-requires c = record { vertex = omega (arith, c.loop-at.invariant.within, c.requires.reached.near.made.parents) }

step : (c : goal.In_ok-push-2) →
    IsUp c.args.mesh.now c.args.links.now.lengths c.args.desk.now.base c.args.desk.now c.loop-at.at c.parent-at.result
step c =
    let mesh = c.args.mesh.now in
    let lengths = c.args.links.now.lengths in
    let positive = links_positive mesh c.args.links.now.mesh lengths c.args.links.now.rows c.requires.links c.law_of_links.ensures.links in
    let ne : c.loop-at.at ≢ c.args.desk.now.base = λ e. grind (arith, nat_tests, c.loop-at-test.true, c.base.ensures.base, e) in
    up_near mesh lengths c.law_of_surface.ensures.surface positive c.args.desk.now.base c.requires.base c.requires.reached.far c.args.desk.now
    c.requires.reached.near c.loop-at.at c.parent-at.result c.loop-at.invariant.within c.loop-at.invariant.near ne c.parent-at.ensures.parent

pub loop-at-smaller : goal.loop-at-smaller
loop-at-smaller c = (step c).nearer

pub loop-at-preserved : goal.loop-at-preserved
loop-at-preserved c =
    let up = step c in
    record {
      within = up.within;
      near = up.near;
      way = λ tree short.
          way_goes_on c.loop-at.list.items c.push-in-loop-at.new.self.items (way_up tree (tree.rank c.parent-at.result) c.parent-at.result)
          (c.args.list.now.items ++ c.args.from ∷ way_up tree (tree.rank c.args.from) c.args.from) c.parent-at.result c.in_ok-push-2.ensures.items
          (ap (λ (xs : List ℕ). c.loop-at.list.items ++ xs) (sym (up.way tree short)) ∙ c.loop-at.invariant.way tree short);
    }

pub returns : goal.returns
returns c =
    let mesh = c.args.mesh.now in
    let lengths = c.args.links.now.lengths in
    let positive = links_positive mesh c.args.links.now.mesh lengths c.args.links.now.rows c.requires.links c.law_of_links.ensures.links in
    let done : c.loop-at.at ≡ c.args.desk.now.base = grind (arith, nat_tests, c.loop-at-test.false, c.base.ensures.base) in
    record {
      way = λ tree short.
          sym (append-nil c.loop-at.list.items)
          ∙ ap (λ (xs : List ℕ). c.loop-at.list.items ++ xs)
          (sym (up_done mesh lengths c.law_of_surface.ensures.surface positive c.args.desk.now.base c.requires.base c.loop-at.at done tree short))
          ∙ c.loop-at.invariant.way tree short;
    }
