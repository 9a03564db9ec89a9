use Rattle.std.proofs.Common.{ℕ, ◌∙◌, ◌++◌, ◌∷◌, List, sym, ap, append-nil, slice_index}
use Rattle.surf_graphs.specs.Loops.{way_up}
use Rattle.surf_tree.specs.Tables.{tree_of}
use Rattle.surf_graphs.proofs.Turned.{way_goes_on}
use Rattle.surf_loops.proofs.Turned.{up_one, up_end}
use Rattle.surf_loops.proofs.ways.push_way.Goals as goal

pub loop-parent-preserved : goal.loop-parent-preserved
loop-parent-preserved c =
    let t = c.args.tree.now in
    let at = c.loop-parent.at in
    let below = up_one c.args.mesh.now t at c.in-Some.parent c.requires.rooted c.loop-parent.invariant.within (sym c.parent.ensures.parent ∙ c.in-Some.is) in
    record {
      within = below.within;
      way = way_goes_on c.loop-parent.list.items c.push-in-Some.new.self.items (way_up (tree_of t) (slice_index t.distances c.in-Some.parent) c.in-Some.parent)
          (c.args.list.now.items ++ c.args.from ∷ way_up (tree_of t) (slice_index t.distances c.args.from) c.args.from) c.in-Some.parent c.in_ok-push-2.ensures.items
          (ap (λ (xs : List ℕ). c.loop-parent.list.items ++ xs) (sym below.way) ∙ c.loop-parent.invariant.way);
    }

pub returns : goal.returns
returns c =
    let t = c.args.tree.now in
    let at = c.loop-parent.at in
    let ends = up_end c.args.mesh.now t at c.requires.rooted c.loop-parent.invariant.within (sym c.parent.ensures.parent ∙ c.in_default.is) in
    record { way = sym (append-nil c.loop-parent.list.items) ∙ ap (λ (xs : List ℕ). c.loop-parent.list.items ++ xs) (sym ends) ∙ c.loop-parent.invariant.way }
