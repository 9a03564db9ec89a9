use Rattle.surf_basis.proofs.Common.{tree_of, ◌≡◌, ◌<◌, ℕ, length, refl, sym, ap, ◌∙◌, subst, arith, true, false, slice_set, slice_index_or, length-set, is_marked}
use Rattle.surf_basis.proofs.OnCut.{IsClimbing, GoesOn, steps_left, climb_begun, climb_more, climb_done, climb_falls, goes_up, goes_no_more}
use Rattle.surf_basis.proofs.cut.mark_way.Goals as goal

pub loop-marked-init : goal.loop-marked-init
loop-marked-init c = record {
  count = refl;
  climbing = climb_begun (length c.args.marked.now) (tree_of c.args.tree.now) c.args.from (is_marked c.args.marked.now) c.requires.vertex c.requires.parents;
}

pub bounds-marked-index : goal.bounds-marked-index
bounds-marked-index c = omega (arith, c.index.ensures, c.loop-marked.invariant.climbing.at_in, c.loop-marked.invariant.count)

pub bounds-marked-index-in-loop-marked : goal.bounds-marked-index-in-loop-marked
bounds-marked-index-in-loop-marked c =
    omega (arith, c.index-in-loop-marked.ensures, c.loop-marked.invariant.climbing.at_in, c.loop-marked.invariant.count)

pub parent-requires : goal.parent-requires
parent-requires c =
    let (mesh, rooted, size) = c.requires.rooted in
    record { vertex = omega (arith, rooted.made.parents, size, c.loop-marked.invariant.climbing.at_in) }

-- the way goes on at the parent
up : (c : goal.In-Some) → GoesOn (length c.args.marked.now) (tree_of c.args.tree.now) c.loop-marked.at c.in-Some.parent
up c =
    let (mesh, rooted, size) = c.requires.rooted in
    subst (λ (n : ℕ). GoesOn n (tree_of c.args.tree.now) c.loop-marked.at c.in-Some.parent) (sym size)
    (goes_up mesh c.args.tree.now c.loop-marked.at c.in-Some.parent rooted (omega (arith, c.loop-marked.invariant.climbing.at_in, size))
    (sym c.parent.ensures.parent ∙ c.in-Some.is))

pub loop-marked-smaller-in-Some : goal.loop-marked-smaller-in-Some
loop-marked-smaller-in-Some c =
    let (mesh, rooted, size) = c.requires.rooted in
    let t = tree_of c.args.tree.now in
    let at = c.loop-marked.at in
    let marked = c.loop-marked.marked in
    let at_in : at < length marked = omega (arith, c.loop-marked.invariant.climbing.at_in, c.loop-marked.invariant.count) in
    let off : is_marked marked at ≡ false = ap (λ (n : ℕ). slice_index_or marked n false) (sym c.index.ensures) ∙ c.loop-marked-test.true in
    subst (λ (n : ℕ). steps_left t (slice_set marked n true) c.in-Some.parent < steps_left t marked at) (sym c.index-in-loop-marked.ensures)
    (climb_falls (length c.args.marked.now) t at c.in-Some.parent marked at_in off
    (λ ne. rooted.spans.rank_falls at (omega (arith, c.loop-marked.invariant.climbing.at_in, size)) ne) (up c))

pub loop-marked-preserved-in-Some : goal.loop-marked-preserved-in-Some
loop-marked-preserved-in-Some c =
    let t = tree_of c.args.tree.now in
    let marked = c.loop-marked.marked in
    let old = is_marked c.args.marked.now in
    let count = length c.args.marked.now in
    record {
      count = length-set marked c.index-in-loop-marked.result true ∙ c.loop-marked.invariant.count;
      climbing = subst (λ (n : ℕ). IsClimbing count t c.args.from c.in-Some.parent old (is_marked (slice_set marked n true)))
          (sym c.index-in-loop-marked.ensures)
          (climb_more count t c.args.from c.loop-marked.at c.in-Some.parent old marked c.loop-marked.invariant.count c.loop-marked.invariant.climbing (up c));
    }

-- and at the root it stays
pub loop-marked-smaller : goal.loop-marked-smaller
loop-marked-smaller c =
    let (mesh, rooted, size) = c.requires.rooted in
    let t = tree_of c.args.tree.now in
    let at = c.loop-marked.at in
    let marked = c.loop-marked.marked in
    let at_in : at < length marked = omega (arith, c.loop-marked.invariant.climbing.at_in, c.loop-marked.invariant.count) in
    let off : is_marked marked at ≡ false = ap (λ (n : ℕ). slice_index_or marked n false) (sym c.index.ensures) ∙ c.loop-marked-test.true in
    let inside : at < mesh.vertices = omega (arith, c.loop-marked.invariant.climbing.at_in, size) in
    let stay = subst (λ (n : ℕ). GoesOn n t at at) (sym size) (goes_no_more mesh c.args.tree.now at rooted inside (sym c.parent.ensures.parent ∙ c.in_default.is)) in
    subst (λ (n : ℕ). steps_left t (slice_set marked n true) at < steps_left t marked at) (sym c.index-in-loop-marked.ensures)
    (climb_falls (length c.args.marked.now) t at at marked at_in off (λ ne. rooted.spans.rank_falls at inside ne) stay)

pub loop-marked-preserved : goal.loop-marked-preserved
loop-marked-preserved c =
    let (mesh, rooted, size) = c.requires.rooted in
    let t = tree_of c.args.tree.now in
    let at = c.loop-marked.at in
    let marked = c.loop-marked.marked in
    let old = is_marked c.args.marked.now in
    let count = length c.args.marked.now in
    let inside : at < mesh.vertices = omega (arith, c.loop-marked.invariant.climbing.at_in, size) in
    let stay = subst (λ (n : ℕ). GoesOn n t at at) (sym size) (goes_no_more mesh c.args.tree.now at rooted inside (sym c.parent.ensures.parent ∙ c.in_default.is)) in
    record {
      count = length-set marked c.index-in-loop-marked.result true ∙ c.loop-marked.invariant.count;
      climbing = subst (λ (n : ℕ). IsClimbing count t c.args.from at old (is_marked (slice_set marked n true)))
          (sym c.index-in-loop-marked.ensures)
          (climb_more count t c.args.from at at old marked c.loop-marked.invariant.count c.loop-marked.invariant.climbing stay);
    }

pub returns-clause-way : goal.returns-clause-way
returns-clause-way c =
    climb_done (length c.args.marked.now) (tree_of c.args.tree.now) c.args.from c.loop-marked.at (is_marked c.args.marked.now) (is_marked c.loop-marked.marked)
    c.loop-marked.invariant.climbing (ap (λ (n : ℕ). slice_index_or c.loop-marked.marked n false) (sym c.index.ensures) ∙ c.loop-marked-test.false)
