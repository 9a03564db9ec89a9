use Rattle.surf_cotree.proofs.Common.{◌≡◌, ◌≢◌, ◌<◌, ◌≤◌, ◌+◌, ◌*◌, ℕ, List, length, slice_index, subst, sym, ap, ◌∙◌, arith, row_fits, edge_count, none-some, split_with}
use Rattle.surf_cover.proofs.Common.{far, node_of, distance_at, IsSet, IsLesserEnd}
use Rattle.surf_cover.proofs.Signed.{sets_are}
use Rattle.surf_cover.proofs.Grown.{positive, signed_by, coverable, reaches_all}
use Rattle.surf_cover.proofs.Distances.{signed_within}
use Rattle.surf_cover.proofs.Best.{IsBestBelow, closed_sets, passed_over, takes_in, some_best, least_of_all}
use Rattle.surf_cover.proofs.rounds.least_start.Goals as goal
use Rattle.surf_cover.proofs.rounds.least_start.Goals.{then-is_lesser_end, else-is_lesser_end}

pub grow_within-requires-clause-coverable : goal.grow_within-requires-clause-coverable
grow_within-requires-clause-coverable c =
    let t = c.loop-v.desk in
    let i = c.loop-v.invariant in
    coverable c.args.mesh.now c.args.cotree.now c.requires.signed t.sets i.made.sets t.signs i.made.signs
    (λ e l. i.signs e (omega (arith, l, i.made.signs))) c.law_of_surface.ensures.surface c.args.lengths.now c.requires.lengths i.few

pub start_by-found-requires-clause-closed : goal.start_by-found-requires-clause-closed
start_by-found-requires-clause-closed c =
    let mesh = c.args.mesh.now in
    let cotree = c.args.cotree.now in
    let g = c.requires.signed.grown in
    let t = c.grow_within.new.self in
    let made = c.grow_within.ensures.made in
    closed_sets mesh (split_with g.tree cotree) t
    (signed_by mesh cotree c.requires.signed t.sets made.sets t.signs made.signs
    (λ e l. ap (λ (xs : List ℕ). slice_index xs e) c.grow_within.ensures.signs
    ∙ c.loop-v.invariant.signs e (omega (arith, l, made.signs))) g.tree g.split)

pub start_by-found-requires-clause-listed : goal.start_by-found-requires-clause-listed
start_by-found-requires-clause-listed c = c.grow_within.ensures.reached.listed

pub start_by-found-requires-clause-nodes : goal.start_by-found-requires-clause-nodes
start_by-found-requires-clause-nodes c =
    let t = c.grow_within.new.self in
    c.grow_within.ensures.reached.nodes ∙ ap (λ n. n * t.sets) (sym c.grow_within.ensures.made.vertices)

pub start_by-found-requires-clause-none : goal.start_by-found-requires-clause-none
start_by-found-requires-clause-none c = c.grow_within.ensures.reached.reached.at_base

pub loop-v-preserved : goal.loop-v-preserved
loop-v-preserved c =
    let mesh = c.args.mesh.now in
    let lengths = c.args.lengths.now in
    let t = c.args.cotree.now in
    let set = c.args.set in
    let number = c.least_number-number.result in
    let v = c.loop-v.v in
    let base = c.new-base.result in
    let at : base ≡ v = c.new-base.ensures in
    let surface = c.law_of_surface.ensures.surface in
    let are = c.law_of_lengths.ensures.lengths in
    let base_in : base < mesh.vertices = omega (arith, at, c.loop-v-test.true, c.vertices-v-end.ensures.count) in
    let so_far = c.loop-v.invariant in
    elim c.if-is_lesser_end.branch [
      | then-is_lesser_end b ↦
          let desk = b.grow_within.new.self in
          let made = b.grow_within.ensures.made in
          let reached = b.grow_within.ensures.reached.reached in
          let radius = b.length_so_far.result in
          let signs : (e : ℕ) → e < edge_count mesh → slice_index desk.signs e ≡ slice_index t.signatures e =
          λ e l. ap (λ (xs : List ℕ). slice_index xs e) b.grow_within.ensures.signs ∙ so_far.signs e l in
          let copied : (e : ℕ) → e < length desk.signs → slice_index desk.signs e ≡ slice_index t.signatures e =
          λ e l. signs e (omega (arith, l, made.signs)) in
          let few : mesh.vertices * desk.sets ≤ 16777216 =
          subst (λ n. mesh.vertices * n ≤ 16777216) (so_far.made.sets ∙ sym made.sets) so_far.few in
          let can = coverable mesh t c.requires.signed desk.sets made.sets desk.signs made.signs copied surface
          lengths c.requires.lengths few in
          let set_below : set < desk.sets = omega (arith, c.requires.set, made.sets) in
          let fits : base * desk.sets + desk.sets ≤ mesh.vertices * desk.sets =
          row_fits base desk.sets mesh.vertices desk.sets base_in (omega arith) in
          let all : radius ≡ far → distance_at desk base set ≢ far = λ e.
          (reaches_all mesh lengths desk.sets desk.signs can are base radius base_in (omega (arith, e))
          (slice_index desk.distances) reached).1 (node_of desk.sets base set) (omega (arith, fits, set_below)) in
          rw (b.desk-is, b.best-is) (record {
            made = made;
            few = few;
            signs = signs;
            best = λ tree split.
                let d = split_with tree t in
                let set_in : IsSet d set =
                subst (λ n. set < n) (sets_are mesh t c.requires.signed tree split) c.requires.set in
                let signed = signed_by mesh t c.requires.signed desk.sets made.sets desk.signs made.signs copied tree split in
                let positive = positive mesh lengths c.requires.lengths are in
                let near = signed_within mesh lengths d desk.sets desk.signs signed surface positive few base radius base_in
                (slice_index desk.distances) reached in
                subst (λ n. IsBestBelow mesh lengths d t.signatures set number (n + 1) b.improved-best.result) at
                (takes_in mesh lengths d surface positive split t.signatures number base set radius base_in set_in desk
                signed near made.vertices all c.loop-v.best b.start_by-found.result b.improved-best.result
                (subst (λ n. IsBestBelow mesh lengths d t.signatures set number n c.loop-v.best) (sym at) (so_far.best tree split))
                b.length_so_far.ensures.length b.start_by-found.ensures.start b.improved-best.ensures.none b.improved-best.ensures.some);
          })
      | else-is_lesser_end b ↦
          rw (b.desk-is, b.best-is) (record {
            made = so_far.made;
            few = so_far.few;
            signs = so_far.signs;
            best = λ tree split.
                passed_over mesh lengths (split_with tree t) t.signatures set number v c.loop-v.best (so_far.best tree split)
                (subst (λ x. IsLesserEnd mesh t.signatures number x → ⊥) at b.if-is_lesser_end.ensures.end);
          })
    ]

pub unreachable-requires : goal.unreachable-requires
unreachable-requires c =
    let mesh = c.args.mesh.now in
    let t = c.args.cotree.now in
    let g = c.requires.signed.grown in
    let d = split_with g.tree t in
    let all : c.loop-v.v ≡ mesh.vertices =
    omega (arith, c.loop-v-test.false, c.loop-v.auto.v-end, c.vertices-v-end.ensures.count) in
    let set = c.args.set in
    let number = c.least_number-number.result in
    let set_in : IsSet d set = subst (λ n. set < n) (sets_are mesh t c.requires.signed g.tree g.split) c.requires.set in
    let (start, is) =
    some_best mesh c.args.lengths.now c.law_of_surface.ensures.surface t c.requires.signed g.tree g.split
    set number c.least_number-number.ensures.has c.loop-v.best
    (subst (λ n. IsBestBelow mesh c.args.lengths.now d t.signatures set number n c.loop-v.best) all
    (c.loop-v.invariant.best g.tree g.split)) set_in in
    none-some start (sym c.in-None.is ∙ is)

pub returns-clause-least : goal.returns-clause-least
returns-clause-least c =
    let mesh = c.args.mesh.now in
    let t = c.args.cotree.now in
    let all : c.loop-v.v ≡ mesh.vertices =
    omega (arith, c.loop-v-test.false, c.loop-v.auto.v-end, c.vertices-v-end.ensures.count) in
    let set = c.args.set in
    let number = c.least_number-number.result in
    λ tree split.
    let d = split_with tree t in
    least_of_all mesh c.args.lengths.now c.law_of_surface.ensures.surface t c.requires.signed tree split
    set number c.least_number-number.ensures.has c.loop-v.best
    (subst (λ n. IsBestBelow mesh c.args.lengths.now d t.signatures set number n c.loop-v.best) all
    (c.loop-v.invariant.best tree split)) c.in-Some.start c.in-Some.is
