use Rattle.surf_cotree.proofs.Common.{◌≡◌, ◌<◌, ◌∷◌, ℕ, List, reverse, sym, ap, ◌∙◌, subst, refl, arith, walk_signature, split_with}
use Rattle.surf_cover.proofs.Common.{set_count, walk_set, distance_at}
use Rattle.surf_classes.proofs.ChosenWalks.{null_choice_is_vertex}
use Rattle.surf_surfaces.proofs.classes.SignatureLaws.{null_by_signature}
use Rattle.surf_cover.proofs.Grown.{positive}
use Rattle.surf_cover.proofs.Signed.{sets_are}
use Rattle.surf_cover.proofs.Starts.{chosen_at}
use Rattle.surf_cover.proofs.choice.least_in_class.Goals as goal

pub returns-then-set-eq0 : goal.returns-then-set-eq0
returns-then-set-eq0 c =
    let mesh = c.args.mesh.now in
    let walk = c.args.walk.now in
    let t = c.args.cotree.now in
    let surface = c.law_of_surface.ensures.surface in
    let g = c.requires.signed.grown in
    let d = split_with g.tree t in
    let none : walk_signature mesh d walk ≡ 0 =
    ap (walk_signature mesh d) (sym c.vertices.ensures) ∙ sym (c.walk_sign-set.ensures.sum g.tree g.split) ∙ c.if-set-eq0.true in
    let chosen = null_choice_is_vertex mesh c.args.lengths.now walk surface
    (positive mesh c.args.lengths.now c.requires.lengths c.law_of_lengths.ensures.lengths) c.requires.closed
    ((null_by_signature mesh d surface g.split walk c.requires.closed).1 none) in
    record {
      least = rw c.in_ok-walk.ensures.alone (record { chosen = chosen; length_is = refl });
    }

pub least_start-start-requires-clause-set : goal.least_start-start-requires-clause-set
least_start-start-requires-clause-set c =
    let mesh = c.args.mesh.now in
    let walk = c.args.walk.now in
    let t = c.args.cotree.now in
    let g = c.requires.signed.grown in
    let d = split_with g.tree t in
    let own : c.walk_sign-set.result ≡ walk_signature mesh d walk =
    c.walk_sign-set.ensures.sum g.tree g.split ∙ ap (walk_signature mesh d) c.vertices.ensures in
    let inside : walk_signature mesh d walk < set_count d = walk_set mesh d walk c.law_of_surface.ensures.surface c.requires.closed in
    let same = sets_are mesh t c.requires.signed g.tree g.split in
    omega (arith, own, inside, same)

pub round-requires-clause-certified : goal.round-requires-clause-certified
round-requires-clause-certified c =
    let g = c.requires.signed.grown in
    (split_with g.tree c.args.cotree.now, (c.grow.ensures.grown.grown g.tree g.split).certified)

pub round-requires-clause-set : goal.round-requires-clause-set
round-requires-clause-set c =
    let mesh = c.args.mesh.now in
    let walk = c.args.walk.now in
    let t = c.args.cotree.now in
    let g = c.requires.signed.grown in
    let d = split_with g.tree t in
    let own : c.walk_sign-set.result ≡ walk_signature mesh d walk =
    c.walk_sign-set.ensures.sum g.tree g.split ∙ ap (walk_signature mesh d) c.vertices.ensures in
    let inside : walk_signature mesh d walk < set_count d = walk_set mesh d walk c.law_of_surface.ensures.surface c.requires.closed in
    let same = sets_are mesh t c.requires.signed g.tree g.split in
    omega (arith, own, inside, same, c.grow.ensures.grown.made.sets)

pub returns : goal.returns
returns c =
    let mesh = c.args.mesh.now in
    let lengths = c.args.lengths.now in
    let walk = c.args.walk.now in
    let t = c.args.cotree.now in
    let set = c.walk_sign-set.result in
    let surface = c.law_of_surface.ensures.surface in
    let g = c.requires.signed.grown in
    let d = split_with g.tree t in
    let start = c.least_start-start.result in
    let own : walk_signature mesh d walk ≡ set =
    ap (walk_signature mesh d) (sym c.vertices.ensures) ∙ sym (c.walk_sign-set.ensures.sum g.tree g.split) in
    let inside : set < set_count d = subst (λ s. s < set_count d) own (walk_set mesh d walk surface c.requires.closed) in
    let there = c.grow.ensures.grown.grown g.tree g.split in
    let (before, items, read) = c.in_ok-list.ensures.read d there.certified in
    let chosen = chosen_at mesh lengths d surface (positive mesh lengths c.requires.lengths c.law_of_lengths.ensures.lengths) g.split set inside
    start (c.least_start-start.ensures.least g.tree g.split) walk c.requires.closed own
    (distance_at c.grow.new.self) there.distances before read in
    let is : c.from_vertices-walk.result ≡ reverse (start.vertex ∷ before) =
    c.from_vertices-walk.ensures ∙ c.reverse.ensures.items ∙ ap (λ (xs : List ℕ). reverse xs) items in
    record { least = rw is (record { chosen = chosen.0; length_is = chosen.1 }) }
