use Rattle.std.proofs.Common.{◌≡◌, ◌<◌, ◌≤◌, ◌*◌, ℕ, List, length, slice_index, sym, ap, ◌∙◌, subst, arith}
use Rattle.surf_tree.specs.Searches.{far}
use Rattle.surf_cover.proofs.Grown.{coverable, grown, reaches_all}
use Rattle.surf_cover.proofs.desk.CoverDesk.grow.Goals as goal

pub grow_within-requires-clause-coverable : goal.grow_within-requires-clause-coverable
grow_within-requires-clause-coverable c =
    let t = c.sign.new.self in
    let made = c.sign.ensures.made in
    coverable c.args.mesh.now c.args.cotree.now c.requires.signed t.sets made.sets t.signs made.signs
    (λ e l. c.sign.ensures.signs e (omega (arith, l, made.signs)))
    c.law_of_surface.ensures.surface c.args.lengths.now c.requires.lengths c.sign.ensures.few

pub returns : goal.returns
returns c =
    let mesh = c.args.mesh.now in
    let lengths = c.args.lengths.now in
    let cotree = c.args.cotree.now in
    let t = c.grow_within.new.self in
    let made = c.grow_within.ensures.made in
    let surface = c.law_of_surface.ensures.surface in
    let are = c.law_of_lengths.ensures.lengths in
    let copied : (e : ℕ) → e < length t.signs → slice_index t.signs e ≡ slice_index cotree.signatures e =
    λ e l. ap (λ (xs : List ℕ). slice_index xs e) c.grow_within.ensures.signs
    ∙ c.sign.ensures.signs e (omega (arith, l, made.signs)) in
    let few : mesh.vertices * t.sets ≤ 16777216 =
    subst (λ n. mesh.vertices * n ≤ 16777216) (c.sign.ensures.made.sets ∙ sym made.sets) c.sign.ensures.few in
    let can = coverable mesh cotree c.requires.signed t.sets made.sets t.signs made.signs copied surface lengths c.requires.lengths few in
    let all = reaches_all mesh lengths t.sets t.signs can are c.args.base far c.requires.base (omega arith)
    (slice_index t.distances) c.grow_within.ensures.reached.reached in
    record {
      grown = grown mesh cotree c.requires.signed t.sets made.sets t.signs made.signs copied surface few lengths
          c.requires.lengths are c.args.base c.requires.base t.vertices made.vertices t.distances t.settled all.0;
    }
