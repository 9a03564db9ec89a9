use Rattle.surf_answers.proofs.Common.{◌<◌, sym, subst, some_vertex}
use Rattle.surf_loops.specs.Loops.{IsGreedy}
use Rattle.surf_walking.proofs.ChosenLaws.{desk_chosen}
use Rattle.surf_walking.proofs.desk.chosen_desk.Goals as goal

pub greedy-requires-clause-base : goal.greedy-requires-clause-base
greedy-requires-clause-base c =
    subst (λ n. n < c.args.mesh.now.vertices) (sym c.new.ensures) (some_vertex c.args.mesh.now c.law_of_surface.ensures.surface)

pub returns : goal.returns
returns c = record {
  chosen = desk_chosen c.args.mesh.now c.args.lengths.now c.greedy.new.self
      (subst (λ n. IsGreedy c.args.mesh.now c.args.lengths.now n c.greedy.new.self) c.new.ensures c.greedy.ensures.greedy);
}
