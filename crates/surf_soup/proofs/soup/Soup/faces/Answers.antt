use Rattle.std.proofs.Common.{arith}
use Rattle.surf_soup.proofs.SideTables.{three_each}
use Rattle.surf_soup.proofs.soup.Soup.faces.Goals as goal

pub overflow_cast-result : goal.overflow_cast-result
overflow_cast-result c = omega (arith, three_each c.self.inside.vertices c.self.inside.faces c.self.invariant.is_mesh)

pub returns-clause-few : goal.returns-clause-few
returns-clause-few c = omega (arith, three_each c.self.inside.vertices c.self.inside.faces c.self.invariant.is_mesh)
