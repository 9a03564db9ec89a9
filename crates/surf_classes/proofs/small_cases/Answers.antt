use Rattle.surf_classes.proofs.Examples.{torus_odd, torus_null, pillow_null, pillow_empty}
use Rattle.surf_classes.proofs.small_cases.Goals as goal

pub returns : goal.returns
returns c = record {
  torus_odd = torus_odd;
  torus_null = torus_null;
  pillow_null = pillow_null;
  pillow_empty = pillow_empty;
}
