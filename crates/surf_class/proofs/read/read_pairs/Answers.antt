use Rattle.surf_surfaces.proofs.Common.{sym, ap, ◌∙◌, pair_lt}
use Rattle.surf_class.specs.Evidences.{is_rising, is_ordered}
use Rattle.surf_class.proofs.Increasing.{pairs_increase, pairs_ordered}
use Rattle.surf_class.proofs.read.read_pairs.Goals as goal

pub from_pairs-requires-clause-rises : goal.from_pairs-requires-clause-rises
from_pairs-requires-clause-rises c =
    pairs_increase c.in_ok-pairs.pairs.items
    (ap (is_rising pair_lt) (sym c.deref-else-not-are_ordered.ensures.value) ∙ sym c.if-not-pairs_rise.ensures.rising)

pub from_pairs-requires-clause-ordered : goal.from_pairs-requires-clause-ordered
from_pairs-requires-clause-ordered c =
    pairs_ordered c.in_ok-pairs.pairs.items (ap is_ordered (sym c.deref.ensures.value) ∙ sym c.if-not-are_ordered.ensures.ordered)
