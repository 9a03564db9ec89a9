use Rattle.surf_cotree.proofs.Common.{◌≡◌, ℕ, ◌<◌, ◌*◌, ◌/◌, ◌%◌, List, ◌∷◌, slice_index, Split}
use Rattle.surf_cover.proofs.Common.{IsReadTo, IsCertifiedBy, table_of}
use Rattle.surf_cover.proofs.reading.read_off.Given as goal

abbrev pub invariant-loop-node : goal.invariant-loop-node
invariant-loop-node l = record {
  last : l.last ≡ l.fn.base * l.network.sets;
  inside : l.node < l.network.mesh.now.vertices * l.network.sets;
  read : (d : Split) → IsCertifiedBy l.network.mesh.now l.network.lengths.now d l.network.sets l.network.signs.now l.distance l.fn.base →
      (before : List ℕ) × (l.list.items ≡ l.fn.base ∷ before)
      × IsReadTo l.network.mesh.now l.network.lengths.now d (table_of l.network.sets l.distance) l.fn.base l.fn.set before
      (l.node / l.network.sets) (l.node % l.network.sets);
}

abbrev pub decreases-loop-node : goal.decreases-loop-node
decreases-loop-node l = slice_index l.distance l.node
