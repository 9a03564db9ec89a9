use Rattle.surf_cotree.proofs.Common.{◌≡◌, drop, bit_xor, All, Contains, IsSplit, Tree, cells_of, edges, pair_of, steps, walk_signature, split_with}
use Rattle.surf_cover.proofs.signs.walk_sign.Given as goal

-- with the steps that are still to come
abbrev pub invariant-loop-i : goal.invariant-loop-i
invariant-loop-i l = record {
  along : All (λ s. Contains (edges l.mesh) (pair_of s)) (steps (drop l.i l.walk));
  sum : (tree : Tree) → IsSplit (cells_of l.mesh) (split_with tree l.cotree) →
      bit_xor l.sum (walk_signature l.mesh (split_with tree l.cotree) (drop l.i l.walk))
      ≡ walk_signature l.mesh (split_with tree l.cotree) l.walk;
}
