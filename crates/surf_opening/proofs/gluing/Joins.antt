-- Chains.
use Rattle.surf_surfaces.specs.Joined.{Joined, here, over}
use Rattle.surf_surfaces.proofs.meshes.JoinedLaws.{joined_trans}

pub joined_map : {X Y : Type 0} {R : X → X → Type 0} {S : Y → Y → Type 0} (f : X → Y) {a b : X} →
    ((x y : X) → R x y → Joined S (f x) (f y)) → Joined R a b → Joined S (f a) (f b)
joined_map f step here = here
joined_map f step (over r rest) = joined_trans (step _ _ r) (joined_map f step rest)
