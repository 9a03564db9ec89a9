-- Laws of chains.
use Rattle.surf_surfaces.specs.Joined.{Joined, here, over}

pub joined_trans : {X : Type 0} {R : X → X → Type 0} {a b c : X} → Joined R a b → Joined R b c → Joined R a c
joined_trans here q = q
joined_trans (over r p) q = over r (joined_trans p q)

pub joined_sym : {X : Type 0} {R : X → X → Type 0} {a b : X} → ((x y : X) → R x y → R y x) → Joined R a b → Joined R b a
joined_sym f here = here
joined_sym f (over {a = x} {b = y} r p) = joined_trans (joined_sym f p) (over (f x y r) here)

-- a chain of chains
pub joined_lift : {X : Type 0} {R S : X → X → Type 0} {a b : X} → ((x y : X) → R x y → Joined S x y) → Joined R a b →
    Joined S a b
joined_lift f here = here
joined_lift f (over {a = x} {b = y} r p) = joined_trans (f x y r) (joined_lift f p)

-- what holds at the start of a chain, and passes along each of its links, holds at its end
pub joined_closed : {X : Type 0} {R : X → X → Type 0} {a b : X} (P : X → Type 0) → ((x y : X) → R x y → P x → P y) →
    Joined R a b → P a → P b
joined_closed P pass here h = h
joined_closed P pass (over {a = x} {b = y} r p) h = joined_closed P pass p (pass x y r h)
