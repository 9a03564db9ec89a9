-- What each of a list gives.
use Rattle.std.specs.Prelude.{List, [], ◌∷◌, Result, Ok}
use Rattle.surf_base.specs.Gives.{◌>>=◌}
use Rattle.surf_geom.specs.declared.fault.GeomFault.{GeomFault}

-- what each of a list gives, or the first fault
unfoldable pub each : {A B : Type 0} → (A → Result B GeomFault) → List A → Result (List B) GeomFault
each f [] = Ok []
each f (x ∷ xs) = f x >>= λ y. each f xs >>= λ ys. Ok (y ∷ ys)
