-- Evidence on small meshes, by which the definitions can be tried.
use Rattle.std.specs.Prelude.{ℕ, List, [], ◌∷◌}

-- on the torus of 3 by 3 squares, the edges of the odd evidence that is chosen for the walk 0 1 2 0
abbrev pub torus_pairs : List (ℕ × ℕ)
torus_pairs = (1, 2) ∷ (2, 5) ∷ (2, 7) ∷ (3, 5) ∷ (4, 8) ∷ (5, 6) ∷ (5, 8) ∷ (7, 8) ∷ []
