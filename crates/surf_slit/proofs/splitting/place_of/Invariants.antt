-- proofs/splitting/place_of/Invariants.antt
use Rattle.std.proofs.Common.{◌≡◌, ℕ, ◌<◌, get_or}
use Rattle.surf_slit.proofs.splitting.place_of.Given as goal

abbrev pub invariant-loop-k : goal.invariant-loop-k
invariant-loop-k l = (j : ℕ) → j < l.k → get_or l.edges j 0 ≡ l.e → ⊥
