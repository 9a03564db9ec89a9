-- Places around a vertex, and which of them hang together.
use Rattle.std.specs.Prelude.{ℕ, ◌==◌, Bool, if◌then◌else◌}
use Rattle.surf_z2.specs.Parity.{count_below}

-- The run of a place: how many cuts are before it, counted from 0 again after the last one.
abbrev pub run_of : ℕ → (ℕ → Bool) → ℕ → ℕ
run_of n cut k = if count_below k cut == count_below n cut then 0 else count_below k cut
