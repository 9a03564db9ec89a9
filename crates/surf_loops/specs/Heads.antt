-- Loops by their edges.
use Rattle.std.specs.Prelude.{ℕ, ◌+◌, ◌*◌, ◌^◌}
use Rattle.surf_loops.specs.declared.head.LoopHead.{LoopHead}

-- an edge with its length
abbrev pub head_of : (ℕ → ℕ) → ℕ → LoopHead
head_of weight e = record { edge = e; length = weight e }

-- a number that is greater for a longer loop, and for a greater edge number where two are as long
abbrev pub order_of : LoopHead → ℕ
order_of h = h.length * 2 ^ 32 + h.edge
