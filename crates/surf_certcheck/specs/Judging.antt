-- What left edges are judged by.
use Rattle.std.specs.Prelude.{ℕ}
use Rattle.surf_certcheck.specs.Least.{IsShort}
use Rattle.surf_certcheck.specs.declared.heavier.Judge.{Judge}

-- an edge whose loop is shorter than the limit
abbrev pub IsShortFor : Judge → ℕ → ℕ → Type 0
IsShortFor judge limit e = IsShort judge.mesh.now judge.lengths.now judge.cert.now.tree limit e
