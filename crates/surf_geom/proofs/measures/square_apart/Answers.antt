use Rattle.std.proofs.Common.{◌≡◌, ◌∙◌, rules}
use Rattle.std.specs.Prelude.{◌-ℤ◌, unsigned_abs, FitsSigned}
use Rattle.std.specs.Int.{w64}
use Rattle.std.proofs.lemmas.Int.{to_z-of_z}
use Rattle.surf_geom.proofs.Near.{square_small}
use Rattle.surf_geom.proofs.measures.square_apart.Goals as goal

pub returns-clause-small : goal.returns-clause-small
returns-clause-small c =
    let a = c.args.a in
    let b = c.args.b in
    let fits : FitsSigned w64 a = search rules in
    let also : FitsSigned w64 b = search rules in
    let is : c.abs_diff.result ≡ unsigned_abs (a -ℤ b) = simp to_z-of_z at c.abs_diff.ensures in
    let d : c.from-difference.result ≡ unsigned_abs (a -ℤ b) = c.from-difference.ensures ∙ is in
    rw d (square_small a b c.requires.near c.requires.other)
