use Rattle.std.proofs.Common.{sym, subst}
use Rattle.surf_tree.specs.Tables.{tree_of}
use Rattle.surf_cotree.specs.Grown.{IsMarked}
use Rattle.surf_cotree.specs.Tables.{CotreeTables}
use Rattle.surf_cutter.specs.Opened.{IsHeld}
use Rattle.surf_cutter.proofs.Chosen.{grown_is_held}
use Rattle.surf_loop_cases.proofs.openings.open_at.Goals as goal

pub open_along-requires-clause-held : goal.open_along-requires-clause-held
open_along-requires-clause-held c =
    let mesh = c.args.mesh.now in
    let t = c.in_ok-desk.desk in
    let greedy = c.in_ok-desk.ensures in
    let marked : IsMarked mesh (tree_of t.tree) t.tree.flags = record { spans = greedy.rooted.spans; marks_are = greedy.tree.flags } in
    subst (λ (x : CotreeTables). IsHeld mesh x.held) (sym c.cotree.ensures.cotree) (grown_is_held t.tree.flags greedy.weight (tree_of t.tree) t.cotree marked greedy.cotree)
