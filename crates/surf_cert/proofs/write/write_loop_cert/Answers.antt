use Rattle.surf_cert.proofs.Common.{ℕ, List, ◌++◌, length, refl, ap, ◌∙◌, codes, err_from_is_err_and, Puts, puts_more, puts_stop, TreeRows, DualRows, LoopCert, cert_head_text, tree_text, dual_text, left_text}
use Rattle.surf_cert.proofs.Reread.{loops_again}
use Rattle.surf_cert.proofs.write.write_loop_cert.Goals as goal
use Rattle.surf_cert.proofs.write.write_loop_cert.Goals.{After-write_head}

-- the texts of the head, the tree, the dual tree and the left edges
abbrev texts : LoopCert → List ℕ × List ℕ × List ℕ × List ℕ
texts cert = (cert_head_text (codes "loops") (length cert.tree.distance) (length cert.dual.depth) (length cert.left), tree_text cert.tree, dual_text cert.dual, left_text cert.left)

headed : (c : After-write_head) → Puts c.args.page.now c.write_head.new.page (texts c.args.cert.now).0 c.write_head.result
headed c =
    let distance = c.distance-vertices.ensures.distance ∙ ap (λ (t : TreeRows). t.distance) c.tree.ensures.tree in
    let depth = c.depth-faces.ensures.depth ∙ ap (λ (d : DualRows). d.depth) c.dual.ensures.dual in
    rw (← distance, ← depth, ← c.left.ensures.left) c.write_head.ensures.puts

pub returns-in_err-write_head : goal.returns-in_err-write_head
returns-in_err-write_head c =
    let t = texts c.args.cert.now in
    let r = c.from_residual.result in
    let e = err_from_is_err_and r c.from_residual.ensures.1 in
    record { reread = loops_again c.args.cert.now c.requires.fits; puts = puts_stop c.args.page.now c.write_head.new.page t.0 (t.1 ++ (t.2 ++ t.3)) c.write_head.result _ r c.in_err-write_head.was (rw (e.1, e.2) refl) (headed (goal.at.returns-in_err-write_head c).After-write_head) }

pub returns-in_err-write_tree : goal.returns-in_err-write_tree
returns-in_err-write_tree c =
    let t = texts c.args.cert.now in
    let p = c.write_tree.new.page in
    let r = c.from_residual-in_err-write_tree.result in
    let e = err_from_is_err_and r c.from_residual-in_err-write_tree.ensures.1 in
    let stops = puts_stop c.write_head.new.page p t.1 (t.2 ++ t.3) c.write_tree.result _ r c.in_err-write_tree.was (rw (e.1, e.2) refl) (rw (← c.tree-2.ensures.tree) c.write_tree.ensures.puts) in
    record { reread = loops_again c.args.cert.now c.requires.fits; puts = puts_more c.args.page.now c.write_head.new.page p t.0 (t.1 ++ (t.2 ++ t.3)) c.write_head.result _ r c.in_ok-write_head.was (headed (goal.at.returns-in_err-write_tree c).After-write_head) stops }

pub returns-in_err-write_dual : goal.returns-in_err-write_dual
returns-in_err-write_dual c =
    let t = texts c.args.cert.now in
    let p = c.write_dual.new.page in
    let r = c.from_residual-in_err-write_dual.result in
    let e = err_from_is_err_and r c.from_residual-in_err-write_dual.ensures.1 in
    let stops = puts_stop c.write_tree.new.page p t.2 t.3 c.write_dual.result _ r c.in_err-write_dual.was (rw (e.1, e.2) refl) (rw (← c.dual-2.ensures.dual) c.write_dual.ensures.puts) in
    let more = puts_more c.write_head.new.page c.write_tree.new.page p t.1 (t.2 ++ t.3) c.write_tree.result _ r c.in_ok-write_tree.was (rw (← c.tree-2.ensures.tree) c.write_tree.ensures.puts) stops in
    record { reread = loops_again c.args.cert.now c.requires.fits; puts = puts_more c.args.page.now c.write_head.new.page p t.0 (t.1 ++ (t.2 ++ t.3)) c.write_head.result _ r c.in_ok-write_head.was (headed (goal.at.returns-in_err-write_dual c).After-write_head) more }

pub returns : goal.returns
returns c =
    let t = texts c.args.cert.now in
    let p = c.write_left.new.page in
    let r = c.write_left.result in
    let last = puts_more c.write_tree.new.page c.write_dual.new.page p t.2 t.3 c.write_dual.result _ r c.in_ok-write_dual.was (rw (← c.dual-2.ensures.dual) c.write_dual.ensures.puts) (rw (← c.left-2.ensures.left) c.write_left.ensures.puts) in
    let more = puts_more c.write_head.new.page c.write_tree.new.page p t.1 (t.2 ++ t.3) c.write_tree.result _ r c.in_ok-write_tree.was (rw (← c.tree-2.ensures.tree) c.write_tree.ensures.puts) last in
    record { reread = loops_again c.args.cert.now c.requires.fits; puts = puts_more c.args.page.now c.write_head.new.page p t.0 (t.1 ++ (t.2 ++ t.3)) c.write_head.result _ r c.in_ok-write_head.was (headed (goal.at.returns c).After-write_head) more }
