use Rattle.surf_cert.proofs.Common.{◌≡◌, ℕ, List, Result, Ok, ◌++◌, length, refl, ap, ◌∙◌, flat_map, codes, err_from_is_err_and, PageState, Puts, puts_more, puts_stop, DualRows, BasisCert, cert_head_text, tree_text, dual_text, left_text, cycles_text, basis_text}
use Rattle.surf_text.specs.declared.page.PageFault.{PageFault}
use Rattle.surf_cert.proofs.Reread.{basis_again}
use Rattle.surf_cert.proofs.write.write_basis_cert.Goals as goal
use Rattle.surf_cert.proofs.write.write_basis_cert.Goals.{After-write_head, After-write_trees, After-write_dual}

-- the texts of the head, the trees, the dual tree, the left edges and the cycles
abbrev texts : BasisCert → List ℕ × List ℕ × List ℕ × List ℕ × List ℕ
texts cert = (cert_head_text (codes "basis") (length cert.trees) (length cert.dual.depth) (length cert.left), flat_map tree_text cert.trees, dual_text cert.dual, left_text cert.left, cycles_text cert.cycles)

headed : (c : After-write_head) → Puts c.args.page.now c.write_head.new.page (texts c.args.cert.now).0 c.write_head.result
headed c =
    let depth = c.depth-faces.ensures.depth ∙ ap (λ (d : DualRows). d.depth) c.dual.ensures.dual in
    rw (← c.trees-vertices.ensures.trees, ← depth, ← c.left.ensures.left) c.write_head.ensures.puts

-- what is put behind the head, the trees and the dual tree
module _ {A : Type 0} (p : PageState) (r : Result A PageFault) where
  behind_head : (c : After-write_head) (x : Unit {0}) → c.write_head.result ≡ Ok x → (let t = texts c.args.cert.now in Puts c.write_head.new.page p (t.1 ++ (t.2 ++ (t.3 ++ t.4))) r) → Puts c.args.page.now p (basis_text c.args.cert.now) r
  behind_head c x ok = let t = texts c.args.cert.now in puts_more c.args.page.now c.write_head.new.page p t.0 (t.1 ++ (t.2 ++ (t.3 ++ t.4))) c.write_head.result x r ok (headed c)

  behind_trees : (c : After-write_trees) (x : Unit {0}) → c.write_trees.result ≡ Ok x → (let t = texts c.args.cert.now in Puts c.write_trees.new.page p (t.2 ++ (t.3 ++ t.4)) r → Puts c.write_head.new.page p (t.1 ++ (t.2 ++ (t.3 ++ t.4))) r)
  behind_trees c x ok = let t = texts c.args.cert.now in puts_more c.write_head.new.page c.write_trees.new.page p t.1 (t.2 ++ (t.3 ++ t.4)) c.write_trees.result x r ok (rw (← c.trees.ensures.trees) c.write_trees.ensures.puts)

  behind_dual : (c : After-write_dual) (x : Unit {0}) → c.write_dual.result ≡ Ok x → (let t = texts c.args.cert.now in Puts c.write_dual.new.page p (t.3 ++ t.4) r → Puts c.write_trees.new.page p (t.2 ++ (t.3 ++ t.4)) r)
  behind_dual c x ok = let t = texts c.args.cert.now in puts_more c.write_trees.new.page c.write_dual.new.page p t.2 (t.3 ++ t.4) c.write_dual.result x r ok (rw (← c.dual-2.ensures.dual) c.write_dual.ensures.puts)

pub returns-in_err-write_head : goal.returns-in_err-write_head
returns-in_err-write_head c =
    let h = (goal.at.returns-in_err-write_head c).After-write_head in
    let t = texts c.args.cert.now in
    let r = c.from_residual.result in
    let e = err_from_is_err_and r c.from_residual.ensures.1 in
    record { reread = basis_again c.args.cert.now c.requires.fits; puts = puts_stop c.args.page.now c.write_head.new.page t.0 (t.1 ++ (t.2 ++ (t.3 ++ t.4))) c.write_head.result _ r c.in_err-write_head.was (rw (e.1, e.2) refl) (headed h) }

pub returns-in_err-write_trees : goal.returns-in_err-write_trees
returns-in_err-write_trees c =
    let at = goal.at.returns-in_err-write_trees c in
    let t = texts c.args.cert.now in
    let p = c.write_trees.new.page in
    let r = c.from_residual-in_err-write_trees.result in
    let e = err_from_is_err_and r c.from_residual-in_err-write_trees.ensures.1 in
    let stops = puts_stop c.write_head.new.page p t.1 (t.2 ++ (t.3 ++ t.4)) c.write_trees.result _ r c.in_err-write_trees.was (rw (e.1, e.2) refl) (rw (← c.trees.ensures.trees) c.write_trees.ensures.puts) in
    record { reread = basis_again c.args.cert.now c.requires.fits; puts = behind_head p r at.After-write_head _ c.in_ok-write_head.was stops }

pub returns-in_err-write_dual : goal.returns-in_err-write_dual
returns-in_err-write_dual c =
    let at = goal.at.returns-in_err-write_dual c in
    let t = texts c.args.cert.now in
    let p = c.write_dual.new.page in
    let r = c.from_residual-in_err-write_dual.result in
    let e = err_from_is_err_and r c.from_residual-in_err-write_dual.ensures.1 in
    let stops = puts_stop c.write_trees.new.page p t.2 (t.3 ++ t.4) c.write_dual.result _ r c.in_err-write_dual.was (rw (e.1, e.2) refl) (rw (← c.dual-2.ensures.dual) c.write_dual.ensures.puts) in
    record { reread = basis_again c.args.cert.now c.requires.fits; puts = behind_head p r at.After-write_head _ c.in_ok-write_head.was (behind_trees p r at.After-write_trees _ c.in_ok-write_trees.was stops) }

pub returns-in_err-write_left : goal.returns-in_err-write_left
returns-in_err-write_left c =
    let at = goal.at.returns-in_err-write_left c in
    let t = texts c.args.cert.now in
    let p = c.write_left.new.page in
    let r = c.from_residual-in_err-write_left.result in
    let e = err_from_is_err_and r c.from_residual-in_err-write_left.ensures.1 in
    let stops = puts_stop c.write_dual.new.page p t.3 t.4 c.write_left.result _ r c.in_err-write_left.was (rw (e.1, e.2) refl) (rw (← c.left-2.ensures.left) c.write_left.ensures.puts) in
    record { reread = basis_again c.args.cert.now c.requires.fits; puts = behind_head p r at.After-write_head _ c.in_ok-write_head.was (behind_trees p r at.After-write_trees _ c.in_ok-write_trees.was (behind_dual p r at.After-write_dual _ c.in_ok-write_dual.was stops)) }

pub returns : goal.returns
returns c =
    let at = goal.at.returns c in
    let t = texts c.args.cert.now in
    let p = c.write_cycles.new.page in
    let r = c.write_cycles.result in
    let last = puts_more c.write_dual.new.page c.write_left.new.page p t.3 t.4 c.write_left.result _ r c.in_ok-write_left.was (rw (← c.left-2.ensures.left) c.write_left.ensures.puts) (rw (← c.cycles.ensures.cycles) c.write_cycles.ensures.puts) in
    record { reread = basis_again c.args.cert.now c.requires.fits; puts = behind_head p r at.After-write_head _ c.in_ok-write_head.was (behind_trees p r at.After-write_trees _ c.in_ok-write_trees.was (behind_dual p r at.After-write_dual _ c.in_ok-write_dual.was last)) }
