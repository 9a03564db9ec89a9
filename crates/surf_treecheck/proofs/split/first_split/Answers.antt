use Rattle.surf_treecheck.proofs.Common.{◌≡◌, ℕ, sym, ap, ◌∙◌, subst, pair, ends, IsLeastBadPair, lesser_of}
use Rattle.surf_treecheck.proofs.BadPairs.{stray_or_none, edge_or_stray, ends_ordered}
use Rattle.surf_treecheck.proofs.split.first_split.Goals as goal

pub returns-in-None : goal.returns-in-None
returns-in-None c =
    let m = c.args.marks.now in
    record {
      split = stray_or_none c.args.mesh.now c.args.rows.now c.args.dual.now c.args.left.now m.tree.items m.dual.items
          m.left.items c.requires.marks c.in-None.ensures.first c.first_stray-stray.result
          c.first_stray-stray.ensures.stray;
    }

pub returns-in-Some : goal.returns-in-Some
returns-in-Some c =
    let mesh = c.args.mesh.now in
    let m = c.args.marks.now in
    let e = c.in-Some.edge in
    let first = c.in-Some.ensures.first in
    let o = c.first_stray-stray.result in
    let same : pair c.ends_inside-u.result.0 c.ends_inside-u.result.1 ≡ ends mesh e =
    ap (λ (p : ℕ × ℕ). pair p.0 p.1) c.ends_inside-u.ensures.ends
    ∙ ends_ordered mesh e c.first_undivided.ensures.surface first.below in
    record {
      split = subst (IsLeastBadPair mesh c.args.rows.now c.args.dual.now c.args.left.now)
          (ap (λ p. lesser_of p o) (sym same) ∙ sym c.least_of.ensures.least)
          (edge_or_stray mesh c.args.rows.now c.args.dual.now c.args.left.now m.tree.items m.dual.items m.left.items
          c.requires.marks e first o c.first_stray-stray.ensures.stray);
    }
