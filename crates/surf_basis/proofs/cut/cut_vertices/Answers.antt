use Rattle.surf_basis.proofs.Common.{TreeTables, tree_of, HasEnds, IsLeastSet, ◌≡◌, ℕ, Bool, List, false, replicate, ◌∙◌, ap, subst, arith, IsTrue, is_marked, written_back, none_marked}
use Rattle.std.proofs.lemmas.Result.{IfOk-weaker}
use Rattle.surf_basis.proofs.Ended.{each_listed, marks_listed}
use Rattle.surf_basis.proofs.OnCut.{cut_listed}
use Rattle.surf_basis.proofs.cut.cut_vertices.Goals as goal

pub returns-clause-cut : goal.returns-clause-cut
returns-clause-cut c =
    let mesh = c.args.mesh.now in
    let t = c.args.desk.now in
    let n = c.vertices.result in
    let marked = c.mark_ways.new.marked in
    let old = c.deref_mut.result.now in
    let fresh : old ≡ replicate n false = c.deref_mut.ensures.value ∙ c.in_ok-marked.ensures.items_if_clones_equal (λ y same. same) in
    let same = c.deref.ensures.value ∙ written_back marked _ c.in_ok-marked.marked.len (omega (arith, c.mark_ways.ensures.count, c.deref_mut.ensures.len)) in
    let left : c.left.result.now ≡ t.cotree.left = c.left.ensures.left ∙ ap (λ x. x.left) c.cotree.ensures.cotree in
    let ways : IsLeastSet mesh.vertices (tree_of t.tree) (HasEnds mesh t.cotree.left) (is_marked old) (is_marked marked) =
    subst (λ (xs : List ℕ). IsLeastSet mesh.vertices (tree_of t.tree) (HasEnds mesh xs) (is_marked old) (is_marked marked)) left
    (subst (λ (x : TreeTables). IsLeastSet mesh.vertices (tree_of x) (HasEnds mesh c.left.result.now) (is_marked old) (is_marked marked))
    c.tree.ensures.tree c.mark_ways.ensures.ways) in
    IfOk-weaker c.list_marked.result _ _ (λ list h. cut_listed mesh t c.requires.divided (is_marked old) marked list.items
    (λ v on. none_marked n v (subst (λ (ms : List Bool). IsTrue (is_marked ms v)) fresh on)) ways
    (each_listed (λ v. IsTrue (is_marked marked v)) marked c.deref.result.now list.items same h (λ v on. on))
    (marks_listed marked c.deref.result.now list.items same h)) c.list_marked.ensures.marked
