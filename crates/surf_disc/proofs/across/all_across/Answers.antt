use Rattle.surf_surfaces.proofs.Common.{rules, ◌≡◌, ◌<◌, ◌+◌, ℕ, List, [], ◌∷◌, ◌++◌, get_or, sym, subst, ap, ◌∙◌, arith, side_count}
use Rattle.surf_disc.specs.Across.{AreAcrossUpTo, IsAcross, other_of}
use Rattle.surf_disc.proofs.AcrossLaws.{row_read, row_has, row_across, across_more}
use Rattle.surf_disc.proofs.across.all_across.Goals as goal

pub other_side-requires : goal.other_side-requires
other_side-requires c =
    let mesh = c.args.tabled.now.soup.now in
    let s = c.loop-s.s in
    let lt : s < side_count mesh = omega (arith, c.loop-s-test.true, c.side_count-count.ensures.count) in
    let table = c.args.tabled.now.table.now in
    let edge = c.index-edge.result.now in
    let at : edge ≡ get_or table.edge_of.items s edge = c.index-edge.ensures
    ∙ ap (λ i. get_or table.edge_of.items i edge) (c.index.ensures ∙ c.new-side.ensures) in
    let of_edge : c.row-row.result.now ≡ get_or table.sides edge [] = c.row-row.ensures
    ∙ ap (λ i. get_or table.sides i []) c.index-in-loop-s.ensures in
    record {
      some = row_has mesh s c.row-row.result.now
          (row_read mesh c.law_of_soup.ensures.mesh _ _ _ _ _ c.args.tabled.now.is_table c.requires.few s lt
          edge c.row-row.result.now at of_edge) lt;
    }

pub loop-s-preserved : goal.loop-s-preserved
loop-s-preserved c =
    let mesh = c.args.tabled.now.soup.now in
    let s = c.loop-s.s in
    let row = c.row-row.result.now in
    let lt : s < side_count mesh = omega (arith, c.loop-s-test.true, c.side_count-count.ensures.count) in
    let table = c.args.tabled.now.table.now in
    let edge = c.index-edge.result.now in
    let at : edge ≡ get_or table.edge_of.items s edge = c.index-edge.ensures
    ∙ ap (λ i. get_or table.edge_of.items i edge) (c.index.ensures ∙ c.new-side.ensures) in
    let of_edge : row ≡ get_or table.sides edge [] = c.row-row.ensures
    ∙ ap (λ i. get_or table.sides i []) c.index-in-loop-s.ensures in
    let own = row_read mesh c.law_of_soup.ensures.mesh _ _ _ _ _ c.args.tabled.now.is_table c.requires.few s lt
    edge row at of_edge in
    let is = row_across mesh s row own lt in
    let items : c.push.new.self.items ≡ c.loop-s.across.items ++ c.other_side.result ∷ [] = search rules in
    let same : c.other_side.result ≡ other_of row s = c.other_side.ensures.other ∙ ap (other_of row) c.new-side.ensures in
    let P : ℕ → Type 0 = λ t. IsAcross mesh s t in
    let Q : List ℕ → Type 0 = λ xs. AreAcrossUpTo mesh (s + 1) xs in
    subst Q (sym items) (across_more mesh s c.other_side.result c.loop-s.across.items c.loop-s.invariant
    (subst P (sym same) is))
