use Rattle.surf_surfaces.proofs.Common.{rules, ◌≡◌, ◌<◌, ◌+◌, ◌^◌, ◌++◌, ◌∷◌, [], length, ap, sym, subst, ◌∙◌, length-append, walk_length}
use Rattle.surf_base.specs.Tables.{at}
use Rattle.surf_sheetcheck.specs.Parts.{size_at}
use Rattle.surf_sheetcheck.proofs.Steps.{all_new}
use Rattle.surf_sheetcheck.proofs.walks.walk_sizes.Goals as goal

pub loop-place-preserved : goal.loop-place-preserved
loop-place-preserved c =
    let old = c.loop-place.sizes.items in
    let n = c.loop-place.place in
    let x = c.length_of.result in
    let inv = c.loop-place.invariant in
    let items : c.push.new.self.items ≡ old ++ x ∷ [] = search rules in
    let is : x ≡ size_at c.args.mesh.now c.args.lengths.now c.args.cert.now n =
    c.length_of.ensures.length ∙ ap (walk_length c.args.mesh.now c.args.lengths.now) c.cycle_from.ensures.cycle in
    let count : length c.push.new.self.items ≡ n + 1 =
    ap length items ∙ length-append old (x ∷ []) ∙ ap (λ m. m + 1) inv.count in
    record {
      count = count;
      each = λ k l. ap (λ ys. at ys k) items
          ∙ all_new (λ j y. y ≡ size_at c.args.mesh.now c.args.lengths.now c.args.cert.now j) old n x inv.count inv.each is k l;
      small = λ k l. subst (λ ys. at ys k < 2 ^ 96) (sym items)
          (all_new (λ j y. y < 2 ^ 96) old n x inv.count inv.small c.length_of.ensures.small k l);
    }
