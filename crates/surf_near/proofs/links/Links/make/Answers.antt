use Rattle.surf_near.proofs.Common.{◌≡◌, ◌<◌, ◌∙◌, ◌∷◌, ◌++◌, [], List, false, replicate, length, length-append, ap, subst, arith, inl, inr, sum_by, cases_eq, get_or_push, get_or_append_left, length-replicate, sum_by_push, cells_few, Link, AreGivenAt, barred_lengths, degree}
use Rattle.surf_near.proofs.Barring.{none_barred}
use Rattle.surf_near.proofs.RowCounts.{rows_before, rows_next}
use Rattle.surf_near.proofs.links.Links.make.Goals as goal

pub push-requires : goal.push-requires
push-requires c =
    let mesh = c.args.mesh.now in
    let surface = c.vertices-v-end.ensures.surface in
    let few = cells_few mesh surface c.vertices-v-end.ensures.few in
    let all = rows_before mesh c.loop-v.v mesh.vertices (omega (arith, c.loop-v-test.true, c.vertices-v-end.ensures.count)) in
    let total = c.loop-v.invariant.total in
    let row : length c.deref.result.now ≡ degree mesh c.loop-v.v = ap length c.deref.ensures.value ∙ c.in_ok-list_links.ensures.few ∙ ap (degree mesh) c.new.ensures in
    omega (arith, all, total, row, few.1)

pub loop-v-preserved : goal.loop-v-preserved
loop-v-preserved c =
    let mesh = c.args.mesh.now in
    let inv = c.loop-v.invariant in
    let row = c.list_links.new.row.items in
    let pushed : c.push.new.self ≡ c.loop-v.rows ++ row ∷ [] = c.in_ok-push.ensures.ok ∙ ap (λ (xs : List Link). c.loop-v.rows ++ xs ∷ []) c.deref.ensures.value in
    let size : length row ≡ degree mesh c.loop-v.v = c.in_ok-list_links.ensures.few ∙ ap (degree mesh) c.new.ensures in
    let more = sum_by_push {X = List Link} length c.loop-v.rows row in
    let here : AreGivenAt mesh c.args.lengths.now c.loop-v.v row = subst (λ v. AreGivenAt mesh c.args.lengths.now v row) c.new.ensures c.in_ok-list_links.ensures.links in
    record {
      count = omega (arith, ap length pushed, length-append c.loop-v.rows (row ∷ []), inv.count);
      total = omega (arith, ap (sum_by length) pushed, more, size, inv.total, rows_next mesh c.loop-v.v);
      at = λ u l. elim (cases_eq u c.loop-v.v) [
        | inl same ↦ rw (pushed, same, get_or_push c.loop-v.rows row [] c.loop-v.v inv.count) here
        | inr ne ↦
            let lu : u < c.loop-v.v = omega arith in
            rw (pushed, get_or_append_left c.loop-v.rows (row ∷ []) [] u (omega (arith, inv.count))) (inv.at u lu)
      ];
    }

pub invariant_of-result : goal.invariant_of-result
invariant_of-result c =
    let mesh = c.args.mesh.now in
    let inv = c.loop-v.invariant in
    let end : c.loop-v.v ≡ mesh.vertices = omega (arith, c.loop-v-test.false, c.vertices-v-end.ensures.count) in
    let is : c.in_ok-barred.barred.items ≡ replicate c.vertices-2.result false = c.in_ok-barred.ensures.items_if_clones_equal (λ y same. same) in
    let given : barred_lengths mesh c.in_ok-barred.barred.items c.args.lengths.now ≡ c.args.lengths.now = rw is (none_barred mesh c.args.lengths.now c.vertices-2.result) in
    record {
      links = record {
        surface = c.vertices-v-end.ensures.surface;
        few = c.vertices-v-end.ensures.few;
        are_lengths = c.even_length-even.ensures.lengths;
        as_many = c.requires.lengths;
        count = inv.count ∙ end;
        at = λ v l. inv.at v (omega (arith, end));
      };
      flags = ap length is ∙ length-replicate c.vertices-2.result false ∙ c.vertices-2.ensures.count;
      even_is = c.even_length-even.ensures.even;
      sizes_are = c.sizes_of-sizes.ensures.sizes;
      none = λ no. given;
    }

pub returns-clause-lengths : goal.returns-clause-lengths
returns-clause-lengths c =
    let is : c.in_ok-barred.barred.items ≡ replicate c.vertices-2.result false = c.in_ok-barred.ensures.items_if_clones_equal (λ y same. same) in
    rw is (none_barred c.args.mesh.now c.args.lengths.now c.vertices-2.result)
