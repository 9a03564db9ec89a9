use Rattle.surf_cotree.proofs.Common.{◌≡◌, ◌≢◌, ◌<◌, ◌&&◌, ◌∙◌, ℕ, List, Bool, not, eqb, false, filter, get_or, length, arith, ap, sym, subst, inl, inr, range_with_len, cases_eq, any_below, Graph, dual, edge_count, face_count, cells_of, with_items_is, with_items, surfaces_are_cells, nobody, at, CotreeTables, AreCotreeTables, outside, spanned_tree, is_unmarked, IsHeaviestTree, IsPeeledBy, IsHungBy}
use Rattle.surf_cotree.proofs.Hanging.{hung_first, hung_all}
use Rattle.surf_cotree.proofs.Tabled.{unmarked_join, grown_tables}
use Rattle.surf_cotree.proofs.desk.CotreeDesk.grow_by.Given.{Over}
use Rattle.surf_cotree.proofs.desk.CotreeDesk.grow_by.Goals as goal
use Rattle.surf_cotree.proofs.desk.CotreeDesk.grow_by.Goals.{After-deref_mut-9}

abbrev dual_of : (gen : Over) → After-deref_mut-9 gen → Graph
dual_of gen c = dual (cells_of c.args.mesh.now)

-- the tables that the hanging starts from
leaves_are : (gen : Over) (c : After-deref_mut-9 gen) → c.deref-2.result.now ≡ c.list_peeled-count.new.leaves
leaves_are gen c = c.deref-2.ensures.value ∙ with_items_is c.self.inside.leaves c.list_peeled-count.new.leaves (omega (arith, c.deref_mut-3.ensures.len))

depth_is : (gen : Over) (c : After-deref_mut-9 gen) → c.deref_mut-7.result.now ≡ c.span.new.depth
depth_is gen c = c.deref_mut-7.ensures.value ∙ with_items_is c.self.inside.depth c.span.new.depth (omega (arith, c.deref_mut-4.ensures.len))

parent_is : (gen : Over) (c : After-deref_mut-9 gen) → c.deref_mut-8.result.now ≡ c.span.new.parent
parent_is gen c = c.deref_mut-8.ensures.value ∙ with_items_is (with_items c.self.inside.parent c.list_peeled-count.new.bare) c.span.new.parent (omega (arith, c.deref_mut-5.ensures.len))

up_is : (gen : Over) (c : After-deref_mut-9 gen) → c.deref_mut-9.result.now ≡ c.span.new.up
up_is gen c = c.deref_mut-9.ensures.value ∙ with_items_is c.self.inside.up c.span.new.up (omega (arith, c.deref_mut-6.ensures.len))

peeled : (gen : Over) (c : After-deref_mut-9 gen) → IsPeeledBy (dual_of gen c) (outside c.args.in_tree.now) c.list_peeled-count.new.leaves c.list_peeled-count.result (outside c.deref.result.now)
peeled gen c =
    let begin : c.deref_mut.result.now ≡ c.args.in_tree.now = c.deref_mut.ensures.value ∙ c.copy_from_slice.ensures.items in
    let held : c.deref.result.now ≡ c.list_peeled-count.new.marks = c.deref.ensures.value ∙ with_items_is c.copy_from_slice.new.self c.list_peeled-count.new.marks (omega (arith, c.deref_mut.ensures.len)) in
    subst (λ (m : List Bool). IsPeeledBy (dual_of gen c) (outside m) c.list_peeled-count.new.leaves c.list_peeled-count.result (outside c.deref.result.now)) begin
    (subst (λ (m : List Bool). IsPeeledBy (dual_of gen c) (outside c.deref_mut.result.now) c.list_peeled-count.new.leaves c.list_peeled-count.result (outside m)) (sym held) c.list_peeled-count.ensures.peeled)

start : (gen : Over) (c : After-deref_mut-9 gen) → IsHungBy (dual_of gen c) (outside c.args.in_tree.now) (gen.W.Weights.weight c.args.weight.now) c.deref-2.result.now c.list_peeled-count.result c.deref_mut-8.result.now c.deref_mut-9.result.now c.deref_mut-7.result.now
start gen c =
    let p = peeled gen c in
    let as_many = p.as_many in
    let few = p.peeled.few in
    let hung : IsHungBy (dual_of gen c) (outside c.args.in_tree.now) (gen.W.Weights.weight c.args.weight.now) c.list_peeled-count.new.leaves c.list_peeled-count.result c.span.new.parent c.span.new.up c.span.new.depth = record {
      leaves = p.leaves;
      few = omega arith;
      by = p.by;
      hung = hung_first (dual_of gen c) (outside c.args.in_tree.now) (gen.W.Weights.weight c.args.weight.now) (gen.met.W.Weights.light c.args.weight.now) p.leaves c.list_peeled-count.result (outside c.deref.result.now) p.peeled c.span.new.parent c.span.new.up c.span.new.depth c.span.new.heap c.span.ensures.places c.span.ensures.empty c.span.ensures.root c.span.ensures.grown;
    } in
    subst (λ (x : List ℕ). IsHungBy (dual_of gen c) (outside c.args.in_tree.now) (gen.W.Weights.weight c.args.weight.now) x c.list_peeled-count.result c.deref_mut-8.result.now c.deref_mut-9.result.now c.deref_mut-7.result.now) (sym (leaves_are gen c))
    (subst (λ (x : List ℕ). IsHungBy (dual_of gen c) (outside c.args.in_tree.now) (gen.W.Weights.weight c.args.weight.now) c.list_peeled-count.new.leaves c.list_peeled-count.result x c.deref_mut-9.result.now c.deref_mut-7.result.now) (sym (parent_is gen c))
    (subst (λ (x : List ℕ). IsHungBy (dual_of gen c) (outside c.args.in_tree.now) (gen.W.Weights.weight c.args.weight.now) c.list_peeled-count.new.leaves c.list_peeled-count.result c.span.new.parent x c.deref_mut-7.result.now) (sym (up_is gen c))
    (subst (λ (x : List ℕ). IsHungBy (dual_of gen c) (outside c.args.in_tree.now) (gen.W.Weights.weight c.args.weight.now) c.list_peeled-count.new.leaves c.list_peeled-count.result c.span.new.parent c.span.new.up x) (sym (depth_is gen c)) hung)))

pub hang-requires-clause-some : goal.hang-requires-clause-some
hang-requires-clause-some gen c = (outside c.args.in_tree.now, gen.W.Weights.weight c.args.weight.now, start gen c)

-- the tables that it ends with
module _ (gen : Over) (c : After-deref_mut-9 gen) (parent up depth : List ℕ)
    (hung : (allowed : ℕ → Bool) (weight : ℕ → ℕ) → IsHungBy (dual (cells_of c.args.mesh.now)) allowed weight c.deref-2.result.now c.list_peeled-count.result c.deref_mut-8.result.now c.deref_mut-9.result.now c.deref_mut-7.result.now → IsHungBy (dual (cells_of c.args.mesh.now)) allowed weight c.deref-2.result.now 0 parent up depth) where
  end : IsHungBy (dual_of gen c) (outside c.args.in_tree.now) (gen.W.Weights.weight c.args.weight.now) c.deref-2.result.now 0 parent up depth
  end = hung (outside c.args.in_tree.now) (gen.W.Weights.weight c.args.weight.now) (start gen c)

  heavy : IsHeaviestTree (dual_of gen c) (outside c.args.in_tree.now) (gen.W.Weights.weight c.args.weight.now) (spanned_tree 0 parent up depth)
  heavy = hung_all (dual_of gen c) (outside c.args.in_tree.now) (gen.W.Weights.weight c.args.weight.now) (surfaces_are_cells c.args.mesh.now c.law_of_surface.ensures.surface).complex.dual_ends (omega (arith, c.law_of_surface.ensures.edges)) end.leaves parent up depth end.hung
      (unmarked_join c.args.mesh.now c.args.in_tree.now c.law_of_surface.ensures.surface c.requires.tree)

  root : at up 0 ≡ nobody
  root = end.hung.root

  ups_in : (f : ℕ) → f < face_count c.args.mesh.now → at up f ≢ nobody → at up f < edge_count c.args.mesh.now
  ups_in f l some = elim (cases_eq f 0) [
    | inl same ↦ absurd (some (ap (at up) same ∙ root))
    | inr ne ↦ heavy.tree.up_in f l ne
  ]

pub mark_edges-requires : goal.mark_edges-requires
mark_edges-requires gen c =
    let i = (goal.at.mark_edges-requires gen c).After-deref_mut-9 in
    let mesh = c.args.mesh.now in
    let here = subst (AreCotreeTables mesh) (sym c.self.view_is) c.requires.made in
    let up = c.hang.new.up in
    let up_is : c.deref-3.result.now ≡ up = c.deref-3.ensures.value ∙ with_items_is (with_items c.self.inside.up c.span.new.up) up (omega (arith, c.deref_mut-9.ensures.len)) in
    let wide : length c.deref_mut-10.result.now ≡ edge_count mesh = omega (arith, c.deref_mut-10.ensures.len, c.deref_mut.ensures.len, c.copy_from_slice.ensures.len, here.held) in
    let long : length up ≡ face_count mesh = omega (arith, c.deref_mut-9.ensures.len, c.deref_mut-6.ensures.len, here.ups) in
    record {
      ups = λ f l some.
          let lf : f < face_count mesh = let same = ap length up_is in omega (arith, same) in
          let inside = ups_in gen i c.hang.new.parent up c.hang.new.depth c.hang.ensures.hung f lf (subst (λ (x : List ℕ). at x f ≢ nobody) up_is some) in
          subst (λ (x : List ℕ). at x f < length c.deref_mut-10.result.now) (sym up_is) (omega (arith, inside));
    }

pub returns : goal.returns
returns gen c =
    let i = (goal.at.returns gen c).After-deref_mut-9 in
    let mesh = c.args.mesh.now in
    let d = c.self.inside in
    let made : AreCotreeTables mesh c.args.self.now = c.requires.made in
    let here = subst (AreCotreeTables mesh) (sym c.self.view_is) made in
    let marks = c.args.in_tree.now in
    let depth = c.hang.new.depth in
    let parent = c.hang.new.parent in
    let up = c.hang.new.up in
    let held = c.mark_edges.new.marks in
    let depth_is : (with_items (with_items d.depth c.span.new.depth) depth).items ≡ depth = with_items_is (with_items d.depth c.span.new.depth) depth (omega (arith, c.deref_mut-7.ensures.len)) in
    let parent_is : (with_items (with_items (with_items d.parent c.list_peeled-count.new.bare) c.span.new.parent) parent).items ≡ parent =
    with_items_is (with_items (with_items d.parent c.list_peeled-count.new.bare) c.span.new.parent) parent (omega (arith, c.deref_mut-8.ensures.len)) in
    let up_is : (with_items (with_items d.up c.span.new.up) up).items ≡ up = with_items_is (with_items d.up c.span.new.up) up (omega (arith, c.deref_mut-9.ensures.len)) in
    let held_is : (with_items (with_items c.copy_from_slice.new.self c.list_peeled-count.new.marks) held).items ≡ held = with_items_is (with_items c.copy_from_slice.new.self c.list_peeled-count.new.marks) held (omega (arith, c.deref_mut-10.ensures.len)) in
    let long : length up ≡ face_count mesh = omega (arith, c.deref_mut-9.ensures.len, c.deref_mut-6.ensures.len, here.ups) in
    let wide : length held ≡ edge_count mesh = omega (arith, c.deref_mut-10.ensures.len, c.deref_mut.ensures.len, c.copy_from_slice.ensures.len, here.held) in
    let marked : (e : ℕ) → e < edge_count mesh → get_or held e false ≡ any_below (face_count mesh) (λ v. not (eqb (at up v) nobody) && eqb (at up v) e) = λ e l.
    subst (λ n. get_or held e false ≡ any_below n (λ v. not (eqb (at up v) nobody) && eqb (at up v) e)) long
    (rw (c.deref-3.ensures.value, up_is) at (c.mark_edges.ensures.marks e (omega (arith, wide, l))))
    in
    let listed : c.list_left.new.left.items ≡ filter (is_unmarked marks held) (range_with_len 0 (edge_count mesh)) =
    subst (λ m. c.list_left.new.left.items ≡ filter (is_unmarked marks held) (range_with_len 0 m)) c.requires.marks (rw (c.deref-4.ensures.value, held_is) at c.list_left.ensures.listed)
    in
    let t : CotreeTables = record { held = held; left = c.list_left.new.left.items; parents = parent; ups = up; depths = depth; width = d.signs.width; signatures = d.signs.sets } in
    rw (depth_is, parent_is, up_is, held_is) (record {
      grown = grown_tables mesh marks (gen.W.Weights.weight c.args.weight.now) t (record {
        surface = c.law_of_surface.ensures.surface;
        few = omega (arith, c.law_of_surface.ensures.edges);
        made = record {
          held = wide;
          parents = omega (arith, c.deref_mut-8.ensures.len, c.deref_mut-5.ensures.len, c.deref_mut-2.ensures.len, here.parents);
          ups = long;
          depths = omega (arith, c.deref_mut-7.ensures.len, c.deref_mut-4.ensures.len, here.depths);
          width = here.width;
          signatures = here.signatures;
        };
        some_tree = c.requires.tree;
        heavy = heavy gen i parent up depth c.hang.ensures.hung;
        root = root gen i parent up depth c.hang.ensures.hung;
        marked = marked;
        listed = listed;
      });
    })
