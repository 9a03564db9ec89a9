-- The edges that are found without tables are those of tables.
use Rattle.surf_cotree.proofs.Common.{ℕ, ◌<◌, ◌≤◌, ◌≡◌, ◌≢◌, refl, sym, ap, ◌∙◌, subst, arith, List, length, filter, replicate, Bool, true, false, not, ◌&&◌, ◌||◌, range_with_len, false≢true, Graph, dual, Mesh, edge_count, face_count, IsSurface, loop_count, cells_of, length-replicate, passing_same, nobody, at, CotreeTables, width_for, heaviest, flag, outside, is_unmarked, spanned_tree, IsHeaviestTree, left_after, IsPeeledTo, leads_up, AreMarked, HasMarking, MarkTree, HasGrown}
use Rattle.surf_cotree.proofs.Faces.{graph_is}
use Rattle.surf_cotree.proofs.Growing.{Connects}
use Rattle.surf_cotree.proofs.Hanging.{hung_first, hung_all}
use Rattle.surf_cotree.proofs.Marks.{up_found}
use Rattle.surf_cotree.proofs.MarkedHanging.{AreHungAll, hung_all_marked}
use Rattle.surf_cotree.proofs.Tabled.{unmarked_join, grown_tables}

-- an edge is held where it is marked and not in the other tree
held_up : (b u m h : Bool) → h ≡ (m && not b) → m ≡ (not (not b) || u) → (u ≡ true → not b ≡ true) → h ≡ u
held_up true true m h is marked out = absurd (false≢true (out refl))
held_up true false m h is marked out = is ∙ none m
  where
    none : (m : Bool) → (m && false) ≡ false
    none true = refl
    none false = refl
held_up false u m h is marked out = is ∙ (all m ∙ marked)
  where
    all : (m : Bool) → (m && true) ≡ m
    all true = refl
    all false = refl

neither : (b u m h : Bool) → m ≡ (not (not b) || u) → h ≡ u → not m ≡ (not b && not h)
neither true u m h marked is = ap not marked
neither false u m h marked is = ap not (marked ∙ sym is)

module _ (mesh : Mesh) (in_tree : List Bool) (weight : ℕ → ℕ) (surface : IsSurface mesh) (few : edge_count mesh ≤ nobody) (small : face_count mesh ≤ nobody) (light : (e : ℕ) → weight e ≤ heaviest) (tree : MarkTree mesh in_tree)
    (peeled marks : List Bool) (p : IsPeeledTo (dual (cells_of mesh)) (outside in_tree) (outside peeled)) (m : HasMarking (dual (cells_of mesh)) (outside peeled) weight marks) where
  abbrev g : Graph
  g = dual (cells_of mesh)

  joined : Connects g (outside in_tree)
  joined = unmarked_join mesh in_tree surface tree

  all : AreHungAll g (outside in_tree) weight p.leaves marks
  all =
      let s = m.marking in
      let rest : outside peeled ≡ left_after (outside in_tree) p.leaves (length p.leaves) = λ i. λ e. p.peeled.rest_is e i in
      hung_all_marked g (outside in_tree) weight (graph_is mesh surface) few small joined p.leaves s.parent s.up s.depth marks (length p.leaves)
      (hung_first g (outside in_tree) weight light p.leaves (length p.leaves) (outside peeled) p.peeled s.parent s.up s.depth m.heap s.places m.empty s.root s.prim)
      s.parents s.ups s.depths s.free (subst (λ r. AreMarked g.nodes r s.up marks) rest s.marked)

  heavy : IsHeaviestTree g (outside in_tree) weight (spanned_tree 0 all.parent all.up all.depth)
  heavy = hung_all g (outside in_tree) weight (graph_is mesh surface) few p.leaves all.parent all.up all.depth all.hung joined

  -- an edge that leads up isn't in the tree of the vertices
  up_outside : (e : ℕ) → leads_up g.nodes all.up e ≡ true → outside in_tree e ≡ true
  up_outside e on =
      let (f, lf, some, is) = up_found g.nodes all.up e on in
      let ne : f ≢ 0 = λ same. some (ap (at all.up) same ∙ all.hung.root) in
      subst (λ x. outside in_tree x ≡ true) is (heavy.over f lf ne)

  module _ (held : List Bool) (left : List ℕ) (long : length held ≡ edge_count mesh) (holds : (e : ℕ) → e < edge_count mesh → flag held e ≡ (flag marks e && not (flag in_tree e)))
      (listed : left ≡ filter (outside marks) (range_with_len 0 (edge_count mesh))) where
    held_is : (e : ℕ) → e < edge_count mesh → flag held e ≡ leads_up g.nodes all.up e
    held_is e l = held_up (flag in_tree e) (leads_up g.nodes all.up e) (flag marks e) (flag held e) (holds e l) (all.marked e) (up_outside e)

    pub edges_grown : HasGrown mesh in_tree weight (record { held = held; left = left })
    edges_grown =
        let t : CotreeTables = record { held = held; left = left; parents = all.parent; ups = all.up; depths = all.depth; width = width_for (loop_count mesh); signatures = replicate (edge_count mesh) 0 } in
        record {
          tables = t;
          grown = grown_tables mesh in_tree weight t (record {
            surface = surface;
            few = few;
            made = record {
              held = long;
              parents = all.parents;
              ups = all.ups;
              depths = all.depths;
              width = refl;
              signatures = length-replicate (edge_count mesh) 0;
            };
            some_tree = tree;
            heavy = heavy;
            root = all.hung.root;
            marked = held_is;
            listed = listed ∙ passing_same (outside marks) (is_unmarked in_tree held) 0 (edge_count mesh)
                (λ e l. let le : e < edge_count mesh = omega arith in neither (flag in_tree e) (leads_up g.nodes all.up e) (flag marks e) (flag held e) (all.marked e) (held_is e le));
          });
          held = refl;
          left = refl;
        }
