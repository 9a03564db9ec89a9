-- The chosen opening at a base is one, whichever trees show it.
use Rattle.surf_surfaces.proofs.Common.{◌≡◌, ℕ, ◌<◌, inl, inr, sym, ◌∙◌, Bool, true, false, ◌||◌, List, ◌∷◌, get_or, Chain, Trees, AreChosenAt, Mesh, steps, edge_count, IsSurface, ArePositive}
use Rattle.surf_surfaces.proofs.classes.CotreeLaws.{is_split}
use Rattle.surf_surfaces.proofs.bases.LoopsOne.{edges_same, cotrees_same, tree_is}
use Rattle.surf_opening.specs.ChosenCut.{full_cut, IsWithin, IsTreeEdge, IsChosenCut}
use Rattle.surf_opening.specs.ChosenLaws.{ChosenTreesDivide, OpeningsAtAreOne}
use Rattle.surf_opening.proofs.openings.ChosenOpenings.{chosen_are_one}

pub chosen_trees_divide : ChosenTreesDivide
chosen_trees_divide mesh lengths base trees surface positive x =
    is_split mesh lengths trees.tree trees.cotree x.heaviest
    (tree_is mesh lengths base trees trees surface positive x x)

module _ (mesh : Mesh) (lengths : List ℕ) (base : ℕ) (a b : Trees) (surface : IsSurface mesh)
    (positive : ArePositive mesh lengths) (x : AreChosenAt mesh lengths base a) (y : AreChosenAt mesh lengths base b)
  where
    same_full : (e : ℕ) → e < edge_count mesh → full_cut mesh a.tree a.cotree e ≡ full_cut mesh b.tree b.cotree e
    same_full e h = rw (
      edges_same mesh lengths base a b surface positive x y e,
      (cotrees_same mesh lengths base a b surface positive x y).edges e h,
    ) refl_full
      where
        refl_full : full_cut mesh b.tree b.cotree e ≡ full_cut mesh b.tree b.cotree e
        refl_full = Rattle.std.proofs.Common.refl

    tree_edge_to : (s : ℕ × ℕ) → IsTreeEdge mesh b.tree s → IsTreeEdge mesh a.tree s
    tree_edge_to s t = (t.0, t.1, edges_same mesh lengths base a b surface positive x y t.0 ∙ t.2, t.3)

    tree_edge_from : (s : ℕ × ℕ) → IsTreeEdge mesh a.tree s → IsTreeEdge mesh b.tree s
    tree_edge_from s t = (t.0, t.1, sym (edges_same mesh lengths base a b surface positive x y t.0) ∙ t.2, t.3)

    within_to : (cut : Chain) → IsWithin mesh cut (full_cut mesh b.tree b.cotree) →
        IsWithin mesh cut (full_cut mesh a.tree a.cotree)
    within_to cut w e h held = same_full e h ∙ w e h held

    within_from : (cut : Chain) → IsWithin mesh cut (full_cut mesh a.tree a.cotree) →
        IsWithin mesh cut (full_cut mesh b.tree b.cotree)
    within_from cut w e h held = sym (same_full e h) ∙ w e h held

    -- the cut that the second trees choose is the cut that the first choose
    cut_to : (trim : Bool) (cut : Chain) → IsChosenCut mesh b.tree b.cotree trim cut →
        IsChosenCut mesh a.tree a.cotree trim cut
    cut_to false cut is = λ e h. is e h ∙ sym (same_full e h)
    cut_to true cut is = record {
      below_two = λ low. let l = is.below_two low in record {
        within = within_to cut l.within;
        no_end = l.no_end;
        largest = λ other w no_end. l.largest other (within_from other w) no_end;
      };
      at_two = λ flat. let t = is.at_two flat in record {
        x = t.x;
        y = t.y;
        z = t.z;
        rest = t.rest;
        named = record {
          path = record {
            along = λ i d h. tree_edge_to (get_or (steps (t.x ∷ t.y ∷ t.z ∷ t.rest)) i d)
                (t.named.path.along i d h);
            distinct = t.named.path.distinct;
          };
          named = elim t.named.named [
            | inl near ↦ inl (tree_edge_to (0, 1) near.0, near.1, near.2)
            | inr far ↦ inr ((λ k. far.0 (tree_edge_from (0, 1) k)), far.1, far.2)
          ];
        };
        exactly = t.exactly;
      };
    }

pub openings_at_are_one : OpeningsAtAreOne
openings_at_are_one mesh lengths base a b trim origins others faces other_faces surface positive x y one other =
    chosen_are_one mesh a.tree a.cotree trim origins others faces other_faces surface
    (chosen_trees_divide mesh lengths base a surface positive x) one
    (record {
      cut = other.cut;
      is_chosen = cut_to mesh lengths base a b surface positive x y trim other.cut other.is_chosen;
      opened = other.opened;
      in_order = other.in_order;
    })
