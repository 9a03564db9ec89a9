-- The chosen cut is what trimming by the greatest leaves.
use Rattle.surf_surfaces.proofs.Common.{◌↔◌, IsTrue, ◌≡◌, ◌≢◌, ℕ, zero, suc, ◌+◌, ◌<◌, ◌≤◌, ◌⊎◌, inl, inr, sym, refl, subst, ◌∙◌, Bool, true, false, List, ◌∷◌, length, arith, cases_eq, cases_order, both_ways, All-from_recursion, recursion_from_All, Chain, Tree, left_edges, cells_of, tree_edges, split_of, Mesh, pair, steps, steps_from, face_count, edge_count, ends, IsSurface, last_from, degree_in}
use Rattle.surf_opening.specs.Laws.{TellsCut, cut_count}
use Rattle.surf_opening.specs.ChosenCut.{AreDivided, ListsCotree, full_cut, SameEdges, HasNoEnd, IsWithin, IsLargestEndless, IsTreeEdge, IsTreePath, IsNamedPath, AreTheTwo, IsTrimmedCut}
use Rattle.surf_opening.specs.Named.{IsTrimmedByGreatest, IsCutPath, IsNamed}
use Rattle.surf_opening.specs.Rim.{along, back}
use Rattle.surf_opening.specs.Side.{Side}
use Rattle.surf_opening.specs.Uncut.{Uncut, CutEdge, IsLeafless, NoMoreThan}
use Rattle.surf_opening.proofs.sides.SideWords.{IsSides}
use Rattle.surf_opening.proofs.counts.CutCounts.{full_told, leaf_counted, ended_counted, no_leaf_counted, spheres_are_cut_along_trees}
use Rattle.surf_opening.proofs.cuts.CutLists.{outside, outside_told, told_edge, edge_told, trimmed_keeps, full_is}
use Rattle.surf_opening.proofs.gluing.Cotrees.{ends_pair}
use Rattle.surf_opening.proofs.sides.Edges.{edge_one}
use Rattle.surf_opening.proofs.cuts.Ends.{trimmed_is_largest}
use Rattle.surf_opening.proofs.gluing.Gluing.{uncut_turned}
use Rattle.surf_opening.proofs.cuts.NamedEdges.{edge_cut, forget}
use Rattle.surf_opening.proofs.cuts.NamedLaw.{named_law, surface_fan, vertex_side}
use Rattle.surf_opening.proofs.cuts.NamedPaths.{near_or_far}
use Rattle.surf_opening.proofs.openings.OpeningLaw.{surface_sides}
use Rattle.surf_opening.proofs.cuts.PathLists.{later, listed, last_listed, listed_steps, listed_distinct, step_at, place, last_place}
use Rattle.surf_opening.proofs.sides.Polygons.{pair_among, among_pair}
use Rattle.surf_opening.proofs.cuts.Sphere.{taken_or_cut}
use Rattle.surf_opening.proofs.gluing.TrimAll.{IsTrimmedOut}
use Rattle.surf_opening.proofs.cuts.TwoLeaves.{two_leaves}

abbrev is_inl : {A B : Type 0} → A ⊎ B → Bool
is_inl (inl a) = true
is_inl (inr b) = false

inl_of : {A B : Type 0} (c : A ⊎ B) → is_inl c ≡ true → A
inl_of (inl a) e = a
inl_of (inr b) e = absurd (both_ways false refl e)

inl_is : {A : Type 0} (c : A ⊎ (A → ⊥)) → A → is_inl c ≡ true
inl_is (inl a) x = refl
inl_is (inr n) x = absurd (n x)

pub same_where : (a b : Bool) → (a ≡ true → b ≡ true) → (b ≡ true → a ≡ true) → a ≡ b
same_where true b to from = sym (to refl)
same_where false true to from = from refl
same_where false false to from = refl

module _ {mesh : Mesh} (surface : IsSurface mesh) {tree cotree : Tree} (split : AreDivided mesh tree cotree)
    {list : List (ℕ × ℕ)} (lists : ListsCotree mesh cotree list) where
  abbrev sides : IsSides (Side mesh)
  sides = surface_sides surface

  abbrev full : Chain
  full = full_cut mesh tree cotree

  -- the list tells the full cut
  pub list_told : TellsCut mesh list full
  list_told = λ e h.
      let told = full_told surface cotree list lists.its_edges e h in (
        (λ held. told.0 (sym (full_is mesh tree cotree split e h) ∙ held)),
        (λ none. full_is mesh tree cotree split e h ∙ told.1 none),
      )

  -- any list that tells a set within the full cut leaves the list's edges uncut
  off_list : (uncut : List (ℕ × ℕ)) (other : Chain) → TellsCut mesh uncut other → IsWithin mesh other full → (v w : ℕ) →
      CutEdge (Side mesh) uncut v w → Uncut list v w → ⊥
  off_list uncut other told within v w c u =
      let e = edge_told surface uncut other told v w c in
      let k = told_edge surface list full list_told v w e.0 e.1 e.2 (within e.0 e.1 e.3) in
      k.1.1 u

  -- a set without ends as pairs of vertices
  endless_pairs : (uncut : List (ℕ × ℕ)) (other : Chain) → TellsCut mesh uncut other → HasNoEnd mesh other →
      IsLeafless (Side mesh) (λ v w. IsTrue (is_inl (edge_cut surface uncut v w)))
  endless_pairs uncut other told no_end = record {
    edge = λ {v} {w} t. let c = inl_of (edge_cut surface uncut v w) t in (c.0, c.1.0);
    turned = λ {v} {w} t.
        let c = inl_of (edge_cut surface uncut v w) t in
        inl_is (edge_cut surface uncut w v) (c.0, (sides.turned c.1.0, λ u. c.1.1 (uncut_turned sides uncut w v u)));
    another = λ {v} {w} t.
        let c = inl_of (edge_cut surface uncut v w) t in
        let other' = no_leaf_counted surface uncut other told no_end c.0 v w c.1 in
        (other'.1, inl_is (edge_cut surface uncut v other'.1) (other'.0, other'.2), other'.3);
  }

  module _ (uncut : List (ℕ × ℕ)) (cut : Chain) (trimmed : IsTrimmedByGreatest (Side mesh) list uncut)
      (told : TellsCut mesh uncut cut)
      (ended : (cut_count mesh cut ≤ 2) ⊎ ((v : ℕ) → v < mesh.vertices → degree_in mesh cut v ≢ 1)) where
    within_full : IsWithin mesh cut full
    within_full e h held =
        (list_told e h).1 (λ u. (told e h).0 held (trimmed_keeps surface trimmed (ends mesh e).0 (ends mesh e).1 u))

    largest_left : mesh.vertices + face_count mesh < edge_count mesh + 2 → IsLargestEndless mesh full cut
    largest_left low =
        let largest = trimmed_is_largest surface lists.grows (forget trimmed) low
        (ended_counted surface uncut cut told ended) in
        record {
          within = within_full;
          no_end = λ v h one.
              let leaf = leaf_counted surface uncut cut told v one in
              let more = largest.leafless.another (leaf.face, leaf.cut) in
              more.2 (sym (leaf.only more.1.0 more.0 more.1.1));
          largest = λ other within no_end e h held.
              let uncut' = outside mesh other in
              let told' = outside_told surface other in
              let kept = largest.largest (λ v w. is_inl (edge_cut surface uncut' v w))
              (endless_pairs uncut' other told' no_end)
              (λ v w t. off_list uncut' other told' within v w (inl_of (edge_cut surface uncut' v w) t))
              (ends mesh e).0 (ends mesh e).1
              (inl_is (edge_cut surface uncut' (ends mesh e).0 (ends mesh e).1)
              (told_edge surface uncut' other told' (ends mesh e).0 (ends mesh e).1 e h
              (sym (ends_pair surface e h)) held)) in
              (told e h).1 kept.1.1;
        }

    -- where χ is 2, no more than two edges are left
    few_left : mesh.vertices + face_count mesh ≡ edge_count mesh + 2 →
        (x : ℕ) × (y : ℕ) × (z : ℕ) × (t : ℕ) × NoMoreThan (Side mesh) uncut x y z t
    few_left flat = elim (ended_counted surface uncut cut told ended) [
      | inl few ↦ few
      | inr no_leaf ↦ absurd (two_leaves surface lists.grows (forget trimmed) flat 0 (surface_fan surface) (λ v h.
          let s = vertex_side surface v h in
          elim (taken_or_cut sides lists.grows s.0 v s.1 (forget trimmed) s.2) [
            | inl i ↦ inl (inr i)
            | inr c ↦
                let more = no_leaf c.0 v c.1 c.2 in
                inr (record { f = c.0; g = more.0; w = c.1; y = more.1; one = c.2; two = more.2; differ = more.3 })
          ]))
    ]

    module _ (flat : mesh.vertices + face_count mesh ≡ edge_count mesh + 2) where
      -- the first two edges of any path with the name are what is left
      left_are_first : (k : ℕ) (at : ℕ → ℕ) → IsCutPath (Side mesh) list k at → IsNamed k at → (e : ℕ) →
          e < edge_count mesh →
          (cut e ≡ true) ↔ ((ends mesh e ≡ pair (at 0) (at 1)) ⊎ (ends mesh e ≡ pair (at 1) (at 2)))
      left_are_first k at path named e h =
          let few = few_left flat in
          let are = named_law surface lists.grows flat k at path named trimmed few.0 few.1 few.2 few.3 few.4 in (
            (λ held.
                let c = told_edge surface uncut cut told (ends mesh e).0 (ends mesh e).1 e h
                (sym (ends_pair surface e h)) held in
                elim (are.no_more c.0 (ends mesh e).0 (ends mesh e).1 c.1) [
                  | inl m ↦ inl (sym (pair_among m ∙ ends_pair surface e h))
                  | inr m ↦ inr (sym (pair_among m ∙ ends_pair surface e h))
                ]),
            (λ which. elim which [
              | inl is ↦
                  let k = edge_told surface uncut cut told (at 0) (at 1) are.first in
                  subst (λ e. cut e ≡ true) (edge_one mesh k.0 e k.1 h (k.2 ∙ sym is)) k.3
              | inr is ↦
                  let k = edge_told surface uncut cut told (at 1) (at 2) are.second in
                  subst (λ e. cut e ≡ true) (edge_one mesh k.0 e k.1 h (k.2 ∙ sym is)) k.3
            ]),
          )

  module _ (flat : mesh.vertices + face_count mesh ≡ edge_count mesh + 2) where
    -- the edges of the tree are those of the full cut
    tree_is_full : (e : ℕ) → e < edge_count mesh → tree_edges mesh tree e ≡ full e
    tree_is_full e h =
        spheres_are_cut_along_trees mesh (split_of mesh tree cotree) surface split flat e h ∙ sym
        (full_is mesh tree cotree split e h)

    cut_in_tree : (v w : ℕ) → CutEdge (Side mesh) list v w → IsTreeEdge mesh tree (v, w)
    cut_in_tree v w c = let e = edge_told surface list full list_told v w c in
        (e.0, e.1, tree_is_full e.0 e.1 ∙ e.3, e.2)

    tree_in_cut : (v w : ℕ) → IsTreeEdge mesh tree (v, w) → CutEdge (Side mesh) list v w
    tree_in_cut v w t = told_edge surface list full list_told v w t.0 t.1 t.3 (sym (tree_is_full t.0 t.1) ∙ t.2)

    -- a cut path as a path in the tree, its first three vertices in front
    tree_path : (k : ℕ) (at : ℕ → ℕ) → IsCutPath (Side mesh) list (suc (suc k)) at →
        IsTreePath mesh tree (listed at (suc (suc k)))
    tree_path k at path = record {
      along = All-from_recursion (IsTreeEdge mesh tree) (steps (listed at (suc (suc k))))
          (listed_steps (IsTreeEdge mesh tree) at (suc (suc k))
          (λ i h. cut_in_tree (at i) (at (suc i)) (path.cut i h)));
      distinct = listed_distinct at (suc (suc k)) path.distinct;
    }

    -- and back
    cut_path : (x y z : ℕ) (rest : List ℕ) → IsTreePath mesh tree (x ∷ y ∷ z ∷ rest) →
        IsCutPath (Side mesh) list (suc (suc (length rest))) (place (x ∷ y ∷ z ∷ rest))
    cut_path x y z rest path = record {
      long = omega arith;
      cut = λ i h. tree_in_cut (place (x ∷ y ∷ z ∷ rest) i) (place (x ∷ y ∷ z ∷ rest) (suc i))
          (step_at (IsTreeEdge mesh tree) x (y ∷ z ∷ rest)
          (recursion_from_All (IsTreeEdge mesh tree) (steps_from x (y ∷ z ∷ rest)) path.along) i (omega arith));
      distinct = λ i j a b e. elim (cases_order i j) [
        | inl same ↦ same
        | inr o ↦ elim o [
          | inl less ↦ absurd (path.distinct i j 0 less (omega arith) e)
          | inr more ↦ absurd (path.distinct j i 0 more (omega arith) (sym e))
        ]
      ];
    }

    named_cut_path : (x y z : ℕ) (rest : List ℕ) → IsNamedPath mesh tree x y (z ∷ rest) →
        IsNamed (suc (suc (length rest))) (place (x ∷ y ∷ z ∷ rest))
    named_cut_path x y z rest named =
        let last_is = last_place z rest in
        elim named.named [
          | inl near ↦ inr (
            elim (among_pair (near.1)) [
              | along a b ↦ inl (sym a, sym b)
              | back a b ↦ inr (sym b, sym a)
            ],
            sym last_is ∙ near.2,
          )
          | inr far ↦ inl (far.1, sym last_is ∙ far.2)
        ]

    -- the first two edges of a cut path from 0 to 1, or of one through 0 1 to 2
    module _ (uncut : List (ℕ × ℕ)) (cut : Chain) (trimmed : IsTrimmedByGreatest (Side mesh) list uncut)
        (told : TellsCut mesh uncut cut)
        (ended : (cut_count mesh cut ≤ 2) ⊎ ((v : ℕ) → v < mesh.vertices → degree_in mesh cut v ≢ 1)) where
      two_of : (k : ℕ) (at : ℕ → ℕ) → 2 ≤ k → IsCutPath (Side mesh) list k at → IsNamed k at →
          ((IsTreeEdge mesh tree (0, 1) × (pair (at 0) (at 1) ≡ (0, 1)) × (at k ≡ 2))
          ⊎ ((IsTreeEdge mesh tree (0, 1) → ⊥) × (at 0 ≡ 0) × (at k ≡ 1))) → AreTheTwo mesh tree cut
      two_of zero at long path named is = absurd (omega arith)
      two_of (suc zero) at long path named is = absurd (omega arith)
      two_of (suc (suc k)) at long path named is =
          let last_is : last_from (at 1) (later (λ i. at (suc i)) (suc k)) ≡ at (suc (suc k)) =
          last_listed (λ i. at (suc i)) (suc k) in
          record {
            x = at 0;
            y = at 1;
            z = at 2;
            rest = later (λ i. at (suc (suc i))) k;
            named = record {
              path = tree_path k at path;
              named = elim is [
                | inl near ↦ inl (near.0, near.1, last_is ∙ near.2)
                | inr far ↦ inr (far.0, far.1, last_is ∙ far.2)
              ];
            };
            exactly = left_are_first uncut cut trimmed told ended flat (suc (suc k)) at path named;
          }

      two_left : AreTheTwo mesh tree cut
      two_left = elim (near_or_far surface lists.grows) [
        | inl near ↦
            let p = near.0 in
            two_of p.0 p.1 p.2.long p.2 (inr (p.3, p.4)) (inl (
              cut_in_tree 0 1 near.1,
              elim p.3 [
                | inl o ↦ pair_among (along (sym o.0) (sym o.1))
                | inr o ↦ pair_among (back (sym o.1) (sym o.0))
              ],
              p.4,
            ))
        | inr far ↦
            let p = far.0 in
            two_of p.0 p.1 p.2.long p.2 (inl (p.3, p.4)) (inr ((λ t. far.1 (tree_in_cut 0 1 t)), p.3, p.4))
      ]

      -- any two edges that are named so are what is left
      two_are_left : (other : Chain) → AreTheTwo mesh tree other → SameEdges mesh other cut
      two_are_left other two e h =
          let k = suc (suc (length two.rest)) in
          let at = place (two.x ∷ two.y ∷ two.z ∷ two.rest) in
          let is = left_are_first uncut cut trimmed told ended flat k at
          (cut_path two.x two.y two.z two.rest two.named.path) (named_cut_path two.x two.y two.z two.rest two.named)
          e h in
          same_where (other e) (cut e) (λ held. is.1 ((two.exactly e h).0 held))
          (λ held. (two.exactly e h).1 (is.0 held))

  -- what trimming to the end leaves is the trimmed cut
  pub trimmed_is_chosen : (uncut : List (ℕ × ℕ)) (cut : Chain) → IsTrimmedByGreatest (Side mesh) list uncut →
      TellsCut mesh uncut cut →
      (cut_count mesh cut ≤ 2) ⊎ ((v : ℕ) → v < mesh.vertices → degree_in mesh cut v ≢ 1) →
      IsTrimmedCut mesh tree cotree cut
  trimmed_is_chosen uncut cut trimmed told ended = record {
    below_two = largest_left uncut cut trimmed told ended;
    at_two = λ flat. two_left flat uncut cut trimmed told ended;
  }

  -- and each trimmed cut is that
  pub chosen_is_trimmed : (out : IsTrimmedOut mesh list) (other : Chain) → IsTrimmedCut mesh tree cotree other →
      SameEdges mesh other out.cut
  chosen_is_trimmed out other is =
      let count : length (split_of mesh tree cotree).left + (mesh.vertices + face_count mesh) ≡ edge_count mesh + 2 =
      left_edges (cells_of mesh) (split_of mesh tree cotree) split in
      elim (cases_eq (mesh.vertices + face_count mesh) (edge_count mesh + 2)) [
        | inl flat ↦ two_are_left flat out.uncut out.cut out.trimmed out.told out.ended other (is.at_two flat)
        | inr not_flat ↦
            let low : mesh.vertices + face_count mesh < edge_count mesh + 2 = omega arith in
            let a = is.below_two low in
            let b = largest_left out.uncut out.cut out.trimmed out.told out.ended low in
            λ e h. same_where (other e) (out.cut e) (λ held. b.largest other a.within a.no_end e h held)
            (λ held. a.largest out.cut b.within b.no_end e h held)
      ]
