-- Where trimming may end: with two cut edges only if the characteristic is 2.
use Rattle.surf_surfaces.proofs.Common.{◌≡◌, ◌≢◌, ℕ, zero, suc, ◌+◌, ◌<◌, ◌≤◌, ◌⊎◌, inl, inr, sym, refl, subst, ap, ◌∙◌, List, [], ◌∷◌, length, get_or, arith, cases_eq, Mesh, pair_of, face_count, edge_count, face_at, ends, IsSurface, All-get_or}
use Rattle.surf_opening.specs.Rim.{Among, along, back, HasMore}
use Rattle.surf_opening.specs.Side.{Side}
use Rattle.surf_opening.specs.Uncut.{Uncut, CutSide, In, IsFaceTree, root, grown, IsDualTree, IsTrimmed, whole, leaf, IsLargestLeafless, CutEdge, NoMoreThan, HasNoLeaf}
use Rattle.surf_opening.proofs.gluing.Gluing.{uncut_turned}
use Rattle.surf_opening.proofs.gluing.Trim.{leafless_stays}
use Rattle.surf_opening.proofs.gluing.Rims.{among_cases, among_turn}
use Rattle.surf_opening.proofs.sides.Polygons.{pair_among, has_side_to}
use Rattle.surf_opening.proofs.gluing.Rings.{on_corner, corner_one}
use Rattle.surf_opening.proofs.sides.MeshSides.{on_face, in_mesh, face_is}
use Rattle.surf_opening.proofs.sides.Edges.{face_of, edge_one}
use Rattle.surf_opening.proofs.counts.Counting.{pigeons}
use Rattle.surf_opening.proofs.openings.OpeningLaw.{surface_sides, tree_length}

abbrev Distinct : List ℕ → Type 0
Distinct [] = Unit {0}
Distinct (p ∷ rest) = (In rest p → ⊥) × Distinct rest

in_get : (l : List ℕ) (i : ℕ) → i < length l → In l (get_or l i 0)
in_get [] i h = absurd (omega arith)
in_get (p ∷ rest) zero h = inl refl
in_get (p ∷ rest) (suc i) h = inr (in_get rest i (omega arith))

distinct_one : (l : List ℕ) (i j : ℕ) → Distinct l → i < length l → j < length l → get_or l i 0 ≡ get_or l j 0 → i ≡ j
distinct_one [] i j d h g e = absurd (omega arith)
distinct_one (p ∷ rest) zero zero d h g e = refl
distinct_one (p ∷ rest) zero (suc j) d h g e =
    absurd (d.0 (subst (λ x. In rest x) (sym e) (in_get rest j (omega arith))))
distinct_one (p ∷ rest) (suc i) zero d h g e = absurd (d.0 (subst (λ x. In rest x) e (in_get rest i (omega arith))))
distinct_one (p ∷ rest) (suc i) (suc j) d h g e = ap suc (distinct_one rest i j d.1 (omega arith) (omega arith) e)

distinct_below : (l : List ℕ) (n : ℕ) → Distinct l → ((p : ℕ) → In l p → p < n) → length l ≤ n
distinct_below l n d below = pigeons (length l) n (λ i p. get_or l i 0 ≡ p)
    (λ i h. (get_or l i 0, below (get_or l i 0) (in_get l i h), refl))
    (λ i j p h g a b. distinct_one l i j d h g (a ∙ sym b))

uncut_at : (l : List (ℕ × ℕ)) (v w : ℕ) → Uncut l v w →
    (j : ℕ) × (j < length l) × Among (get_or l j (0, 0)).0 (get_or l j (0, 0)).1 v w
uncut_at [] v w u = elim u [ ]
uncut_at (s ∷ rest) v w (inl m) = (0, omega arith, m)
uncut_at (s ∷ rest) v w (inr u) = let i = uncut_at rest v w u in let h : i.0 < length rest = i.1 in
    (suc i.0, omega arith, i.2)

tree_edges : {Side : ℕ → ℕ → ℕ → Type 0} {faces : List ℕ} {tree : List (ℕ × ℕ)} → IsFaceTree Side faces tree →
    length tree + 1 ≡ length faces
tree_edges (root f v w s) = refl
tree_edges (grown a b p q tree in_a out_b at_a at_b) = let e = tree_edges tree in omega arith

module _ {mesh : Mesh} (surface : IsSurface mesh) {tree : List (ℕ × ℕ)} (dual : IsDualTree (Side mesh) tree) where
  vertex_below : {f v w : ℕ} → Side mesh f v w → v < mesh.vertices
  vertex_below {f} {v} s =
      let face = face_is mesh surface.is_mesh f (in_mesh mesh s) in
      let c = on_corner (face_at mesh f) face.large face.distinct (on_face mesh s) in
      subst (λ v. v < mesh.vertices) c.2 (All-get_or (λ v. v < mesh.vertices) (face_at mesh f) c.0 0 c.1 face.inside)

  -- the leaves whose edges were taken
  record Leaves (uncut : List (ℕ × ℕ)) : Type 0 where
    taken : List ℕ
    count : length uncut + 1 ≡ face_count mesh + length taken
    distinct : Distinct taken
    below : (p : ℕ) → In taken p → p < mesh.vertices
    bare : (p : ℕ) → In taken p → (f w : ℕ) → CutSide (Side mesh) uncut f p w → ⊥

  leaves : {uncut : List (ℕ × ℕ)} → IsTrimmed (Side mesh) tree uncut → Leaves uncut
  leaves whole = record {
    taken = [];
    count = let e = tree_edges dual.grows in let h = tree_length surface dual.faces tree dual.grows dual.every_face in
        omega arith;
    distinct = tt;
    below = λ p i. elim i [ ];
    bare = λ p i. elim i [ ];
  }
  leaves (leaf {uncut = uncut} a p q trimmed r only more) =
      let before = leaves trimmed in
      record {
        taken = p ∷ before.taken;
        count = omega (arith, before.count);
        distinct = (λ i. before.bare p i a q r, before.distinct);
        below = λ v i. elim i [
          | inl e ↦ subst (λ v. v < mesh.vertices) (sym e) (vertex_below r.0)
          | inr k ↦ before.below v k
        ];
        bare = λ v i f w s. elim i [
          | inl e ↦ s.1 (inl (along e
              (only f w (subst (λ v. CutSide (Side mesh) uncut f v w) e (s.0, λ u. s.1 (inr u))))))
          | inr k ↦ before.bare v k f w (s.0, λ u. s.1 (inr u))
        ];
      }

  -- all edges but two are uncut
  few_edges : (uncut : List (ℕ × ℕ)) (x y z t : ℕ) →
      ((f v w : ℕ) → Side mesh f v w → Uncut ((x, y) ∷ (z, t) ∷ uncut) v w) → edge_count mesh ≤ length uncut + 2
  few_edges uncut x y z t all =
      let l : List (ℕ × ℕ) = (x, y) ∷ (z, t) ∷ uncut in
      let k : edge_count mesh ≤ length l =
      pigeons (edge_count mesh) (length l) (λ e j. ends mesh e ≡ pair_of (get_or l j (0, 0)))
      (λ e h.
      let f = face_of mesh e h in
      let i = has_side_to (face_at mesh f.0) (ends mesh e) f.1.1 in
      let v = get_or (face_at mesh f.0) i.0 0 in
      let w = get_or (face_at mesh f.0) (Rattle.surf_surfaces.specs.Side.after (length (face_at mesh f.0)) i.0) 0 in
      let u = uncut_at l v w
      (all f.0 v w (record { has = subst (λ p. Rattle.surf_surfaces.specs.Surface.HasEdge mesh f.0 p) i.2 f.1 })) in
      (u.0, u.1, i.2 ∙ sym (pair_among u.2)))
      (λ e h j a b c d. edge_one mesh e h a b (c ∙ sym d)) in
      omega arith

  -- a third end of two different edges
  third_end : (x y z t : ℕ) → z ≢ t → (Among x y z t → ⊥) → (u : ℕ) × ((u ≡ z) ⊎ (u ≡ t)) × (u ≢ x) × (u ≢ y)
  third_end x y z t zt apart = elim (cases_eq z x) [
    | inl e ↦ (t, inr refl, λ h. zt (e ∙ sym h), λ h. apart (along e h))
    | inr a ↦ elim (cases_eq z y) [
      | inl e ↦ (t, inr refl, λ h. apart (back e h), λ h. zt (e ∙ sym h))
      | inr b ↦ (z, inl refl, a, b)
    ]
  ]

  -- with two edges cut, a vertex more than the leaves taken and two
  many_vertices : {uncut : List (ℕ × ℕ)} (trimmed : IsTrimmed (Side mesh) tree uncut) (x y z t : ℕ) →
      ((f v w : ℕ) → CutSide (Side mesh) uncut f v w → Among x y v w ⊎ Among z t v w) →
      HasMore (CutSide (Side mesh) uncut) → length (leaves trimmed).taken + 3 ≤ mesh.vertices
  many_vertices {uncut} trimmed x y z t two more =
      let l = leaves trimmed in
      let a = cut_on x y z t two (more z t) in
      let b = cut_on z t x y (λ f v w r. elim (two f v w r) [ inl m ↦ inr m | inr m ↦ inl m ]) (more x y) in
      let zt : z ≢ t = (surface_sides surface).apart b.1.0 in
      let u = third_end x y z t zt b.2 in
      let at_u : (f : ℕ) × (w : ℕ) × CutSide (Side mesh) uncut f u.0 w = elim u.1 [
        | inl e ↦ (b.0, t, subst (λ v. CutSide (Side mesh) uncut b.0 v t) (sym e) b.1)
        | inr e ↦ (b.0, z, subst (λ v. CutSide (Side mesh) uncut b.0 v z) (sym e) (turned b.1))
      ] in
      let all : List ℕ = x ∷ y ∷ u.0 ∷ l.taken in
      let k : length all ≤ mesh.vertices = distinct_below all mesh.vertices (
        λ i. elim i [
          | inl e ↦ (surface_sides surface).apart a.1.0 e
          | inr i ↦ elim i [ inl e ↦ u.2 (sym e) | inr i ↦ l.bare x i a.0 y a.1 ]
        ],
        (
          λ i. elim i [ inl e ↦ u.3 (sym e) | inr i ↦ l.bare y i a.0 x (turned a.1) ],
          (λ i. l.bare u.0 i at_u.0 at_u.1 at_u.2, l.distinct),
        ),
      )
      (λ p i. elim i [
        | inl e ↦ subst (λ p. p < mesh.vertices) (sym e) (vertex_below a.1.0)
        | inr i ↦ elim i [
          | inl e ↦ subst (λ p. p < mesh.vertices) (sym e) (vertex_below (turned a.1).0)
          | inr i ↦ elim i [
            | inl e ↦ subst (λ p. p < mesh.vertices) (sym e) (vertex_below at_u.2.0)
            | inr i ↦ l.below p i
          ]
        ]
      ]) in
      omega arith
    where
      turned : {f v w : ℕ} → CutSide (Side mesh) uncut f v w → CutSide (Side mesh) uncut f w v
      turned {f} {v} {w} r =
          ((surface_sides surface).turned r.0, λ u. r.1 (uncut_turned (surface_sides surface) uncut w v u))

      -- the first of the two edges is cut, and isn't the second
      cut_on : (x y z t : ℕ) → ((f v w : ℕ) → CutSide (Side mesh) uncut f v w → Among x y v w ⊎ Among z t v w) →
          ((f : ℕ) × (v : ℕ) × (w : ℕ) × CutSide (Side mesh) uncut f v w × (Among z t v w → ⊥)) →
          (f : ℕ) × CutSide (Side mesh) uncut f x y × (Among z t x y → ⊥)
      cut_on x y z t two m = elim (two m.0 m.1 m.2 m.3) [
        | inr n ↦ absurd (m.4 n)
        | inl n ↦ elim n [
          | along e h ↦ (
            m.0,
            subst (λ v. CutSide (Side mesh) uncut m.0 v y) e
                (subst (λ w. CutSide (Side mesh) uncut m.0 m.1 w) h m.3),
            λ o. m.4 (subst (λ v. Among z t v m.2) (sym e) (subst (λ w. Among z t x w) (sym h) o)),
          )
          | back e h ↦ (
            m.0,
            turned
                (subst (λ v. CutSide (Side mesh) uncut m.0 v x) e (subst (λ w. CutSide (Side mesh) uncut m.0 m.1 w) h m.3)),
            λ o. m.4 (subst (λ v. Among z t v m.2) (sym e) (subst (λ w. Among z t y w) (sym h) (among_turn o))),
          )
        ]
      ]

  pub three_vertices : 3 ≤ mesh.vertices
  three_vertices =
      let some : 0 < face_count mesh = surface.some_face in
      let face = face_is mesh surface.is_mesh 0 some in
      let large : 3 ≤ length (face_at mesh 0) = face.large in
      let k : length (face_at mesh 0) ≤ mesh.vertices =
      pigeons (length (face_at mesh 0)) mesh.vertices (λ i v. get_or (face_at mesh 0) i 0 ≡ v)
      (λ i h. (
        get_or (face_at mesh 0) i 0,
        All-get_or (λ v. v < mesh.vertices) (face_at mesh 0) i 0 h face.inside,
        refl,
      ))
      (λ i j v h g a b. corner_one (face_at mesh 0) face.large face.distinct i j h g (a ∙ sym b)) in
      omega arith

  -- two edges and more are cut, once a leaf was taken
  more_or_whole : {uncut : List (ℕ × ℕ)} (trimmed : IsTrimmed (Side mesh) tree uncut) →
      HasMore (CutSide (Side mesh) uncut) ⊎ (length (leaves trimmed).taken ≡ 0)
  unfolding leaves
  more_or_whole whole = inr refl
  more_or_whole (leaf a p q trimmed r only more) = inl more

  enough_vertices : {uncut : List (ℕ × ℕ)} (trimmed : IsTrimmed (Side mesh) tree uncut) (x y z t : ℕ) →
      ((f v w : ℕ) → CutSide (Side mesh) uncut f v w → Among x y v w ⊎ Among z t v w) →
      length (leaves trimmed).taken + 3 ≤ mesh.vertices
  enough_vertices trimmed x y z t two = elim (more_or_whole trimmed) [
    | inl more ↦ many_vertices trimmed x y z t two more
    | inr e ↦ let h = three_vertices in omega arith
  ]

  -- where no more than two edges are left cut, the characteristic is 2 at least
  pub two_left : {uncut : List (ℕ × ℕ)} → IsTrimmed (Side mesh) tree uncut → (x y z t : ℕ) →
      ((f v w : ℕ) → CutSide (Side mesh) uncut f v w → Among x y v w ⊎ Among z t v w) →
      edge_count mesh + 2 ≤ mesh.vertices + face_count mesh
  two_left {uncut} trimmed x y z t two =
      let a : length (leaves trimmed).taken + 3 ≤ mesh.vertices = enough_vertices trimmed x y z t two in
      let b : edge_count mesh ≤ length uncut + 2 =
      few_edges uncut x y z t (λ f v w s. covered f v w s (uncut_or uncut v w)) in
      let c : length uncut + 1 ≡ face_count mesh + length (leaves trimmed).taken = (leaves trimmed).count in
      omega arith
    where
      uncut_or : (us : List (ℕ × ℕ)) (v w : ℕ) → Uncut us v w ⊎ (Uncut us v w → ⊥)
      uncut_or [] v w = inr (λ u. u)
      uncut_or (s ∷ rest) v w = elim (among_cases s.0 s.1 v w) [
        | inl m ↦ inl (inl m)
        | inr n ↦ elim (uncut_or rest v w) [
          | inl u ↦ inl (inr u)
          | inr k ↦ inr (λ u. elim u [ inl m ↦ n m | inr l ↦ k l ])
        ]
      ]

      covered : (f v w : ℕ) → Side mesh f v w → Uncut uncut v w ⊎ (Uncut uncut v w → ⊥) →
          Uncut ((x, y) ∷ (z, t) ∷ uncut) v w
      covered f v w s (inl u) = inr (inr u)
      covered f v w s (inr n) = elim (two f v w (s, n)) [ inl m ↦ inl m | inr m ↦ inr (inl m) ]

  -- where the characteristic is below 2, trimming that has come to an end leaves the largest leafless set
  pub trimmed_is_largest : {uncut : List (ℕ × ℕ)} → IsTrimmed (Side mesh) tree uncut →
      mesh.vertices + face_count mesh < edge_count mesh + 2 →
      ((x : ℕ) × (y : ℕ) × (z : ℕ) × (t : ℕ) × NoMoreThan (Side mesh) uncut x y z t) ⊎ HasNoLeaf (Side mesh) uncut →
      IsLargestLeafless (Side mesh) tree (CutEdge (Side mesh) uncut)
  trimmed_is_largest {uncut} trimmed low (inl two) =
      let h : edge_count mesh + 2 ≤ mesh.vertices + face_count mesh = two_left trimmed two.0 two.1 two.2 two.3 two.4 in
      absurd (omega arith)
  trimmed_is_largest {uncut} trimmed low (inr none) = record {
    leafless = record {
      edge = λ k. (k.0, k.1.0);
      turned = λ {v} {w} k.
          (k.0, ((surface_sides surface).turned k.1.0, λ u. k.1.1 (uncut_turned (surface_sides surface) uncut w v u)));
      another = λ {v} {w} k. let o = none k.0 v w k.1 in (o.1, (o.0, o.2), o.3);
    };
    off_tree = λ v w k u. k.1.1 (tree_uncut v w trimmed u);
    largest = λ Other leafless off v w o. let e = leafless.edge o in
        (e.0, (e.1, leafless_stays (surface_sides surface) leafless off trimmed v w o));
  }
    where
      tree_uncut : {uncut : List (ℕ × ℕ)} (v w : ℕ) → IsTrimmed (Side mesh) tree uncut → Uncut tree v w →
          Uncut uncut v w
      tree_uncut v w whole u = u
      tree_uncut v w (leaf a p q trimmed r only more) u = inr (tree_uncut v w trimmed u)
