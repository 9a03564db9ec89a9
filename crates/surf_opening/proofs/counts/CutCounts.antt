-- Counts of cut edges: leaves, steps and the end of trimming, and copies.
use Rattle.std.proofs.Common.{◌≡◌, ◌≢◌, ℕ, ◌+◌, ◌<◌, ◌≤◌, ◌⊎◌, inl, inr, sym, refl, subst, ap, ◌∙◌, eqb, Bool, true, not, ◌&&◌, List, ◌∷◌, length, arith, eqb-true, ne_eqb}
use Rattle.surf_surfaces.proofs.Common.{cases_eq, cases_lt, cases_Bool, and_parts, and_from, or_cases, eqb-false, not-true, both_ways, count_below, Chain, Tree, tree_edges, cotree_edges, left_edges, cells_of, Mesh, pair, edges, face_count, edge_count, ends, touches, HasEdge, IsSurface, place_of, degree_in}
use Rattle.surf_z2.proofs.Counting.{passed_up, passed_one, passed_onto}
use Rattle.surf_surfaces.proofs.meshes.EdgeLaws.{place_of-ends}
use Rattle.surf_surfaces.proofs.meshes.FaceLaws.{touches_first, pair_comm}
use Rattle.surf_opening.specs.Laws.{TellsCut, cut_count, without, HasEnded, FullCutsAreTold, LeavesAreCounted, TrimmingGoesOn, TrimmingByGreatestGoesOn, EndsAreCounted, CopiesAreCounted, TrimmedAreEdges, SpheresAreCutAlongTrees}
use Rattle.surf_opening.specs.ChosenCut.{HasItsEdges}
use Rattle.surf_opening.specs.Named.{IsLeaf}
use Rattle.surf_opening.specs.Named as named
use Rattle.surf_opening.specs.Numbers.{Numbers}
use Rattle.surf_opening.specs.Rim.{Among, along, back, HasMore}
use Rattle.surf_opening.specs.Side.{Side}
use Rattle.surf_opening.specs.Uncut.{Uncut, CutSide, CutEdge, NoMoreThan, HasNoLeaf}
use Rattle.surf_opening.specs.Uncut as uncut_spec
use Rattle.surf_opening.proofs.gluing.Cotrees.{ends_pair, uncut_among}
use Rattle.surf_opening.proofs.sides.Edges.{numbered, face_of, edge_one}
use Rattle.surf_opening.proofs.LawProofs.{copies_are_cut_edges, copies_add_up}
use Rattle.surf_opening.proofs.cuts.NamedLaw.{end_below}
use Rattle.surf_opening.proofs.cuts.TwoLeaves.{trimmed_are}
use Rattle.surf_opening.proofs.sides.Polygons.{pair_among, among_pair}

-- ---- how many numbers pass a test

abbrev Passes : ℕ → (ℕ → Bool) → ℕ → Type 0
Passes n p k = (k < n) × (p k ≡ true)

pub passed : (n : ℕ) (p : ℕ → Bool) → Numbers (Passes n p) (λ (k : ℕ) (l : ℕ). k ≡ l) (count_below n p)
passed n p = record {
  number = λ k. count_below k p;
  below = λ k h. passed_up p k n h.0 h.1;
  onto = λ t h. let k = passed_onto p n t h in (k.0, (k.1, k.2), k.3);
  tells = λ k l h g e. passed_one p k l h.1 g.1 e;
  agrees = λ k l h g e. ap (λ k. count_below k p) e;
}

-- of three numbers one is neither i nor j
third : (a b c i j : ℕ) → a ≢ b → a ≢ c → b ≢ c → (e : ℕ) × ((e ≡ a) ⊎ ((e ≡ b) ⊎ (e ≡ c))) × (e ≢ i) × (e ≢ j)
third a b c i j ab ac bc = elim (cases_eq a i) [
  | inr ai ↦ elim (cases_eq a j) [
    | inr aj ↦ (a, inl refl, ai, aj)
    | inl aj ↦ elim (cases_eq b i) [
      | inr bi ↦ (b, inr (inl refl), bi, λ e. ab (aj ∙ sym e))
      | inl bi ↦ (c, inr (inr refl), λ e. bc (bi ∙ sym e), λ e. ac (aj ∙ sym e))
    ]
  ]
  | inl ai ↦ elim (cases_eq b j) [
    | inr bj ↦ (b, inr (inl refl), λ e. ab (ai ∙ sym e), bj)
    | inl bj ↦ (c, inr (inr refl), λ e. ac (ai ∙ sym e), λ e. bc (bj ∙ sym e))
  ]
]

different : (m n : ℕ) → m ≡ n → m < n → ⊥
different m n e h = omega arith

module _ {mesh : Mesh} (surface : IsSurface mesh) where
  pub full_told : (cotree : Tree) (tree : List (ℕ × ℕ)) → HasItsEdges mesh cotree tree →
      TellsCut mesh tree (λ e. not (cotree_edges mesh cotree e))
  full_told cotree tree same e h = (
    (λ t u.
        let k = (same (ends mesh e).0 (ends mesh e).1).0 u in
        let one : k.0 ≡ e = edge_one mesh k.0 e k.1 h (k.3 ∙ ends_pair surface e h) in
        both_ways (cotree_edges mesh cotree e) (not-true (cotree_edges mesh cotree e) t)
        (subst (λ e. cotree_edges mesh cotree e ≡ true) one k.2)),
    (λ n. elim (cases_Bool (cotree_edges mesh cotree e)) [
      | inl t ↦ absurd (n ((same (ends mesh e).0 (ends mesh e).1).1 (e, h, t, sym (ends_pair surface e h))))
      | inr t ↦ ap not t
    ]),
  )

  module _ (uncut : List (ℕ × ℕ)) (cut : Chain) (told : TellsCut mesh uncut cut) where
    -- the number of a cut edge
    abbrev number : ℕ → ℕ → ℕ
    number v w = place_of (pair v w) (edges mesh)

    record IsNumber (v w e : ℕ) : Type 0 where
      is_edge : e < edge_count mesh
      is_cut : cut e ≡ true
      is_pair : ends mesh e ≡ pair v w

    numbers_it : (f v w : ℕ) → CutSide (Side mesh) uncut f v w → IsNumber v w (number v w)
    numbers_it f v w r =
        let n = numbered mesh f (pair v w) r.0.has in
        record {
          is_edge = n.0;
          is_cut = (told (number v w) n.0).1
              (λ u. r.1 (uncut_among surface uncut (ends mesh (number v w)).0 (ends mesh (number v w)).1 v w u
              (among_pair (ends_pair surface (number v w) n.0 ∙ n.1))));
          is_pair = n.1;
        }

    from_number : (v w e : ℕ) → IsNumber v w e → CutEdge (Side mesh) uncut v w × (number v w ≡ e)
    from_number v w e n =
        let f = face_of mesh e n.is_edge in (
          (
            f.0,
            (
              record { has = subst (λ p. HasEdge mesh f.0 p) n.is_pair f.1 },
              λ u. (told e n.is_edge).0 n.is_cut
                  (uncut_among surface uncut v w (ends mesh e).0 (ends mesh e).1 u
                  (among_pair (sym n.is_pair ∙ sym (ends_pair surface e n.is_edge)))),
            ),
          ),
          ap (λ p. place_of p (edges mesh)) (sym n.is_pair) ∙ place_of-ends mesh e n.is_edge,
        )

    -- the edge at its own ends
    at_ends : (e : ℕ) → e < edge_count mesh → cut e ≡ true → IsNumber (ends mesh e).0 (ends mesh e).1 e
    at_ends e h c = record { is_edge = h; is_cut = c; is_pair = sym (ends_pair surface e h) }

    abbrev at_vertex : ℕ → Chain
    at_vertex v e = cut e && touches v (ends mesh e)

    other_end : (v e : ℕ) → Passes (edge_count mesh) (at_vertex v) e → (w : ℕ) × IsNumber v w e
    other_end v e h =
        let parts = and_parts (cut e) (touches v (ends mesh e)) h.1 in
        elim (or_cases (eqb (ends mesh e).0 v) (eqb (ends mesh e).1 v) parts.1) [
          | inl a ↦ (
            (ends mesh e).1,
            record {
              is_edge = h.0;
              is_cut = parts.0;
              is_pair =
                  sym (ends_pair surface e h.0) ∙ ap (λ v. pair v (ends mesh e).1) (eqb-true (ends mesh e).0 v a);
            },
          )
          | inr a ↦ (
            (ends mesh e).0,
            record {
              is_edge = h.0;
              is_cut = parts.0;
              is_pair =
                  sym (ends_pair surface e h.0) ∙ pair_comm (ends mesh e).0 (ends mesh e).1 ∙ ap (λ v. pair v (ends mesh e).0)
                  (eqb-true (ends mesh e).1 v a);
            },
          )
        ]

    passes_at : (v w : ℕ) → CutEdge (Side mesh) uncut v w → Passes (edge_count mesh) (at_vertex v) (number v w)
    passes_at v w c =
        let n = numbers_it c.0 v w c.1 in (
          n.is_edge,
          and_from (cut (number v w)) (touches v (ends mesh (number v w))) n.is_cut
              (ap (touches v) n.is_pair ∙ touches_first v w),
        )

    one_end : (v w y : ℕ) → pair v w ≡ pair v y → w ≡ y
    one_end v w y e = elim (among_pair e) [ along a b ↦ sym b | back a b ↦ sym a ∙ sym b ]

    pub degree_counted : (v : ℕ) →
        Numbers (CutEdge (Side mesh) uncut v) (λ (w : ℕ) (y : ℕ). w ≡ y) (degree_in mesh cut v)
    degree_counted v =
        let all = passed (edge_count mesh) (at_vertex v) in
        record {
          number = λ w. all.number (number v w);
          below = λ w c. all.below (number v w) (passes_at v w c);
          onto = λ t h.
              let e = all.onto t h in
              let w = other_end v e.0 e.1 in
              let c = from_number v w.0 e.0 w.1 in
              (w.0, c.0, ap all.number c.1 ∙ e.2);
          tells = λ w y c d e.
              let same : number v w ≡ number v y =
              all.tells (number v w) (number v y) (passes_at v w c) (passes_at v y d) e in
              one_end v w y (sym (numbers_it c.0 v w c.1).is_pair ∙ ap (λ e. ends mesh e) same ∙
              (numbers_it d.0 v y d.1).is_pair);
          agrees = λ w y c d e. ap (λ w. all.number (number v w)) e;
        }

    pub leaf_counted : (v : ℕ) → degree_in mesh cut v ≡ 1 → IsLeaf (Side mesh) uncut v
    leaf_counted v one =
        let c = degree_counted v in
        let x = c.onto 0 (omega arith) in
        record {
          face = x.1.0;
          end = x.0;
          cut = x.1.1;
          only = λ g y r.
              let a : c.number y < degree_in mesh cut v = c.below y (g, r) in
              let b : c.number x.0 ≡ 0 = x.2 in
              c.tells y x.0 (g, r) x.1 (omega arith);
        }

    pub counted_leaf : (v : ℕ) → IsLeaf (Side mesh) uncut v → degree_in mesh cut v ≡ 1
    counted_leaf v leaf =
        let c = degree_counted v in
        let some : c.number leaf.end < degree_in mesh cut v = c.below leaf.end (leaf.face, leaf.cut) in
        elim (cases_lt 1 (degree_in mesh cut v)) [
          | inr k ↦ omega arith
          | inl k ↦
              let a = c.onto 0 (omega arith) in
              let b = c.onto 1 (omega arith) in
              absurd (different 0 1
              (sym a.2 ∙ ap c.number (leaf.only a.1.0 a.0 a.1.1 ∙ sym (leaf.only b.1.0 b.0 b.1.1)) ∙ b.2) (omega arith))
        ]

    pub no_leaf_counted : ((v : ℕ) → v < mesh.vertices → degree_in mesh cut v ≢ 1) → HasNoLeaf (Side mesh) uncut
    no_leaf_counted none f v w r =
        let c = degree_counted v in
        let some : c.number w < degree_in mesh cut v = c.below w (f, r) in
        let not_one : degree_in mesh cut v ≢ 1 = none v (end_below surface f v w r.0) in
        let a = c.onto 0 (omega arith) in
        let b = c.onto 1 (omega arith) in
        elim (cases_eq w a.0) [
          | inr n ↦ (a.1.0, a.0, a.1.1, n)
          | inl e ↦ (b.1.0, b.0, b.1.1, λ g. different 0 1 (sym a.2 ∙ ap c.number (sym e ∙ g) ∙ b.2) (omega arith))
        ]

    -- the t-th cut edge
    abbrev pick : (t : ℕ) → (t < cut_count mesh cut) ⊎ (cut_count mesh cut ≤ t) → ℕ
    pick t (inl h) = ((passed (edge_count mesh) cut).onto t h).0
    pick t (inr h) = 0

    pick_is : (e t : ℕ) (c : (t < cut_count mesh cut) ⊎ (cut_count mesh cut ≤ t)) → Passes (edge_count mesh) cut e →
        (passed (edge_count mesh) cut).number e ≡ t → pick t c ≡ e
    pick_is e t (inl h) is k = let all = passed (edge_count mesh) cut in let x = all.onto t h in
        all.tells x.0 e x.1 is (x.2 ∙ sym k)
    pick_is e t (inr h) is k = let all = passed (edge_count mesh) cut in let g : all.number e < cut_count mesh cut =
        all.below e is in absurd (omega arith)

    abbrev nth : ℕ → ℕ
    nth t = pick t (cases_lt t (cut_count mesh cut))

    few_counted : cut_count mesh cut ≤ 2 → NoMoreThan (Side mesh) uncut (ends mesh (nth 0)).0 (ends mesh (nth 0)).1
        (ends mesh (nth 1)).0 (ends mesh (nth 1)).1
    few_counted few f v w r =
        let all = passed (edge_count mesh) cut in
        let n = numbers_it f v w r in
        let e = number v w in
        let is : Passes (edge_count mesh) cut e = (n.is_edge, n.is_cut) in
        let below : all.number e < cut_count mesh cut = all.below e is in
        let among : (t : ℕ) → all.number e ≡ t → Among (ends mesh (nth t)).0 (ends mesh (nth t)).1 v w = λ t k.
        subst (λ e. Among (ends mesh e).0 (ends mesh e).1 v w)
        (sym (pick_is e t (cases_lt t (cut_count mesh cut)) is k))
        (among_pair (ends_pair surface e n.is_edge ∙ n.is_pair)) in
        elim (cases_eq (all.number e) 0) [
          | inl z ↦ inl (among 0 z)
          | inr z ↦ inr (among 1 (omega arith))
        ]

    pub ended_counted : (cut_count mesh cut ≤ 2) ⊎ ((v : ℕ) → v < mesh.vertices → degree_in mesh cut v ≢ 1) →
        HasEnded mesh uncut
    ended_counted (inl few) = inl (_, _, _, _, few_counted few)
    ended_counted (inr none) = inr (no_leaf_counted none)

    apart_from : (e p q : ℕ) → e < edge_count mesh → e ≢ number p q → Among p q (ends mesh e).0 (ends mesh e).1 → ⊥
    apart_from e p q h ne m =
        ne (sym (place_of-ends mesh e h) ∙ ap (λ p. place_of p (edges mesh))
        (sym (pair_among m ∙ ends_pair surface e h)))

    pub more_counted : 3 ≤ cut_count mesh cut → (p q : ℕ) → HasMore (CutSide (Side mesh) ((p, q) ∷ uncut))
    more_counted many p q x y =
        let all = passed (edge_count mesh) cut in
        let a = all.onto 0 (omega arith) in
        let b = all.onto 1 (omega arith) in
        let c = all.onto 2 (omega arith) in
        let t = third a.0 b.0 c.0 (number p q) (number x y)
        (λ e. different 0 1 (sym a.2 ∙ ap all.number e ∙ b.2) (omega arith))
        (λ e. different 0 2 (sym a.2 ∙ ap all.number e ∙ c.2) (omega arith))
        (λ e. different 1 2 (sym b.2 ∙ ap all.number e ∙ c.2) (omega arith)) in
        let is : Passes (edge_count mesh) cut t.0 = elim t.1 [
          | inl e ↦ subst (Passes (edge_count mesh) cut) (sym e) a.1
          | inr o ↦ elim o [
            | inl e ↦ subst (Passes (edge_count mesh) cut) (sym e) b.1
            | inr e ↦ subst (Passes (edge_count mesh) cut) (sym e) c.1
          ]
        ] in
        let k = (from_number (ends mesh t.0).0 (ends mesh t.0).1 t.0 (at_ends t.0 is.0 is.1)).0 in (
          k.0,
          (ends mesh t.0).0,
          (ends mesh t.0).1,
          (k.1.0, λ u. elim u [ inl m ↦ apart_from t.0 p q is.0 t.2 m | inr n ↦ k.1.1 n ]),
          λ m. apart_from t.0 x y is.0 t.3 m,
        )

    pub still_told : (e p q : ℕ) → e < edge_count mesh → ends mesh e ≡ pair p q →
        TellsCut mesh ((p, q) ∷ uncut) (without cut e)
    still_told e p q e_in is h h_in = (
      (λ t u.
          let parts = and_parts (cut h) (not (eqb h e)) t in
          let ne : h ≢ e = eqb-false h e (not-true (eqb h e) parts.1) in
          elim u [
            | inl m ↦ ne (edge_one mesh h e h_in e_in (sym (ends_pair surface h h_in) ∙ sym (pair_among m) ∙ sym is))
            | inr n ↦ (told h h_in).0 parts.0 n
          ]),
      (λ n. elim (cases_eq h e) [
        | inl same ↦ absurd (n
            (inl (among_pair (sym is ∙ ap (λ e. ends mesh e) (sym same) ∙ sym (ends_pair surface h h_in)))))
        | inr ne ↦ and_from (cut h) (not (eqb h e)) ((told h h_in).1 (λ u. n (inr u))) (ap not (ne_eqb h e ne))
      ]),
    )

    -- the one cut edge at p leads to q
    only_counted : (e p q : ℕ) → IsNumber p q e → degree_in mesh cut p ≡ 1 → (f w : ℕ) →
        CutSide (Side mesh) uncut f p w → w ≡ q
    only_counted e p q n one f w r =
        let leaf = leaf_counted p one in
        let k = (from_number p q e n).0 in
        leaf.only f w r ∙ sym (leaf.only k.0 q k.1)

    abbrev cut_number : (e p q : ℕ) → e < edge_count mesh → cut e ≡ true → ends mesh e ≡ pair p q → IsNumber p q e
    cut_number e p q h c is = record { is_edge = h; is_cut = c; is_pair = is }

    pub cut_there : (e p q : ℕ) → e < edge_count mesh → cut e ≡ true → ends mesh e ≡ pair p q →
        CutEdge (Side mesh) uncut p q
    cut_there e p q h c is = (from_number p q e (cut_number e p q h c is)).0

    pub only_there : (e p q : ℕ) → e < edge_count mesh → cut e ≡ true → ends mesh e ≡ pair p q →
        degree_in mesh cut p ≡ 1 → (f w : ℕ) → CutSide (Side mesh) uncut f p w → w ≡ q
    only_there e p q h c is one = only_counted e p q (cut_number e p q h c is) one

    pub greatest_counted : (p : ℕ) → ((v : ℕ) → v < mesh.vertices → degree_in mesh cut v ≡ 1 → v ≤ p) → (v : ℕ) →
        IsLeaf (Side mesh) uncut v → v ≤ p
    greatest_counted p all v leaf = all v (end_below surface leaf.face v leaf.end leaf.cut.0) (counted_leaf v leaf)

pub full_cuts_are_told : FullCutsAreTold
full_cuts_are_told mesh cotree tree surface same = full_told surface cotree tree same

pub leaves_are_counted : LeavesAreCounted
leaves_are_counted mesh uncut cut v surface told =
    (counted_leaf surface uncut cut told v, leaf_counted surface uncut cut told v)

pub ends_are_counted : EndsAreCounted
ends_are_counted mesh uncut cut surface told ended = ended_counted surface uncut cut told ended

pub trimming_goes_on : TrimmingGoesOn
trimming_goes_on mesh tree uncut cut e p q surface trimmed told e_in e_cut is one many =
    let k = cut_there surface uncut cut told e p q e_in e_cut is in (
      uncut_spec.leaf k.0 p q trimmed k.1 (only_there surface uncut cut told e p q e_in e_cut is one)
          (more_counted surface uncut cut told many p q),
      still_told surface uncut cut told e p q e_in is,
    )

pub trimming_by_greatest_goes_on : TrimmingByGreatestGoesOn
trimming_by_greatest_goes_on mesh tree uncut cut e p q surface trimmed told e_in e_cut is one many greatest =
    let k = cut_there surface uncut cut told e p q e_in e_cut is in (
      named.leaf k.0 p q trimmed k.1 (only_there surface uncut cut told e p q e_in e_cut is one)
          (greatest_counted surface uncut cut told p greatest) (more_counted surface uncut cut told many p q),
      still_told surface uncut cut told e p q e_in is,
    )

pub copies_are_counted : CopiesAreCounted
copies_are_counted mesh uncut cut origins faces surface are told opened = (
  (λ v h. copies_are_cut_edges mesh uncut origins faces v (degree_in mesh cut v) surface are opened h
      (degree_counted surface uncut cut told v)),
  copies_add_up mesh uncut origins faces (degree_in mesh cut) surface are opened
      (λ v h. degree_counted surface uncut cut told v),
)

pub trimmed_are_edges : TrimmedAreEdges
trimmed_are_edges mesh tree uncut surface dual trimmed = trimmed_are surface dual trimmed

pub spheres_are_cut_along_trees : SpheresAreCutAlongTrees
spheres_are_cut_along_trees mesh d surface split flat e h = elim (cases_Bool (tree_edges mesh d.tree e)) [
  | inl t ↦ t ∙ sym (ap not (split.apart e h t))
  | inr t ↦ elim (cases_Bool (cotree_edges mesh d.cotree e)) [
    | inl c ↦ t ∙ sym (ap not c)
    | inr c ↦
        let k = split.left_whole e h t c in
        let some : k.0 < length d.left = k.1 in
        let count : length d.left + (mesh.vertices + face_count mesh) ≡ edge_count mesh + 2 =
        left_edges (cells_of mesh) d split in
        absurd (omega arith)
  ]
]
