-- A one-sided chain excludes every turning.
use Rattle.surf_surfaces.proofs.Common.{◌≡◌, ◌≢◌, ℕ, ◌<◌, Bool, true, false, not, ◌||◌, eqb, List, [], ◌∷◌, length, refl, sym, ap, ◌∙◌, arith, inl, inr, subst, eqb-true, cases_lt, cases_Bool, lt-ltb, le-ltb, or_cases, true≢false, false_from_ne_true, xor, odd, Mesh, IsFace, pair_of, edges, place_of, face_at, has_side, runs, runs_turned, faces_of, HasEdge, IsSurface, IsOrientation, xor-same, xor_meet}
use Rattle.surf_surfaces.specs.Turning.{Link, next_face, AreLinked, same_ways, OneSidedChainsExcludeOrientations}
use Rattle.surf_surfaces.proofs.meshes.EdgeLaws.{list_any_from, among-edges, place_of-among}
use Rattle.surf_surfaces.proofs.meshes.SurfaceLaws.{two_faces_of, edge_below}
use Rattle.surf_surfaces.proofs.meshes.RunLaws.{one_way, some_way}

runs_back : (n : ℕ) (face : List ℕ) → IsFace n face → (p : ℕ × ℕ) → p.0 < p.1 → has_side p face ≡ true →
    runs (p.1, p.0) face ≡ not (runs p face)
runs_back n face h p lt has = elim (cases_Bool (runs p face)) [
  | inl e ↦ false_from_ne_true (runs (p.1, p.0) face) (λ back. one_way n face h p.0 p.1 (λ same. omega arith) e back) ∙
      ap not (sym e)
  | inr e ↦ elim (some_way p.0 p.1 face (rw (lt-ltb p.0 p.1 lt) has)) [ inl x ↦ absurd (true≢false (sym x ∙ e)) | inr x ↦ x ∙ ap not (sym e) ]
]

pub turned_is : (mesh : Mesh) (n : ℕ) (turned : ℕ → Bool) (f : ℕ) → IsFace n (face_at mesh f) → (p : ℕ × ℕ) →
    p.0 < p.1 → has_side p (face_at mesh f) ≡ true →
    runs_turned turned mesh f p ≡ xor (turned f) (runs p (face_at mesh f))
turned_is mesh n turned f h p lt has =
    elim (cases_Bool (turned f)) [ inl e ↦ rw e (runs_back n (face_at mesh f) h p lt has) | inr e ↦ rw e ]

-- of a flag and a run each, that differ: the runs agree where the flags do not
opposite : (a b x y : Bool) → xor a x ≡ not (xor b y) → not (xor x y) ≡ xor a b
opposite true true true true h = cc
opposite true true true false h = cc
opposite true true false true h = cc
opposite true true false false h = cc
opposite true false true true h = cc
opposite true false true false h = cc
opposite true false false true h = cc
opposite true false false false h = cc
opposite false true true true h = cc
opposite false true true false h = cc
opposite false true false true h = cc
opposite false true false false h = cc
opposite false false true true h = cc
opposite false false true false h = cc
opposite false false false true h = cc
opposite false false false false h = cc

pub not_turn : (a b : Bool) → a ≡ not b → b ≡ not a
not_turn true true h = h
not_turn true false h = refl
not_turn false true h = refl
not_turn false false h = h

xor-not : (a b : Bool) → xor (not a) (not b) ≡ xor a b
xor-not true true = refl
xor-not true false = refl
xor-not false true = refl
xor-not false false = refl

module _ (mesh : Mesh) (surface : IsSurface mesh) (turned : ℕ → Bool) (turning : IsOrientation mesh turned) where
  -- the two faces of an edge, in either order, run it in opposite ways when turned
  faces_opposed : (q : ℕ × ℕ) (f g : ℕ) → f ≢ g → HasEdge mesh f q → HasEdge mesh g q →
      runs_turned turned mesh f q ≡ not (runs_turned turned mesh g q)
  faces_opposed q f g differ x y =
      let at = place_of-among q (edges mesh) (0, 0)
      (among-edges mesh q ∙ list_any_from (has_side q) mesh.faces [] f x.0 x.1) in
      let e = place_of q (edges mesh) in
      let two = two_faces_of mesh surface e at.0 in
      let a = (faces_of mesh e).0 in
      let b = (faces_of mesh e).1 in
      let exactly : (h : ℕ) → has_side q (face_at mesh h) ≡ (eqb h a || eqb h b) =
      λ h. ap (λ p. has_side p (face_at mesh h)) (sym at.1) ∙ two.no_other h in
      let opposed : runs_turned turned mesh a q ≡ not (runs_turned turned mesh b q) =
      subst (λ p. runs_turned turned mesh a p ≡ not (runs_turned turned mesh b p)) at.1 (turning e at.0) in
      elim (or_cases (eqb f a) (eqb f b) (sym (exactly f) ∙ x.1)) [
        | inl fa ↦ elim (or_cases (eqb g a) (eqb g b) (sym (exactly g) ∙ y.1)) [
          | inl ga ↦ absurd (differ (eqb-true f a fa ∙ sym (eqb-true g a ga)))
          | inr gb ↦ rw (eqb-true f a fa, eqb-true g b gb) opposed
        ]
        | inr fb ↦ elim (or_cases (eqb g a) (eqb g b) (sym (exactly g) ∙ y.1)) [
          | inl ga ↦ rw (eqb-true f b fb, eqb-true g a ga)
              (not_turn (runs_turned turned mesh a q) (runs_turned turned mesh b q) opposed)
          | inr gb ↦ absurd (differ (eqb-true f b fb ∙ sym (eqb-true g b gb)))
        ]
      ]

  -- they list an edge the same way exactly where one of them is turned
  flags_differ : (q : ℕ × ℕ) (f g : ℕ) → f ≢ g → q.0 < q.1 → HasEdge mesh f q → HasEdge mesh g q →
      not (xor (runs q (face_at mesh f)) (runs q (face_at mesh g))) ≡ xor (turned f) (turned g)
  flags_differ q f g differ lt x y =
      opposite (turned f) (turned g) (runs q (face_at mesh f)) (runs q (face_at mesh g))
      (sym (turned_is mesh mesh.vertices turned f (surface.is_mesh f [] x.0) q lt x.1) ∙ faces_opposed q f g differ x y
      ∙ ap not (turned_is mesh mesh.vertices turned g (surface.is_mesh g [] y.0) q lt y.1))

  same_way_is : (p : ℕ × ℕ) (f g : ℕ) → f ≢ g → HasEdge mesh f (pair_of p) → HasEdge mesh g (pair_of p) →
      not (xor (runs p (face_at mesh f)) (runs p (face_at mesh g))) ≡ xor (turned f) (turned g)
  same_way_is p f g differ x y = elim (cases_lt p.0 p.1) [
    | inl lt ↦
        let as_is : pair_of p ≡ p = rw (lt-ltb p.0 p.1 lt) in
        flags_differ p f g differ lt (subst (HasEdge mesh f) as_is x) (subst (HasEdge mesh g) as_is y)
    | inr ge ↦
        let q : ℕ × ℕ = (p.1, p.0) in
        let back : pair_of p ≡ q = rw (le-ltb p.0 p.1 ge) in
        let f_has : HasEdge mesh f q = subst (HasEdge mesh f) back x in
        let g_has : HasEdge mesh g q = subst (HasEdge mesh g) back y in
        let lt : p.1 < p.0 =
        (edge_below mesh surface.is_mesh q
        (among-edges mesh q ∙ list_any_from (has_side q) mesh.faces [] f f_has.0 f_has.1)).0 in
        let f_back : runs p (face_at mesh f) ≡ not (runs q (face_at mesh f)) =
        runs_back mesh.vertices (face_at mesh f) (surface.is_mesh f [] f_has.0) q lt f_has.1 in
        let g_back : runs p (face_at mesh g) ≡ not (runs q (face_at mesh g)) =
        runs_back mesh.vertices (face_at mesh g) (surface.is_mesh g [] g_has.0) q lt g_has.1 in
        ap (λ t. not (xor t (runs p (face_at mesh g)))) f_back
        ∙ ap (λ t. not (xor (not (runs q (face_at mesh f))) t)) g_back
        ∙ ap not (xor-not (runs q (face_at mesh f)) (runs q (face_at mesh g)))
        ∙ flags_differ q f g differ lt f_has g_has
  ]

  -- along a chain the flags of its ends differ as often as its faces list edges the same way
  chain_flags : (links : List Link) (home : ℕ) → AreLinked mesh links home →
      odd (same_ways mesh links home) ≡ xor (turned (next_face links home)) (turned home)
  chain_flags [] home h = sym (xor-same (turned home))
  chain_flags (link ∷ rest) home h =
      ap (λ t. xor t (odd (same_ways mesh rest home)))
      (same_way_is link.ends link.face (next_face rest home) h.0.differ h.0.first h.0.second)
      ∙ ap (xor (xor (turned link.face) (turned (next_face rest home)))) (chain_flags rest home h.1)
      ∙ xor_meet (turned link.face) (turned (next_face rest home)) (turned home)

next_face_home : (links : List Link) → 0 < length links → next_face links (next_face links 0) ≡ next_face links 0
next_face_home [] h = absurd (omega arith)
next_face_home (link ∷ rest) h = refl

pub one_sided_chains_exclude_orientations : OneSidedChainsExcludeOrientations
one_sided_chains_exclude_orientations mesh surface links chain two =
    let home = next_face links 0 in
    let none : odd (same_ways mesh links home) ≡ false =
    chain_flags mesh surface two.0 two.1 links home chain.linked
    ∙ ap (λ f. xor (two.0 f) (two.0 home)) (next_face_home links chain.some_link)
    ∙ xor-same (two.0 home) in
    true≢false (sym chain.odd_number ∙ none)
