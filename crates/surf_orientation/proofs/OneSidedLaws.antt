-- A surface has a turning or a one-sided chain.
use Rattle.surf_surfaces.proofs.Common.{◌≡◌, ◌≢◌, ℕ, zero, suc, ◌<◌, ◌≤◌, Bool, true, false, not, eqb, List, [], ◌∷◌, length, refl, sym, ◌∙◌, ap, arith, inl, inr, subst, ◌⊎◌, cases_eq, cases_Bool, lt-ltb, eq-eqb, ne_eqb, or_left, or_right, false≢true, dual, Tree, IsTree, xor, odd, any_below, Mesh, pair_of, xor_equal, xor_comm, xor_assoc, xor-same, any_below-found, any_below-none, cells_of, heaviest_tree, face_count, edge_count, face_at, ends, faces_of, has_side, runs, runs_turned, HasEdge, IsSurface}
use Rattle.surf_graphs.proofs.Trees.{one_of, along, along_step}
use Rattle.surf_surfaces.specs.Turning.{Link, next_face, AreLinked, same_ways, IsOneSided}
use Rattle.surf_surfaces.proofs.meshes.SurfaceLaws.{two_faces_of, has_side-face}
use Rattle.surf_surfaces.proofs.meshes.OrientationLaws.{turned_is}
use Rattle.surf_surfaces.proofs.meshes.CellLaws.{surfaces_are_cells}
use Rattle.surf_orientation.proofs.SideNumbers.{ends_rise}
use Rattle.surf_orientation.specs.Chains.{same_way, Fits, FollowTree, links_down, links_up, tree_chain}
use Rattle.surf_orientation.specs.Statements.{OrientationsFit, MisfitsAreOneSided, SurfacesAreTwoSidedOrOneSided, TreeChainsGoByStep}

-- flags and runs that differ
fit_from : (a b x y : Bool) → xor a x ≡ not (xor b y) → xor a b ≡ not (xor x y)
fit_from true true true true h = cc
fit_from true true true false h = cc
fit_from true true false true h = cc
fit_from true true false false h = cc
fit_from true false true true h = cc
fit_from true false true false h = cc
fit_from true false false true h = cc
fit_from true false false false h = cc
fit_from false true true true h = cc
fit_from false true true false h = cc
fit_from false true false true h = cc
fit_from false true false false h = cc
fit_from false false true true h = cc
fit_from false false true false h = cc
fit_from false false false true h = cc
fit_from false false false false h = cc

fit_to : (a b x y : Bool) → xor a b ≡ not (xor x y) → xor a x ≡ not (xor b y)
fit_to true true true true h = cc
fit_to true true true false h = cc
fit_to true true false true h = cc
fit_to true true false false h = cc
fit_to true false true true h = cc
fit_to true false true false h = cc
fit_to true false false true h = cc
fit_to true false false false h = cc
fit_to false true true true h = cc
fit_to false true true false h = cc
fit_to false true false true h = cc
fit_to false true false false h = cc
fit_to false false true true h = cc
fit_to false false true false h = cc
fit_to false false false true h = cc
fit_to false false false false h = cc

pub has_first : (mesh : Mesh) → IsSurface mesh → (e : ℕ) → e < edge_count mesh →
    HasEdge mesh (faces_of mesh e).0 (ends mesh e)
has_first mesh surface e l =
    let a = (faces_of mesh e).0 in
    let has : has_side (ends mesh e) (face_at mesh a) ≡ true =
    (two_faces_of mesh surface e l).no_other a ∙ or_left (eqb a a) (eqb a (faces_of mesh e).1) (eq-eqb a a refl) in
    (has_side-face mesh (ends mesh e) a has, has)

pub has_second : (mesh : Mesh) → IsSurface mesh → (e : ℕ) → e < edge_count mesh →
    HasEdge mesh (faces_of mesh e).1 (ends mesh e)
has_second mesh surface e l =
    let b = (faces_of mesh e).1 in
    let has : has_side (ends mesh e) (face_at mesh b) ≡ true =
    (two_faces_of mesh surface e l).no_other b ∙ or_right (eqb b (faces_of mesh e).0) (eqb b b) (eq-eqb b b refl) in
    (has_side-face mesh (ends mesh e) b has, has)

pub orientations_fit : OrientationsFit
orientations_fit mesh flags surface = (
  (λ turning e l. fit_from (flags (faces_of mesh e).0) (flags (faces_of mesh e).1)
      (runs (ends mesh e) (face_at mesh (faces_of mesh e).0)) (runs (ends mesh e) (face_at mesh (faces_of mesh e).1))
      (sym (first e l) ∙ turning e l ∙ ap not (second e l))),
  (λ fits e l. first e l ∙ fit_to (flags (faces_of mesh e).0) (flags (faces_of mesh e).1)
      (runs (ends mesh e) (face_at mesh (faces_of mesh e).0)) (runs (ends mesh e) (face_at mesh (faces_of mesh e).1))
      (fits e l) ∙ ap not (sym (second e l))),
)
  where
    first : (e : ℕ) → e < edge_count mesh → runs_turned flags mesh (faces_of mesh e).0 (ends mesh e)
        ≡ xor (flags (faces_of mesh e).0) (runs (ends mesh e) (face_at mesh (faces_of mesh e).0))
    first e l = let has = has_first mesh surface e l in
        turned_is mesh mesh.vertices flags (faces_of mesh e).0 (surface.is_mesh (faces_of mesh e).0 [] has.0)
        (ends mesh e) (ends_rise mesh surface.is_mesh e l) has.1

    second : (e : ℕ) → e < edge_count mesh → runs_turned flags mesh (faces_of mesh e).1 (ends mesh e)
        ≡ xor (flags (faces_of mesh e).1) (runs (ends mesh e) (face_at mesh (faces_of mesh e).1))
    second e l = let has = has_second mesh surface e l in
        turned_is mesh mesh.vertices flags (faces_of mesh e).1 (surface.is_mesh (faces_of mesh e).1 [] has.0)
        (ends mesh e) (ends_rise mesh surface.is_mesh e l) has.1

-- edge e links face x to face y
record Linked (mesh : Mesh) (e x y : ℕ) : Type 0 where
  differ : x ≢ y
  first : HasEdge mesh x (pair_of (ends mesh e))
  second : HasEdge mesh y (pair_of (ends mesh e))
  same : not (xor (runs (ends mesh e) (face_at mesh x)) (runs (ends mesh e) (face_at mesh y))) ≡ same_way mesh e

linked_by : (mesh : Mesh) → IsSurface mesh → (e x y : ℕ) → e < edge_count mesh →
    (((faces_of mesh e).0 ≡ x) × ((faces_of mesh e).1 ≡ y)) ⊎ (((faces_of mesh e).0 ≡ y) × ((faces_of mesh e).1 ≡ x)) →
    Linked mesh e x y
linked_by mesh surface e x y l between =
    let p = ends mesh e in
    let a = (faces_of mesh e).0 in
    let b = (faces_of mesh e).1 in
    let rises : p.0 < p.1 = ends_rise mesh surface.is_mesh e l in
    let as_is : p ≡ pair_of p = rw (lt-ltb p.0 p.1 rises) in
    let one : HasEdge mesh a (pair_of p) = subst (HasEdge mesh a) as_is (has_first mesh surface e l) in
    let two : HasEdge mesh b (pair_of p) = subst (HasEdge mesh b) as_is (has_second mesh surface e l) in
    let below : a < b = (two_faces_of mesh surface e l).lesser_first in
    elim between [
      | inl q ↦ record {
        differ = λ e. omega (arith, below, e, q.0, q.1);
        first = subst (λ f. HasEdge mesh f (pair_of p)) q.0 one;
        second = subst (λ f. HasEdge mesh f (pair_of p)) q.1 two;
        same = sym (ap (λ f. not (xor (runs p (face_at mesh f)) (runs p (face_at mesh y)))) q.0) ∙ sym
            (ap (λ f. not (xor (runs p (face_at mesh a)) (runs p (face_at mesh f)))) q.1);
      }
      | inr q ↦ record {
        differ = λ e. omega (arith, below, e, q.0, q.1);
        first = subst (λ f. HasEdge mesh f (pair_of p)) q.1 two;
        second = subst (λ f. HasEdge mesh f (pair_of p)) q.0 one;
        same =
            ap not (xor_comm (runs p (face_at mesh x)) (runs p (face_at mesh y)))
            ∙ sym (ap (λ f. not (xor (runs p (face_at mesh f)) (runs p (face_at mesh x)))) q.0) ∙ sym
            (ap (λ f. not (xor (runs p (face_at mesh a)) (runs p (face_at mesh f)))) q.1);
      }
    ]

-- a chain from face f to face home, whose faces run an odd number of edges the same way where `odd_ways` says so
record Leads (mesh : Mesh) (links : List Link) (f home : ℕ) (odd_ways : Bool) : Type 0 where
  begins : next_face links home ≡ f
  linked : AreLinked mesh links home
  ways : odd (same_ways mesh links home) ≡ odd_ways

-- one link more, in front
leads_over : (mesh : Mesh) (links : List Link) (e x y home : ℕ) (ways : Bool) → Linked mesh e x y →
    Leads mesh links y home ways →
    Leads mesh (record { face = x; ends = ends mesh e } ∷ links) x home (xor (same_way mesh e) ways)
leads_over mesh links e x y home ways link rest = record {
  begins = refl;
  linked = (
    record {
      differ = λ same. link.differ (same ∙ rest.begins);
      first = link.first;
      second = subst (λ f. HasEdge mesh f (pair_of (ends mesh e))) (sym rest.begins) link.second;
    },
    rest.linked,
  );
  ways =
      ap (λ f. xor (not (xor (runs (ends mesh e) (face_at mesh x)) (runs (ends mesh e) (face_at mesh f))))
      (odd (same_ways mesh links home))) rest.begins
      ∙ ap (λ b. xor b (odd (same_ways mesh links home))) link.same
      ∙ ap (xor (same_way mesh e)) rest.ways;
}

module _ (mesh : Mesh) (surface : IsSurface mesh) (t : Tree) (tree : IsTree (dual (cells_of mesh)) t) (flags : ℕ → Bool)
    (follow : FollowTree mesh t flags) where
  up_link : (f : ℕ) → f < face_count mesh → f ≢ t.root → Linked mesh (t.up f) f (t.parent f)
  up_link f l ne = linked_by mesh surface (t.up f) f (t.parent f) (tree.up_in f l ne)
      (one_of (dual (cells_of mesh)) f (t.parent f) (t.up f) (tree.up_joins f l ne))

  down_link : (f : ℕ) → f < face_count mesh → f ≢ t.root → Linked mesh (t.up f) (t.parent f) f
  down_link f l ne =
      elim (one_of (dual (cells_of mesh)) f (t.parent f) (t.up f) (tree.up_joins f l ne)) [
        | inl q ↦ linked_by mesh surface (t.up f) (t.parent f) f (tree.up_in f l ne) (inr q)
        | inr q ↦ linked_by mesh surface (t.up f) (t.parent f) f (tree.up_in f l ne) (inl q)
      ]

  at_root : (f : ℕ) → f < face_count mesh → t.rank f ≤ 0 → f ≡ t.root
  at_root f l low = elim (cases_eq f t.root) [
    | inl e ↦ e
    | inr ne ↦ let falls = tree.rank_falls f l ne in
        absurd (omega (arith, falls, low))
  ]

  up_leads : (steps f : ℕ) → f < face_count mesh → t.rank f ≤ steps →
      Leads mesh (links_up mesh t steps f) f t.root (xor (flags f) (flags t.root))
  up_leads zero f l low =
      record {
        begins = sym (at_root f l low);
        linked = tt;
        ways =
            sym (ap (λ g. xor (flags g) (flags t.root)) (at_root f l low) ∙ xor-same (flags t.root));
      }
  up_leads (suc steps) f l low = elim (cases_eq f t.root) [
    | inl e ↦ rw (eq-eqb f t.root e)
        (record {
          begins = sym e;
          linked = tt;
          ways =
              sym (ap (λ g. xor (flags g) (flags t.root)) e ∙ xor-same (flags t.root));
        })
    | inr ne ↦
        let falls = tree.rank_falls f l ne in
        let rest = up_leads steps (t.parent f) (tree.parent_in f l ne) (omega (arith, falls, low)) in
        let whole = leads_over mesh (links_up mesh t steps (t.parent f)) (t.up f) f (t.parent f) t.root
        (xor (flags (t.parent f)) (flags t.root)) (up_link f l ne) rest in
        let ways : xor (same_way mesh (t.up f)) (xor (flags (t.parent f)) (flags t.root))
        ≡ xor (flags f) (flags t.root) =
        sym (xor_assoc (same_way mesh (t.up f)) (flags (t.parent f)) (flags t.root)) ∙ ap (λ b. xor b (flags t.root))
        (sym (follow f l ne)) in
        rw (ne_eqb f t.root ne)
        (subst (Leads mesh (record { face = f; ends = ends mesh (t.up f) } ∷ links_up mesh t steps (t.parent f)) f
        t.root) ways whole)
  ]

  down_leads : (steps f : ℕ) (rest : List Link) (ways : Bool) → f < face_count mesh → t.rank f ≤ steps →
      Leads mesh rest f t.root ways → 0 < length rest →
      Leads mesh (links_down mesh t steps f rest) t.root t.root (xor (xor (flags f) (flags t.root)) ways)
      × (0 < length (links_down mesh t steps f rest))
  down_leads zero f rest ways l low leads some = arrived mesh rest f ways (at_root f l low) leads some
    where
      arrived : (mesh : Mesh) (rest : List Link) (f : ℕ) (ways : Bool) → f ≡ t.root → Leads mesh rest f t.root ways →
          0 < length rest → Leads mesh rest t.root t.root (xor (xor (flags f) (flags t.root)) ways) × (0 < length rest)
      arrived mesh rest f ways e leads some = (
        record {
          begins = leads.begins ∙ e;
          linked = leads.linked;
          ways = leads.ways ∙ sym
              (ap (λ b. xor b ways) (ap (λ g. xor (flags g) (flags t.root)) e ∙ xor-same (flags t.root)));
        },
        some,
      )
  down_leads (suc steps) f rest ways l low leads some = elim (cases_eq f t.root) [
    | inl e ↦ rw (eq-eqb f t.root e) (
      record {
        begins = leads.begins ∙ e;
        linked = leads.linked;
        ways = leads.ways ∙ sym
            (ap (λ b. xor b ways) (ap (λ g. xor (flags g) (flags t.root)) e ∙ xor-same (flags t.root)));
      },
      some,
    )
    | inr ne ↦
        let falls = tree.rank_falls f l ne in
        let longer = leads_over mesh rest (t.up f) (t.parent f) f t.root ways (down_link f l ne) leads in
        let whole = down_leads steps (t.parent f) (record { face = t.parent f; ends = ends mesh (t.up f) } ∷ rest)
        (xor (same_way mesh (t.up f)) ways) (tree.parent_in f l ne) (omega (arith, falls, low)) longer (omega arith) in
        let same : xor (xor (flags (t.parent f)) (flags t.root)) (xor (same_way mesh (t.up f)) ways)
        ≡ xor (xor (flags f) (flags t.root)) ways =
        regroup (flags (t.parent f)) (flags t.root) (same_way mesh (t.up f)) ways ∙ ap
        (λ b. xor (xor b (flags t.root)) ways) (sym (follow f l ne)) in
        rw (ne_eqb f t.root ne) (
          subst (Leads mesh (links_down mesh t steps (t.parent f)
              (record { face = t.parent f; ends = ends mesh (t.up f) } ∷ rest)) t.root t.root) same whole.0,
          whole.1,
        )
  ]
    where
      regroup : (p r s w : Bool) → xor (xor p r) (xor s w) ≡ xor (xor (xor s p) r) w
      regroup p r s w = sym (xor_assoc (xor p r) s w) ∙ ap (λ b. xor b w) (xor_comm (xor p r) s ∙ sym (xor_assoc s p r))

  next_face_any : (links : List Link) (x y : ℕ) → 0 < length links → next_face links x ≡ next_face links y
  next_face_any [] x y h = absurd (omega arith)
  next_face_any (link ∷ rest) x y h = refl

  misfit : (a b w r : Bool) → (xor a b ≡ w → ⊥) → xor (xor a r) (xor w (xor b r)) ≡ true
  misfit true true true true h = refl
  misfit true true true false h = refl
  misfit true true false true h = absurd (h refl)
  misfit true true false false h = absurd (h refl)
  misfit true false true true h = absurd (h refl)
  misfit true false true false h = absurd (h refl)
  misfit true false false true h = refl
  misfit true false false false h = refl
  misfit false true true true h = absurd (h refl)
  misfit false true true false h = absurd (h refl)
  misfit false true false true h = refl
  misfit false true false false h = refl
  misfit false false true true h = refl
  misfit false false true false h = refl
  misfit false false false true h = absurd (h refl)
  misfit false false false false h = absurd (h refl)

  misfit_one_sided : (e : ℕ) → e < edge_count mesh → (Fits mesh flags e → ⊥) → IsOneSided mesh (tree_chain mesh t e)
  misfit_one_sided e l odd_one =
      let a = (faces_of mesh e).0 in
      let b = (faces_of mesh e).1 in
      let two = two_faces_of mesh surface e l in
      let lb : b < face_count mesh = two.second_is_face in
      let la : a < face_count mesh = omega (arith, two.lesser_first, lb) in
      let back = links_up mesh t (t.rank b) b in
      let up = up_leads (t.rank b) b lb (omega arith) in
      let over = leads_over mesh back e a b t.root (xor (flags b) (flags t.root))
      (linked_by mesh surface e a b l (inl (refl, refl))) up in
      let whole = down_leads (t.rank a) a (record { face = a; ends = ends mesh e } ∷ back)
      (xor (same_way mesh e) (xor (flags b) (flags t.root))) la (omega arith) over (omega arith) in
      let links = tree_chain mesh t e in
      let home : t.root ≡ next_face links 0 = sym (whole.0).begins ∙ next_face_any links t.root 0 whole.1 in
      record {
        some_link = whole.1;
        linked = subst (AreLinked mesh links) home (whole.0).linked;
        odd_number = ap (λ h. odd (same_ways mesh links h)) (sym home) ∙ (whole.0).ways ∙ misfit (flags a) (flags b)
            (same_way mesh e) (flags t.root) odd_one;
      }

pub misfits_are_one_sided : MisfitsAreOneSided
misfits_are_one_sided mesh t flags surface tree follow e l h = misfit_one_sided mesh surface t tree flags follow e l h

pub surfaces_are_two_sided_or_one_sided : SurfacesAreTwoSidedOrOneSided
surfaces_are_two_sided_or_one_sided mesh surface =
    let s = cells_of mesh in
    let graphs = (surfaces_are_cells mesh surface).complex in
    let E = edge_count mesh in
    let spanned = heaviest_tree (λ x y. true) (λ x y. inl refl) (λ x y z h k. refl) (dual s)
    (λ e. true) 0 surface.some_face graphs.dual_ends (λ set stays. graphs.dual_connected set (λ e l. stays e l refl)) in
    let t = spanned.tree in
    let flags : ℕ → Bool = along (dual s) t (same_way mesh) in
    let follow : FollowTree mesh t flags = λ f l ne. along_step (dual s) t spanned.is (same_way mesh) f l ne in
    let off : ℕ → Bool = λ e. xor (xor (flags (faces_of mesh e).0) (flags (faces_of mesh e).1)) (same_way mesh e) in
    elim (cases_Bool (any_below E off)) [
      | inl some ↦
          let (e, l, is) = any_below-found E off some in
          inr (
            tree_chain mesh t e,
            misfit_one_sided mesh surface t spanned.is flags follow e l
                (λ fits. not_both (xor (flags (faces_of mesh e).0) (flags (faces_of mesh e).1)) (same_way mesh e) is fits),
          )
      | inr none ↦ inl (
        flags,
        (orientations_fit mesh flags surface).1
            (λ e l. xor_equal (xor (flags (faces_of mesh e).0) (flags (faces_of mesh e).1)) (same_way mesh e)
            (any_below-none E off none e l)),
      )
    ]
  where
    not_both : (x y : Bool) → xor x y ≡ true → x ≡ y → ⊥
    not_both true true h e = false≢true h
    not_both true false h e = false≢true (sym e)
    not_both false true h e = false≢true e
    not_both false false h e = false≢true h

up_at_root : (mesh : Mesh) (t : Tree) (k : ℕ) → links_up mesh t k t.root ≡ []
up_at_root mesh t zero = refl
up_at_root mesh t (suc k) = rw (eq-eqb t.root t.root refl)

down_at_root : (mesh : Mesh) (t : Tree) (k : ℕ) (rest : List Link) → links_down mesh t k t.root rest ≡ rest
down_at_root mesh t zero rest = refl
down_at_root mesh t (suc k) rest = rw (eq-eqb t.root t.root refl)

-- below one step there is only the root
none_above : (mesh : Mesh) (t : Tree) → IsTree (dual (cells_of mesh)) t → (f : ℕ) → f < face_count mesh → t.rank f ≤ 0 →
    f ≡ t.root
none_above mesh t tree f l low =
    elim (cases_eq f t.root) [
      | inl e ↦ e
      | inr ne ↦ let falls = tree.rank_falls f l ne in
          absurd (omega (arith, falls, low))
    ]

-- more steps than the rank change nothing
up_enough : (mesh : Mesh) (t : Tree) → IsTree (dual (cells_of mesh)) t → (k j f : ℕ) → f < face_count mesh →
    t.rank f ≤ k → t.rank f ≤ j → links_up mesh t k f ≡ links_up mesh t j f
up_enough mesh t tree zero j f l hk hj = let e = none_above mesh t tree f l hk in
    sym (ap (links_up mesh t j) e ∙ up_at_root mesh t j)
up_enough mesh t tree (suc k) zero f l hk hj = let e = none_above mesh t tree f l hj in
    ap (links_up mesh t (suc k)) e ∙ up_at_root mesh t (suc k)
up_enough mesh t tree (suc k) (suc j) f l hk hj = elim (cases_eq f t.root) [
  | inl e ↦ rw (eq-eqb f t.root e)
  | inr ne ↦
      let falls = tree.rank_falls f l ne in
      rw (ne_eqb f t.root ne)
      (ap (λ r. record { face = f; ends = ends mesh (t.up f) } ∷ r)
      (up_enough mesh t tree k j (t.parent f) (tree.parent_in f l ne) (omega (arith, falls, hk))
      (omega (arith, falls, hj))))
]

down_enough : (mesh : Mesh) (t : Tree) → IsTree (dual (cells_of mesh)) t → (k j f : ℕ) (rest : List Link) →
    f < face_count mesh → t.rank f ≤ k → t.rank f ≤ j → links_down mesh t k f rest ≡ links_down mesh t j f rest
down_enough mesh t tree zero j f rest l hk hj = let e = none_above mesh t tree f l hk in
    sym (ap (λ g. links_down mesh t j g rest) e ∙ down_at_root mesh t j rest)
down_enough mesh t tree (suc k) zero f rest l hk hj = let e = none_above mesh t tree f l hj in
    ap (λ g. links_down mesh t (suc k) g rest) e ∙ down_at_root mesh t (suc k) rest
down_enough mesh t tree (suc k) (suc j) f rest l hk hj = elim (cases_eq f t.root) [
  | inl e ↦ rw (eq-eqb f t.root e)
  | inr ne ↦
      let falls = tree.rank_falls f l ne in
      rw (ne_eqb f t.root ne)
      (down_enough mesh t tree k j (t.parent f) (record { face = t.parent f; ends = ends mesh (t.up f) } ∷ rest)
      (tree.parent_in f l ne) (omega (arith, falls, hk)) (omega (arith, falls, hj)))
]

pub tree_chains_go_by_step : TreeChainsGoByStep
tree_chains_go_by_step mesh t tree = record {
  up_root = up_at_root mesh t (t.rank t.root);
  up_step = λ f l ne.
      let falls = tree.rank_falls f l ne in
      let next = tree.parent_in f l ne in
      up_enough mesh t tree (t.rank f) (suc (t.rank f)) f l (omega arith) (omega arith)
      ∙ rw (ne_eqb f t.root ne)
      (ap (λ r. record { face = f; ends = ends mesh (t.up f) } ∷ r)
      (up_enough mesh t tree (t.rank f) (t.rank (t.parent f)) (t.parent f) next (omega (arith, falls)) (omega arith)));
  down_root = λ rest. down_at_root mesh t (t.rank t.root) rest;
  down_step = λ f rest l ne.
      let falls = tree.rank_falls f l ne in
      let next = tree.parent_in f l ne in
      down_enough mesh t tree (t.rank f) (suc (t.rank f)) f rest l (omega arith) (omega arith)
      ∙ rw (ne_eqb f t.root ne)
      (down_enough mesh t tree (t.rank f) (t.rank (t.parent f)) (t.parent f)
      (record { face = t.parent f; ends = ends mesh (t.up f) } ∷ rest) next (omega (arith, falls)) (omega arith));
}
