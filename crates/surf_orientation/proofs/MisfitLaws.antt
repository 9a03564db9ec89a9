-- The edges that flags do not fit: even at each vertex, and a boundary exactly where there is a turning.
use Rattle.surf_surfaces.proofs.Common.{◌≡◌, ◌≢◌, ℕ, zero, suc, ◌+◌, ◌-◌, ◌<◌, ◌≤◌, Bool, true, false, cond, not, ◌&&◌, eqb, [], length, refl, sym, ◌∙◌, ap, arith, inl, inr, subst, cases_lt, lt-ltb, le-ltb, eq-eqb, ne_eqb, eqb-true, xor, odd_below, count_below, IsEven, left_edges, Mesh, pair, pair_eq, cells_of, primal, IsNullChain, signature_null, face_count, edge_count, face_at, ends, faces_of, touches, runs, runs_turned, IsSurface}
use Rattle.std.specs.Prelude.{pos, ◌≤ℤ◌}
use Rattle.surf_z2.proofs.Sums.{count_below-same, count_below-paired}
use Rattle.surf_graphs.proofs.Rounds.{par, odd_counted}
use Rattle.surf_surfaces.proofs.walks.EvenLaws.{touches-xor, side_moves}
use Rattle.surf_surfaces.proofs.meshes.FaceLaws.{touches-pair_of}
use Rattle.surf_z2.proofs.ParityLaws.{and-false, and-true, xor_equal, xor_left_comm, xor-same, xor-same_left, xor-false, xor_pairs, odd_below-same, odd_below-xor}
use Rattle.surf_surfaces.proofs.meshes.SideLaws.{pair_ends}
use Rattle.surf_surfaces.proofs.meshes.OrientationLaws.{turned_is, one_sided_chains_exclude_orientations}
use Rattle.surf_surfaces.proofs.meshes.CellLaws.{surfaces_are_cells}
use Rattle.surf_surfaces.proofs.walks.GraphWalkLaws.{boundaries_are_null}
use Rattle.surf_orientation.specs.Chains.{same_way, misfit}
use Rattle.surf_orientation.specs.Statements.{MisfitsAreEven, TwoSidedWhereMisfitsAreBoundary, SpheresAreTwoSided, OneSidedCharacteristicsAreAtMostOne, OrientationsAreDetermined}
use Rattle.surf_orientation.proofs.SideNumbers.{ends_rise, side_count, edge_of, edge_in, face_of}
use Rattle.surf_orientation.proofs.Turned.{next, prev, start, finish, ends_are, start_next, next_turn}
use Rattle.surf_orientation.proofs.VertexLaws.{runs_side}
use Rattle.surf_orientation.proofs.OneSidedLaws.{has_first, has_second, orientations_fit}
use Rattle.surf_orientation.proofs.GenusLaws.{surfaces_have_splits, counts_are_at_most_two_more, characteristic_is, at_most_one}

count_both : (n : ℕ) (p q r : ℕ → Bool) → ((k : ℕ) → k < n → cond (r k) 1 0 ≡ cond (p k) 1 0 + cond (q k) 1 0) →
    count_below n r ≡ count_below n p + count_below n q
count_both zero p q r h = refl
count_both (suc n) p q r h = omega (arith, h n (omega arith), count_both n p q r (λ k l. h k (omega arith)))

-- the numbers below n + m in two parts
count_parts : (n m : ℕ) (p : ℕ → Bool) → count_below (n + m) p ≡ count_below n p + count_below m (λ k. p (k + n))
count_parts n zero p = let none : n + 0 ≡ n = omega arith in ap (λ k. count_below k p) none ∙ omega arith
count_parts n (suc m) p =
    let next : n + suc m ≡ suc (n + m) = omega arith in
    let here : ◌≡◌ {A = ℕ} (cond (p (n + m)) 1 0) (cond (p (m + n)) 1 0) = let turn : n + m ≡ m + n = omega arith in
    ap (λ k. cond (p k) 1 0) turn in
    ap (λ k. count_below k p) next ∙ omega (arith, here, count_parts n m p)

odd_parts : (n m : ℕ) (p : ℕ → Bool) → odd_below (n + m) p ≡ xor (odd_below n p) (odd_below m (λ k. p (k + n)))
odd_parts n zero p = let none : n + 0 ≡ n = omega arith in
    ap (λ k. odd_below k p) none ∙ sym (xor-false (odd_below n p))
odd_parts n (suc m) p =
    let next : n + suc m ≡ suc (n + m) = omega arith in
    let turn : n + m ≡ m + n = omega arith in
    ap (λ k. odd_below k p) next ∙ ap (xor (p (n + m))) (odd_parts n m p) ∙ ap
    (λ k. xor (p k) (xor (odd_below n p) (odd_below m (λ i. p (i + n))))) turn ∙ xor_left_comm (p (m + n))
    (odd_below n p) (odd_below m (λ i. p (i + n)))

-- from the runs of turned faces
misfit_runs : (a b x y : Bool) → xor (xor a b) (not (xor x y)) ≡ not (xor (xor a x) (xor b y))
misfit_runs true true true true = refl
misfit_runs true true true false = refl
misfit_runs true true false true = refl
misfit_runs true true false false = refl
misfit_runs true false true true = refl
misfit_runs true false true false = refl
misfit_runs true false false true = refl
misfit_runs true false false false = refl
misfit_runs false true true true = refl
misfit_runs false true true false = refl
misfit_runs false true false true = refl
misfit_runs false true false false = refl
misfit_runs false false true true = refl
misfit_runs false false true false = refl
misfit_runs false false false true = refl
misfit_runs false false false false = refl

-- a pair is run from one end or from the other
one_end : (x y : ℕ) → x ≢ y → xor (pair_eq (pair x y) (x, y)) (pair_eq (pair x y) (y, x)) ≡ true
one_end x y apart = elim (cases_lt x y) [
  | inl lt ↦ rw (lt-ltb x y lt, eq-eqb x x refl, eq-eqb y y refl, ne_eqb x y apart)
  | inr ge ↦ rw (le-ltb x y ge, eq-eqb x x refl, eq-eqb y y refl, ne_eqb y x (λ e. apart (sym e)))
]

-- two sides with the same ends: one of them starts at the vertex where they run opposite ways
starts_where : (v x y z w : ℕ) (p : ℕ × ℕ) → x ≢ y → pair x y ≡ p → pair z w ≡ p →
    xor (eqb x v) (eqb z v) ≡ (touches v p && xor (pair_eq p (x, y)) (pair_eq p (z, w)))
starts_where v x y z w p apart mine other = elim (pair_ends x y z w (mine ∙ sym other)) [
  | inl q ↦
      let alike : (x, y) ≡ (z, w) = λ i. (q.0 i, q.1 i) in
      let none : xor (pair_eq p (x, y)) (pair_eq p (z, w)) ≡ false =
      ap (λ t. xor (pair_eq p t) (pair_eq p (z, w))) alike ∙ xor-same (pair_eq p (z, w)) in
      ap (λ t. xor (eqb t v) (eqb z v)) q.0 ∙ xor-same (eqb z v) ∙ sym
      (ap (λ t. touches v p && t) none ∙ and-false (touches v p))
  | inr q ↦
      let turned : (z, w) ≡ (y, x) = λ i. (sym q.1 i, sym q.0 i) in
      let one : xor (pair_eq p (x, y)) (pair_eq p (z, w)) ≡ true =
      ap (λ t. xor (pair_eq p (x, y)) (pair_eq p t)) turned ∙ ap (λ t. xor (pair_eq t (x, y)) (pair_eq t (y, x)))
      (sym mine) ∙ one_end x y apart in
      ap (λ t. xor (eqb x v) (eqb t v)) (sym q.1) ∙ sym (touches-xor v (x, y) apart) ∙ sym
      (touches-pair_of v (x, y)) ∙ ap (touches v) mine
      ∙ sym (ap (λ t. touches v p && t) one ∙ and-true (touches v p))
]

module _ (mesh : Mesh) (surface : IsSurface mesh) (flags : ℕ → Bool) (v : ℕ) where
  abbrev starts : ℕ → Bool
  starts d = eqb (start mesh flags d) v

  abbrev finishes : ℕ → Bool
  finishes d = eqb (finish mesh flags d) v

  abbrev meets : ℕ → Bool
  meets e = touches v (ends mesh e)

  moves : (d : ℕ) → d < side_count mesh → start mesh flags d ≢ finish mesh flags d
  moves d l = side_moves (start mesh flags d) (finish mesh flags d)
      (rw (ends_are mesh surface flags d l)
      (ends_rise mesh surface.is_mesh (edge_of mesh d) (edge_in mesh surface d l)))

  -- at the vertex, an edge fits where one of its sides starts there
  fits_at : (e : ℕ) → e < edge_count mesh → xor (starts e) (starts (e + edge_count mesh))
      ≡ (meets e && not (misfit mesh flags e))
  fits_at e l =
      let E = edge_count mesh in
      let p = ends mesh e in
      let m = e + E in
      let a = (faces_of mesh e).0 in
      let b = (faces_of mesh e).1 in
      let low : e < side_count mesh = omega arith in
      let lm : m < side_count mesh = omega arith in
      let high : E ≤ e + E = omega arith in
      let less : e + E - E ≡ e = omega arith in
      let edge_e : edge_of mesh e ≡ e = rw (lt-ltb e E l) in
      let edge_m : edge_of mesh m ≡ e = rw (le-ltb (e + E) E high) less in
      let face_e : face_of mesh e ≡ a = rw (lt-ltb e E l) in
      let face_m : face_of mesh m ≡ b = rw (le-ltb (e + E) E high, less) in
      let x = start mesh flags e in
      let y = finish mesh flags e in
      let z = start mesh flags m in
      let w = finish mesh flags m in
      let mine : pair x y ≡ p = ends_are mesh surface flags e low ∙ ap (ends mesh) edge_e in
      let other : pair z w ≡ p = ends_are mesh surface flags m lm ∙ ap (ends mesh) edge_m in
      let rises : p.0 < p.1 = ends_rise mesh surface.is_mesh e l in
      let apart : x ≢ y = side_moves x y (rw mine rises) in
      let run_a : runs_turned flags mesh a p ≡ pair_eq p (x, y) =
      sym (ap (λ f. runs_turned flags mesh f p) face_e) ∙ sym
      (ap (λ h. runs_turned flags mesh (face_of mesh e) (ends mesh h)) edge_e) ∙ runs_side mesh surface flags e low ∙ ap
      (λ h. pair_eq (ends mesh h) (x, y)) edge_e in
      let run_b : runs_turned flags mesh b p ≡ pair_eq p (z, w) =
      sym (ap (λ f. runs_turned flags mesh f p) face_m) ∙ sym
      (ap (λ h. runs_turned flags mesh (face_of mesh m) (ends mesh h)) edge_m) ∙ runs_side mesh surface flags m lm ∙ ap
      (λ h. pair_eq (ends mesh h) (z, w)) edge_m in
      let has_a = has_first mesh surface e l in
      let has_b = has_second mesh surface e l in
      let is : misfit mesh flags e ≡ not (xor (pair_eq p (x, y)) (pair_eq p (z, w))) =
      misfit_runs (flags a) (flags b) (runs p (face_at mesh a)) (runs p (face_at mesh b))
      ∙ ap (λ t. not (xor t (xor (flags b) (runs p (face_at mesh b)))))
      (sym (turned_is mesh mesh.vertices flags a (surface.is_mesh a [] has_a.0) p rises has_a.1) ∙ run_a)
      ∙ ap (λ t. not (xor (pair_eq p (x, y)) t))
      (sym (turned_is mesh mesh.vertices flags b (surface.is_mesh b [] has_b.0) p rises has_b.1) ∙ run_b) in
      starts_where v x y z w p apart mine other ∙ ap (λ t. meets e && t)
      (sym (ap not is ∙ not_not (xor (pair_eq p (x, y)) (pair_eq p (z, w)))))
    where
      not_not : (b : Bool) → not (not b) ≡ b
      not_not true = refl
      not_not false = refl

  -- as many sides start at the vertex as edges are there
  starts_count : count_below (side_count mesh) starts ≡ count_below (edge_count mesh) meets
  starts_count =
      let n = side_count mesh in
      let E = edge_count mesh in
      let turn = next_turn mesh surface flags in
      let as_many : count_below n finishes ≡ count_below n starts =
      count_below-paired n n finishes starts (next mesh flags)
      (λ k l h. (turn.turn_in k l, ap (λ u. eqb u v) (start_next mesh surface flags k l) ∙ h))
      (λ j k lj lk hj hk e. sym (turn.back_turn j lj) ∙ ap (prev mesh flags) e ∙ turn.back_turn k lk)
      (λ i l h.
      let k = prev mesh flags i in
      let lk : k < n = turn.back_in i l in (
        k,
        lk,
        ap (λ u. eqb u v) (sym (start_next mesh surface flags k lk) ∙ ap (start mesh flags) (turn.turn_back i l))
            ∙ h,
        turn.turn_back i l,
      )) in
      let each : count_below n (λ d. meets (edge_of mesh d)) ≡ count_below n starts + count_below n finishes =
      count_both n starts finishes (λ d. meets (edge_of mesh d)) ends_count in
      let halves : count_below n (λ d. meets (edge_of mesh d))
      ≡ count_below E (λ d. meets (edge_of mesh d)) + count_below E (λ k. meets (edge_of mesh (k + E))) =
      count_parts E E (λ d. meets (edge_of mesh d)) in
      let first : count_below E (λ d. meets (edge_of mesh d)) ≡ count_below E meets =
      count_below-same E (λ d. meets (edge_of mesh d)) meets (λ k l. rw (lt-ltb k E l)) in
      let second : count_below E (λ k. meets (edge_of mesh (k + E))) ≡ count_below E meets =
      count_below-same E (λ k. meets (edge_of mesh (k + E))) meets (λ k l.
      let high : E ≤ k + E = omega arith in
      let less : k + E - E ≡ k = omega arith in
      rw (le-ltb (k + E) E high, less)) in
      omega (arith, as_many, each, halves, first, second)
    where
      counts : (a b : Bool) → (a ≡ true → b ≡ true → ⊥) → cond (xor a b) 1 0 ≡ cond a 1 0 + cond b 1 0
      counts true true h = absurd (h refl refl)
      counts true false h = refl
      counts false true h = refl
      counts false false h = refl

      ends_count : (d : ℕ) → d < side_count mesh → cond (meets (edge_of mesh d)) 1 0
          ≡ cond (starts d) 1 0 + cond (finishes d) 1 0
      ends_count d l =
          let x = start mesh flags d in
          let y = finish mesh flags d in
          let both : pair x y ≡ ends mesh (edge_of mesh d) = ends_are mesh surface flags d l in
          let apart : x ≢ y = moves d l in
          ap (λ t. cond t 1 0) (sym (ap (touches v) both) ∙ touches-pair_of v (x, y) ∙ touches-xor v (x, y) apart)
          ∙ counts (eqb x v) (eqb y v) (λ p q. apart (eqb-true x v p ∙ sym (eqb-true y v q)))

  misfits_even : odd_below (edge_count mesh) (λ e. misfit mesh flags e && meets e) ≡ false
  misfits_even =
      let E = edge_count mesh in
      let n = side_count mesh in
      let all : odd_below n starts ≡ odd_below E meets =
      odd_counted n starts ∙ ap par starts_count ∙ sym (odd_counted E meets) in
      let by_edge : odd_below n starts ≡ odd_below E (λ e. meets e && not (misfit mesh flags e)) =
      odd_parts E E starts ∙ sym (odd_below-xor E starts (λ e. starts (e + E))) ∙ odd_below-same E
      (λ e. xor (starts e) (starts (e + E))) (λ e. meets e && not (misfit mesh flags e)) fits_at in
      odd_below-same E (λ e. misfit mesh flags e && meets e) (λ e. xor (meets e) (meets e && not (misfit mesh flags e)))
      (λ e l. rest (meets e) (misfit mesh flags e))
      ∙ odd_below-xor E meets (λ e. meets e && not (misfit mesh flags e))
      ∙ ap (xor (odd_below E meets)) (sym by_edge ∙ all)
      ∙ xor-same (odd_below E meets)
    where
      rest : (a b : Bool) → (b && a) ≡ xor a (a && not b)
      rest true true = refl
      rest true false = refl
      rest false true = refl
      rest false false = refl

pub misfits_are_even : MisfitsAreEven
misfits_are_even mesh flags v surface = misfits_even mesh surface flags v

pub two_sided_where_misfits_are_boundary : TwoSidedWhereMisfitsAreBoundary
two_sided_where_misfits_are_boundary mesh flags surface = (
  (λ two.
      let turned = two.0 in (
        λ f. xor (flags f) (turned f),
        λ e l.
            let a = (faces_of mesh e).0 in
            let b = (faces_of mesh e).1 in
            ap (xor (xor (flags a) (flags b))) (sym ((orientations_fit mesh turned surface).0 two.1 e l)) ∙ xor_pairs
            (flags a) (flags b) (turned a) (turned b),
      )),
  (λ h.
      let set = h.0 in (
        λ f. xor (flags f) (set f),
        (orientations_fit mesh (λ f. xor (flags f) (set f)) surface).1 (λ e l.
            let a = (faces_of mesh e).0 in
            let b = (faces_of mesh e).1 in
            xor_pairs (flags a) (set a) (flags b) (set b) ∙ ap (xor (xor (flags a) (flags b)))
            (sym (h.1 e l)) ∙ xor-same_left (xor (flags a) (flags b)) (same_way mesh e)),
      )),
)

pub spheres_are_two_sided : SpheresAreTwoSided
spheres_are_two_sided mesh surface sphere =
    let flags : ℕ → Bool = λ f. false in
    let s = cells_of mesh in
    let (d, split) = surfaces_have_splits mesh surface in
    let count : length d.left + (mesh.vertices + face_count mesh) ≡ edge_count mesh + 2 = left_edges s d split in
    let none : length d.left ≡ 0 = omega (arith, sphere, count) in
    let cells = surfaces_are_cells mesh surface in
    let even : IsEven (primal s) (misfit mesh flags) = λ v l.
    odd_below-same (edge_count mesh) (λ e. misfit mesh flags e && xor (eqb (ends mesh e).0 v) (eqb (ends mesh e).1 v))
    (λ e. misfit mesh flags e && touches v (ends mesh e))
    (λ e le. ap (λ t. misfit mesh flags e && t) (sym (touches-xor v (ends mesh e) (cells.ends_differ e le))))
    ∙ misfits_even mesh surface flags v in
    let null : IsNullChain s (misfit mesh flags) =
    signature_null s d cells.complex split (misfit mesh flags) even (λ k l. absurd (omega arith)) in
    (two_sided_where_misfits_are_boundary mesh flags surface).1 ((boundaries_are_null mesh (misfit mesh flags)).1 null)

pub orientations_are_determined : OrientationsAreDetermined
orientations_are_determined mesh flags others f g surface one two lf lg same =
    let cells = surfaces_are_cells mesh surface in
    let differ : ℕ → Bool = λ h. xor (flags h) (others h) in
    let alike : differ f ≡ differ g = cells.complex.dual_connected differ (λ e l.
    let a = (faces_of mesh e).0 in
    let b = (faces_of mesh e).1 in
    xor_pairs (flags a) (others a) (flags b) (others b)
    ∙ ap (xor (xor (flags a) (flags b)))
    ((orientations_fit mesh others surface).0 two e l ∙ sym ((orientations_fit mesh flags surface).0 one e l)) ∙ xor-same
    (xor (flags a) (flags b))) f g lf lg in
    xor_equal (flags g) (others g) (sym alike ∙ ap (λ t. xor t (others f)) same ∙ xor-same (others f))

pub one_sided_characteristics_are_at_most_one : OneSidedCharacteristicsAreAtMostOne
one_sided_characteristics_are_at_most_one mesh links surface chain =
    let few = counts_are_at_most_two_more mesh surface in
    let d = (edge_count mesh + 2) - (mesh.vertices + face_count mesh) in
    let some : 1 ≤ d = elim (cases_lt (mesh.vertices + face_count mesh) (edge_count mesh + 2)) [
      | inl lt ↦ omega arith
      | inr ge ↦ absurd (one_sided_chains_exclude_orientations mesh surface links chain
          (spheres_are_two_sided mesh surface (omega (arith, few, ge))))
    ] in
    subst (λ x. x ≤ℤ pos 1) (sym (characteristic_is mesh surface)) (at_most_one d some)
