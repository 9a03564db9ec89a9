-- The first of the loops at the vertices of a list.
use Rattle.surf_search.proofs.Common.{◌≡◌, ◌≢◌, ℕ, suc, ◌<◌, ◌+◌, ◌⊎◌, Bool, true, false, eqb, cond, List, [], ◌∷◌, length, get_or, take, fold, Contains, Option, Some, None, refl, sym, ap, ◌∙◌, subst, arith, inl, inr, eqb-true, IsTrue, AllByRecursion, cases_Bool, cases_eq, or_cases, false≢true, eq-eqb, nat_tests, All-from_recursion, All-contains, Split, IsSplit, Tree, Mesh, edge_count, IsSurface, ArePositive, IsNull, cells_of, class_of, AreShortestTrees, loop_walk, loop_length, no_member, Place, is_no_later, comes_sooner, place_at, with_vertex, null_by_class, no_later-trans, no_later-same, loop_closed, SignTables, Candidate, Signed, earlier, place_of, is_sought, IsFound, AreFoundBy, is_among, earlier_of, first_from, IsFirstOf, IsFirstAmong}
use Rattle.surf_finder.proofs.Searched.{among_more, zero_null}

-- ---- the first of a list

-- there is a candidate, and it comes no later than a place
abbrev pub IsNoLater : Option Candidate → Place → Type 0
IsNoLater None p = ⊥
IsNoLater (Some c) p = is_no_later (place_of c) p ≡ true

no_later_earlier : (c d : Candidate) → earlier c d ≡ true → is_no_later (place_of c) (place_of d) ≡ true
no_later_earlier c d h = grind (arith, nat_tests)

no_later_other : (c d : Candidate) → earlier c d ≡ false → is_no_later (place_of d) (place_of c) ≡ true
no_later_other c d h = grind (arith, nat_tests)

-- what the first comes before, the first of it and one more does
step_before : (o : Option Candidate) (s : Signed) (p : Place) → IsNoLater o p → IsNoLater (earlier_of o s) p
step_before None s p h = absurd h
step_before (Some c) s p h = elim (cases_Bool (earlier c s.candidate)) [
  | inl on ↦ subst (λ b. IsNoLater (cond b (Some c) (Some s.candidate)) p) (sym on) h
  | inr off ↦ subst (λ b. IsNoLater (cond b (Some c) (Some s.candidate)) p) (sym off)
      (no_later-trans (place_of s.candidate) (place_of c) p (no_later_other c s.candidate off) h)
]

step_at : (o : Option Candidate) (s : Signed) → IsNoLater (earlier_of o s) (place_of s.candidate)
step_at None s = no_later-same (place_of s.candidate)
step_at (Some c) s = elim (cases_Bool (earlier c s.candidate)) [
  | inl on ↦ subst (λ b. IsNoLater (cond b (Some c) (Some s.candidate)) (place_of s.candidate)) (sym on) (no_later_earlier c s.candidate on)
  | inr off ↦ subst (λ b. IsNoLater (cond b (Some c) (Some s.candidate)) (place_of s.candidate)) (sym off) (no_later-same (place_of s.candidate))
]

pub first_before : (o : Option Candidate) (found : List Signed) (p : Place) → IsNoLater o p → IsNoLater (fold earlier_of o found) p
first_before o [] p h = h
first_before o (s ∷ ss) p h = first_before (earlier_of o s) ss p (step_before o s p h)

first_least : (o : Option Candidate) (found : List Signed) →
    AllByRecursion (λ s. IsNoLater (fold earlier_of o found) (place_of s.candidate)) found
first_least o [] = tt
first_least o (s ∷ ss) = (
  first_before (earlier_of o s) ss (place_of s.candidate) (step_at o s),
  first_least (earlier_of o s) ss,
)

-- it is the candidate or one of the list
step_member : (o : Option Candidate) (s : Signed) → (earlier_of o s ≡ o) ⊎ (earlier_of o s ≡ Some s.candidate)
step_member None s = inr refl
step_member (Some c) s = elim (cases_Bool (earlier c s.candidate)) [
  | inl on ↦ inl (ap (λ b. cond b (Some c) (Some s.candidate)) on)
  | inr off ↦ inr (ap (λ b. cond b (Some c) (Some s.candidate)) off)
]

pub first_member : (o : Option Candidate) (found : List Signed) →
    (fold earlier_of o found ≡ o) ⊎ ((s : Signed) × Contains found s × (fold earlier_of o found ≡ Some s.candidate))
first_member o [] = inl refl
first_member o (s ∷ ss) = elim (first_member (earlier_of o s) ss) [
  | inr later ↦ let (x, (k, l, is), same) = later in inr (x, (suc k, omega arith, is), same)
  | inl here ↦ elim (step_member o s) [
    | inl old ↦ inl (here ∙ old)
    | inr new ↦ inr (s, (0, omega arith, refl), here ∙ new)
  ]
]

some_from : (o : Option Candidate) (p : Place) → IsNoLater o p → (c : Candidate) × (o ≡ Some c) × (is_no_later (place_of c) p ≡ true)
some_from None p h = absurd h
some_from (Some c) p h = (c, refl, h)

pub not_sooner : (a p : Place) → comes_sooner a p ≡ false → is_no_later a p ≡ true
not_sooner a p h = grind (arith, nat_tests)

module _ (mesh : Mesh) (lengths : List ℕ) (trees : ℕ → Tree) (surface : IsSurface mesh)
    (positive : ArePositive mesh lengths) (shortest : AreShortestTrees mesh lengths trees) (d : Split)
    (split : IsSplit (cells_of mesh) d) where
  abbrev pub is_null : ℕ → ℕ → Type 0
  is_null z e = IsNull mesh (loop_walk mesh (trees z) e)

  -- each loop at the vertices of a set that isn't null comes no earlier
  abbrev pub Least : (ℕ → Bool) → Option Candidate → Type 0
  Least set o = (y f : ℕ) → y < mesh.vertices → IsTrue (set y) → f < edge_count mesh → (is_null y f → ⊥) →
      IsNoLater o (place_at mesh lengths trees y f)

  pub least_of : (set : ℕ → Bool) (o : Option Candidate) → IsFirstOf mesh lengths trees set o → Least set o
  least_of set None h y f y_in in_set f_in some = some (h y f y_in in_set f_in)
  least_of set (Some c) (z, e, first, place) y f y_in in_set f_in some =
      subst (λ p. is_no_later p (place_at mesh lengths trees y f) ≡ true) place (first.least y f y_in in_set f_in some)

  -- where it is the place of a loop that isn't null, this is the first
  pub first_some : (set : ℕ → Bool) (c : Candidate) (z e : ℕ) → z < mesh.vertices → e < edge_count mesh → (is_null z e → ⊥) →
      place_at mesh lengths trees z e ≡ place_of c → Least set (Some c) → IsFirstOf mesh lengths trees set (Some c)
  first_some set c z e z_in e_in some place least = (
    z,
    e,
    record {
      from_in = z_in;
      edge_in = e_in;
      nonnull = some;
      least = λ y f y_in in_set f_in nonnull.
          subst (λ p. is_no_later p (place_at mesh lengths trees y f) ≡ true) (sym place) (least y f y_in in_set f_in nonnull);
    },
    place,
  )

  -- one more vertex
  least_more : (set : ℕ → Bool) (z : ℕ) (o : Option Candidate) (found : List Signed) → z < mesh.vertices → Least set o →
      AreFoundBy mesh lengths trees d o z found → Least (with_vertex z set) (fold earlier_of o found)
  least_more set z o found z_in least h y f y_in in_set f_in some = elim (or_cases (set y) (eqb y z) in_set) [
    | inl old ↦ first_before o found (place_at mesh lengths trees y f) (least y f y_in old f_in some)
    | inr new ↦ at y (eqb-true y z new) some
  ]
    where
      placed : (s : Signed) → IsFound mesh lengths trees d s → s.from ≡ z → s.candidate.edge ≡ f →
          place_of s.candidate ≡ place_at mesh lengths trees z f
      placed s r from_is edge_is =
          ap (λ n. (n, s.candidate.base)) r.size
          ∙ ap (λ n. (loop_length mesh lengths (trees s.from) s.candidate.edge, n)) r.base
          ∙ ap (λ y. place_at mesh lengths trees y s.candidate.edge) from_is
          ∙ ap (place_at mesh lengths trees z) edge_is

      here : (is_null z f → ⊥) → IsNoLater (fold earlier_of o found) (place_at mesh lengths trees z f)
      here some = elim (cases_Bool (is_sought o (place_at mesh lengths trees z f))) [
        | inr off ↦ first_before o found (place_at mesh lengths trees z f) (later o refl off)
        | inl on ↦
            let class : class_of mesh d (loop_walk mesh (trees z) f) ≢ 0 =
            λ zero_is. some (zero_null mesh lengths trees surface positive shortest d split z f z_in f_in zero_is) in
            let (s, has, from_is, edge_is) = h.all f f_in class on in
            let r : IsFound mesh lengths trees d s = All-contains (IsFound mesh lengths trees d) found s h.each has in
            subst (λ p. IsNoLater (fold earlier_of o found) p) (placed s r from_is edge_is)
            (All-contains (λ s. IsNoLater (fold earlier_of o found) (place_of s.candidate)) found s
            (All-from_recursion (λ s. IsNoLater (fold earlier_of o found) (place_of s.candidate)) found (first_least o found)) has)
      ]
        where
          later : (o' : Option Candidate) → o ≡ o' → is_sought o (place_at mesh lengths trees z f) ≡ false →
              IsNoLater o (place_at mesh lengths trees z f)
          later None is off = let on : is_sought o (place_at mesh lengths trees z f) ≡ true = ap (λ x. is_sought x (place_at mesh lengths trees z f)) is in cc
          later (Some c) is off = subst (λ x. IsNoLater x (place_at mesh lengths trees z f)) (sym is)
              (not_sooner (place_of c) (place_at mesh lengths trees z f) (sym (ap (λ x. is_sought x (place_at mesh lengths trees z f)) is) ∙ off))

      at : (y : ℕ) → y ≡ z → (is_null y f → ⊥) → IsNoLater (fold earlier_of o found) (place_at mesh lengths trees y f)
      at y is = subst (λ x. (is_null x f → ⊥) → IsNoLater (fold earlier_of o found) (place_at mesh lengths trees x f)) (sym is) here

  -- of the loops that a search found at a vertex none comes before the first
  pub least_found : (o : Option Candidate) (z : ℕ) (found : List Signed) → z < mesh.vertices →
      AreFoundBy mesh lengths trees d o z found → (e : ℕ) → e < edge_count mesh → (is_null z e → ⊥) →
      IsNoLater (first_from o found) (place_at mesh lengths trees z e)
  least_found o z found z_in h e e_in some =
      least_more no_member z o found z_in (λ y f y_in in_set f_in nonnull. absurd (false≢true in_set)) h z e z_in (eq-eqb z z refl) e_in some

  -- it stays the first where no loop at further vertices comes before it
  pub first_stays : (set more : ℕ → Bool) (o : Option Candidate) → IsFirstOf mesh lengths trees set o → Least more o →
      IsFirstOf mesh lengths trees more o
  first_stays set more None first least = λ y f y_in in_more f_in.
      elim (cases_eq (class_of mesh d (loop_walk mesh (trees y) f)) 0) [
        | inl zero_is ↦ zero_null mesh lengths trees surface positive shortest d split y f y_in f_in zero_is
        | inr some ↦ absurd (least y f y_in in_more f_in (λ null. some ((null_by_class mesh d surface split
            (loop_walk mesh (trees y) f) (loop_closed mesh lengths trees surface shortest y f y_in f_in)).0 null)))
      ]
  first_stays set more (Some c) (y, f, was, place) least = first_some more c y f was.from_in was.edge_in was.nonnull place least

  pub first_more : (set : ℕ → Bool) (z : ℕ) (o : Option Candidate) (found : List Signed) → z < mesh.vertices →
      IsFirstOf mesh lengths trees set o → AreFoundBy mesh lengths trees d o z found →
      IsFirstOf mesh lengths trees (with_vertex z set) (fold earlier_of o found)
  first_more set z o found z_in first h = elim (first_member o found) [
    | inl same ↦ subst (IsFirstOf mesh lengths trees (with_vertex z set)) (sym same)
        (first_stays set (with_vertex z set) o first (subst (Least (with_vertex z set)) same least))
    | inr new ↦
        let (s, has, is) = new in
        let r : IsFound mesh lengths trees d s = All-contains (IsFound mesh lengths trees d) found s h.each has in
        subst (IsFirstOf mesh lengths trees (with_vertex z set)) (sym is)
        (first_some (with_vertex z set) s.candidate s.from s.candidate.edge r.from_in r.edge_in
        (λ null. All-contains (λ c. c.signature ≢ 0) found s h.some has (r.signature
        ∙ (null_by_class mesh d surface split (loop_walk mesh (trees s.from) s.candidate.edge)
        (loop_closed mesh lengths trees surface shortest s.from s.candidate.edge r.from_in r.edge_in)).0 null))
        (sym (ap (λ n. (n, s.candidate.base)) r.size ∙ ap (λ n. (loop_length mesh lengths (trees s.from) s.candidate.edge, n)) r.base))
        (subst (Least (with_vertex z set)) is least))
  ]
    where
      least : Least (with_vertex z set) (fold earlier_of o found)
      least = least_more set z o found z_in (least_of set o first) h

  -- for fewer vertices
  pub first_fewer : (set part : ℕ → Bool) (o : Option Candidate) → ((v : ℕ) → IsTrue (part v) → IsTrue (set v)) →
      IsFirstOf mesh lengths trees set o → IsFirstOf mesh lengths trees part o
  first_fewer set part None sub h = λ y f y_in in_part f_in. h y f y_in (sub y in_part) f_in
  first_fewer set part (Some c) sub (y, f, was, place) = (
    y,
    f,
    record {
      from_in = was.from_in;
      edge_in = was.edge_in;
      nonnull = was.nonnull;
      least = λ x g x_in in_part g_in some. was.least x g x_in (sub x in_part) g_in some;
    },
    place,
  )

  -- with the next vertex of a list
  pub first_next : (vs : List ℕ) (i z : ℕ) (o next : Option Candidate) (found : List Signed) → z < mesh.vertices → i < length vs →
      get_or vs i z ≡ z → IsFirstOf mesh lengths trees (is_among (take i vs)) o → AreFoundBy mesh lengths trees d o z found →
      next ≡ first_from o found → IsFirstOf mesh lengths trees (is_among (take (i + 1) vs)) next
  first_next vs i z o next found z_in l at first h is =
      first_fewer (with_vertex z (is_among (take i vs))) (is_among (take (i + 1) vs)) next (λ v in'. among_more vs i z v l at in')
      (subst (IsFirstOf mesh lengths trees (with_vertex z (is_among (take i vs)))) (sym is)
      (first_more (is_among (take i vs)) z o found z_in first h))

-- of no vertices there is none
pub first_begun : (mesh : Mesh) (lengths : List ℕ) (s : SignTables) (vs : List ℕ) → IsFirstAmong mesh lengths s (take 0 vs) None
first_begun mesh lengths s vs trees chosen d split are z e z_in in_set e_in = cc
