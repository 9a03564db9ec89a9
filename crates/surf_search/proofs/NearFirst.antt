-- The first of the loops at the vertices of a set stays the first with vertices near one where all loops are longer.
use Rattle.surf_search.proofs.Common.{◌≡◌, ◌≢◌, ℕ, ◌<◌, ◌≤◌, ◌+◌, ◌*◌, Bool, true, false, List, [], ◌∷◌, Option, Some, sym, ◌∙◌, subst, arith, inl, inr, cases_Bool, cases_eq, false≢true, nat_tests, xor-false, Split, IsSplit, Tree, Mesh, edge_count, IsSurface, ArePositive, parity, IsNull, cells_of, class_of, AreShortestTrees, loop_walk, loop_length, DependsOn, Place, is_no_later, comes_sooner, place_at, AreEnoughOf, choice_exists, null_by_class, shortest_trees, loop_closed, AgreeOff, with_near, near_vertices_need_no_more, Candidate, place_of, is_sought, SignTables, SurfaceTables, IsFirstOf, IsFirstAt, is_marked, AreMarkedNear, IsAhead, IsFirstIn, StaysFirst}
use Rattle.surf_finder.proofs.PassedOver.{sought_before, no_longer, all_near}
use Rattle.surf_search.proofs.FirstFound.{IsNoLater, least_found, first_fewer}
use Rattle.surf_finder.proofs.Searched.{depends_null, zero_null}

-- what depends on no walks is null
pub nothing_null : (mesh : Mesh) (walk : List ℕ) → DependsOn mesh [] walk → IsNull mesh walk
nothing_null mesh walk ([], (faces, is)) = (faces, λ e l. sym (xor-false (parity mesh walk e)) ∙ is e l)
nothing_null mesh walk (b ∷ bs, (faces, is)) = (faces, λ e l. sym (xor-false (parity mesh walk e)) ∙ is e l)

not_sooner : (a p : Place) → comes_sooner a p ≡ false → is_no_later a p ≡ true
not_sooner a p h = grind (arith, nat_tests)

pub sooner_not : (a p : Place) → comes_sooner a p ≡ true → is_no_later a p ≡ false
sooner_not a p h = grind (arith, nat_tests)

module _ (mesh : Mesh) (lengths other : List ℕ) (trees others : ℕ → Tree) (surface : IsSurface mesh)
    (positive : ArePositive mesh lengths) (positive_too : ArePositive mesh other)
    (shortest : AreShortestTrees mesh lengths trees) (shortest_too : AreShortestTrees mesh other others) (d : Split)
    (split : IsSplit (cells_of mesh) d) where
  pub first_near : (set : ℕ → Bool) (c : Candidate) (z far : ℕ) → z < mesh.vertices → AgreeOff mesh lengths other set →
      IsFirstOf mesh lengths trees set (Some c) →
      ((e : ℕ) → e < edge_count mesh → class_of mesh d (loop_walk mesh (others z) e) ≢ 0 →
      c.length + 2 * far < loop_length mesh other (others z) e) → IsFirstOf mesh lengths trees (with_near others z far set) (Some c)
  first_near set c z far z_in agree (x, g, first, place) long = (
    x,
    g,
    record {
      from_in = first.from_in;
      edge_in = first.edge_in;
      nonnull = first.nonnull;
      least = λ y e y_in in_near e_in some. elim (cases_Bool (is_sought (Some c) (place_at mesh lengths trees y e))) [
        | inr off ↦ subst (λ p. is_no_later p (place_at mesh lengths trees y e) ≡ true) (sym place)
            (not_sooner (place_of c) (place_at mesh lengths trees y e) off)
        | inl on ↦ absurd (some (nothing_null mesh (loop_walk mesh (trees y) e) (near.depend y e y_in in_near e_in on)))
      ];
    },
    place,
  )
    where
      -- what comes before the first is null at the vertices of the set
      enough : AreEnoughOf mesh lengths trees (is_sought (Some c)) set []
      enough = record {
        loops = λ k b l. absurd (omega arith);
        depend = λ y e y_in in_set e_in sought. elim (cases_eq (class_of mesh d (loop_walk mesh (trees y) e)) 0) [
          | inl zero_is ↦ depends_null mesh [] (loop_walk mesh (trees y) e)
              (zero_null mesh lengths trees surface positive shortest d split y e y_in e_in zero_is)
          | inr some ↦
              let later : is_no_later (place_of c) (place_at mesh lengths trees y e) ≡ true =
              subst (λ p. is_no_later p (place_at mesh lengths trees y e) ≡ true) place
              (first.least y e y_in in_set e_in (λ null. some ((null_by_class mesh d surface split (loop_walk mesh (trees y) e)
              (loop_closed mesh lengths trees surface shortest y e y_in e_in)).0 null))) in
              absurd (false≢true (sym (sooner_not (place_of c) (place_at mesh lengths trees y e) sought) ∙ later))
        ];
      }

      near : AreEnoughOf mesh lengths trees (is_sought (Some c)) (with_near others z far set) []
      near = near_vertices_need_no_more mesh lengths other trees others (is_sought (Some c)) set z far c.length []
          surface positive positive_too shortest shortest_too agree z_in enough
          (λ p q before sought. sought_before c p q before sought)
          (λ p sought. no_longer c.length c.base p.0 p.1 sought)
          (λ e e_in le. elim (cases_eq (class_of mesh d (loop_walk mesh (others z) e)) 0) [
            | inl zero_is ↦ depends_null mesh [] (loop_walk mesh (others z) e)
                (zero_null mesh other others surface positive_too shortest_too d split z e z_in e_in zero_is)
            | inr some ↦ let far_off = long e e_in some in absurd (omega (arith, le, far_off))
          ])

-- the first stays the first with what a search has marked that found all loops longer
pub first_scouted : (f : SurfaceTables) (wide : Option Candidate) (c n : Candidate) (old new : List Bool) (z far : ℕ) →
    IsSurface f.mesh → ArePositive f.mesh f.lengths → z < f.mesh.vertices → IsFirstAt f wide z (Some n) →
    c.length + 2 * far < n.length → AreMarkedNear f.mesh f.lengths z far old new → StaysFirst f old new (Some c)
first_scouted f wide c n old new z far surface positive_too z_in at less marked lengths positive agree first trees chosen d split are =
    let (others, chosen_too) = choice_exists f.mesh f.lengths surface positive_too in
    let by : ℕ → Tree = λ x. (trees x).tree in
    let too : ℕ → Tree = λ x. (others x).tree in
    let shortest = shortest_trees f.mesh lengths surface positive trees chosen in
    let shortest_too = shortest_trees f.mesh f.lengths surface positive_too others chosen_too in
    let least : (e : ℕ) → e < edge_count f.mesh → class_of f.mesh d (loop_walk f.mesh (too z) e) ≢ 0 →
    n.length ≤ loop_length f.mesh f.lengths (too z) e = λ e e_in some.
    no_sooner n (place_at f.mesh f.lengths too z e)
    (subst (λ (o : Option Candidate). IsNoLater o (place_at f.mesh f.lengths too z e)) (sym at.is_first)
    (least_found f.mesh f.lengths too surface positive_too shortest_too d split wide z at.found z_in (at.are others chosen_too d are) e e_in
    (λ null. some ((null_by_class f.mesh d surface split (loop_walk f.mesh (too z) e)
    (loop_closed f.mesh f.lengths too surface shortest_too z e z_in e_in)).0 null)))) in
    first_fewer f.mesh lengths by surface positive shortest d split (with_near too z far (is_marked old)) (is_marked new) (Some c)
    (all_near f.mesh f.lengths z far (too z) old new (marked.only (too z) (chosen_too z z_in).shortest))
    (first_near f.mesh lengths f.lengths by too surface positive positive_too shortest shortest_too d split (is_marked old) c z far z_in
    agree (first trees chosen d split are) (λ e e_in some. (let le = least e e_in some in omega (arith, le, less))))
  where
    no_sooner : (a : Candidate) (p : Place) → is_no_later (place_of a) p ≡ true → a.length ≤ p.0
    no_sooner a p h = grind (arith, nat_tests)

-- what stays the first to a scout does so to the finder behind it
pub ahead_first_in : (f scout : SurfaceTables) (before after : List Bool) (first : Option Candidate) → IsAhead f scout before →
    ArePositive f.mesh f.lengths → StaysFirst scout before after first →
    IsFirstIn f.mesh f.lengths f.signs (is_marked before) first → IsFirstIn f.mesh f.lengths f.signs (is_marked after) first
ahead_first_in f scout before after first h positive stay was =
    let at : (m : Mesh) (s : SignTables) → m ≡ f.mesh → s ≡ f.signs → ((lengths : List ℕ) → ArePositive m lengths →
    AgreeOff m lengths scout.lengths (is_marked before) → IsFirstIn m lengths s (is_marked before) first →
    IsFirstIn m lengths s (is_marked after) first) →
    IsFirstIn f.mesh f.lengths f.signs (is_marked after) first =
    λ m s e d k. subst (λ t. (IsFirstIn f.mesh f.lengths t (is_marked before) first →
    IsFirstIn f.mesh f.lengths t (is_marked after) first)) d
    (subst (λ x. (ArePositive x f.lengths → AgreeOff x f.lengths scout.lengths (is_marked before) →
    IsFirstIn x f.lengths s (is_marked before) first → IsFirstIn x f.lengths s (is_marked after) first)) e (k f.lengths)
    positive h.off) was in
    at scout.mesh scout.signs h.mesh h.signs stay
