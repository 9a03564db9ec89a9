-- There is one chosen walk in each class.
use Rattle.surf_surfaces.proofs.Common.{◌≡◌, ℕ, suc, ◌+◌, ◌<◌, ◌≤◌, ◌⊎◌, List, [], ◌∷◌, ◌++◌, length, reverse, refl, sym, ap, ◌∙◌, subst, arith, inl, inr, Contains, cases_lt, All-from_recursion, xor-false, primal, Split, IsSplit, graph_walk_length, Mesh, pair_of, edges, IsSurface, IsClosed, ArePositive, edge_length, first, parity, walk_length, tail, cells_of, edge_signature, walk_signature, least_such}
use Rattle.std.proofs.lemmas.List.{reverse-reverse, length-append}
use Rattle.surf_surfaces.proofs.meshes.CellLaws.{surfaces_are_cells}
use Rattle.surf_surfaces.proofs.classes.ClassLaws.{some_split, some_vertex}
use Rattle.surf_classes.specs.Shortest.{IsInClass, IsShortestInClass, IsChosenWalk}
use Rattle.surf_classes.specs.ShortestLaws.{ChosenWalkIsOne, NullChoiceIsVertex}
use Rattle.surf_classes.proofs.SignedWalks.{walk_sum, Goes, IsLeastWalk, Found, seek, least_one, least_at, least_from}
use Rattle.surf_classes.proofs.Rounds.{Signed, reverse_at, homologous_by_signature, backwards, Round, forwards}

module _ (mesh : Mesh) (lengths : List ℕ) (d : Split) where
  -- the vertices of the walk are the least with which one of its length and signature can go on
  abbrev pub Least : ℕ → ℕ → List ℕ → Type 0
  Least = IsLeastWalk (primal (cells_of mesh)) (edge_length lengths) (edge_signature mesh d)

  -- of the rounds with a signature the shortest, of these the one at the least vertex, and there the least
  pub record LeastRound (s x n : ℕ) (w : List ℕ) : Type 0 where
    pub base_in : x < mesh.vertices
    pub goes : Signed mesh lengths d x w x n s
    pub least : Least x x w
    pub shortest : (y m : ℕ) (v : List ℕ) → y < mesh.vertices → Signed mesh lengths d y v y m s → n ≤ m
    pub first_base : (y : ℕ) (v : List ℕ) → y < mesh.vertices → Signed mesh lengths d y v y n s → x ≤ y

module _ (mesh : Mesh) (lengths : List ℕ) (d : Split) (surface : IsSurface mesh) (positive : ArePositive mesh lengths)
    (split : IsSplit (cells_of mesh) d) (walk : List ℕ) (closed : IsClosed mesh walk) where
  -- a round with the signature of the walk is in its class
  round_in_class : (other : List ℕ) (x n : ℕ) → Round mesh lengths d surface other x n (walk_signature mesh d walk) →
      IsInClass mesh walk other
  round_in_class other x n r = record {
    closed = r.closed;
    homologous = (homologous_by_signature mesh d surface split walk other closed r.closed).1 (sym r.signs);
  }

  -- a walk of the class, run backwards
  record InClassBackwards (other : List ℕ) : Type 0 where
    first_in : first other < mesh.vertices
    rest : List ℕ
    is_reverse : reverse other ≡ first other ∷ rest
    goes : Signed mesh lengths d (first other) rest (first other) (walk_length mesh lengths other)
        (walk_signature mesh d walk)

  class_backwards : (other : List ℕ) → IsInClass mesh walk other → InClassBackwards other
  class_backwards other in_class =
      let r = backwards mesh lengths d surface other in_class.closed in
      let same = (homologous_by_signature mesh d surface split walk other closed in_class.closed).0 in_class.homologous in
      record {
        first_in = r.first_in;
        rest = r.rest;
        is_reverse = r.is_reverse;
        goes = record { walk = r.goes.walk; size = r.goes.size; sum = r.goes.sum ∙ sym same };
      }

  -- what goes on less after the same part is not the least
  compare : (s x n : ℕ) (w r : List ℕ) → Signed mesh lengths d x w x n s → Signed mesh lengths d x r x n s →
      Least mesh lengths d x x w → (q b o : List ℕ) (u v : ℕ) → x ∷ w ≡ q ++ u ∷ b → x ∷ r ≡ q ++ v ∷ o → u ≤ v
  compare s x n w r goes other least [] b o u v is_w is_r =
      let one : x ≡ u = ap first is_w in
      let two : x ≡ v = ap first is_r in
      omega arith
  compare s x n w r goes other least (c ∷ q) b o u v is_w is_r =
      let here : w ≡ q ++ u ∷ b = ap tail is_w in
      let there : r ≡ q ++ v ∷ o = ap tail is_r in
      let g = primal (cells_of mesh) in
      let len = edge_length lengths in
      let sig = edge_signature mesh d in
      least_at g len sig x x q u v b o (subst (Least mesh lengths d x x) here least)
      (subst (λ xs. Goes g len sig x xs x (graph_walk_length g len x (q ++ u ∷ b)) (walk_sum g sig x (q ++ u ∷ b))) there
      (subst (λ xs. Goes g len sig x r x (graph_walk_length g len x xs) (walk_sum g sig x xs)) here
      (record { walk = other.walk; size = other.size ∙ sym goes.size; sum = other.sum ∙ sym goes.sum })))

  module _ (x n : ℕ) (w : List ℕ) (round : LeastRound mesh lengths d (walk_signature mesh d walk) x n w) where
    whole : Round mesh lengths d surface (reverse (x ∷ w)) x n (walk_signature mesh d walk)
    whole = forwards mesh lengths d surface x n (walk_signature mesh d walk) w round.base_in round.goes

    -- no walk of the class is shorter
    no_shorter : (third : List ℕ) → IsInClass mesh walk third → n ≤ walk_length mesh lengths third
    no_shorter third in_class =
        let r = class_backwards third in_class in
        round.shortest (first third) (walk_length mesh lengths third) r.rest r.first_in r.goes

    -- each round of its length is shortest
    shortest_round : (other : List ℕ) (y : ℕ) → Round mesh lengths d surface other y n (walk_signature mesh d walk) →
        IsShortestInClass mesh lengths walk other
    shortest_round other y r = record {
      in_class = round_in_class other y n r;
      shortest = λ third in_class. subst (λ m. m ≤ walk_length mesh lengths third) (sym r.size) (no_shorter third in_class);
    }

    shortest_whole : IsShortestInClass mesh lengths walk (reverse (x ∷ w))
    shortest_whole = shortest_round (reverse (x ∷ w)) x whole

    -- and each shortest one has its length
    same_length : (other : List ℕ) → IsShortestInClass mesh lengths walk other → walk_length mesh lengths other ≡ n
    same_length other short =
        let one = short.shortest (reverse (x ∷ w)) shortest_whole.in_class in
        let two = no_shorter other short.in_class in
        let size = whole.size in
        omega (arith, one, two, size)

    -- a shortest one, run backwards
    short_goes : (other : List ℕ) (short : IsShortestInClass mesh lengths walk other) →
        Signed mesh lengths d (first other) (class_backwards other short.in_class).rest (first other) n (walk_signature mesh d walk)
    short_goes other short =
        let r = class_backwards other short.in_class in
        record { walk = r.goes.walk; size = r.goes.size ∙ same_length other short; sum = r.goes.sum }

    pub chosen_from : IsChosenWalk mesh lengths walk (reverse (x ∷ w))
    chosen_from = record {
      shortest = shortest_whole;
      least_first = λ other short.
          let r = class_backwards other short.in_class in
          subst (λ y. y ≤ first other) (sym whole.at_base)
          (round.first_base (first other) r.rest r.first_in (short_goes other short));
      least_before = λ before other part u v is short at_base.
          let full = other ++ v ∷ part in
          let r = class_backwards full short.in_class in
          let base : first full ≡ x = at_base ∙ whole.at_base in
          let goes : Signed mesh lengths d x r.rest x n (walk_signature mesh d walk) =
          subst (λ y. Signed mesh lengths d y r.rest y n (walk_signature mesh d walk)) base (short_goes full short) in
          compare (walk_signature mesh d walk) x n w r.rest round.goes goes round.least (reverse part) (reverse before)
          (reverse other) u v
          (sym (reverse-reverse (x ∷ w)) ∙ ap reverse is ∙ reverse_at before part u)
          (ap (λ y. y ∷ r.rest) (sym base) ∙ sym r.is_reverse ∙ reverse_at other part v);
    }

    pub chosen_is : (other : List ℕ) → IsChosenWalk mesh lengths walk other → other ≡ reverse (x ∷ w)
    chosen_is other chosen =
        let s = walk_signature mesh d walk in
        let g = primal (cells_of mesh) in
        let len = edge_length lengths in
        let sig = edge_signature mesh d in
        let r = class_backwards other chosen.shortest.in_class in
        let own = short_goes other chosen.shortest in
        let one : x ≤ first other = round.first_base (first other) r.rest r.first_in own in
        let two : first other ≤ first (reverse (x ∷ w)) = chosen.least_first (reverse (x ∷ w)) shortest_whole in
        let base_is : first (reverse (x ∷ w)) ≡ x = whole.at_base in
        let base : first other ≡ x = omega arith in
        let goes : Signed mesh lengths d x r.rest x n s = subst (λ y. Signed mesh lengths d y r.rest y n s) base own in
        let back : other ≡ reverse (x ∷ r.rest) =
        sym (reverse-reverse other) ∙ ap reverse (r.is_reverse ∙ ap (λ y. y ∷ r.rest) base) in
        let least : Least mesh lengths d x x r.rest = least_from g len sig x x r.rest goes.walk (λ p u v w' q is other_goes.
        let round_there = forwards mesh lengths d surface x n s (p ++ v ∷ q) round.base_in
        (record { walk = other_goes.walk; size = other_goes.size ∙ goes.size; sum = other_goes.sum ∙ goes.sum }) in
        let there : reverse (x ∷ (p ++ v ∷ q)) ≡ reverse q ++ v ∷ reverse (x ∷ p) = reverse_at (x ∷ p) q v in
        chosen.least_before (reverse w') (reverse q) (reverse (x ∷ p)) u v
        (back ∙ ap (λ xs. reverse (x ∷ xs)) is ∙ reverse_at (x ∷ p) w' u)
        (subst (IsShortestInClass mesh lengths walk) there (shortest_round (reverse (x ∷ (p ++ v ∷ q))) x round_there))
        (subst (λ xs. first xs ≡ first other) there (round_there.at_base ∙ sym base))) in
        back ∙ ap (λ xs. reverse (x ∷ xs))
        (least_one g len sig (surfaces_are_cells mesh surface).complex.primal_ends positive x x r.rest w n s goes round.goes
        least round.least)

-- ---- the least round

module _ (mesh : Mesh) (lengths : List ℕ) (d : Split) (surface : IsSurface mesh) (positive : ArePositive mesh lengths) where
  -- the least round at a vertex of a length and with a signature
  abbrev FoundAt : ℕ → ℕ → ℕ → Type 0
  FoundAt s n y = Found (primal (cells_of mesh)) (edge_length lengths) (edge_signature mesh d)
      (surfaces_are_cells mesh surface).complex.primal_ends positive y y n s

  found_at : (s n y : ℕ) → FoundAt s n y ⊎ ((v : List ℕ) → Signed mesh lengths d y v y n s → ⊥)
  found_at s n y = seek (primal (cells_of mesh)) (edge_length lengths) (edge_signature mesh d)
      (surfaces_are_cells mesh surface).complex.primal_ends positive n n (omega arith) y y s

  -- the first vertex with such a round
  record AtLength (s n : ℕ) : Type 0 where
    base : ℕ
    base_in : base < mesh.vertices
    found : FoundAt s n base
    first_base : (y : ℕ) (v : List ℕ) → y < mesh.vertices → Signed mesh lengths d y v y n s → base ≤ y

  at_length : (s n : ℕ) →
      AtLength s n ⊎ ((y : ℕ) (v : List ℕ) → y < mesh.vertices → Signed mesh lengths d y v y n s → ⊥)
  at_length s n =
      elim (least_such mesh.vertices (FoundAt s n) (λ y l. elim (found_at s n y) [
        | inl found ↦ inl found
        | inr none ↦ inr (λ found. none found.walk found.goes)
      ])) [
        | inl some ↦ inl (record {
          base = some.at;
          base_in = some.below;
          found = some.holds;
          first_base = λ y v l h. some.least y l (elim (found_at s n y) [
            | inl found ↦ found
            | inr none ↦ absurd (none v h)
          ]);
        })
        | inr none ↦ inr (λ y v l h. elim (found_at s n y) [
          | inl found ↦ none y l found
          | inr out ↦ out v h
        ])
      ]

  pub record SomeRound (s : ℕ) : Type 0 where
    pub base : ℕ
    pub size : ℕ
    pub walk : List ℕ
    pub is_least : LeastRound mesh lengths d s base size walk

  pub least_round : (s x n : ℕ) (w : List ℕ) → x < mesh.vertices → Signed mesh lengths d x w x n s → SomeRound s
  least_round s x n w x_in goes =
      elim (least_such (suc n) (AtLength s) (λ m l. elim (at_length s m) [
        | inl found ↦ inl found
        | inr none ↦ inr (λ found. none found.base found.found.walk found.base_in found.found.goes)
      ])) [
        | inl some ↦ record {
          base = some.holds.base;
          size = some.at;
          walk = some.holds.found.walk;
          is_least = record {
            base_in = some.holds.base_in;
            goes = some.holds.found.goes;
            least = some.holds.found.least;
            shortest = λ y m v l h. elim (cases_lt m (suc n)) [
              | inl below ↦ some.least m below (elim (at_length s m) [
                | inl found ↦ found
                | inr none ↦ absurd (none y v l h)
              ])
              | inr above ↦ let under : some.at < suc n = some.below in omega arith
            ];
            first_base = some.holds.first_base;
          };
        }
        | inr none ↦ absurd (none n (omega arith) (elim (at_length s n) [
          | inl found ↦ found
          | inr out ↦ absurd (out x w x_in goes)
        ]))
      ]

pub chosen_walk_is_one : ChosenWalkIsOne
chosen_walk_is_one mesh lengths walk surface positive closed =
    let (d, split) = some_split mesh surface in
    let r = backwards mesh lengths d surface walk closed in
    let some = least_round mesh lengths d surface positive (walk_signature mesh d walk) (first walk)
    (walk_length mesh lengths walk) r.rest r.first_in r.goes in (
      reverse (some.base ∷ some.walk),
      chosen_from mesh lengths d surface positive split walk closed some.base some.size some.walk some.is_least,
      chosen_is mesh lengths d surface positive split walk closed some.base some.size some.walk some.is_least,
    )

-- ---- null walks

alone : (before part : List ℕ) (u : ℕ) → 0 ∷ [] ≡ before ++ u ∷ part → u ≡ 0
alone [] part u is = sym (ap first is)
alone (b ∷ before) part u is =
    let size : 0 ≡ length (before ++ u ∷ part) = ap (λ xs. length (tail xs)) is in
    let long : length (before ++ u ∷ part) ≡ length before + length (u ∷ part) = length-append before (u ∷ part) in
    absurd (omega arith)

pub null_choice_is_vertex : NullChoiceIsVertex
null_choice_is_vertex mesh lengths walk surface positive closed null =
    let at : IsClosed mesh (0 ∷ []) = vertex_closed mesh 0 (some_vertex mesh surface) in
    let in_class : IsInClass mesh walk (0 ∷ []) = record {
      closed = at;
      homologous = (null.0, λ e l. xor-false (parity mesh walk e) ∙ null.1 e l);
    } in
    record {
      shortest = record { in_class = in_class; shortest = λ third other. omega arith };
      least_first = λ other short. omega arith;
      least_before = λ before other part u v is short at_base.
          let none : u ≡ 0 = alone before part u is in omega arith;
    }
  where
    vertex_closed : (mesh : Mesh) (x : ℕ) → x < mesh.vertices → IsClosed mesh (x ∷ [])
    vertex_closed mesh x l = record {
      is_walk = record {
        begins = omega arith;
        vertices = All-from_recursion (λ v. v < mesh.vertices) (x ∷ []) (l, tt);
        along_edges = All-from_recursion (λ s. Contains (edges mesh) (pair_of s)) [] tt;
      };
      returns = refl;
    }
