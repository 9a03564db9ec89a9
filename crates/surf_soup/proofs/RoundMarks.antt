-- A round as it goes on, by the sides that it has marked and listed.
use Rattle.surf_surfaces.proofs.Common.{◌≡◌, ℕ, ◌<◌, Bool, true, false, List, [], ◌∷◌, ◌++◌, length, get_or, set, sym, ap, subst, ◌∙◌, arith, Mesh, after, before, side_count}
use Rattle.std.proofs.lemmas.List.{length_push, append-nil, append_assoc}
use Rattle.surf_soup.specs.Vertices.{all_corners}
use Rattle.surf_soup.specs.Reach.{marked}
use Rattle.surf_soup.specs.Ring.{nexts, befores, dart_corner, turn_of, AreDartTables, dart_before, IsRound, IsTrail}
use Rattle.surf_soup.specs.Ring.{IsRoundMarked, IsRoundListed, BeginsAt}
use Rattle.surf_soup.proofs.DartLaws.{are_darts}
use Rattle.surf_soup.proofs.RoundSteps.{Rounds, round_start, round_more, round_end, round_side, round_at, AreDarts}
use Rattle.surf_soup.proofs.RoundSteps.{trail_start, trail_more}
use Rattle.surf_soup.proofs.TurnedSides.{turned_len, turned_is}

-- a round so far
pub record IsMarkedUpto (mesh : Mesh) (mate : List ℕ) (home : ℕ) (seen_before : List Bool) (side : ℕ) (head : Bool)
    (at : ℕ) (seen : List Bool) : Type 0 where
  pub ring : List ℕ
  pub rounds : Rounds (nexts mesh) (befores mesh) mate (all_corners mesh) (dart_before mesh home) seen_before side head
      at seen ring

-- it is listed behind other sides too, and its edges behind other edges
pub record IsListedUpto (mesh : Mesh) (mate edge_of : List ℕ) (home : ℕ) (seen_before : List Bool) (side : ℕ)
    (head : Bool) (at : ℕ) (seen : List Bool) (sides_before sides edges_before edges : List ℕ) : Type 0 where
  pub ring : List ℕ
  pub between : List ℕ
  pub sides_are : sides ≡ sides_before ++ ring
  pub edges_are : edges ≡ edges_before ++ between
  pub rounds : Rounds (nexts mesh) (befores mesh) mate (all_corners mesh) (dart_before mesh home) seen_before side head
      at seen ring
  pub trail : IsTrail (nexts mesh) (befores mesh) mate (all_corners mesh) edge_of (dart_before mesh home) (length ring)
      between

module _ (mesh : Mesh) (mate edge_of : List ℕ) (tables : AreDartTables mesh mate) where
  pub darts : AreDarts (nexts mesh) (befores mesh) mate (all_corners mesh)
  darts = are_darts mesh tables.is_mesh tables.two mate tables.mates (nexts mesh) (befores mesh) (turned_is after mesh)
      (turned_is before mesh)

  pub inside : (s : ℕ) → s < side_count mesh → s < length (nexts mesh)
  inside s lt = let n = turned_len after mesh in omega arith

  module _ (home : ℕ) (is_side : home < side_count mesh) where
    pub start_in : get_or (befores mesh) home 0 < length (nexts mesh)
    start_in = darts.prev_in home (inside home is_side)

    pub start_corner : get_or (nexts mesh) (get_or (befores mesh) home 0) 0 ≡ home
    start_corner = darts.next_prev home (inside home is_side)

    -- the round that begins, as it goes on, and whole
    abbrev RoundSoFar : List Bool → ℕ → Bool → ℕ → List Bool → List ℕ → Type 0
    RoundSoFar seen_before side head at seen ring =
        Rounds (nexts mesh) (befores mesh) mate (all_corners mesh) (dart_before mesh home) seen_before side head at seen
        ring

    rounds_start : (seen : List Bool) (side : ℕ) → length seen ≡ side_count mesh →
        side ≡ get_or (befores mesh) home 0 → RoundSoFar seen side true home seen []
    rounds_start seen side size is =
        let n = turned_len after mesh in
        let d = dart_before mesh home in
        let P : ℕ → Type 0 = λ at. RoundSoFar seen (get_or (befores mesh) home 0) true at seen [] in
        let Q : ℕ → Type 0 = λ from. RoundSoFar seen from true home seen [] in
        subst Q (sym is)
        (subst P start_corner
        (round_start (nexts mesh) (befores mesh) mate (all_corners mesh) darts d seen (size ∙ sym n)))

    pub marked_start : (seen : List Bool) (side : ℕ) → length seen ≡ side_count mesh →
        side ≡ get_or (befores mesh) home 0 → IsMarkedUpto mesh mate home seen side true home seen
    marked_start seen side size is = record { ring = []; rounds = rounds_start seen side size is }

    pub listed_start : (seen : List Bool) (side : ℕ) (sides edges : List ℕ) → length seen ≡ side_count mesh →
        side ≡ get_or (befores mesh) home 0 →
        IsListedUpto mesh mate edge_of home seen side true home seen sides sides edges edges
    listed_start seen side sides edges size is = record {
      ring = [];
      between = [];
      sides_are = sym (append-nil sides);
      edges_are = sym (append-nil edges);
      rounds = rounds_start seen side size is;
      trail = trail_start (nexts mesh) (befores mesh) mate (all_corners mesh) darts edge_of (dart_before mesh home);
    }

    module _ (seen_before : List Bool) (side : ℕ) (head : Bool) (at : ℕ) (seen : List Bool)
        (ring : List ℕ) (rounds : RoundSoFar seen_before side head at seen ring)
      where
        rounds_side : side < side_count mesh
        rounds_side = let n = turned_len after mesh in
            omega (
              arith,
              n,
              round_side (nexts mesh) (befores mesh) mate (all_corners mesh) darts
                  (dart_before mesh home) seen_before seen side at head ring start_in rounds,
            )

        rounds_at : at < length seen
        rounds_at = round_at (nexts mesh) (befores mesh) mate (all_corners mesh) darts (dart_before mesh home)
            seen_before seen side at head ring start_in rounds

        rounds_more : marked seen at ≡ false → (side' at' : ℕ) (head' : Bool) →
            (side', head') ≡ turn_of (nexts mesh) (befores mesh) mate (all_corners mesh) (side, head) →
            at' ≡ dart_corner (nexts mesh) (side', head') →
            RoundSoFar seen_before side' head' at' (set seen at true) (ring ++ at ∷ [])
        rounds_more new side' at' head' dart corner =
            round_more (nexts mesh) (befores mesh) mate (all_corners mesh) darts (dart_before mesh home) seen_before
            seen side at head ring start_in rounds new side' at' head' dart corner

        rounds_end : ((s : ℕ) → BeginsAt mesh (get_or (all_corners mesh) home 0) s → marked seen_before s ≡ false) →
            marked seen at ≡ true →
            IsRound (nexts mesh) (befores mesh) mate (all_corners mesh) (dart_before mesh home) seen_before seen ring
        rounds_end fresh end =
            round_end (nexts mesh) (befores mesh) mate (all_corners mesh) darts (dart_before mesh home) seen_before seen
            side at head ring start_in
            (λ s lt e. let n = turned_len after mesh in
            fresh s (omega arith, e ∙ ap (λ t. get_or (all_corners mesh) t 0) start_corner)) rounds end

    module _ (seen_before : List Bool) (side : ℕ) (head : Bool) (at : ℕ) (seen : List Bool)
        (so_far : IsMarkedUpto mesh mate home seen_before side head at seen)
      where
        pub marked_side : side < side_count mesh
        marked_side = rounds_side seen_before side head at seen so_far.ring so_far.rounds

        pub marked_at : at < length seen
        marked_at = rounds_at seen_before side head at seen so_far.ring so_far.rounds

        pub marked_next : marked seen at ≡ false → (side' at' : ℕ) (head' : Bool) →
            (side', head') ≡ turn_of (nexts mesh) (befores mesh) mate (all_corners mesh) (side, head) →
            at' ≡ dart_corner (nexts mesh) (side', head') →
            IsMarkedUpto mesh mate home seen_before side' head' at' (set seen at true)
        marked_next new side' at' head' dart corner = record {
          ring = so_far.ring ++ at ∷ [];
          rounds = rounds_more seen_before side head at seen so_far.ring so_far.rounds new side' at' head' dart corner;
        }

        pub marked_end : ((s : ℕ) → BeginsAt mesh (get_or (all_corners mesh) home 0) s → marked seen_before s ≡ false) →
            marked seen at ≡ true → IsRoundMarked mesh mate home seen_before seen
        marked_end fresh end = record {
          ring = so_far.ring;
          round = rounds_end seen_before side head at seen so_far.ring so_far.rounds fresh end;
        }

    module _ (seen_before : List Bool) (side : ℕ) (head : Bool) (at : ℕ) (seen : List Bool)
        (sides_before sides edges_before edges : List ℕ)
        (so_far : IsListedUpto mesh mate edge_of home seen_before side head at seen sides_before sides edges_before
        edges)
      where
        pub listed_side : side < side_count mesh
        listed_side = rounds_side seen_before side head at seen so_far.ring so_far.rounds

        pub listed_at : at < length seen
        listed_at = rounds_at seen_before side head at seen so_far.ring so_far.rounds

        pub listed_more : marked seen at ≡ false → (side' at' : ℕ) (head' : Bool) (e : ℕ) → e ≡ get_or edge_of side 0 →
            (side', head') ≡ turn_of (nexts mesh) (befores mesh) mate (all_corners mesh) (side, head) →
            at' ≡ dart_corner (nexts mesh) (side', head') →
            IsListedUpto mesh mate edge_of home seen_before side' head' at' (set seen at true) sides_before
            (sides ++ at ∷ []) edges_before (edges ++ e ∷ [])
        listed_more new side' at' head' e e_is dart corner =
            let ring = so_far.ring in
            let more = length_push ring at in
            record {
              ring = ring ++ at ∷ [];
              between = so_far.between ++ e ∷ [];
              sides_are = ap (λ (xs : List ℕ). xs ++ at ∷ []) so_far.sides_are
                  ∙ append_assoc sides_before ring (at ∷ []);
              edges_are = ap (λ (xs : List ℕ). xs ++ e ∷ []) so_far.edges_are
                  ∙ append_assoc edges_before so_far.between (e ∷ []);
              rounds = rounds_more seen_before side head at seen ring so_far.rounds new side' at' head' dart corner;
              trail = trail_more (nexts mesh) (befores mesh) mate (all_corners mesh) darts edge_of
                  (dart_before mesh home) seen_before seen side at e (length (ring ++ at ∷ [])) head ring so_far.between
                  so_far.rounds so_far.trail e_is more;
            }

        pub listed_end : ((s : ℕ) → BeginsAt mesh (get_or (all_corners mesh) home 0) s → marked seen_before s ≡ false) →
            marked seen at ≡ true →
            IsRoundListed mesh mate edge_of home seen_before seen sides_before sides edges_before edges
        listed_end fresh end = record {
          ring = so_far.ring;
          between = so_far.between;
          sides_are = so_far.sides_are;
          edges_are = so_far.edges_are;
          round = rounds_end seen_before side head at seen so_far.ring so_far.rounds fresh end;
          trail = so_far.trail;
        }
