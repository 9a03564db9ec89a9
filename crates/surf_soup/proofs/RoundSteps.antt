-- Steps round a vertex.
use Rattle.surf_surfaces.proofs.Common.{◌≡◌, ◌≢◌, ℕ, zero, suc, ◌+◌, ◌-◌, ◌<◌, ◌⊎◌, Bool, true, false, not, cond, eqb, List, [], ◌∷◌, ◌++◌, length, get_or, set, refl, sym, ap, ◌∙◌, arith, inl, inr, true≢false, cases_eq, eq-eqb, ne_eqb, get_or_append_left, sum_by-set}
use Rattle.std.proofs.lemmas.List.{length-set, get_or-set_same, get_or-set_other, length_push, get_or_push}
use Rattle.surf_soup.specs.Reach.{marked, unmarked}
use Rattle.surf_soup.specs.Ring.{dart_corner, flip_of, cross_of, turn_of, turns, IsRound, IsTrail}

-- what the tables of darts keep
pub record AreDarts (next prev mate tails : List ℕ) : Type 0 where
  pub prev_size : length prev ≡ length next
  pub mate_size : length mate ≡ length next
  pub tails_size : length tails ≡ length next
  pub next_in : (s : ℕ) → s < length next → get_or next s 0 < length next
  pub prev_in : (s : ℕ) → s < length next → get_or prev s 0 < length next
  pub next_prev : (s : ℕ) → s < length next → get_or next (get_or prev s 0) 0 ≡ s
  pub prev_next : (s : ℕ) → s < length next → get_or prev (get_or next s 0) 0 ≡ s
  pub mate_in : (s : ℕ) → s < length next → get_or mate s 0 < length next
  pub mate_twice : (s : ℕ) → s < length next → get_or mate (get_or mate s 0) 0 ≡ s
  pub mate_other : (s : ℕ) → s < length next → get_or mate s 0 ≢ s
  pub ends_differ : (s : ℕ) → s < length next → get_or tails (get_or next s 0) 0 ≢ get_or tails s 0
  pub ends_same : (s : ℕ) → s < length next →
      ((get_or tails (get_or mate s 0) 0 ≡ get_or tails s 0)
      × (get_or tails (get_or next (get_or mate s 0) 0) 0 ≡ get_or tails (get_or next s 0) 0))
      ⊎ ((get_or tails (get_or mate s 0) 0 ≡ get_or tails (get_or next s 0) 0)
      × (get_or tails (get_or next (get_or mate s 0) 0) 0 ≡ get_or tails s 0))

-- a walk round a vertex so far
pub record Rounds (next prev mate tails : List ℕ) (d : ℕ
    × Bool) (seen_before : List Bool) (side : ℕ) (head : Bool) (at : ℕ) (seen : List Bool) (ring : List ℕ) : Type 0
  where
    pub size : length seen ≡ length next
    pub here : (side, head) ≡ turns next prev mate tails (length ring) d
    pub stands : at ≡ dart_corner next (side, head)
    pub entries : (k : ℕ) → k < length ring → get_or ring k 0 ≡ dart_corner next (turns next prev mate tails k d)
    pub are_marked : (k : ℕ) → k < length ring → marked seen (get_or ring k 0) ≡ true
    pub stay : (s : ℕ) → marked seen_before s ≡ true → marked seen s ≡ true
    pub only : (s : ℕ) → marked seen s ≡ true → (marked seen_before s ≡ true)
        ⊎ ((k : ℕ) × (k < length ring) × (get_or ring k 0 ≡ s))
    pub differ : (i k : ℕ) → i < k → k < length ring → get_or ring i 0 ≢ get_or ring k 0
    pub counted : length ring + unmarked seen ≡ unmarked seen_before

pub marks_one : (seen : List Bool) (at : ℕ) → at < length seen → marked seen at ≡ false →
    unmarked (set seen at true) + 1 ≡ unmarked seen
marks_one seen at lt new =
    let one = sum_by-set (λ b. cond (not b) 1 0) seen at true false lt in
    let was : ◌≡◌ {A = ℕ} (cond (not (get_or seen at false)) 1 0) 1 = was_one (get_or seen at false) new in
    omega (arith, one, was)
  where
    was_one : (b : Bool) → b ≡ false → ◌≡◌ {A = ℕ} (cond (not b) 1 0) 1
    was_one b e = rw e refl

module _ (next prev mate tails : List ℕ) (are : AreDarts next prev mate tails) where
  abbrev pub In : ℕ × Bool → Type 0
  In d = d.0 < length next

  abbrev flip : ℕ × Bool → ℕ × Bool
  flip d = flip_of next prev d

  abbrev cross : ℕ × Bool → ℕ × Bool
  cross d = cross_of mate tails d

  abbrev walk : ℕ → ℕ × Bool → ℕ × Bool
  walk n d = turns next prev mate tails n d

  abbrev vertex : ℕ × Bool → ℕ
  vertex d = get_or tails (dart_corner next d) 0

  pub flip_in : (d : ℕ × Bool) → In d → In (flip d)
  flip_in (s, true) h = are.next_in s h
  flip_in (s, false) h = are.prev_in s h

  pub cross_in : (d : ℕ × Bool) → In d → In (cross d)
  cross_in (s, b) h = are.mate_in s h

  pub corner_in : (d : ℕ × Bool) → In d → dart_corner next d < length next
  corner_in (s, true) h = are.next_in s h
  corner_in (s, false) h = h

  pub flip_twice : (d : ℕ × Bool) → In d → flip (flip d) ≡ d
  flip_twice (s, true) h = ap (λ t. (t, true)) (are.prev_next s h)
  flip_twice (s, false) h = ap (λ t. (t, false)) (are.next_prev s h)

  pub flip_moves : (d : ℕ × Bool) → flip d ≢ d
  flip_moves (s, true) e = true≢false (sym (ap (λ (x : ℕ × Bool). x.1) e))
  flip_moves (s, false) e = true≢false (ap (λ (x : ℕ × Bool). x.1) e)

  pub flip_corner : (d : ℕ × Bool) → In d → dart_corner next (flip d) ≡ dart_corner next d
  flip_corner (s, true) h = refl
  flip_corner (s, false) h = are.next_prev s h

  pub cross_moves : (d : ℕ × Bool) → In d → cross d ≢ d
  cross_moves (s, b) h e = are.mate_other s h (ap (λ (x : ℕ × Bool). x.0) e)

  flag_twice : (b : Bool) (x y : ℕ) → cond (eqb x y) (cond (eqb y x) b (not b)) (not (cond (eqb y x) b (not b))) ≡ b
  flag_twice b x y = elim (cases_eq x y) [
    | inl e ↦ rw (eq-eqb x y e, eq-eqb y x (sym e)) refl
    | inr ne ↦ rw (ne_eqb x y ne, ne_eqb y x (λ e. ne (sym e))) (not_twice b)
  ]
    where
      not_twice : (b : Bool) → not (not b) ≡ b
      not_twice true = refl
      not_twice false = refl

  pub cross_twice : (d : ℕ × Bool) → In d → cross (cross d) ≡ d
  cross_twice (s, b) h =
      let m = get_or mate s 0 in
      let k = are.mate_twice s h in
      rw k (ap (λ c. (s, c)) (flag_twice b (get_or tails s 0) (get_or tails m 0)))

  pub cross_vertex : (d : ℕ × Bool) → In d → vertex (cross d) ≡ vertex d
  cross_vertex (s, true) h = elim (are.ends_same s h) [
    | inl e ↦ rw (eq-eqb (get_or tails (get_or mate s 0) 0) (get_or tails s 0) e.0) e.1
    | inr e ↦ rw (ne_eqb (get_or tails (get_or mate s 0) 0) (get_or tails s 0) (λ q. are.ends_differ s h (sym e.0 ∙ q)))
        e.0
  ]
  cross_vertex (s, false) h = elim (are.ends_same s h) [
    | inl e ↦ rw (eq-eqb (get_or tails (get_or mate s 0) 0) (get_or tails s 0) e.0) e.0
    | inr e ↦ rw (ne_eqb (get_or tails (get_or mate s 0) 0) (get_or tails s 0) (λ q. are.ends_differ s h (sym e.0 ∙ q)))
        e.1
  ]

  pub turn_in : (d : ℕ × Bool) → In d → In (flip (cross d))
  turn_in d h = flip_in (cross d) (cross_in d h)

  pub walk_in : (n : ℕ) (d : ℕ × Bool) → In d → In (walk n d)
  walk_in zero d h = h
  walk_in (suc n) d h = turn_in (walk n d) (walk_in n d h)

  pub walk_vertex : (n : ℕ) (d : ℕ × Bool) → In d → vertex (walk n d) ≡ vertex d
  walk_vertex zero d h = refl
  walk_vertex (suc n) d h =
      let x = walk n d in
      let hx = walk_in n d h in
      ap (λ s. get_or tails s 0) (flip_corner (cross x) (cross_in x hx)) ∙ cross_vertex x hx ∙ walk_vertex n d h

  pub same_corner : (d e : ℕ × Bool) → In d → In e → dart_corner next d ≡ dart_corner next e → (d ≡ e) ⊎ (d ≡ flip e)
  same_corner (s, true) (t, true) h i q =
      inl (ap (λ x. (x, true)) (sym (are.prev_next s h) ∙ ap (λ x. get_or prev x 0) q ∙ are.prev_next t i))
  same_corner (s, true) (t, false) h i q =
      inr (ap (λ x. (x, true)) (sym (are.prev_next s h) ∙ ap (λ x. get_or prev x 0) q))
  same_corner (s, false) (t, true) h i q = inr (ap (λ x. (x, false)) q)
  same_corner (s, false) (t, false) h i q = inl (ap (λ x. (x, false)) q)

  flip_back : (x y : ℕ × Bool) → In x → In y → flip x ≡ flip y → x ≡ y
  flip_back x y hx hy e = sym (flip_twice x hx) ∙ ap flip e ∙ flip_twice y hy

  pub turn_back : (x y : ℕ × Bool) → In x → In y → flip (cross x) ≡ flip (cross y) → x ≡ y
  turn_back x y hx hy e = sym (cross_twice x hx)
      ∙ ap cross (flip_back (cross x) (cross y) (cross_in x hx) (cross_in y hy) e) ∙ cross_twice y hy

  walk_first : (n : ℕ) (x : ℕ × Bool) → walk (suc n) x ≡ walk n (flip (cross x))
  walk_first zero x = refl
  walk_first (suc n) x = ap (λ y. flip (cross y)) (walk_first n x)

  walk_add : (n m : ℕ) (x : ℕ × Bool) → walk n (walk m x) ≡ walk (n + m) x
  walk_add zero m x = let z : 0 + m ≡ m = omega arith in ap (λ k. walk k x) (sym z)
  walk_add (suc n) m x = let e : suc (n + m) ≡ suc n + m = omega arith in ap (λ y. flip (cross y)) (walk_add n m x)
      ∙ ap (λ k. walk k x) e

  -- A dart never comes back turned over, so no corner is met from both sides.
  pub never_flipped : (n : ℕ) (x : ℕ × Bool) → In x → walk n x ≢ flip x
  never_flipped zero x h e = flip_moves x (sym e)
  never_flipped (suc zero) x h e = cross_moves x h (flip_back (cross x) x (cross_in x h) h e)
  never_flipped (suc (suc n)) x h e =
      let y = flip (cross x) in
      let hy = turn_in x h in
      let z = walk n y in
      let hz = walk_in n y hy in
      let first : flip (cross z) ≡ flip x = ap (λ w. flip (cross w)) (sym (walk_first n x)) ∙ e in
      let before : cross z ≡ x = flip_back (cross z) x (cross_in z hz) h first in
      let there : z ≡ flip y = sym (cross_twice z hz) ∙ ap cross before ∙ sym (flip_twice (cross x) (cross_in x h)) in
      never_flipped n y hy there

  -- The corner that is met again is the first of all.
  pub met_again : (i j : ℕ) (d : ℕ × Bool) → In d → i < j →
      ((k l : ℕ) → k < l → l < j → dart_corner next (walk k d) ≢ dart_corner next (walk l d)) →
      dart_corner next (walk j d) ≡ dart_corner next (walk i d) → walk j d ≡ d
  met_again i j d h lt differ e =
      let x = walk i d in
      let hx = walk_in i d h in
      let same : walk j d ≡ x = elim (same_corner (walk j d) x (walk_in j d h) hx e) [
        | inl q ↦ q
        | inr q ↦ let sum : (j - i) + i ≡ j = omega arith in
            absurd (never_flipped (j - i) x hx (walk_add (j - i) i d ∙ ap (λ k. walk k d) sum ∙ q))
      ] in
      back i j lt differ same
    where
      back : (i j : ℕ) → i < j →
          ((k l : ℕ) → k < l → l < j → dart_corner next (walk k d) ≢ dart_corner next (walk l d)) →
          walk j d ≡ walk i d → walk j d ≡ d
      back zero j lt differ q = q
      back (suc i) zero lt differ q = absurd (omega arith)
      back (suc i) (suc j) lt differ q =
          absurd (differ i j (omega arith) (omega arith)
          (ap (dart_corner next) (sym (turn_back (walk j d) (walk i d) (walk_in j d h) (walk_in i d h) q))))

  -- across each side of a corner of a whole round there is another corner of it
  pub round_closed : (d : ℕ × Bool) (before seen : List Bool) (ring : List ℕ) → In d →
      IsRound next prev mate tails d before seen ring → (k : ℕ) → k < length ring → (e : ℕ × Bool) → In e →
      dart_corner next e ≡ get_or ring k 0 → (j : ℕ) × (j < length ring)
      × (get_or ring j 0 ≡ dart_corner next (cross e))
  round_closed d before seen ring h r k lt e he q =
      let x = walk k d in
      let hx = walk_in k d h in
      elim (same_corner e x he hx (q ∙ r.entries k lt)) [
        | inl is ↦
            let to : dart_corner next (walk (suc k) d) ≡ dart_corner next (cross e) =
            flip_corner (cross x) (cross_in x hx) ∙ ap (λ y. dart_corner next (cross y)) (sym is) in
            elim (cases_eq (suc k) (length ring)) [
              | inl last ↦ (
                0,
                r.some,
                r.entries 0 r.some ∙ ap (dart_corner next) (sym r.closes)
                    ∙ ap (λ n. dart_corner next (walk n d)) (sym last) ∙ to,
              )
              | inr ne ↦ let b : suc k < length ring = omega arith in (suc k, b, r.entries (suc k) b ∙ to)
            ]
        | inr is ↦ back k lt e is
      ]
    where
      behind : (m : ℕ) (e : ℕ × Bool) → m < length ring → e ≡ flip (walk (suc m) d) → (j : ℕ) × (j < length ring)
          × (get_or ring j 0 ≡ dart_corner next (cross e))
      behind m e lt is =
          let y = walk m d in
          let hy = walk_in m d h in
          let c : e ≡ cross y = is ∙ flip_twice (cross y) (cross_in y hy) in (
            m,
            lt,
            r.entries m lt ∙ ap (dart_corner next) (sym (cross_twice y hy))
                ∙ ap (λ z. dart_corner next (cross z)) (sym c),
          )

      back : (k : ℕ) → k < length ring → (e : ℕ × Bool) → e ≡ flip (walk k d) → (j : ℕ) × (j < length ring)
          × (get_or ring j 0 ≡ dart_corner next (cross e))
      back zero lt e is =
          let some = r.some in
          let m = length ring - 1 in
          let n : length ring ≡ suc m = omega arith in
          behind m e (omega arith) (is ∙ ap flip (sym r.closes) ∙ ap (λ n. flip (walk n d)) n)
      back (suc k) lt e is = behind k e (omega arith) is

  -- a dart is known by its side and its vertex
  same_end : (x y : ℕ × Bool) → In x → In y → x.0 ≡ y.0 → vertex x ≡ vertex y → x ≡ y
  same_end (s, true) (t, true) h i q v = ap (λ n. (n, true)) q
  same_end (s, false) (t, false) h i q v = ap (λ n. (n, false)) q
  same_end (s, true) (t, false) h i q v = absurd (are.ends_differ s h (v ∙ ap (λ n. get_or tails n 0) (sym q)))
  same_end (s, false) (t, true) h i q v =
      absurd (are.ends_differ s h (ap (λ n. get_or tails (get_or next n 0) 0) q ∙ sym v))

  -- no two darts of a whole round are of one edge
  pub round_differ : (d : ℕ × Bool) (before seen : List Bool) (ring : List ℕ) → In d →
      IsRound next prev mate tails d before seen ring →
      (i k : ℕ) → i < k → k < length ring → ((walk k d).0 ≡ (walk i d).0)
      ⊎ ((walk k d).0 ≡ get_or mate (walk i d).0 0) → ⊥
  round_differ d before seen ring h r i k lt below e =
      let x = walk i d in
      let hx = walk_in i d h in
      let y = walk k d in
      let hy = walk_in k d h in
      let at : vertex y ≡ vertex x = walk_vertex k d h ∙ sym (walk_vertex i d h) in
      elim e [
        | inl q ↦ r.differ i k lt below (r.entries i (omega arith)
            ∙ ap (dart_corner next) (sym (same_end y x hy hx q at)) ∙ sym (r.entries k below))
        | inr q ↦
            let c : y ≡ cross x = same_end y (cross x) hy (cross_in x hx) q (at ∙ sym (cross_vertex x hx)) in
            let back : y ≡ flip (walk (suc i) d) = c ∙ sym (flip_twice (cross x) (cross_in x hx)) in
            let sum : (k - suc i) + suc i ≡ k = omega arith in
            never_flipped (k - suc i) (walk (suc i) d) (walk_in (suc i) d h) (walk_add (k - suc i) (suc i) d
            ∙ ap (λ n. walk n d) sum ∙ back)
      ]

  -- each side of a corner of a whole round is the side of one of its darts, or the mate of one
  pub round_sides : (d : ℕ × Bool) (before seen : List Bool) (ring : List ℕ) → In d →
      IsRound next prev mate tails d before seen ring →
      (k : ℕ) → k < length ring → (e : ℕ × Bool) → In e → dart_corner next e ≡ get_or ring k 0 → (j : ℕ)
      × (j < length ring) × ((e.0 ≡ (walk j d).0) ⊎ (e.0 ≡ get_or mate (walk j d).0 0))
  round_sides d before seen ring h r k lt e he q =
      elim (same_corner e (walk k d) he (walk_in k d h) (q ∙ r.entries k lt)) [
        | inl is ↦ (k, lt, inl (ap (λ (x : ℕ × Bool). x.0) is))
        | inr is ↦ back k lt e is
      ]
    where
      behind : (m : ℕ) (e : ℕ × Bool) → m < length ring → e ≡ flip (walk (suc m) d) → (j : ℕ) × (j < length ring)
          × ((e.0 ≡ (walk j d).0) ⊎ (e.0 ≡ get_or mate (walk j d).0 0))
      behind m e lt is = let y = walk m d in
          (m, lt, inr (ap (λ (x : ℕ × Bool). x.0) (is ∙ flip_twice (cross y) (cross_in y (walk_in m d h)))))

      back : (k : ℕ) → k < length ring → (e : ℕ × Bool) → e ≡ flip (walk k d) → (j : ℕ) × (j < length ring)
          × ((e.0 ≡ (walk j d).0) ⊎ (e.0 ≡ get_or mate (walk j d).0 0))
      back zero lt e is =
          let some = r.some in
          let m = length ring - 1 in
          let n : length ring ≡ suc m = omega arith in
          behind m e (omega arith) (is ∙ ap flip (sym r.closes) ∙ ap (λ n. flip (walk n d)) n)
      back (suc k) lt e is = behind k e (omega arith) is

  pub trail_start : (edge_of : List ℕ) (d : ℕ × Bool) → IsTrail next prev mate tails edge_of d 0 []
  trail_start edge_of d = record { size = refl; at = λ k lt. absurd (omega arith) }

  pub trail_more : (edge_of : List ℕ) (d : ℕ
      × Bool) (before seen : List Bool) (side at e count : ℕ) (head : Bool) (ring edges : List ℕ) →
      Rounds next prev mate tails d before side head at seen ring →
      IsTrail next prev mate tails edge_of d (length ring) edges → e ≡ get_or edge_of side 0 → count ≡ length ring + 1 →
      IsTrail next prev mate tails edge_of d count (edges ++ e ∷ [])
  trail_more edge_of d before seen side at e count head ring edges r t is more =
      let n = length_push edges e in
      let size = t.size in
      record {
        size = omega arith;
        at = λ k lt. elim (cases_eq k (length ring)) [
          | inl q ↦ get_or_push edges e 0 k (size ∙ sym q) ∙ is ∙ ap (λ (x : ℕ × Bool). get_or edge_of x.0 0) r.here
              ∙ ap (λ m. get_or edge_of (walk m d).0 0) (sym q)
          | inr ne ↦ get_or_append_left edges (e ∷ []) 0 k (omega arith) ∙ t.at k (omega arith)
        ];
      }

  pub round_start : (d : ℕ × Bool) (seen : List Bool) → length seen ≡ length next →
      Rounds next prev mate tails d seen d.0 d.1 (dart_corner next d) seen []
  round_start d seen size = record {
    size = size;
    here = refl;
    stands = refl;
    entries = λ k lt. absurd (omega arith);
    are_marked = λ k lt. absurd (omega arith);
    stay = λ s h. h;
    only = λ s h. inl h;
    differ = λ i k a b. absurd (omega arith);
    counted = omega arith;
  }

  pub round_more : (d : ℕ × Bool) (before seen : List Bool) (side at : ℕ) (head : Bool) (ring : List ℕ) → In d →
      Rounds next prev mate tails d before side head at seen ring → marked seen at ≡ false →
      (side' at' : ℕ) (head' : Bool) → (side', head') ≡ turn_of next prev mate tails (side, head) →
      at' ≡ dart_corner next (side', head') →
      Rounds next prev mate tails d before side' head' at' (set seen at true) (ring ++ at ∷ [])
  round_more d before seen side at head ring h r new side' at' head' is stands' =
      let n = length_push ring at in
      let last : get_or (ring ++ at ∷ []) (length ring) 0 ≡ at = get_or_push ring at 0 (length ring) refl in
      let early : (k : ℕ) → k < length ring → get_or (ring ++ at ∷ []) k 0 ≡ get_or ring k 0 =
      λ k lt. get_or_append_left ring (at ∷ []) 0 k lt in
      let own : at ≡ dart_corner next (walk (length ring) d) = r.stands ∙ ap (dart_corner next) r.here in
      let inside : at < length seen = let c = corner_in (walk (length ring) d) (walk_in (length ring) d h) in let z =
      r.size in omega arith in
      let mark : marked (set seen at true) at ≡ true = get_or-set_same seen at true false inside in
      let still : (j : ℕ) → marked seen j ≡ true → marked (set seen at true) j ≡ true =
      λ j m. elim (cases_eq j at) [
        | inl e ↦ ap (marked (set seen at true)) e
            ∙ mark
        | inr ne ↦ get_or-set_other seen at j true false ne ∙ m
      ] in
      let unlike : (i : ℕ) → i < length ring → get_or ring i 0 ≢ at =
      λ i lt e. true≢false (sym (r.are_marked i lt) ∙ ap (marked seen) e ∙ new) in
      let one : suc (length ring) ≡ length (ring ++ at ∷ []) = omega (arith, n) in
      record {
        size = length-set seen at true ∙ r.size;
        here = is ∙ ap (turn_of next prev mate tails) r.here ∙ ap (λ n. walk n d) one;
        stands = stands';
        entries = λ k lt. elim (cases_eq k (length ring)) [
          | inl e ↦ ap (λ m. get_or (ring ++ at ∷ []) m 0) e ∙ last ∙ own
              ∙ ap (λ m. dart_corner next (walk m d)) (sym e)
          | inr ne ↦ let b : k < length ring = omega (arith, n) in early k b ∙ r.entries k b
        ];
        are_marked = λ k lt. elim (cases_eq k (length ring)) [
          | inl e ↦ ap (λ m. marked (set seen at true) (get_or (ring ++ at ∷ []) m 0)) e
              ∙ ap (marked (set seen at true)) last ∙ mark
          | inr ne ↦ let b : k < length ring = omega (arith, n) in ap (marked (set seen at true)) (early k b)
              ∙ still (get_or ring k 0) (r.are_marked k b)
        ];
        stay = λ s m. still s (r.stay s m);
        only = λ s m. elim (cases_eq s at) [
          | inl e ↦ inr (length ring, omega (arith, n), last ∙ sym e)
          | inr ne ↦ elim (r.only s (sym (get_or-set_other seen at s true false ne) ∙ m)) [
            | inl a ↦ inl a
            | inr b ↦ inr (b.0, omega (arith, b.1, n), early b.0 b.1 ∙ b.2)
          ]
        ];
        differ = λ i k a b e. elim (cases_eq k (length ring)) [
          | inl q ↦ let c : i < length ring = omega arith in
              unlike i c (sym (early i c) ∙ e ∙ ap (λ m. get_or (ring ++ at ∷ []) m 0) q ∙ last)
          | inr ne ↦ let c : k < length ring = omega (arith, n) in let c' : i < length ring = omega arith in
              r.differ i k a c (sym (early i c') ∙ e ∙ early k c)
        ];
        counted = omega (arith, n, marks_one seen at inside new, r.counted);
      }

  pub round_end : (d : ℕ × Bool) (before seen : List Bool) (side at : ℕ) (head : Bool) (ring : List ℕ) → In d →
      ((s : ℕ) → s < length next → get_or tails s 0 ≡ vertex d → marked before s ≡ false) →
      Rounds next prev mate tails d before side head at seen ring → marked seen at ≡ true →
      IsRound next prev mate tails d before seen ring
  round_end d before seen side at head ring h fresh r m =
      let j = length ring in
      let own : at ≡ dart_corner next (walk j d) = r.stands ∙ ap (dart_corner next) r.here in
      elim (r.only at m) [
        | inl old ↦ absurd (true≢false (sym old ∙ ap (marked before) own
            ∙ fresh (dart_corner next (walk j d)) (corner_in (walk j d) (walk_in j d h)) (walk_vertex j d h)))
        | inr k ↦ record {
          size = r.size;
          some = let lt = k.1 in omega arith;
          closes = met_again k.0 j d h k.1
              (λ a b lt below e. r.differ a b lt below (r.entries a (omega arith) ∙ e ∙ sym (r.entries b below)))
              (sym own ∙ sym k.2 ∙ r.entries k.0 k.1);
          entries = r.entries;
          are_marked = r.are_marked;
          stay = r.stay;
          only = r.only;
          differ = r.differ;
          counted = r.counted;
        }
      ]

  pub round_side : (d : ℕ × Bool) (before seen : List Bool) (side at : ℕ) (head : Bool) (ring : List ℕ) → In d →
      Rounds next prev mate tails d before side head at seen ring → side < length next
  round_side d before seen side at head ring h r = let i = walk_in (length ring) d h in let e =
      ap (λ (x : ℕ × Bool). x.0) r.here in omega (arith, i, e)

  pub round_at : (d : ℕ × Bool) (before seen : List Bool) (side at : ℕ) (head : Bool) (ring : List ℕ) → In d →
      Rounds next prev mate tails d before side head at seen ring → at < length seen
  round_at d before seen side at head ring h r =
      omega (arith, corner_in (side, head) (round_side d before seen side at head ring h r), r.stands, r.size)
