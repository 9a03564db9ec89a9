-- Walks of a graph whose edges have lengths and signatures: their sums, and the least of those of one length and signature.
use Rattle.surf_surfaces.proofs.Common.{◌≡◌, ℕ, zero, suc, ◌+◌, ◌-◌, ◌<◌, ◌≤◌, ◌⊎◌, List, [], ◌∷◌, ◌++◌, bit_xor, refl, sym, ap, ◌∙◌, subst, arith, inl, inr, cases_eq, cases_lt, cases_Bool, false≢true, any_below, numbers, any_below-found, any_below-from, Graph, IsGraph, joins, IsJoined, edge_between, IsGraphWalk, graph_walk_length, joins_turned, add_zero, cancel, IsSimple, edge_between_is, walk-append, joined_in, least_such}

-- ---- sums of sets

pub xor_twice : (a b : ℕ) → bit_xor a (bit_xor a b) ≡ b
xor_twice a b = cancel numbers a b

pub xor_off : (a t s : ℕ) → bit_xor a t ≡ s → t ≡ bit_xor s a
xor_off a t s h = sym (xor_twice a t) ∙ ap (bit_xor a) h ∙ numbers.comm a s

pub xor_on : (a s : ℕ) → bit_xor a (bit_xor s a) ≡ s
xor_on a s = ap (bit_xor a) (numbers.comm s a) ∙ xor_twice a s

-- the sum of the edges' signatures over a walk's steps
abbrev pub walk_sum : Graph → (ℕ → ℕ) → ℕ → List ℕ → ℕ
walk_sum g sig a [] = 0
walk_sum g sig a (c ∷ w) = bit_xor (sig (edge_between g a c)) (walk_sum g sig c w)

-- the vertices of a walk from a, without its last, last first
abbrev pub turned : ℕ → List ℕ → List ℕ
turned a [] = []
turned a (c ∷ w) = turned c w ++ a ∷ []

-- some edge joins the nodes, or none does
pub cases_joined : (g : Graph) (a c : ℕ) → IsJoined g a c ⊎ (IsJoined g a c → ⊥)
cases_joined g a c = elim (cases_Bool (any_below g.edges (joins g a c))) [
  | inl some ↦ inl (any_below-found g.edges (joins g a c) some)
  | inr none ↦ inr (λ (e, l, on). false≢true (sym none ∙ any_below-from g.edges (joins g a c) e l on))
]

module _ (g : Graph) (len sig : ℕ → ℕ) where
  -- a walk from a to b with a length and a signature
  pub record Goes (a : ℕ) (w : List ℕ) (b n s : ℕ) : Type 0 where
    pub walk : IsGraphWalk g a w b
    pub size : graph_walk_length g len a w ≡ n
    pub sum : walk_sum g sig a w ≡ s

  -- each of its vertices is the least with which such a walk can go on
  abbrev pub IsLeastWalk : ℕ → ℕ → List ℕ → Type 0
  IsLeastWalk b a [] = Unit {0}
  IsLeastWalk b a (c ∷ w) =
      ((x : ℕ) (v : List ℕ) → Goes a (x ∷ v) b (graph_walk_length g len a (c ∷ w)) (walk_sum g sig a (c ∷ w)) → c ≤ x)
      × IsLeastWalk b c w

  pub goes_over : (a c : ℕ) (w : List ℕ) (b n s : ℕ) → IsJoined g a c → Goes c w b n s →
      Goes a (c ∷ w) b (len (edge_between g a c) + n) (bit_xor (sig (edge_between g a c)) s)
  goes_over a c w b n s j h = record {
    walk = (j, h.walk);
    size = ap (λ m. len (edge_between g a c) + m) h.size;
    sum = ap (bit_xor (sig (edge_between g a c))) h.sum;
  }

  -- what is left of a walk after its first step
  pub record After (a c : ℕ) (w : List ℕ) (b n s : ℕ) : Type 0 where
    pub joined : IsJoined g a c
    pub fits : len (edge_between g a c) ≤ n
    pub rest : Goes c w b (n - len (edge_between g a c)) (bit_xor s (sig (edge_between g a c)))

  pub after : (a c : ℕ) (w : List ℕ) (b n s : ℕ) → Goes a (c ∷ w) b n s → After a c w b n s
  after a c w b n s h =
      let e = edge_between g a c in
      let size : len e + graph_walk_length g len c w ≡ n = h.size in
      record {
        joined = h.walk.0;
        fits = omega arith;
        rest = record {
          walk = h.walk.1;
          size = omega arith;
          sum = xor_off (sig e) (walk_sum g sig c w) s h.sum;
        };
      }

  -- and back
  pub before : (a c : ℕ) (w : List ℕ) (b n s : ℕ) → IsJoined g a c → len (edge_between g a c) ≤ n →
      Goes c w b (n - len (edge_between g a c)) (bit_xor s (sig (edge_between g a c))) → Goes a (c ∷ w) b n s
  before a c w b n s j fits h =
      let e = edge_between g a c in
      let size : graph_walk_length g len c w ≡ n - len e = h.size in
      record {
        walk = (j, h.walk);
        size = omega arith;
        sum = ap (bit_xor (sig e)) h.sum ∙ xor_on (sig e) s;
      }

  sums-append : (a : ℕ) (u : List ℕ) (b : ℕ) (w : List ℕ) → IsGraphWalk g a u b →
      walk_sum g sig a (u ++ w) ≡ bit_xor (walk_sum g sig a u) (walk_sum g sig b w)
  sums-append a [] b w h = ap (λ x. walk_sum g sig x w) h ∙ sym (numbers.unit (walk_sum g sig b w))
  sums-append a (c ∷ u) b w h =
      ap (bit_xor (sig (edge_between g a c))) (sums-append c u b w h.1)
      ∙ sym (numbers.assoc (sig (edge_between g a c)) (walk_sum g sig c u) (walk_sum g sig b w))

  pub goes-append : (a : ℕ) (u : List ℕ) (b : ℕ) (w : List ℕ) (c n m s t : ℕ) → Goes a u b n s → Goes b w c m t →
      Goes a (u ++ w) c (n + m) (bit_xor s t)
  goes-append a u b w c n m s t p q =
      let both = walk-append g len a u b w c p.walk q.walk in
      record {
        walk = both.0;
        size = both.2 ∙ ap (λ x. x + graph_walk_length g len b w) p.size ∙ ap (λ x. n + x) q.size;
        sum = sums-append a u b w p.walk ∙ ap (λ x. bit_xor x (walk_sum g sig b w)) p.sum ∙ ap (bit_xor s) q.sum;
      }

  -- ---- the other way round

  module _ (simple : IsSimple g) where
    pub between_turned : (a c : ℕ) → IsJoined g a c → edge_between g c a ≡ edge_between g a c
    between_turned a c j =
        let there = edge_between_is g a c j in
        let back = edge_between_is g c a (j.0, j.1, joins_turned g a c j.0 j.2) in
        simple c a (edge_between g c a) (edge_between g a c) back.0 there.0 back.1
        (joins_turned g a c (edge_between g a c) there.1)

    pub goes_turned : (a : ℕ) (w : List ℕ) (b n s : ℕ) → Goes a w b n s → Goes b (turned a w) a n s
    goes_turned a [] b n s h = record { walk = sym h.walk; size = h.size; sum = h.sum }
    goes_turned a (c ∷ w) b n s h =
        let e = edge_between g a c in
        let next = after a c w b n s h in
        let back : IsJoined g c a = (next.joined.0, next.joined.1, joins_turned g a c next.joined.0 next.joined.2) in
        let here : Goes a [] a 0 0 = record { walk = refl; size = refl; sum = refl } in
        let last = goes_over c a [] a 0 0 back here in
        let whole = goes-append b (turned c w) c (a ∷ []) a (n - len e) (len (edge_between g c a) + 0)
        (bit_xor s (sig e)) (bit_xor (sig (edge_between g c a)) 0)
        (goes_turned c w b (n - len e) (bit_xor s (sig e)) next.rest) last in
        let same : edge_between g c a ≡ e = between_turned a c next.joined in
        let fits : len e ≤ n = next.fits in
        record {
          walk = whole.walk;
          size = whole.size ∙ ap (λ x. (n - len e) + (len x + 0)) same ∙ omega arith;
          sum = whole.sum ∙ ap (λ x. bit_xor (bit_xor s (sig e)) (bit_xor (sig x) 0)) same
              ∙ ap (bit_xor (bit_xor s (sig e))) (add_zero numbers (sig e))
              ∙ numbers.comm (bit_xor s (sig e)) (sig e) ∙ xor_on (sig e) s;
        }

  -- ---- the least walk

  module _ (graph : IsGraph g) (positive : (e : ℕ) → e < g.edges → 1 ≤ len e) where
    pub step_long : (a c : ℕ) → IsJoined g a c → 1 ≤ len (edge_between g a c)
    step_long a c j = positive (edge_between g a c) (edge_between_is g a c j).0

    pub record Found (b a n s : ℕ) : Type 0 where
      pub walk : List ℕ
      pub goes : Goes a walk b n s
      pub least : IsLeastWalk b a walk

    abbrev pub NoWalk : ℕ → ℕ → ℕ → ℕ → Type 0
    NoWalk b a n s = (w : List ℕ) → Goes a w b n s → ⊥

    -- c is a first step
    record Onward (b a n s c : ℕ) : Type 0 where
      joined : IsJoined g a c
      fits : len (edge_between g a c) ≤ n
      found : Found b c (n - len (edge_between g a c)) (bit_xor s (sig (edge_between g a c)))

    at_end : (b a s : ℕ) → Found b a 0 s ⊎ NoWalk b a 0 s
    at_end b a s = elim (cases_eq a b) [
      | inr apart ↦ inr (λ w h. none apart w h)
      | inl here ↦ elim (cases_eq s 0) [
        | inr some ↦ inr (λ w h. signed some w h)
        | inl empty ↦ inl (record {
          walk = [];
          goes = record { walk = here; size = refl; sum = sym empty };
          least = tt;
        })
      ]
    ]
      where
        none : (a ≡ b → ⊥) → (w : List ℕ) → Goes a w b 0 s → ⊥
        none apart [] h = apart h.walk
        none apart (c ∷ w) h =
            let next = after a c w b 0 s h in
            let long = step_long a c next.joined in
            omega (arith, long, next.fits)

        signed : (s ≡ 0 → ⊥) → (w : List ℕ) → Goes a w b 0 s → ⊥
        signed some [] h = some (sym h.sum)
        signed some (c ∷ w) h =
            let next = after a c w b 0 s h in
            let long = step_long a c next.joined in
            omega (arith, long, next.fits)

    -- one step, where what each next vertex has is known
    seek_step : (b a n s : ℕ) → 0 < n →
        ((c : ℕ) → IsJoined g a c → Found b c (n - len (edge_between g a c)) (bit_xor s (sig (edge_between g a c)))
        ⊎ NoWalk b c (n - len (edge_between g a c)) (bit_xor s (sig (edge_between g a c)))) →
        Found b a n s ⊎ NoWalk b a n s
    seek_step b a n s some_length sought =
        elim (least_such g.nodes (Onward b a n s) decide) [
          | inr none ↦ inr (λ w h. no_walk none w h)
          | inl some ↦
              let c = some.at in
              let on = some.holds in
              let goes = before a c on.found.walk b n s on.joined on.fits on.found.goes in
              inl (record {
                walk = c ∷ on.found.walk;
                goes = goes;
                least = (
                  (λ x v h.
                      let other : Goes a (x ∷ v) b n s =
                      record { walk = h.walk; size = h.size ∙ goes.size; sum = h.sum ∙ goes.sum } in
                      some.least x (joined_in g graph a x other.walk.0) (onward x v other)),
                  on.found.least,
                );
              })
        ]
      where
        decide : (c : ℕ) → c < g.nodes → Onward b a n s c ⊎ (Onward b a n s c → ⊥)
        decide c c_in = elim (cases_joined g a c) [
          | inr apart ↦ inr (λ on. apart on.joined)
          | inl j ↦ elim (cases_lt n (len (edge_between g a c))) [
            | inl long ↦ inr (λ on. let fits = on.fits in omega (arith, fits, long))
            | inr fits ↦ elim (sought c j) [
              | inl found ↦ inl (record { joined = j; fits = fits; found = found })
              | inr none ↦ inr (λ on. none on.found.walk on.found.goes)
            ]
          ]
        ]

        onward : (x : ℕ) (v : List ℕ) → Goes a (x ∷ v) b n s → Onward b a n s x
        onward x v h =
            let next = after a x v b n s h in
            elim (sought x next.joined) [
              | inl found ↦ record { joined = next.joined; fits = next.fits; found = found }
              | inr none ↦ absurd (none v next.rest)
            ]

        no_walk : ((c : ℕ) → c < g.nodes → Onward b a n s c → ⊥) → NoWalk b a n s
        no_walk none [] h = let size : 0 ≡ n = h.size in omega arith
        no_walk none (c ∷ w) h = none c (joined_in g graph a c h.walk.0) (onward c w h)

    -- the least walk of a length and with a signature, where there is one
    pub seek : (k n : ℕ) → n ≤ k → (b a s : ℕ) → Found b a n s ⊎ NoWalk b a n s
    seek k zero l b a s = at_end b a s
    seek zero (suc n) l b a s = absurd (omega arith)
    seek (suc k) (suc n) l b a s =
        seek_step b a (suc n) s (omega arith) (λ c j.
        seek k (suc n - len (edge_between g a c)) (let long = step_long a c j in omega (arith, long, l)) b c
        (bit_xor s (sig (edge_between g a c))))

    -- of walks whose vertices are the least, there is one
    pub least_one : (b a : ℕ) (w v : List ℕ) (n s : ℕ) → Goes a w b n s → Goes a v b n s → IsLeastWalk b a w →
        IsLeastWalk b a v → w ≡ v
    least_one b a [] [] n s p q lw lv = refl
    least_one b a [] (c ∷ v) n s p q lw lv =
        let next = after a c v b n s q in
        let long = step_long a c next.joined in
        let size : 0 ≡ n = p.size in
        absurd (omega (arith, long, next.fits))
    least_one b a (c ∷ w) [] n s p q lw lv =
        let next = after a c w b n s p in
        let long = step_long a c next.joined in
        let size : 0 ≡ n = q.size in
        absurd (omega (arith, long, next.fits))
    least_one b a (c ∷ w) (x ∷ v) n s p q lw lv =
        let one : c ≤ x = lw.0 x v (record { walk = q.walk; size = q.size ∙ sym p.size; sum = q.sum ∙ sym p.sum }) in
        let two : x ≤ c = lv.0 c w (record { walk = p.walk; size = p.size ∙ sym q.size; sum = p.sum ∙ sym q.sum }) in
        let same : c ≡ x = omega arith in
        let other : Goes a (c ∷ v) b n s = subst (λ y. Goes a (y ∷ v) b n s) (sym same) q in
        let other_least : IsLeastWalk b c v = subst (λ y. IsLeastWalk b y v) (sym same) lv.1 in
        let e = edge_between g a c in
        let tails : w ≡ v = least_one b c w v (n - len e) (bit_xor s (sig e)) (after a c w b n s p).rest
        (after a c v b n s other).rest lw.1 other_least in
        rw (same, tails) refl

  -- a walk that goes on otherwise after some steps does not go on with less
  pub least_at : (b a : ℕ) (p : List ℕ) (u v : ℕ) (w r : List ℕ) → IsLeastWalk b a (p ++ u ∷ w) →
      Goes a (p ++ v ∷ r) b (graph_walk_length g len a (p ++ u ∷ w)) (walk_sum g sig a (p ++ u ∷ w)) → u ≤ v
  least_at b a [] u v w r least h = least.0 v r h
  least_at b a (c ∷ p) u v w r least h =
      let e = edge_between g a c in
      let size : len e + graph_walk_length g len c (p ++ v ∷ r) ≡ len e + graph_walk_length g len c (p ++ u ∷ w) = h.size in
      least_at b c p u v w r least.1 (record {
        walk = h.walk.1;
        size = omega arith;
        sum = sym (xor_twice (sig e) (walk_sum g sig c (p ++ v ∷ r))) ∙ ap (bit_xor (sig e)) h.sum
            ∙ xor_twice (sig e) (walk_sum g sig c (p ++ u ∷ w));
      })

  -- and where that holds, the walk is least
  pub least_from : (b a : ℕ) (r : List ℕ) → IsGraphWalk g a r b →
      ((p : List ℕ) (u v : ℕ) (w q : List ℕ) → r ≡ p ++ u ∷ w →
      Goes a (p ++ v ∷ q) b (graph_walk_length g len a r) (walk_sum g sig a r) → u ≤ v) → IsLeastWalk b a r
  least_from b a [] walk h = tt
  least_from b a (c ∷ r) walk h = (
    (λ x v goes. h [] c x r v refl goes),
    least_from b c r walk.1 (λ p u v w q is goes.
        h (c ∷ p) u v w q (ap (λ xs. c ∷ xs) is)
        (goes_over a c (p ++ v ∷ q) b (graph_walk_length g len c r) (walk_sum g sig c r) walk.0 goes)),
  )
