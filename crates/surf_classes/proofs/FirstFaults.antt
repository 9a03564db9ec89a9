-- Evidence is right or has one first fault.
use Rattle.surf_surfaces.proofs.Common.{◌≡◌, ◌≢◌, ℕ, ◌<◌, ◌≤◌, ◌⊎◌, Bool, true, false, eqb, List, [], ◌∷◌, refl, sym, ap, ◌∙◌, subst, arith, inl, inr, All, AllPairs, Contains, AllByRecursion, cases_lt, cases_order, cases_Bool, eqb-true, eq-eqb, or_cases, or_left, or_right, false≢true, All-from_recursion, recursion_from_All, Chain, Mesh, pair_eq, pair_lt, among, edges, face_count, edge_count, ends, boundary, least_such}
use Rattle.surf_surfaces.proofs.meshes.PairLaws.{Rising, pair_eq-true, pair_eq-self, pair_lt-irreflexive, pair_lt-trans, pair_lt-total}
use Rattle.surf_surfaces.proofs.meshes.EdgeLaws.{rising_from_AllPairs, among-contains, contains_from_among}
use Rattle.surf_classes.specs.Evidence.{is_listed, has_odd_sides, is_odd_in, IsNullEvidence, IsOddEvidence, null_faces, odd_pairs}
use Rattle.surf_classes.specs.Faults.{Fault, no_face, no_boundary, no_pair, odd_face, even_number, IsNoFace, IsNoBoundary, IsNoPair, IsFirstFault}
use Rattle.surf_classes.specs.EvidenceLaws.{FaultsAreTold}
use Rattle.surf_classes.proofs.Listed.{Climbing, climbing_from, listed_above}

-- ---- faces

face_listed : (n : ℕ) (xs : List ℕ) → AllByRecursion (λ f. f < n) xs → (k : ℕ) → is_listed xs k ≡ true → k < n
face_listed n [] h k is = absurd (false≢true is)
face_listed n (x ∷ xs) h k is = elim (or_cases (eqb k x) (is_listed xs k) is) [
  | inl here ↦ subst (λ f. f < n) (sym (eqb-true k x here)) h.0
  | inr later ↦ face_listed n xs h.1 k later
]

all_faces : (mesh : Mesh) (faces : List ℕ) → All (λ f. f < face_count mesh) faces → (k : ℕ) →
    is_listed faces k ≡ true → k < face_count mesh
all_faces mesh faces h = face_listed (face_count mesh) faces (recursion_from_All (λ f. f < face_count mesh) faces h)

faces_cases : (mesh : Mesh) (xs : List ℕ) → Climbing xs →
    AllByRecursion (λ f. f < face_count mesh) xs ⊎ ((f : ℕ) × IsNoFace mesh xs f)
faces_cases mesh [] h = inl tt
faces_cases mesh (x ∷ xs) h = elim (cases_lt x (face_count mesh)) [
  | inr outside ↦ inr (
    x,
    record {
      listed = or_left (eqb x x) (is_listed xs x) (eq-eqb x x refl);
      outside = outside;
      least = λ g below is. elim (or_cases (eqb g x) (is_listed xs g) is) [
        | inl here ↦ let same : g ≡ x = eqb-true g x here in absurd (omega arith)
        | inr later ↦ let above : x < g = listed_above x xs h.0 g later in absurd (omega arith)
      ];
    },
  )
  | inl inside ↦ elim (faces_cases mesh xs h.1) [
    | inl rest ↦ inl (inside, rest)
    | inr (f, bad) ↦ inr (
      f,
      record {
        listed = or_right (eqb f x) (is_listed xs f) bad.listed;
        outside = bad.outside;
        least = λ g below is. elim (or_cases (eqb g x) (is_listed xs g) is) [
          | inl here ↦ subst (λ k. k < face_count mesh) (sym (eqb-true g x here)) inside
          | inr later ↦ bad.least g below later
        ];
      },
    )
  ]
]

-- equal or not
cases_same : (a b : Bool) → (a ≡ b) ⊎ (a ≢ b)
cases_same true true = inl refl
cases_same true false = inr (λ e. false≢true (sym e))
cases_same false true = inr false≢true
cases_same false false = inl refl

null_some : (mesh : Mesh) (chain : Chain) (faces : List ℕ) → AllPairs (λ f g. f < g) faces →
    IsNullEvidence mesh chain faces ⊎ ((fault : Fault) × IsFirstFault mesh chain (null_faces faces) fault)
null_some mesh chain faces rises =
    elim (faces_cases mesh faces (climbing_from faces rises)) [
      | inr (f, bad) ↦ inr (no_face f, bad)
      | inl inside ↦
          let are_faces : All (λ f. f < face_count mesh) faces =
          All-from_recursion (λ f. f < face_count mesh) faces inside in
          let here : ℕ → Bool = boundary mesh (is_listed faces) in
          elim (least_such (edge_count mesh) (λ e. here e ≢ chain e) (λ e l. elim (cases_same (here e) (chain e)) [
            | inl same ↦ inr (λ ne. ne same)
            | inr ne ↦ inl ne
          ])) [
            | inr none ↦ inl (record {
              rises = rises;
              are_faces = are_faces;
              bounds = λ e l. elim (cases_same (here e) (chain e)) [ inl same ↦ same | inr ne ↦ absurd (none e l ne) ];
            })
            | inl some ↦
                let below : some.at < edge_count mesh = some.below in
                inr (
                  no_boundary (ends mesh some.at).0 (ends mesh some.at).1,
                  record {
                    are_faces = are_faces;
                    edge = some.at;
                    is_edge = some.below;
                    its_ends = refl;
                    differs = some.holds;
                    least = λ e l. elim (cases_same (here e) (chain e)) [
                      | inl same ↦ same
                      | inr ne ↦ let least : some.at ≤ e = some.least e (omega arith) ne in absurd (omega arith)
                    ];
                  },
                )
          ]
    ]

null_not_both : (mesh : Mesh) (chain : Chain) (faces : List ℕ) → IsNullEvidence mesh chain faces → (fault : Fault) →
    IsFirstFault mesh chain (null_faces faces) fault → ⊥
null_not_both mesh chain faces evidence (no_face f) h =
    let inside = all_faces mesh faces evidence.are_faces f h.listed in
    let outside = h.outside in
    omega (arith, inside, outside)
null_not_both mesh chain faces evidence (no_boundary u v) h = h.differs (evidence.bounds h.edge h.is_edge)
null_not_both mesh chain faces evidence (no_pair u v) h = h
null_not_both mesh chain faces evidence (odd_face f) h = h
null_not_both mesh chain faces evidence even_number h = h

face_or_boundary : (mesh : Mesh) (chain : Chain) (faces : List ℕ) (f u v : ℕ) → IsNoFace mesh faces f →
    IsNoBoundary mesh chain faces u v → ⊥
face_or_boundary mesh chain faces f u v h k =
    let inside = all_faces mesh faces k.are_faces f h.listed in
    let outside = h.outside in
    omega (arith, inside, outside)

null_one : (mesh : Mesh) (chain : Chain) (faces : List ℕ) (a b : Fault) → IsFirstFault mesh chain (null_faces faces) a →
    IsFirstFault mesh chain (null_faces faces) b → a ≡ b
null_one mesh chain faces (no_face f) (no_face g) h k = elim (cases_order f g) [
  | inl same ↦ ap no_face same
  | inr apart ↦
      let first_out = h.outside in
      let second_out = k.outside in
      elim apart [
        | inl less ↦ let inside = k.least f less h.listed in absurd (omega (arith, inside, first_out))
        | inr more ↦ let inside = h.least g more k.listed in absurd (omega (arith, inside, second_out))
      ]
]
null_one mesh chain faces (no_face f) (no_boundary u v) h k = absurd (face_or_boundary mesh chain faces f u v h k)
null_one mesh chain faces (no_boundary u v) (no_face f) h k = absurd (face_or_boundary mesh chain faces f u v k h)
null_one mesh chain faces (no_boundary u v) (no_boundary x y) h k =
    let same_edge : h.edge ≡ k.edge = elim (cases_order h.edge k.edge) [
      | inl same ↦ same
      | inr apart ↦ elim apart [
        | inl less ↦ absurd (h.differs (k.least h.edge less))
        | inr more ↦ absurd (k.differs (h.least k.edge more))
      ]
    ] in
    let both : (u, v) ≡ (x, y) = sym h.its_ends ∙ ap (ends mesh) same_edge ∙ k.its_ends in
    ap (λ (p : ℕ × ℕ). no_boundary p.0 p.1) both
null_one mesh chain faces (no_face f) (no_pair x y) h k = absurd k
null_one mesh chain faces (no_face f) (odd_face g) h k = absurd k
null_one mesh chain faces (no_face f) even_number h k = absurd k
null_one mesh chain faces (no_boundary u v) (no_pair x y) h k = absurd k
null_one mesh chain faces (no_boundary u v) (odd_face g) h k = absurd k
null_one mesh chain faces (no_boundary u v) even_number h k = absurd k
null_one mesh chain faces (no_pair u v) b h k = absurd h
null_one mesh chain faces (odd_face f) b h k = absurd h
null_one mesh chain faces even_number b h k = absurd h

-- ---- pairs

pair_above : (p q : ℕ × ℕ) (ps : List (ℕ × ℕ)) → AllByRecursion (λ r. pair_lt p r ≡ true) ps → among q ps ≡ true →
    pair_lt p q ≡ true
pair_above p q [] h is = absurd (false≢true is)
pair_above p q (r ∷ rs) h is = elim (or_cases (pair_eq q r) (among q rs) is) [
  | inl here ↦ subst (λ t. pair_lt p t ≡ true) (sym (pair_eq-true q r here)) h.0
  | inr later ↦ pair_above p q rs h.1 later
]

pair_listed : (mesh : Mesh) (ps : List (ℕ × ℕ)) → AllByRecursion (Contains (edges mesh)) ps → (p : ℕ × ℕ) →
    among p ps ≡ true → among p (edges mesh) ≡ true
pair_listed mesh [] h p is = absurd (false≢true is)
pair_listed mesh (q ∷ qs) h p is = elim (or_cases (pair_eq p q) (among p qs) is) [
  | inl here ↦ ap (λ r. among r (edges mesh)) (pair_eq-true p q here) ∙ among-contains q (edges mesh) h.0
  | inr later ↦ pair_listed mesh qs h.1 p later
]

all_pairs : (mesh : Mesh) (pairs : List (ℕ × ℕ)) → All (Contains (edges mesh)) pairs → (p : ℕ × ℕ) →
    among p pairs ≡ true → among p (edges mesh) ≡ true
all_pairs mesh pairs h = pair_listed mesh pairs (recursion_from_All (Contains (edges mesh)) pairs h)

pairs_cases : (mesh : Mesh) (ps : List (ℕ × ℕ)) → Rising ps →
    AllByRecursion (Contains (edges mesh)) ps ⊎ ((p : ℕ × ℕ) × IsNoPair mesh ps p.0 p.1)
pairs_cases mesh [] h = inl tt
pairs_cases mesh (p ∷ ps) h = elim (cases_Bool (among p (edges mesh))) [
  | inr outside ↦ inr (
    p,
    record {
      listed = or_left (pair_eq p p) (among p ps) (pair_eq-self p);
      outside = outside;
      least = λ q below is. elim (or_cases (pair_eq q p) (among q ps) is) [
        | inl here ↦ absurd (pair_lt-irreflexive q p below (pair_eq-true q p here))
        | inr later ↦ absurd (pair_lt-irreflexive q q (pair_lt-trans q p q below (pair_above p q ps h.0 later)) refl)
      ];
    },
  )
  | inl inside ↦ elim (pairs_cases mesh ps h.1) [
    | inl rest ↦ inl (contains_from_among p (edges mesh) inside, rest)
    | inr (r, bad) ↦ inr (
      r,
      record {
        listed = or_right (pair_eq r p) (among r ps) bad.listed;
        outside = bad.outside;
        least = λ q below is. elim (or_cases (pair_eq q p) (among q ps) is) [
          | inl here ↦ ap (λ t. among t (edges mesh)) (pair_eq-true q p here) ∙ inside
          | inr later ↦ bad.least q below later
        ];
      },
    )
  ]
]

odd_some : (mesh : Mesh) (chain : Chain) (pairs : List (ℕ × ℕ)) → AllPairs (λ p q. pair_lt p q ≡ true) pairs →
    IsOddEvidence mesh chain pairs ⊎ ((fault : Fault) × IsFirstFault mesh chain (odd_pairs pairs) fault)
odd_some mesh chain pairs rises =
    elim (pairs_cases mesh pairs (rising_from_AllPairs pairs rises)) [
      | inr (p, bad) ↦ inr (no_pair p.0 p.1, bad)
      | inl inside ↦
          let are_edges : All (Contains (edges mesh)) pairs =
          All-from_recursion (Contains (edges mesh)) pairs inside in
          elim (least_such (face_count mesh) (λ f. has_odd_sides mesh pairs f ≡ true) (λ f l.
          elim (cases_Bool (has_odd_sides mesh pairs f)) [
            | inl is ↦ inl is
            | inr out ↦ inr (λ is. false≢true (sym out ∙ is))
          ])) [
            | inl some ↦
                let below : some.at < face_count mesh = some.below in
                inr (
                  odd_face some.at,
                  record {
                    are_edges = are_edges;
                    is_face = some.below;
                    odd_sides = some.holds;
                    least = λ g l. elim (cases_Bool (has_odd_sides mesh pairs g)) [
                      | inr out ↦ out
                      | inl is ↦ let least : some.at ≤ g = some.least g (omega arith) is in absurd (omega arith)
                    ];
                  },
                )
            | inr none ↦
                let faces_even : (f : ℕ) → f < face_count mesh → has_odd_sides mesh pairs f ≡ false =
                λ f l. elim (cases_Bool (has_odd_sides mesh pairs f)) [ inr out ↦ out | inl is ↦ absurd (none f l is) ] in
                elim (cases_Bool (is_odd_in mesh chain pairs)) [
                  | inl is ↦ inl (record {
                    rises = rises;
                    are_edges = are_edges;
                    faces_even = faces_even;
                    chain_odd = is;
                  })
                  | inr out ↦ inr (
                    even_number,
                    record {
                      are_edges = are_edges;
                      faces_even = faces_even;
                      chain_even = out;
                    },
                  )
                ]
          ]
    ]

odd_not_both : (mesh : Mesh) (chain : Chain) (pairs : List (ℕ × ℕ)) → IsOddEvidence mesh chain pairs →
    (fault : Fault) → IsFirstFault mesh chain (odd_pairs pairs) fault → ⊥
odd_not_both mesh chain pairs evidence (no_face f) h = h
odd_not_both mesh chain pairs evidence (no_boundary u v) h = h
odd_not_both mesh chain pairs evidence (no_pair u v) h =
    false≢true (sym h.outside ∙ all_pairs mesh pairs evidence.are_edges (u, v) h.listed)
odd_not_both mesh chain pairs evidence (odd_face f) h =
    false≢true (sym (evidence.faces_even f h.is_face) ∙ h.odd_sides)
odd_not_both mesh chain pairs evidence even_number h = false≢true (sym h.chain_even ∙ evidence.chain_odd)

pair_or_edges : (mesh : Mesh) (pairs : List (ℕ × ℕ)) (u v : ℕ) → IsNoPair mesh pairs u v →
    All (Contains (edges mesh)) pairs → ⊥
pair_or_edges mesh pairs u v h are = false≢true (sym h.outside ∙ all_pairs mesh pairs are (u, v) h.listed)

odd_one : (mesh : Mesh) (chain : Chain) (pairs : List (ℕ × ℕ)) (a b : Fault) → IsFirstFault mesh chain (odd_pairs pairs) a →
    IsFirstFault mesh chain (odd_pairs pairs) b → a ≡ b
odd_one mesh chain pairs (no_pair u v) (no_pair x y) h k =
    let below : (p q : ℕ × ℕ) → IsNoPair mesh pairs p.0 p.1 → IsNoPair mesh pairs q.0 q.1 → pair_lt p q ≡ true → ⊥ =
    λ p q hp hq less. false≢true (sym hp.outside ∙ hq.least p less hp.listed) in
    let same : (u, v) ≡ (x, y) = elim (cases_Bool (pair_eq (u, v) (x, y))) [
      | inl is ↦ pair_eq-true (u, v) (x, y) is
      | inr ne ↦ elim (cases_Bool (pair_lt (u, v) (x, y))) [
        | inl less ↦ absurd (below (u, v) (x, y) h k less)
        | inr not_less ↦ absurd (below (x, y) (u, v) k h (pair_lt-total (u, v) (x, y) not_less ne))
      ]
    ] in
    ap (λ (p : ℕ × ℕ). no_pair p.0 p.1) same
odd_one mesh chain pairs (odd_face f) (odd_face g) h k = elim (cases_order f g) [
  | inl same ↦ ap odd_face same
  | inr apart ↦ elim apart [
    | inl less ↦ absurd (false≢true (sym (k.least f less) ∙ h.odd_sides))
    | inr more ↦ absurd (false≢true (sym (h.least g more) ∙ k.odd_sides))
  ]
]
odd_one mesh chain pairs even_number even_number h k = refl
odd_one mesh chain pairs (no_pair u v) (odd_face f) h k = absurd (pair_or_edges mesh pairs u v h k.are_edges)
odd_one mesh chain pairs (no_pair u v) even_number h k = absurd (pair_or_edges mesh pairs u v h k.are_edges)
odd_one mesh chain pairs (odd_face f) (no_pair u v) h k = absurd (pair_or_edges mesh pairs u v k h.are_edges)
odd_one mesh chain pairs even_number (no_pair u v) h k = absurd (pair_or_edges mesh pairs u v k h.are_edges)
odd_one mesh chain pairs (odd_face f) even_number h k =
    absurd (false≢true (sym (k.faces_even f h.is_face) ∙ h.odd_sides))
odd_one mesh chain pairs even_number (odd_face f) h k =
    absurd (false≢true (sym (h.faces_even f k.is_face) ∙ k.odd_sides))
odd_one mesh chain pairs (no_face f) b h k = absurd h
odd_one mesh chain pairs (no_boundary u v) b h k = absurd h
odd_one mesh chain pairs (no_pair u v) (no_face f) h k = absurd k
odd_one mesh chain pairs (no_pair u v) (no_boundary x y) h k = absurd k
odd_one mesh chain pairs (odd_face f) (no_face g) h k = absurd k
odd_one mesh chain pairs (odd_face f) (no_boundary x y) h k = absurd k
odd_one mesh chain pairs even_number (no_face g) h k = absurd k
odd_one mesh chain pairs even_number (no_boundary x y) h k = absurd k

pub faults_are_told : FaultsAreTold
faults_are_told mesh chain (null_faces faces) rises = record {
  some = null_some mesh chain faces rises;
  not_both = null_not_both mesh chain faces;
  one = null_one mesh chain faces;
}
faults_are_told mesh chain (odd_pairs pairs) rises = record {
  some = odd_some mesh chain pairs rises;
  not_both = odd_not_both mesh chain pairs;
  one = odd_one mesh chain pairs;
}
