-- Connected sums are surfaces.
use Rattle.surf_surfaces.proofs.Common.{◌≡◌, ◌≢◌, ℕ, suc, ◌+◌, ◌-◌, ◌<◌, ◌≤◌, cond, ltb, List, [], ◌∷◌, ◌⊎◌, length, get_or, map, take, drop, refl, sym, ap, ◌∙◌, arith, inl, inr, subst, Contains, cases_eq, cases_lt, lt-ltb, le-ltb, sum_by, take-append-drop, here, over, Mesh, IsFace, pair, face_count, face_at, HasCorner, HasEdge, length-append, length-map, length-take-le, length-drop, get_or_append_left, get_or-append_right, get_or-take, get_or-drop, get_or-map, drop-cons, sum_by-cons, sum_by-append}
use Rattle.surf_surfaces.proofs.meshes.CountLaws.{sizes_twice}
use Rattle.surf_tori.proofs.EulerLaws.{characteristic_of_sum}
use Rattle.surf_surfaces.proofs.meshes.JoinedLaws.{joined_lift}
use Rattle.surf_tori.specs.Coherent.{Runs, IsCoherent}
use Rattle.surf_tori.specs.ConnectedSum.{without, sum_name, connected_sum, CanLose, ConnectedSumsAreSurfaces, ConnectedSumsLoseTwo}
use Rattle.surf_tori.proofs.RankLaws.{name, name_0, name_1, name_2, name_fresh, name_injective, name_in, named}
use Rattle.surf_tori.proofs.TriangleLaws.{corner_of, runs_first}
use Rattle.surf_tori.proofs.RenamedLaws.{edge_corner, run_face, run_corners}
use Rattle.surf_tori.proofs.LinkLaws.{HasKeptFans}
use Rattle.surf_tori.proofs.OpenLaws.{Losing}
use Rattle.surf_tori.proofs.GluedLaws.{IsGlued, glued_is_coherent}
use Rattle.surf_tori.proofs.GluedFans.{Kept, near_first, near_second, glued_fans, glued_is_surface}

-- where an item stands once the f-th is gone
abbrev pub moved : ℕ → ℕ → ℕ
moved f g = cond (ltb g f) g (g - 1)

pub length-without : {X : Type 0} (f : ℕ) (xs : List X) → f < length xs → length (without f xs) + 1 ≡ length xs
length-without f xs h =
    let front : length (take f xs) ≡ f = length-take-le f xs (omega arith) in
    let back = length-drop (f + 1) xs in
    let all = length-append (take f xs) (drop (f + 1) xs) in
    omega (arith, front, back, all)

pub get-without : {X : Type 0} (f g : ℕ) (xs : List X) (d : X) → f < length xs → g ≢ f →
    get_or (without f xs) (moved f g) d ≡ get_or xs g d
get-without f g xs d in' other =
    let front : length (take f xs) ≡ f = length-take-le f xs (omega arith) in
    elim (cases_lt g f) [
      | inl lt ↦ rw (lt-ltb g f lt) (get_or_append_left (take f xs) (drop (f + 1) xs) d g (omega (arith, front))
          ∙ get_or-take f xs g d lt)
      | inr ge ↦
          let at : f + 1 + (g - 1 - f) ≡ g = omega arith in
          rw (le-ltb g f ge) (get_or-append_right (take f xs) (drop (f + 1) xs) f (g - 1) d front (omega arith)
          ∙ get_or-drop (f + 1) xs (g - 1 - f) d ∙ ap (λ n. get_or xs n d) at)
    ]

-- where an item stands once the h-th is gone, behind all of n items but one
abbrev pub behind : ℕ → ℕ → ℕ → ℕ
behind n h k = (n - 1) + moved h k

moved_in : (f g n : ℕ) → f < n → g < n → g ≢ f → moved f g + 1 < n
moved_in f g n x y other = elim (cases_lt g f) [
  | inl lt ↦ rw (lt-ltb g f lt) (omega arith)
  | inr ge ↦ rw (le-ltb g f ge) (omega arith)
]

pub moved_one : (f g k : ℕ) → g ≢ f → k ≢ f → moved f g ≡ moved f k → g ≡ k
moved_one f g k x y e = elim (cases_lt g f) [
  | inl a ↦ elim (cases_lt k f) [
    | inl b ↦ rw (lt-ltb g f a, lt-ltb k f b) at e
    | inr b ↦ let s : g ≡ k - 1 = rw (lt-ltb g f a, le-ltb k f b) at e in absurd (omega arith)
  ]
  | inr a ↦ elim (cases_lt k f) [
    | inl b ↦ let s : g - 1 ≡ k = rw (le-ltb g f a, lt-ltb k f b) at e in absurd (omega arith)
    | inr b ↦ let s : g - 1 ≡ k - 1 = rw (le-ltb g f a, le-ltb k f b) at e in omega arith
  ]
]

moved_from : (f n x : ℕ) → f < n → x + 1 < n → (g : ℕ) × (g < n) × (g ≢ f) × (x ≡ moved f g)
moved_from f n x f_in x_in = elim (cases_lt x f) [
  | inl lt ↦ (x, omega arith, (λ e. omega arith), rw (lt-ltb x f lt))
  | inr ge ↦
      let late : f ≤ x + 1 = omega arith in
      (x + 1, x_in, (λ e. omega arith), rw (le-ltb (x + 1) f late) (omega arith))
]

module _ {M N : Mesh} {f h a0 a1 a2 b0 b1 b2 : ℕ} (f_in : f < face_count M) (h_in : h < face_count N)
    (first : face_at M f ≡ b0 ∷ b1 ∷ b2 ∷ []) (second : face_at N h ≡ a0 ∷ a1 ∷ a2 ∷ []) (of_first : IsCoherent M)
    (of_second : IsCoherent N) where
  is_first : IsFace M.vertices (b0 ∷ b1 ∷ b2 ∷ [])
  is_first = subst (IsFace M.vertices) first (of_first.is_mesh f [] f_in)

  is_second : IsFace N.vertices (a0 ∷ a1 ∷ a2 ∷ [])
  is_second = subst (IsFace N.vertices) second (of_second.is_mesh h [] h_in)

  pub d01 : a0 ≢ a1
  d01 = is_second.distinct 0 1 0 (omega arith) (omega arith)

  pub d02 : a0 ≢ a2
  d02 = is_second.distinct 0 2 0 (omega arith) (omega arith)

  pub d12 : a1 ≢ a2
  d12 = is_second.distinct 1 2 0 (omega arith) (omega arith)

  pub e01 : b0 ≢ b1
  e01 = is_first.distinct 0 1 0 (omega arith) (omega arith)

  pub e02 : b0 ≢ b2
  e02 = is_first.distinct 0 2 0 (omega arith) (omega arith)

  pub e12 : b1 ≢ b2
  e12 = is_first.distinct 1 2 0 (omega arith) (omega arith)

  abbrev pub new : ℕ → ℕ
  new = name d01 d02 d12 M.vertices b0 b1 b2

  abbrev old_name : ℕ → ℕ
  old_name = sum_name M.vertices (face_at M f) (face_at N h)

  same_name : old_name ≡ new
  same_name = ap (λ face. sum_name M.vertices face (face_at N h)) first
      ∙ ap (sum_name M.vertices (b0 ∷ b1 ∷ b2 ∷ [])) second

  front_long : length (without f M.faces) + 1 ≡ face_count M
  front_long = length-without f M.faces f_in

  back_long : length (without h N.faces) + 1 ≡ face_count N
  back_long = length-without h N.faces h_in

  pub sum_count : face_count (connected_sum M f N h) + 2 ≡ face_count M + face_count N
  sum_count =
      let front = front_long in
      let back = back_long in
      let all = length-append (without f M.faces) (map (map old_name) (without h N.faces)) in
      let mapped = length-map (without h N.faces) (map old_name) in
      omega (arith, front, back, all, mapped)

  left_face : (g : ℕ) → g < face_count M → g ≢ f → face_at (connected_sum M f N h) (moved f g) ≡ face_at M g
  left_face g in' other =
      let front = front_long in
      let at = moved_in f g (face_count M) f_in in' other in
      get_or_append_left (without f M.faces) (map (map old_name) (without h N.faces)) [] (moved f g)
      (omega (arith, front, at))
      ∙ get-without f g M.faces [] f_in other

  right_face : (k : ℕ) → k < face_count N → k ≢ h →
      face_at (connected_sum M f N h) (behind (face_count M) h k) ≡ map new (face_at N k)
  right_face k in' other =
      let front = front_long in
      let back = back_long in
      let at = moved_in h k (face_count N) h_in in' other in
      let there : behind (face_count M) h k - (face_count M - 1) ≡ moved h k = omega arith in
      get_or-append_right (without f M.faces) (map (map old_name) (without h N.faces)) (face_count M - 1)
      (behind (face_count M) h k) []
      (omega (arith, front)) (omega arith)
      ∙ ap (λ n. get_or (map (map old_name) (without h N.faces)) n []) there
      ∙ get_or-map (map old_name) (without h N.faces) (moved h k) [] [] (omega (arith, back, at))
      ∙ ap (map old_name) (get-without h k N.faces [] h_in other)
      ∙ ap (λ (rename : ℕ → ℕ). map rename (face_at N k)) same_name

  faces : (x : ℕ) → x < face_count (connected_sum M f N h) →
      ((g : ℕ) × (g < face_count M) × (g ≢ f) × (x ≡ moved f g))
      ⊎ ((k : ℕ) × (k < face_count N) × (k ≢ h) × (x ≡ behind (face_count M) h k))
  faces x in' =
      let all = sum_count in
      elim (cases_lt (x + 1) (face_count M)) [
        | inl lt ↦ inl (moved_from f (face_count M) x f_in lt)
        | inr ge ↦
            let r = moved_from h (face_count N) (x - (face_count M - 1)) h_in (omega (arith, all, in', ge)) in
            inr (r.0, r.1, r.2, omega (arith, r.3, ge))
      ]

  pub sum_is_glued : IsGlued M N (connected_sum M f N h) f h new (moved f) (behind (face_count M) h) a0 a1 a2 b0 b1 b2
  sum_is_glued = record {
    first = first;
    second = second;
    named_0 = name_0 d01 d02 d12 M.vertices b0 b1 b2;
    named_1 = name_1 d01 d02 d12 M.vertices b0 b1 b2;
    named_2 = name_2 d01 d02 d12 M.vertices b0 b1 b2;
    fresh = λ v in'. name_fresh d01 d02 d12 M.vertices b0 b1 b2 v;
    named_in = name_in d01 d02 d12 M.vertices b0 b1 b2 (is_first.inside 0 0 (omega arith))
        (is_first.inside 1 0 (omega arith)) (is_first.inside 2 0 (omega arith)) e01 e02 e12 N.vertices
        (is_second.inside 0 0 (omega arith)) (is_second.inside 1 0 (omega arith)) (is_second.inside 2 0 (omega arith));
    injective = λ u v x y. name_injective d01 d02 d12 M.vertices b0 b1 b2 (is_first.inside 0 0 (omega arith))
        (is_first.inside 1 0 (omega arith)) (is_first.inside 2 0 (omega arith)) e01 e02 e12 u v;
    old_in = λ v x. omega arith;
    vertices = named d01 d02 d12 M.vertices b0 b1 b2 (is_first.inside 0 0 (omega arith))
        (is_first.inside 1 0 (omega arith)) (is_first.inside 2 0 (omega arith)) e01 e02 e12 N.vertices
        (is_second.inside 0 0 (omega arith)) (is_second.inside 1 0 (omega arith)) (is_second.inside 2 0 (omega arith));
    left_in = λ g in' other.
        let at = moved_in f g (face_count M) f_in in' other in let all = sum_count in omega (arith, at, all, h_in);
    left_face = left_face;
    right_in = λ k in' other.
        let at = moved_in h k (face_count N) h_in in' other in let all = sum_count in omega (arith, at, all, f_in);
    right_face = right_face;
    faces = faces;
  }

-- the corners of a triangle
three_corners : (face : List ℕ) → length face ≡ 3 → (x : ℕ) × (y : ℕ) × (z : ℕ) × (face ≡ x ∷ y ∷ z ∷ [])
three_corners [] e = absurd (omega arith)
three_corners (x ∷ []) e = absurd (omega arith)
three_corners (x ∷ y ∷ []) e = absurd (omega arith)
three_corners (x ∷ y ∷ z ∷ []) e = (x, y, z, refl)
three_corners (x ∷ y ∷ z ∷ w ∷ rest) e = absurd (omega arith)

pub losing_of : (mesh : Mesh) (f : ℕ) → CanLose mesh f → (x : ℕ) × (y : ℕ) × (z : ℕ) × Losing mesh f x y z
losing_of mesh f can =
    let c = three_corners (face_at mesh f) can.triangle in (
      c.0,
      c.1,
      c.2,
      record {
        coherent = can.coherent;
        triangle = c.3;
        no_isolated = can.surface.no_isolated;
        fans = can.fans;
        connected = can.surface.connected;
      },
    )

pub connected_sums_are_surfaces : ConnectedSumsAreSurfaces
connected_sums_are_surfaces M N f h can_first can_second =
    let one = losing_of M f can_first in
    let two = losing_of N h can_second in
    glued_is_surface (sum_is_glued can_first.is_face can_second.is_face one.3.triangle two.3.triangle can_first.coherent
    can_second.coherent) one.3 two.3

-- the fans without one triangle or without another, which has no corner in common with it, are fans without both
pub fans_without_both : (mesh : Mesh) (f h x y z : ℕ) → IsCoherent mesh → face_at mesh f ≡ x ∷ y ∷ z ∷ [] →
    HasKeptFans mesh (λ g. g ≢ f) → HasKeptFans mesh (λ g. g ≢ h) →
    ((v : ℕ) → HasCorner mesh f v → HasCorner mesh h v → ⊥) → HasKeptFans mesh (λ g. (g ≢ f) × (g ≢ h))
fans_without_both mesh f h x y z coherent is without_f without_h apart v in' g k kg kk cg ck =
    elim (at_f (cases_eq v x) (cases_eq v y) (cases_eq v z)) [
      | inl there ↦ joined_lift (λ p q s. over (
        (s.0, (λ e. apart v there (subst (λ t. HasCorner mesh t v) e (corner p s.2.0 s.2.1)))),
        (s.1, (λ e. apart v there (subst (λ t. HasCorner mesh t v) e (corner q s.2.0 s.2.2)))),
        s.2,
      ) here) (without_f v in' g k kg.0 kk.0 cg ck)
      | inr away ↦ joined_lift (λ p q s. over (
        ((λ e. away (subst (λ t. HasCorner mesh t v) e (corner p s.2.0 s.2.1))), s.0),
        ((λ e. away (subst (λ t. HasCorner mesh t v) e (corner q s.2.0 s.2.2))), s.1),
        s.2,
      ) here) (without_h v in' g k kg.1 kk.1 cg ck)
    ]
  where
    corner : (p w : ℕ) → HasEdge mesh p (pair v w) → HasCorner mesh p v
    corner p w e = (e.0, edge_corner v w (face_at mesh p) e.1)

    runs_f : Runs mesh f (x, y)
    runs_f = rw is (runs_first x y z)

    at_f : (v ≡ x) ⊎ (v ≢ x) → (v ≡ y) ⊎ (v ≢ y) → (v ≡ z) ⊎ (v ≢ z) →
        HasCorner mesh f v ⊎ (HasCorner mesh f v → ⊥)
    at_f a b c =
        let f_in = run_face mesh f (x, y) runs_f in
        let has : Contains (x ∷ y ∷ z ∷ []) v → HasCorner mesh f v =
        λ m. (f_in, subst (λ face. Contains face v) (sym is) m) in
        elim a [
          | inl e ↦ inl (has (0, omega arith, sym e))
          | inr i ↦ elim b [
            | inl e ↦ inl (has (1, omega arith, sym e))
            | inr j ↦ elim c [
              | inl e ↦ inl (has (2, omega arith, sym e))
              | inr l ↦ inr (λ m. elim (corner_of x y z v (subst (λ face. Contains face v) is m.1)) [
                | inl e ↦ i e
                | inr o ↦ elim o [ inl e ↦ j e | inr e ↦ l e ]
              ])
            ]
          ]
        ]

-- in a connected sum with a surface that could lose another triangle too, that triangle can be lost
pub sum_can_lose : (M N : Mesh) (f h t : ℕ) → CanLose M f → CanLose N h → t < face_count N → t ≢ h →
    length (face_at N t) ≡ 3 → HasKeptFans N (λ k. k ≢ t) →
    ((v : ℕ) → HasCorner N h v → HasCorner N t v → ⊥) → CanLose (connected_sum M f N h) (behind (face_count M) h t)
sum_can_lose M N f h t can_first can_second t_in other three fans_t apart =
    let one = losing_of M f can_first in
    let two = losing_of N h can_second in
    let c1 = can_first.coherent in
    let c2 = can_second.coherent in
    let glued = sum_is_glued can_first.is_face can_second.is_face one.3.triangle two.3.triangle c1 c2 in
    let fans_both = fans_without_both N h t two.0 two.1 two.2 c2 two.3.triangle can_second.fans fans_t apart in
    let fans = glued_fans glued c1 c2 (λ g. g ≢ f) (λ k. (k ≢ h) × (k ≢ t)) (λ g x. x) (λ k x. x.0) one.3.fans fans_both
    (λ s. (near_first glued c1 c2 s).1)
    (λ s. let near = near_second glued c1 c2 s in (
      near.1,
      (λ e. apart s.i (run_face N h (s.j, s.i) s.in_second, (run_corners (s.j, s.i) (face_at N h) s.in_second).1)
          (subst (λ k. HasCorner N k s.i) e
          (run_face N near.0 (s.i, s.j) near.2, (run_corners (s.i, s.j) (face_at N near.0) near.2).0))),
    )) in
    let at = behind (face_count M) h t in
    let InBoth = Kept M N (moved f) (behind (face_count M) h) (λ g. g ≢ f) (λ k. (k ≢ h) × (k ≢ t)) in
    let kept : (x : ℕ) → x < face_count (connected_sum M f N h) → x ≢ at → InBoth x = λ x in' away.
    elim (glued.faces x in') [
      | inl l ↦ inl (l.0, l.1, l.2, l.3)
      | inr q ↦ inr (q.0, q.1, (q.2, (λ e. away (q.3 ∙ ap (behind (face_count M) h) e))), q.3)
    ] in
    let away : (x : ℕ) → InBoth x → x ≢ at = λ x k e. elim k [
      | inl l ↦ let low = moved_in f l.0 (face_count M) can_first.is_face l.1 l.2 in
          let is = sym l.3 ∙ e in omega (arith, low, is)
      | inr q ↦
          let same = sym q.3 ∙ e in
          q.2.1 (moved_one h q.0 t q.2.0 other (omega (arith, same)))
    ] in
    record {
      surface = glued_is_surface glued one.3 two.3;
      coherent = glued_is_coherent glued c1 c2;
      is_face = glued.right_in t t_in other;
      triangle = ap length (glued.right_face t t_in other) ∙ length-map (face_at N t) _ ∙ three;
      fans = λ v in' x y nx ny cx cy. joined_lift (λ p q s. over (away p s.0, away q s.1, s.2) here)
          (fans v in' x y (kept x cx.0 nx) (kept y cy.0 ny) cx cy);
    }

-- sizes without one item
sizes_without : (n : ℕ) (xs : List (List ℕ)) → n < length xs →
    sum_by length (without n xs) + length (get_or xs n []) ≡ sum_by length xs
sizes_without n xs in' =
    let next : n + 1 ≡ suc n = omega arith in
    let here = drop-cons xs n [] in' in
    let whole : sum_by length xs ≡ sum_by length (take n xs) + sum_by length (drop n xs) =
    ap (sum_by length) (sym (take-append-drop n xs)) ∙ sum_by-append length (take n xs) (drop n xs) in
    let back : sum_by length (drop n xs) ≡ length (get_or xs n []) + sum_by length (drop (n + 1) xs) =
    ap (sum_by length) here ∙ sum_by-cons length (get_or xs n []) (drop (suc n) xs)
    ∙ ap (λ m. length (get_or xs n []) + sum_by length (drop m xs)) (sym next) in
    let all = sum_by-append length (take n xs) (drop (n + 1) xs) in
    omega (arith, whole, back, all)

sizes_renamed : (name : ℕ → ℕ) (xs : List (List ℕ)) → sum_by length (map (map name) xs) ≡ sum_by length xs
sizes_renamed name [] = refl
sizes_renamed name (x ∷ xs) =
    let one = sum_by-cons length (map name x) (map (map name) xs) in
    let two = sum_by-cons length x xs in
    let same : length (map name x) ≡ length x = length-map x name in
    omega (arith, one, two, same, sizes_renamed name xs)

-- three different numbers below a bound
three_below : (n x y z : ℕ) → IsFace n (x ∷ y ∷ z ∷ []) → 3 ≤ n
three_below n x y z h =
    let a : x < n = h.inside 0 0 (omega arith) in
    let b : y < n = h.inside 1 0 (omega arith) in
    let c : z < n = h.inside 2 0 (omega arith) in
    let d : x ≢ y = h.distinct 0 1 0 (omega arith) (omega arith) in
    let e : x ≢ z = h.distinct 0 2 0 (omega arith) (omega arith) in
    let f : y ≢ z = h.distinct 1 2 0 (omega arith) (omega arith) in
    omega arith

pub connected_sums_lose_two : ConnectedSumsLoseTwo
connected_sums_lose_two M N f h can_first can_second =
    let K = connected_sum M f N h in
    let one = losing_of M f can_first in
    let two = losing_of N h can_second in
    let name = sum_name M.vertices (face_at M f) (face_at N h) in
    let surface = connected_sums_are_surfaces M N f h can_first can_second in
    let faces = sum_count can_first.is_face can_second.is_face one.3.triangle two.3.triangle can_first.coherent
    can_second.coherent in
    let large = three_below N.vertices two.0 two.1 two.2
    (subst (IsFace N.vertices) two.3.triangle (can_second.coherent.is_mesh h [] can_second.is_face)) in
    let front = sizes_without f M.faces can_first.is_face in
    let back = sizes_without h N.faces can_second.is_face in
    let renamed = sizes_renamed name (without h N.faces) in
    let all = sum_by-append length (without f M.faces) (map (map name) (without h N.faces)) in
    let first_edges = sizes_twice M can_first.surface in
    let second_edges = sizes_twice N can_second.surface in
    let edges = sizes_twice K surface in
    let a = can_first.triangle in
    let b = can_second.triangle in
    characteristic_of_sum M N K (omega (arith, large))
    (omega (arith, front, back, renamed, all, first_edges, second_edges, edges, a, b)) faces
