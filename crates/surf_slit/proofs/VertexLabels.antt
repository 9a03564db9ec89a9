-- Labels at one vertex after another.
use Rattle.surf_slit.proofs.Common.{◌≡◌, ◌≢◌, ℕ, ◌+◌, ◌-◌, ◌<◌, ◌≤◌, ◌⊎◌, zero, suc, max, inl, inr, sym, refl, subst, ap, ◌∙◌, List, length, get_or, replicate, eqb, Bool, true, false, arith, cases_eq, cases_lt, cases_order, or_left, or_right, eq-eqb, or_cases, eqb-true, count_below, Joined, here, over, Mesh, pair, edge_count, ends, touches, ShareAt, IsSurface, side_count, slice_index, set, get_or-set_same, get_or-set_other, get_or-replicate, ends_below, joined_lift, ShareUncutAt, pigeons, edge_of, BeginsAt, IsRing, IsEdgeAt, AreEdgesAt, GoBetween, begins_corner, corner_begins, corner_at, IsUncut, AgreeAt, AreNumbers, AreLabels, IsLabelledAt, run_of, place, cut_behind, NoneCut, IsNextCut}
use Rattle.surf_slit.proofs.Fans.{IsFan}
use Rattle.surf_slit.proofs.Steps.{labels_few, corner_below, all_labels, each_vertex, agree_kept, agree_elsewhere, runs_agree, runs_between, runs_used, agree_closed, agree_split, old_same}
use Rattle.surf_slit.proofs.Turned.{turned, place_last}

-- the corners at the first n vertices have so many labels, and these agree (IsLabelledAt is of one vertex)
pub record AreLabelledBelow (mesh : Mesh) (cut : List Bool) (labels : List ℕ) (n count : ℕ) : Type 0 where
  pub size : length labels ≡ side_count mesh
  pub below : (s : ℕ) → s < side_count mesh → corner_at mesh s < n → slice_index labels s < count
  pub used : (l : ℕ) → l < count → (s : ℕ) × (s < side_count mesh) × (corner_at mesh s < n) × (slice_index labels s ≡ l)
  pub one_vertex : (s t : ℕ) → s < side_count mesh → t < side_count mesh → corner_at mesh s < n → corner_at mesh t < n → slice_index labels s ≡ slice_index labels t → corner_at mesh s ≡ corner_at mesh t
  pub agree : (v : ℕ) → v < n → AgreeAt mesh cut labels v

pub ring_few : {mesh : Mesh} {v : ℕ} {ring : List ℕ} → IsRing mesh v ring → length ring ≤ side_count mesh
ring_few {mesh} {v} {ring} is = pigeons (length ring) (side_count mesh) (λ k s. get_or ring k 0 ≡ s) (λ k h. (get_or ring k 0, (is.begin k h).0, refl)) (λ k l s a b e f. same k l a b (e ∙ sym f))
  where
    same : (k l : ℕ) → k < length ring → l < length ring → get_or ring k 0 ≡ get_or ring l 0 → k ≡ l
    same k l a b e = elim (cases_order k l) [
      | inl i ↦ i
      | inr o ↦ elim o [ inl lt ↦ absurd (is.differ k l lt b e) | inr gt ↦ absurd (is.differ l k gt a (sym e)) ]
    ]

pub fan_of : {mesh : Mesh} {v : ℕ} {ring edges : List ℕ} → IsRing mesh v ring → AreEdgesAt mesh v edges → GoBetween mesh ring edges → IsFan mesh v (length ring) (λ k. get_or ring k 0) (λ k. get_or edges k 0)
fan_of {mesh} {v} {ring} {edges} is are go =
    let n = go.size in
    record {
      some = is.some;
      begin = is.begin;
      all = is.all;
      differ = λ i k a b e. elim (cases_order i k) [
        | inl same ↦ same
        | inr o ↦ elim o [ inl lt ↦ absurd (is.differ i k lt b e) | inr gt ↦ absurd (is.differ k i gt a (sym e)) ]
      ];
      is_edge = λ k h. (are.at k (omega arith)).0;
      at = λ k h. (are.at k (omega arith)).1;
      every = λ e h t. let k = are.all e (h, t) in let lt = k.1 in (k.0, omega arith, k.2);
      once = λ i k a b e. elim (cases_order i k) [
        | inl same ↦ same
        | inr o ↦ elim o [ inl lt ↦ absurd (are.differ i k lt (omega arith) e) | inr gt ↦ absurd (are.differ k i gt (omega arith) (sym e)) ]
      ];
      behind = λ k f h a. go.behind k f h a;
      ahead = λ k g h a. go.ahead k g h a;
    }

-- a vertex whose runs have got labels
pub labelled : {mesh : Mesh} → IsSurface mesh → {v : ℕ} {ring edges : List ℕ} → IsRing mesh v ring → AreEdgesAt mesh v edges → GoBetween mesh ring edges → (cut : List Bool) (labels : List ℕ) (first count : ℕ) →
    count ≡ max 1 (count_below (length edges) (cut_behind edges cut)) → ((k : ℕ) → k < length ring → get_or labels (get_or ring k 0) 0 ≡ first + run_of (length edges) (cut_behind edges cut) k) → IsLabelledAt mesh cut labels v first count
labelled {mesh} surface {v} {ring} {edges} is are go cut labels first count own runs =
    let fan = fan_of is are go in
    let runs' : (k : ℕ) → k < length ring → get_or labels (get_or ring k 0) 0 ≡ first + run_of (length ring) (cut_behind edges cut) k = λ k h. subst (λ n. get_or labels (get_or ring k 0) 0 ≡ first + run_of n (cut_behind edges cut) k) go.size (runs k h) in
    let many : max 1 (count_below (length ring) (cut_behind edges cut)) ≡ count = ap (λ n. max 1 (count_below n (cut_behind edges cut))) (sym go.size) ∙ sym own in
    record {
      from = λ s b. (runs_between surface fan cut labels first runs' s b).0;
      upto = λ s b. subst (λ c. get_or labels s 0 < first + c) many (runs_between surface fan cut labels first runs' s b).1;
      used = λ l h. runs_used surface fan cut labels first runs' l (subst (λ c. l < c) (sym many) h);
      agree = runs_agree surface fan cut labels first runs';
    }

-- one vertex more is labelled
pub labelled_more : {mesh : Mesh} {cut : List Bool} {old new : List ℕ} {v count more : ℕ} → AreLabelledBelow mesh cut old v count → length new ≡ side_count mesh → IsLabelledAt mesh cut new v count more →
    ((s : ℕ) → s < side_count mesh → corner_at mesh s ≢ v → get_or new s 0 ≡ get_or old s 0) → AreLabelledBelow mesh cut new (v + 1) (count + more)
labelled_more {mesh} {cut} {old} {new} {v} {count} {more} before size at kept =
    record {
      size = size;
      below = λ s h c. elim (cases_eq (corner_at mesh s) v) [
        | inl e ↦ at.upto s (h, e)
        | inr ne ↦ let k = kept s h ne in let b = before.below s h (omega arith) in omega arith
      ];
      used = λ l h. elim (cases_lt l count) [
        | inl lt ↦
            let u = before.used l lt in
            let low : corner_at mesh u.0 < v = u.2 in
            (u.0, u.1, omega arith, kept u.0 u.1 (λ e. omega arith) ∙ u.3)
        | inr ge ↦
            let u = at.used (l - count) (omega arith) in
            let own : corner_at mesh u.0 ≡ v = u.1.1 in
            let s : count + (l - count) ≡ l = omega arith in
            (u.0, u.1.0, omega arith, u.2 ∙ s)
      ];
      one_vertex = λ s t a b c d e. elim (cases_eq (corner_at mesh s) v) [
        | inl i ↦ elim (cases_eq (corner_at mesh t) v) [
          | inl j ↦ i ∙ sym j
          | inr nj ↦ let k = kept t b nj in let low = before.below t b (omega arith) in let high = at.from s (a, i) in absurd (omega arith)
        ]
        | inr ni ↦ elim (cases_eq (corner_at mesh t) v) [
          | inl j ↦ let k = kept s a ni in let low = before.below s a (omega arith) in let high = at.from t (b, j) in absurd (omega arith)
          | inr nj ↦ before.one_vertex s t a b (omega arith) (omega arith) (sym (kept s a ni) ∙ e ∙ kept t b nj)
        ]
      ];
      agree = λ u h. elim (cases_eq u v) [
        | inl e ↦ subst (λ u. AgreeAt mesh cut new u) (sym e) at.agree
        | inr ne ↦ agree_kept mesh cut old new u (λ s b. kept s b.0 (λ e. ne (sym b.1 ∙ e))) (before.agree u (omega arith))
      ];
    }

pub labelled_none : {mesh : Mesh} (cut : List Bool) (labels : List ℕ) → length labels ≡ side_count mesh → AreLabelledBelow mesh cut labels 0 0
labelled_none cut labels size = record {
  size = size;
  below = λ s h c. absurd (omega arith);
  used = λ l h. absurd (omega arith);
  one_vertex = λ s t a b c d e. absurd (omega arith);
  agree = λ v h. absurd (omega arith);
}

pub below_few : {mesh : Mesh} {cut : List Bool} {labels : List ℕ} {n count : ℕ} → AreLabelledBelow mesh cut labels n count → count ≤ side_count mesh
below_few {mesh} {cut} {labels} {n} {count} are = labels_few mesh labels count (λ l h. let u = are.used l h in (u.0, u.1, u.3))

pub labelled_all : {mesh : Mesh} → IsSurface mesh → {cut : List Bool} {labels : List ℕ} {n count : ℕ} → n ≡ mesh.vertices → AreLabelledBelow mesh cut labels n count → AreLabels mesh cut labels count
labelled_all {mesh} surface {cut} {labels} {n} {count} all are =
    let low : (s : ℕ) → s < side_count mesh → corner_at mesh s < n = λ s h. let b = corner_below surface s h in omega arith in
    all_labels surface cut labels count
    (record {
      size = are.size;
      below = λ s h. are.below s h (low s h);
      used = λ l h. let u = are.used l h in (u.0, u.1, u.3);
      one_vertex = λ s t a b e. are.one_vertex s t a b (low s a) (low t b) e;
    })
    (λ v h. are.agree v (omega arith))

-- with no edge cut, the numbers of the vertices are labels
pub vertices_are_labels : {mesh : Mesh} → IsSurface mesh → (labels : List ℕ) → length labels ≡ side_count mesh → ((s : ℕ) → s < side_count mesh → get_or labels s 0 ≡ corner_at mesh s) → AreLabels mesh (replicate (edge_count mesh) false) labels mesh.vertices
vertices_are_labels {mesh} surface labels size are =
    all_labels surface (replicate (edge_count mesh) false) labels mesh.vertices
    (record {
      size = size;
      below = λ s h. let e = are s h in let b = corner_below surface s h in omega arith;
      used = λ l h. let f = surface.no_isolated l h in let s = corner_begins mesh f.0 l f.1 in (s.0, s.1.0.0, are s.0 s.1.0.0 ∙ s.1.0.1);
      one_vertex = λ s t a b e. sym (are s a) ∙ e ∙ are t b;
    })
    (λ v h s t f g a b c d. (
      (λ e. joined_lift (free v) (surface.one_fan v h f g (begins_corner mesh f v s a c) (begins_corner mesh g v t b d))),
      (λ p. are s a.0 ∙ a.1 ∙ sym (are t b.0 ∙ b.1)),
    ))
  where
    free : (v f g : ℕ) → ShareAt mesh v f g → Joined (ShareUncutAt mesh (IsUncut mesh (replicate (edge_count mesh) false)) v) f g
    free v f g s =
        let e = edge_of mesh f (pair v s.0) s.1 in
        over (s.0, record { has = s.1 }, record { has = s.2 }, (e.0, e.1, e.2, get_or-replicate (edge_count mesh) e.0 false false e.1)) here

-- the ends of an edge
pub at_first : (mesh : Mesh) (e : ℕ) → e < edge_count mesh → IsEdgeAt mesh (ends mesh e).0 e
at_first mesh e h = (h, or_left (eqb (ends mesh e).0 (ends mesh e).0) (eqb (ends mesh e).1 (ends mesh e).0) (eq-eqb (ends mesh e).0 (ends mesh e).0 refl))

pub at_second : (mesh : Mesh) (e : ℕ) → e < edge_count mesh → IsEdgeAt mesh (ends mesh e).1 e
at_second mesh e h = (h, or_right (eqb (ends mesh e).0 (ends mesh e).1) (eqb (ends mesh e).1 (ends mesh e).1) (eq-eqb (ends mesh e).1 (ends mesh e).1 refl))

pub an_end : (mesh : Mesh) (v e : ℕ) → touches v (ends mesh e) ≡ true → ((ends mesh e).0 ≡ v) ⊎ ((ends mesh e).1 ≡ v)
an_end mesh v e t = elim (or_cases (eqb (ends mesh e).0 v) (eqb (ends mesh e).1 v) t) [ inl i ↦ inl (eqb-true (ends mesh e).0 v i) | inr i ↦ inr (eqb-true (ends mesh e).1 v i) ]

-- a flag that is set and taken back
pub set_back : (cut : List Bool) (e h : ℕ) → e < length cut → get_or cut e false ≡ false → get_or (set (set cut e true) e false) h false ≡ get_or cut h false
set_back cut e h lt free = elim (cases_eq h e) [
  | inl i ↦ ap (λ h. get_or (set (set cut e true) e false) h false) i ∙ get_or-set_same (set cut e true) e false false (let n = Rattle.std.proofs.lemmas.List.length-set cut e true in omega arith) ∙ sym free ∙ ap (λ h. get_or cut h false) (sym i)
  | inr ne ↦ get_or-set_other (set cut e true) e h false false ne ∙ get_or-set_other cut e h true false ne
]

module _ {mesh : Mesh} (surface : IsSurface mesh) {v : ℕ} {ring edges : List ℕ} (is : IsRing mesh v ring) (are : AreEdgesAt mesh v edges) (go : GoBetween mesh ring edges)
    (cut : List Bool) (e m : ℕ) (flags : length cut ≡ edge_count mesh) (edge : IsEdgeAt mesh v e) (is_cut : get_or cut e false ≡ true) (m_in : m < length edges) (found : get_or edges m 0 ≡ e)
    (old : List ℕ) (count : ℕ) (numbers : AreNumbers mesh old count) (agree : AgreeAt mesh (set cut e false) old v) where
  abbrev n : ℕ
  n = length ring

  in_ring : m < n
  in_ring = let s = go.size in omega arith

  fan : IsFan mesh v n (λ d. get_or ring (place n m d) 0) (λ d. get_or edges (place n m d) 0)
  fan = turned m in_ring (fan_of is are go)

  e_in : e < length cut
  e_in = let h = edge.0 in omega arith

  last_is : get_or edges (place n m (n - 1)) 0 ≡ e
  last_is = ap (λ k. get_or edges k 0) (place_last n m in_ring) ∙ found

  pub none_more : NoneCut edges cut m → AgreeAt mesh cut old v
  none_more none = agree_closed surface fan cut e e_in is_cut last_is old agree (λ d h. subst (λ n. get_or cut (get_or edges (place n m d) 0) false ≡ false) go.size (none d (let s = go.size in omega arith)))

  module _ (q : ℕ) (next : IsNextCut edges cut m q) (new : List ℕ) (split : (d : ℕ) → d < q + 1 → get_or new (get_or ring (place n m d) 0) 0 ≡ count)
      (kept : (s : ℕ) → ((d : ℕ) → d < q + 1 → get_or ring (place n m d) 0 ≢ s) → get_or new s 0 ≡ get_or old s 0) (size : length new ≡ length old) where
    q_in : q + 1 < n
    q_in = let s = go.size in let h = next.within in omega arith

    abbrev side : ℕ → ℕ
    side d = get_or ring (place n m d) 0

    kept_at : (k : ℕ) → q < k → k < n → get_or new (side k) 0 ≡ get_or old (side k) 0
    kept_at k a b = kept (side k) (λ d h e. let z : d ≡ k = fan.differ d k (omega arith) b e in omega arith)

    old_below : (s : ℕ) → s < side_count mesh → get_or old s 0 ≢ count
    old_below s h e = let b = numbers.below s h in omega arith

    cut_here : (d : ℕ) → (b : Bool) → get_or cut (get_or edges (place (length edges) m d) 0) false ≡ b → get_or cut (get_or edges (place n m d) 0) false ≡ b
    cut_here d b h = subst (λ n. get_or cut (get_or edges (place n m d) 0) false ≡ b) go.size h

    pub agree_now : AgreeAt mesh cut new v
    agree_now = agree_split surface fan cut e e_in is_cut last_is old agree new q count q_in (cut_here q true next.is_cut) (λ d h. cut_here d false (next.none_before d h))
        (λ k h. old_below (side k) (fan.begin k h).0) (λ d h. split d (omega arith)) kept_at

    -- a side keeps its label or is one of those that are split off
    kept_or_split : (s : ℕ) → (get_or new s 0 ≡ get_or old s 0) ⊎ ((d : ℕ) × (d < q + 1) × (side d ≡ s))
    kept_or_split s = elim (find (q + 1)) [
      | inl some ↦ inr some
      | inr none ↦ inl (kept s none)
    ]
      where
        find : (b : ℕ) → ((d : ℕ) × (d < b) × (side d ≡ s)) ⊎ ((d : ℕ) → d < b → side d ≢ s)
        find zero = inr (λ d h e. absurd (omega arith))
        find (suc b) = elim (find b) [
          | inl x ↦ let lt = x.1 in inl (x.0, omega arith, x.2)
          | inr none ↦ elim (cases_eq (side b) s) [
            | inl e ↦ inl (b, omega arith, e)
            | inr ne ↦ inr (λ d h. elim (cases_eq d b) [ inl i ↦ subst (λ d. side d ≢ s) (sym i) ne | inr ni ↦ none d (omega arith) ])
          ]
        ]

    new_label : (s d : ℕ) → d < q + 1 → side d ≡ s → get_or new s 0 ≡ count
    new_label s d h e = ap (λ s. get_or new s 0) (sym e) ∙ split d h

    at_vertex : (s d : ℕ) → d < q + 1 → side d ≡ s → BeginsAt mesh v s
    at_vertex s d h e = let i = q_in in subst (λ s. BeginsAt mesh v s) e (fan.begin d (omega arith))

    pub numbers_now : AreNumbers mesh new (count + 1)
    numbers_now = record {
      size = size ∙ numbers.size;
      below = λ s h. elim (kept_or_split s) [
        | inl e ↦ let b = numbers.below s h in omega arith
        | inr x ↦ let z = new_label s x.0 x.1 x.2 in omega arith
      ];
      used = λ l h. elim (cases_eq l count) [
        | inl e ↦ let i = q_in in (side 0, (fan.begin 0 (omega arith)).0, split 0 (omega arith) ∙ sym e)
        | inr ne ↦
            let u = numbers.used l (omega arith) in
            elim (kept_or_split u.0) [
              | inl e ↦ (u.0, u.1, e ∙ u.2)
              | inr x ↦
                  let i = q_in in
                  let lt : x.0 < q + 1 = x.1 in
                  let same : get_or old (side (n - 1)) 0 ≡ get_or old (side x.0) 0 = old_same surface fan cut e e_in is_cut last_is old agree q q_in (λ d h. cut_here d false (next.none_before d h)) x.0 (omega arith) in
                  (side (n - 1), (fan.begin (n - 1) (omega arith)).0, kept_at (n - 1) (omega arith) (omega arith) ∙ same ∙ ap (λ s. get_or old s 0) x.2 ∙ u.2)
            ]
      ];
      one_vertex = λ s t a b e. elim (kept_or_split s) [
        | inl i ↦ elim (kept_or_split t) [
          | inl j ↦ numbers.one_vertex s t a b (sym i ∙ e ∙ j)
          | inr y ↦ absurd (old_below s a (sym i ∙ e ∙ new_label t y.0 y.1 y.2))
        ]
        | inr x ↦ elim (kept_or_split t) [
          | inl j ↦ absurd (old_below t b (sym j ∙ sym e ∙ new_label s x.0 x.1 x.2))
          | inr y ↦ (at_vertex s x.0 x.1 x.2).1 ∙ sym (at_vertex t y.0 y.1 y.2).1
        ]
      ];
    }

    pub others_now : (s : ℕ) → s < side_count mesh → corner_at mesh s ≢ v → get_or new s 0 ≡ get_or old s 0
    others_now s h ne = elim (kept_or_split s) [ inl e ↦ e | inr x ↦ absurd (ne (at_vertex s x.0 x.1 x.2).1) ]

-- an edge is cut besides: its ends are split one after the other
module _ {mesh : Mesh} (surface : IsSurface mesh) (cut : List Bool) (e : ℕ) (edge : e < edge_count mesh) (old between new : List ℕ) (count last : ℕ) (before : AreLabels mesh (set cut e false) old count) where
  abbrev u : ℕ
  u = (ends mesh e).0

  abbrev w : ℕ
  w = (ends mesh e).1

  apart : u ≢ w
  apart i = let b = (ends_below mesh surface.is_mesh e edge).0 in omega arith

  pub first_below : u < mesh.vertices
  first_below = let b = ends_below mesh surface.is_mesh e edge in omega (arith, b.0, b.1)

  pub second_below : w < mesh.vertices
  second_below = (ends_below mesh surface.is_mesh e edge).1

  module _ (others : (s : ℕ) → s < side_count mesh → corner_at mesh s ≢ u → get_or between s 0 ≡ get_or old s 0) where
    pub second_agrees : AgreeAt mesh (set cut e false) between w
    second_agrees = agree_kept mesh (set cut e false) old between w (λ s b. others s b.0 (λ i. apart (sym i ∙ b.1))) (each_vertex before w)

    pub ends_split : AgreeAt mesh cut between u → ((s : ℕ) → s < side_count mesh → corner_at mesh s ≢ w → get_or new s 0 ≡ get_or between s 0) → AgreeAt mesh cut new w → AreNumbers mesh new last → AreLabels mesh cut new last
    ends_split at_u more at_w numbers = all_labels surface cut new last numbers (λ v h. elim (cases_eq v w) [
      | inl i ↦ subst (λ v. AgreeAt mesh cut new v) (sym i) at_w
      | inr nw ↦ elim (cases_eq v u) [
        | inl i ↦ subst (λ v. AgreeAt mesh cut new v) (sym i) (agree_kept mesh cut between new u (λ s b. more s b.0 (λ j. apart (sym b.1 ∙ j))) at_u)
        | inr nu ↦
            agree_elsewhere mesh (set cut e false) cut new v
            (λ h below t. sym (get_or-set_other cut e h false false (λ i. elim (an_end mesh v e (ap (λ h. touches v (ends mesh h)) (sym i) ∙ t)) [ inl j ↦ nu (sym j) | inr j ↦ nw (sym j) ])))
            (agree_kept mesh (set cut e false) old new v (λ s b. more s b.0 (λ j. nw (sym b.1 ∙ j)) ∙ others s b.0 (λ j. nu (sym b.1 ∙ j))) (each_vertex before v))
      ]
    ])
