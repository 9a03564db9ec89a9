-- Going round a border from copy to copy.
use Rattle.surf_slit.proofs.Common.{◌≡◌, ◌≢◌, ℕ, ◌+◌, ◌-◌, ◌<◌, ◌≤◌, ◌⊎◌, inl, inr, sym, refl, subst, ap, ◌∙◌, List, [], ◌∷◌, ◌++◌, length, get_or, eqb, arith, cases_eq, cases_order, eqb-true, length_push, get_or_push, get_or_append_left, IsDisc, Mesh, side_count, length-le_from_distinct_below, list_any_at}
use Rattle.surf_cutter.proofs.Common.{corners_of, HasCopy, IsBorderSide, IsOtherAt, IsOnward, IsBoundary, HasPairedBorder}
use Rattle.surf_cutter.proofs.BorderSides.{has_all}
use Rattle.surf_cutter.proofs.Sorted.{distinct_from}

-- two different copies of a side are all that it has
two_copies : (mesh : Mesh) (s c d x : ℕ) → HasCopy mesh s c → HasCopy mesh s d → c ≢ d → HasCopy mesh s x → (x ≡ c)
    ⊎ (x ≡ d)
two_copies mesh s c d x a b ne i = elim i [
  | inl e ↦ elim a [
    | inl h ↦ inl (e ∙ sym h)
    | inr h ↦ elim b [ inl k ↦ inr (e ∙ sym k) | inr k ↦ absurd (ne (h ∙ sym k)) ]
  ]
  | inr e ↦ elim a [
    | inr h ↦ inl (e ∙ sym h)
    | inl h ↦ elim b [ inr k ↦ inr (e ∙ sym k) | inl k ↦ absurd (ne (h ∙ sym k)) ]
  ]
]

-- Sides 0 to n, each of which is entered at a copy and left at its other copy, where the next one is entered.
module _ (mesh : Mesh) (paired : HasPairedBorder mesh) (n : ℕ) (l c : ℕ → ℕ) (border : (k : ℕ) → k ≤ n →
    IsBorderSide mesh (l k))
    (enters : (k : ℕ) → k ≤ n → HasCopy mesh (l k) (c k)) (leaves : (k : ℕ) → k ≤ n → HasCopy mesh (l k) (c (k + 1)))
    (turns : (k : ℕ) → k ≤ n → c k ≢ c (k + 1)) (differs : (k : ℕ) → k < n → l k ≢ l (k + 1))
    (distinct : (i k : ℕ) → i < k → k < n → l i ≢ l k) where
  its : (k x : ℕ) → k ≤ n → HasCopy mesh (l k) x → (x ≡ c k) ⊎ (x ≡ c (k + 1))
  its k x h has = two_copies mesh (l k) (c k) (c (k + 1)) x (enters k h) (leaves k h) (turns k h) has

  -- at the copy where one is left there are this one and the next
  pub two_at : (k u : ℕ) → k < n → IsBorderSide mesh u → HasCopy mesh u (c (k + 1)) → (u ≡ l k) ⊎ (u ≡ l (k + 1))
  two_at k u h b at =
      elim (paired.no_third u (l k) (l (k + 1)) (c (k + 1)) b (border k (omega arith)) (border (k + 1)
      (omega arith)) at (leaves k (omega arith)) (enters (k + 1) (omega arith))) [
        | inl e ↦ inl e
        | inr o ↦ elim o [ inl e ↦ inr e | inr e ↦ absurd (differs k h e) ]
      ]

  -- the first one that is met again is side 0, at its first copy
  module _ (j : ℕ) (lt : j < n) (again : l j ≡ l n) where
    last : ℕ
    last = n - 1

    is_last : n - 1 + 1 ≡ n
    is_last = omega arith

    last_differs : l (n - 1) ≢ l n
    last_differs e = differs (n - 1) (omega arith) (e ∙ sym (ap l is_last))

    leaves_last : HasCopy mesh (l (n - 1)) (c n)
    leaves_last = subst (λ k. HasCopy mesh (l (n - 1)) (c k)) is_last (leaves (n - 1) (omega arith))

    pub met_first : (j ≡ 0) × (c n ≡ c 0)
    met_first =
        elim (its j (c n) (omega arith) (subst (λ s. HasCopy mesh s (c n)) (sym again) (enters n (omega arith)))) [
          | inr e ↦ absurd (elim (two_at j (l (n - 1)) lt (border (n - 1) (omega arith)) (subst (λ x.
              HasCopy mesh (l (n - 1)) x) e leaves_last)) [
                | inl i ↦ last_differs (i ∙ again)
                | inr i ↦ elim (cases_order (j + 1) (n - 1)) [
                  | inl m ↦ turns (n - 1) (omega arith) (ap c (sym m) ∙ sym e ∙ sym (ap c is_last))
                  | inr o ↦ elim o [
                    | inl less ↦ distinct (j + 1) (n - 1) less (omega arith) (sym i)
                    | inr more ↦ let m : n - 1 ≡ j = omega arith in last_differs (ap l m ∙ again)
                  ]
                ]
              ])
          | inl e ↦ elim (cases_eq j 0) [
            | inl z ↦ (z, e ∙ ap c z)
            | inr ne ↦
                let i = j - 1 in
                let next : j - 1 + 1 ≡ j = omega arith in
                absurd (elim (two_at (j - 1) (l (n - 1)) (omega arith) (border (n - 1) (omega arith)) (subst (λ x.
                HasCopy mesh (l (n - 1)) x) (e ∙ sym (ap c next)) leaves_last)) [
                  | inl m ↦ distinct (j - 1) (n - 1) (omega arith) (omega arith) (sym m)
                  | inr m ↦ last_differs (m ∙ ap l next ∙ again)
                ])
          ]
        ]

    abbrev Listed : ℕ → Type 0
    Listed s = (k : ℕ) × (k < n) × (l k ≡ s)

    first_again : l n ≡ l 0
    first_again = sym again ∙ ap l met_first.0

    -- so the sides are all that meet at their copies
    listed_closed : (s t x : ℕ) → Listed s → IsBorderSide mesh t → HasCopy mesh s x → HasCopy mesh t x → Listed t
    listed_closed s t x in' b at_s at_t =
        let k = in'.0 in
        let h : k < n = in'.1 in
        elim (its k x (omega arith) (subst (λ s. HasCopy mesh s x) (sym in'.2) at_s)) [
          | inr e ↦ elim (two_at k t h b (subst (λ x. HasCopy mesh t x) e at_t)) [
            | inl i ↦ (k, h, sym i)
            | inr i ↦ elim (cases_eq (k + 1) n) [
              | inl m ↦ (0, omega arith, sym (i ∙ ap l m ∙ first_again))
              | inr ne ↦ (k + 1, omega arith, sym i)
            ]
          ]
          | inl e ↦ elim (cases_eq k 0) [
            | inl z ↦
                elim (two_at (n - 1) t (omega arith) b (subst (λ x. HasCopy mesh t x) (e ∙ ap c z ∙ sym met_first.1
                ∙ sym (ap c is_last)) at_t)) [
                  | inl i ↦ (n - 1, omega arith, sym i)
                  | inr i ↦ (0, omega arith, sym (i ∙ ap l is_last ∙ first_again))
                ]
            | inr ne ↦
                let next : k - 1 + 1 ≡ k = omega arith in
                elim (two_at (k - 1) t (omega arith) b (subst (λ x. HasCopy mesh t x) (e ∙ sym (ap c next)) at_t)) [
                  | inl i ↦ (k - 1, omega arith, sym i)
                  | inr i ↦ (k, h, sym (i ∙ ap l next))
                ]
          ]
        ]

    pub listed_all : IsDisc mesh → (s : ℕ) → IsBorderSide mesh s → Listed s
    listed_all disc s b =
        has_all mesh disc Listed (λ s in'. subst (IsBorderSide mesh) in'.2 (border in'.0 (let h = in'.1 in
        omega arith))) listed_closed (l 0) s (0, omega arith, refl) b

  -- going on is by the one new copy
  pub goes_on : (k : ℕ) → k + 2 < n → (x : ℕ) × IsOnward mesh (l k) (l (k + 1)) x
      × IsOtherAt mesh x (l (k + 1)) (l (k + 2))
  goes_on k h =
      let two : k + 1 + 1 ≡ k + 2 = omega arith in
      let left : HasCopy mesh (l (k + 1)) (c (k + 2)) = subst (λ m.
      HasCopy mesh (l (k + 1)) (c m)) two (leaves (k + 1) (omega arith)) in
      let at : (u : ℕ) → IsBorderSide mesh u → HasCopy mesh u (c (k + 2)) → (u ≡ l (k + 1)) ⊎ (u ≡ l (k + 2)) =
      λ u b has. subst (λ m. (u ≡ l (k + 1)) ⊎ (u ≡ l m)) two (two_at (k + 1) u (omega arith) b (subst (λ m.
      HasCopy mesh u (c m)) (sym two) has)) in (
        c (k + 2),
        record {
          of_last = left;
          new = λ has. elim (at (l k) (border k (omega arith)) has) [
            | inl e ↦ differs k (omega arith) e
            | inr e ↦ distinct k (k + 2) (omega arith) h e
          ];
          one = λ d has none. elim (its (k + 1) d (omega arith) has) [
            | inl e ↦ absurd (none (subst (λ x. HasCopy mesh (l k) x) (sym e) (leaves k (omega arith))))
            | inr e ↦ e ∙ ap c two
          ];
        },
        record {
          border = border (k + 2) (omega arith);
          at = enters (k + 2) (omega arith);
          differs = λ e. differs (k + 1) (omega arith) (sym e ∙ sym (ap l two));
          no_third = at;
        },
      )

-- a list of sides with the copies between them
pub record IsTrail (mesh : Mesh) (first : ℕ) (list copies : List ℕ) : Type 0 where
  pub size : length copies ≡ length list + 1
  pub border : (k : ℕ) → k < length list → IsBorderSide mesh (get_or list k 0)
  pub enters : (k : ℕ) → k < length list → HasCopy mesh (get_or list k 0) (get_or copies k 0)
  pub leaves : (k : ℕ) → k < length list → HasCopy mesh (get_or list k 0) (get_or copies (k + 1) 0)
  pub turns : (k : ℕ) → k < length list → get_or copies k 0 ≢ get_or copies (k + 1) 0
  pub differs : (k : ℕ) → k + 1 < length list → get_or list k 0 ≢ get_or list (k + 1) 0
  pub begins : get_or list 0 0 ≡ first
  pub from : get_or copies 0 0 ≡ (corners_of mesh first).0
  pub to : get_or copies 1 0 ≡ (corners_of mesh first).1

trail_start : (mesh : Mesh) (first : ℕ) → IsBorderSide mesh first →
    (corners_of mesh first).0 ≢ (corners_of mesh first).1 →
    IsTrail mesh first (first ∷ []) ((corners_of mesh first).0 ∷ (corners_of mesh first).1 ∷ [])
trail_start mesh first b ne = record {
  size = refl;
  border = λ k h. let z : k ≡ 0 = omega arith in rw z b;
  enters = λ k h. let z : k ≡ 0 = omega arith in rw z (inl refl);
  leaves = λ k h. let z : k ≡ 0 = omega arith in rw z (inr refl);
  turns = λ k h. let z : k ≡ 0 = omega arith in rw z ne;
  differs = λ k h. absurd (omega arith);
  begins = refl;
  from = refl;
  to = refl;
}

trail_more : (mesh : Mesh) (first : ℕ) (list copies : List ℕ) → IsTrail mesh first list copies → 0 < length list →
    (t d : ℕ) → IsBorderSide mesh t → HasCopy mesh t (get_or copies (length list) 0) →
    get_or list (length list - 1) 0 ≢ t → HasCopy mesh t d → get_or copies (length list) 0 ≢ d →
    IsTrail mesh first (list ++ t ∷ []) (copies ++ d ∷ [])
trail_more mesh first list copies trail some t d b at ne to turn =
    let n = length_push list t in
    let m = length_push copies d in
    let size = trail.size in
    let early : (k : ℕ) → k < length list → get_or (list ++ t ∷ []) k 0 ≡ get_or list k 0 = λ k h.
    get_or_append_left list (t ∷ []) 0 k h in
    let late : get_or (list ++ t ∷ []) (length list) 0 ≡ t = get_or_push list t 0 (length list) refl in
    let copy : (k : ℕ) → k < length copies → get_or (copies ++ d ∷ []) k 0 ≡ get_or copies k 0 = λ k h.
    get_or_append_left copies (d ∷ []) 0 k h in
    let copy_last : get_or (copies ++ d ∷ []) (length list + 1) 0 ≡ d = get_or_push copies d 0 (length list + 1) size in
    record {
      size = omega arith;
      border = λ k h. elim (cases_eq k (length list)) [
        | inl e ↦ subst (IsBorderSide mesh) (sym (ap (λ k. get_or (list ++ t ∷ []) k 0) e ∙ late)) b
        | inr neq ↦ let lt : k < length list = omega arith in
            subst (IsBorderSide mesh) (sym (early k lt)) (trail.border k lt)
      ];
      enters = λ k h. elim (cases_eq k (length list)) [
        | inl e ↦ subst (λ s. HasCopy mesh s (get_or (copies ++ d ∷ []) k 0)) (sym (ap (λ k.
            get_or (list ++ t ∷ []) k 0) e ∙ late))
            (subst (λ x. HasCopy mesh t x) (sym (copy k (omega arith) ∙ ap (λ k. get_or copies k 0) e)) at)
        | inr neq ↦ let lt : k < length list = omega arith in subst (λ s.
            HasCopy mesh s (get_or (copies ++ d ∷ []) k 0)) (sym (early k lt))
            (subst (λ x. HasCopy mesh (get_or list k 0) x) (sym (copy k (omega arith))) (trail.enters k lt))
      ];
      leaves = λ k h. elim (cases_eq k (length list)) [
        | inl e ↦ subst (λ s. HasCopy mesh s (get_or (copies ++ d ∷ []) (k + 1) 0)) (sym (ap (λ k.
            get_or (list ++ t ∷ []) k 0) e ∙ late))
            (subst (λ x. HasCopy mesh t x) (sym (ap (λ k. get_or (copies ++ d ∷ []) (k + 1) 0) e ∙ copy_last)) to)
        | inr neq ↦ let lt : k < length list = omega arith in subst (λ s.
            HasCopy mesh s (get_or (copies ++ d ∷ []) (k + 1) 0)) (sym (early k lt))
            (subst (λ x. HasCopy mesh (get_or list k 0) x) (sym (copy (k + 1) (omega arith))) (trail.leaves k lt))
      ];
      turns = λ k h i. elim (cases_eq k (length list)) [
        | inl e ↦ turn (sym (copy k (omega arith) ∙ ap (λ k. get_or copies k 0) e) ∙ i ∙ ap (λ k.
            get_or (copies ++ d ∷ []) (k + 1) 0) e ∙ copy_last)
        | inr neq ↦ let lt : k < length list = omega arith in trail.turns k lt (sym (copy k (omega arith)) ∙ i
            ∙ copy (k + 1) (omega arith))
      ];
      differs = λ k h i. elim (cases_eq (k + 1) (length list)) [
        | inl e ↦ let z : length list - 1 ≡ k = omega arith in ne (ap (λ k. get_or list k 0) z
            ∙ sym (early k (omega arith)) ∙ i ∙ ap (λ k. get_or (list ++ t ∷ []) k 0) e ∙ late)
        | inr neq ↦ trail.differs k (omega arith) (sym (early k (omega arith)) ∙ i ∙ early (k + 1) (omega arith))
      ];
      begins = early 0 some ∙ trail.begins;
      from = copy 0 (omega arith) ∙ trail.from;
      to = copy 1 (omega arith) ∙ trail.to;
    }

-- a walk so far: the sides that are listed, each once, and the one to come, with the copy where it is left
pub record IsGone (mesh : Mesh) (first side copy : ℕ) (list : List ℕ) : Type 0 where
  pub copies : List ℕ
  pub trail : IsTrail mesh first (list ++ side ∷ []) copies
  pub leaves_by : get_or copies (length list + 1) 0 ≡ copy
  pub distinct : (i k : ℕ) → i < k → k < length list → get_or list i 0 ≢ get_or list k 0

gone_start : (mesh : Mesh) → HasPairedBorder mesh → (first : ℕ) → IsBorderSide mesh first →
    IsGone mesh first first (corners_of mesh first).1 []
gone_start mesh paired first b = record {
  copies = (corners_of mesh first).0 ∷ (corners_of mesh first).1 ∷ [];
  trail = trail_start mesh first b (paired.apart first b);
  leaves_by = refl;
  distinct = λ i k a h. absurd (omega arith);
}

module _ (mesh : Mesh) (first side copy : ℕ) (list : List ℕ) (gone : IsGone mesh first side copy list) where
  here : get_or (list ++ side ∷ []) (length list) 0 ≡ side
  here = get_or_push list side 0 (length list) refl

  early : (k : ℕ) → k < length list → get_or (list ++ side ∷ []) k 0 ≡ get_or list k 0
  early k h = get_or_append_left list (side ∷ []) 0 k h

  pub gone_border : IsBorderSide mesh side
  gone_border = let n = length_push list side in subst (IsBorderSide mesh) here (gone.trail.border (length list)
      (omega arith))

  pub gone_leaves : HasCopy mesh side copy
  gone_leaves =
      let n = length_push list side in
      subst (λ s. HasCopy mesh s copy) here (subst (λ x.
      HasCopy mesh (get_or (list ++ side ∷ []) (length list) 0) x) gone.leaves_by (gone.trail.leaves (length list)
      (omega arith)))

  -- the side to come isn't listed: so it is listed now
  gone_more : ((k : ℕ) → k < length list → get_or list k 0 ≢ side) → (t d : ℕ) → IsBorderSide mesh t →
      HasCopy mesh t copy → t ≢ side → HasCopy mesh t d → d ≢ copy → IsGone mesh first t d (list ++ side ∷ [])
  gone_more unlike t d b at ne to turn =
      let n = length_push list side in
      let last : length (list ++ side ∷ []) - 1 ≡ length list = omega arith in
      let more : length (list ++ side ∷ []) ≡ length list + 1 = omega arith in
      let leaves : get_or gone.copies (length (list ++ side ∷ [])) 0 ≡ copy = ap (λ k. get_or gone.copies k 0) more
      ∙ gone.leaves_by in
      record {
        copies = gone.copies ++ d ∷ [];
        trail = trail_more mesh first (list ++ side ∷ []) gone.copies gone.trail (omega arith) t d b (subst (λ x.
            HasCopy mesh t x) (sym leaves) at)
            (λ e. ne (sym (sym here ∙ ap (λ k. get_or (list ++ side ∷ []) k 0) (sym last) ∙ e))) to (λ e. turn (sym e
            ∙ leaves));
        leaves_by = get_or_push gone.copies d 0 (length (list ++ side ∷ []) + 1) (gone.trail.size);
        distinct = λ i k a h e. elim (cases_eq k (length list)) [
          | inl q ↦ let lt : i < length list = omega arith in unlike i lt (sym (early i lt) ∙ e ∙ ap (λ k.
              get_or (list ++ side ∷ []) k 0) q ∙ here)
          | inr neq ↦ let lt : k < length list = omega arith in let lt' : i < length list = omega arith in
              gone.distinct i k a lt (sym (early i lt') ∙ e ∙ early k lt)
        ];
      }

  module _ (paired : HasPairedBorder mesh) where
    -- the sides with the one to come, and the copies between them
    abbrev l : ℕ → ℕ
    l k = get_or (list ++ side ∷ []) k 0

    abbrev c : ℕ → ℕ
    c k = get_or gone.copies k 0

    its_border : (k : ℕ) → k ≤ length list → IsBorderSide mesh (get_or (list ++ side ∷ []) k 0)
    its_border k h = let n = length_push list side in gone.trail.border k (omega arith)

    its_enters : (k : ℕ) → k ≤ length list → HasCopy mesh (get_or (list ++ side ∷ []) k 0) (get_or gone.copies k 0)
    its_enters k h = let n = length_push list side in gone.trail.enters k (omega arith)

    its_leaves : (k : ℕ) → k ≤ length list →
        HasCopy mesh (get_or (list ++ side ∷ []) k 0) (get_or gone.copies (k + 1) 0)
    its_leaves k h = let n = length_push list side in gone.trail.leaves k (omega arith)

    its_turns : (k : ℕ) → k ≤ length list → get_or gone.copies k 0 ≢ get_or gone.copies (k + 1) 0
    its_turns k h = let n = length_push list side in gone.trail.turns k (omega arith)

    its_differ : (k : ℕ) → k < length list → get_or (list ++ side ∷ []) k 0 ≢ get_or (list ++ side ∷ []) (k + 1) 0
    its_differ k h = let n = length_push list side in gone.trail.differs k (omega arith)

    its_distinct : (i k : ℕ) → i < k → k < length list →
        get_or (list ++ side ∷ []) i 0 ≢ get_or (list ++ side ∷ []) k 0
    its_distinct i k a h e = gone.distinct i k a h (sym (early i (omega arith)) ∙ e ∙ early k h)

    meets : (j : ℕ) → j < length list → get_or list j 0 ≡ side →
        get_or (list ++ side ∷ []) j 0 ≡ get_or (list ++ side ∷ []) (length list) 0
    meets j lt found = early j lt ∙ found ∙ sym here

    -- a side that isn't the first one isn't listed yet
    gone_new : side ≢ first → (k : ℕ) → k < length list → get_or list k 0 ≢ side
    gone_new ne k h found =
        let n = length list in
        let closing = met_first mesh paired n l c its_border its_enters its_leaves its_turns its_differ its_distinct k h
        (meets k h found) in
        let some : 0 < length list = omega arith in
        ne (sym found ∙ ap (λ k. get_or list k 0) closing.0 ∙ sym (early 0 some) ∙ gone.trail.begins)

    -- so there is one side more than are listed
    pub gone_few : side ≢ first → length list < side_count mesh
    gone_few ne =
        let n = length_push list side in
        let differ : (i k : ℕ) → i < k → k < length (list ++ side ∷ []) →
        get_or (list ++ side ∷ []) i 0 ≢ get_or (list ++ side ∷ []) k 0 = λ i k a h e. elim (cases_eq k (length list)) [
          | inl q ↦ let lt : i < length list = omega arith in gone_new ne i lt (sym (early i lt) ∙ e ∙ ap (λ k.
              get_or (list ++ side ∷ []) k 0) q ∙ here)
          | inr neq ↦ its_distinct i k a (omega arith) e
        ] in
        let few = length-le_from_distinct_below (list ++ side ∷ []) (side_count mesh)
        (distinct_from (list ++ side ∷ []) differ)
        (λ q found.
        let r = list_any_at (eqb q) (list ++ side ∷ []) 0 found in
        let e = eqb-true q (get_or (list ++ side ∷ []) r.0 0) r.2 in
        let lt = r.1 in
        let b = (its_border r.0 (omega arith)).0 in
        omega arith) in
        omega (arith, few)

    pub gone_on : side ≢ first → (t d : ℕ) → IsBorderSide mesh t → HasCopy mesh t copy → t ≢ side →
        HasCopy mesh t d → d ≢ copy → IsGone mesh first t d (list ++ side ∷ [])
    gone_on ne t d b at other to turn = gone_more (gone_new ne) t d b at other to turn

    -- where the side to come is the first one, the walk is the round
    pub gone_round : IsDisc mesh → ((s : ℕ) → IsBorderSide mesh s → first ≤ s) → 0 < length list → side ≡ first →
        IsBoundary mesh list
    gone_round disc least some again =
        let n = length list in
        let is_first : get_or list 0 0 ≡ first = sym (early 0 some) ∙ gone.trail.begins in
        let met = meets 0 some (is_first ∙ sym again) in
        let closing = met_first mesh paired n l c its_border its_enters its_leaves its_turns its_differ its_distinct 0
        some met in
        record {
          border = λ k h. subst (IsBorderSide mesh) (early k h) (its_border k (omega arith));
          all = λ s b. let k = listed_all mesh paired n l c its_border its_enters its_leaves its_turns its_differ
              its_distinct 0 some met disc s b in (k.0, k.1, sym (early k.0 k.1) ∙ k.2);
          once = gone.distinct;
          first = λ s b. subst (λ f. f ≤ s) (sym is_first) (least s b);
          second = λ h.
              let one = early 1 h in
              let zero = early 0 some in
              let head : get_or gone.copies 1 0 ≡ (corners_of mesh (get_or list 0 0)).1 = gone.trail.to ∙ ap (λ s.
              (corners_of mesh s).1) (sym is_first) in
              record {
                border = subst (IsBorderSide mesh) one (its_border 1 (omega arith));
                at = subst (λ x. HasCopy mesh (get_or list 1 0) x) head (subst (λ s.
                    HasCopy mesh s (get_or gone.copies 1 0)) one (its_enters 1 (omega arith)));
                differs = λ e. its_distinct 0 1 (omega arith) h (zero ∙ sym e ∙ sym one);
                no_third = λ u b at.
                    elim (two_at mesh paired n l c its_border its_enters its_leaves its_turns its_differ its_distinct 0 u
                    some b (subst (λ x. HasCopy mesh u x) (sym head) at)) [
                      | inl e ↦ inl (e ∙ zero)
                      | inr e ↦ inr (e ∙ one)
                    ];
              };
          further = λ k h.
              let on = goes_on mesh paired n l c its_border its_enters its_leaves its_turns its_differ its_distinct k h in
              let a = early k (omega arith) in
              let b = early (k + 1) (omega arith) in
              let d = early (k + 2) h in (
                on.0,
                subst (λ s. IsOnward mesh s (get_or list (k + 1) 0) on.0) a (subst (λ s.
                    IsOnward mesh (get_or (list ++ side ∷ []) k 0) s on.0) b on.1),
                subst (λ s. IsOtherAt mesh on.0 s (get_or list (k + 2) 0)) b (subst (λ s.
                    IsOtherAt mesh on.0 (get_or (list ++ side ∷ []) (k + 1) 0) s) d on.2),
              );
          closes =
              let is_last : length list - 1 + 1 ≡ length list = omega arith in
              let tail : get_or gone.copies (length list - 1 + 1) 0 ≡ (corners_of mesh (get_or list 0 0)).0 =
              ap (λ k. get_or gone.copies k 0) is_last ∙ closing.1 ∙ gone.trail.from ∙ ap (λ s.
              (corners_of mesh s).0) (sym is_first) in
              subst (λ x. HasCopy mesh (get_or list (length list - 1) 0) x) tail
              (subst (λ s. HasCopy mesh s (get_or gone.copies (length list - 1 + 1) 0)) (early (length list - 1)
              (omega arith)) (its_leaves (length list - 1) (omega arith)));
        }

-- the first side is listed, and the next one is to come
pub gone_first : (mesh : Mesh) → HasPairedBorder mesh → (first : ℕ) → IsBorderSide mesh first → (t d : ℕ) →
    IsBorderSide mesh t → HasCopy mesh t (corners_of mesh first).1 → t ≢ first → HasCopy mesh t d →
    d ≢ (corners_of mesh first).1 → IsGone mesh first t d (first ∷ [])
gone_first mesh paired first b t d t_b at ne to turn =
    gone_more mesh first first (corners_of mesh first).1 [] (gone_start mesh paired first b)
    (λ k h. absurd (omega arith)) t d t_b at ne to turn
