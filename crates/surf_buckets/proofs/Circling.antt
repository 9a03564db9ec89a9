-- Taking places out of circles and putting them in.
use Rattle.std.proofs.Common.{ℕ, zero, suc, ◌<◌, ◌≤◌, ◌≡◌, ◌≢◌, ◌+◌, refl, sym, ap, ◌∙◌, arith, inl, inr, ltb, eqb, lt-ltb, eq-eqb, ne_eqb, if◌then◌else◌}
use Rattle.std.proofs.lemmas.Bool.{cases_eq, cases_lt, le-ltb}
use Rattle.surf_buckets.specs.Circles.{nothing, bucket, home, AreInCircles, IsTakenOut, IsPutBehind}

pub when : {A : Type 0} → (i j : ℕ) (x y : A) → i ≡ j → (if eqb i j then x else y) ≡ x
when i j x y e = rw (eq-eqb i j e) refl

pub unless : {A : Type 0} → (i j : ℕ) (x y : A) → i ≢ j → (if eqb i j then x else y) ≡ y
unless i j x y e = rw (ne_eqb i j e) refl

home_place : (places : ℕ) (key : ℕ → ℕ) (p : ℕ) → p < places → home places key p ≡ bucket places (key p)
home_place places key p l = rw (lt-ltb p places l) refl

home_bucket : (places : ℕ) (key : ℕ → ℕ) (s : ℕ) → places ≤ s → home places key s ≡ s
home_bucket places key s l = rw (le-ltb s places l) refl

home_same : (places : ℕ) (key key2 : ℕ → ℕ) (i : ℕ) → key2 i ≡ key i → home places key2 i ≡ home places key i
home_same places key key2 i e = ap (λ k. if ltb i places then bucket places k else i) e

-- nodes that stand alone
pub lone : (places count : ℕ) (key next prev : ℕ → ℕ) → ((i : ℕ) → i < count → next i ≡ i) → ((i : ℕ) → i < count → prev i ≡ i) →
    ((i : ℕ) → i < places → key i ≡ nothing) → places ≤ count → AreInCircles places count key next prev
lone places count key next prev nexts prevs keys few = record {
  next_in = λ i l. rw (nexts i l) l;
  prev_in = λ i l. rw (prevs i l) l;
  back = λ i l. ap prev (nexts i l) ∙ prevs i l;
  forth = λ i l. ap next (prevs i l) ∙ nexts i l;
  alone = λ i l e. nexts i (omega arith);
  filed = λ i l. ap (home places key) (nexts i l);
  rank = λ i. 0;
  falls = λ i l some. absurd (some (keys i l));
}

-- links that are the same
pub same_links : (places count : ℕ) (key next prev next2 prev2 : ℕ → ℕ) → AreInCircles places count key next prev →
    ((i : ℕ) → next2 i ≡ next i) → ((i : ℕ) → prev2 i ≡ prev i) → AreInCircles places count key next2 prev2
same_links places count key next prev next2 prev2 r nexts prevs = record {
  next_in = λ i l. rw (nexts i) (r.next_in i l);
  prev_in = λ i l. rw (prevs i) (r.prev_in i l);
  back = λ i l. prevs (next2 i) ∙ ap prev (nexts i) ∙ r.back i l;
  forth = λ i l. nexts (prev2 i) ∙ ap next (prevs i) ∙ r.forth i l;
  alone = λ i l e. nexts i ∙ r.alone i l e;
  filed = λ i l. ap (home places key) (nexts i) ∙ r.filed i l;
  rank = r.rank;
  falls = λ i l some lq. rw (prevs i) (r.falls i l some (rw (prevs i) at lq));
}

-- keys that are the same at all places
pub same_keys : (places count : ℕ) (key key2 next prev : ℕ → ℕ) → AreInCircles places count key next prev →
    ((i : ℕ) → i < places → key2 i ≡ key i) → AreInCircles places count key2 next prev
same_keys places count key key2 next prev r keys = record {
  next_in = r.next_in;
  prev_in = r.prev_in;
  back = r.back;
  forth = r.forth;
  alone = λ i l e. r.alone i l (sym (keys i l) ∙ e);
  filed = λ i l. homes (next i) ∙ r.filed i l ∙ sym (homes i);
  rank = r.rank;
  falls = λ i l some lq. r.falls i l (λ e. some (keys i l ∙ e)) lq;
}
  where
    homes : (i : ℕ) → home places key2 i ≡ home places key i
    homes i = elim (cases_lt i places) [
      | inl l ↦ home_same places key key2 i (keys i l)
      | inr past ↦ home_bucket places key2 i past ∙ sym (home_bucket places key i past)
    ]

module _ (places count : ℕ) (key next prev : ℕ → ℕ) (r : AreInCircles places count key next prev) (all : count ≡ places + 4096) where
  -- the first place in the circle of a bucket
  pub bucket_first : (s : ℕ) → places ≤ s → s < count → next s ≢ s →
      (next s < places) × (key (next s) ≢ nothing) × (bucket places (key (next s)) ≡ s)
  bucket_first s le ls ne =
      let same : home places key (next s) ≡ s = r.filed s ls ∙ home_bucket places key s le in
      elim (cases_lt (next s) places) [
        | inl l ↦ (
          l,
          (λ none.
              let stays : next (next s) ≡ next s = r.alone (next s) l none in
              let a : prev (next (next s)) ≡ next s = r.back (next s) (r.next_in s ls) in
              ne (sym a ∙ ap prev stays ∙ r.back s ls)),
          sym (home_place places key (next s) l) ∙ same,
        )
        | inr past ↦ absurd (ne (sym (home_bucket places key (next s) past) ∙ same))
      ]

  -- a place with a key has another node before it
  before_other : (p : ℕ) → p < places → key p ≢ nothing → prev p < places → key (prev p) ≢ nothing
  before_other p l some lp none =
      let lc : p < count = omega arith in
      let stays : next (prev p) ≡ prev p = r.alone (prev p) lp none in
      let same : prev p ≡ p = sym stays ∙ r.forth p lc in
      let less : r.rank (prev p) < r.rank p = r.falls p l some lp in
      let e : r.rank (prev p) ≡ r.rank p = ap r.rank same in
      absurd (omega arith)

  -- where a bucket stands alone, no place with a key has it
  not_alone : (n p s : ℕ) → r.rank p < n → p < places → key p ≢ nothing → places ≤ s → s < count → next s ≡ s → bucket places (key p) ≢ s
  not_alone zero p s less l some le ls stays is = absurd (omega arith)
  not_alone (suc n) p s less l some le ls stays is =
      let lc : p < count = omega arith in
      let q = prev p in
      let same : home places key p ≡ home places key q = ap (home places key) (sym (r.forth p lc)) ∙ r.filed q (r.prev_in p lc) in
      let here : home places key q ≡ s = sym same ∙ home_place places key p l ∙ is in
      elim (cases_lt (prev p) places) [
        | inl lq ↦
            let falls : r.rank (prev p) < r.rank p = r.falls p l some lq in
            not_alone n (prev p) s (omega arith) lq (before_other p l some lq) le ls stays
            (sym (home_place places key (prev p) lq) ∙ here)
        | inr past ↦
            let at : prev p ≡ s = sym (home_bucket places key (prev p) past) ∙ here in
            let e : p ≡ s = sym (r.forth p lc) ∙ ap next at ∙ stays in
            absurd (omega arith)
      ]

  pub bucket_alone : (p s : ℕ) → p < places → key p ≢ nothing → places ≤ s → s < count → next s ≡ s → bucket places (key p) ≢ s
  bucket_alone p s = not_alone (suc (r.rank p)) p s (omega arith)

  module _ (key2 next2 prev2 : ℕ → ℕ) (p : ℕ) (lp : p < places) where
    lc : p < count
    lc = omega arith

    -- a place is taken out
    module _ (key_here : key2 p ≡ nothing) (key_other : (i : ℕ) → i ≢ p → key2 i ≡ key i) (out : IsTakenOut next prev p next2 prev2) where
      both : next p ≡ p → prev p ≡ p
      both e = ap prev (sym e) ∙ r.back p lc

      both2 : prev p ≡ p → next p ≡ p
      both2 e = ap next (sym e) ∙ r.forth p lc

      -- what follows and precedes a node that is neither
      far_next : (i : ℕ) → i < count → i ≢ p → i ≢ prev p → (next i ≢ p) × (next i ≢ next p)
      far_next i l ne nb = (
        (λ e. nb (sym (r.back i l) ∙ ap prev e)),
        (λ e. ne (sym (r.back i l) ∙ ap prev e ∙ r.back p lc)),
      )

      far_prev : (i : ℕ) → i < count → i ≢ p → i ≢ next p → (prev i ≢ p) × (prev i ≢ prev p)
      far_prev i l ne na = (
        (λ e. na (sym (r.forth i l) ∙ ap next e)),
        (λ e. ne (sym (r.forth i l) ∙ ap next e ∙ r.forth p lc)),
      )

      pub removed : AreInCircles places count key2 next2 prev2
      removed = record {
        next_in = λ i l. elim (cases_eq i p) [
          | inl e ↦ rw (e, out.next_here) lc
          | inr ne ↦ elim (cases_eq i (prev p)) [
            | inl b ↦ rw (b, out.next_before (λ e. ne (b ∙ e))) (r.next_in p lc)
            | inr nb ↦ rw (out.next_other i ne nb) (r.next_in i l)
          ]
        ];
        prev_in = λ i l. elim (cases_eq i p) [
          | inl e ↦ rw (e, out.prev_here) lc
          | inr ne ↦ elim (cases_eq i (next p)) [
            | inl b ↦ rw (b, out.prev_behind (λ e. ne (b ∙ e))) (r.prev_in p lc)
            | inr nb ↦ rw (out.prev_other i ne nb) (r.prev_in i l)
          ]
        ];
        back = λ i l. elim (cases_eq i p) [
          | inl e ↦ ap (λ k. prev2 (next2 k)) e ∙ ap prev2 out.next_here ∙ out.prev_here ∙ sym e
          | inr ne ↦ elim (cases_eq i (prev p)) [
            | inl b ↦
                let nb : prev p ≢ p = λ e. ne (b ∙ e) in
                ap (λ k. prev2 (next2 k)) b ∙ ap prev2 (out.next_before nb) ∙ out.prev_behind (λ e. nb (both e)) ∙ sym b
            | inr nb ↦
                let far = far_next i l ne nb in
                ap prev2 (out.next_other i ne nb) ∙ out.prev_other (next i) far.0 far.1 ∙ r.back i l
          ]
        ];
        forth = λ i l. elim (cases_eq i p) [
          | inl e ↦ ap (λ k. next2 (prev2 k)) e ∙ ap next2 out.prev_here ∙ out.next_here ∙ sym e
          | inr ne ↦ elim (cases_eq i (next p)) [
            | inl b ↦
                let nb : next p ≢ p = λ e. ne (b ∙ e) in
                ap (λ k. next2 (prev2 k)) b ∙ ap next2 (out.prev_behind nb) ∙ out.next_before (λ e. nb (both2 e)) ∙ sym b
            | inr nb ↦
                let far = far_prev i l ne nb in
                ap next2 (out.prev_other i ne nb) ∙ out.next_other (prev i) far.0 far.1 ∙ r.forth i l
          ]
        ];
        alone = λ i l none. elim (cases_eq i p) [
          | inl e ↦ rw e out.next_here
          | inr ne ↦
              let stays : next i ≡ i = r.alone i l (sym (key_other i ne) ∙ none) in
              let nb : i ≢ prev p = λ b. ne (sym stays ∙ ap next b ∙ r.forth p lc) in
              out.next_other i ne nb ∙ stays
        ];
        filed = λ i l. elim (cases_eq i p) [
          | inl e ↦ rw (e, out.next_here)
          | inr ne ↦ elim (cases_eq i (prev p)) [
            | inl b ↦
                let nb : prev p ≢ p = λ e. ne (b ∙ e) in
                let na : next p ≢ p = λ e. nb (both e) in
                ap (home places key2) (ap next2 b ∙ out.next_before nb)
                ∙ home_same places key key2 (next p) (key_other (next p) na)
                ∙ r.filed p lc ∙ ap (home places key) (sym (r.forth p lc)) ∙ r.filed (prev p) (r.prev_in p lc)
                ∙ ap (home places key) (sym b) ∙ sym (home_same places key key2 i (key_other i ne))
            | inr nb ↦
                let far = far_next i l ne nb in
                ap (home places key2) (out.next_other i ne nb) ∙ home_same places key key2 (next i) (key_other (next i) far.0)
                ∙ r.filed i l ∙ sym (home_same places key key2 i (key_other i ne))
          ]
        ];
        rank = r.rank;
        falls = λ i l some lq. elim (cases_eq i p) [
          | inl e ↦ absurd (some (ap key2 e ∙ key_here))
          | inr ne ↦
              let was : key i ≢ nothing = λ none. some (key_other i ne ∙ none) in
              elim (cases_eq i (next p)) [
                | inl a ↦
                    let na : next p ≢ p = λ e. ne (a ∙ e) in
                    let is : prev2 i ≡ prev p = ap prev2 a ∙ out.prev_behind na in
                    let back : prev i ≡ p = ap prev a ∙ r.back p lc in
                    let has : key p ≢ nothing = λ none. na (r.alone p lp none) in
                    let lb : prev p < places = rw is at lq in
                    let one : r.rank (prev p) < r.rank p = r.falls p lp has lb in
                    let two : r.rank (prev i) < r.rank i = r.falls i l was (rw back lp) in
                    let three : r.rank p < r.rank i = rw back at two in
                    rw is (omega arith)
                | inr na ↦
                    let is : prev2 i ≡ prev i = out.prev_other i ne na in
                    rw is (r.falls i l was (rw is at lq))
              ]
        ];
      }

      -- every other place waits as before
      pub still_alone : (i : ℕ) → i ≢ p → next i ≡ i → next2 i ≡ i
      still_alone i ne stays = elim (cases_eq i (prev p)) [
        | inl b ↦ absurd (ne (sym stays ∙ ap next b ∙ r.forth p lc))
        | inr nb ↦ out.next_other i ne nb ∙ stays
      ]

      pub still_waits : (i : ℕ) → i < places → i ≢ p → next i ≢ i → next2 i ≢ i
      still_waits i l ne waits stays = elim (cases_eq i (prev p)) [
        | inl b ↦
            let nb : prev p ≢ p = λ e. ne (b ∙ e) in
            let behind : next p ≡ i = sym (out.next_before nb) ∙ ap next2 (sym b) ∙ stays in
            let before : prev i ≡ p = ap prev (sym behind) ∙ r.back p lc in
            let one : r.rank (prev p) < r.rank p =
            r.falls p lp (λ none. ne (sym behind ∙ r.alone p lp none)) (rw (sym b) l) in
            let two : r.rank (prev i) < r.rank i = r.falls i l (λ none. waits (r.alone i l none)) (rw before lp) in
            let three : r.rank (prev i) ≡ r.rank p = ap r.rank before in
            let four : r.rank (prev p) ≡ r.rank i = ap r.rank (sym b) in
            absurd (omega arith)
        | inr nb ↦ waits (sym (out.next_other i ne nb) ∙ stays)
      ]

    -- a place without a key is put behind a bucket
    module _ (none : key p ≡ nothing) (s : ℕ) (le : places ≤ s) (ls : s < count) (new : ℕ) (new_in : new < nothing)
        (is : bucket places new ≡ s) (key_here : key2 p ≡ new) (key_other : (i : ℕ) → i ≢ p → key2 i ≡ key i)
        (put : IsPutBehind next prev s p next2 prev2) where
      stays : next p ≡ p
      stays = r.alone p lp none

      stays2 : prev p ≡ p
      stays2 = ap prev (sym stays) ∙ r.back p lc

      first_other : next s ≢ p
      first_other e =
          let same : s ≡ p = sym (r.back s ls) ∙ ap prev e ∙ stays2 in
          omega arith

      behind : (i : ℕ) → i < count → i ≢ p → i ≢ s → (next i ≢ p) × (next i ≢ next s)
      behind i l ne nb = (
        (λ e. ne (sym (r.back i l) ∙ ap prev e ∙ stays2)),
        (λ e. nb (sym (r.back i l) ∙ ap prev e ∙ r.back s ls)),
      )

      before : (i : ℕ) → i < count → i ≢ p → i ≢ next s → (prev i ≢ p) × (prev i ≢ s)
      before i l ne na = (
        (λ e. ne (sym (r.forth i l) ∙ ap next e ∙ stays)),
        (λ e. na (sym (r.forth i l) ∙ ap next e)),
      )

      home_here : home places key2 p ≡ s
      home_here = home_place places key2 p lp ∙ ap (bucket places) key_here ∙ is

      rank2 : ℕ → ℕ
      rank2 i = if eqb i p then 0 else suc (r.rank i)

      rank_here : rank2 p ≡ 0
      unfolding rank2
      rank_here = when p p 0 (suc (r.rank p)) refl

      rank_other : (i : ℕ) → i ≢ p → rank2 i ≡ suc (r.rank i)
      unfolding rank2
      rank_other i ne = unless i p 0 (suc (r.rank i)) ne

      pub inserted : AreInCircles places count key2 next2 prev2
      inserted = record {
        next_in = λ i l. elim (cases_eq i s) [
          | inl e ↦ rw (e, put.next_there) lc
          | inr ne ↦ elim (cases_eq i p) [
            | inl e ↦ rw (e, put.next_here) (r.next_in s ls)
            | inr np ↦ rw (put.next_other i np ne) (r.next_in i l)
          ]
        ];
        prev_in = λ i l. elim (cases_eq i p) [
          | inl e ↦ rw (e, put.prev_here) ls
          | inr ne ↦ elim (cases_eq i (next s)) [
            | inl e ↦ rw (e, put.prev_behind first_other) lc
            | inr na ↦ rw (put.prev_other i ne na) (r.prev_in i l)
          ]
        ];
        back = λ i l. elim (cases_eq i s) [
          | inl e ↦ ap (λ k. prev2 (next2 k)) e ∙ ap prev2 put.next_there ∙ put.prev_here ∙ sym e
          | inr ne ↦ elim (cases_eq i p) [
            | inl e ↦ ap (λ k. prev2 (next2 k)) e ∙ ap prev2 put.next_here ∙ put.prev_behind first_other ∙ sym e
            | inr np ↦
                let far = behind i l np ne in
                ap prev2 (put.next_other i np ne) ∙ put.prev_other (next i) far.0 far.1 ∙ r.back i l
          ]
        ];
        forth = λ i l. elim (cases_eq i p) [
          | inl e ↦ ap (λ k. next2 (prev2 k)) e ∙ ap next2 put.prev_here ∙ put.next_there ∙ sym e
          | inr ne ↦ elim (cases_eq i (next s)) [
            | inl e ↦ ap (λ k. next2 (prev2 k)) e ∙ ap next2 (put.prev_behind first_other) ∙ put.next_here ∙ sym e
            | inr na ↦
                let far = before i l ne na in
                ap next2 (put.prev_other i ne na) ∙ put.next_other (prev i) far.0 far.1 ∙ r.forth i l
          ]
        ];
        alone = λ i l no_key. elim (cases_eq i p) [
          | inl e ↦
              let same : new ≡ nothing = sym key_here ∙ ap key2 (sym e) ∙ no_key in
              absurd (omega arith)
          | inr ne ↦
              let ns : i ≢ s = omega arith in
              put.next_other i ne ns ∙ r.alone i l (sym (key_other i ne) ∙ no_key)
        ];
        filed = λ i l. elim (cases_eq i s) [
          | inl e ↦ ap (λ k. home places key2 (next2 k)) e ∙ ap (home places key2) put.next_there ∙ home_here
              ∙ sym (ap (home places key2) e ∙ home_bucket places key2 s le)
          | inr ne ↦ elim (cases_eq i p) [
            | inl e ↦ ap (λ k. home places key2 (next2 k)) e ∙ ap (home places key2) put.next_here
                ∙ home_same places key key2 (next s) (key_other (next s) first_other)
                ∙ r.filed s ls ∙ home_bucket places key s le ∙ sym (ap (home places key2) e ∙ home_here)
            | inr np ↦
                let far = behind i l np ne in
                ap (home places key2) (put.next_other i np ne) ∙ home_same places key key2 (next i) (key_other (next i) far.0)
                ∙ r.filed i l ∙ sym (home_same places key key2 i (key_other i np))
          ]
        ];
        rank = rank2;
        falls = λ i l some lq. elim (cases_eq i p) [
          | inl e ↦
              let at : prev2 i ≡ s = ap prev2 e ∙ put.prev_here in
              absurd (omega arith)
          | inr ne ↦ elim (cases_eq i (next s)) [
            | inl e ↦
                let at : prev2 i ≡ p = ap prev2 e ∙ put.prev_behind first_other in
                rw (at, rank_here, rank_other i ne) (omega arith)
            | inr na ↦
                let lc2 : i < count = omega arith in
                let far = before i lc2 ne na in
                let at : prev2 i ≡ prev i = put.prev_other i ne na in
                let was : key i ≢ nothing = λ no_key. some (key_other i ne ∙ no_key) in
                let lq2 : prev i < places = rw at at lq in
                let falls : r.rank (prev i) < r.rank i = r.falls i l was lq2 in
                rw (at, rank_other (prev i) far.0, rank_other i ne) (omega arith)
          ]
        ];
      }
