-- Places in the circles of their keys.
use Rattle.std.proofs.Common.{ℕ, ◌<◌, ◌≤◌, ◌≡◌, ◌≢◌, ◌+◌, refl, sym, arith, inl, inr, eqb, if◌then◌else◌, Option, Some, None}
use Rattle.std.specs.Prelude.{MatchOption}
use Rattle.std.proofs.lemmas.Bool.{cases_eq, cases_lt}
use Rattle.surf_buckets.specs.Circles.{nothing, bucket, AreCircles, IsTakenOut, IsPutBehind, IsEmptyBucket, IsFirstFull}
use Rattle.surf_buckets.specs.Buckets.{AreFiled, AreNear, IsNearest}
use Rattle.surf_buckets.proofs.Circling.{when, unless, same_links, same_keys, removed, inserted, still_alone, still_waits, bucket_first, bucket_alone}

-- a key that is less than one walk round the buckets away, and has the same bucket, is the same
pub same_key : (places a b : ℕ) → a ≤ b → b < a + 4096 → bucket places b ≡ bucket places a → b ≡ a
same_key places a b le less same = omega arith

-- keys after a change of one place
abbrev pub keyed : ℕ → ℕ → (ℕ → ℕ) → ℕ → ℕ
keyed p k key i = if eqb i p then k else key i

module _ (places count : ℕ) (key next prev : ℕ → ℕ) (c : AreCircles places count key next prev) where
  pub circles_moved : (next2 prev2 : ℕ → ℕ) → ((i : ℕ) → next2 i ≡ next i) → ((i : ℕ) → prev2 i ≡ prev i) → AreCircles places count key next2 prev2
  circles_moved next2 prev2 nexts prevs = record {
    all = c.all;
    few = c.few;
    linked = same_links places count key next prev next2 prev2 c.linked nexts prevs;
  }

  pub circles_rekeyed : (key2 : ℕ → ℕ) → ((i : ℕ) → i < places → key2 i ≡ key i) → AreCircles places count key2 next prev
  circles_rekeyed key2 keys = record { all = c.all; few = c.few; linked = same_keys places count key key2 next prev c.linked keys }

  module _ (p : ℕ) (lp : p < places) (next2 prev2 : ℕ → ℕ) where
    -- a place is taken out
    pub circles_without : IsTakenOut next prev p next2 prev2 → AreCircles places count (keyed p nothing key) next2 prev2
    circles_without out = record {
      all = c.all;
      few = c.few;
      linked = removed places count key next prev c.linked c.all (keyed p nothing key) next2 prev2 p lp
          (when p p nothing (key p) refl) (λ i ne. unless i p nothing (key i) ne) out;
    }

    -- every other place waits as before
    pub others_alone : IsTakenOut next prev p next2 prev2 → (i : ℕ) → i ≢ p → next i ≡ i → next2 i ≡ i
    others_alone = still_alone places count key next prev c.linked c.all (keyed p nothing key) next2 prev2 p lp
        (when p p nothing (key p) refl) (λ i ne. unless i p nothing (key i) ne)

    pub others_wait : IsTakenOut next prev p next2 prev2 → (i : ℕ) → i < places → i ≢ p → next i ≢ i → next2 i ≢ i
    others_wait = still_waits places count key next prev c.linked c.all (keyed p nothing key) next2 prev2 p lp
        (when p p nothing (key p) refl) (λ i ne. unless i p nothing (key i) ne)

    -- a place is put behind a bucket
    pub circles_with : (k s : ℕ) → key p ≡ nothing → k < nothing → s ≡ bucket places k → IsPutBehind next prev s p next2 prev2 →
        AreCircles places count (keyed p k key) next2 prev2
    circles_with k s none fits is put = record {
      all = c.all;
      few = c.few;
      linked = inserted places count key next prev c.linked c.all (keyed p k key) next2 prev2 p lp none s (omega arith)
          (let a = c.all in omega arith) k fits (sym is) (when p p k (key p) refl) (λ i ne. unless i p k (key i) ne) put;
    }

-- the first bucket that doesn't stand alone
module _ (places count : ℕ) (key next prev : ℕ → ℕ) (now last : ℕ) (f : AreFiled places count key next prev now last) where
  not_empty : (p : ℕ) → p < places → key p ≢ nothing → IsEmptyBucket places next (key p) → ⊥
  not_empty p l some stays =
      let a = f.circles.all in
      bucket_alone places count key next prev f.circles.linked f.circles.all p (bucket places (key p)) l some (omega arith) (omega arith) stays refl

  pub none_filed : ((k : ℕ) → now ≤ k → k ≤ last → IsEmptyBucket places next k) → (p : ℕ) → p < places → key p ≡ nothing
  none_filed empty p l = elim (cases_eq (key p) nothing) [
    | inl none ↦ none
    | inr some ↦ absurd (not_empty p l some (empty (key p) (f.near.from p l some) (f.near.to p l some)))
  ]

  pub first_nearest : (place k : ℕ) → IsFirstFull places next now last place k → IsNearest places key place k
  first_nearest place k first = record {
    within = rw first.first found.0;
    holds = rw first.first is;
    key_in = let a = f.near.last_in in let b : k ≤ last = first.to in omega arith;
    least = least;
  }
    where
      least : (p : ℕ) → p < places → key p ≢ nothing → k ≤ key p
      least p l some = elim (cases_lt (key p) k) [
        | inl less ↦ absurd (not_empty p l some (first.before (key p) (f.near.from p l some) less))
        | inr le ↦ le
      ]

      found : (next (bucket places k) < places) × (key (next (bucket places k)) ≢ nothing) × (bucket places (key (next (bucket places k))) ≡ bucket places k)
      found =
          let a = f.circles.all in
          bucket_first places count key next prev f.circles.linked f.circles.all (bucket places k) (omega arith) (omega arith) first.full

      is : key (next (bucket places k)) ≡ k
      is =
          let up : k ≤ key (next (bucket places k)) = least (next (bucket places k)) found.0 found.1 in
          let window : key (next (bucket places k)) < now + 4096 = f.near.window (next (bucket places k)) found.0 found.1 in
          let since : now ≤ k = first.from in
          same_key places k (key (next (bucket places k))) up (omega arith) found.2

  pub full_nearest : (r : Option (ℕ × ℕ)) → MatchOption r ((k : ℕ) → now ≤ k → k ≤ last → IsEmptyBucket places next k) (λ x. IsFirstFull places next now last x.0 x.1) →
      MatchOption r ((p : ℕ) → p < places → key p ≡ nothing) (λ x. IsNearest places key x.0 x.1)
  full_nearest None empty = none_filed empty
  full_nearest (Some x) first = first_nearest x.0 x.1 first

-- the range of the keys
module _ (places : ℕ) (key : ℕ → ℕ) (now last : ℕ) (n : AreNear places key now last) where
  -- after a place has another key
  pub near_offered : (p k : ℕ) → now ≤ k → k < now + 4096 → (last2 : ℕ) → last ≤ last2 → k ≤ last2 → last2 < nothing →
      AreNear places (keyed p k key) now last2
  near_offered p k from window last2 more up in_range = record {
    from = λ q l some. elim (cases_eq q p) [
      | inl e ↦ rw (when q p k (key q) e) from
      | inr ne ↦ rw (unless q p k (key q) ne) (n.from q l (rw (unless q p k (key q) ne) at some))
    ];
    window = λ q l some. elim (cases_eq q p) [
      | inl e ↦ rw (when q p k (key q) e) window
      | inr ne ↦ rw (unless q p k (key q) ne) (n.window q l (rw (unless q p k (key q) ne) at some))
    ];
    to = λ q l some. elim (cases_eq q p) [
      | inl e ↦ rw (when q p k (key q) e) up
      | inr ne ↦
          let le : key q ≤ last = n.to q l (rw (unless q p k (key q) ne) at some) in
          rw (unless q p k (key q) ne) (omega arith)
    ];
    last_in = in_range;
  }

  -- and after a place with the least key was taken out
  pub near_taken : (p k : ℕ) → IsNearest places key p k → AreNear places (keyed p nothing key) k last
  near_taken p k near = record {
    from = λ q l has. rw (was q has) (near.least q l (rw (was q has) at has));
    window = λ q l has.
        let less : key q < now + 4096 = n.window q l (rw (was q has) at has) in
        rw (was q has) (omega arith);
    to = λ q l has. rw (was q has) (n.to q l (rw (was q has) at has));
    last_in = n.last_in;
  }
    where
      some : key p ≢ nothing
      some e = absurd (omega (arith, near.holds, near.key_in, e))

      is : key p ≡ k
      is = near.holds

      up : now ≤ key p
      up = n.from p near.within some

      was : (q : ℕ) → keyed p nothing key q ≢ nothing → keyed p nothing key q ≡ key q
      was q has = elim (cases_eq q p) [
        | inl e ↦ absurd (has (when q p nothing (key q) e))
        | inr ne ↦ unless q p nothing (key q) ne
      ]

  pub near_rekeyed : (key2 : ℕ → ℕ) → ((i : ℕ) → i < places → key2 i ≡ key i) → AreNear places key2 now last
  near_rekeyed key2 keys = record {
    from = λ q l some. rw (keys q l) (n.from q l (rw (keys q l) at some));
    window = λ q l some. rw (keys q l) (n.window q l (rw (keys q l) at some));
    to = λ q l some. rw (keys q l) (n.to q l (rw (keys q l) at some));
    last_in = n.last_in;
  }

-- where no place has a key
pub near_none : (places : ℕ) (key : ℕ → ℕ) → ((p : ℕ) → p < places → key p ≡ nothing) → AreNear places key 0 0
near_none places key none = record {
  from = λ p l some. absurd (some (none p l));
  window = λ p l some. absurd (some (none p l));
  to = λ p l some. absurd (some (none p l));
  last_in = omega arith;
}
