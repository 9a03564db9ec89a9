-- What a queue over lent keys holds as it is called.
use Rattle.std.proofs.Common.{ℕ, ◌<◌, ◌≤◌, ◌≡◌, ◌≢◌, ◌+◌, refl, sym, ap, ◌∙◌, arith, inl, inr, List, length, get_or, set, replicate, Some, None, get_or-set_same, get_or-set_other}
use Rattle.std.proofs.Math.ListN.{length-set, length-replicate}
use Rattle.std.proofs.lemmas.Bool.{cases_eq}
use Rattle.std.proofs.lemmas.List.{same_lists, get_or-replicate, get_or_default}
use Rattle.std.proofs.lemmas.List.FromFn.{get_or-map-range_with_len, length-map-range_with_len}
use Rattle.surf_heap.specs.Entries.{entry_of, lesser, IsEmpty}
use Rattle.surf_buckets.specs.declared.lent.Link.{Link}
use Rattle.surf_buckets.specs.Circles.{nothing, IsEmptyBucket, IsFirstFull}
use Rattle.surf_buckets.specs.Buckets.{AreFiled, IsNearest, IsNearestEntry}
use Rattle.surf_buckets.specs.Lent.{LentTables, next_of, prev_of, waiting_key, settled_key, waiting, settled, AreLent, IsFiling, AreLone}
use Rattle.surf_buckets.proofs.Circling.{lone as lone_circles, when, unless}
use Rattle.surf_buckets.proofs.Filing.{keyed, none_filed, first_nearest, near_none, near_taken, near_offered, near_rekeyed}
use Rattle.surf_buckets.proofs.Views.{all_none, none_held, nearest_entry, entries_without, offered_less, offered_more}
use Rattle.surf_buckets.proofs.Lending.{alone_waiting, alone_settled, waits_waiting, waits_settled}

abbrev pub tables : List Link → ℕ → ℕ → ℕ → LentTables
tables links places now last = record { links = links; places = places; now = now; last = last }

module _ (t : LentTables) (keys : List ℕ) where
  pub settled_length : length (settled t keys) ≡ t.places
  settled_length = length-map-range_with_len (settled_key t.links keys) 0 t.places

  pub settled_at : (p d : ℕ) → p < t.places → get_or (settled t keys) p d ≡ settled_key t.links keys p
  settled_at p d l = get_or-map-range_with_len (settled_key t.links keys) 0 t.places p p d l (omega arith)

-- a queue that begins
pub record Begins (t : LentTables) (keys : List ℕ) : Type 0 where
  pub filing : IsFiling t keys
  pub waits : waiting t keys ≡ replicate (length keys) None
  pub settles : settled t keys ≡ replicate (length keys) nothing

pub begins : (links : List Link) (places : ℕ) (keys : List ℕ) → places < 2147483648 → length keys ≡ places → AreLone (places + 4096) links →
    ((p : ℕ) → p < places → get_or keys p 0 ≡ nothing) → Begins (tables links places 0 0) keys
begins links places keys few room (long, each) free = record {
  filing = record {
    room = room;
    circles = record {
      all = long;
      few = few;
      linked = lone_circles places (length links) (waiting_key links keys) (next_of links) (prev_of links) (λ i l. next_is i (omega arith))
          (λ i l. ap (λ (x : Link). x.prev) (each i (omega arith))) none (omega arith);
    };
    near = near_none places (waiting_key links keys) none;
  };
  waits = none_held places (waiting_key links keys) none ∙ ap (λ n. replicate n None) (sym room);
  settles = same_lists (settled (tables links places 0 0) keys) (replicate (length keys) nothing)
      (settled_length (tables links places 0 0) keys ∙ sym room ∙ sym (length-replicate (length keys) nothing)) (λ q d l.
      let n = settled_length (tables links places 0 0) keys in
      let lq : q < places = omega arith in
      let lk : q < length keys = omega arith in
      settled_at (tables links places 0 0) keys q d lq ∙ alone_settled links keys q (next_is q (omega arith)) ∙ free q lq
      ∙ sym (get_or-replicate (length keys) q nothing d lk));
}
  where
    next_is : (i : ℕ) → i < places + 4096 → next_of links i ≡ i
    next_is i l = ap (λ (x : Link). x.next) (each i l)

    none : (p : ℕ) → p < places → waiting_key links keys p ≡ nothing
    none p l = alone_waiting links keys p (next_is p (omega arith))

-- two tables of settled keys that differ at most at one place
pub settled_set : (t t2 : LentTables) (keys keys2 : List ℕ) (p x : ℕ) → t2.places ≡ t.places → p < t.places →
    ((i : ℕ) → i < t.places → settled_key t2.links keys2 i ≡ keyed p x (settled_key t.links keys) i) →
    settled t2 keys2 ≡ set (settled t keys) p x
settled_set t t2 keys keys2 p x same lp each =
    let n = settled_length t keys in
    let n2 = settled_length t2 keys2 in
    same_lists (settled t2 keys2) (set (settled t keys) p x) (n2 ∙ same ∙ sym n ∙ sym (length-set (settled t keys) p x)) (λ q d l.
    let lq : q < t.places = omega arith in
    let now : get_or (settled t2 keys2) q d ≡ keyed p x (settled_key t.links keys) q = settled_at t2 keys2 q d (omega arith) ∙ each q lq in
    elim (cases_eq q p) [
      | inl e ↦ now ∙ when q p x (settled_key t.links keys q) e
          ∙ sym (ap (λ i. get_or (set (settled t keys) p x) i d) e ∙ get_or-set_same (settled t keys) p x d (omega arith))
      | inr ne ↦ now ∙ unless q p x (settled_key t.links keys q) ne
          ∙ sym (get_or-set_other (settled t keys) p q x d ne ∙ settled_at t keys q d lq)
    ])

-- nothing waits any more
pub record TakesNone (t : LentTables) (keys : List ℕ) : Type 0 where
  pub empty : IsEmpty (waiting t keys)
  pub settles : settled t keys ≡ keys

-- the nearest is taken
pub record TakesOne (old new : LentTables) (keys : List ℕ) (p k : ℕ) : Type 0 where
  pub filing : IsFiling new keys
  pub nearest : IsNearestEntry (waiting old keys) p k
  pub gone : waiting new keys ≡ set (waiting old keys) p None
  pub settles : settled new keys ≡ set (settled old keys) p k

module _ (links : List Link) (places now last : ℕ) (keys : List ℕ) (f : IsFiling (tables links places now last) keys) where
  abbrev old : LentTables
  old = tables links places now last

  abbrev key : ℕ → ℕ
  key = waiting_key links keys

  filed : AreFiled places (length links) key (next_of links) (prev_of links) now last
  filed = record { circles = f.circles; near = f.near }

  key_is : (p : ℕ) → p < places → key p ≢ nothing → next_of links p ≢ p
  key_is p l some e = some (alone_waiting links keys p e)

  pub takes_none : ((k : ℕ) → now ≤ k → k ≤ last → IsEmptyBucket places (next_of links) k) → TakesNone old keys
  takes_none empty = record {
    empty = all_none places key none;
    settles = same_lists (settled old keys) keys (settled_length old keys ∙ sym f.room) (λ q d l.
        let n = settled_length old keys in
        let long = f.room in
        let lq : q < places = omega arith in
        settled_at old keys q d lq ∙ alone_settled links keys q (f.circles.linked.alone q lq (none q lq))
        ∙ get_or_default keys q 0 d (omega arith));
  }
    where
      none : (p : ℕ) → p < places → key p ≡ nothing
      none = none_filed places (length links) key (next_of links) (prev_of links) now last filed empty

  pub takes_one : (new : List Link) (p k : ℕ) → IsFirstFull places (next_of links) now last p k → AreLent places new keys →
      ((i : ℕ) → i < places → waiting_key new keys i ≡ keyed p nothing key i) →
      ((i : ℕ) → i < places → settled_key new keys i ≡ keyed p (get_or keys i 0) (settled_key links keys) i) →
      TakesOne old (tables new places k last) keys p k
  takes_one new p k first circles waits settles = record {
    filing = record {
      room = f.room;
      circles = circles;
      near = near_rekeyed places (keyed p nothing key) k last (near_taken places key now last f.near p k near) (waiting_key new keys) waits;
    };
    nearest = nearest_entry places key p k near;
    gone = entries_without places key (waiting_key new keys) p near.within waits;
    settles = settled_set old (tables new places k last) keys keys p k refl near.within (λ i l. elim (cases_eq i p) [
      | inl e ↦ settles i l ∙ when i p (get_or keys i 0) (settled_key links keys i) e ∙ ap (λ j. get_or keys j 0) e ∙ there
          ∙ sym (when i p k (settled_key links keys i) e)
      | inr ne ↦ settles i l ∙ unless i p (get_or keys i 0) (settled_key links keys i) ne ∙ sym (unless i p k (settled_key links keys i) ne)
    ]);
  }
    where
      near : IsNearest places key p k
      near = first_nearest places (length links) key (next_of links) (prev_of links) now last filed p k first

      there : get_or keys p 0 ≡ k
      there =
          let some : key p ≢ nothing = λ e. absurd (omega (arith, near.holds, near.key_in, e)) in
          sym (waits_waiting links keys p (key_is p near.within some)) ∙ near.holds

  -- a place is offered a key
  module _ (p k : ℕ) (lp : p < places) (fits : k < nothing)
      (bound : get_or (settled old keys) p 0 ≢ nothing → get_or (settled old keys) p 0 ≤ k) where
    settled_here : get_or (settled old keys) p 0 ≡ settled_key links keys p
    settled_here = settled_at old keys p 0 lp

    -- one that is no greater than its own
    pub offers_more : get_or keys p 0 ≤ k → get_or (settled old keys) p 0 ≡ nothing →
        waiting old keys ≡ set (waiting old keys) p (Some (lesser (entry_of (waiting old keys) p) k 0))
    offers_more le free = offered_more places key p k lp no_less fits
      where
        no_less : key p ≤ k
        no_less = elim (cases_eq (next_of links p) p) [
          | inl e ↦
              let same : get_or keys p 0 ≡ nothing = sym (alone_settled links keys p e) ∙ sym settled_here ∙ free in
              absurd (omega arith)
          | inr ne ↦ rw (waits_waiting links keys p ne) le
        ]

    module _ (less : k < get_or keys p 0) where
      pub free_here : get_or (settled old keys) p 0 ≡ nothing
      free_here = elim (cases_eq (get_or (settled old keys) p 0) nothing) [
        | inl e ↦ e
        | inr some ↦ elim (cases_eq (next_of links p) p) [
          | inl e ↦
              let same : get_or (settled old keys) p 0 ≡ get_or keys p 0 = settled_here ∙ alone_settled links keys p e in
              let le : get_or (settled old keys) p 0 ≤ k = bound some in
              absurd (omega arith)
          | inr ne ↦ absurd (some (settled_here ∙ waits_settled links keys p ne))
        ]
      ]

      less_key : k < key p
      less_key = elim (cases_eq (next_of links p) p) [
        | inl e ↦ rw (alone_waiting links keys p e) fits
        | inr ne ↦ rw (waits_waiting links keys p ne) less
      ]

      module _ (new : List Link) (keys2 : List ℕ) (last2 : ℕ) (waits : (i : ℕ) → i < places → waiting_key new keys2 i ≡ keyed p k key i) where
        pub offers_waiting : waiting (tables new places now last2) keys2 ≡ set (waiting old keys) p (Some (lesser (entry_of (waiting old keys) p) k 0))
        offers_waiting = offered_less places key p k lp (waiting_key new keys2) less_key fits waits

        pub offers_filing : length keys2 ≡ length keys → AreLent places new keys2 → now ≤ k → k < now + 4096 → last ≤ last2 → k ≤ last2 → last2 < nothing →
            IsFiling (tables new places now last2) keys2
        offers_filing long circles from window more up in_range = record {
          room = long ∙ f.room;
          circles = circles;
          near = near_rekeyed places (keyed p k key) now last2 (near_offered places key now last f.near p k from window last2 more up in_range) (waiting_key new keys2) waits;
        }

        pub offers_settled : ((i : ℕ) → i < places → settled_key new keys2 i ≡ keyed p nothing (settled_key links keys) i) →
            settled (tables new places now last2) keys2 ≡ settled old keys
        offers_settled settles =
            let t2 = tables new places now last2 in
            same_lists (settled t2 keys2) (settled old keys) (settled_length t2 keys2 ∙ sym (settled_length old keys)) (λ q d l.
            let n2 = settled_length t2 keys2 in
            let lq : q < places = omega arith in
            settled_at t2 keys2 q d lq ∙ settles q lq ∙ same q ∙ sym (settled_at old keys q d lq))
          where
            same : (q : ℕ) → keyed p nothing (settled_key links keys) q ≡ settled_key links keys q
            same q = elim (cases_eq q p) [
              | inl e ↦ when q p nothing (settled_key links keys q) e ∙ sym (ap (settled_key links keys) e ∙ sym settled_here ∙ free_here)
              | inr ne ↦ unless q p nothing (settled_key links keys q) ne
            ]
