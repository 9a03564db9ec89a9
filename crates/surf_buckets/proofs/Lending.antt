-- The queue over lent keys.
use Rattle.std.proofs.Common.{ℕ, ◌<◌, ◌≡◌, ◌≢◌, refl, sym, ap, ◌∙◌, subst, arith, inl, inr, List, length, get_or, set, get_or-set_same, get_or-set_other}
use Rattle.std.proofs.lemmas.Bool.{cases_eq}
use Rattle.surf_buckets.specs.declared.lent.Link.{Link}
use Rattle.surf_buckets.specs.Circles.{nothing, bucket, AreCircles, IsTakenOut, IsPutBehind}
use Rattle.surf_buckets.specs.Lent.{next_of, prev_of, waiting_key, settled_key, AreLent}
use Rattle.surf_buckets.proofs.Circling.{when, unless}
use Rattle.surf_buckets.proofs.Filing.{keyed, circles_rekeyed, circles_without, circles_with, others_alone, others_wait}

module _ (links : List Link) (keys : List ℕ) (p : ℕ) where
  pub alone_waiting : next_of links p ≡ p → waiting_key links keys p ≡ nothing
  alone_waiting e = when (next_of links p) p nothing (get_or keys p 0) e

  pub alone_settled : next_of links p ≡ p → settled_key links keys p ≡ get_or keys p 0
  alone_settled e = when (next_of links p) p (get_or keys p 0) nothing e

  pub waits_waiting : next_of links p ≢ p → waiting_key links keys p ≡ get_or keys p 0
  waits_waiting ne = unless (next_of links p) p nothing (get_or keys p 0) ne

  pub waits_settled : next_of links p ≢ p → settled_key links keys p ≡ nothing
  waits_settled ne = unless (next_of links p) p (get_or keys p 0) nothing ne

-- a place that stands as before, with a key that is as before
module _ (links links2 : List Link) (keys keys2 : List ℕ) (i : ℕ) (alone : next_of links i ≡ i → next_of links2 i ≡ i)
    (waits : next_of links i ≢ i → next_of links2 i ≢ i) (same : get_or keys2 i 0 ≡ get_or keys i 0) where
  pub same_waiting : waiting_key links2 keys2 i ≡ waiting_key links keys i
  same_waiting = elim (cases_eq (next_of links i) i) [
    | inl e ↦ alone_waiting links2 keys2 i (alone e) ∙ sym (alone_waiting links keys i e)
    | inr ne ↦ waits_waiting links2 keys2 i (waits ne) ∙ same ∙ sym (waits_waiting links keys i ne)
  ]

  pub same_settled : settled_key links2 keys2 i ≡ settled_key links keys i
  same_settled = elim (cases_eq (next_of links i) i) [
    | inl e ↦ alone_settled links2 keys2 i (alone e) ∙ same ∙ sym (alone_settled links keys i e)
    | inr ne ↦ waits_settled links2 keys2 i (waits ne) ∙ sym (waits_settled links keys i ne)
  ]

module _ (places : ℕ) (links : List Link) (keys : List ℕ) (c : AreLent places links keys) (p : ℕ) (lp : p < places)
    (mid : List Link) (long : length mid ≡ length links) (out : IsTakenOut (next_of links) (prev_of links) p (next_of mid) (prev_of mid)) where
  abbrev key : ℕ → ℕ
  key = waiting_key links keys

  stays_alone : (i : ℕ) → i ≢ p → next_of links i ≡ i → next_of mid i ≡ i
  stays_alone = others_alone places (length links) key (next_of links) (prev_of links) c p lp (next_of mid) (prev_of mid) out

  stays_waiting : (i : ℕ) → i < places → i ≢ p → next_of links i ≢ i → next_of mid i ≢ i
  stays_waiting = others_wait places (length links) key (next_of links) (prev_of links) c p lp (next_of mid) (prev_of mid) out

  -- a place is taken out
  without : AreCircles places (length links) (keyed p nothing key) (next_of mid) (prev_of mid)
  without = circles_without places (length links) key (next_of links) (prev_of links) c p lp (next_of mid) (prev_of mid) out

  pub out_waiting : (i : ℕ) → i < places → waiting_key mid keys i ≡ keyed p nothing key i
  out_waiting i l = elim (cases_eq i p) [
    | inl e ↦ alone_waiting mid keys i (rw e out.next_here) ∙ sym (when i p nothing (key i) e)
    | inr ne ↦ same_waiting links mid keys keys i (stays_alone i ne) (stays_waiting i l ne) refl ∙ sym (unless i p nothing (key i) ne)
  ]

  pub out_settled : (i : ℕ) → i < places → settled_key mid keys i ≡ keyed p (get_or keys i 0) (settled_key links keys) i
  out_settled i l = elim (cases_eq i p) [
    | inl e ↦ alone_settled mid keys i (rw e out.next_here) ∙ sym (when i p (get_or keys i 0) (settled_key links keys i) e)
    | inr ne ↦ same_settled links mid keys keys i (stays_alone i ne) (stays_waiting i l ne) refl ∙ sym (unless i p (get_or keys i 0) (settled_key links keys i) ne)
  ]

  pub out_circles : AreLent places mid keys
  out_circles =
      subst (λ n. AreCircles places n (waiting_key mid keys) (next_of mid) (prev_of mid)) (sym long)
      (circles_rekeyed places (length links) (keyed p nothing key) (next_of mid) (prev_of mid) without (waiting_key mid keys) out_waiting)

  -- and put behind a bucket
  module _ (room : length keys ≡ places) (k s : ℕ) (fits : k < nothing) (is : s ≡ bucket places k) (new : List Link) (long2 : length new ≡ length mid)
      (put : IsPutBehind (next_of mid) (prev_of mid) s p (next_of new) (prev_of new)) where
    abbrev keys2 : List ℕ
    keys2 = set keys p k

    here : get_or keys2 p 0 ≡ k
    here = get_or-set_same keys p k 0 (omega arith)

    there : (i : ℕ) → i ≢ p → get_or keys2 i 0 ≡ get_or keys i 0
    there i ne = get_or-set_other keys p i k 0 ne

    waits : next_of new p ≢ p
    waits e =
        let a = c.all in
        let s_in : s < length links = omega arith in
        let back : prev_of mid (next_of mid s) ≡ s = without.linked.back s s_in in
        let same : s ≡ p = sym back ∙ ap (prev_of mid) (sym put.next_here ∙ e) ∙ out.prev_here in
        absurd (omega arith)

    kept : (i : ℕ) → i < places → i ≢ p → next_of new i ≡ next_of mid i
    kept i l ne = put.next_other i ne (omega arith)

    still : (i : ℕ) → i < places → i ≢ p → next_of links i ≡ i → next_of new i ≡ i
    still i l ne e = kept i l ne ∙ stays_alone i ne e

    still_waiting : (i : ℕ) → i < places → i ≢ p → next_of links i ≢ i → next_of new i ≢ i
    still_waiting i l ne more e = stays_waiting i l ne more (sym (kept i l ne) ∙ e)

    pub put_waiting : (i : ℕ) → i < places → waiting_key new keys2 i ≡ keyed p k key i
    put_waiting i l = elim (cases_eq i p) [
      | inl e ↦ ap (waiting_key new keys2) e ∙ waits_waiting new keys2 p waits ∙ here ∙ sym (when i p k (key i) e)
      | inr ne ↦ same_waiting links new keys keys2 i (still i l ne) (still_waiting i l ne) (there i ne) ∙ sym (unless i p k (key i) ne)
    ]

    pub put_settled : (i : ℕ) → i < places → settled_key new keys2 i ≡ keyed p nothing (settled_key links keys) i
    put_settled i l = elim (cases_eq i p) [
      | inl e ↦ ap (settled_key new keys2) e ∙ waits_settled new keys2 p waits ∙ sym (when i p nothing (settled_key links keys i) e)
      | inr ne ↦ same_settled links new keys keys2 i (still i l ne) (still_waiting i l ne) (there i ne) ∙ sym (unless i p nothing (settled_key links keys i) ne)
    ]

    twice : (i : ℕ) → keyed p k key i ≡ keyed p k (keyed p nothing key) i
    twice i = elim (cases_eq i p) [
      | inl e ↦ when i p k (key i) e ∙ sym (when i p k (keyed p nothing key i) e)
      | inr ne ↦ unless i p k (key i) ne ∙ sym (unless i p nothing (key i) ne) ∙ sym (unless i p k (keyed p nothing key i) ne)
    ]

    pub put_circles : AreLent places new keys2
    put_circles =
        let with_p = circles_with places (length links) (keyed p nothing key) (next_of mid) (prev_of mid) without p lp (next_of new) (prev_of new) k s
        (when p p nothing (key p) refl) fits is put in
        subst (λ n. AreCircles places n (waiting_key new keys2) (next_of new) (prev_of new)) (sym (long2 ∙ long))
        (circles_rekeyed places (length links) (keyed p k (keyed p nothing key)) (next_of new) (prev_of new) with_p (waiting_key new keys2) (λ i l. put_waiting i l ∙ twice i))
