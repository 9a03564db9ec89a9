-- Nodes that have keys, as they are written.
use Rattle.std.proofs.Common.{ℕ, ◌<◌, ◌≤◌, ◌≡◌, ◌+◌, sym, ap, subst, arith, List, length, get_or}
use Rattle.surf_buckets.specs.declared.buckets.Node.{Node}
use Rattle.surf_buckets.specs.Circles.{nothing, bucket, AreCircles, IsTakenOut, IsPutBehind}
use Rattle.surf_buckets.specs.Nodes.{blank, key_at, next_at, prev_at, AreNodes, IsAlone, IsBuckets}
use Rattle.surf_buckets.specs.Buckets.{IsNearest}
use Rattle.surf_buckets.proofs.Circling.{lone}
use Rattle.surf_buckets.proofs.Filing.{keyed, circles_moved, circles_rekeyed, circles_without, circles_with, near_offered, near_taken, near_rekeyed, near_none}

pub lone_circles : (places : ℕ) (nodes : List Node) → places < 2147483648 → IsAlone (places + 4096) nodes → AreNodes places nodes
lone_circles places nodes few (long, each) =
    let at : (i : ℕ) → i < length nodes → get_or nodes i blank ≡ record { key = nothing; next = i; prev = i } = λ i l. each i (omega arith) in
    record {
      all = long;
      few = few;
      linked = lone places (length nodes) (key_at nodes) (next_at nodes) (prev_at nodes)
          (λ i l. ap (λ (x : Node). x.next) (at i l)) (λ i l. ap (λ (x : Node). x.prev) (at i l))
          (λ i l. ap (λ (x : Node). x.key) (at i (omega arith))) (omega arith);
    }

-- the links change, and then a key
module _ (places : ℕ) (old mid new : List Node) (circles : AreNodes places old) (p : ℕ) (lp : p < places)
    (long : length new ≡ length old) (next_is : (i : ℕ) → next_at new i ≡ next_at mid i) (prev_is : (i : ℕ) → prev_at new i ≡ prev_at mid i) (k : ℕ)
    (key_mid : (i : ℕ) → key_at mid i ≡ key_at old i) (key_is : (i : ℕ) → key_at new i ≡ keyed p k (key_at mid) i) where
  pub keys_are : (i : ℕ) → key_at new i ≡ keyed p k (key_at old) i
  keys_are i = rw (← key_mid i) (key_is i)

  written : AreCircles places (length old) (keyed p k (key_at old)) (next_at mid) (prev_at mid) → AreNodes places new
  written c =
      let moved = circles_moved places (length old) (keyed p k (key_at old)) (next_at mid) (prev_at mid) c (next_at new) (prev_at new) next_is prev_is in
      subst (λ n. AreCircles places n (key_at new) (next_at new) (prev_at new)) (sym long)
      (circles_rekeyed places (length old) (keyed p k (key_at old)) (next_at new) (prev_at new) moved (key_at new) (λ i l. keys_are i))

  pub remove_circles : k ≡ nothing → IsTakenOut (next_at old) (prev_at old) p (next_at mid) (prev_at mid) → AreNodes places new
  remove_circles none out =
      written (rw none (circles_without places (length old) (key_at old) (next_at old) (prev_at old) circles p lp (next_at mid) (prev_at mid) out))

  pub insert_circles : (s : ℕ) → key_at old p ≡ nothing → k < nothing → s ≡ bucket places k →
      IsPutBehind (next_at old) (prev_at old) s p (next_at mid) (prev_at mid) → AreNodes places new
  insert_circles s none fits is put =
      written (circles_with places (length old) (key_at old) (next_at old) (prev_at old) circles p lp (next_at mid) (prev_at mid) k s none fits is put)

-- queues
pub buckets_empty : (places : ℕ) (nodes : List Node) → AreNodes places nodes → ((p : ℕ) → p < places → key_at nodes p ≡ nothing) → IsBuckets places nodes 0 0
buckets_empty places nodes circles none = record { circles = circles; near = near_none places (key_at nodes) none }

module _ (places : ℕ) (nodes : List Node) (now last : ℕ) (b : IsBuckets places nodes now last) (new : List Node) (circles : AreNodes places new) (p : ℕ) where
  pub buckets_offered : (k : ℕ) → ((i : ℕ) → key_at new i ≡ keyed p k (key_at nodes) i) → now ≤ k → k < now + 4096 → (last2 : ℕ) → last ≤ last2 → k ≤ last2 → last2 < nothing →
      IsBuckets places new now last2
  buckets_offered k keys from window last2 more up in_range = record {
    circles = circles;
    near = near_rekeyed places (keyed p k (key_at nodes)) now last2 (near_offered places (key_at nodes) now last b.near p k from window last2 more up in_range) (key_at new) (λ i l. keys i);
  }

  pub buckets_taken : (k : ℕ) → IsNearest places (key_at nodes) p k → ((i : ℕ) → key_at new i ≡ keyed p nothing (key_at nodes) i) → IsBuckets places new k last
  buckets_taken k near keys = record {
    circles = circles;
    near = near_rekeyed places (keyed p nothing (key_at nodes)) k last (near_taken places (key_at nodes) now last b.near p k near) (key_at new) (λ i l. keys i);
  }
