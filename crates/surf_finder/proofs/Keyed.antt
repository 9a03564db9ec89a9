-- Keys of loops: what they tell, and what is noted of them.
use Rattle.surf_finder.proofs.Common.{◌≡◌, ◌≢◌, ◌⊎◌, ℕ, ◌<◌, ◌+◌, ◌++◌, ◌∷◌, [], true, not, ◌==◌, List, length, slice_index, bit_xor, get_or, set, sym, ap, ◌∙◌, subst, arith, inl, inr, nat_tests, and_parts, and_from, All, All-push, Option, Some, None, get_or-map, length-map, edge_count, Candidate, Signed, signatures, place_of, is_sought, class_at, Search, reached_at, is_between, is_wanted, told_loop, HasNoLater, precedes}
use Rattle.std.specs.Int.Bits.{xor_assoc, xor_comm}
use Rattle.std.proofs.lemmas.List.{map-set, set-get_or, map-append, get_or_append_left, length-append}
use Rattle.std.proofs.Math.Seq.{get_or-append_seam}
use Rattle.std.proofs.lemmas.List.Elements.{All-weaker}
use Rattle.surf_finder.specs.Found.{AreListed, IsKeyOf, IsSearched}
use Rattle.surf_finder.specs.Keys.{IsNoted, IsPlaced, key_class}
use Rattle.surf_finder.specs.Rises.{IsRise}
use Rattle.surf_finder.specs.declared.keys.Key.{Key}
use Rattle.surf_finder.specs.declared.keys.Noted.{Noted}
use Rattle.surf_finder.specs.declared.reached.Reached.{Reached}
use Rattle.surf_finder.specs.declared.rises.Rise.{Rise}
use Rattle.surf_finder.specs.declared.told_loops.Ties.{Ties}
use Rattle.surf_finder.proofs.Told.{rise_ends, told_stands, told_pushed}

-- ---- what a key tells

swapped : (a s b : ℕ) → bit_xor (bit_xor a s) b ≡ bit_xor (bit_xor b s) a
swapped a s b = xor_comm (bit_xor a s) b ∙ ap (bit_xor b) (xor_comm a s) ∙ sym (xor_assoc b s a)

-- the numbers of the ways to the ends of an edge, in either order, and its kind are the key of its loop
pub key_tells : (r : Reached) (rise : Rise) (key : Key) → IsSearched r → IsRise r.surface.now.mesh.now rise →
    is_between (reached_at r) rise.edge ≡ true → key.kind ≡ slice_index r.kinds.now.kinds rise.edge →
    ((key.low ≡ slice_index r.ways.now.numbers rise.low) × (key.high ≡ slice_index r.ways.now.numbers rise.high))
    ⊎ ((key.low ≡ slice_index r.ways.now.numbers rise.high) × (key.high ≡ slice_index r.ways.now.numbers rise.low)) →
    IsKeyOf r rise.edge key
key_tells r rise key searched is between kind ways =
    let x = reached_at r in
    let w = r.ways.now in
    let t = r.kinds.now in
    let e = rise.edge in
    let (low, high) = rise_ends x rise searched.ready is between in
    let signs = searched.ready.signs in
    let e_in : e < length x.signs.signatures = let l = is.edge_in in omega (arith, l, signs) in
    let kind_in : slice_index t.kinds e < length t.signatures = searched.kinds.kind_in e e_in in
    let sum : ℕ → ℕ → ℕ → ℕ = λ a k b. bit_xor (bit_xor (slice_index w.classes a) (slice_index t.signatures k)) (slice_index w.classes b) in
    let own : ℕ × ℕ → ℕ → ℕ = λ p s. bit_xor (bit_xor (class_at w p.0) s) (class_at w p.1) in
    let told : own (rise.low, rise.high) (slice_index t.signatures (slice_index t.kinds e)) ≡ (told_loop x e).signature =
    ap (own (rise.low, rise.high)) (searched.kinds.same e e_in) ∙ sym (ap (λ p. own p (slice_index x.signs.signatures e)) is.ends_are) in
    let by_kind : key_class w t key ≡ sum key.low (slice_index t.kinds e) key.high = ap (λ k. sum key.low k key.high) kind in
    let number : key.kind < length t.signatures = omega (arith, kind, kind_in) in
    elim ways [
      | inl straight ↦
          let (a, b) = straight in
          let low_in = low.numbered in
          let high_in = high.numbered in
          record {
            numbers = record { low_in = omega (arith, a, low_in); high_in = omega (arith, b, high_in); kind_in = number };
            class = by_kind ∙ ap (λ n. sum n (slice_index t.kinds e) key.high) a
                ∙ ap (sum (slice_index w.numbers rise.low) (slice_index t.kinds e)) b ∙ told;
          }
      | inr turned ↦
          let (a, b) = turned in
          let low_in = low.numbered in
          let high_in = high.numbered in
          record {
            numbers = record { low_in = omega (arith, a, high_in); high_in = omega (arith, b, low_in); kind_in = number };
            class = by_kind ∙ ap (λ n. sum n (slice_index t.kinds e) key.high) a
                ∙ ap (sum (slice_index w.numbers rise.high) (slice_index t.kinds e)) b
                ∙ swapped (class_at w rise.high) (slice_index t.signatures (slice_index t.kinds e)) (class_at w rise.low) ∙ told;
          }
    ]

-- ---- the places of classes

-- the class of a listed loop
pub signature_there : (found : List Signed) (k : ℕ) (s : Signed) → k < length found → s ≡ get_or found k s →
    slice_index (signatures found) k ≡ s.signature
signature_there found k s k_in is =
    get_or-map (λ (c : Signed). c.signature) found k s 0 k_in ∙ ap (λ (c : Signed). c.signature) (sym is)

pub place_in : (found : List Signed) (k : ℕ) → k < length (signatures found) → k < length found
place_in found k l = let n = length-map found (λ (c : Signed). c.signature) in omega (arith, n, l)

-- classes stay where they are
placed_on : (classes more : List ℕ) (class : ℕ) (place : Option ℕ) → IsPlaced classes class place → IsPlaced (classes ++ more) class place
placed_on classes more class None h = h
placed_on classes more class (Some k) h =
    let n = length-append classes more in
    let k_in = h.0 in
    (omega (arith, n, k_in), get_or_append_left classes more 0 k h.0 ∙ h.1)

-- a null loop isn't wanted
pub null_unwanted : (r : Reached) (limit : Option Candidate) (e : ℕ) → (told_loop (reached_at r) e).signature ≡ 0 →
    is_wanted (reached_at r) limit e ≡ true → ⊥
null_unwanted r limit e null on = some (told_loop (reached_at r) e).signature
    (and_parts (is_sought limit _) _ (and_parts (is_between (reached_at r) e) _ on).1).1 null
  where
    some : (n : ℕ) → not (n == 0) ≡ true → n ≢ 0
    some n h e = grind (arith, nat_tests)

-- one that isn't null is, if it is sought
pub sought_wanted : (r : Reached) (limit : Option Candidate) (e : ℕ) → is_between (reached_at r) e ≡ true →
    is_sought limit (place_of (told_loop (reached_at r) e).candidate) ≡ true → (told_loop (reached_at r) e).signature ≢ 0 →
    is_wanted (reached_at r) limit e ≡ true
sought_wanted r limit e between sought some = and_from (is_between (reached_at r) e) _ between
    (and_from (is_sought limit (place_of (told_loop (reached_at r) e).candidate)) _ sought (not_zero (told_loop (reached_at r) e).signature some))
  where
    not_zero : (n : ℕ) → n ≢ 0 → not (n == 0) ≡ true
    not_zero n h = grind (arith, nat_tests)

-- ---- lists of loops, and of keys

module _ (r : Reached) (ties : Ties) (limit : Option Candidate) (found : List Signed) (keys : List Noted) (e : ℕ) (key : Key) (own : Candidate)
    (listed : AreListed r limit found keys) (key_is : IsKeyOf r e key) where
  abbrev x : Search
  x = reached_at r

  abbrev class_is : ℕ
  class_is = key_class r.ways.now r.kinds.now key

  -- the first of a listed loop and one of its class stands for both
  pub listed_stands : (lent : List Signed) (place : Option ℕ) (k : ℕ) (old s : Signed) → lent ≡ found →
      IsPlaced (signatures lent) class_is place → place ≡ Some k →
      old ≡ get_or found k old → e < edge_count x.mesh → is_between x e ≡ true → own ≡ (told_loop x e).candidate →
      is_sought limit (place_of own) ≡ true → s ≡ record old { candidate = s.candidate } →
      (s.candidate ≡ own) ⊎ (s.candidate ≡ old.candidate) → precedes ties s.candidate own ≡ true → precedes ties s.candidate old.candidate ≡ true →
      AreListed r limit (set found k s) keys × All (HasNoLater ties (set found k s)) found × HasNoLater ties (set found k s) (told_loop x e)
  listed_stands lent place k old s same at_place place_is is e_in between told sought rest either before before_old =
      let (k_in, class) : IsPlaced (signatures found) class_is (Some k) =
      subst (λ (fs : List Signed). IsPlaced (signatures fs) class_is (Some k)) same (subst (IsPlaced (signatures lent) class_is) place_is at_place) in
      let in_found = place_in found k k_in in
      let there = signature_there found k old in_found is in
      let (each, kept, here) = told_stands ties x limit found k e old s listed.each in_found is e_in between
      (subst (λ t. is_sought limit (place_of t) ≡ true) told sought) (sym key_is.class ∙ sym class ∙ there) rest
      (subst (λ t. (s.candidate ≡ t) ⊎ (s.candidate ≡ old.candidate)) told either) (subst (λ t. precedes ties s.candidate t ≡ true) told before) before_old in
      let as_before : signatures (set found k s) ≡ signatures found =
      map-set (λ (c : Signed). c.signature) found k s ∙ ap (set (signatures found) k) (ap (λ (c : Signed). c.signature) rest ∙ sym there)
      ∙ set-get_or (signatures found) k 0 in (
        record { each = each; noted = subst (λ classes. All (IsNoted r.ways.now r.kinds.now classes) keys) (sym as_before) listed.noted },
        kept,
        here,
      )

  -- a key whose class is null
  pub listed_null : (next : List Noted) → next ≡ keys ++ (record { key = key; place = None }) ∷ [] → class_is ≡ 0 → AreListed r limit found next
  listed_null next push null = record {
    each = listed.each;
    noted = subst (All (IsNoted r.ways.now r.kinds.now (signatures found))) (sym push)
        (All-push (IsNoted r.ways.now r.kinds.now (signatures found)) keys (record { key = key; place = None }) listed.noted null);
  }

  -- one more loop, and its key
  pub listed_pushed : (more : List Signed) (from signature many : ℕ) (next : List Noted) →
      more ≡ found ++ (record { candidate = own; from = from; signature = signature }) ∷ [] →
      next ≡ keys ++ (record { key = key; place = Some many }) ∷ [] → many ≡ length found → (signature ≡ class_is) × (class_is ≢ 0) →
      e < edge_count x.mesh → is_between x e ≡ true → own ≡ (told_loop x e).candidate → is_sought limit (place_of own) ≡ true → from ≡ x.base →
      AreListed r limit more next × All (HasNoLater ties more) found × HasNoLater ties more (told_loop x e)
  listed_pushed more from signature many next push push_key many_is (class, some) e_in between told sought base =
      let s : Signed = record { candidate = own; from = from; signature = signature } in
      let is : s ≡ told_loop x e =
      ap (λ t. record { candidate = t; from = from; signature = signature }) told
      ∙ ap (λ n. record { candidate = (told_loop x e).candidate; from = n; signature = signature }) base
      ∙ ap (λ n. record { candidate = (told_loop x e).candidate; from = x.base; signature = n }) (class ∙ key_is.class) in
      let on = sought_wanted r limit e between (subst (λ t. is_sought limit (place_of t) ≡ true) told sought) (λ null. some (key_is.class ∙ null)) in
      let (each, kept, here) = told_pushed ties x limit found more e s listed.each push is e_in on in
      let w = r.ways.now in
      let t = r.kinds.now in
      let classes = signatures found ++ signature ∷ [] in
      let all_are : signatures more ≡ classes = ap signatures push ∙ map-append (λ (c : Signed). c.signature) found (s ∷ []) in
      let n : length (signatures found) ≡ length found = length-map found (λ (c : Signed). c.signature) in
      let long : length classes ≡ length (signatures found) + 1 = length-append (signatures found) (signature ∷ []) in
      let at : slice_index classes many ≡ class_is =
      ap (slice_index classes) (many_is ∙ sym n) ∙ get_or-append_seam (signatures found) signature [] 0 ∙ class in
      let all : All (IsNoted w t classes) next = subst (All (IsNoted w t classes)) (sym push_key)
      (All-push (IsNoted w t classes) keys (record { key = key; place = Some many }) (All-weaker (IsNoted w t (signatures found)) (IsNoted w t classes)
      (λ d. placed_on (signatures found) (signature ∷ []) (key_class w t d.key) d.place) keys listed.noted) (omega (arith, many_is, n, long), at)) in
      (record { each = each; noted = subst (λ cs. All (IsNoted w t cs) next) (sym all_are) all }, kept, here)
