-- Circles of places, one for each bucket.
use Rattle.std.specs.Prelude.{ℕ, ◌<◌, ◌≤◌, ◌≡◌, ◌≢◌, ◌+◌, ◌^◌, ◌%◌, nat_lt, if◌then◌else◌, List, get_or}

-- the key of a place that has none
abbrev pub nothing : ℕ
nothing = 18446744073709551615

-- what a node has, of a table that has some other node past its end
abbrev pub of_node : {A : Type 0} → (A → ℕ) → A → List A → ℕ → ℕ
of_node field blank nodes i = field (get_or nodes i blank)

-- the bucket of a key
abbrev pub bucket : ℕ → ℕ → ℕ
bucket places key = places + key % 4096

-- the bucket in whose circle a node stands, if it stands in one
abbrev pub home : ℕ → (ℕ → ℕ) → ℕ → ℕ
home places key i = if nat_lt i places then bucket places (key i) else i

-- Each node is followed by one and follows one, and stands in a circle of nodes that have one home. A place without a
-- key stands alone. Ranks fall from each place with a key to the place before it, so that each circle of such places
-- leads to a bucket.
pub record AreInCircles (places count : ℕ) (key next prev : ℕ → ℕ) : Type 0 where
  pub next_in : (i : ℕ) → i < count → next i < count
  pub prev_in : (i : ℕ) → i < count → prev i < count
  pub back : (i : ℕ) → i < count → prev (next i) ≡ i
  pub forth : (i : ℕ) → i < count → next (prev i) ≡ i
  pub alone : (i : ℕ) → i < places → key i ≡ nothing → next i ≡ i
  pub filed : (i : ℕ) → i < count → home places key (next i) ≡ home places key i
  pub rank : ℕ → ℕ
  pub falls : (i : ℕ) → i < places → key i ≢ nothing → prev i < places → rank (prev i) < rank i

-- the nodes of the places and, behind them, of the buckets
pub record AreCircles (places count : ℕ) (key next prev : ℕ → ℕ) : Type 0 where
  pub all : count ≡ places + 4096
  pub few : places < 2 ^ 31
  pub linked : AreInCircles places count key next prev

-- a node stands alone, those before and behind it follow one another, and all others stay
pub record IsTakenOut (next prev : ℕ → ℕ) (p : ℕ) (next2 prev2 : ℕ → ℕ) : Type 0 where
  pub next_here : next2 p ≡ p
  pub next_before : prev p ≢ p → next2 (prev p) ≡ next p
  pub next_other : (i : ℕ) → i ≢ p → i ≢ prev p → next2 i ≡ next i
  pub prev_here : prev2 p ≡ p
  pub prev_behind : next p ≢ p → prev2 (next p) ≡ prev p
  pub prev_other : (i : ℕ) → i ≢ p → i ≢ next p → prev2 i ≡ prev i

-- a node stands between another one and the one behind that, and all others stay
pub record IsPutBehind (next prev : ℕ → ℕ) (s p : ℕ) (next2 prev2 : ℕ → ℕ) : Type 0 where
  pub next_there : next2 s ≡ p
  pub next_here : next2 p ≡ next s
  pub next_other : (i : ℕ) → i ≢ p → i ≢ s → next2 i ≡ next i
  pub prev_here : prev2 p ≡ s
  pub prev_behind : next s ≢ p → prev2 (next s) ≡ p
  pub prev_other : (i : ℕ) → i ≢ p → i ≢ next s → prev2 i ≡ prev i

-- the bucket of a key stands alone
abbrev pub IsEmptyBucket : ℕ → (ℕ → ℕ) → ℕ → Type 0
IsEmptyBucket places next key = next (bucket places key) ≡ bucket places key

-- the first place in the first bucket that doesn't stand alone, of those of the keys from `now` on as far as `last`
pub record IsFirstFull (places : ℕ) (next : ℕ → ℕ) (now last place key : ℕ) : Type 0 where
  pub from : now ≤ key
  pub to : key ≤ last
  pub full : next (bucket places key) ≢ bucket places key
  pub first : place ≡ next (bucket places key)
  pub before : (k : ℕ) → now ≤ k → k < key → IsEmptyBucket places next k
