-- What a walk over rows of numbers reaches.
use Rattle.std.specs.Prelude.{◌≡◌, ℕ, ◌+◌, ◌<◌, ◌≤◌, Bool, true, false, not, List, [], length, get_or, ◌⊎◌, count_by}
use Rattle.surf_surfaces.specs.Joined.{Joined}

-- a number stands in the row of another
abbrev pub Leads : List (List ℕ) → ℕ → ℕ → Type 0
Leads rows a b = (m : ℕ) × (m < length (get_or rows a [])) × (get_or (get_or rows a []) m 0 ≡ b)

abbrev pub marked : List Bool → ℕ → Bool
marked seen j = get_or seen j false

abbrev pub unmarked : List Bool → ℕ
unmarked seen = count_by not seen

-- the first k numbers of a row are marked, and those that weren't before are listed
pub record Visits (row : List ℕ) (k : ℕ) (seen_before : List Bool) (listed_before : List ℕ) (seen : List Bool)
    (listed : List ℕ) : Type 0 where
  pub size : length seen ≡ length seen_before
  pub longer : length listed_before ≤ length listed
  pub kept : (i : ℕ) → i < length listed_before → get_or listed i 0 ≡ get_or listed_before i 0
  pub counted : length listed + unmarked seen ≡ length listed_before + unmarked seen_before
  pub stay : (j : ℕ) → marked seen_before j ≡ true → marked seen j ≡ true
  pub all : (i : ℕ) → i < k → marked seen (get_or row i 0) ≡ true
  pub only : (j : ℕ) → marked seen j ≡ true →
      (marked seen_before j ≡ true) ⊎
      (((i : ℕ) × (i < k) × (get_or row i 0 ≡ j)) × ((i : ℕ) × (i < length listed) × (get_or listed i 0 ≡ j)))
  pub listed_marked : ((i : ℕ) → i < length listed_before → marked seen_before (get_or listed_before i 0) ≡ true) →
      (i : ℕ) → i < length listed → marked seen (get_or listed i 0) ≡ true

-- exactly what a chain leads to is marked
pub record IsReach (rows : List (List ℕ)) (from : ℕ) (seen : List Bool) : Type 0 where
  pub size : length seen ≡ length rows
  pub sound : (j : ℕ) → marked seen j ≡ true → Joined (Leads rows) from j
  pub complete : (j : ℕ) → Joined (Leads rows) from j → marked seen j ≡ true
