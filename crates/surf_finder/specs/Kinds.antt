-- The kinds of edges, by their signatures.
use Rattle.std.specs.Prelude.{ℕ, ◌≡◌, ◌<◌, List, length, map, slice_index}
use Rattle.surf_finder.specs.Signing.{SignTables}

-- for each edge the number of its kind, and for each kind the signature of its edges
pub record KindTables : Type 0 where
  pub kinds : List ℕ
  pub signatures : List ℕ

-- the signature that an edge has by its kind
abbrev pub signature_at : KindTables → ℕ → ℕ
signature_at t e = slice_index t.signatures (slice_index t.kinds e)

-- the signatures of all edges by their kinds, beside the edges in neither tree
abbrev pub signs_by : List ℕ → KindTables → SignTables
signs_by left t = record { left = left; signatures = map (slice_index t.signatures) t.kinds }

-- each edge has its signature by its kind, and kind 0 is that of the edges that have none
pub record AreKinds (s : SignTables) (t : KindTables) : Type 0 where
  pub count : length t.kinds ≡ length s.signatures
  pub kind_in : (e : ℕ) → e < length s.signatures → slice_index t.kinds e < length t.signatures
  pub same : (e : ℕ) → e < length s.signatures → signature_at t e ≡ slice_index s.signatures e
  pub none : slice_index t.signatures 0 ≡ 0
  pub plain : (e : ℕ) → e < length s.signatures → slice_index s.signatures e ≡ 0 → slice_index t.kinds e ≡ 0
