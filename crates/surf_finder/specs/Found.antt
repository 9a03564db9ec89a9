-- Loops that searches find, as signed candidates.
use Rattle.std.specs.Prelude.{ℕ, ◌≡◌, ◌≢◌, ◌<◌, ◌+◌, ◌++◌, nat_le, ◌^◌, ◌==◌, ◌&&◌, ◌||◌, true, false, fold, not, min, nat_lt, Bool, IsTrue, bit_xor, List, [], ◌∷◌, All, Contains, length, slice_index, Option, Some, None, if◌then◌else◌}
use Rattle.surf_graphs.specs.Cells.{Split}
use Rattle.surf_graphs.specs.Trees.{Tree}
use Rattle.surf_surfaces.specs.Mesh.{Mesh}
use Rattle.surf_surfaces.specs.Surface.{edge_count, ends}
use Rattle.surf_surfaces.specs.Walk.{edge_length}
use Rattle.surf_surfaces.specs.Class.{class_of}
use Rattle.surf_surfaces.specs.Loop.{loop_walk, loop_length}
use Rattle.surf_surfaces.specs.Choice.{Trees, AreChosen}
use Rattle.surf_surfaces.specs.FewBases.{place_at, least_base}
use Rattle.surf_near.specs.Near.{NearTables, AreNearTables, is_near}
use Rattle.surf_choice.specs.declared.candidate.Candidate.{Candidate}
use Rattle.surf_choice.specs.declared.candidate.Signed.{Signed}
use Rattle.surf_choice.specs.Candidates.{earlier, signatures}
use Rattle.surf_choice.specs.Places.{place_of, is_sought}
use Rattle.surf_finder.specs.declared.reached.Reached.{Reached}
use Rattle.surf_finder.specs.declared.rises.Rise.{Rise}
use Rattle.surf_finder.specs.declared.surface.SignedSurface.{SignedSurface}
use Rattle.surf_finder.specs.declared.told_loops.Ties.{Ties}
use Rattle.surf_finder.specs.declared.told_loops.Ties.TheVariants.{LesserBase, LesserEdge}
use Rattle.surf_finder.specs.Signing.{SignTables, AreSignatures}
use Rattle.surf_finder.specs.Keys.{IsKey, IsNoted, key_class}
use Rattle.surf_finder.specs.Kinds.{AreKinds}
use Rattle.surf_finder.specs.Rises.{AreStarts}
use Rattle.surf_finder.specs.Ways.{WayTables, class_at}
use Rattle.surf_finder.specs.declared.keys.Key.{Key}
use Rattle.surf_finder.specs.declared.keys.Noted.{Noted}

-- ---- what a search says of an edge

-- a surface with the signatures of its edges, and the tables of a search from a base
pub record Search : Type 0 where
  pub mesh : Mesh
  pub lengths : List ℕ
  pub signs : SignTables
  pub near : NearTables
  pub ways : WayTables
  pub base : ℕ

-- a surface with lengths and the signatures of its edges, and the lengths before any vertex was barred
pub record SurfaceTables : Type 0 where
  pub mesh : Mesh
  pub lengths : List ℕ
  pub signs : SignTables
  pub given : List ℕ

abbrev pub surface_of : SignedSurface → SurfaceTables
surface_of s = record { mesh = s.mesh.now; lengths = s.lengths.now; signs = s.signatures.now; given = s.lengths.now }

abbrev pub search_of : Mesh → List ℕ → SignTables → NearTables → WayTables → ℕ → Search
search_of mesh lengths s t w base =
    record { mesh = mesh; lengths = lengths; signs = s; near = t; ways = w; base = base }

-- the search that has reached so much, from the base of its tables
abbrev pub reached_at : Reached → Search
reached_at r =
    search_of r.surface.now.mesh.now r.links.now.lengths r.surface.now.signatures.now r.desk.now r.ways.now r.desk.now.base

-- there is an entry for each vertex and for each edge, and a class for each vertex that was reached
pub record IsReady (x : Search) : Type 0 where
  pub made : AreNearTables x.mesh x.near
  pub numbers : length x.ways.numbers ≡ x.mesh.vertices
  pub signs : length x.signs.signatures ≡ edge_count x.mesh
  pub fits : (v : ℕ) → v < x.mesh.vertices → IsTrue (is_near x.near v) → slice_index x.near.distances v < 2 ^ 62
  pub numbered : (v : ℕ) → v < x.mesh.vertices → IsTrue (is_near x.near v) →
      slice_index x.ways.numbers v < length x.ways.classes

-- both ends of an edge were reached
abbrev pub is_between : Search → ℕ → Bool
is_between x e = is_near x.near (ends x.mesh e).0 && is_near x.near (ends x.mesh e).1

-- the loop of an edge: its length and its least base, and the sum of its own signature and the classes of the two ways
abbrev pub told_loop : Search → ℕ → Signed
told_loop x e =
    let u = (ends x.mesh e).0 in
    let v = (ends x.mesh e).1 in
    record {
      candidate = record {
        length = slice_index x.near.distances u + edge_length x.lengths e + slice_index x.near.distances v;
        base = min (slice_index x.near.leasts u) (slice_index x.near.leasts v);
        edge = e;
      };
      from = x.base;
      signature = bit_xor (bit_xor (class_at x.ways u) (slice_index x.signs.signatures e)) (class_at x.ways v);
    }

-- both ends of the edge were reached, and its loop isn't null and comes before the limit
abbrev pub is_wanted : Search → Option Candidate → ℕ → Bool
is_wanted x limit e =
    is_between x e && (is_sought limit (place_of (told_loop x e).candidate) && not ((told_loop x e).signature == 0))

-- no limit makes the loop of an edge wanted
abbrev pub IsUnwanted : Search → ℕ → Type 0
IsUnwanted x e = (limit : Option Candidate) → is_wanted x limit e ≡ true → ⊥

-- the greater end of an edge was reached, and the ways to its ends differ in class by their numbers or it has a signature
abbrev pub may_matter : Search → Rise → Bool
may_matter x rise =
    is_near x.near rise.high && not ((slice_index x.signs.signatures rise.edge == 0)
    && (slice_index x.ways.numbers rise.low == slice_index x.ways.numbers rise.high))

-- the tables of what was reached are ready, and those of its surface
pub record IsSearched (r : Reached) : Type 0 where
  pub ready : IsReady (reached_at r)
  pub links : r.links.now.mesh ≡ r.surface.now.mesh.now
  pub kinds : AreKinds r.surface.now.signatures.now r.kinds.now
  pub starts : AreStarts r.surface.now.mesh.now r.rises.now

-- a vertex that was reached
abbrev pub IsReachedAt : Reached → ℕ → Type 0
IsReachedAt r v = (v < r.surface.now.mesh.now.vertices) × IsTrue (is_near r.desk.now v)

-- a key is that of the loop of an edge, and tells its class
pub record IsKeyOf (r : Reached) (e : ℕ) (key : Key) : Type 0 where
  pub numbers : IsKey r.ways.now r.kinds.now key
  pub class : key_class r.ways.now r.kinds.now key ≡ (told_loop (reached_at r) e).signature

-- a candidate is what is told of an edge whose loop is wanted
pub record IsTold (x : Search) (limit : Option Candidate) (c : Signed) : Type 0 where
  pub edge_in : c.candidate.edge < edge_count x.mesh
  pub wanted : is_wanted x limit c.candidate.edge ≡ true
  pub told : c ≡ told_loop x c.candidate.edge

-- the loops of the edges with a lesser end are listed
abbrev pub ListsAt : Search → Option Candidate → ℕ → List Signed → Type 0
ListsAt x limit v found = (e : ℕ) → e < edge_count x.mesh → (ends x.mesh e).0 ≡ v → is_wanted x limit e ≡ true →
    Contains found (told_loop x e)

-- the first of two candidates of one length, by the lesser base or by the lesser edge
abbrev pub is_first : Ties → Candidate → Candidate → Bool
is_first LesserBase c d = nat_lt c.base d.base || ((c.base == d.base) && nat_le c.edge d.edge)
is_first LesserEdge c d = nat_le c.edge d.edge

-- one candidate is no later than another
abbrev pub precedes : Ties → Candidate → Candidate → Bool
precedes ties c d = nat_lt c.length d.length || ((c.length == d.length) && is_first ties c d)

-- candidates are told, and what was noted of keys is right
pub record AreListed (r : Reached) (limit : Option Candidate) (found : List Signed) (keys : List Noted) : Type 0 where
  pub each : All (IsTold (reached_at r) limit) found
  pub noted : All (IsNoted r.ways.now r.kinds.now (signatures found)) keys

-- a loop is listed that has the class of another and is no later
pub record HasNoLater (ties : Ties) (found : List Signed) (s : Signed) : Type 0 where
  pub loop : Signed
  pub listed : Contains found loop
  pub class : loop.signature ≡ s.signature
  pub no_later : IsTrue (precedes ties loop.candidate s.candidate)

-- the loops of the edges with a lesser end are listed, or others of their classes that are no later
abbrev pub CoversAt : Ties → Search → Option Candidate → ℕ → List Signed → Type 0
CoversAt ties x limit v found = (e : ℕ) → e < edge_count x.mesh → (ends x.mesh e).0 ≡ v → is_wanted x limit e ≡ true →
    HasNoLater ties found (told_loop x e)

-- candidates are told, and they are enough for the edges whose lesser ends were settled
pub record AreFirstTold (ties : Ties) (x : Search) (limit : Option Candidate) (found : List Signed) : Type 0 where
  pub each : All (IsTold x limit) found
  pub all : (i : ℕ) → i < length x.near.settled → CoversAt ties x limit (slice_index x.near.settled i) found

-- ---- loops by trees of shortest walks

-- a candidate is the loop of an edge at the vertex where it was found, with its least base and its class
pub record IsFound (mesh : Mesh) (lengths : List ℕ) (trees : ℕ → Tree) (d : Split) (c : Signed) : Type 0 where
  pub from_in : c.from < mesh.vertices
  pub edge_in : c.candidate.edge < edge_count mesh
  pub size : c.candidate.length ≡ loop_length mesh lengths (trees c.from) c.candidate.edge
  pub base : c.candidate.base ≡ least_base mesh trees c.from c.candidate.edge
  pub signature : c.signature ≡ class_of mesh d (loop_walk mesh (trees c.from) c.candidate.edge)

-- candidates are the loops at a vertex that aren't null and come before a limit
pub record AreFoundBy (mesh : Mesh) (lengths : List ℕ) (trees : ℕ → Tree) (d : Split) (limit : Option Candidate) (z : ℕ)
    (found : List Signed) : Type 0 where
  pub each : All (IsFound mesh lengths trees d) found
  pub here : All (λ c. c.from ≡ z) found
  pub sooner : All (λ c. IsTrue (is_sought limit (place_of c.candidate))) found
  pub some : All (λ c. c.signature ≢ 0) found
  pub all : (e : ℕ) → e < edge_count mesh → class_of mesh d (loop_walk mesh (trees z) e) ≢ 0 →
      IsTrue (is_sought limit (place_at mesh lengths trees z e)) →
      (c : Signed) × Contains found c × (c.from ≡ z) × (c.candidate.edge ≡ e)

-- so they are by all trees that show the choice
abbrev pub AreFound : Mesh → List ℕ → SignTables → Option Candidate → ℕ → List Signed → Type 0
AreFound mesh lengths s limit z found = (trees : ℕ → Trees) → AreChosen mesh lengths trees → (d : Split) →
    AreSignatures mesh d s → AreFoundBy mesh lengths (λ x. (trees x).tree) d limit z found

-- candidates are loops at a vertex that aren't null and come before a limit: each that isn't listed has a listed one of
-- its class that is no later
pub record AreFirstFound (ties : Ties) (mesh : Mesh) (lengths : List ℕ) (s : SignTables) (limit : Option Candidate) (z : ℕ)
    (found : List Signed) : Type 0 where
  pub left : List Signed
  pub are : AreFound mesh lengths s limit z (left ++ found)
  pub no_later : All (HasNoLater ties found) left

-- ---- what is kept of them

-- a list has a vertex
abbrev pub is_among : List ℕ → ℕ → Bool
is_among [] v = false
is_among (x ∷ xs) v = (x == v) || is_among xs v

-- ---- the first of them

-- the first of a candidate, if there is one, and a loop
abbrev pub earlier_of : Option Candidate → Signed → Option Candidate
earlier_of None s = Some s.candidate
earlier_of (Some c) s = if earlier c s.candidate then Some c else Some s.candidate

-- the first of a candidate and some loops
abbrev pub first_from : Option Candidate → List Signed → Option Candidate
first_from first found = fold earlier_of first found

-- there is a candidate that comes before another
abbrev pub is_earlier : Option Candidate → Candidate → Bool
is_earlier None d = false
is_earlier (Some c) d = earlier c d

-- the first of a candidate and the loop of an edge, if it is wanted
abbrev pub first_with : Search → Option Candidate → Option Candidate → ℕ → Option Candidate
first_with x limit first e = if is_wanted x limit e then earlier_of first (told_loop x e) else first

-- the first of a limit and the wanted loops of the edges whose lesser ends are the first so many vertices that were settled
pub record IsFirstTold (x : Search) (limit : Option Candidate) (count : ℕ) (first : Option Candidate) : Type 0 where
  pub found : List Signed
  pub each : All (IsTold x limit) found
  pub all : (i : ℕ) → i < count → ListsAt x limit (slice_index x.near.settled i) found
  pub is_first : first ≡ first_from limit found

-- the first of a limit and the loops at a vertex that aren't null and come before it
pub record IsFirstAt (s : SurfaceTables) (limit : Option Candidate) (z : ℕ) (first : Option Candidate) : Type 0 where
  pub found : List Signed
  pub are : AreFound s.mesh s.lengths s.signs limit z found
  pub is_first : first ≡ first_from limit found
