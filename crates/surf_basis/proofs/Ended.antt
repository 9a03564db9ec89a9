-- Vertices that are marked: the bases of candidates, and ends of edges with signatures.
use Rattle.surf_basis.proofs.Common.{HasMarkedEnd, HasSignedEnds, IsBusierEnd, HasBases, ◌≡◌, ◌≢◌, ℕ, ◌<◌, Bool, true, false, List, length, get_or, slice_index, Contains, All, sym, ap, ◌∙◌, subst, arith, inl, inr, ◌⊎◌, refl, slice_index_or, IsTrue, get_or_default, Mesh, edge_count, ends, IsSurface, AreBases, AreDegreesTo, degree_in, ends_in, SignTables, Signed, AreMarkedIn, by_degree, is_signed, is_marked, ends_inside}

-- where what is marked stays so, so does an end of an edge
pub end_stays : (mesh : Mesh) (old new : List Bool) (e : ℕ) →
    ((v : ℕ) → slice_index_or old v false ≡ true → slice_index_or new v false ≡ true) → HasMarkedEnd mesh old e →
    HasMarkedEnd mesh new e
end_stays mesh old new e stay h = elim h [
  | inl low ↦ inl (stay (ends mesh e).0 low)
  | inr high ↦ inr (stay (ends mesh e).1 high)
]

-- of a pair and the same pair turned, one is marked of both or of neither
pub either_marked : (marked : List Bool) (low high : ℕ) (p : ℕ × ℕ) → (p ≡ (low, high)) ⊎ (p ≡ (high, low)) →
    (slice_index_or marked p.0 false ≡ true) ⊎ (slice_index_or marked p.1 false ≡ true) →
    (slice_index_or marked low false ≡ true) ⊎ (slice_index_or marked high false ≡ true)
either_marked marked low high p or_turned one = elim or_turned [
  | inl same ↦ subst (λ (q : ℕ × ℕ). (slice_index_or marked q.0 false ≡ true) ⊎ (slice_index_or marked q.1 false ≡ true)) same one
  | inr turned ↦ elim (subst (λ (q : ℕ × ℕ). (slice_index_or marked q.0 false ≡ true) ⊎ (slice_index_or marked q.1 false ≡ true)) turned one) [
    | inl first ↦ inr first
    | inr second ↦ inl second
  ]
]

-- the list of what is marked as bases
pub marked_bases : (mesh : Mesh) (marked : List Bool) (list : List ℕ) → AreMarkedIn marked (length marked) list →
    length marked ≡ mesh.vertices → AreBases mesh list
marked_bases mesh marked list h n = record {
  inside = λ k l. let i = h.inside k l in omega (arith, i, n);
  rise = h.rise;
}

pub bases_marked : (marked : List Bool) (list : List ℕ) (kept : List Signed) → AreMarkedIn marked (length marked) list →
    All (λ s. s.candidate.base < length marked) kept → All (λ s. slice_index_or marked s.candidate.base false ≡ true) kept →
    HasBases list kept
bases_marked marked list kept h inside on k s l = h.all (get_or kept k s).candidate.base (inside k s l) (on k s l)

-- what is marked is listed
pub marks_listed : (marked table : List Bool) (list : List ℕ) → table ≡ marked → AreMarkedIn table (length table) list →
    (u : ℕ) → u < length marked → slice_index_or marked u false ≡ true → Contains list u
marks_listed marked table list same h u u_in on =
    let m : length table ≡ length marked = ap (λ (ms : List Bool). length ms) same in
    h.all u (omega (arith, u_in, m)) (subst (λ (ms : List Bool). slice_index_or ms u false ≡ true) (sym same) on)

-- what all that is marked is, all that is listed is
pub each_listed : (P : ℕ → Type 0) (marked table : List Bool) (list : List ℕ) → table ≡ marked →
    AreMarkedIn table (length table) list → ((v : ℕ) → IsTrue (is_marked marked v) → P v) → All P list
each_listed P marked table list same h each k d l =
    subst P (get_or_default list k 0 d l) (each (slice_index list k)
    (subst (λ (ms : List Bool). IsTrue (is_marked ms (slice_index list k))) same (h.only k l)))

-- the ends that are marked are listed
pub ends_listed : (mesh : Mesh) → IsSurface mesh → (s : SignTables) (marked table : List Bool) (list : List ℕ) →
    table ≡ marked → length marked ≡ mesh.vertices →
    ((e : ℕ) → e < edge_count mesh → slice_index s.signatures e ≢ 0 → HasMarkedEnd mesh marked e) →
    AreMarkedIn table (length table) list → HasSignedEnds mesh s list
ends_listed mesh surface s marked table list same n on h e e_in some =
    let inside = ends_in mesh surface e e_in in
    let (low_in, high_in) = inside in
    elim (on e e_in some) [
      | inl low ↦ inl (marks_listed marked table list same h (ends mesh e).0 (omega (arith, low_in, n)) low)
      | inr high ↦ inr (marks_listed marked table list same h (ends mesh e).1 (omega (arith, high_in, n)) high)
    ]

-- where tables have the same for two vertices, they put them in one order
same_order : (f g : ℕ → ℕ) (p : ℕ × ℕ) → f p.0 ≡ g p.0 → f p.1 ≡ g p.1 → by_degree f p ≡ by_degree g p
same_order f g p first second = rw (first, second) refl

-- where a table has the degrees, the busier end by it is the one by the degrees
pub busier_by_table : (mesh : Mesh) → IsSurface mesh → (s : SignTables) (degrees : List ℕ) →
    AreDegreesTo mesh (is_signed s) (edge_count mesh) degrees → (v : ℕ) → IsBusierEnd mesh s (slice_index degrees) v →
    IsBusierEnd mesh s (degree_in mesh (is_signed s)) v
busier_by_table mesh surface s degrees are v (e, e_in, some, at) =
    let (low_in, high_in) = ends_inside mesh surface e e_in (ends mesh e) refl in
    let same = same_order (slice_index degrees) (degree_in mesh (is_signed s)) (ends mesh e) (are (ends mesh e).0 low_in) (are (ends mesh e).1 high_in) in
    (e, e_in, some, sym (ap (λ (q : ℕ × ℕ). q.1) same) ∙ at)
