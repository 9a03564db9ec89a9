-- What is shown in the end: by labels at edges, round by round, and of the places.
use Rattle.surf_surfaces.proofs.Common.{◌≡◌, ℕ, ◌<◌, ◌≤◌, ◌⊎◌, ◌^◌, min, max, bit_xor, List, length, get_or, sym, ap, ◌∙◌, subst, arith, inl, inr, cases_lt, map-map, get_or-map-range_with_len, length-map-range_with_len, xor_lt, take, numbers, Spanned, Split, edge_signature, edge_count, ends, IsSurface, slice_index}
use Rattle.surf_surfaces.proofs.meshes.CellLaws.{surfaces_are_cells}
use Rattle.surf_base.specs.Tables.{at}
use Rattle.surf_choice.specs.Candidates.{signatures}
use Rattle.surf_sheetorder.specs.Searches.{ListedLoop}
use Rattle.surf_sheetorder.specs.Needs.{IsSumOfFirst}
use Rattle.surf_sheetorder.proofs.Needs.{labelled_edges_show_needs, loops_have_places_of_basis}
use Rattle.surf_shown.specs.Shown.{AreFirstTo, AreLabels, AreShownTo, HavePlaces, IsClaim, IsServedEdge, IsSignedBy, claimed, label_at, labelled_class, loop_of}
use Rattle.surf_shown.specs.declared.record.Claim.{Claim}
use Rattle.surf_shown.specs.declared.record.Labels.{Labels}
use Rattle.surf_shown.proofs.PastLoops.{as_many, sum_of_loops}

-- the signature of an edge
signature_at : (c : Claim) (d : Split) (e : ℕ) → IsSignedBy c d → e < edge_count c.mesh.now →
    slice_index c.signatures.now.sets e ≡ edge_signature c.mesh.now d e
signature_at c d e signed l =
    ap (λ xs. get_or xs e 0) signed.signatures
    ∙ get_or-map-range_with_len (edge_signature c.mesh.now d) 0 (edge_count c.mesh.now) e e 0 l (omega arith)

-- what was shown before a round is shown at each vertex when it begins
pub shown_begun : (c : Claim) (from : ℕ) (table : List ℕ) → ((v : ℕ) → v < c.mesh.now.vertices → at table v ≡ from) →
    AreFirstTo c from → AreShownTo c table
shown_begun c from table all first d signed v i v_in i_to i_in =
    let here : at table v ≡ from = all v v_in in
    λ test tells walk closed over on. first d signed i (omega (arith, here, i_to)) i_in test tells walk closed on

pub first_more : (c : Claim) (l : Labels) (from to : ℕ) (table : List ℕ) → IsSurface c.mesh.now → AreFirstTo c from →
    AreShownTo c table → ((e : ℕ) → e < edge_count c.mesh.now → IsServedEdge c l from to table e) → AreFirstTo c to
first_more c l from to table surface first shown served d signed i i_to i_in = elim (cases_lt i from) [
  | inl low ↦ first d signed i low i_in
  | inr high ↦
      labelled_edges_show_needs c.mesh.now d c.lengths.now (claimed c) (label_at l) i surface
      (λ e e_in.
      let (n, sum, there) = served e e_in in
      let inside = (surfaces_are_cells c.mesh.now surface).complex.primal_ends e e_in in (
        n,
        subst (λ s. IsSumOfFirst (claimed c) n
            (bit_xor (bit_xor (label_at l (ends c.mesh.now e).0) (label_at l (ends c.mesh.now e).1)) s))
            (signature_at c d e signed e_in) sum,
        λ less. elim (there i (omega (arith, high)) i_to less) [
          | inl one ↦ inl (shown d signed (ends c.mesh.now e).0 i inside.0 one i_in)
          | inr other ↦ inr (shown d signed (ends c.mesh.now e).1 i inside.1 other i_in)
        ],
      ))
]

pub all_first : (c : Claim) (to : ℕ) → IsSurface c.mesh.now → IsClaim c → to ≡ length c.loops.now → AreFirstTo c to →
    HavePlaces c
all_first c to surface claim all first trees chosen basis is =
    let (d, signed) = claim.signed in
    let many = as_many c.loops.now in
    sym (map-map (λ (x : ListedLoop). x.place) loop_of c.loops.now)
    ∙ loops_have_places_of_basis c.mesh.now d c.lengths.now (claimed c) trees basis surface signed.split claim.positive
    (claim.loops d signed) (λ i l. first d signed i (omega (arith, l, many, all)) l) chosen is

-- ---- edges that are served

pub class_at_label : (c : Claim) (l : Labels) (e : ℕ) → AreLabels c l → IsSurface c.mesh.now → e < edge_count c.mesh.now →
    (((ends c.mesh.now e).0 < length l.numbers.now) × ((ends c.mesh.now e).1 < length l.numbers.now))
    × ((at l.numbers.now (ends c.mesh.now e).0 < length l.classes.now)
    × (at l.numbers.now (ends c.mesh.now e).1 < length l.classes.now))
class_at_label c l e are surface e_in =
    let inside = (surfaces_are_cells c.mesh.now surface).complex.primal_ends e e_in in
    let one : (ends c.mesh.now e).0 < length l.numbers.now = (let a = inside.0 in omega (arith, a, are.count)) in
    let two : (ends c.mesh.now e).1 < length l.numbers.now = (let a = inside.1 in omega (arith, a, are.count)) in
    ((one, two), (are.inside (ends c.mesh.now e).0 0 one, are.inside (ends c.mesh.now e).1 0 two))

-- there is a signature of each edge
pub signed_edge : (c : Claim) (e : ℕ) → IsClaim c → e < edge_count c.mesh.now → e < length c.signatures.now.sets
signed_edge c e claim e_in =
    let (d, signed) = claim.signed in
    let many = ap (λ (xs : List ℕ). length xs) signed.signatures
    ∙ length-map-range_with_len (edge_signature c.mesh.now d) 0 (edge_count c.mesh.now) in
    omega (arith, e_in, many)

pub labelled_small : (c : Claim) (l : Labels) (e : ℕ) → IsClaim c → AreLabels c l → IsSurface c.mesh.now →
    e < edge_count c.mesh.now → labelled_class c l e < 2 ^ c.ranks.now.width
labelled_small c l e claim are surface e_in =
    let w = c.ranks.now.width in
    let there = (class_at_label c l e are surface e_in).1 in
    let u = label_at l (ends c.mesh.now e).0 in
    let v = label_at l (ends c.mesh.now e).1 in
    xor_lt w (bit_xor u v) (slice_index c.signatures.now.sets e)
    (xor_lt w u v (are.small (at l.numbers.now (ends c.mesh.now e).0) 0 there.0)
    (are.small (at l.numbers.now (ends c.mesh.now e).1) 0 there.1))
    (claim.small e 0 (signed_edge c e claim e_in))

pub served_edge : (c : Claim) (l : Labels) (from to n : ℕ) (table : List ℕ) (e : ℕ) →
    Spanned numbers (signatures (take n c.loops.now)) (labelled_class c l e) →
    (min n to ≤ from) ⊎ (min n to ≤ max (at table (ends c.mesh.now e).0) (at table (ends c.mesh.now e).1)) →
    IsServedEdge c l from to table e
served_edge c l from to n table e sum enough = (
  n,
  sum_of_loops c.loops.now n (labelled_class c l e) sum,
  λ i low high less.
      let a = at table (ends c.mesh.now e).0 in
      let b = at table (ends c.mesh.now e).1 in
      elim enough [
        | inl none ↦ absurd (omega (arith, none, low, high, less))
        | inr some ↦ elim (cases_lt i a) [
          | inl one ↦ inl one
          | inr past ↦ inr (omega (arith, some, past, high, less))
        ]
      ],
)
