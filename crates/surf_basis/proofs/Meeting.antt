-- Lists of vertices that every closed walk meets which isn't null.
use Rattle.surf_basis.proofs.Common.{tree_of, LoopTables, AreCutVertices, HasSignedEnds, IsDividedBy, ℕ, List, sym, ◌∙◌, inl, inr, Mesh, ends, IsSurface, SignTables, cotree_of, is_among, AreSigned, among_contained, Contains-permutation, IsPermutation}
use Rattle.surf_search.proofs.Common.{MeetsAll}
use Rattle.surf_finder.proofs.Searched.{among_contains}
use Rattle.surf_surfaces.proofs.walks.SignedEndsLaws.{signed_ends_meet_all}
use Rattle.surf_opening.proofs.cuts.OffTheCutMarked.{walks_are_null_or_meet_marked}
use Rattle.surf_finder.proofs.Climbed.{at_edge}

-- a list with an end of each edge with a signature
pub ends_meet : (mesh : Mesh) → IsSurface mesh → (s : SignTables) (width : ℕ) → AreSigned mesh s width → (vs : List ℕ) →
    HasSignedEnds mesh s vs → MeetsAll mesh (is_among vs)
ends_meet mesh surface s width signed vs has =
    signed_ends_meet_all mesh signed.split (is_among vs) surface signed.is_split
    (λ e e_in some. elim (has e e_in (λ none. some (sym (at_edge mesh signed.split s e signed.signatures e_in) ∙ none))) [
      | inl low ↦ inl (among_contained vs (ends mesh e).0 low)
      | inr high ↦ inr (among_contained vs (ends mesh e).1 high)
    ])

-- the vertices of the cut
pub cut_meets : (mesh : Mesh) → IsSurface mesh → (t : LoopTables) → IsDividedBy mesh t → (vs : List ℕ) →
    AreCutVertices mesh t vs → MeetsAll mesh (is_among vs)
cut_meets mesh surface t divided vs cut walk closed some =
    elim (walks_are_null_or_meet_marked mesh (tree_of t.tree) (cotree_of t.cotree) (is_among vs) walk surface divided.divided
    cut.marked closed) [
      | inl null ↦ absurd (some null)
      | inr there ↦ there
    ]

-- what meets all does so in whatever order
pub meets_in_any_order : (mesh : Mesh) (vs ws : List ℕ) → IsPermutation vs ws → MeetsAll mesh (is_among vs) →
    MeetsAll mesh (is_among ws)
meets_in_any_order mesh vs ws permuted meets walk closed some =
    let (v, on, here) = meets walk closed some in
    (v, on, among_contained ws v (Contains-permutation vs ws v permuted (among_contains vs v here)))
