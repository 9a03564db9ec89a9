-- What a table of signatures has for an edge.
use Rattle.surf_finder.proofs.Common.{◌≡◌, ℕ, ◌<◌, List, slice_index, ap, ◌∙◌, arith, get_or-map-range_with_len, Split, Mesh, edge_count, edge_signature, SignTables, AreSignatures}

pub at_edge : (mesh : Mesh) (d : Split) (t : SignTables) (e : ℕ) → AreSignatures mesh d t → e < edge_count mesh →
    slice_index t.signatures e ≡ edge_signature mesh d e
at_edge mesh d t e are l =
    ap (λ (xs : List ℕ). slice_index xs e) are
    ∙ get_or-map-range_with_len (edge_signature mesh d) 0 (edge_count mesh) e e 0 l (omega arith)
