-- The copy lines of the text of an opened surface.
use Rattle.std.proofs.Common.{◌≡◌, ◌<◌, ◌^◌, ℕ, Bool, List, length, get_or, Ok, Err, refl, sym, ◌∙◌, ap, subst, arith, inl, inr, cond, eq-eqb}
use Rattle.surf_surfaces.proofs.Common.{slice_index, cases_lt, length-map, get_or_past, IsFace}
use Rattle.std.specs.List.{All}
use Rattle.surf_off.specs.Clean.{IsOffParts}
use Rattle.surf_off.specs.Off.{OffParts}
use Rattle.surf_off.specs.Written.{lines_at, opened_text}
use Rattle.surf_off.proofs.Reread.{AllFaces}
use Rattle.surf_off.proofs.RereadMesh.{all_faces}
use Rattle.surf_sew.specs.declared.copies.CopyFault.TheVariants.{CopyCount}
use Rattle.surf_base.specs.Gives.{◌>>=◌}
use Rattle.surf_sew.specs.Copies.{counted, copies_in}
use Rattle.surf_sew.proofs.CutTexts.{cut_again}
use Rattle.surf_sew.proofs.Rereads.{all_lines}

small_at : (origins : List ℕ) → All (λ v. v < 2 ^ 32) origins → (k : ℕ) → slice_index origins k < 2 ^ 32
small_at origins small k = elim (cases_lt k (length origins)) [
  | inl lt ↦ let h : get_or origins k 0 < 2 ^ 32 = small k 0 lt in omega (arith, h)
  | inr le ↦ let none : get_or origins k 0 ≡ 0 = get_or_past origins k 0 le in omega (arith, none)
]

-- The copy lines name the vertex of each copy.
pub copies_named : (parts : OffParts) (origins : List ℕ) (faces : List (List ℕ)) (e : ℕ) → IsOffParts parts →
    All (λ v. v < length parts.vertex_lines) origins → All (λ v. v < 2 ^ 32) origins →
    All (IsFace (length origins)) faces → All (λ f. length f < 2 ^ 64) faces → length faces ≡ length parts.colours →
    length origins < 2 ^ 64 → length faces < 2 ^ 64 → e < 2 ^ 64 →
    copies_in (opened_text parts origins faces e) (length origins) ≡ Ok origins
copies_named parts origins faces e clean within small good short same small_o small_f small_e =
    let lines = lines_at parts.vertex_lines origins in
    let n = length origins in
    let count : length lines ≡ n = length-map origins _ in
    let all : AllFaces (length lines) faces parts.colours =
    subst (λ (v : ℕ). AllFaces v faces parts.colours) (sym count) (all_faces n faces parts.colours small_o good short clean.colours same) in
    let read = cut_again parts.header lines faces parts.colours e origins (all_lines parts.vertex_lines origins clean.vertex_lines within) all
    (omega (arith, count)) small_f small_e small_o (small_at origins small) in
    ap (λ r. r >>= counted n) read ∙ ap (λ (b : Bool). cond b (Ok origins) (Err (CopyCount n))) (eq-eqb n n refl)
