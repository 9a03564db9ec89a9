-- The classes of the walks of a basis, by a table of signatures.
use Rattle.surf_surfaces.proofs.Common.{◌≡◌, ℕ, ◌<◌, ◌^◌, List, [], ◌∷◌, length, map, refl, sym, ap, ◌∙◌, subst, arith, AllByRecursion, All-from_recursion, recursion_from_All, length-map, slice_index, get_or-map-range_with_len, range_with_len, length-range_with_len, small, IsSplit, Split, cells_of, chain_signature, edge_signature, class_of, left_edges, Mesh, edge_count, IsSurface, IsClosed, IsLoopCount, parity}
use Rattle.surf_surfaces.specs.Homology.{IsBasis}
use Rattle.surf_surfaces.proofs.classes.ClassLaws.{independent_by_classes}
use Rattle.surf_surfaces.proofs.classes.SignatureLaws.{signatures_are_classes}
use Rattle.surf_finder.specs.Signing.{AreSigned, signs_of}
use Rattle.surf_cotree.specs.Tables.{CotreeTables}
use Rattle.surf_sheetfind.specs.Pairs.{class_by, classes_of, AreClasses}
use Rattle.surf_sheetfind.proofs.EdgeRows.{class_is}

-- a table of signatures, edge by edge
pub signed_at : (mesh : Mesh) (t : CotreeTables) (width : ℕ) (s : AreSigned mesh (signs_of t) width) (e : ℕ) → e < edge_count mesh →
    slice_index t.signatures e ≡ edge_signature mesh s.split e
signed_at mesh t width s e l =
    ap (λ xs. slice_index xs e) s.signatures
    ∙ get_or-map-range_with_len (edge_signature mesh s.split) 0 (edge_count mesh) e e 0 l (omega arith)

pub signed_count : (mesh : Mesh) (t : CotreeTables) (width : ℕ) → AreSigned mesh (signs_of t) width →
    length t.signatures ≡ edge_count mesh
signed_count mesh t width s =
    ap length s.signatures ∙ length-map (range_with_len 0 (edge_count mesh)) (edge_signature mesh s.split)
    ∙ length-range_with_len 0 (edge_count mesh)

-- signatures are as wide as each count of 2 − χ
pub signed_for : (mesh : Mesh) (t : CotreeTables) (width count : ℕ) → AreSigned mesh (signs_of t) width → IsLoopCount mesh count →
    AreSigned mesh (signs_of t) count
signed_for mesh t width count s full =
    let left = left_edges (cells_of mesh) s.split s.is_split in
    record { split = s.split; is_split = s.is_split; count = omega (arith, left, full); signatures = s.signatures }

module _ (mesh : Mesh) (signatures : List ℕ) (d : Split) (surface : IsSurface mesh)
    (signed : (e : ℕ) → e < edge_count mesh → slice_index signatures e ≡ edge_signature mesh d e) where
  same_classes : (walks : List (List ℕ)) → AllByRecursion (IsClosed mesh) walks →
      map (class_of mesh d) walks ≡ classes_of mesh signatures walks
  same_classes [] closed = refl
  same_classes (w ∷ ws) closed =
      let first : class_of mesh d w ≡ class_by mesh signatures w =
      sym (class_is mesh signatures d signed w closed.0.is_walk.along_edges
      ∙ signatures_are_classes mesh d surface w closed.0.is_walk) in
      ap (λ c. c ∷ map (class_of mesh d) ws) first
      ∙ ap (λ cs. class_by mesh signatures w ∷ cs) (same_classes ws closed.1)

  classes_below : (n : ℕ) (ws : List (List ℕ)) → length d.left ≡ n →
      AllByRecursion (λ x. x < 2 ^ n) (map (class_of mesh d) ws)
  classes_below n [] wide = tt
  classes_below n (w ∷ ws) wide = (
    subst (λ m. class_of mesh d w < 2 ^ m) wide (small (length d.left) (chain_signature (cells_of mesh) d (parity mesh w))),
    classes_below n ws wide,
  )

  pub classes_are : (walks : List (List ℕ)) → IsSplit (cells_of mesh) d → IsBasis mesh walks →
      AreClasses (classes_of mesh signatures walks)
  classes_are walks split basis =
      let same = same_classes walks (recursion_from_All (IsClosed mesh) walks basis.closed) in
      let left = left_edges (cells_of mesh) d split in
      let own = basis.count in
      let wide : length d.left ≡ length (map (class_of mesh d) walks) =
      (let size = length-map walks (class_of mesh d) in omega (arith, left, own, size)) in
      subst AreClasses same (record {
        independent = (independent_by_classes mesh d surface split walks basis.closed).0 basis.independent;
        below = All-from_recursion (λ c. c < 2 ^ length (map (class_of mesh d) walks)) (map (class_of mesh d) walks)
            (classes_below (length (map (class_of mesh d) walks)) walks wide);
      })
