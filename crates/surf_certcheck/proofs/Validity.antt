-- What the conditions on the trees of a certificate show.
use Rattle.surf_treecheck.proofs.Common.{◌≡◌, ℕ, ◌<◌, ◌+◌, Bool, true, false, not, ◌&&◌, List, length, get_or, slice_index, filter, map, refl, sym, ap, ◌∙◌, subst, arith, range_with_len, get_or-map-range_with_len, length-map-range_with_len, dual, Split, IsTree, cells_of, is_left, tree_edges, cotree_edges, Mesh, edge_signature, edge_count, face_count, IsSurface, ArePositive, some_vertex, tree_at, split_in, HasBasisShape, HasTrees, BasisCert, certified_tree, dual_tree, is_listed, just_one, dual_rows_are_tree, dual_rows_in_tree, HasBase, AreTreesValid, HoldsBelow, AreLinks, IsStepUp, AreFlags, is_flagged}
use Rattle.surf_certcheck.proofs.Common.{passing_same, face_tree, HangsBy, AreTreesDivided, IsClimbed, HasSplit}
use Rattle.surf_surfaces.proofs.Common.{left_edges as left_count}
use Rattle.surf_validity.proofs.SplitLaws.{is_split}
use Rattle.surf_validity.proofs.TreeLaws.{rows_are_tree, rows_are_shortest, rows_in_tree}
use Rattle.surf_treecheck.proofs.FaceLinks.{step_is}

-- the tree at a base is climbed
pub climbed_at : (mesh : Mesh) (lengths : List ℕ) (cert : BasisCert) → IsSurface mesh → ArePositive mesh lengths →
    HasTrees mesh cert → HoldsBelow mesh.vertices (HasBase cert) → AreTreesValid mesh lengths cert → (x : ℕ) →
    x < mesh.vertices → IsClimbed mesh (tree_at cert x)
climbed_at mesh lengths cert surface positive trees bases valid x l =
    let base_in : (tree_at cert x).base < mesh.vertices = subst (λ b. b < mesh.vertices) (sym (bases x l)) l in
    record {
      rows_are = trees.rows x l;
      lengths = lengths;
      valid = valid x l;
      tree = rows_are_tree mesh lengths (tree_at cert x) surface positive base_in (valid x l);
      short = rows_are_shortest mesh lengths (tree_at cert x) surface positive base_in (valid x l);
    }

-- the trees and the listed pairs divide the edges
pub has_split : (mesh : Mesh) (lengths : List ℕ) (cert : BasisCert) → IsSurface mesh → ArePositive mesh lengths →
    AreTreesDivided mesh lengths cert → HasSplit mesh cert
has_split mesh lengths cert surface positive a =
    let some = some_vertex mesh surface in
    let rows = tree_at cert 0 in
    let base_in : rows.base < mesh.vertices = subst (λ b. b < mesh.vertices) (sym (a.shape.bases 0 some)) some in
    let tree = rows_are_tree mesh lengths rows surface positive base_in (a.trees 0 some) in
    let cotree = dual_rows_are_tree mesh cert.dual surface a.dual in
    let one_of : (e : ℕ) → e < edge_count mesh →
    just_one (tree_edges mesh (certified_tree mesh rows) e) (cotree_edges mesh (dual_tree mesh cert.dual) e)
    (is_listed mesh cert.left e) ≡ true = λ e l.
    rw (
      rows_in_tree mesh lengths rows surface positive base_in (a.trees 0 some) e l,
      dual_rows_in_tree mesh cert.dual surface a.dual e l,
    ) (a.divided.divided e l) in
    record {
      faces = a.shape.faces;
      dual = a.dual;
      split = is_split mesh (certified_tree mesh rows) (dual_tree mesh cert.dual) cert.left (record { one_of = one_of }) tree cotree;
      listed = λ e l.
          third (tree_edges mesh (certified_tree mesh rows) e) (cotree_edges mesh (dual_tree mesh cert.dual) e)
          (is_listed mesh cert.left e) (one_of e l);
    }
  where
    third : (a b c : Bool) → just_one a b c ≡ true → c ≡ (not a && not b)
    third true true true h = absurd cc
    third true true false h = refl
    third true false true h = absurd cc
    third true false false h = refl
    third false true true h = absurd cc
    third false true false h = refl
    third false false c h = h

-- the flagged edges are the left ones
pub left_is : (mesh : Mesh) (cert : BasisCert) (flags : List Bool) → HasSplit mesh cert →
    AreFlags (edge_count mesh) (is_listed mesh cert.left) flags →
    filter (is_flagged flags) (range_with_len 0 (edge_count mesh)) ≡ (split_in mesh cert).left
left_is mesh cert flags has are =
    passing_same (is_flagged flags) (is_left mesh (certified_tree mesh (tree_at cert 0)) (dual_tree mesh cert.dual)) 0
    (edge_count mesh) (λ e l. let below : e < edge_count mesh = omega (arith, l) in are.each e below ∙ has.listed e below)

-- there are two less the characteristic of them
pub left_size : (mesh : Mesh) (cert : BasisCert) → HasSplit mesh cert →
    length (split_in mesh cert).left + (mesh.vertices + face_count mesh) ≡ edge_count mesh + 2
left_size mesh cert has = left_count (cells_of mesh) (split_in mesh cert) has.split

-- the tables of links are a tree of the faces, which hangs as that of the rows
module _ (mesh : Mesh) (cert : BasisCert) (parent up : List ℕ) (surface : IsSurface mesh) (has : HasSplit mesh cert)
    (links : AreLinks mesh cert.dual (face_count mesh) parent up) where
  step : (f : ℕ) → f < face_count mesh → (f ≡ 0 → ⊥) → IsStepUp mesh cert.dual f (get_or parent f 0) (get_or up f 0)
  step f l ne = step_is mesh cert.dual f (get_or parent f 0) (get_or up f 0) surface has.dual l ne (links.each f l)

  pub links_hang : HangsBy mesh (dual_tree mesh cert.dual) parent up
  links_hang = record {
    root = refl;
    parent = λ f l ne. (step f l ne).parent;
    up = λ f l ne. (step f l ne).up;
  }

  pub links_are_tree : IsTree (dual (cells_of mesh)) (face_tree parent up cert.dual.depth)
  links_are_tree =
      let t = has.split.cotree_is in
      record {
        root_in = t.root_in;
        parent_in = λ f l ne. let s = step f l ne in s.face_in;
        up_in = λ f l ne. let s = step f l ne in s.edge_in;
        up_joins = λ f l ne. let s = step f l ne in rw (s.parent, s.up) (t.up_joins f l ne);
        rank_falls = λ f l ne. let s = step f l ne in s.falls;
      }

-- an entry of a table of the signatures of all edges
pub signed_at : (mesh : Mesh) (d : Split) (sets : List ℕ) →
    sets ≡ map (edge_signature mesh d) (range_with_len 0 (edge_count mesh)) → (e : ℕ) → e < edge_count mesh →
    slice_index sets e ≡ edge_signature mesh d e
signed_at mesh d sets is e l =
    ap (λ xs. slice_index xs e) is
    ∙ get_or-map-range_with_len (edge_signature mesh d) 0 (edge_count mesh) e e 0 l (omega arith)

pub signed_count : (mesh : Mesh) (d : Split) (sets : List ℕ) →
    sets ≡ map (edge_signature mesh d) (range_with_len 0 (edge_count mesh)) → length sets ≡ edge_count mesh
signed_count mesh d sets is = ap length is ∙ length-map-range_with_len (edge_signature mesh d) 0 (edge_count mesh)

-- ---- sizes

-- there are as many cycles as left edges
pub cycles_size : (mesh : Mesh) (cert : BasisCert) → HasBasisShape mesh cert → HasSplit mesh cert →
    length cert.cycles ≡ length (split_in mesh cert).left
cycles_size mesh cert shape has =
    let left = left_size mesh cert has in
    let cycles = shape.loops.cycles in
    omega (arith, left, cycles)
