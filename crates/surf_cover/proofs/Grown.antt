-- What is found over the cover by the signatures of a signed tree of faces.
use Rattle.surf_cotree.proofs.Common.{◌≡◌, ◌≢◌, ℕ, ◌+◌, ◌*◌, ◌<◌, ◌≤◌, List, length, slice_index, ◌∙◌, subst, arith, row_fits, IsSplit, Tree, Mesh, edge_count, IsSurface, ArePositive, cells_of, CotreeTables, split_with}
use Rattle.surf_cover.proofs.Common.{edge_set, certified_tables_are_distances, longest, AreLengths, far, IsSettled, sets_of, node_of, cover_by, length_by, IsSignedBy, IsCoverable, IsSigned, IsReachedWithin}
use Rattle.surf_cover.specs.Grown.{IsGrown}
use Rattle.surf_cover.proofs.Signed.{sets_are, sign_is}
use Rattle.surf_cover.proofs.Covering.{searchable, some_set, settled_certified}
use Rattle.surf_cover.proofs.Within.{within_all, all_reached}

-- each length is positive
pub positive : (mesh : Mesh) (lengths : List ℕ) → length lengths ≡ edge_count mesh → AreLengths lengths → ArePositive mesh lengths
positive mesh lengths count are e l = (are e 0 (omega (arith, l, count))).positive

module _ (mesh : Mesh) (t : CotreeTables) (signed : IsSigned mesh t) (sets : ℕ) (as_many : sets ≡ sets_of mesh) where
  -- signatures are small
  pub sign_below : (v : ℕ) → v < mesh.vertices → mesh.vertices * sets ≤ 16777216 → (e : ℕ) → e < edge_count mesh →
      slice_index t.signatures e < 16777216
  sign_below v v_in few e l =
      let tree = signed.grown.tree in
      let split = signed.grown.split in
      let below = edge_set mesh (split_with tree t) e in
      let same = sets_are mesh t signed tree split in
      let is = sign_is mesh t signed tree split e l in
      let fits : 0 * sets + sets ≤ mesh.vertices * sets = row_fits 0 sets mesh.vertices sets (omega (arith, v_in)) (omega arith) in
      omega (arith, below, same, is, fits, few, as_many)

  module _ (signs : List ℕ) (count : length signs ≡ edge_count mesh)
      (copied : (e : ℕ) → e < length signs → slice_index signs e ≡ slice_index t.signatures e) where
    pub signed_by : (tree : Tree) → IsSplit (cells_of mesh) (split_with tree t) → IsSignedBy mesh (split_with tree t) sets signs
    signed_by tree split = record {
      split = split;
      sets_are = as_many ∙ sets_are mesh t signed tree split;
      count = count;
      signs_are = λ e l. copied e (omega (arith, l, count)) ∙ sign_is mesh t signed tree split e l;
    }

    pub coverable : IsSurface mesh → (lengths : List ℕ) → length lengths ≡ edge_count mesh → mesh.vertices * sets ≤ 16777216 →
        IsCoverable mesh lengths sets signs
    coverable surface lengths measured few = record {
      surface = surface;
      split = split_with signed.grown.tree t;
      signed = signed_by signed.grown.tree signed.grown.split;
      measured = measured;
      few = few;
    }

    pub grown : IsSurface mesh → mesh.vertices * sets ≤ 16777216 → (lengths : List ℕ) → length lengths ≡ edge_count mesh → AreLengths lengths →
        (x : ℕ) → x < mesh.vertices → (vertices : ℕ) → vertices ≡ mesh.vertices → (distances settled_nodes : List ℕ) →
        IsSettled (cover_by mesh sets (slice_index signs)) (length_by lengths sets) (node_of sets x 0) (slice_index distances) →
        IsGrown mesh lengths t x
        (record { vertices = vertices; sets = sets; signs = signs; distances = distances; settled = settled_nodes })
    grown surface few lengths measured are x x_in vertices same distances settled_nodes settled = record {
      made = record { vertices = same; sets = as_many; signs = count };
      short = λ n l.
          let few_nodes : n < mesh.vertices * sets = subst (λ v. n < v * sets) same l in
          let bound : slice_index distances n + longest ≤ mesh.vertices * sets * longest = settled.fits n few_nodes in
          omega (arith, bound, few);
      grown = λ tree split.
          let d = split_with tree t in
          let certified = settled_certified mesh d sets signs (signed_by tree split) surface lengths x x_in (slice_index distances) settled in
          record {
            certified = record { signed = signed_by tree split; certified = certified };
            distances = certified_tables_are_distances mesh lengths d x (λ v set. slice_index distances (node_of sets v set)) surface
                (positive mesh lengths measured are) x_in certified;
          };
    }

-- a search as far as the greatest radius leaves no vertex with a set out
pub reaches_all : (mesh : Mesh) (lengths : List ℕ) (sets : ℕ) (signs : List ℕ) → IsCoverable mesh lengths sets signs →
    AreLengths lengths → (x radius : ℕ) → x < mesh.vertices → 16777216 * longest ≤ radius → (distance : ℕ → ℕ) →
    IsReachedWithin (cover_by mesh sets (slice_index signs)) (length_by lengths sets) (node_of sets x 0) radius distance →
    IsSettled (cover_by mesh sets (slice_index signs)) (length_by lengths sets) (node_of sets x 0) distance
    × ((u : ℕ) → u < mesh.vertices * sets → distance u ≢ far)
reaches_all mesh lengths sets signs can are x radius x_in large distance reached =
    let g = cover_by mesh sets (slice_index signs) in
    let search = searchable mesh can.split sets signs can.signed can.surface lengths are can.few in
    let some : 0 < sets = some_set mesh can.split sets signs can.signed in
    let fits : x * sets + sets ≤ mesh.vertices * sets = row_fits x sets mesh.vertices sets x_in (omega arith) in
    let base_in : node_of sets x 0 < mesh.vertices * sets = omega (arith, fits, some) in
    let few : mesh.vertices * sets ≤ 16777216 = can.few in
    let far_off : mesh.vertices * sets * longest ≤ radius = omega (arith, few, large) in (
      within_all g (length_by lengths sets) search (node_of sets x 0) radius base_in distance reached far_off,
      all_reached g (length_by lengths sets) search (node_of sets x 0) radius base_in distance reached far_off,
    )
