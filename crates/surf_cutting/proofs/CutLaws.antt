-- The trees of a loop desk, and what is opened along the cut that they give.
use Rattle.surf_answers.proofs.Common.{◌≡◌, ℕ, ◌<◌, List, [], length, get_or, refl, sym, ap, ◌∙◌, subst, All}
use Rattle.surf_answers.proofs.Common.{length-map, get_or-map, get_or_default, Mesh, IsFace, face_at, IsSurface}
use Rattle.surf_answers.proofs.Common.{All-get_or, All-from_get_or, AreDivided, tree_of, Kind, full, trimmed, through}
use Rattle.surf_answers.proofs.Common.{points_of, IsOpeningOf, outcome_of, near_cause, IsCutAt, IsNearAt}
use Rattle.surf_cotree.specs.Grown.{IsMarked}
use Rattle.surf_cotree.specs.Tables.{cotree_of}
use Rattle.surf_cutter.specs.Opened.{OpenMesh, IsHeld, IsChosenFor, IsNearFor}
use Rattle.surf_loops.specs.Loops.{LoopTables, IsGreedy, trees_of}
use Rattle.surf_opening.specs.Opening.{IsOpenedBy}
use Rattle.surf_cutter.proofs.Chosen.{grown_is_held, kinds_are_openings, points_on_border}

-- the vertex of each copy is one of the surface
origins_inside : {mesh : Mesh} {IsUncut : ℕ → ℕ → Type 0} {origins : List ℕ} {faces : List (List ℕ)} → IsSurface mesh →
    IsOpenedBy mesh IsUncut origins faces → All (λ v. v < mesh.vertices) origins
origins_inside {mesh} {IsUncut} {origins} {faces} surface opened = All-from_get_or (λ v. v < mesh.vertices) origins 0 (λ c l.
    let e = opened.every_copy c l in
    let f : ℕ = e.0 in
    let k : ℕ = e.2.0 in
    let row : List ℕ = get_or faces f [] in
    let k_in : k < length row = e.2.1 in
    let is : get_or row k 0 ≡ c = get_or_default row k 0 c k_in ∙ e.2.2 in
    let corner : get_or (face_at mesh f) k 0 ≡ get_or origins c 0 =
    ap (λ (face : List ℕ). get_or face k 0) (sym (opened.same_corners f e.1)) ∙ get_or-map (λ copy. get_or origins copy 0) row k 0 0 k_in
    ∙ ap (λ (x : ℕ). get_or origins x 0) is in
    let long : length row ≡ length (face_at mesh f) = sym (length-map row (λ copy. get_or origins copy 0)) ∙ ap length (opened.same_corners f e.1) in
    let face : IsFace mesh.vertices (face_at mesh f) = All-get_or (IsFace mesh.vertices) mesh.faces f [] e.1 surface.is_mesh in
    subst (λ (v : ℕ). v < mesh.vertices) corner
    (All-get_or (λ v. v < mesh.vertices) (face_at mesh f) k 0 (subst (λ (n : ℕ). k < n) long k_in) face.inside))

module _ (mesh : Mesh) (lengths : List ℕ) (base : ℕ) (t : LoopTables) (surface : IsSurface mesh) (greedy : IsGreedy mesh lengths base t) where
  marked : IsMarked mesh (tree_of t.tree) t.tree.flags
  marked = record { spans = greedy.rooted.spans; marks_are = greedy.tree.flags }

  divided : AreDivided mesh (tree_of t.tree) (cotree_of t.cotree)
  divided = greedy.cotree.split (tree_of t.tree) marked

  -- the edges that the desk holds are those of a tree of the faces that goes with its tree of the vertices
  pub desk_is_held : IsHeld mesh t.cotree.held
  desk_is_held = grown_is_held t.tree.flags greedy.weight (tree_of t.tree) t.cotree marked greedy.cotree

  -- where the cut of a kind has fewer than two edges, it has them at the base
  pub desk_nears : (kind : Kind) → IsNearFor mesh t.cotree.held kind → IsNearAt mesh lengths base kind (outcome_of near_cause)
  desk_nears kind near = record {
    trees = trees_of t;
    chosen = greedy.chosen;
    near = near (tree_of t.tree) (cotree_of t.cotree) divided greedy.cotree.held;
    is = refl;
  }

  module _ (kind : Kind) (opened : OpenMesh) (chosen : IsChosenFor mesh t.cotree.held kind opened) where
    opens : IsOpeningOf mesh (tree_of t.tree) (cotree_of t.cotree) kind opened.origins opened.faces
    opens = chosen (tree_of t.tree) (cotree_of t.cotree) divided greedy.cotree.held

    -- what is opened along the edges that the desk doesn't hold is the opening that is chosen at its base
    pub desk_cuts : All (λ v. v < mesh.vertices) (points_of kind) → IsCutAt mesh lengths base kind opened.origins opened.faces
    desk_cuts inside = record {
      trees = trees_of t;
      chosen = greedy.chosen;
      opened = opens;
      opening = kinds_are_openings mesh (tree_of t.tree) (cotree_of t.cotree) kind opened.origins opened.faces surface divided opens;
      border = points_on_border mesh (tree_of t.tree) (cotree_of t.cotree) kind opened.origins opened.faces surface divided inside opens;
    }

    pub desk_origins : All (λ v. v < mesh.vertices) opened.origins
    desk_origins = kind_origins kind opens
      where
        kind_origins : (kind : Kind) → IsOpeningOf mesh (tree_of t.tree) (cotree_of t.cotree) kind opened.origins opened.faces →
            All (λ v. v < mesh.vertices) opened.origins
        kind_origins full is = origins_inside surface is.opened
        kind_origins trimmed is = origins_inside surface is.opened
        kind_origins (through points) is = origins_inside surface is.opened
