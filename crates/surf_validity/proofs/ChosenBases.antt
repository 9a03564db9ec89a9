-- The certificate of the chosen basis is valid.
use Rattle.surf_surfaces.proofs.Common.{◌≡◌, ℕ, ◌<◌, List, [], ◌∷◌, map, get_or, All, sym, ap, ◌∙◌, subst, arith, AllByRecursion, length-map, recursion_from_All, All-from_recursion, greedy, numbers, is_nothing, Independent, SpannedUpToWeight, Decides-is_nothing, primal, Split, IsSplit, loop, signature_of-same, Mesh, edge_count, IsSurface, IsClosed, edge_length, walk_length, ArePositive, cells_of, class_of, loop_walk, walk_signature, Trees, Loop, AreChosen, walks, candidates, IsChosenBasis, weighed, signed, loop_chain, LeastSimpleBasis}
use Rattle.surf_z2.proofs.Least.{least_law}
use Rattle.surf_surfaces.proofs.bases.CoveredLaws.{below_closed, below_sized, weighed_loops, loops_covered, candidates_rise}
use Rattle.surf_surfaces.proofs.bases.BasisLaws.{basis_is_least}
use Rattle.surf_surfaces.proofs.classes.ClassLaws.{independent_by_classes, some_vertex}
use Rattle.surf_surfaces.proofs.bases.GreedyChoiceLaws.{choice_is_greedy}
use Rattle.surf_surfaces.proofs.classes.LeastLaws.{weighed_same}
use Rattle.surf_validity.specs.Rows.{TreeRows, BasisCert}
use Rattle.surf_validity.specs.Valid.{HasTreeRows, certified_tree, loop_size, IsTreeValid, IsDivided, IsValidLoops}
use Rattle.surf_validity.specs.Bases.{no_rows, tree_at, split_in, signatures, weighed_cycle, weighed_loop, IsClosedList, IsCovered, HasBasisShape, IsValidBasis}
use Rattle.surf_validity.specs.Chosen.{rows_for, chosen_cert, basis_cert_of}
use Rattle.surf_validity.specs.Laws.{ChosenBasesAreValid}
use Rattle.surf_validity.proofs.TreeLaws.{rows_are_tree, rows_are_shortest}
use Rattle.surf_validity.proofs.BasisLaws.{in_no_sum_before, split_is, classes_are, weighed_are, loop_signature}
use Rattle.surf_validity.proofs.ChosenLaws.{at, size, loop_is, size_is, valid_at}

-- a closed walk is a closed list of neighbours
closed_list : (mesh : Mesh) (walk : List ℕ) → IsClosed mesh walk → IsClosedList mesh walk
closed_list mesh walk is = record {
  begins = is.is_walk.begins;
  along_edges = is.is_walk.along_edges;
  returns = is.returns;
}

module _ (mesh : Mesh) (lengths : List ℕ) (trees : ℕ → Trees) (basis : List Loop) (surface : IsSurface mesh)
    (positive : ArePositive mesh lengths) (chosen : AreChosen mesh lengths trees)
    (is_basis : IsChosenBasis mesh lengths trees basis) where
  abbrev cert : BasisCert
  cert = basis_cert_of mesh trees basis

  abbrev d : Split
  d = split_in mesh cert

  -- ---- the trees

  some : 0 < mesh.vertices
  some = some_vertex mesh surface

  rows_are : (x : ℕ) → x < mesh.vertices → tree_at cert x ≡ rows_for mesh (trees x).tree
  rows_are x l = at (λ y. rows_for mesh (trees y).tree) mesh.vertices x no_rows l

  loops_valid : (x : ℕ) → x < mesh.vertices → IsValidLoops mesh lengths (chosen_cert mesh (trees x))
  loops_valid x l = valid_at mesh lengths x (trees x) surface positive (chosen x l)

  base_is : (x : ℕ) → x < mesh.vertices → (tree_at cert x).base ≡ x
  base_is x l = ap (λ (rows : TreeRows). rows.base) (rows_are x l) ∙ (chosen x l).shortest.root

  tree_valid : (x : ℕ) → x < mesh.vertices → IsTreeValid mesh lengths (tree_at cert x)
  tree_valid x l = subst (IsTreeValid mesh lengths) (sym (rows_are x l)) (loops_valid x l).tree

  divided : IsDivided mesh (tree_at cert 0) cert.dual cert.left
  divided = subst (λ rows. IsDivided mesh rows cert.dual cert.left) (sym (rows_are 0 some)) (loops_valid 0 some).divided

  split : IsSplit (cells_of mesh) d
  split = split_is mesh lengths cert surface positive (subst (λ b. b < mesh.vertices) (sym (base_is 0 some)) some)
      (tree_valid 0 some) (loops_valid 0 some).dual divided

  -- ---- the cycles

  least : LeastSimpleBasis mesh lengths basis
  least = basis_is_least mesh lengths trees basis surface positive chosen is_basis

  closed : All (IsClosed mesh) (walks basis)
  closed = least.least.is_basis.closed

  closed_each : AllByRecursion (IsClosed mesh) (walks basis)
  closed_each = recursion_from_All (IsClosed mesh) (walks basis) closed

  independent : Independent numbers (signatures mesh cert)
  independent = subst (Independent numbers) (classes_are mesh lengths cert surface (walks basis) closed_each)
      ((independent_by_classes mesh d surface split (walks basis) closed).0 least.least.is_basis.independent)

  -- ---- the loops of all edges

  -- the chosen basis is what the greedy choice keeps of the candidates
  kept : basis ≡ greedy numbers is_nothing (λ c. class_of mesh d c.walk) (candidates mesh lengths trees)
  kept = choice_is_greedy mesh d surface split (candidates mesh lengths trees)
      (below_closed mesh lengths trees surface positive chosen mesh.vertices (omega arith)) basis is_basis

  cycles_weighed : weighed (λ c. c.size) (λ c. class_of mesh d c.walk) basis
      ≡ map (weighed_cycle mesh lengths cert) (walks basis)
  cycles_weighed =
      sym (weighed_loops mesh lengths trees surface positive chosen d split basis
      (recursion_from_All (λ c. walk_length mesh lengths c.walk ≡ c.size) basis least.sizes))
      ∙ weighed_are mesh lengths cert surface (walks basis) closed_each

  loop_weighed : (x e : ℕ) → x < mesh.vertices → e < edge_count mesh → weighed_loop mesh lengths cert x e
      ≡ signed (cells_of mesh) d (loop_chain (primal (cells_of mesh)) (edge_length lengths) (trees x).tree e)
  loop_weighed x e x_in e_in =
      let g = primal (cells_of mesh) in
      let rows = rows_for mesh (trees x).tree in
      let base_in = (loops_valid x x_in).shape.base in
      let valid = (loops_valid x x_in).tree in
      let signature = ap (λ (r : TreeRows). walk_signature mesh d (loop_walk mesh (certified_tree mesh r) e)) (rows_are x x_in)
      ∙ loop_signature mesh lengths cert surface (certified_tree mesh rows)
      (rows_are_tree mesh lengths rows surface positive base_in valid)
      (rows_are_shortest mesh lengths rows surface positive base_in valid) e e_in
      ∙ signature_of-same (cells_of mesh) d (loop g (certified_tree mesh rows) e) (loop g (trees x).tree e)
      (λ h l. loop_is mesh lengths x (trees x) surface positive (chosen x x_in) e h e_in) in
      let weight = ap (λ (r : TreeRows). loop_size mesh lengths r e) (rows_are x x_in)
      ∙ size_is mesh lengths x (trees x) surface positive (chosen x x_in) e e_in in
      weighed_same _ _ weight signature

  covered : (x e : ℕ) → x < mesh.vertices → e < edge_count mesh → IsCovered mesh lengths cert x e
  covered x e x_in e_in =
      let vector : Loop → ℕ = λ c. class_of mesh d c.walk in
      let all = candidates mesh lengths trees in
      let target = signed (cells_of mesh) d (loop_chain (primal (cells_of mesh)) (edge_length lengths) (trees x).tree e) in
      let sized = below_sized mesh lengths trees surface positive chosen mesh.vertices (omega arith) in
      let by_all : SpannedUpToWeight numbers (weighed (λ c. c.size) vector all) target =
      subst (λ xs. SpannedUpToWeight numbers xs target)
      (weighed_loops mesh lengths trees surface positive chosen d split all sized)
      (loops_covered mesh lengths trees surface positive chosen d split x e x_in e_in) in
      let by_kept : SpannedUpToWeight numbers (weighed (λ c. c.size) vector (greedy numbers is_nothing vector all)) target =
      (least_law numbers is_nothing Decides-is_nothing (λ c. c.size) vector).suffices all (target ∷ [])
      (candidates_rise mesh lengths trees surface positive chosen d split)
      (All-from_recursion (SpannedUpToWeight numbers (weighed (λ c. c.size) vector all)) (target ∷ []) (by_all, tt))
      0 target (omega arith) in
      subst (λ xs. SpannedUpToWeight numbers xs (weighed_loop mesh lengths cert x e))
      (ap (weighed (λ c. c.size) vector) (sym kept) ∙ cycles_weighed)
      (subst (SpannedUpToWeight numbers (weighed (λ c. c.size) vector (greedy numbers is_nothing vector all)))
      (sym (loop_weighed x e x_in e_in)) by_kept)

  -- ---- all of it

  shape : HasBasisShape mesh cert
  shape =
      let first = (loops_valid 0 some).shape in
      record {
        vertices = record {
          trees = size (λ x. rows_for mesh (trees x).tree) mesh.vertices;
          rows = λ x l. subst (HasTreeRows mesh) (sym (rows_are x l)) (loops_valid x l).shape.vertices;
        };
        faces = first.faces;
        loops = record { left = first.loops; cycles = least.least.is_basis.count };
        bases = base_is;
      }

  pub valid_basis_at : IsValidBasis mesh lengths (basis_cert_of mesh trees basis)
  valid_basis_at = record {
    shape = shape;
    trees = tree_valid;
    dual = (loops_valid 0 some).dual;
    divided = divided;
    closed = λ k walk l. closed_list mesh (get_or (walks basis) k walk) (closed k walk l);
    independent = λ k l. in_no_sum_before (signatures mesh cert) independent k
        (let size = length-map (walks basis) (walk_signature mesh d) in omega (arith, l, size));
    covered = covered;
  }

pub chosen_bases_are_valid : ChosenBasesAreValid
chosen_bases_are_valid mesh lengths trees basis surface positive chosen is_basis =
    valid_basis_at mesh lengths trees basis surface positive chosen is_basis
