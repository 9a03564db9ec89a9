-- The parts of the certificate of the basis.
use Rattle.surf_basis.proofs.Common.{rows_for, dual_rows_of, chosen_cert, basis_cert_of, TreeTables, tree_of, LoopTables, trees_of, IsGreedy, listed_more, cert_shown, AreTreeRowsBelow, AreTreeRows, IsTheCert, IsTheBasis, ◌≡◌, ℕ, ◌+◌, ◌<◌, ◌++◌, ◌∷◌, [], List, map, refl, sym, ap, ◌∙◌, subst, Mesh, ends, IsSurface, ArePositive, AreChosenAt, walks, choice_exists, heaviest_exists, some_vertex, shortest_is_tree, cotree_of}
use Rattle.surf_search.proofs.Common.{Trees, Loop}
use Rattle.surf_validity.specs.Rows.{TreeRows, DualRows, LoopCert, BasisCert}
use Rattle.surf_validity.specs.Bases.{IsValidBasis}
use Rattle.surf_validity.proofs.OneCert.{chosen_certs_are_one}
use Rattle.surf_validity.proofs.ChosenBases.{chosen_bases_are_valid}
use Rattle.surf_records.specs.Fits.{BasisFits}
use Rattle.surf_records.proofs.ChosenFits.{AreNumbers, chosen_basis_fits}
use Rattle.surf_tree.specs.Grown.{IsGrown as IsTreeGrown}

module _ (mesh : Mesh) (lengths : List ℕ) (surface : IsSurface mesh) (positive : ArePositive mesh lengths) where
  -- the rows of a grown tree are those of each tree that is chosen at its base
  rows_are_one : (base : ℕ) (t : TreeTables) (trees : Trees) → IsTreeGrown mesh lengths base t → AreChosenAt mesh lengths base trees →
      rows_for mesh (tree_of t) ≡ rows_for mesh trees.tree
  rows_are_one base t trees grown chosen =
      let spans = shortest_is_tree mesh lengths base (tree_of t) surface positive grown.shortest in
      let (cotree, heaviest) = heaviest_exists mesh lengths (tree_of t) surface spans in
      let own : Trees = record { tree = tree_of t; cotree = cotree } in
      ap (λ (c : LoopCert). c.tree) (chosen_certs_are_one mesh lengths base own trees surface positive (record { shortest = grown.shortest; heaviest = heaviest }) chosen)

  -- one more tree
  pub rows_more : (base : ℕ) (t : TreeTables) (old new : List TreeRows) (row : TreeRows) → base < mesh.vertices → IsTreeGrown mesh lengths base t →
      AreTreeRowsBelow mesh lengths base old → row ≡ rows_for mesh (tree_of t) → new ≡ old ++ row ∷ [] → AreTreeRowsBelow mesh lengths (base + 1) new
  rows_more base t old new row l grown are is added trees chosen =
      listed_more (λ x. rows_for mesh (trees x).tree) base old new row (are trees chosen) added (is ∙ rows_are_one base t (trees base) grown (chosen base l))

  -- the parts together
  pub the_cert : (t : LoopTables) (basis : List Loop) (cert : BasisCert) (rows : List TreeRows) (dual : DualRows) (left : List (ℕ × ℕ)) (cycles : List (List ℕ)) →
      IsGreedy mesh lengths 0 t → IsTheBasis mesh lengths basis → cert ≡ record { trees = rows; dual = dual; left = left; cycles = cycles } →
      AreTreeRows mesh lengths rows → dual ≡ dual_rows_of mesh (cotree_of t.cotree) → left ≡ map (ends mesh) t.cotree.left → cycles ≡ walks basis →
      IsTheCert mesh lengths cert
  the_cert t basis cert rows dual left cycles g is_basis is trees_are dual_is left_is cycles_are =
      let (trees, chosen) = choice_exists mesh lengths surface positive in
      let one : chosen_cert mesh (trees_of t) ≡ chosen_cert mesh (trees 0) =
      chosen_certs_are_one mesh lengths 0 (trees_of t) (trees 0) surface positive g.chosen (chosen 0 (some_vertex mesh surface)) in
      let parts : record { tree = rows_for mesh (tree_of t.tree); dual = dual; left = left } ≡ chosen_cert mesh (trees_of t) =
      cert_shown mesh lengths 0 t (record { tree = rows_for mesh (tree_of t.tree); dual = dual; left = left }) (rows_for mesh (tree_of t.tree)) dual left surface positive g refl refl dual_is left_is in
      let of : List TreeRows → DualRows → List (ℕ × ℕ) → List (List ℕ) → BasisCert = λ rows dual left cycles. record { trees = rows; dual = dual; left = left; cycles = cycles } in
      record {
        trees = trees;
        chosen = chosen;
        basis = basis;
        is_basis = is_basis trees chosen;
        cert_is = is ∙ ap (λ r. of r dual left cycles) (trees_are trees chosen)
            ∙ ap (λ d. of (basis_cert_of mesh trees basis).trees d left cycles) (ap (λ (c : LoopCert). c.dual) (parts ∙ one))
            ∙ ap (λ l. of (basis_cert_of mesh trees basis).trees (basis_cert_of mesh trees basis).dual l cycles) (ap (λ (c : LoopCert). c.left) (parts ∙ one))
            ∙ ap (of (basis_cert_of mesh trees basis).trees (basis_cert_of mesh trees basis).dual (basis_cert_of mesh trees basis).left) cycles_are;
      }

  -- it is valid
  pub valid_cert : (cert : BasisCert) → IsTheCert mesh lengths cert → IsValidBasis mesh lengths cert
  valid_cert cert c = subst (IsValidBasis mesh lengths) (sym c.cert_is) (chosen_bases_are_valid mesh lengths c.trees c.basis surface positive c.chosen c.is_basis)

  -- and fits the lines of a text
  pub fitting_cert : (cert : BasisCert) → AreNumbers mesh lengths → IsTheCert mesh lengths cert → BasisFits cert
  fitting_cert cert numbers c = subst BasisFits (sym c.cert_is) (chosen_basis_fits mesh lengths surface positive numbers c.trees c.basis c.chosen c.is_basis)
