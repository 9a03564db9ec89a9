-- Whichever trees show them, the candidates for a basis are one list, and so are the basis and its certificate.
use Rattle.surf_surfaces.proofs.Common.{◌≡◌, ℕ, zero, suc, ◌+◌, ◌<◌, ◌≤◌, List, ◌++◌, refl, sym, ap, ◌∙◌, subst, arith, flat_map, range_with_len, sorted, Mesh, IsSurface, ArePositive, Trees, AreChosen, Loop, comes_before, walks, loops_at, candidates, IsGreedyChoice, IsChosenBasis}
use Rattle.surf_surfaces.proofs.bases.BasisLaws.{basis_is_one}
use Rattle.surf_surfaces.proofs.classes.ClassLaws.{some_vertex}
use Rattle.surf_surfaces.proofs.bases.LoopsOne.{loops_are_one}
use Rattle.surf_validity.specs.Rows.{TreeRows, DualRows, LoopCert, BasisCert}
use Rattle.surf_validity.specs.Chosen.{rows_for, chosen_cert, basis_cert_of}
use Rattle.surf_validity.specs.Laws.{ChosenBasisCertsAreOne}
use Rattle.surf_validity.proofs.OneCert.{tables_same, chosen_certs_are_one}

module _ (mesh : Mesh) (lengths : List ℕ) (a b : ℕ → Trees) (surface : IsSurface mesh)
    (positive : ArePositive mesh lengths) (x : AreChosen mesh lengths a) (y : AreChosen mesh lengths b) where
  listed : (from n : ℕ) → from + n ≤ mesh.vertices →
      flat_map (λ v. loops_at mesh lengths v (a v)) (range_with_len from n)
      ≡ flat_map (λ v. loops_at mesh lengths v (b v)) (range_with_len from n)
  listed from zero l = refl
  listed from (suc n) l =
      let here : from < mesh.vertices = omega (arith, l) in
      let rest = listed (from + 1) n (omega (arith, l)) in
      ap (λ (loops : List Loop). loops ++ flat_map (λ v. loops_at mesh lengths v (a v)) (range_with_len (from + 1) n))
      (loops_are_one mesh lengths from (a from) (b from) surface positive (x from here) (y from here))
      ∙ ap (λ (loops : List Loop). loops_at mesh lengths from (b from) ++ loops) rest

  pub candidates_are_one : candidates mesh lengths a ≡ candidates mesh lengths b
  candidates_are_one = ap (λ (loops : List Loop). sorted comes_before loops) (listed 0 mesh.vertices (omega arith))

  pub bases_are_one : (basis other : List Loop) → IsChosenBasis mesh lengths a basis →
      IsChosenBasis mesh lengths b other → basis ≡ other
  bases_are_one basis other p q =
      let one = basis_is_one mesh lengths b surface positive y in
      one.2 basis (subst (λ (loops : List Loop). IsGreedyChoice mesh loops basis) candidates_are_one p)
      ∙ sym (one.2 other q)

  certs_same : (v : ℕ) → v < mesh.vertices → chosen_cert mesh (a v) ≡ chosen_cert mesh (b v)
  certs_same v l = chosen_certs_are_one mesh lengths v (a v) (b v) surface positive (x v l) (y v l)

  pub basis_certs_same : (basis other : List Loop) → IsChosenBasis mesh lengths a basis →
      IsChosenBasis mesh lengths b other → basis_cert_of mesh a basis ≡ basis_cert_of mesh b other
  basis_certs_same basis other p q =
      let first = certs_same 0 (some_vertex mesh surface) in
      let all : List TreeRows → DualRows → List (ℕ × ℕ) → List (List ℕ) → BasisCert =
      λ trees dual left cycles. record { trees = trees; dual = dual; left = left; cycles = cycles } in
      let one = basis_cert_of mesh a basis in
      let two = basis_cert_of mesh b other in
      let trees : one.trees ≡ two.trees =
      tables_same (λ v. rows_for mesh (a v).tree) (λ v. rows_for mesh (b v).tree) 0 mesh.vertices
      (λ v l. ap (λ (cert : LoopCert). cert.tree) (certs_same v (omega (arith, l)))) in
      ap (λ (t : List TreeRows). all t one.dual one.left one.cycles) trees
      ∙ ap (λ (cert : LoopCert). all two.trees cert.dual cert.left one.cycles) first
      ∙ ap (λ (loops : List Loop). all two.trees two.dual two.left (walks loops)) (bases_are_one basis other p q)

pub chosen_basis_certs_are_one : ChosenBasisCertsAreOne
chosen_basis_certs_are_one mesh lengths a b basis other surface positive x y p q =
    basis_certs_same mesh lengths a b surface positive x y basis other p q
