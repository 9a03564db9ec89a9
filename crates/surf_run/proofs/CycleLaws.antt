-- Whichever trees show them, the candidates for a basis have one first loop; and few loops.
use Rattle.surf_surfaces.proofs.Common.{◌≡◌, ℕ, ◌+◌, ◌≤◌, List, [], ◌∷◌, sym, ap, ◌∙◌, arith, Mesh, IsSurface, face_count, edge_count, loop_count, ArePositive, Trees, AreChosen, Loop, candidates}
use Rattle.surf_validity.proofs.OneBasis.{candidates_are_one}

module _ (mesh : Mesh) (lengths : List ℕ) (a b : ℕ → Trees) (surface : IsSurface mesh) (positive : ArePositive mesh lengths)
    (x : AreChosen mesh lengths a) (y : AreChosen mesh lengths b) where
  pub firsts_are_one : (first other : Loop) (rest others : List Loop) → candidates mesh lengths a ≡ first ∷ rest → candidates mesh lengths b ≡ other ∷ others → first ≡ other
  firsts_are_one first other rest others p q = ap (head first) (sym p ∙ candidates_are_one mesh lengths a b surface positive x y ∙ q)
    where
      head : Loop → List Loop → Loop
      head default [] = default
      head default (loop ∷ loops) = loop

-- a surface with few loops has few edges
pub few_loops : (mesh : Mesh) → loop_count mesh ≤ 1024 → edge_count mesh + 2 ≤ mesh.vertices + face_count mesh + 1024
few_loops mesh few = omega (arith, few)
