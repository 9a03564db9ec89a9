-- The labels of the rule are the only ones.
use Rattle.surf_surfaces.proofs.Common.{◌≡◌, ℕ, zero, suc, ◌<◌, true, List, length, sym, ap, ◌∙◌, subst, arith, inl, inr, Contains, cases_lt, bit_xor, primal, cells_of, joins, joined_below, joins_turned, Mesh, edge_count, IsSurface}
use Rattle.surf_surfaces.proofs.meshes.CellLaws.{surfaces_are_cells}
use Rattle.surf_surfaces.specs.Walk.{ArePositive}
use Rattle.surf_sheets.specs.Rows.{SheetCert}
use Rattle.surf_sheetcheck.specs.Cocycles.{edge_set}
use Rattle.surf_sheetcheck.specs.Rule.{IsTight, AreDistances, AreLabels, place_on}
use Rattle.surf_sheetcheck.proofs.DistanceLaws.{one_distance}
use Rattle.surf_sheetcheck.proofs.LabelLaws.{on_from_place, place_in}

module _ (mesh : Mesh) (lengths : List ℕ) (cert : SheetCert) (part : List ℕ) (limit : ℕ) (surface : IsSurface mesh)
    (positive : ArePositive mesh lengths) (d e p q : ℕ → ℕ) (are_d : AreDistances mesh lengths part limit d)
    (are_e : AreDistances mesh lengths part limit e) (are_p : AreLabels mesh lengths cert part limit d p)
    (are_q : AreLabels mesh lengths cert part limit e q) where
  same : (v : ℕ) → v < mesh.vertices → d v ≡ e v
  same = one_distance mesh lengths part limit surface positive d e are_d are_e

  in_range : (v u f : ℕ) → f < edge_count mesh → joins (primal (cells_of mesh)) v u f ≡ true → u < mesh.vertices
  in_range v u f l join = joined_below (primal (cells_of mesh)) (surfaces_are_cells mesh surface).complex.primal_ends u v
      (f, l, joins_turned (primal (cells_of mesh)) v u f join)

  over : (v u f : ℕ) → v < mesh.vertices → IsTight mesh lengths d v u f → IsTight mesh lengths e v u f
  over v u f l tight =
      let a = same v l in
      let b = same u (in_range v u f tight.edge_in tight.joined) in
      let is = tight.is in
      record { edge_in = tight.edge_in; joined = tight.joined; is = omega (arith, a, b, is) }

  back : (v u f : ℕ) → v < mesh.vertices → IsTight mesh lengths e v u f → IsTight mesh lengths d v u f
  back v u f l tight =
      let a = same v l in
      let b = same u (in_range v u f tight.edge_in tight.joined) in
      let is = tight.is in
      record { edge_in = tight.edge_in; joined = tight.joined; is = omega (arith, a, b, is) }

  below : (n v : ℕ) → v < mesh.vertices → d v < n → p v ≡ q v
  below zero v l less = absurd (omega (arith, less))
  below (suc n) v l less = elim (cases_lt (d v) limit) [
    | inr at_limit ↦
        let a = are_d.limited v l in
        let s = same v l in
        are_p.far v l (omega (arith, a, at_limit)) ∙ sym (are_q.far v l (omega (arith, a, at_limit, s)))
    | inl under ↦
        let s = same v l in
        let under_e : e v < limit = omega (arith, under, s) in
        elim (cases_lt (place_on part v) (length part)) [
          | inl there ↦
              let on = on_from_place part v there in
              are_p.on_part v l under on ∙ sym (are_q.on_part v l under_e on)
          | inr behind ↦
              let off : Contains part v → ⊥ = λ on. let a = place_in part v on in absurd (omega (arith, a, behind)) in
              let (u, f, parent, is) = are_p.others v l under off in
              let (w, g, other, also) = are_q.others v l under_e off in
              let up = parent.least w g (back v w g l other.tight) in
              let down = other.least u f (over v u f l parent.tight) in
              let one : u ≡ w = omega (arith, up, down) in
              let edge : f ≡ g = (surfaces_are_cells mesh surface).one_edge v u f g parent.tight.edge_in other.tight.edge_in parent.tight.joined
              (subst (λ x. joins (primal (cells_of mesh)) v x g ≡ true) (sym one) other.tight.joined) in
              let long = positive f parent.tight.edge_in in
              let size = parent.tight.is in
              let before = below n u (in_range v u f parent.tight.edge_in parent.tight.joined) (omega (arith, less, long, size)) in
              is ∙ ap (λ x. bit_xor x (edge_set mesh cert f)) (before ∙ ap q one)
              ∙ ap (λ h. bit_xor (q w) (edge_set mesh cert h)) edge ∙ sym also
        ]
  ]

  pub one_label : (v : ℕ) → v < mesh.vertices → p v ≡ q v
  one_label v l = below (suc (d v)) v l (omega arith)
