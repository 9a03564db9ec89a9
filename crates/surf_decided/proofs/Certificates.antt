-- A certificate is valid, or it has a first fault.
use Rattle.surf_treecheck.proofs.Common.{◌≢◌, ◌<◌, ◌⊎◌, ℕ, List, length, refl, inl, inr, Mesh, face_count, edge_count, ends, IsLoopCount, LoopCert, BasisCert, HasTreeRows, HasDualRows, HasShape, HasBasisShape, HasTrees, HasCounts, HasBase, IsDualValid, IsDivided, IsNoShortCut, IsNotHeavier, HasNoShorter, IsValidLoops, IsValidBasis, IsCovered, tree_at, HoldsBelow, FirstPart, HasParent, HasDistance, HasDual, IsFirstAt, HasParentAt, HasDistanceAt, IsNoShortCutAt}
use Rattle.surf_treecheck.specs.declared.fault.CertFault.TheVariants.{Split}
use Rattle.surf_validity.specs.Valid.{IsTreeValid}
use Rattle.surf_treecheck.specs.TreeFaults.{AreTreesValid}
use Rattle.surf_certcheck.proofs.BasisFaults.{basis_valid}
use Rattle.surf_certcheck.proofs.Common.{AreTreesDivided, DependsFirst, IsBasisFault, IsLoopFault, IsCycleClosed, IsIndependentAt, cycle_at, CertPart, Vertices, Faces, Loops, Base, CertFault, Shape, Parent, Distance, Slack, Dual, Heavier, NotClosed, Dependent, Uncovered, Memory}
use Rattle.surf_decided.proofs.Deciding.{Decided, when_less, denied, undenied, all_or_first, all_below}
use Rattle.surf_decided.proofs.Rows.{tree_rows_decided, dual_rows_decided, count_decided, trees_decided, counts_decided, bases_decided, parent_decided, distance_decided, slack_decided, dual_decided, not_heavier_decided, no_shorter_decided, closed_decided, dependent_decided, covered_decided, divided_or_bad}
use Rattle.surf_z2.proofs.Common.{subst}
use Rattle.surf_decided.specs.Told.{HasFault}

-- the fault isn't want of memory
abbrev IsTold : CertFault → Type 0
IsTold Memory = ⊥
IsTold fault = Unit {0}

told : (fault : CertFault) → IsTold fault → fault ≢ Memory
told fault is = λ same. subst IsTold same is

-- ---- parts

-- four conditions hold, or there is a first one that fails
four_or_part : (A B C D : Type 0) → Decided A → Decided B → Decided C → Decided D →
    (A × B × C × D) ⊎ ((part : CertPart) × FirstPart A B C D part)
four_or_part A B C D (inr out) b c d = inr (Vertices, out)
four_or_part A B C D (inl is_a) (inr out) c d = inr (Faces, (is_a, out))
four_or_part A B C D (inl is_a) (inl is_b) (inr out) d = inr (Loops, (is_a, is_b, out))
four_or_part A B C D (inl is_a) (inl is_b) (inl is_c) (inr out) = inr (Base, (is_a, is_b, is_c, out))
four_or_part A B C D (inl is_a) (inl is_b) (inl is_c) (inl is_d) = inl (is_a, is_b, is_c, is_d)

-- a condition holds at all bases, or there is a first base and a first number there at which it fails
all_or_first_at : (bases n : ℕ) (P : ℕ → ℕ → Type 0) → ((x k : ℕ) → Decided (P x k)) →
    HoldsBelow bases (λ x. HoldsBelow n (P x)) ⊎ ((x : ℕ) × ((k : ℕ) × IsFirstAt bases n P x k))
all_or_first_at bases n P decide =
    elim (all_or_first bases (λ x. HoldsBelow n (P x)) (λ x _. all_below n (P x) (λ k _. decide x k))) [
      | inl all ↦ inl all
      | inr base ↦ elim (all_or_first n (P base.0) (λ k _. decide base.0 k)) [
        | inl all ↦ absurd (base.1.fails all)
        | inr number ↦ inr (base.0, (number.0, record { base = base.1; number = number.1 }))
      ]
    ]

-- ---- loops

module _ (mesh : Mesh) (lengths : List ℕ) (cert : LoopCert) where
  abbrev LoopFault : Type 0
  LoopFault = HasFault (IsLoopFault mesh lengths cert)

  shape_or_fault : HasShape mesh cert ⊎ LoopFault
  shape_or_fault =
      elim (four_or_part (HasTreeRows mesh cert.tree) (HasDualRows mesh cert.dual)
      (IsLoopCount mesh (length cert.left)) (cert.tree.base < mesh.vertices)
      (tree_rows_decided mesh lengths cert.tree) (dual_rows_decided mesh lengths cert.dual)
      (count_decided mesh lengths (length cert.left)) (when_less cert.tree.base mesh.vertices)) [
        | inl all ↦ inl (record { vertices = all.0; faces = all.1; loops = all.2; base = all.3 })
        | inr part ↦ inr (Shape part.0, told (Shape part.0) tt, part.1)
      ]

  tree_or_fault : HasShape mesh cert → IsTreeValid mesh lengths cert.tree ⊎ LoopFault
  tree_or_fault shape =
      let base : ℕ = cert.tree.base in
      elim (all_or_first mesh.vertices (HasParent mesh cert.tree) (λ v _. parent_decided mesh lengths cert.tree v)) [
        | inr first ↦ inr (Parent base first.0, told (Parent base first.0) tt, (shape, (refl, first.1)))
        | inl parents ↦ elim (all_or_first mesh.vertices (HasDistance mesh lengths cert.tree)
            (λ v _. distance_decided mesh lengths cert.tree v)) [
              | inr first ↦ inr (Distance base first.0, told (Distance base first.0) tt, (shape, (refl, parents, first.1)))
              | inl distances ↦ elim (all_or_first (edge_count mesh) (IsNoShortCut mesh lengths cert.tree)
                  (λ e _. slack_decided mesh lengths cert.tree e)) [
                    | inr first ↦
                        let p : ℕ × ℕ = ends mesh first.0 in
                        inr (
                          Slack base p.0 p.1,
                          told (Slack base p.0 p.1) tt,
                          (shape, (refl, parents, distances, (first.0, refl, first.1))),
                        )
                    | inl slack ↦ inl (record { parents = parents; distances = distances; slack = slack })
                  ]
            ]
      ]

  heavy_or_fault : HasShape mesh cert → IsTreeValid mesh lengths cert.tree → IsDualValid mesh cert.dual →
      IsDivided mesh cert.tree cert.dual cert.left → HoldsBelow (edge_count mesh) (HasNoShorter mesh lengths cert) ⊎ LoopFault
  heavy_or_fault shape tree dual divided =
      elim (all_or_first (edge_count mesh) (HasNoShorter mesh lengths cert)
      (λ l _. no_shorter_decided mesh lengths cert l)) [
        | inl all ↦ inl all
        | inr left ↦ elim (all_or_first (edge_count mesh) (IsNotHeavier mesh lengths cert left.0)
            (λ c _. not_heavier_decided mesh lengths cert left.0 c)) [
              | inl all ↦ absurd (left.1.fails (λ _. all))
              | inr other ↦
                  let l : ℕ × ℕ = ends mesh left.0 in
                  let c : ℕ × ℕ = ends mesh other.0 in
                  inr (
                    Heavier l c,
                    told (Heavier l c) tt,
                    (
                      shape,
                      tree,
                      dual,
                      divided,
                      (left.0, other.0, refl, refl, record { left = left.1; dual = other.1 }),
                    ),
                  )
            ]
      ]

  -- the certificate is valid, or it has a fault
  pub loops_or_fault : IsValidLoops mesh lengths cert ⊎ LoopFault
  loops_or_fault = elim shape_or_fault [
    | inr fault ↦ inr fault
    | inl shape ↦ elim (tree_or_fault shape) [
      | inr fault ↦ inr fault
      | inl tree ↦ elim (all_or_first (face_count mesh) (HasDual mesh cert.dual)
          (λ f _. dual_decided mesh lengths cert.dual f)) [
            | inr first ↦ inr (Dual first.0, told (Dual first.0) tt, (shape, tree, first.1))
            | inl dual ↦ elim (divided_or_bad mesh cert.tree cert.dual cert.left) [
              | inr bad ↦ inr (Split bad.0.0 bad.0.1, told (Split bad.0.0 bad.0.1) tt, (shape, tree, dual, bad.1))
              | inl divided ↦ elim (heavy_or_fault shape tree dual divided) [
                | inr fault ↦ inr fault
                | inl heaviest ↦ inl (record {
                  shape = shape;
                  tree = tree;
                  dual = dual;
                  divided = divided;
                  heaviest = heaviest;
                })
              ]
            ]
          ]
    ]
  ]

-- ---- bases

module _ (mesh : Mesh) (lengths : List ℕ) (cert : BasisCert) where
  abbrev BasisFault : Type 0
  BasisFault = HasFault (IsBasisFault mesh lengths cert)

  basis_shape_or_fault : HasBasisShape mesh cert ⊎ BasisFault
  basis_shape_or_fault =
      elim (four_or_part (HasTrees mesh cert) (HasDualRows mesh cert.dual) (HasCounts mesh cert)
      (HoldsBelow mesh.vertices (HasBase cert)) (trees_decided mesh lengths cert)
      (dual_rows_decided mesh lengths cert.dual) (counts_decided mesh lengths cert) (bases_decided mesh lengths cert)) [
        | inl all ↦ inl (record { vertices = all.0; faces = all.1; loops = all.2; bases = all.3 })
        | inr part ↦ inr (Shape part.0, told (Shape part.0) tt, part.1)
      ]

  trees_or_fault : HasBasisShape mesh cert → AreTreesValid mesh lengths cert ⊎ BasisFault
  trees_or_fault shape =
      elim (all_or_first_at mesh.vertices mesh.vertices (HasParentAt mesh cert)
      (λ x v. parent_decided mesh lengths (tree_at cert x) v)) [
        | inr first ↦ inr (Parent first.0 first.1.0, told (Parent first.0 first.1.0) tt, (shape, first.1.1))
        | inl parents ↦ elim (all_or_first_at mesh.vertices mesh.vertices (HasDistanceAt mesh lengths cert)
            (λ x v. distance_decided mesh lengths (tree_at cert x) v)) [
              | inr first ↦ inr (
                Distance first.0 first.1.0,
                told (Distance first.0 first.1.0) tt,
                (shape, (parents, first.1.1)),
              )
              | inl distances ↦ elim (all_or_first_at mesh.vertices (edge_count mesh) (IsNoShortCutAt mesh lengths cert)
                  (λ x e. slack_decided mesh lengths (tree_at cert x) e)) [
                    | inr first ↦
                        let p : ℕ × ℕ = ends mesh first.1.0 in
                        inr (
                          Slack first.0 p.0 p.1,
                          told (Slack first.0 p.0 p.1) tt,
                          (shape, (parents, distances, (first.1.0, refl, first.1.1))),
                        )
                    | inl slack ↦ inl (λ x l. record {
                      parents = parents x l;
                      distances = distances x l;
                      slack = slack x l;
                    })
                  ]
            ]
      ]

  divided_or_fault : AreTreesDivided mesh lengths cert ⊎ BasisFault
  divided_or_fault = elim basis_shape_or_fault [
    | inr fault ↦ inr fault
    | inl shape ↦ elim (trees_or_fault shape) [
      | inr fault ↦ inr fault
      | inl trees ↦ elim (all_or_first (face_count mesh) (HasDual mesh cert.dual)
          (λ f _. dual_decided mesh lengths cert.dual f)) [
            | inr first ↦ inr (Dual first.0, told (Dual first.0) tt, (shape, trees, first.1))
            | inl dual ↦ elim (divided_or_bad mesh (tree_at cert 0) cert.dual cert.left) [
              | inr bad ↦ inr (Split bad.0.0 bad.0.1, told (Split bad.0.0 bad.0.1) tt, (shape, trees, dual, bad.1))
              | inl divided ↦ inl (record { shape = shape; trees = trees; dual = dual; divided = divided })
            ]
          ]
    ]
  ]

  cycles_or_fault : AreTreesDivided mesh lengths cert →
      (HoldsBelow (length cert.cycles) (IsCycleClosed mesh cert)
      × HoldsBelow (length cert.cycles) (IsIndependentAt mesh cert)) ⊎ BasisFault
  cycles_or_fault divided =
      elim (all_or_first (length cert.cycles) (IsCycleClosed mesh cert)
      (λ k _. closed_decided mesh lengths (cycle_at cert k))) [
        | inr first ↦ inr (NotClosed first.0, told (NotClosed first.0) tt, (divided, first.1))
        | inl closed ↦ elim (all_or_first (length cert.cycles) (IsIndependentAt mesh cert)
            (λ k _. denied (dependent_decided mesh lengths cert k))) [
              | inr first ↦
                  let is : DependsFirst mesh cert first.0 =
                  record {
                    below = first.1.below;
                    depends = undenied (dependent_decided mesh lengths cert first.0) first.1.fails;
                    before = first.1.before;
                  } in
                  inr (Dependent first.0, told (Dependent first.0) tt, (divided, closed, is))
              | inl independent ↦ inl (closed, independent)
            ]
      ]

  -- the certificate is valid, or it has a fault
  pub basis_or_fault : IsValidBasis mesh lengths cert ⊎ BasisFault
  basis_or_fault = elim divided_or_fault [
    | inr fault ↦ inr fault
    | inl divided ↦ elim (cycles_or_fault divided) [
      | inr fault ↦ inr fault
      | inl cycles ↦ elim (all_or_first_at mesh.vertices (edge_count mesh) (IsCovered mesh lengths cert)
          (λ x e. covered_decided mesh lengths cert x e)) [
            | inr first ↦
                let p : ℕ × ℕ = ends mesh first.1.0 in
                inr (
                  Uncovered first.0 p.0 p.1,
                  told (Uncovered first.0 p.0 p.1) tt,
                  (divided, cycles.0, cycles.1, (first.1.0, refl, first.1.1)),
                )
            | inl covered ↦ inl (basis_valid mesh lengths cert divided cycles.0 cycles.1 covered)
          ]
    ]
  ]
