-- A walk along cut sides, before it returns: no side stands twice in it.
use Rattle.surf_surfaces.proofs.Common.{◌≡◌, ℕ, zero, suc, ◌+◌, ◌<◌, ◌≤◌, inl, inr, sym, refl, subst, ap, ◌∙◌, get_or, length, arith, cases_eq, cases_lt, Mesh, after, edge_count, face_at}
use Rattle.surf_opening.specs.Laws.{WalksReturn}
use Rattle.surf_opening.specs.Rim.{Among, along, back}
use Rattle.surf_opening.proofs.gluing.RimWords.{IsCopying, IsPaired}
use Rattle.surf_opening.specs.Round.{IsPart, IsFirstReturn}
use Rattle.surf_opening.specs.Side.{IsPlace}
use Rattle.surf_opening.proofs.counts.Count.{among_sym, among_onward}
use Rattle.surf_opening.proofs.counts.Counting.{pigeons}
use Rattle.surf_opening.proofs.cuts.FullCut.{places_twice}
use Rattle.surf_opening.proofs.gluing.Gluing.{copying}
use Rattle.surf_opening.proofs.sides.MeshSides.{is_darts}
use Rattle.surf_opening.proofs.openings.OpeningLaw.{surface_sides}
use Rattle.surf_opening.proofs.openings.Slits.{always_paired}

module _ {Rim Same : ℕ → ℕ → ℕ → Type 0} {n : ℕ} {face start end : ℕ → ℕ} (paired : IsPaired Rim Same)
    (copying : IsCopying Same) (part : IsPart Rim Same n face start end) where
  -- two sides alike come from sides alike
  alike_before : (i j : ℕ) → suc i < n → suc j < n → face (suc i) ≡ face (suc j) → start (suc i) ≡ start (suc j) →
      end (suc i) ≡ end (suc j) → (face i ≡ face j) × (start i ≡ start j)
  alike_before i j g h f s e =
      let i_at : start (suc i) ≡ end i = part.goes_on i g in
      let j_at : start (suc j) ≡ end j = part.goes_on j h in
      let v : end j ≡ end i = sym j_at ∙ sym s ∙ i_at in
      let meets_i : Same (end i) (face i) (face (suc i)) = part.meets i g in
      let meets_j : Same (end i) (face j) (face (suc i)) =
      subst (λ f. Same (end i) (face j) f) (sym f) (subst (λ v. Same v (face j) (face (suc j))) v (part.meets j h)) in
      let side_i : Rim (face i) (end i) (start i) = paired.turned (part.side i (omega arith)) in
      let side_j : Rim (face j) (end i) (start j) =
      subst (λ v. Rim (face j) v (start j)) v (paired.turned (part.side j (omega arith))) in
      let side_n : Rim (face (suc i)) (end i) (end (suc i)) =
      subst (λ v. Rim (face (suc i)) v (end (suc i))) i_at (part.side (suc i) g) in
      elim (paired.no_third side_n side_i side_j (copying.turned meets_i) (copying.turned meets_j)) [
        | inl m ↦ absurd (part.differs i g (sym m.0) (sym m.1))
        | inr o ↦ elim o [
          | inl m ↦ absurd (part.differs j h (sym m.0 ∙ f) (sym m.1 ∙ e))
          | inr m ↦ m
        ]
      ]

  pub part_no_twice : IsFirstReturn n face start end → (i j : ℕ) → i < j → j < n → face i ≡ face j → start i ≡ start j →
      end i ≡ end j → ⊥
  part_no_twice first zero j l h f s e = first j l h (sym f) (sym s) (sym e)
  part_no_twice first (suc i) zero l h f s e = omega arith
  part_no_twice first (suc i) (suc j) l h f s e =
      let k = alike_before i j (omega arith) h f s e in
      part_no_twice first i j (omega arith) (omega arith) k.0 k.1
      (sym (part.goes_on i (omega arith)) ∙ s ∙ part.goes_on j h)

  -- the sides between one and its other direction would close up on themselves
  inner : (m i j : ℕ) → j ≤ i + m → i < j → j < n → face i ≡ face j → start i ≡ end j → end i ≡ start j → ⊥
  inner zero i j b l h f s e = omega arith
  inner (suc m) i zero b l h f s e = omega arith
  inner (suc m) i (suc j) b l h f s e =
      elim (cases_eq i j) [
        | inl k ↦ part.differs i (omega arith) (f ∙ ap (λ k. face (suc k)) (sym k)) (s ∙ ap (λ k. end (suc k)) (sym k))
        | inr ne ↦
            -- at the copy where side i ends and side j + 1 begins
            let v : start (suc j) ≡ end j = part.goes_on j h in
            let i_at : start (suc i) ≡ end i = part.goes_on i (omega arith) in
            let side_i : Rim (face i) (end i) (start i) = paired.turned (part.side i (omega arith)) in
            let side_next : Rim (face (suc i)) (end i) (end (suc i)) =
            subst (λ v. Rim (face (suc i)) v (end (suc i))) i_at (part.side (suc i) (omega arith)) in
            let side_j : Rim (face j) (end i) (start j) =
            subst (λ v. Rim (face j) v (start j)) (sym v ∙ sym e) (paired.turned (part.side j (omega arith))) in
            let meets_i : Same (end i) (face i) (face (suc i)) = part.meets i (omega arith) in
            let meets_j : Same (end i) (face i) (face j) =
            subst (λ f. Same (end i) f (face j)) (sym f)
            (copying.turned (subst (λ v. Same v (face j) (face (suc j))) (sym v ∙ sym e) (part.meets j h))) in
            elim (paired.no_third side_i side_next side_j meets_i meets_j) [
              | inl m ↦ part.differs i (omega arith) m.0 m.1
              | inr o ↦ elim o [
                | inl m ↦ part.differs j h (sym m.0 ∙ f) (sym m.1 ∙ s)
                | inr k ↦ elim (cases_eq (suc i) j) [
                  | inl z ↦ paired.apart (part.side j (omega arith)) (sym k.1 ∙ ap end z)
                  | inr nz ↦ inner m (suc i) j (omega arith) (omega arith) (omega arith) k.0 (i_at ∙ e ∙ v) k.1
                ]
              ]
            ]
      ]

  pub part_no_return : (i j : ℕ) → i ≤ j → j < n → face i ≡ face j → start i ≡ end j → end i ≡ start j → ⊥
  part_no_return i j l h f s e = elim (cases_eq i j) [
    | inl k ↦ paired.apart (part.side i (omega arith)) (s ∙ ap end (sym k))
    | inr ne ↦ inner j i j (omega arith) (omega arith) h f s e
  ]

  pub part_once : IsFirstReturn n face start end → (i j : ℕ) → i < n → j < n → face i ≡ face j →
      Among (start i) (end i) (start j) (end j) → i ≡ j
  part_once first i j h k f m = elim m [
    | along s e ↦ elim (cases_lt i j) [
      | inl a ↦ absurd (part_no_twice first i j a k f (sym s) (sym e))
      | inr a ↦ elim (cases_lt j i) [
        | inl b ↦ absurd (part_no_twice first j i b h (sym f) s e)
        | inr b ↦ omega arith
      ]
    ]
    | back s e ↦ elim (cases_lt j i) [
      | inl b ↦ absurd (part_no_return j i (omega arith) h (sym f) s e)
      | inr b ↦ absurd (part_no_return i j b k f (sym e) (sym s))
    ]
  ]

abbrev First : Mesh → ℕ × ℕ → ℕ
First mesh x = get_or (face_at mesh x.0) x.1 0

abbrev Second : Mesh → ℕ × ℕ → ℕ
Second mesh x = get_or (face_at mesh x.0) (after (length (face_at mesh x.0)) x.1) 0

pub walks_return : WalksReturn
walks_return mesh uncut n face start end surface are part first =
    let sides = surface_sides surface in
    let darts = is_darts mesh surface.is_mesh in
    let twice = places_twice surface in
    pigeons n (edge_count mesh + edge_count mesh)
    (λ k t. (x : ℕ × ℕ) × IsPlace mesh x × (x.0 ≡ face k) × Among (First mesh x) (Second mesh x) (start k) (end k)
    × (twice.number x ≡ t))
    (λ k h. let x = darts.of_side (face k) (start k) (end k) (part.side k h).0 in
    (twice.number x.0, twice.below x.0 x.1, (x.0, x.1, x.2, x.3, refl)))
    (λ k l t h g a b.
    let same : a.0 ≡ b.0 = twice.tells a.0 b.0 a.1 b.1 (a.4 ∙ sym b.4) in
    let m : Among (First mesh a.0) (Second mesh a.0) (start l) (end l) =
    subst (λ x. Among (First mesh x) (Second mesh x) (start l) (end l)) (sym same) b.3 in
    part_once (always_paired sides uncut are) (copying sides uncut) part first k l h g
    (sym a.2 ∙ ap (λ (x : ℕ × ℕ). x.0) same ∙ b.2) (among_onward (among_sym a.3) m))
