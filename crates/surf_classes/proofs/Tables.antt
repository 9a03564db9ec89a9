-- A certified table has the distances.
use Rattle.surf_surfaces.proofs.Common.{◌≡◌, ℕ, zero, suc, ◌+◌, ◌-◌, ◌<◌, ◌≤◌, ◌⊎◌, List, [], ◌∷◌, bit_xor, sym, ap, ◌∙◌, subst, arith, inl, inr, cases_eq, numbers, primal, Split, IsJoined, edge_between, edge_between_is, Mesh, ends, IsSurface, ArePositive, edge_length, cells_of, edge_signature, walk_signature, joined_in, one_of}
use Rattle.surf_surfaces.proofs.meshes.CellLaws.{surfaces_are_cells}
use Rattle.surf_classes.specs.Cover.{IsSet, AreSignedDistances, IsCertified}
use Rattle.surf_classes.specs.ShortestLaws.{CertifiedTablesAreDistances, CertifiedTablesChoose}
use Rattle.surf_classes.proofs.SignedWalks.{xor_on, goes_over, after, step_long}
use Rattle.surf_classes.proofs.Rounds.{Signed}
use Rattle.surf_classes.proofs.ReadBack.{walk_set, read_back_is_chosen}
use Rattle.surf_classes.proofs.SignedSteps.{edge_set, xor_set, sum_set, tight_to, nearest_to}

pub xor_back : (a s : ℕ) → bit_xor (bit_xor s a) a ≡ s
xor_back a s = numbers.comm (bit_xor s a) a ∙ xor_on a s

module _ (mesh : Mesh) (lengths : List ℕ) (d : Split) (surface : IsSurface mesh) (positive : ArePositive mesh lengths)
    (x : ℕ) (table : ℕ → ℕ → ℕ) (certified : IsCertified mesh lengths d x table) where
  -- no step is a short cut
  step_bound : (v c s : ℕ) → IsJoined (primal (cells_of mesh)) v c → IsSet d s →
      table v s ≤ table c (bit_xor s (edge_signature mesh d (edge_between (primal (cells_of mesh)) v c)))
      + edge_length lengths (edge_between (primal (cells_of mesh)) v c)
  step_bound v c s j is_set =
      let g = primal (cells_of mesh) in
      let e = edge_between g v c in
      let is = edge_between_is g v c j in
      let t = bit_xor s (edge_signature mesh d e) in
      let both = certified.no_short_cut e t is.0 (xor_set d s (edge_signature mesh d e) is_set (edge_set mesh d e)) in
      let back : bit_xor t (edge_signature mesh d e) ≡ s = xor_back (edge_signature mesh d e) s in
      elim (one_of g v c e is.1) [
        | inl same ↦
            let bound : table (ends mesh e).0 s ≤ table (ends mesh e).1 t + edge_length lengths e =
            subst (λ k. table (ends mesh e).0 k ≤ table (ends mesh e).1 t + edge_length lengths e) back both.1 in
            subst (λ b. table v s ≤ table b t + edge_length lengths e) same.1
            (subst (λ a. table a s ≤ table (ends mesh e).1 t + edge_length lengths e) same.0 bound)
        | inr same ↦
            let bound : table (ends mesh e).1 s ≤ table (ends mesh e).0 t + edge_length lengths e =
            subst (λ k. table (ends mesh e).1 k ≤ table (ends mesh e).0 t + edge_length lengths e) back both.0 in
            subst (λ b. table v s ≤ table b t + edge_length lengths e) same.0
            (subst (λ a. table a s ≤ table (ends mesh e).0 t + edge_length lengths e) same.1 bound)
      ]

  -- no walk is shorter than the table says
  table_least : (w : List ℕ) (v m s : ℕ) → Signed mesh lengths d v w x m s → table v s ≤ m
  table_least [] v m s h =
      let none : table v s ≡ 0 = ap (λ a. table a s) h.walk ∙ ap (table x) (sym h.sum) ∙ certified.none_at_start in
      omega arith
  table_least (c ∷ w) v m s h =
      let g = primal (cells_of mesh) in
      let len = edge_length lengths in
      let sig = edge_signature mesh d in
      let e = edge_between g v c in
      let t = bit_xor s (sig e) in
      let next = after g len sig v c w x m s h in
      let is_set : IsSet d s = subst (IsSet d) h.sum (sum_set mesh d v (c ∷ w)) in
      let rest : table c t ≤ m - len e = table_least w c (m - len e) t next.rest in
      let step : table v s ≤ table c t + len e = step_bound v c s next.joined is_set in
      let fits : len e ≤ m = next.fits in
      omega arith

  -- and there is one that is as long
  table_reached : (k v s : ℕ) → table v s < k → v < mesh.vertices → IsSet d s →
      (w : List ℕ) × Signed mesh lengths d v w x (table v s) s
  table_reached zero v s l v_in is_set = absurd (omega arith)
  table_reached (suc k) v s l v_in is_set = elim (start v s) [
    | inl here ↦ (
      [],
      record {
        walk = here.0;
        size = sym (ap (λ a. table a s) here.0 ∙ ap (table x) here.1 ∙ certified.none_at_start);
        sum = sym here.1;
      },
    )
    | inr away ↦
        let g = primal (cells_of mesh) in
        let len = edge_length lengths in
        let sig = edge_signature mesh d in
        let graph = (surfaces_are_cells mesh surface).complex.primal_ends in
        let (u, is_tight) = certified.tight v s v_in is_set (λ a b. away (a, b)) in
        let tight = tight_to mesh lengths d table u v s surface.is_mesh is_tight in
        let e = edge_between g v u in
        let t = bit_xor s (sig e) in
        let long : 1 ≤ len e = step_long g len sig graph positive v u tight.is_joined in
        let adds_up : table u t + len e ≡ table v s = tight.adds_up in
        let (w, goes) = table_reached k u t (omega arith) (joined_in g graph v u tight.is_joined)
        (xor_set d s (sig e) is_set (edge_set mesh d e)) in
        let over = goes_over g len sig v u w x (table u t) t tight.is_joined goes in
        let size : len e + table u t ≡ table v s = omega arith in
        (u ∷ w, record { walk = over.walk; size = over.size ∙ size; sum = over.sum ∙ xor_on (sig e) s })
  ]
    where
      start : (v s : ℕ) → ((v ≡ x) × (s ≡ 0)) ⊎ ((v ≡ x) × (s ≡ 0) → ⊥)
      start v s = elim (cases_eq v x) [
        | inr ne ↦ inr (λ h. ne h.0)
        | inl at ↦ elim (cases_eq s 0) [ inr ne ↦ inr (λ h. ne h.1) | inl none ↦ inl (at, none) ]
      ]

pub certified_tables_are_distances : CertifiedTablesAreDistances
certified_tables_are_distances mesh lengths d x table surface positive x_in certified v s v_in is_set =
    let (w, goes) = table_reached mesh lengths d surface positive x table certified (suc (table v s)) v s (omega arith)
    v_in is_set in
    nearest_to mesh lengths d surface x v s (table v s) x_in (record {
      walk = w;
      goes = goes;
      least = λ u m there. table_least mesh lengths d surface positive x table certified u v m s there;
    })

pub certified_tables_choose : CertifiedTablesChoose
certified_tables_choose mesh lengths d walk surface positive split closed tables certified x x_in shortest least before
    read =
    let s = walk_signature mesh d walk in
    let is_set = walk_set mesh d walk surface closed in
    let distances : (y : ℕ) → y < mesh.vertices → AreSignedDistances mesh lengths d y (tables y) =
    λ y y_in. certified_tables_are_distances mesh lengths d y (tables y) surface positive y_in (certified y y_in) in
    read_back_is_chosen mesh lengths d walk surface positive split closed (λ y. tables y y s) x (tables x) before
    (record {
      rounds = λ y y_in. distances y y_in y s y_in is_set;
      base_in = x_in;
      shortest = shortest;
      least = least;
    })
    (distances x x_in) read
