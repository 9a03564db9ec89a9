-- Tight steps over the cover are tight steps of the mesh with signatures.
use Rattle.surf_cotree.proofs.Common.{◌≡◌, ◌≢◌, ℕ, ◌+◌, ◌*◌, ◌/◌, ◌%◌, ◌<◌, ◌≤◌, Bool, true, false, cond, eqb, List, slice_index, bit_xor, refl, sym, ap, ◌∙◌, subst, add-zero, arith, div_below, div-mul-add, mod-mul-add, div-add-mod', mod_below, row_fits, Split, IsSplit, primal, IsJoined, edge_between, edge_between_is, Mesh, edge_count, ends, IsSurface, ArePositive, edge_length, edge_number, cells_of, edge_signature, joined_in, surfaces_are_cells}
use Rattle.surf_cover.proofs.Common.{IsSet, IsTightFor, IsLeastTight, IsCertified, step_signature, set_count, cover, cover_node, cover_edge, cover_length, is_cover, between_one, edge_set, xor_set, none_set, step_back, tight_to, tight_from, IsTight, node_of, cover_by, length_by, IsSignedBy, IsCertifiedBy}
use Rattle.surf_tree.specs.Searches.{IsLeastTight as IsLeastTightIn}
use Rattle.surf_cover.proofs.Covering.{same_sign, some_set}

module _ (mesh : Mesh) (lengths : List ℕ) (d : Split) (surface : IsSurface mesh) (split : IsSplit (cells_of mesh) d)
    (dist : ℕ → ℕ) where
  -- a tight step of the mesh is one of the cover
  module _ (w v set : ℕ) (v_in : v < mesh.vertices) (set_in : IsSet d set) (tight : IsTightFor mesh lengths d (λ v s. dist (cover_node d v s)) w v set) where
    tight_up : (s e : ℕ) × IsSet d s × (w < mesh.vertices)
        × IsTight (cover mesh d) (cover_length lengths d) dist (cover_node d v set) (cover_node d w s) e
    tight_up =
        let g = primal (cells_of mesh) in
        let is = is_cover mesh d surface split in
        let step = tight_to mesh lengths d (λ v s. dist (cover_node d v s)) w v set surface.is_mesh tight in
        let e = edge_between g v w in
        let (e_in, joined) = edge_between_is g v w step.is_joined in
        let s = bit_xor set (edge_signature mesh d e) in
        let c = cover_edge mesh d v set e in
        let s_in = xor_set d set (edge_signature mesh d e) set_in (edge_set mesh d e) in
        let below : c / set_count d ≡ e = div-mul-add e (set_count d) (cond (eqb (ends mesh e).0 v) set s) (pick (eqb (ends mesh e).0 v) s s_in) in (
          s,
          c,
          s_in,
          joined_in g (surfaces_are_cells mesh surface).complex.primal_ends v w step.is_joined,
          record {
            edge_in = is.edge_in v set e e_in set_in;
            joined = is.over v w set e e_in set_in joined;
            is = ap (λ k. dist (cover_node d w s) + edge_length lengths k) below ∙ step.adds_up;
          },
        )
      where
        pick : (b : Bool) (s : ℕ) → IsSet d s → cond b set s < set_count d
        pick true s l = set_in
        pick false s l = l

  -- and the other way round
  tight_down : (v set b c : ℕ) → IsSet d set → IsTight (cover mesh d) (cover_length lengths d) dist (cover_node d v set) b c →
      (u : ℕ) × IsTightFor mesh lengths d (λ v s. dist (cover_node d v s)) u v set
      × (b ≡ cover_node d u (bit_xor set (step_signature mesh d u v)))
      × IsSet d (bit_xor set (step_signature mesh d u v))
  tight_down v set b c set_in tight =
      let g = primal (cells_of mesh) in
      let sig = edge_signature mesh d in
      let N = set_count d in
      let is = is_cover mesh d surface split in
      let (u, joined, at, edge) = is.whole v set b c set_in tight.edge_in tight.joined in
      let e = c / N in
      let e_in : e < edge_count mesh = div_below c N (edge_count mesh) (none_set d) tight.edge_in in
      let is_joined : IsJoined g v u = (e, e_in, joined) in
      let between : edge_between g v u ≡ e = between_one mesh lengths d surface split v u e is_joined refl in
      let total : dist (cover_node d u (bit_xor set (sig e))) + edge_length lengths e ≡ dist (cover_node d v set) =
      ap (λ k. dist k + edge_length lengths e) (sym at) ∙ tight.is in
      let one = tight_from mesh lengths d (λ y t. dist (cover_node d y t)) u v set surface.is_mesh (record {
        is_joined = is_joined;
        adds_up = ap (λ k. dist (cover_node d u (bit_xor set (sig k))) + edge_length lengths k) between ∙ total;
      }) in
      let same : e ≡ edge_number mesh (u, v) = sym between ∙ (step_back mesh surface.is_mesh u v one.is_edge).number in (
        u,
        one,
        at ∙ ap (λ k. cover_node d u (bit_xor set (sig k))) same,
        subst (λ k. IsSet d (bit_xor set (sig k))) same (xor_set d set (sig e) set_in (edge_set mesh d e)),
      )

-- what a step back from a node over the cover is
pub record IsStep (mesh : Mesh) (lengths : List ℕ) (d : Split) (sets : ℕ) (dist : ℕ → ℕ) (v set u : ℕ) : Type 0 where
  pub inside : u < mesh.vertices * sets
  pub least : IsLeastTight mesh lengths d (λ y s. dist (node_of sets y s)) (u / sets) v set
  pub rest : u % sets ≡ bit_xor set (step_signature mesh d (u / sets) v)
  pub nearer : dist u < dist (node_of sets v set)

module _ (mesh : Mesh) (lengths : List ℕ) (d : Split) (surface : IsSurface mesh) (split : IsSplit (cells_of mesh) d)
    (positive : ArePositive mesh lengths) (dist : ℕ → ℕ) (x v set u e : ℕ) (v_in : v < mesh.vertices)
    (away : v ≡ x → set ≡ 0 → ⊥) where
  step_here : IsSet d set → mesh.vertices * set_count d ≤ 16777216 →
      IsCertified mesh lengths d x (λ y s. dist (cover_node d y s)) →
      IsLeastTightIn (cover mesh d) (cover_length lengths d) dist (cover_node d v set) u e →
      IsStep mesh lengths d (set_count d) dist v set u
  step_here set_in few certified h =
      let N = set_count d in
      let some : 0 < N = none_set d in
      let (w, near) = certified.tight v set v_in set_in away in
      let (s, c, s_in, w_in, up) = tight_up mesh lengths d surface split dist w v set v_in set_in near in
      let most : u ≤ cover_node d w s = h.least (cover_node d w s) c up in
      let fits : w * N + N ≤ mesh.vertices * N = row_fits w N mesh.vertices N w_in (omega arith) in
      let u_in : u < mesh.vertices * N = omega (arith, most, fits, s_in) in
      let (_, tight) = h.tight (omega (arith, u_in, few)) in
      let (y, one, at, rest_in) = tight_down mesh lengths d surface split dist v set u e set_in tight in
      let r = bit_xor set (step_signature mesh d y v) in
      let y_is : u / N ≡ y = ap (λ n. n / N) at ∙ div-mul-add y N (bit_xor set (step_signature mesh d y v)) rest_in in
      let r_is : u % N ≡ bit_xor set (step_signature mesh d y v) = ap (λ n. n % N) at ∙ mod-mul-add y N (bit_xor set (step_signature mesh d y v)) rest_in in
      let long : 1 ≤ edge_length lengths (e / N) = positive (e / N) (div_below e N (edge_count mesh) some tight.edge_in) in
      let sum : dist u + edge_length lengths (e / N) ≡ dist (cover_node d v set) = tight.is in
      record {
        inside = u_in;
        least = record {
          tight = subst (λ k. IsTightFor mesh lengths d (λ y s. dist (cover_node d y s)) k v set) (sym y_is) one;
          least = λ z tz.
              let (sz, cz, sz_in, z_in, up_z) = tight_up mesh lengths d surface split dist z v set v_in set_in tz in
              let below : u ≤ cover_node d z sz = h.least (cover_node d z sz) cz up_z in
              let under : u / N < z + 1 = div_below u N (z + 1) some (omega (arith, below, sz_in)) in
              omega (arith, under);
        };
        rest = subst (λ k. u % N ≡ bit_xor set (step_signature mesh d k v)) (sym y_is) r_is;
        nearer = omega (arith, long, sum);
      }

  -- a least tight link of a search is a step back
  pub step_by : (sets : ℕ) (signs : List ℕ) → IsSignedBy mesh d sets signs → set < sets → mesh.vertices * sets ≤ 16777216 →
      IsCertified mesh lengths d x (λ y s. dist (node_of sets y s)) →
      IsLeastTightIn (cover_by mesh sets (slice_index signs)) (length_by lengths sets) dist (node_of sets v set) u e →
      IsStep mesh lengths d sets dist v set u
  step_by sets signs signed set_in few certified h =
      let Q : ℕ → Type 0 = λ n. set < n → mesh.vertices * n ≤ 16777216 → IsCertified mesh lengths d x (λ y s. dist (node_of n y s)) →
      IsLeastTightIn (cover_by mesh n (edge_signature mesh d)) (length_by lengths n) dist (node_of n v set) u e →
      IsStep mesh lengths d n dist v set u in
      let here : Q sets = subst Q (sym signed.sets_are) step_here in
      here set_in few certified
      (subst (λ (f : ℕ → ℕ). IsLeastTightIn (cover_by mesh sets f) (length_by lengths sets) dist (node_of sets v set) u e)
      (same_sign mesh d sets signs signed) h)

-- the same by the number of the node
pub step_at : (mesh : Mesh) (lengths : List ℕ) (sets : ℕ) (signs distances : List ℕ) (base : ℕ) → IsSurface mesh → ArePositive mesh lengths →
    mesh.vertices * sets ≤ 16777216 → (node u e : ℕ) → node < mesh.vertices * sets → node ≢ base * sets →
    IsLeastTightIn (cover_by mesh sets (slice_index signs)) (length_by lengths sets) (slice_index distances) node u e →
    (d : Split) → IsCertifiedBy mesh lengths d sets signs distances base →
    IsStep mesh lengths d sets (slice_index distances) (node / sets) (node % sets) u × (slice_index distances u < slice_index distances node)
step_at mesh lengths sets signs distances base surface positive few node u e node_in away h d by =
    let dist : ℕ → ℕ = slice_index distances in
    let some = some_set mesh d sets signs by.signed in
    let v = node / sets in
    let set = node % sets in
    let whole : v * sets + set ≡ node = div-add-mod' node sets in
    let step = step_by mesh lengths d surface by.signed.split positive (slice_index distances) base v set u e
    (div_below node sets mesh.vertices some node_in)
    (λ at none. away (sym whole ∙ ap (λ n. n * sets + set) at ∙ ap (λ s. base * sets + s) none ∙ add-zero (base * sets)))
    sets signs by.signed (mod_below node sets some) few by.certified
    (subst (λ n. IsLeastTightIn (cover_by mesh sets (slice_index signs)) (length_by lengths sets) (slice_index distances) n u e) (sym whole) h) in
    (step, subst (λ n. slice_index distances u < slice_index distances n) whole step.nearer)
