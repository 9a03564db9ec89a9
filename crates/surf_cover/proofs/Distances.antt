-- What a search over the cover has reached within a radius are the least lengths of walks by their signatures.
use Rattle.surf_cotree.proofs.Common.{◌≡◌, ◌≢◌, ℕ, zero, suc, ◌+◌, ◌-◌, ◌*◌, ◌/◌, ◌<◌, ◌≤◌, Bool, true, false, cond, eqb, List, [], ◌∷◌, slice_index, bit_xor, refl, sym, ap, ◌∙◌, subst, arith, inl, inr, cases_eq, Split, IsSplit, primal, IsJoined, edge_between, edge_between_is, joins_turned, Mesh, edge_count, ends, IsSurface, ArePositive, edge_length, cells_of, edge_signature, div_below, div-mul-add, same_from_place, joined_in, surfaces_are_cells}
use Rattle.surf_cover.proofs.Common.{longest, IsSet, IsSignedDistance, set_count, cover, cover_node, cover_edge, cover_length, is_cover, between_one, Signed, xor_on, goes_over, after, edge_set, xor_set, none_set, sum_set, nearest_from, xor_back, far, node_of, cover_by, length_by, IsSignedBy, IsReachedWithin}
use Rattle.surf_cover.proofs.Covering.{same_sign}

-- a number that is n as far as a radius, and past it stands for none
pub record IsWithin (radius n k : ℕ) : Type 0 where
  pub near : n ≤ radius → (k ≡ n) × (k < far)
  pub past : radius < n → k ≡ far

-- the table has the distances from x to all vertices with all sets as far as the radius
abbrev pub AreDistancesWithin : Mesh → List ℕ → Split → ℕ → ℕ → (ℕ → ℕ → ℕ) → Type 0
AreDistancesWithin mesh lengths d x radius table =
    (v set n : ℕ) → v < mesh.vertices → IsSet d set → IsSignedDistance mesh lengths d x v set n →
    IsWithin radius n (table v set)

module _ (mesh : Mesh) (lengths : List ℕ) (d : Split) (surface : IsSurface mesh) (split : IsSplit (cells_of mesh) d)
    (positive : ArePositive mesh lengths) (x radius : ℕ) (x_in : x < mesh.vertices) (dist : ℕ → ℕ)
    (reached : IsReachedWithin (cover mesh d) (cover_length lengths d) (cover_node d x 0) radius dist) where
  node_in : (v s : ℕ) → v < mesh.vertices → IsSet d s → cover_node d v s < mesh.vertices * set_count d
  node_in v s v_in s_in = (is_cover mesh d surface split).node_in v s v_in s_in

  -- a walk over an edge, by the edge's number
  over_edge : (v u : ℕ) (w : List ℕ) (e m n s : ℕ) → edge_between (primal (cells_of mesh)) v u ≡ e →
      Signed mesh lengths d v (u ∷ w) x (edge_length lengths (edge_between (primal (cells_of mesh)) v u) + m)
      (bit_xor (edge_signature mesh d (edge_between (primal (cells_of mesh)) v u)) (bit_xor s (edge_signature mesh d e))) →
      edge_length lengths e + m ≡ n → Signed mesh lengths d v (u ∷ w) x n s
  over_edge v u w e m n s between over size =
      let one : Signed mesh lengths d v (u ∷ w) x (edge_length lengths e + m)
      (bit_xor (edge_signature mesh d e) (bit_xor s (edge_signature mesh d e))) =
      subst (λ b. Signed mesh lengths d v (u ∷ w) x (edge_length lengths b + m)
      (bit_xor (edge_signature mesh d b) (bit_xor s (edge_signature mesh d e)))) between over in
      record { walk = one.walk; size = one.size ∙ size; sum = one.sum ∙ xor_on (edge_signature mesh d e) s }

  -- a distance is the length of a walk
  no_less : (k v s : ℕ) → dist (cover_node d v s) < k → v < mesh.vertices → IsSet d s → dist (cover_node d v s) ≢ far →
      (w : List ℕ) × Signed mesh lengths d v w x (dist (cover_node d v s)) s
  no_less zero v s l v_in s_in settled = absurd (omega arith)
  no_less (suc k) v s l v_in s_in settled = elim (cases_eq (cover_node d v s) (cover_node d x 0)) [
    | inl same ↦
        let at = same_from_place v s x 0 (set_count d) s_in (none_set d) same in
        ([], record { walk = at.0; size = sym (ap dist same ∙ reached.at_base); sum = sym at.1 })
    | inr away ↦
        let g = primal (cells_of mesh) in
        let sig = edge_signature mesh d in
        let len = edge_length lengths in
        let graph = (surfaces_are_cells mesh surface).complex.primal_ends in
        let r = reached.tight (cover_node d v s) (node_in v s v_in s_in) away settled in
        let (u, joined, at, edge) = (is_cover mesh d surface split).whole v s r.before r.edge s_in r.edge_in r.joined in
        let e = r.edge / set_count d in
        let e_in : e < edge_count mesh = div_below r.edge (set_count d) (edge_count mesh) (none_set d) r.edge_in in
        let is_joined : IsJoined g v u = (e, e_in, joined) in
        let between : edge_between g v u ≡ e = between_one mesh lengths d surface split v u e is_joined refl in
        let t = bit_xor s (sig e) in
        let long : 1 ≤ len e = positive e e_in in
        let is : dist (cover_node d v s) ≡ dist (cover_node d u t) + len e =
        r.is ∙ ap (λ n. dist n + len e) at in
        let (w, goes) = no_less k u t (omega (arith, l, long, is)) (joined_in g graph v u is_joined)
        (xor_set d s (sig e) s_in (edge_set mesh d e)) (subst (λ n. dist n ≢ far) at r.settled) in
        let over = goes_over g len sig v u w x (dist (cover_node d u t)) t is_joined goes in
        let size : len e + dist (cover_node d u t) ≡ dist (cover_node d v s) = omega (arith, is) in
        (u ∷ w, over_edge v u w e (dist (cover_node d u t)) (dist (cover_node d v s)) s between over size)
  ]

  -- no walk within the radius is missed
  no_more : (w : List ℕ) (v m s : ℕ) → v < mesh.vertices → Signed mesh lengths d v w x m s → m ≤ radius →
      (dist (cover_node d v s) ≢ far) × (dist (cover_node d v s) ≤ m)
  no_more [] v m s v_in h fits =
      let none : dist (cover_node d v s) ≡ 0 =
      ap (λ a. dist (cover_node d a s)) h.walk ∙ ap (λ a. dist (cover_node d x a)) (sym h.sum) ∙ reached.at_base in
      (λ e. absurd (omega (arith, none, e)), omega (arith, none))
  no_more (c ∷ w) v m s v_in h fits =
      let g = primal (cells_of mesh) in
      let len = edge_length lengths in
      let sig = edge_signature mesh d in
      let graph = (surfaces_are_cells mesh surface).complex.primal_ends in
      let is = is_cover mesh d surface split in
      let next = after g len sig v c w x m s h in
      let e = edge_between g v c in
      let (e_in, joined) = edge_between_is g v c next.joined in
      let c_in = joined_in g graph v c next.joined in
      let t = bit_xor s (sig e) in
      let s_in : IsSet d s = subst (IsSet d) h.sum (sum_set mesh d v (c ∷ w)) in
      let t_in : IsSet d t = xor_set d s (sig e) s_in (edge_set mesh d e) in
      let step : len e ≤ m = next.fits in
      let before = no_more w c (m - len e) t c_in next.rest (omega (arith, step, fits)) in
      let over = cover_edge mesh d c t e in
      let below : over / set_count d ≡ e = div-mul-add e (set_count d) (cond (eqb (ends mesh e).0 c) t (bit_xor t (sig e)))
      (pick (eqb (ends mesh e).0 c) t (bit_xor t (sig e)) t_in (xor_set d t (sig e) t_in (edge_set mesh d e))) in
      let far_end : cover_node d v (bit_xor t (sig e)) ≡ cover_node d v s = ap (cover_node d v) (xor_back (sig e) s) in
      let longer : cover_length lengths d over ≡ len e = ap len below in
      let here = reached.near (cover_node d c t) (cover_node d v (bit_xor t (sig e))) over (node_in c t c_in t_in)
      (node_in v (bit_xor t (sig e)) v_in (xor_set d t (sig e) t_in (edge_set mesh d e)))
      (is.edge_in c t e e_in t_in) (is.over c v t e e_in t_in (joins_turned g v c e joined)) before.0
      (omega (arith, before.1, longer, step, fits)) in
      let last : dist (cover_node d v (bit_xor t (sig e))) ≤ dist (cover_node d c t) + cover_length lengths d over = here.1 in (
        subst (λ n. dist n ≢ far) far_end here.0,
        subst (λ n. dist n ≤ m) far_end (omega (arith, last, before.1, longer, step)),
      )
    where
      pick : (b : Bool) (s t : ℕ) → IsSet d s → IsSet d t → cond b s t < set_count d
      pick true s t l m = l
      pick false s t l m = m

  -- so the table has the distances within the radius
  pub distances_within : ((u : ℕ) → u < mesh.vertices * set_count d → dist u ≢ far → dist u < far) →
      AreDistancesWithin mesh lengths d x radius (λ v s. dist (cover_node d v s))
  distances_within short v s n v_in s_in is =
      let here = nearest_from mesh lengths d surface x v s n x_in is in
      let node = cover_node d v s in
      record {
        near = λ fits.
            let (settled, most) = no_more here.walk v n s v_in here.goes fits in
            let (w, goes) = no_less (suc (dist node)) v s (omega arith) v_in s_in settled in
            let least : n ≤ dist node = here.least w (dist node) goes in
            (omega (arith, least, most), short node (node_in v s v_in s_in) settled);
        past = λ beyond. elim (cases_eq (dist node) far) [
          | inl none ↦ none
          | inr settled ↦
              let (w, goes) = no_less (suc (dist node)) v s (omega arith) v_in s_in settled in
              let least : n ≤ dist node = here.least w (dist node) goes in
              let within : dist node ≤ radius = reached.within node (node_in v s v_in s_in) settled in
              absurd (omega (arith, least, within, beyond))
        ];
      }

-- the same over the cover by a table of signatures
pub signed_within : (mesh : Mesh) (lengths : List ℕ) (d : Split) (sets : ℕ) (signs : List ℕ) →
    IsSignedBy mesh d sets signs → IsSurface mesh → ArePositive mesh lengths → mesh.vertices * sets ≤ 16777216 →
    (x radius : ℕ) → x < mesh.vertices → (distance : ℕ → ℕ) →
    IsReachedWithin (cover_by mesh sets (slice_index signs)) (length_by lengths sets) (node_of sets x 0) radius distance →
    AreDistancesWithin mesh lengths d x radius (λ v set. distance (node_of sets v set))
signed_within mesh lengths d sets signs signed surface positive few x radius x_in distance reached =
    let first : IsReachedWithin (cover_by mesh sets (edge_signature mesh d)) (length_by lengths sets) (node_of sets x 0) radius distance =
    subst (λ (s : ℕ → ℕ). IsReachedWithin (cover_by mesh sets s) (length_by lengths sets) (node_of sets x 0) radius distance)
    (same_sign mesh d sets signs signed) reached in
    let whole : IsReachedWithin (cover mesh d) (cover_length lengths d) (cover_node d x 0) radius distance =
    subst (λ n. IsReachedWithin (cover_by mesh n (edge_signature mesh d)) (length_by lengths n) (node_of n x 0) radius distance)
    signed.sets_are first in
    let fewer : mesh.vertices * set_count d ≤ 16777216 = subst (λ n. mesh.vertices * n ≤ 16777216) signed.sets_are few in
    subst (λ n. AreDistancesWithin mesh lengths d x radius (λ v set. distance (node_of n v set))) (sym signed.sets_are)
    (distances_within mesh lengths d surface signed.split positive x radius x_in distance whole
    (λ u l settled.
    let fits : distance u + longest ≤ mesh.vertices * set_count d * longest = whole.fits u l settled in
    omega (arith, fits, fewer)))
