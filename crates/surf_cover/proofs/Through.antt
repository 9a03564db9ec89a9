-- Rounds by way of a vertex, and their lengths by the distances from there.
use Rattle.surf_cotree.proofs.Common.{◌≡◌, ℕ, true, ◌+◌, ◌<◌, ◌≤◌, List, ◌++◌, bit_xor, subst, arith, has, Split, primal, Mesh, IsSurface, edge_length, cells_of, edge_signature}
use Rattle.surf_cover.proofs.Common.{IsSet, AreSignedDistances, Signed, turn, turned, goes-append, xor_on, xor_off, xor_set, sum_set, Nearest, nearest_from}
use Rattle.surf_cover.proofs.Passing.{Begins, passes}

-- a round at a vertex
abbrev pub HasRound : Mesh → List ℕ → Split → ℕ → ℕ → ℕ → Type 0
HasRound mesh lengths d y n set = (w : List ℕ) × Signed mesh lengths d y w y n set

-- by way of a vertex
pub record HasRoundBy (mesh : Mesh) (lengths : List ℕ) (d : Split) (m y n set : ℕ) : Type 0 where
  pub first : List ℕ
  pub last : List ℕ
  pub middle : ℕ
  pub first_size : ℕ
  pub last_size : ℕ
  pub is_set : IsSet d middle
  pub goes_to : Signed mesh lengths d y first m first_size middle
  pub goes_on : Signed mesh lengths d y last m last_size (bit_xor set middle)
  pub size : first_size + last_size ≡ n

module _ (mesh : Mesh) (lengths : List ℕ) (d : Split) (surface : IsSurface mesh) where
  -- each round with a set that has a number goes by way of a vertex at which an edge begins whose signature has it
  pub round_by : (k y n set : ℕ) → HasRound mesh lengths d y n set → has set k ≡ true →
      (m : ℕ) × Begins (primal (cells_of mesh)) (edge_length lengths) (edge_signature mesh d) k m
      × HasRoundBy mesh lengths d m y n set
  round_by k y n set (w, goes) on =
      let p = passes (primal (cells_of mesh)) (edge_length lengths) (edge_signature mesh d) k y w y n set goes on in
      let rest : p.last_sum ≡ bit_xor set p.first_sum = xor_off p.first_sum p.last_sum set p.sum in
      let back : Signed mesh lengths d y (turned p.at p.onward) p.at p.last_size p.last_sum =
      turn mesh lengths d surface p.at p.onward y p.last_size p.last_sum p.goes_on in (
        p.at,
        p.begins,
        record {
          first = p.there;
          last = turned p.at p.onward;
          middle = p.first_sum;
          first_size = p.first_size;
          last_size = p.last_size;
          is_set = subst (IsSet d) p.goes_there.sum (sum_set mesh d y p.there);
          goes_to = p.goes_there;
          goes_on = subst (λ s. Signed mesh lengths d y (turned p.at p.onward) p.at p.last_size s) rest back;
          size = p.size;
        },
      )

  module _ (m : ℕ) (m_in : m < mesh.vertices) (table : ℕ → ℕ → ℕ)
      (distances : AreSignedDistances mesh lengths d m table) (y : ℕ) (y_in : y < mesh.vertices)
      (set : ℕ) (set_in : IsSet d set) where
    near : (v s : ℕ) → v < mesh.vertices → IsSet d s → Nearest mesh lengths d m v s (table v s)
    near v s v_in s_in = nearest_from mesh lengths d surface m v s (table v s) m_in (distances v s v_in s_in)

    -- no such round is shorter than two shortest ways
    pub round_least : (n : ℕ) → HasRoundBy mesh lengths d m y n set →
        (s : ℕ) × IsSet d s × (table y s + table y (bit_xor set s) ≤ n)
    round_least n r =
        let first : table y r.middle ≤ r.first_size =
        (near y r.middle y_in r.is_set).least r.first r.first_size r.goes_to in
        let rest_set = xor_set d set r.middle set_in r.is_set in
        let last : table y (bit_xor set r.middle) ≤ r.last_size =
        (near y (bit_xor set r.middle) y_in rest_set).least r.last r.last_size r.goes_on in
        let size : r.first_size + r.last_size ≡ n = r.size in
        (r.middle, r.is_set, omega arith)

    module _ (s : ℕ) (s_in : IsSet d s) where
      -- two shortest ways make a round at either end
      pub round_here : HasRound mesh lengths d y (table y s + table y (bit_xor set s)) set
      round_here =
          let one = near y s y_in s_in in
          let two = near y (bit_xor set s) y_in (xor_set d set s set_in s_in) in
          let back = turn mesh lengths d surface y two.walk m (table y (bit_xor set s)) (bit_xor set s) two.goes in
          let whole = goes-append (primal (cells_of mesh)) (edge_length lengths) (edge_signature mesh d)
          y one.walk m (turned y two.walk) y (table y s) (table y (bit_xor set s)) s (bit_xor set s) one.goes back in
          let walk = one.walk ++ turned y two.walk in
          let n = table y s + table y (bit_xor set s) in
          (walk, subst (λ x. Signed mesh lengths d y walk y n x) (xor_on s set) whole)

      pub round_there : table m set ≤ table y s + table y (bit_xor set s)
      round_there =
          let one = near y s y_in s_in in
          let two = near y (bit_xor set s) y_in (xor_set d set s set_in s_in) in
          let back = turn mesh lengths d surface y one.walk m (table y s) s one.goes in
          let whole = goes-append (primal (cells_of mesh)) (edge_length lengths) (edge_signature mesh d)
          m (turned y one.walk) y two.walk m (table y s) (table y (bit_xor set s)) s (bit_xor set s) back two.goes in
          let walk = turned y one.walk ++ two.walk in
          let n = table y s + table y (bit_xor set s) in
          (near m set m_in set_in).least walk n (subst (λ x. Signed mesh lengths d m walk m n x) (xor_on s set) whole)
