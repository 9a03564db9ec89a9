-- Steps of a mesh as steps of its graph with signatures, and least lengths of walks with a signature.
use Rattle.surf_surfaces.proofs.Common.{◌≡◌, ℕ, suc, ◌+◌, ◌<◌, ◌≤◌, ◌^◌, ◌⊎◌, false, List, [], ◌∷◌, length, bit_xor, refl, sym, ap, ◌∙◌, subst, arith, inl, inr, Contains, cases_lt, xor_lt, primal, Split, signature, IsJoined, edge_between, Mesh, IsMesh, pair, edges, IsSurface, ArePositive, edge_length, edge_number, place_of, walk_length, cells_of, edge_signature, small, number_of-none, least_such}
use Rattle.surf_surfaces.proofs.meshes.CellLaws.{surfaces_are_cells}
use Rattle.surf_surfaces.proofs.meshes.EdgeLaws.{contains_from_among}
use Rattle.surf_surfaces.proofs.meshes.FaceLaws.{pair_comm}
use Rattle.surf_surfaces.proofs.walks.GraphWalkLaws.{joined, between_is_number, from_joined}
use Rattle.surf_classes.specs.Cover.{IsSet, LeadsWith, IsSignedDistance, IsTightFor}
use Rattle.surf_classes.proofs.SignedWalks.{walk_sum, turned, Goes, Found, seek}
use Rattle.surf_classes.proofs.Rounds.{Signed, signed_walk, mesh_walk, turn}

-- ---- sets

pub edge_set : (mesh : Mesh) (d : Split) (e : ℕ) → IsSet d (edge_signature mesh d e)
edge_set mesh d e = small (length d.left) (signature (cells_of mesh) d e)

pub xor_set : (d : Split) (a b : ℕ) → IsSet d a → IsSet d b → IsSet d (bit_xor a b)
xor_set d a b la lb = xor_lt (length d.left) a b la lb

pub none_set : (d : Split) → IsSet d 0
none_set d = subst (λ n. n < 2 ^ length d.left) (number_of-none (length d.left)) (small (length d.left) (λ k. false))

pub sum_set : (mesh : Mesh) (d : Split) (a : ℕ) (w : List ℕ) →
    IsSet d (walk_sum (primal (cells_of mesh)) (edge_signature mesh d) a w)
sum_set mesh d a [] = none_set d
sum_set mesh d a (c ∷ w) =
    let e = edge_between (primal (cells_of mesh)) a c in
    xor_set d (edge_signature mesh d e) (walk_sum (primal (cells_of mesh)) (edge_signature mesh d) c w)
    (edge_set mesh d e) (sum_set mesh d c w)

-- ---- steps

-- from v back to u
pub record StepBack (mesh : Mesh) (u v : ℕ) : Type 0 where
  pub is_joined : IsJoined (primal (cells_of mesh)) v u
  pub number : edge_between (primal (cells_of mesh)) v u ≡ edge_number mesh (u, v)

pub step_back : (mesh : Mesh) → IsMesh mesh → (u v : ℕ) → Contains (edges mesh) (pair u v) → StepBack mesh u v
step_back mesh m u v has =
    let back : Contains (edges mesh) (pair v u) = subst (Contains (edges mesh)) (pair_comm u v) has in
    record {
      is_joined = joined mesh v u back;
      number = between_is_number mesh m v u back ∙ ap (λ p. place_of p (edges mesh)) (pair_comm v u);
    }

pub edge_back : (mesh : Mesh) → IsMesh mesh → (u v : ℕ) → IsJoined (primal (cells_of mesh)) v u →
    Contains (edges mesh) (pair u v)
edge_back mesh m u v j =
    subst (Contains (edges mesh)) (pair_comm v u) (contains_from_among (pair v u) (edges mesh) (from_joined mesh m v u j))

-- a tight step, in the graph
pub record TightStep (mesh : Mesh) (lengths : List ℕ) (d : Split) (table : ℕ → ℕ → ℕ) (u v s : ℕ) : Type 0 where
  pub is_joined : IsJoined (primal (cells_of mesh)) v u
  pub adds_up : table u (bit_xor s (edge_signature mesh d (edge_between (primal (cells_of mesh)) v u)))
      + edge_length lengths (edge_between (primal (cells_of mesh)) v u) ≡ table v s

pub tight_to : (mesh : Mesh) (lengths : List ℕ) (d : Split) (table : ℕ → ℕ → ℕ) (u v s : ℕ) → IsMesh mesh →
    IsTightFor mesh lengths d table u v s → TightStep mesh lengths d table u v s
tight_to mesh lengths d table u v s m h =
    let step = step_back mesh m u v h.is_edge in
    record {
      is_joined = step.is_joined;
      adds_up = ap (λ e. table u (bit_xor s (edge_signature mesh d e)) + edge_length lengths e) step.number ∙ h.adds_up;
    }

pub tight_from : (mesh : Mesh) (lengths : List ℕ) (d : Split) (table : ℕ → ℕ → ℕ) (u v s : ℕ) → IsMesh mesh →
    TightStep mesh lengths d table u v s → IsTightFor mesh lengths d table u v s
tight_from mesh lengths d table u v s m h =
    let has = edge_back mesh m u v h.is_joined in
    let step = step_back mesh m u v has in
    record {
      is_edge = has;
      adds_up = ap (λ e. table u (bit_xor s (edge_signature mesh d e)) + edge_length lengths e) (sym step.number)
          ∙ h.adds_up;
    }

-- ---- least lengths

-- a walk from v back to x, and none is shorter
pub record Nearest (mesh : Mesh) (lengths : List ℕ) (d : Split) (x v s n : ℕ) : Type 0 where
  pub walk : List ℕ
  pub goes : Signed mesh lengths d v walk x n s
  pub least : (w : List ℕ) (m : ℕ) → Signed mesh lengths d v w x m s → n ≤ m

module _ (mesh : Mesh) (lengths : List ℕ) (d : Split) (surface : IsSurface mesh) where
  leads_back : (x v s : ℕ) (walk : List ℕ) → LeadsWith mesh d x v s walk →
      (w : List ℕ) × Signed mesh lengths d v w x (walk_length mesh lengths walk) s
  leads_back x v s [] h = absurd (omega (arith, h.leads.is_walk.begins))
  leads_back x v s (a ∷ rest) h =
      let n = walk_length mesh lengths (a ∷ rest) in
      let own = signed_walk mesh lengths d surface a rest h.leads.is_walk in
      let whole : Signed mesh lengths d a rest v n s =
      subst (λ b. Signed mesh lengths d a rest b n s) h.leads.ends
      (record { walk = own.walk; size = own.size; sum = own.sum ∙ h.signs }) in
      let from_x : Signed mesh lengths d x rest v n s =
      subst (λ b. Signed mesh lengths d b rest v n s) h.leads.begins whole in
      (turned x rest, turn mesh lengths d surface x rest v n s from_x)

  leads_from : (x v n s : ℕ) (w : List ℕ) → x < mesh.vertices → Signed mesh lengths d v w x n s →
      LeadsWith mesh d x v s (x ∷ turned v w) × (walk_length mesh lengths (x ∷ turned v w) ≡ n)
  leads_from x v n s w x_in h =
      let is = mesh_walk mesh lengths d surface x v n s (turned v w) x_in (turn mesh lengths d surface v w x n s h) in (
        record { leads = record { is_walk = is.is_walk; begins = refl; ends = is.ends }; signs = is.signs },
        is.size,
      )

  pub nearest_from : (x v s n : ℕ) → x < mesh.vertices → IsSignedDistance mesh lengths d x v s n →
      Nearest mesh lengths d x v s n
  nearest_from x v s n x_in h =
      let (walk, leads, size) = h.reached in
      let (w, goes) = leads_back x v s walk leads in
      record {
        walk = w;
        goes = record { walk = goes.walk; size = goes.size ∙ size; sum = goes.sum };
        least = λ u m there.
            let back = leads_from x v m s u x_in there in
            subst (λ k. n ≤ k) back.1 (h.least (x ∷ turned v u) back.0);
      }

  pub nearest_to : (x v s n : ℕ) → x < mesh.vertices → Nearest mesh lengths d x v s n →
      IsSignedDistance mesh lengths d x v s n
  nearest_to x v s n x_in h =
      let back = leads_from x v n s h.walk x_in h.goes in
      record {
        reached = (x ∷ turned v h.walk, back.0, back.1);
        least = λ walk leads.
            let (w, goes) = leads_back x v s walk leads in
            h.least w (walk_length mesh lengths walk) goes;
      }

  -- there is one least length
  pub nearest_one : (x v s n m : ℕ) → Nearest mesh lengths d x v s n → Nearest mesh lengths d x v s m → n ≡ m
  nearest_one x v s n m a b =
      let one = a.least b.walk m b.goes in
      let two = b.least a.walk n a.goes in
      omega (arith, one, two)

  -- and where there is a walk there is a least length
  pub nearest_exists : ArePositive mesh lengths → (x v s n : ℕ) (w : List ℕ) → Signed mesh lengths d v w x n s →
      (m : ℕ) × Nearest mesh lengths d x v s m
  nearest_exists positive x v s n w goes =
      let g = primal (cells_of mesh) in
      let graph = (surfaces_are_cells mesh surface).complex.primal_ends in
      let len = edge_length lengths in
      let sig = edge_signature mesh d in
      let sought : (m : ℕ) → Found g len sig graph positive x v m s ⊎ ((u : List ℕ) → Goes g len sig v u x m s → ⊥) =
      λ m. seek g len sig graph positive m m (omega arith) x v s in
      elim (least_such (suc n) (λ m. Found g len sig graph positive x v m s) (λ m l. elim (sought m) [
        | inl found ↦ inl found
        | inr none ↦ inr (λ found. none found.walk found.goes)
      ])) [
        | inl some ↦ (
          some.at,
          record {
            walk = some.holds.walk;
            goes = some.holds.goes;
            least = λ u m there. elim (cases_lt m (suc n)) [
              | inl below ↦ some.least m below (elim (sought m) [
                | inl found ↦ found
                | inr none ↦ absurd (none u there)
              ])
              | inr above ↦ let under : some.at < suc n = some.below in omega arith
            ];
          },
        )
        | inr none ↦ absurd (none n (omega arith) (elim (sought n) [
          | inl found ↦ found
          | inr out ↦ absurd (out w goes)
        ]))
      ]
