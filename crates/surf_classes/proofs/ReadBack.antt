-- What is read back off the distances is the chosen walk.
use Rattle.surf_surfaces.proofs.Common.{◌≡◌, ℕ, zero, suc, ◌+◌, ◌-◌, ◌<◌, ◌≤◌, ◌⊎◌, List, [], ◌∷◌, ◌++◌, length, bit_xor, refl, sym, ap, ◌∙◌, subst, arith, inl, inr, cases_eq, cases_Bool, false≢true, primal, Split, chain_signature, edge_between, Mesh, pair, edges, among, IsSurface, IsClosed, ArePositive, edge_length, parity, cells_of, edge_signature, walk_signature, small, joined_in, least_such}
use Rattle.surf_surfaces.proofs.meshes.CellLaws.{surfaces_are_cells}
use Rattle.surf_surfaces.proofs.meshes.EdgeLaws.{among-contains, contains_from_among}
use Rattle.surf_surfaces.proofs.classes.SignatureLaws.{signatures_are_classes}
use Rattle.surf_classes.specs.Cover.{IsSet, IsTightFor, IsLeastTight, IsReadBack, IsReadTo, IsCertified, step_signature, step_length}
use Rattle.surf_classes.specs.ShortestLaws.{ReadBackIsChosen, TablesAreReadBack, TablesReadOn}
use Rattle.surf_classes.proofs.SignedWalks.{xor_on, goes_over, after, step_long}
use Rattle.surf_classes.proofs.Rounds.{Signed, forwards}
use Rattle.surf_classes.proofs.ChosenWalks.{Least, LeastRound, chosen_from}
use Rattle.surf_classes.proofs.SignedSteps.{edge_set, xor_set, step_back, tight_to, tight_from, Nearest, nearest_from, nearest_one}

-- what is read back from a vertex with a set: it goes there, is shortest, and has the least vertices
pub record Reads (mesh : Mesh) (lengths : List ℕ) (d : Split) (x n v s : ℕ) (before : List ℕ) : Type 0 where
  pub goes : Signed mesh lengths d v before x n s
  pub least : Least mesh lengths d x v before

module _ (mesh : Mesh) (lengths : List ℕ) (d : Split) (surface : IsSurface mesh) (positive : ArePositive mesh lengths)
    (x : ℕ) (table : ℕ → ℕ → ℕ)
    (near : (v s : ℕ) → v < mesh.vertices → IsSet d s → Nearest mesh lengths d x v s (table v s)) where
  -- a first step of a shortest way is tight
  first_tight : (v s y : ℕ) (w : List ℕ) → v < mesh.vertices → IsSet d s →
      Signed mesh lengths d v (y ∷ w) x (table v s) s → IsTightFor mesh lengths d table y v s
  first_tight v s y w v_in is_set goes =
      let g = primal (cells_of mesh) in
      let len = edge_length lengths in
      let sig = edge_signature mesh d in
      let e = edge_between g v y in
      let next = after g len sig v y w x (table v s) s goes in
      let y_in : y < mesh.vertices = joined_in g (surfaces_are_cells mesh surface).complex.primal_ends v y next.joined in
      let t = bit_xor s (sig e) in
      let there = near y t y_in (xor_set d s (sig e) is_set (edge_set mesh d e)) in
      let below : table y t ≤ table v s - len e = there.least w (table v s - len e) next.rest in
      let over = goes_over g len sig v y there.walk x (table y t) t next.joined there.goes in
      let again : Signed mesh lengths d v (y ∷ there.walk) x (len e + table y t) s =
      record { walk = over.walk; size = over.size; sum = over.sum ∙ xor_on (sig e) s } in
      let above : table v s ≤ len e + table y t =
      (near v s v_in is_set).least (y ∷ there.walk) (len e + table y t) again in
      let fits : len e ≤ table v s = next.fits in
      tight_from mesh lengths d table y v s surface.is_mesh
      (record { is_joined = next.joined; adds_up = omega arith })

  pub reads : (v s : ℕ) (before : List ℕ) → v < mesh.vertices → IsSet d s →
      IsReadBack mesh lengths d x table v s before → Reads mesh lengths d x (table v s) v s before
  reads v s [] v_in is_set (at, none) =
      let here : Signed mesh lengths d v [] x 0 s = record { walk = at; size = refl; sum = sym none } in
      let zero_is : table v s ≤ 0 = (near v s v_in is_set).least [] 0 here in
      record { goes = record { walk = at; size = omega arith; sum = sym none }; least = tt }
  reads v s (u ∷ before) v_in is_set (step, rest) =
      let g = primal (cells_of mesh) in
      let len = edge_length lengths in
      let sig = edge_signature mesh d in
      let e = edge_between g v u in
      let tight = tight_to mesh lengths d table u v s surface.is_mesh step.tight in
      let number = (step_back mesh surface.is_mesh u v step.tight.is_edge).number in
      let u_in : u < mesh.vertices = joined_in g (surfaces_are_cells mesh surface).complex.primal_ends v u tight.is_joined
      in
      let t = bit_xor s (sig e) in
      let rest_there : IsReadBack mesh lengths d x table u t before =
      subst (λ k. IsReadBack mesh lengths d x table u (bit_xor s (sig k)) before) (sym number) rest in
      let r = reads u t before u_in (xor_set d s (sig e) is_set (edge_set mesh d e)) rest_there in
      let over = goes_over g len sig v u before x (table u t) t tight.is_joined r.goes in
      let adds_up : table u t + len e ≡ table v s = tight.adds_up in
      let size : len e + table u t ≡ table v s = omega arith in
      let goes : Signed mesh lengths d v (u ∷ before) x (table v s) s =
      record { walk = over.walk; size = over.size ∙ size; sum = over.sum ∙ xor_on (sig e) s } in
      record {
        goes = goes;
        least = (
          (λ y w other. step.least y (first_tight v s y w v_in is_set
              (record { walk = other.walk; size = other.size ∙ goes.size; sum = other.sum ∙ goes.sum }))),
          r.least,
        );
      }

pub walk_set : (mesh : Mesh) (d : Split) (walk : List ℕ) → IsSurface mesh → IsClosed mesh walk →
    IsSet d (walk_signature mesh d walk)
walk_set mesh d walk surface closed =
    subst (IsSet d) (sym (signatures_are_classes mesh d surface walk closed.is_walk))
    (small (length d.left) (chain_signature (cells_of mesh) d (parity mesh walk)))

pub read_back_is_chosen : ReadBackIsChosen
read_back_is_chosen mesh lengths d walk surface positive split closed round x table before base distances read =
    let s = walk_signature mesh d walk in
    let near : (v t : ℕ) → v < mesh.vertices → IsSet d t → Nearest mesh lengths d x v t (table v t) =
    λ v t v_in is_set. nearest_from mesh lengths d surface x v t (table v t) base.base_in (distances v t v_in is_set) in
    let rounds : (y : ℕ) → y < mesh.vertices → Nearest mesh lengths d y y s (round y) =
    λ y y_in. nearest_from mesh lengths d surface y y s (round y) y_in (base.rounds y y_in) in
    let is_set = walk_set mesh d walk surface closed in
    let r = reads mesh lengths d surface positive x table near x s before base.base_in is_set read in
    let same : table x s ≡ round x = nearest_one mesh lengths d surface x x s (table x s) (round x)
    (near x s base.base_in is_set) (rounds x base.base_in) in
    let least : LeastRound mesh lengths d s x (table x s) before = record {
      base_in = base.base_in;
      goes = r.goes;
      least = r.least;
      shortest = λ y m v y_in goes.
          let one = (rounds y y_in).least v m goes in
          let two = base.shortest y y_in in
          omega (arith, one, two, same);
      first_base = λ y v y_in goes.
          let one : round y ≤ table x s = (rounds y y_in).least v (table x s) goes in
          let two : round x ≤ round y = base.shortest y y_in in
          base.least y y_in (omega arith);
    } in (
      chosen_from mesh lengths d surface positive split walk closed x (table x s) before least,
      (forwards mesh lengths d surface x (table x s) s before base.base_in r.goes).size ∙ same,
    )

-- ---- something can be read back

module _ (mesh : Mesh) (lengths : List ℕ) (d : Split) (surface : IsSurface mesh) (positive : ArePositive mesh lengths)
    (x : ℕ) (table : ℕ → ℕ → ℕ) (certified : IsCertified mesh lengths d x table) where
  decide_tight : (u v s : ℕ) → IsTightFor mesh lengths d table u v s ⊎ (IsTightFor mesh lengths d table u v s → ⊥)
  decide_tight u v s = elim (cases_Bool (among (pair u v) (edges mesh))) [
    | inr out ↦ inr (λ h. false≢true (sym out ∙ among-contains (pair u v) (edges mesh) h.is_edge))
    | inl has ↦ elim (cases_eq (table u (bit_xor s (step_signature mesh d u v)) + step_length mesh lengths u v) (table v s)) [
      | inl same ↦ inl (record { is_edge = contains_from_among (pair u v) (edges mesh) has; adds_up = same })
      | inr ne ↦ inr (λ h. ne h.adds_up)
    ]
  ]

  tight_below : (u v s : ℕ) → IsTightFor mesh lengths d table u v s → u < mesh.vertices
  tight_below u v s h =
      joined_in (primal (cells_of mesh)) (surfaces_are_cells mesh surface).complex.primal_ends v u
      (step_back mesh surface.is_mesh u v h.is_edge).is_joined

  least_tight : (v s : ℕ) → (u : ℕ) × IsTightFor mesh lengths d table u v s → (u : ℕ) × IsLeastTight mesh lengths d table u v s
  least_tight v s (u, tight) =
      elim (least_such mesh.vertices (λ w. IsTightFor mesh lengths d table w v s) (λ w l. decide_tight w v s)) [
        | inl some ↦ (
          some.at,
          record {
            tight = some.holds;
            least = λ w h. some.least w (tight_below w v s h) h;
          },
        )
        | inr none ↦ absurd (none u (tight_below u v s tight) tight)
      ]

  some_read : (k v s : ℕ) → table v s < k → v < mesh.vertices → IsSet d s →
      (before : List ℕ) × IsReadBack mesh lengths d x table v s before
  some_read zero v s l v_in is_set = absurd (omega arith)
  some_read (suc k) v s l v_in is_set = elim (start v s) [
    | inl here ↦ ([], here)
    | inr away ↦
        let (u, step) = least_tight v s (certified.tight v s v_in is_set (λ a b. away (a, b))) in
        let tight = tight_to mesh lengths d table u v s surface.is_mesh step.tight in
        let long = step_long (primal (cells_of mesh)) (edge_length lengths) (edge_signature mesh d)
        (surfaces_are_cells mesh surface).complex.primal_ends positive v u tight.is_joined in
        let number = (step_back mesh surface.is_mesh u v step.tight.is_edge).number in
        let falls : table u (bit_xor s (step_signature mesh d u v)) + step_length mesh lengths u v ≡ table v s =
        step.tight.adds_up in
        let some : 1 ≤ step_length mesh lengths u v = subst (λ e. 1 ≤ edge_length lengths e) number long in
        let (before, rest) = some_read k u (bit_xor s (step_signature mesh d u v)) (omega arith)
        (tight_below u v s step.tight)
        (xor_set d s (step_signature mesh d u v) is_set (subst (λ e. IsSet d (edge_signature mesh d e)) number
        (edge_set mesh d (edge_between (primal (cells_of mesh)) v u)))) in
        (u ∷ before, (step, rest))
  ]
    where
      start : (v s : ℕ) → ((v ≡ x) × (s ≡ 0)) ⊎ ((v ≡ x) × (s ≡ 0) → ⊥)
      start v s = elim (cases_eq v x) [
        | inr ne ↦ inr (λ h. ne h.0)
        | inl at ↦ elim (cases_eq s 0) [ inr ne ↦ inr (λ h. ne h.1) | inl none ↦ inl (at, none) ]
      ]

pub tables_are_read_back : TablesAreReadBack
tables_are_read_back mesh lengths d x table surface positive certified v s v_in is_set =
    some_read mesh lengths d surface positive x table certified (suc (table v s)) v s (omega arith) v_in is_set

-- ---- one vertex after the other

module _ (mesh : Mesh) (lengths : List ℕ) (d : Split) (table : ℕ → ℕ → ℕ) where
  read_on : (v set : ℕ) (before : List ℕ) (u rest w : ℕ) → IsReadTo mesh lengths d table v set before u rest →
      IsLeastTight mesh lengths d table w u rest →
      IsReadTo mesh lengths d table v set (before ++ w ∷ []) w (bit_xor rest (step_signature mesh d w u))
  read_on v set [] u rest w (same, is) step =
      let here : IsLeastTight mesh lengths d table w v set =
      subst (λ y. IsLeastTight mesh lengths d table w y set) (sym same)
      (subst (IsLeastTight mesh lengths d table w u) (sym is) step) in (
        here,
        (
          refl,
          ap (λ y. bit_xor set (step_signature mesh d w y)) same
              ∙ ap (λ t. bit_xor t (step_signature mesh d w u)) is,
        ),
      )
  read_on v set (y ∷ before) u rest w (first, later) step =
      (first, read_on y (bit_xor set (step_signature mesh d y v)) before u rest w later step)

  read_ends : (v set : ℕ) (before : List ℕ) (x : ℕ) → IsReadTo mesh lengths d table v set before x 0 →
      IsReadBack mesh lengths d x table v set before
  read_ends v set [] x h = h
  read_ends v set (y ∷ before) x (first, later) =
      (first, read_ends y (bit_xor set (step_signature mesh d y v)) before x later)

pub tables_read_on : TablesReadOn
tables_read_on mesh lengths d table = record {
  begins = λ v set. (refl, refl);
  goes_on = read_on mesh lengths d table;
  ends = read_ends mesh lengths d table;
}
