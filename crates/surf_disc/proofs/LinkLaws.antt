-- Rows of corners across sides, and a last row from which a walk starts at the first corner of each vertex.
use Rattle.surf_surfaces.proofs.Common.{◌≡◌, ℕ, suc, ◌+◌, ◌<◌, ◌≤◌, Bool, true, List, [], ◌∷◌, ◌++◌, length, get_or, map, refl, sym, ap, subst, ◌∙◌, arith, inl, inr, cases_eq, cases_lt, get_or_push, get_or_append_left, get_or_default, length_push, length-range_with_len, Joined, here, over, Mesh, IsMesh, ShareAt, IsFaceOf, side_count, sum_by_push, sum_by-cons, length-flat_map}
use Rattle.std.specs.List.{All, sum_by, flat_map, range_with_len}
use Rattle.std.proofs.lemmas.List.Folds.{flat_map-map}
use Rattle.surf_surfaces.proofs.meshes.JoinedLaws.{joined_trans, joined_closed}
use Rattle.surf_rows.specs.Groups.{group_of}
use Rattle.surf_soup.specs.Reach.{Leads, marked, IsReach}
use Rattle.surf_soup.specs.Ring.{BeginsAt}
use Rattle.surf_soup.specs.Vertices.{all_corners, sides_at, AllMet}
use Rattle.surf_soup.proofs.Order.{by_key-length}
use Rattle.surf_soup.proofs.CornerSides.{at_begins, row_some}
use Rattle.surf_soup.proofs.SideNumbers.{one_face}
use Rattle.surf_soup.proofs.VertexLaws.{at_len, at_is}
use Rattle.surf_disc.specs.Links.{AreCornerTables, AreLinked, AreFirsts, AreFansMarked, over_corner}
use Rattle.surf_disc.proofs.CornerLaws.{tail, face_of, own_face, IsCornerOf, same_corner, IsSideAt, side_in}
use Rattle.surf_disc.proofs.CornerLaws.{side_pair_at, over_is, over_shares, shares_over, share_corner}

-- one row more
pub linked_more : (next prev across tails : List ℕ) (k a b : ℕ) (rows : List (List ℕ)) →
    AreLinked next prev across tails k rows → a ≡ over_corner next across tails k (get_or tails k 0) →
    b ≡ over_corner next across tails (get_or prev k 0) (get_or tails k 0) →
    AreLinked next prev across tails (k + 1) (rows ++ (a ∷ b ∷ []) ∷ [])
linked_more next prev across tails k a b rows l ea eb =
    let n = l.size in
    let row = a ∷ b ∷ [] in
    record {
      size = omega (arith, length_push rows row, n);
      total = omega (arith, sum_by_push {X = List ℕ} length rows row, l.total);
      row = λ s below. elim (cases_eq s k) [
        | inl e ↦
            let Q : ℕ → Type 0 = λ j. get_or (rows ++ row ∷ []) j [] ≡ over_corner next across tails j
            (get_or tails j 0) ∷ over_corner next across tails (get_or prev j 0) (get_or tails j 0) ∷ [] in
            subst Q (sym e) (get_or_push rows row [] k n ∙ rw (ea, eb) refl)
        | inr ne ↦ get_or_append_left rows (row ∷ []) [] s (omega arith) ∙ l.row s (omega arith)
      ];
    }

-- rows that aren't empty are no more than what is in them
pub rows_within : (rows : List (List ℕ)) → ((v : ℕ) → v < length rows → 0 < length (get_or rows v [])) →
    length rows ≤ sum_by length rows
rows_within [] some = omega arith
rows_within (row ∷ rows) some =
    let first = some 0 (omega arith) in
    let later = rows_within rows (λ v lt. some (suc v) (omega arith)) in
    omega (arith, first, later, sum_by-cons {X = List ℕ} length row rows)

-- the rows of the sides at each vertex have no more than all sides
pub at_vertex_total : (mesh : Mesh) (rows : List (List ℕ)) →
    rows ≡ map (sides_at mesh) (range_with_len 0 mesh.vertices) → sum_by length rows ≤ side_count mesh
at_vertex_total mesh rows are =
    let all = range_with_len 0 (side_count mesh) in
    let vs = range_with_len 0 mesh.vertices in
    let short = by_key-length (all_corners mesh) all mesh.vertices in
    let n : length (flat_map (λ (row : List ℕ). row) rows) ≡ sum_by length rows = length-flat_map
    (λ (row : List ℕ). row) rows in
    let same : flat_map (λ (row : List ℕ). row) rows ≡ flat_map (group_of (all_corners mesh) all) vs = ap
    (flat_map (λ (row : List ℕ). row)) are ∙ flat_map-map (λ (row : List ℕ). row) (sides_at mesh) vs in
    omega (arith, short, n, ap length same, length-range_with_len 0 (side_count mesh))

pub some_rows : (mesh : Mesh) (rows : List (List ℕ)) → rows ≡ map (sides_at mesh) (range_with_len 0 mesh.vertices) →
    AllMet mesh → (v : ℕ) → v < length rows → 0 < length (get_or rows v [])
some_rows mesh rows are met v lt =
    let n = at_len mesh rows are in
    let below : v < mesh.vertices = omega arith in
    let m = met v below in
    let some = row_some mesh v m.0 m.1 in
    omega (arith, some, ap length (at_is mesh rows are v below))

pub vertices_few : (mesh : Mesh) (rows : List (List ℕ)) →
    rows ≡ map (sides_at mesh) (range_with_len 0 mesh.vertices) → AllMet mesh → mesh.vertices ≤ side_count mesh
vertices_few mesh rows are met =
    let n = at_len mesh rows are in
    let within = rows_within rows (some_rows mesh rows are met) in
    omega (arith, within, at_vertex_total mesh rows are)

module _ (mesh : Mesh) (is_mesh : IsMesh mesh) (next prev across : List ℕ)
    (tables : AreCornerTables mesh next prev across) (links rows : List (List ℕ))
    (linked : AreLinked next prev across (all_corners mesh) (side_count mesh) links)
    (at_vertex : List (List ℕ)) (firsts : List ℕ)
    (at_is' : at_vertex ≡ map (sides_at mesh) (range_with_len 0 mesh.vertices))
    (are_firsts : AreFirsts at_vertex (length at_vertex) firsts) (met : AllMet mesh)
    (rows_are : rows ≡ links ++ firsts ∷ [])
  where
    abbrev home : ℕ → ℕ
    home v = get_or (sides_at mesh v) 0 0

    abbrev crossing : ℕ → ℕ → ℕ
    crossing side v = over_corner next across (all_corners mesh) side v

    some_at : (v : ℕ) → v < mesh.vertices → 0 < length (sides_at mesh v)
    some_at v lt = let m = met v lt in row_some mesh v m.0 m.1

    home_begins : (v : ℕ) → v < mesh.vertices → BeginsAt mesh v (home v)
    home_begins v lt = at_begins mesh v 0 (some_at v lt)

    first_is : (v : ℕ) → v < mesh.vertices → (v < length firsts) × (get_or firsts v 0 ≡ home v)
    first_is v lt =
        let n = at_len mesh at_vertex at_is' in
        let m = are_firsts.size in (
          omega arith,
          are_firsts.first v (omega arith)
              ∙ ap (λ (xs : List ℕ). get_or xs 0 0) (at_is mesh at_vertex at_is' v lt),
        )

    firsts_few : length firsts ≡ mesh.vertices
    firsts_few = are_firsts.size ∙ at_len mesh at_vertex at_is'

    pub rows_len : length rows ≡ side_count mesh + 1
    rows_len = ap length rows_are ∙ length_push links firsts ∙ ap (λ n. n + 1) linked.size

    row_at : (s : ℕ) → s < side_count mesh →
        get_or rows s [] ≡ crossing s (tail mesh s) ∷ crossing (get_or prev s 0) (tail mesh s) ∷ []
    row_at s lt = let n = linked.size in ap (λ (r : List (List ℕ)). get_or r s []) rows_are
        ∙ get_or_append_left links (firsts ∷ []) [] s (omega arith) ∙ linked.row s lt

    last_row : get_or rows (side_count mesh) [] ≡ firsts
    last_row = ap (λ (r : List (List ℕ)). get_or r (side_count mesh) []) rows_are
        ∙ get_or_push links firsts [] (side_count mesh) linked.size

    -- a row leads across one of the corner's sides
    leads_over : (s t : ℕ) → s < side_count mesh → Leads rows s t →
        (side : ℕ) × IsSideAt mesh is_mesh next prev across tables s side × (crossing side (tail mesh s) ≡ t)
    leads_over s t lt h =
        let is = row_at s lt in
        let m = h.0 in
        let two : m < 2 = omega (arith, h.1, ap length is) in
        let value = ap (λ (xs : List ℕ). get_or xs m 0) (sym is) ∙ h.2 in
        elim (cases_eq m 0) [
          | inl e ↦ (
            s,
            inl refl,
            sym (ap
                (λ i. get_or (crossing s (tail mesh s) ∷ crossing (get_or prev s 0) (tail mesh s) ∷ []) i 0) e) ∙ value,
          )
          | inr ne ↦ let one : m ≡ 1 = omega arith in (
            get_or prev s 0,
            inr refl,
            sym
                (ap (λ i. get_or (crossing s (tail mesh s) ∷ crossing (get_or prev s 0) (tail mesh s) ∷ []) i 0) one)
                ∙ value,
          )
        ]

    over_leads : (s side : ℕ) → s < side_count mesh → IsSideAt mesh is_mesh next prev across tables s side →
        Leads rows s (crossing side (tail mesh s))
    over_leads s side lt at =
        let is = row_at s lt in
        let size = ap length is in
        elim at [
          | inl e ↦ (
            0,
            omega arith,
            ap (λ (xs : List ℕ). get_or xs 0 0) is
                ∙ ap (λ x. crossing x (tail mesh s)) (sym e),
          )
          | inr e ↦ (
            1,
            omega arith,
            ap (λ (xs : List ℕ). get_or xs 1 0) is
                ∙ ap (λ x. crossing x (tail mesh s)) (sym e),
          )
        ]

    -- what a chain from a vertex's first corner leads to
    abbrev IsJoinedAt : ℕ → ℕ → Type 0
    IsJoinedAt v s = BeginsAt mesh v s ×
        ((f g : ℕ) → IsFaceOf mesh (home v) f → IsFaceOf mesh s g → Joined (ShareAt mesh v) f g)

    joined_home : (v : ℕ) → v < mesh.vertices → IsJoinedAt v (home v)
    joined_home v lt = (
      home_begins v lt,
      λ f g a b. let P : ℕ →
          Type 0 = λ x. Joined (ShareAt mesh v) f x in subst P (one_face mesh (home v) f g a b) here,
    )

    crossed : (v s side t : ℕ) → BeginsAt mesh v s → IsSideAt mesh is_mesh next prev across tables s side →
        crossing side (tail mesh s) ≡ t →
        BeginsAt mesh v t × ((f g : ℕ) → IsFaceOf mesh s f → IsFaceOf mesh t g → ShareAt mesh v f g)
    crossed v s side t b at e =
        let same : crossing side v ≡ t = ap (crossing side) (sym b.1) ∙ e in
        let B : ℕ → Type 0 = λ x. BeginsAt mesh v x in
        let F : ℕ → ℕ → Type 0 = λ g x. IsFaceOf mesh x g in
        let lt = side_in mesh is_mesh next prev across tables s side b.0 at in
        let r = side_pair_at mesh is_mesh next prev across tables s side b.0 at in
        let o = over_is mesh is_mesh next prev across tables v r.0 side lt
        (r.1 ∙ ap (λ x. Rattle.surf_surfaces.specs.Mesh.pair x r.0) b.1) in (
          subst B same o.begins,
          λ f g p q.
              (over_shares mesh is_mesh next prev across tables v s side f g b at p (subst (F g) (sym same) q)).1,
        )

    joined_step : (v s t : ℕ) → Leads rows s t → IsJoinedAt v s → IsJoinedAt v t
    joined_step v s t leads h =
        let o = leads_over s t h.0.0 leads in
        let c = crossed v s o.0 t h.0 o.1 o.2 in (
          c.0,
          λ f g a b. joined_trans (h.1 f (face_of mesh s) a (own_face mesh s h.0.0))
              (over (c.1 (face_of mesh s) g (own_face mesh s h.0.0) b) here),
        )

    -- a chain from the last row starts at some vertex's first corner
    from_last : (s : ℕ) → s < side_count mesh → Joined (Leads rows) (side_count mesh) s →
        (v : ℕ) × (v < mesh.vertices) × IsJoinedAt v s
    from_last s lt chain = first_step (side_count mesh) s refl lt chain
      where
        first_step : (n s : ℕ) → n ≡ side_count mesh → s < side_count mesh → Joined (Leads rows) n s →
            (v : ℕ) × (v < mesh.vertices) × IsJoinedAt v s
        first_step n s e lt here = absurd (omega arith)
        first_step n s e lt (over {b = b} leads rest) =
            let is : get_or rows n [] ≡ firsts = ap (λ k. get_or rows k []) e ∙ last_row in
            let v = leads.0 in
            let in' : v < length firsts = omega (arith, leads.1, ap length is) in
            let few = firsts_few in
            let below : v < mesh.vertices = omega arith in
            let at : b ≡ home v = sym leads.2 ∙ ap (λ (xs : List ℕ). get_or xs v 0) is ∙ (first_is v below).1 in
            let P : ℕ → Type 0 = λ x. IsJoinedAt v x in
            (v, below, joined_closed (IsJoinedAt v) (joined_step v) rest (subst P (sym at) (joined_home v below)))

    module _ (seen : List Bool) (reached : IsReach rows (side_count mesh) seen) where
      marked_home : (v : ℕ) → v < mesh.vertices → marked seen (home v) ≡ true
      marked_home v lt =
          let f = first_is v lt in
          let at : Leads rows (side_count mesh) (home v) =
          (v, omega (arith, f.0, ap length last_row), ap (λ (xs : List ℕ). get_or xs v 0) last_row ∙ f.1) in
          reached.complete (home v) (over at here)

      marked_over : (s side : ℕ) → s < side_count mesh → IsSideAt mesh is_mesh next prev across tables s side →
          marked seen s ≡ true → marked seen (crossing side (tail mesh s)) ≡ true
      marked_over s side lt at h = reached.complete (crossing side (tail mesh s))
          (joined_trans (reached.sound s h) (over (over_leads s side lt at) here))

      abbrev AllMarked : ℕ → ℕ → Type 0
      AllMarked v f = (s : ℕ) → IsCornerOf mesh v f s → marked seen s ≡ true

      marked_step : (v f g : ℕ) → ShareAt mesh v f g → AllMarked v f → AllMarked v g
      marked_step v f g share all t c =
          let s = share_corner mesh is_mesh next prev across tables v f g share in
          let M : ℕ → Type 0 = λ x. marked seen x ≡ true in
          let m = all s.0 s.1 in
          elim (shares_over mesh is_mesh next prev across tables v s.0 t f g share s.1 c) [
            | inl e ↦ subst M e m
            | inr o ↦ subst M (ap (crossing o.0) s.1.begins.1 ∙ o.2) (marked_over s.0 o.0 s.1.begins.0 o.1 m)
          ]

      pub fans_marked : AreFansMarked mesh seen
      fans_marked = record {
        size = let n = rows_len in let m = reached.size in omega arith;
        sound = λ v s f g lt b h p q.
            let j = from_last s b.0 (reached.sound s h) in
            let same : j.0 ≡ v = sym j.2.0.1 ∙ b.1 in
            let P : ℕ → Type 0 = λ u. IsJoinedAt u s in
            (subst P same j.2).1 f g p q;
        complete = λ v s f g lt p chain b q. joined_closed (AllMarked v) (marked_step v) chain
            (λ t c.
            let M : ℕ → Type 0 = λ x. marked seen x ≡ true in
            subst M (same_corner mesh is_mesh v f (home v) t (record { begins = home_begins v lt; its_face = p }) c)
            (marked_home v lt))
            s (record { begins = b; its_face = q });
      }

    -- the rows lead to corners and nowhere else
    pub links_inside : All (λ row. All (λ g. g < length rows) row) rows
    links_inside = λ s e lt m d in'.
        let n = rows_len in
        let same : get_or rows s e ≡ get_or rows s [] = get_or_default rows s e [] lt in
        let in2 : m < length (get_or rows s []) = omega (arith, in', ap length same) in
        let value : get_or (get_or rows s e) m d ≡ get_or (get_or rows s []) m 0 = get_or_default
        (get_or rows s e) m d 0 in' ∙ ap (λ (xs : List ℕ). get_or xs m 0) same in
        let at : Leads rows s (get_or (get_or rows s []) m 0) = (m, in2, refl) in
        let t = get_or (get_or rows s []) m 0 in
        elim (cases_lt s (side_count mesh)) [
          | inl below ↦
              let o = leads_over s t below at in
              let c = crossed (tail mesh s) s o.0 t (below, refl) o.1 o.2 in
              omega (arith, value, c.0.0)
          | inr ge ↦
              let last : s ≡ side_count mesh = omega arith in
              let is : get_or rows s [] ≡ firsts = ap (λ k. get_or rows k []) last ∙ last_row in
              let few = firsts_few in
              let below : m < mesh.vertices = omega (arith, in2, ap length is) in
              let b = home_begins m below in
              omega (arith, value, ap (λ (xs : List ℕ). get_or xs m 0) is, (first_is m below).1, b.0)
        ]
