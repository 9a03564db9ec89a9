-- The border: rows of the vertices along border edges, and what a walk over them reaches.
use Rattle.surf_surfaces.proofs.Common.{◌≡◌, ℕ, ◌+◌, ◌*◌, ◌<◌, ◌≤◌, ◌⊎◌, Bool, true, eqb, List, [], ◌∷◌, ◌++◌, length, get_or, take, refl, sym, ap, subst, ◌∙◌, arith, inl, inr, true≢false, cases_eq, cases_lt, eq-eqb, eqb-true, ne_eqb, or_cases, or_left, or_right, lt-ltb, le-ltb, get_or_past, length-map, length_push, take_more, Joined, here, over, Mesh, IsMesh, pair, edges, ends, faces_with, place_of, side_count, pair_at, sides_with, owners, flat_map-append, flat_map-cons, IsBorderEdge, ShareOnBorder}
use Rattle.std.specs.List.{All, flat_map, list_any, sum_by}
use Rattle.std.proofs.lemmas.List.{append_assoc, append-nil, get_or_push, get_or_append_left, get_or_default}
use Rattle.surf_surfaces.proofs.meshes.EdgeLaws.{list_any_at, list_any_from, list_any-append, list_any-flat_map}
use Rattle.surf_surfaces.proofs.meshes.EdgeLaws.{place_of-among}
use Rattle.surf_surfaces.proofs.meshes.FaceLaws.{pair_comm}
use Rattle.surf_surfaces.proofs.meshes.JoinedLaws.{joined_trans, joined_closed}
use Rattle.surf_soup.specs.Reach.{Leads, marked, IsReach}
use Rattle.surf_soup.specs.Ring.{BeginsAt}
use Rattle.surf_soup.specs.Vertices.{all_corners, sides_at}
use Rattle.surf_soup.proofs.EdgeTables.{pair_at-edge}
use Rattle.surf_soup.proofs.HalfLaws.{spans}
use Rattle.surf_soup.proofs.Mates.{with_pair, with_rising}
use Rattle.surf_soup.proofs.Owners.{faces_with-sides}
use Rattle.surf_soup.proofs.Paired.{side_below}
use Rattle.surf_soup.proofs.CornerSides.{at_begins, begins_at}
use Rattle.surf_soup.proofs.VertexLaws.{corners_below, corners_len}
use Rattle.surf_disc.specs.Border.{with_end, border_ends, AreNeighbours, IsBorderMarked}
use Rattle.surf_disc.specs.Links.{AreCornerTables}
use Rattle.surf_disc.proofs.AcrossLaws.{listed}
use Rattle.surf_disc.proofs.CornerLaws.{tail, next_in, prev_in, next_prev, prev_next, pair_tails, ends_of}

-- a border edge runs between the vertices
abbrev pub Along : Mesh → ℕ → ℕ → Type 0
Along mesh v w = (e : ℕ) × IsBorderEdge mesh e × (ends mesh e ≡ pair v w)

-- a list with the end of a side, where nothing is across the side and where something is
with_yes : (across : List ℕ) (side end : ℕ) (xs : List ℕ) → get_or across side 0 ≡ side →
    with_end across side end xs ≡ xs ++ end ∷ []
with_yes across side end xs is = rw (eq-eqb (get_or across side 0) side is) refl

with_no : (across : List ℕ) (side end : ℕ) (xs : List ℕ) → (get_or across side 0 ≡ side → ⊥) →
    with_end across side end xs ≡ xs
with_no across side end xs ne = rw (ne_eqb (get_or across side 0) side ne) refl

single : (b end : ℕ) → list_any (eqb b) (end ∷ []) ≡ true → b ≡ end
single b end h =
    let r = list_any_at (eqb b) (end ∷ []) 0 h in
    let first : r.0 ≡ 0 = omega (arith, r.1) in
    eqb-true b (get_or (end ∷ []) r.0 0) r.2 ∙ ap (λ i. get_or (end ∷ []) i 0) first

with_any : (b : ℕ) (across : List ℕ) (side end : ℕ) (xs : List ℕ) →
    list_any (eqb b) (with_end across side end xs) ≡ true →
    (list_any (eqb b) xs ≡ true) ⊎ ((get_or across side 0 ≡ side) × (b ≡ end))
with_any b across side end xs h = elim (cases_eq (get_or across side 0) side) [
  | inl is ↦ elim (or_cases (list_any (eqb b) xs) (list_any (eqb b) (end ∷ []))
      (sym (list_any-append (eqb b) xs (end ∷ [])) ∙ ap (list_any (eqb b)) (sym (with_yes across side end xs is))
      ∙ h)) [
        | inl l ↦ inl l
        | inr r ↦ inr (is, single b end r)
      ]
  | inr ne ↦ inl (ap (list_any (eqb b)) (sym (with_no across side end xs ne)) ∙ h)
]

with_has : (across : List ℕ) (side end : ℕ) (xs : List ℕ) → get_or across side 0 ≡ side →
    list_any (eqb end) (with_end across side end xs) ≡ true
with_has across side end xs is =
    ap (list_any (eqb end)) (with_yes across side end xs is) ∙ list_any-append (eqb end) xs (end ∷ [])
    ∙ or_right (list_any (eqb end) xs) (list_any (eqb end) (end ∷ []))
    (list_any_from (eqb end) (end ∷ []) 0 0 (omega arith) (eq-eqb end end refl))

with_keeps : (b : ℕ) (across : List ℕ) (side end : ℕ) (xs : List ℕ) → list_any (eqb b) xs ≡ true →
    list_any (eqb b) (with_end across side end xs) ≡ true
with_keeps b across side end xs h = elim (cases_eq (get_or across side 0) side) [
  | inl is ↦ ap (list_any (eqb b)) (with_yes across side end xs is) ∙ list_any-append (eqb b) xs (end ∷ [])
      ∙ or_left (list_any (eqb b) xs) (list_any (eqb b) (end ∷ [])) h
  | inr ne ↦ ap (list_any (eqb b)) (with_no across side end xs ne) ∙ h
]

with_len : (across : List ℕ) (side end : ℕ) (xs : List ℕ) → length (with_end across side end xs) ≤ length xs + 1
with_len across side end xs = elim (cases_eq (get_or across side 0) side) [
  | inl is ↦ omega (arith, ap length (with_yes across side end xs is), length_push xs end)
  | inr ne ↦ omega (arith, ap length (with_no across side end xs ne))
]

with_after : (across : List ℕ) (side end : ℕ) (xs ys : List ℕ) →
    with_end across side end (xs ++ ys) ≡ xs ++ with_end across side end ys
with_after across side end xs ys = elim (cases_eq (get_or across side 0) side) [
  | inl is ↦ with_yes across side end (xs ++ ys) is ∙ append_assoc xs ys (end ∷ [])
      ∙ ap (λ zs. xs ++ zs) (sym (with_yes across side end ys is))
  | inr ne ↦ with_no across side end (xs ++ ys) ne ∙ ap (λ zs. xs ++ zs) (sym (with_no across side end ys ne))
]

-- the ends of one corner more
pub ends_more : (next prev across tails corners : List ℕ) (k side a b : ℕ) (old mid new : List ℕ) →
    k < length corners → side ≡ get_or corners k 0 → a ≡ get_or tails (get_or next side 0) 0 →
    b ≡ get_or tails (get_or prev side 0) 0 →
    old ≡ flat_map (border_ends next prev across tails) (take k corners) → mid ≡ with_end across side a old →
    new ≡ with_end across (get_or prev side 0) b mid →
    new ≡ flat_map (border_ends next prev across tails) (take (k + 1) corners)
ends_more next prev across tails corners k side a b old mid new lt is ea eb eo em en =
    let g = border_ends next prev across tails in
    let p = get_or prev side 0 in
    let first : mid ≡ old ++ with_end across side a [] = em ∙ ap (with_end across side a) (sym (append-nil old))
    ∙ with_after across side a old [] in
    let both : new ≡ old ++ with_end across p b (with_end across side a []) = en ∙ ap (with_end across p b) first
    ∙ with_after across p b old (with_end across side a []) in
    let own : with_end across p b (with_end across side a []) ≡ g side = ap
    (λ x. with_end across p x (with_end across side a [])) eb
    ∙ ap (λ x. with_end across p (get_or tails p 0) (with_end across side x [])) ea in
    let alone : flat_map g (get_or corners k 0 ∷ []) ≡ g (get_or corners k 0) = flat_map-cons g
    (get_or corners k 0) [] ∙ append-nil (g (get_or corners k 0)) in
    both ∙ ap (λ zs. old ++ zs) (own ∙ ap g is) ∙ ap (λ zs. zs ++ g (get_or corners k 0)) eo
    ∙ ap (λ zs. flat_map g (take k corners) ++ zs) (sym alone)
    ∙ sym (flat_map-append g (take k corners) (get_or corners k 0 ∷ []))
    ∙ ap (flat_map g) (sym (take_more corners k 0 lt))

ends_len : (next prev across tails : List ℕ) (s : ℕ) → length (border_ends next prev across tails s) ≤ 2
ends_len next prev across tails s =
    let p = get_or prev s 0 in
    let inner = with_end across s (get_or tails (get_or next s 0) 0) [] in
    omega (arith, with_len across p (get_or tails p 0) inner, with_len across s (get_or tails (get_or next s 0) 0) [])

all_ends_len : (next prev across tails xs : List ℕ) →
    length (flat_map (border_ends next prev across tails) xs) ≤ 2 * length xs
all_ends_len next prev across tails [] = omega arith
all_ends_len next prev across tails (x ∷ xs) =
    let g = border_ends next prev across tails in
    omega (
      arith,
      ap length (flat_map-cons g x xs),
      Rattle.std.proofs.lemmas.List.length-append (g x) (flat_map g xs),
      ends_len next prev across tails x,
      all_ends_len next prev across tails xs,
    )

-- one row more
pub near_more : (mesh : Mesh) (next prev across tails : List ℕ) (v : ℕ) (rows : List (List ℕ))
    (row corners : List ℕ) → AreNeighbours mesh next prev across tails v rows → corners ≡ sides_at mesh v →
    row ≡ flat_map (border_ends next prev across tails) corners →
    AreNeighbours mesh next prev across tails (v + 1) (rows ++ row ∷ [])
near_more mesh next prev across tails v rows row corners near at is =
    let n = near.size in
    record {
      size = omega (arith, length_push rows row, n);
      row = λ u below. elim (cases_eq u v) [
        | inl e ↦
            let Q : ℕ → Type 0 = λ w. get_or (rows ++ row ∷ []) w [] ≡ flat_map (border_ends next prev across tails)
            (sides_at mesh w) in
            subst Q (sym e) (get_or_push rows row [] v n ∙ is ∙ ap (flat_map (border_ends next prev across tails)) at)
        | inr ne ↦ get_or_append_left rows (row ∷ []) [] u (omega arith) ∙ near.row u (omega arith)
      ];
    }

pub near_total : (next prev across tails : List ℕ) (v : ℕ) (rows at_vertex : List (List ℕ)) (row corners : List ℕ) →
    sum_by length rows ≤ 2 * sum_by length (take v at_vertex) → v < length at_vertex →
    corners ≡ get_or at_vertex v [] → row ≡ flat_map (border_ends next prev across tails) corners →
    (sum_by length rows + length row ≤ 2 * sum_by length (take (v + 1) at_vertex)) ×
    (sum_by length (take (v + 1) at_vertex) ≤ sum_by length at_vertex)
near_total next prev across tails v rows at_vertex row corners so_far lt at is =
    let sp = spans at_vertex v lt in
    let few = all_ends_len next prev across tails corners in
    (omega (arith, so_far, sp.0, few, ap length is, ap length at), sp.1)

-- a pair of two numbers, lesser first
record IsPairOf (p : ℕ × ℕ) (x y : ℕ) : Type 0 where
  first : (x ≡ p.0) ⊎ (x ≡ p.1)
  second : (y ≡ p.0) ⊎ (y ≡ p.1)
  again : p ≡ pair p.0 p.1

pair_facts : (p : ℕ × ℕ) (x y : ℕ) → p ≡ pair x y → IsPairOf p x y
pair_facts p x y e =
    let P : ℕ × ℕ → Type 0 = λ q. IsPairOf q x y in
    elim (cases_lt x y) [
      | inl lt ↦
          let is : pair x y ≡ (x, y) = rw (lt-ltb x y lt) refl in
          subst P (sym (e ∙ is)) (record { first = inl refl; second = inr refl; again = sym is })
      | inr ge ↦
          let is : pair x y ≡ (y, x) = rw (le-ltb x y ge) refl in
          subst P (sym (e ∙ is)) (record { first = inr refl; second = inl refl; again = sym is ∙ pair_comm x y })
    ]

along_sym : (mesh : Mesh) (v w : ℕ) → Along mesh v w → Along mesh w v
along_sym mesh v w h = (h.0, h.1, h.2 ∙ pair_comm v w)

pub share_sym : (mesh : Mesh) (e h : ℕ) → ShareOnBorder mesh e h → ShareOnBorder mesh h e
share_sym mesh e h s = (s.1, s.0, (s.2.0, s.2.2, s.2.1))

module _ (mesh : Mesh) (is_mesh : IsMesh mesh) (next prev across : List ℕ)
    (tables : AreCornerTables mesh next prev across) where
  sides_len : (p : ℕ × ℕ) → length (faces_with mesh p) ≡ length (sides_with mesh p)
  sides_len p = ap length (faces_with-sides mesh is_mesh p)
      ∙ length-map (sides_with mesh p) (λ s. get_or (owners 0 mesh.faces) s 0)

  -- a side with nothing across it is a border edge's
  border_side : (s : ℕ) → s < side_count mesh → get_or across s 0 ≡ s →
      (e : ℕ) × IsBorderEdge mesh e × (ends mesh e ≡ pair_at mesh s)
  border_side s lt alone =
      let p = pair_at mesh s in
      let xs = sides_with mesh p in
      let at = place_of-among p (edges mesh) (0, 0) (pair_at-edge mesh s lt) in
      let a = tables.acrosses.all s lt in
      let own = listed mesh p s lt refl in
      let some = own.1 in
      let only : (k : ℕ) → k < length xs →
      get_or xs k 0 ≡ s = λ k in'. elim (cases_eq (get_or xs k 0) s) [
        | inl e ↦ e
        | inr differs ↦ a.no_third (get_or xs k 0) (side_below mesh p k 0 in') (with_pair mesh p k in') differs ∙ alone
      ] in
      let one : length xs ≡ 1 = elim (cases_lt (length xs) 2) [
        | inl few ↦ omega arith
        | inr many ↦ absurd (let x = only 0 (omega arith) in let y = only 1
            (omega arith) in let up = with_rising mesh p many in omega arith)
      ] in
      (place_of p (edges mesh), (at.0, ap (λ q. length (faces_with mesh q)) at.1 ∙ sides_len p ∙ one), at.1)

  -- and a border edge has one
  edge_side : (e : ℕ) → IsBorderEdge mesh e →
      (s : ℕ) × (s < side_count mesh) × (pair_at mesh s ≡ ends mesh e) × (get_or across s 0 ≡ s)
  edge_side e is =
      let p = ends mesh e in
      let xs = sides_with mesh p in
      let one : length xs ≡ 1 = sym (sides_len p) ∙ is.1 in
      let s = get_or xs 0 0 in
      let lt = side_below mesh p 0 0 (omega arith) in
      let same = with_pair mesh p 0 (omega arith) in
      let a = tables.acrosses.all s lt in
      let t = get_or across s 0 in
      let k = listed mesh p t a.is_side (a.same_edge ∙ same) in
      let first : k.0 ≡ 0 = omega (arith, k.1) in
      (s, lt, same, sym k.2 ∙ ap (λ i. get_or xs i 0) first)

  border_pair : (h : ℕ) → IsBorderEdge mesh h → ends mesh h ≡ pair (ends mesh h).0 (ends mesh h).1
  border_pair h is =
      let x = edge_side h is in
      let facts = pair_facts (ends mesh h) (tail mesh x.0) (tail mesh (get_or next x.0 0))
      (sym x.2 ∙ pair_tails mesh is_mesh next prev across tables x.0 x.1) in
      facts.again

  abbrev ends_at : ℕ → List ℕ
  ends_at s = border_ends next prev across (all_corners mesh) s

  module _ (rows : List (List ℕ))
      (near : AreNeighbours mesh next prev across (all_corners mesh) mesh.vertices rows) where
    along_corner : (v w s : ℕ) → BeginsAt mesh v s → list_any (eqb w) (ends_at s) ≡ true → Along mesh v w
    along_corner v w s b h =
        let lt = b.0 in
        let p = get_or prev s 0 in
        let n = get_or next s 0 in
        elim (with_any w across p (tail mesh p) (with_end across s (tail mesh n) []) h) [
          | inl inner ↦ elim (with_any w across s (tail mesh n) [] inner) [
            | inl none ↦ absurd (true≢false (sym none))
            | inr is ↦
                let r = border_side s lt is.0 in (
                  r.0,
                  r.1,
                  r.2 ∙ pair_tails mesh is_mesh next prev across tables s lt
                      ∙ ap (λ x. pair x (tail mesh n)) b.1 ∙ ap (pair v) (sym is.1),
                )
          ]
          | inr is ↦
              let r = border_side p (prev_in mesh is_mesh next prev across tables s lt) is.0 in (
                r.0,
                r.1,
                r.2 ∙ pair_tails mesh is_mesh next prev across tables p
                    (prev_in mesh is_mesh next prev across tables s lt)
                    ∙ ap (λ x. pair (tail mesh p) (tail mesh x)) (next_prev mesh is_mesh next prev across tables s lt)
                    ∙ ap (pair (tail mesh p)) b.1 ∙ pair_comm (tail mesh p) v ∙ ap (pair v) (sym is.1),
              )
        ]

    leads_along : (v w : ℕ) → Leads rows v w → (v < mesh.vertices) × Along mesh v w
    leads_along v w h = elim (cases_lt v (length rows)) [
      | inl inside ↦
          let n = near.size in
          let lt : v < mesh.vertices = omega arith in
          let ends = get_or rows v [] in
          let any : list_any (eqb w) ends ≡ true = list_any_from (eqb w) ends 0 h.0 h.1
          (eq-eqb w (get_or ends h.0 0) (sym h.2)) in
          let each = sym (list_any-flat_map (eqb w) ends_at (sides_at mesh v))
          ∙ ap (list_any (eqb w)) (sym (near.row v lt)) ∙ any in
          let r = list_any_at (λ s. list_any (eqb w) (ends_at s)) (sides_at mesh v) 0 each in
          (lt, along_corner v w (get_or (sides_at mesh v) r.0 0) (at_begins mesh v r.0 r.1) r.2)
      | inr past ↦ let e = ap length (get_or_past rows v [] past) in absurd (omega (arith, h.1))
    ]

    corner_leads : (v w s : ℕ) → BeginsAt mesh v s → list_any (eqb w) (ends_at s) ≡ true → Leads rows v w
    corner_leads v w s b has =
        let inside = corners_below mesh is_mesh s 0 (let n = corners_len mesh in let l = b.0 in omega arith) in
        let lt : v < mesh.vertices = omega (arith, inside, b.1) in
        let r = begins_at mesh v s b in
        let P : ℕ → Type 0 = λ x. list_any (eqb w) (ends_at x) ≡ true in
        let any : list_any (eqb w) (get_or rows v []) ≡ true = ap (list_any (eqb w)) (near.row v lt)
        ∙ list_any-flat_map (eqb w) ends_at (sides_at mesh v)
        ∙ list_any_from (λ x. list_any (eqb w) (ends_at x)) (sides_at mesh v) 0 r.0 r.1 (subst P (sym r.2) has) in
        let at = list_any_at (eqb w) (get_or rows v []) 0 any in
        (at.0, at.1, sym (eqb-true w (get_or (get_or rows v []) at.0 0) at.2))

    along_leads : (v w : ℕ) → Along mesh v w → Leads rows v w
    along_leads v w h =
        let x = edge_side h.0 h.1 in
        let s = x.0 in
        let lt = x.1 in
        let n = get_or next s 0 in
        elim (ends_of mesh is_mesh next prev across tables s v w lt (x.2 ∙ h.2)) [
          | inl a ↦
              let E : ℕ → Type 0 = λ z. list_any (eqb z) (ends_at s) ≡ true in
              let p = get_or prev s 0 in
              corner_leads v w s (lt, a.0) (subst E a.1
              (with_keeps (tail mesh n) across p (tail mesh p) (with_end across s (tail mesh n) [])
              (with_has across s (tail mesh n) [] x.3)))
          | inr a ↦
              let E : ℕ → Type 0 = λ z. list_any (eqb z) (ends_at n) ≡ true in
              let p = get_or prev n 0 in
              let back : p ≡ s = prev_next mesh is_mesh next prev across tables s lt in
              let alone : get_or across p 0 ≡ p = ap (λ z. get_or across z 0) back ∙ x.3 ∙ sym back in
              let far : tail mesh p ≡ w = ap (tail mesh) back ∙ a.0 in
              corner_leads v w n (next_in mesh is_mesh next prev across tables s lt, a.1)
              (subst E far (with_has across p (tail mesh p)
              (with_end across n (tail mesh (get_or next n 0)) []) alone))
        ]

    pub near_inside : All (λ row. All (λ g. g < length rows) row) rows
    near_inside = λ v e lt m d in'.
        let n = near.size in
        let same : get_or rows v e ≡ get_or rows v [] = get_or_default rows v e [] lt in
        let w = get_or (get_or rows v []) m 0 in
        let value : get_or (get_or rows v e) m d ≡ w = get_or_default (get_or rows v e) m d 0 in'
        ∙ ap (λ (xs : List ℕ). get_or xs m 0) same in
        let there = leads_along v w (m, omega (arith, in', ap length same), refl) in
        let back = leads_along w v (along_leads w v (along_sym mesh v w there.1)) in
        omega (arith, value, back.0)

    pub border_start : (e : ℕ) → IsBorderEdge mesh e → (ends mesh e).0 < length rows
    border_start e is =
        let n = near.size in
        let r = leads_along (ends mesh e).0 (ends mesh e).1
        (along_leads (ends mesh e).0 (ends mesh e).1 (e, is, border_pair e is)) in
        let low : (ends mesh e).0 < mesh.vertices = r.0 in
        omega arith

    module _ (from : ℕ) (seen : List Bool) (r : IsReach rows from seen) (e : ℕ) (is : IsBorderEdge mesh e)
        (start : from ≡ (ends mesh e).0) where
      abbrev IsEnd : ℕ → ℕ → Type 0
      IsEnd h v = (v ≡ (ends mesh h).0) ⊎ (v ≡ (ends mesh h).1)

      -- what the walk meets is on the cycle through e
      abbrev IsMet : ℕ → Type 0
      IsMet v = (k : ℕ) × Joined (ShareOnBorder mesh) e k × IsBorderEdge mesh k × IsEnd k v

      met_more : (v w : ℕ) → Leads rows v w → IsMet v → IsMet w
      met_more v w leads m =
          let a = (leads_along v w leads).1 in
          let h = a.0 in
          let facts = pair_facts (ends mesh h) v w a.2 in
          (h, joined_trans m.1 (over (m.2, a.1, (v, m.3, facts.first)) here), a.1, facts.second)

      met_joined : (h : ℕ) → IsBorderEdge mesh h → marked seen (ends mesh h).0 ≡ true → Joined (ShareOnBorder mesh) e h
      met_joined h on mark =
          let m = joined_closed IsMet met_more (r.sound (ends mesh h).0 mark) (e, here, is, inl start) in
          joined_trans m.1 (over (m.2, on, ((ends mesh h).0, m.3, inl refl)) here)

      marked_along : (v w : ℕ) → marked seen v ≡ true → Along mesh v w → marked seen w ≡ true
      marked_along v w mark a = r.complete w (joined_trans (r.sound v mark) (over (along_leads v w a) here))

      -- of a border edge both ends are marked where one is
      both_ends : (h v w : ℕ) → IsBorderEdge mesh h → IsEnd h v → IsEnd h w → marked seen v ≡ true →
          marked seen w ≡ true
      both_ends h v w on a b mark =
          let low = (ends mesh h).0 in
          let high = (ends mesh h).1 in
          let there : Along mesh low high = (h, on, border_pair h on) in
          let M : ℕ → Type 0 = λ x. marked seen x ≡ true in
          elim a [
            | inl ea ↦ elim b [
              | inl eb ↦ subst M (ea ∙ sym eb) mark
              | inr eb ↦ subst M (sym eb)
                  (marked_along low high (subst M ea mark) there)
            ]
            | inr ea ↦ elim b [
              | inl eb ↦ subst M (sym eb)
                  (marked_along high low (subst M ea mark) (along_sym mesh low high there))
              | inr eb ↦ subst M
                  (ea ∙ sym eb) mark
            ]
          ]

      abbrev AreMarked : ℕ → Type 0
      AreMarked h = (v : ℕ) → IsEnd h v → marked seen v ≡ true

      marked_more : (h k : ℕ) → ShareOnBorder mesh h k → AreMarked h → AreMarked k
      marked_more h k s marks v end = both_ends k s.2.0 v s.1 s.2.2 end (marks s.2.0 s.2.1)

      marked_first : AreMarked e
      marked_first v end = both_ends e (ends mesh e).0 v is (inl refl) end
          (r.complete (ends mesh e).0 (let P : ℕ → Type 0 = λ x. Joined (Leads rows) from x in subst P start here))

      pub border_marked : IsBorderMarked mesh e seen
      border_marked = record {
        size = r.size ∙ near.size;
        sound = met_joined;
        complete = λ h chain. joined_closed AreMarked marked_more chain marked_first (ends mesh h).0 (inl refl);
      }
