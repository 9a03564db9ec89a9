-- The links of a vertex are the edges there.
use Rattle.surf_near.proofs.Common.{◌≡◌, ℕ, ◌<◌, ◌≤◌, ◌^◌, ◌⊎◌, true, ◌&&◌, ◌||◌, eqb, eq-eqb, List, length, map, get_or, refl, sym, ap, ◌∙◌, subst, arith, inl, inr, cases_lt, eqb-true, or_cases, or_left, or_right, and_parts, and_from, get_or-map, get_or_default, get_or_past, length-map, map-map, joins, primal, Mesh, IsMesh, edge_count, ends, edge_length, cells_of, link_at, IsRow, other_of, edge_link, edge_row, cells_few, longest, short_lengths, Link, LinkTables, weight_of, ends_of, link_in, AreLinksAt, AreLinks, AreGivenAt, AreUpToOrPast, AreEvenOrPast}
use Rattle.surf_surfaces.proofs.meshes.PairLaws.{pair_same}
use Rattle.surf_soup.specs.Ring.{AreEdgesAt}

-- an edge as a link of one of its ends
abbrev pub link_over : Mesh → List ℕ → ℕ → ℕ → Link
link_over mesh lengths v e = record { to = other_of (ends mesh e) v; length = edge_length lengths e; edge = e }

-- a pair that joins two numbers is of these
either_way : (p : ℕ × ℕ) (a b : ℕ) → ((eqb p.0 a && eqb p.1 b) || (eqb p.0 b && eqb p.1 a)) ≡ true →
    (p ≡ (a, b)) ⊎ (p ≡ (b, a))
either_way p a b h = elim (or_cases (eqb p.0 a && eqb p.1 b) (eqb p.0 b && eqb p.1 a) h) [
  | inl x ↦
      let both = and_parts (eqb p.0 a) (eqb p.1 b) x in
      inl (pair_same p (a, b) (eqb-true p.0 a both.0) (eqb-true p.1 b both.1))
  | inr x ↦
      let both = and_parts (eqb p.0 b) (eqb p.1 a) x in
      inr (pair_same p (b, a) (eqb-true p.0 b both.0) (eqb-true p.1 a both.1))
]

module _ (mesh : Mesh) (lengths : List ℕ) (v : ℕ) (links : List Link) (are : AreLinksAt mesh lengths v links) where
  -- a link as one of the row
  pub link_is : (k : ℕ) → k < length links → link_at (map ends_of links) k ≡ ((link_in links k).to, (link_in links k).edge)
  link_is k l = get_or-map ends_of links k (record { to = 0; length = 0; edge = 0 }) (0, 0) l

  in_row : (k : ℕ) → k < length links → k < length (map ends_of links)
  in_row k l = let n = length-map links ends_of in omega arith

  pub link_to_in : (k : ℕ) → k < length links → (link_in links k).to < mesh.vertices
  link_to_in k l = subst (λ (p : ℕ × ℕ). p.0 < mesh.vertices) (link_is k l) (are.row.neighbour_in k (in_row k l))

  pub link_edge_in : (k : ℕ) → k < length links → (link_in links k).edge < edge_count mesh
  link_edge_in k l = subst (λ (p : ℕ × ℕ). p.1 < edge_count mesh) (link_is k l) (are.row.edge_in k (in_row k l))

  pub link_joins : (k : ℕ) → k < length links →
      joins (primal (cells_of mesh)) v (link_in links k).to (link_in links k).edge ≡ true
  link_joins k l = subst (λ (p : ℕ × ℕ). joins (primal (cells_of mesh)) v p.0 p.1 ≡ true) (link_is k l)
      (are.row.joined k (in_row k l))

  pub link_ends : (k : ℕ) → k < length links →
      (ends mesh (link_in links k).edge ≡ (v, (link_in links k).to))
      ⊎ (ends mesh (link_in links k).edge ≡ ((link_in links k).to, v))
  link_ends k l = either_way (ends mesh (link_in links k).edge) v (link_in links k).to (link_joins k l)

  -- each edge that joins the vertex to another one is there
  joined_there : (e w : ℕ) → e < edge_count mesh → joins (primal (cells_of mesh)) v w e ≡ true →
      (k : ℕ) × (k < length links) × ((link_in links k).edge ≡ e)
  joined_there e w e_in on =
      let (k, lk, is) = are.row.whole e w e_in on in
      let n = length-map links ends_of in
      let l : k < length links = omega arith in
      (k, l, ap (λ (p : ℕ × ℕ). p.1) (sym (link_is k l) ∙ is))

  pub link_all : (e : ℕ) → e < edge_count mesh → ((ends mesh e).0 ≡ v) ⊎ ((ends mesh e).1 ≡ v) →
      (k : ℕ) × (k < length links) × ((link_in links k).edge ≡ e)
  link_all e e_in at = elim at [
    | inl one ↦
        let w = (ends mesh e).1 in
        joined_there e w e_in (or_left (eqb (ends mesh e).0 v && eqb (ends mesh e).1 w)
        (eqb (ends mesh e).0 w && eqb (ends mesh e).1 v)
        (and_from (eqb (ends mesh e).0 v) (eqb (ends mesh e).1 w) (eq-eqb (ends mesh e).0 v one) (eq-eqb w w refl)))
    | inr two ↦
        let w = (ends mesh e).0 in
        joined_there e w e_in (or_right (eqb (ends mesh e).0 v && eqb (ends mesh e).1 w)
        (eqb (ends mesh e).0 w && eqb (ends mesh e).1 v)
        (and_from (eqb (ends mesh e).0 w) (eqb (ends mesh e).1 v) (eq-eqb w w refl) (eq-eqb (ends mesh e).1 v two)))
  ]

-- the edges at a vertex, written as links
pub links_over : (mesh : Mesh) (lengths : List ℕ) (v : ℕ) (list : List ℕ) → IsMesh mesh → AreEdgesAt mesh v list →
    AreGivenAt mesh lengths v (map (link_over mesh lengths v) list)
links_over mesh lengths v list is_mesh are =
    let same : map ends_of (map (link_over mesh lengths v) list) ≡ map (edge_link mesh v) list =
    map-map ends_of (link_over mesh lengths v) list in
    record {
      row = subst (IsRow (primal (cells_of mesh)) v) (sym same) (edge_row mesh is_mesh v list are.at are.all);
      measured = λ k l.
          let n = length-map list (link_over mesh lengths v) in
          let is : link_in (map (link_over mesh lengths v) list) k ≡ link_over mesh lengths v (get_or list k 0) =
          get_or-map (link_over mesh lengths v) list k 0 (record { to = 0; length = 0; edge = 0 }) (omega arith) in
          ap (λ (x : Link). x.length) is ∙ sym (ap (λ (x : Link). edge_length lengths x.edge) is);
    }

-- a link that was read from the list
module _ (mesh : Mesh) (lengths : List ℕ) (v : ℕ) (links : List Link) (are : AreLinksAt mesh lengths v links) (k : ℕ) (l : k < length links)
    (x : Link) (read : x ≡ get_or links k x) where
  item_is : link_in links k ≡ x
  item_is = get_or_default links k (record { to = 0; length = 0; edge = 0 }) x l ∙ sym read

  pub item_link : link_at (map ends_of links) k ≡ (x.to, x.edge)
  item_link = link_is mesh lengths v links are k l ∙ ap ends_of item_is

  pub item_in : x.to < mesh.vertices
  item_in = subst (λ (y : Link). y.to < mesh.vertices) item_is (link_to_in mesh lengths v links are k l)

  pub item_edge_in : x.edge < edge_count mesh
  item_edge_in = subst (λ (y : Link). y.edge < edge_count mesh) item_is (link_edge_in mesh lengths v links are k l)

  -- what holds of the list's links holds of the read one
  pub item_with : (P : Link → Type 0) → ((n : ℕ) → n < length links → P (link_in links n)) → P x
  item_with P all = subst P item_is (all k l)

-- what holds of the lengths and of the number of vertices
module _ (net : LinkTables) (are : AreLinks net.mesh net.lengths net.rows) where
  pub links_few : net.mesh.vertices ≤ 2 ^ 29
  links_few = (cells_few net.mesh are.surface are.few).0

  pub links_small : net.mesh.vertices ≤ longest
  links_small = let few = links_few in omega arith

  pub links_short : (e : ℕ) → weight_of net e ≤ longest
  links_short = short_lengths net.lengths are.are_lengths

  pub links_positive : (e : ℕ) → e < edge_count net.mesh → 1 ≤ weight_of net e
  links_positive e l = (are.are_lengths e 0 (omega (arith, l, are.as_many))).positive

  pub links_even : (radius size : ℕ) → AreEvenOrPast net.lengths radius size → (e : ℕ) → e < edge_count net.mesh →
      (weight_of net e ≡ size) ⊎ (radius < weight_of net e)
  links_even radius size even e l = even e (omega (arith, l, are.as_many))

-- an edge that is no longer than the radius is no longer than the step, also where there is no such edge
pub up_to_within : (lengths : List ℕ) (radius most : ℕ) → AreUpToOrPast lengths radius most → (e : ℕ) → edge_length lengths e ≤ radius →
    edge_length lengths e ≤ most
up_to_within lengths radius most all e within = elim (cases_lt e (length lengths)) [
  | inl l ↦ elim (all e l) [ inl up ↦ up | inr past ↦ absurd (omega arith) ]
  | inr past ↦ let z = get_or_past lengths e 0 past in omega arith
]

-- a number that was read from a table
pub read_at : (xs : List ℕ) (i v x : ℕ) → x ≡ get_or xs i x → i ≡ v → v < length xs → x ≡ get_or xs v 0
read_at xs i v x read is l = read ∙ ap (λ k. get_or xs k x) is ∙ get_or_default xs v x 0 l
