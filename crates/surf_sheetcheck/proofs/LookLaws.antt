-- Whether a sheet holds, edge by edge.
use Rattle.surf_surfaces.proofs.Common.{◌≡◌, ℕ, zero, suc, ◌<◌, ◌≤◌, ◌+◌, ◌-◌, ◌*◌, ◌/◌, ◌⊎◌, true, false, List, length, get_or, refl, sym, ap, ◌∙◌, subst, arith, inl, inr, MatchBool, Bool, get_or_default, map, length-map, get_or-map, cases_eq, cases_lt, leb, lt-leb, le-leb, eq-eqb, false≢true, has, xor, has-xor, bit_xor, joins, joins_ends, joins_turned, primal, cells_of, Mesh, edge_count, ends, IsSurface}
use Rattle.surf_surfaces.proofs.meshes.CellLaws.{surfaces_are_cells}
use Rattle.surf_surfaces.specs.Walk.{edge_length}
use Rattle.surf_mesh.specs.Links.{IsRow, edge_link}
use Rattle.surf_treecheck.specs.First.{HoldsBelow}
use Rattle.surf_base.specs.Tables.{at, nobody}
use Rattle.surf_sheets.specs.Rows.{SheetRow, SheetCert}
use Rattle.surf_sheets.specs.Sheets.{way_over, is_crossed}
use Rattle.surf_sheetcheck.specs.Cocycles.{cocycle, edge_set}
use Rattle.surf_sheetcheck.specs.Parts.{size_at}
use Rattle.surf_sheetcheck.specs.Valid.{IsNoShorter, IsLongAt}
use Rattle.surf_sheetcheck.specs.Searches.{far, AreSettled}
use Rattle.surf_sheetcheck.specs.Tables.{distance_in, IsShortSoFar, IsLeastShort}

-- ---- walks by length

module _ (mesh : Mesh) (lengths : List ℕ) (cert : SheetCert)
    (by_length : HoldsBelow (length cert.cycles) (IsNoShorter mesh lengths cert)) where
  up : (i n : ℕ) → i + n < length cert.cycles → size_at mesh lengths cert i ≤ size_at mesh lengths cert (i + n)
  up i zero l =
      let e : i + 0 ≡ i = omega arith in
      subst (λ j. size_at mesh lengths cert i ≤ size_at mesh lengths cert j) (sym e) (omega arith)
  up i (suc n) l =
      let before = up i n (omega (arith, l)) in
      let next = by_length (i + suc n) l in
      let back : i + suc n - 1 ≡ i + n = omega arith in
      let step : size_at mesh lengths cert (i + n) ≤ size_at mesh lengths cert (i + suc n) =
      subst (λ j. size_at mesh lengths cert j ≤ size_at mesh lengths cert (i + suc n)) back next in
      omega (arith, before, step)

  pub no_shorter : (i j : ℕ) → i ≤ j → j < length cert.cycles → size_at mesh lengths cert i ≤ size_at mesh lengths cert j
  no_shorter i j le l =
      let gap : i + (j - i) ≡ j = omega (arith, le) in
      subst (λ k. size_at mesh lengths cert i ≤ size_at mesh lengths cert k) gap (up i (j - i) (omega (arith, gap, l)))

  -- ---- one edge

  module _ (row : SheetRow) (numbered : row.to ≤ length cert.cycles) (d p : ℕ → ℕ) (e set : ℕ)
      (sum : set ≡ bit_xor (bit_xor (p (ends mesh e).0) (p (ends mesh e).1)) (edge_set mesh cert e)) where
    is_set : (i : ℕ) → has set i ≡ is_crossed mesh (cocycle mesh cert i) (λ v. has (p v) i) e
    is_set i =
        ap (λ x. has x i) sum ∙ has-xor (bit_xor (p (ends mesh e).0) (p (ends mesh e).1)) (edge_set mesh cert e) i
        ∙ ap (λ b. xor b (has (edge_set mesh cert e) i)) (has-xor (p (ends mesh e).0) (p (ends mesh e).1) i)

    pub long_none : ((i : ℕ) → row.from ≤ i → i < row.to → has set i ≡ false) →
        IsLongAt mesh lengths cert row d p e
    long_none none i from to crossed = absurd (false≢true (sym (none i from to) ∙ is_set i ∙ crossed))

    pub long_last : (i : ℕ) → row.from ≤ i → i < row.to → has set i ≡ true →
        ((j : ℕ) → i < j → j < row.to → has set j ≡ false) →
        size_at mesh lengths cert i + 2 * row.margin ≤ way_over mesh lengths d e → IsLongAt mesh lengths cert row d p e
    long_last i from to on above long j from_j to_j crossed = elim (cases_lt i j) [
      | inl more ↦ absurd (false≢true (sym (above j more to_j) ∙ is_set j ∙ crossed))
      | inr less ↦
          let sizes = no_shorter j i less (omega (arith, to, numbered)) in
          let way : ℕ = way_over mesh lengths d e in
          let is : size_at mesh lengths cert i + 2 * row.margin ≤ way = long in
          let goal : size_at mesh lengths cert j + 2 * row.margin ≤ way = omega (arith, sizes, is) in
          goal
    ]

    pub long_at : (i : ℕ) → row.from ≤ i → i < row.to → has set i ≡ true → IsLongAt mesh lengths cert row d p e →
        size_at mesh lengths cert i + 2 * row.margin ≤ way_over mesh lengths d e
    long_at i from to on long = long i from to (sym (is_set i) ∙ on)

  -- ---- an edge that the search didn't come to

  pub far_long : (row : SheetRow) (limit : ℕ) (dist : List ℕ) (p : ℕ → ℕ) (e : ℕ) → row.to ≤ length cert.cycles →
      limit ≡ (size_at mesh lengths cert (row.to - 1) + 2 * row.margin + 1) / 2 →
      at dist (ends mesh e).0 ≡ far → at dist (ends mesh e).1 ≡ far →
      IsLongAt mesh lengths cert row (distance_in limit dist) p e
  far_long row limit dist p e numbered is none_u none_v i from to crossed =
      let u = (ends mesh e).0 in
      let v = (ends mesh e).1 in
      let d_u : distance_in limit dist u ≡ limit = rw (eq-eqb (at dist u) far none_u) refl in
      let d_v : distance_in limit dist v ≡ limit = rw (eq-eqb (at dist v) far none_v) refl in
      let sizes = no_shorter i (row.to - 1) (omega (arith, to)) (omega (arith, to, numbered)) in
      let most : ℕ = size_at mesh lengths cert (row.to - 1) in
      let half : limit ≡ (most + 2 * row.margin + 1) / 2 = is in
      let size : ℕ = size_at mesh lengths cert i in
      let le : size ≤ most = sizes in
      let twice : size + 2 * row.margin ≤ limit + limit = omega (arith, half, le) in
      let goal : size_at mesh lengths cert i + 2 * row.margin
      ≤ distance_in limit dist u + edge_length lengths e + distance_in limit dist v = omega (arith, twice, d_u, d_v) in
      goal

-- ---- the least edge

pub least_from : (n : ℕ) (P : ℕ → Type 0) (least : ℕ) → n ≤ nobody → IsShortSoFar n P least →
    ((e : ℕ) → e < n → P e ⊎ (least ≤ e)) → IsLeastShort n P least
least_from n P least few short seen = record {
  none = λ is e l. elim (seen e l) [ inl holds ↦ holds | inr later ↦ absurd (omega (arith, later, is, l, few)) ];
  first = λ ne.
      let there = short ne in
      record {
        below = there.0;
        fails = there.1;
        before = λ e l. elim (seen e (omega (arith, l, there.0))) [
          | inl holds ↦ holds
          | inr later ↦ absurd (omega (arith, later, l))
        ];
      };
}

-- what a test tells of a condition it tells of one that is the same
pub tells_as : (b : Bool) (P Q : Type 0) → (P → Q) → (Q → P) → MatchBool b P (P → ⊥) → MatchBool b Q (Q → ⊥)
tells_as true P Q to from h = to h
tells_as false P Q to from h = λ q. h (from q)

-- one edge more
pub seen_more : (P : ℕ → Type 0) (items : List ℕ) (n e old new : ℕ) → n < length items → e ≡ get_or items n e → new ≤ old →
    ((i : ℕ) → i < n → P (at items i) ⊎ (old ≤ at items i)) → P e ⊎ (new ≤ e) →
    (i : ℕ) → i < n + 1 → P (at items i) ⊎ (new ≤ at items i)
seen_more P items n e old new l is lower before here i li = elim (cases_eq i n) [
  | inl same ↦
      let there : e ≡ at items i = is ∙ get_or_default items n e 0 l ∙ ap (at items) (sym same) in
      subst (λ x. P x ⊎ (new ≤ x)) there here
  | inr ne ↦ elim (before i (omega (arith, li, ne))) [ inl holds ↦ inl holds | inr up ↦ inr (omega (arith, up, lower)) ]
]

-- all edges at a vertex
pub seen_row : (mesh : Mesh) (P : ℕ → Type 0) (v : ℕ) (items : List ℕ) →
    IsRow (primal (cells_of mesh)) v (map (edge_link mesh v) items) → (n least : ℕ) → length items ≤ n →
    ((i : ℕ) → i < n → P (at items i) ⊎ (least ≤ at items i)) →
    (w e : ℕ) → e < edge_count mesh → joins (primal (cells_of mesh)) v w e ≡ true → P e ⊎ (least ≤ e)
seen_row mesh P v items row n least all seen w e l join =
    let (i, li, is) = row.whole e w l join in
    let size = length-map items (edge_link mesh v) in
    let in_items : i < length items = omega (arith, li, size) in
    let same : at items i ≡ e =
    ap (λ (x : ℕ × ℕ). x.1) (sym (get_or-map (edge_link mesh v) items i 0 (0, 0) in_items) ∙ is) in
    subst (λ x. P x ⊎ (least ≤ x)) same (seen i (omega (arith, in_items, all)))

-- one vertex more
pub seen_next : (mesh : Mesh) (P : ℕ → Type 0) (order : List ℕ) (n old new : ℕ) → new ≤ old →
    ((k w e : ℕ) → k < n → e < edge_count mesh → joins (primal (cells_of mesh)) (at order k) w e ≡ true → P e ⊎ (old ≤ e)) →
    ((w e : ℕ) → e < edge_count mesh → joins (primal (cells_of mesh)) (at order n) w e ≡ true → P e ⊎ (new ≤ e)) →
    (k w e : ℕ) → k < n + 1 → e < edge_count mesh → joins (primal (cells_of mesh)) (at order k) w e ≡ true → P e ⊎ (new ≤ e)
seen_next mesh P order n old new lower before here k w e lk l join = elim (cases_eq k n) [
  | inl same ↦ here w e l (subst (λ j. joins (primal (cells_of mesh)) (at order j) w e ≡ true) same join)
  | inr ne ↦ elim (before k w e (omega (arith, lk, ne)) l join) [ inl holds ↦ inl holds | inr up ↦ inr (omega (arith, up, lower)) ]
]

-- all edges: those at a vertex that is listed, and those where the search came to neither end
pub seen_ends : (mesh : Mesh) (lengths : List ℕ) (P : ℕ → Type 0) (part : List ℕ) (limit : ℕ) (dist order : List ℕ) → IsSurface mesh →
    AreSettled (primal (cells_of mesh)) (edge_length lengths) part limit dist order → (n least : ℕ) → length order ≤ n →
    ((k w e : ℕ) → k < n → e < edge_count mesh → joins (primal (cells_of mesh)) (at order k) w e ≡ true → P e ⊎ (least ≤ e)) →
    ((e : ℕ) → e < edge_count mesh → at dist (ends mesh e).0 ≡ far → at dist (ends mesh e).1 ≡ far → P e) →
    (e : ℕ) → e < edge_count mesh → P e ⊎ (least ≤ e)
seen_ends mesh lengths P part limit dist order surface settled n least all seen neither e l =
    let g = primal (cells_of mesh) in
    let inside = (surfaces_are_cells mesh surface).complex.primal_ends e l in
    let there = joins_ends g e in
    elim (cases_eq (at dist (ends mesh e).0) far) [
      | inr some ↦
          let (i, li, is) = settled.listed (ends mesh e).0 inside.0 some in
          seen i (ends mesh e).1 e (omega (arith, li, all)) l (subst (λ x. joins g x (ends mesh e).1 e ≡ true) (sym is) there)
      | inl none_u ↦ elim (cases_eq (at dist (ends mesh e).1) far) [
        | inr some ↦
            let (i, li, is) = settled.listed (ends mesh e).1 inside.1 some in
            seen i (ends mesh e).0 e (omega (arith, li, all)) l
            (subst (λ x. joins g x (ends mesh e).0 e ≡ true) (sym is) (joins_turned g (ends mesh e).0 (ends mesh e).1 e there))
        | inl none_v ↦ inl (neither e l none_u none_v)
      ]
    ]

-- what a comparison tells of two numbers that are called otherwise
pub leb_tells : (x y u v : ℕ) → x ≡ u → y ≡ v → MatchBool (leb x y) (u ≤ v) (u ≤ v → ⊥)
leb_tells x y u v left right = elim (cases_lt y x) [
  | inl less ↦ rw (lt-leb x y less) (λ le. absurd (omega (arith, less, left, right, le)))
  | inr more ↦ rw (le-leb x y more) (omega (arith, more, left, right))
]
