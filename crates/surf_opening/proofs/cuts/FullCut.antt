-- The full cut has 2 (E − F + 1) copies.
use Rattle.surf_surfaces.proofs.Common.{◌≡◌, ℕ, ◌+◌, ◌/◌, ◌%◌, ◌<◌, sym, refl, subst, ap, ◌∙◌, List, length, get_or, arith, Mesh, pair, edges, face_count, edge_count, face_at, ends, faces_with, HasEdge, IsSurface, after, place_of}
use Rattle.surf_opening.specs.Rim.{along}
use Rattle.surf_opening.specs.Side.{Side, IsPlace}
use Rattle.surf_opening.specs.Numbers.{Numbers}
use Rattle.surf_opening.specs.Uncut.{IsDualTree}
use Rattle.surf_opening.proofs.sides.SideWords.{IsOpenedAlong}
use Rattle.surf_opening.proofs.sides.Polygons.{among_pair, has_side_to}
use Rattle.surf_opening.proofs.counts.Places.{faces_counted}
use Rattle.surf_opening.proofs.sides.Edges.{numbered, edge_one}
use Rattle.surf_opening.proofs.sides.MeshSides.{from_face, is_darts}
use Rattle.surf_opening.proofs.counts.Counting.{numbers_same}
use Rattle.surf_opening.proofs.counts.Count.{tree_copies}
use Rattle.surf_opening.proofs.openings.OpeningLaw.{surface_sides, tree_length}
use Rattle.surf_opening.proofs.openings.Opened.{copies_counted}

module _ {mesh : Mesh} (surface : IsSurface mesh) where
  abbrev side_pair : ℕ × ℕ → ℕ × ℕ
  side_pair x = pair (get_or (face_at mesh x.0) x.1 0)
      (get_or (face_at mesh x.0) (after (length (face_at mesh x.0)) x.1) 0)

  abbrev edge_number : ℕ × ℕ → ℕ
  edge_number x = place_of (side_pair x) (edges mesh)

  has_pair : (x : ℕ × ℕ) → IsPlace mesh x → HasEdge mesh x.0 (side_pair x)
  has_pair x h = (from_face mesh h.0 (x.1, h.1, along refl refl)).has

  halves : (k n : ℕ) → k < n + n → (k / 2 < n) × (k % 2 < 2) × (k ≡ k / 2 + k / 2 + k % 2)
  halves k n h = (omega arith, omega arith, omega arith)

  same_halves : (a b r s : ℕ) → r < 2 → s < 2 → a + a + r ≡ b + b + s → (a ≡ b) × (r ≡ s)
  same_halves a b r s h g e = (omega arith, omega arith)

  abbrev number : ℕ × ℕ → ℕ
  number x = edge_number x + edge_number x + (faces_counted mesh (side_pair x)).number x.0

  at_number : (x : ℕ × ℕ) → IsPlace mesh x → (edge_number x < edge_count mesh)
      × (ends mesh (edge_number x) ≡ side_pair x)
  at_number x h = numbered mesh x.0 (side_pair x) (has_pair x h)

  rank_below : (x : ℕ × ℕ) → IsPlace mesh x → (faces_counted mesh (side_pair x)).number x.0 < 2
  rank_below x h =
      let a = at_number x h in
      let r : (faces_counted mesh (side_pair x)).number x.0 < length (faces_with mesh (side_pair x)) =
      (faces_counted mesh (side_pair x)).below x.0 (has_pair x h) in
      let two : length (faces_with mesh (side_pair x)) ≡ 2 =
      subst (λ p. length (faces_with mesh p) ≡ 2) a.1 (surface.two_faces (edge_number x) a.0) in
      omega arith

  below : (x : ℕ × ℕ) → IsPlace mesh x → number x < edge_count mesh + edge_count mesh
  below x h = let a = (at_number x h).0 in let r = rank_below x h in omega arith

  onto : (k : ℕ) → k < edge_count mesh + edge_count mesh → (x : ℕ × ℕ) × IsPlace mesh x × (number x ≡ k)
  onto k h =
      let half = halves k (edge_count mesh) h in
      let e = k / 2 in
      let f = (faces_counted mesh (ends mesh e)).onto (k % 2)
      (subst (λ n. k % 2 < n) (sym (surface.two_faces e half.0)) half.1) in
      let i = has_side_to (face_at mesh f.0) (ends mesh e) f.1.1 in
      let x : ℕ × ℕ = (f.0, i.0) in
      let is : IsPlace mesh x = (f.1.0, i.1) in
      let a = at_number x is in
      let same : edge_number x ≡ e = edge_one mesh (edge_number x) e a.0 half.0 (a.1 ∙ sym i.2) in
      let rank : (faces_counted mesh (side_pair x)).number f.0 ≡ k % 2 =
      subst (λ p. (faces_counted mesh p).number f.0 ≡ k % 2) i.2 f.2 in (
        x,
        is,
        ap (λ m. m + m + (faces_counted mesh (side_pair x)).number f.0) same ∙ ap
            (λ r. e + e + r) rank ∙ sym half.2,
      )

  tells : (x y : ℕ × ℕ) → IsPlace mesh x → IsPlace mesh y → number x ≡ number y → x ≡ y
  tells x y h g e =
      let s = same_halves (edge_number x) (edge_number y) ((faces_counted mesh (side_pair x)).number x.0)
      ((faces_counted mesh (side_pair y)).number y.0) (rank_below x h) (rank_below y g) e in
      let p : side_pair x ≡ side_pair y = sym (at_number x h).1 ∙ ap (λ e. ends mesh e) s.0 ∙ (at_number y g).1 in
      let f : x.0 ≡ y.0 = (faces_counted mesh (side_pair x)).tells x.0 y.0 (has_pair x h)
      (subst (λ p. HasEdge mesh y.0 p) (sym p) (has_pair y g))
      (s.1 ∙ subst (λ p. (faces_counted mesh (side_pair y)).number y.0 ≡ (faces_counted mesh p).number y.0)
      (sym p) refl) in
      (is_darts mesh surface.is_mesh).one_side x y h g f (among_pair p)

  -- each edge is a side at two places
  pub places_twice : Numbers (IsPlace mesh) (λ (x : ℕ × ℕ) (y : ℕ × ℕ). x ≡ y) (edge_count mesh + edge_count mesh)
  places_twice = record {
    number = number;
    below = below;
    onto = onto;
    tells = tells;
    agrees = λ x y h g e. ap number e;
  }

  pub full_copies : {tree : List (ℕ × ℕ)} {origins : List ℕ} {faces : List (List ℕ)} → IsDualTree (Side mesh) tree →
      IsOpenedAlong mesh tree origins faces →
      length origins + (face_count mesh + face_count mesh) ≡ edge_count mesh + edge_count mesh + 2
  full_copies {tree} {origins} dual opened =
      let sides = surface_sides surface in
      let count = tree_copies sides (is_darts mesh surface.is_mesh) places_twice dual.grows in
      let copies : count.0 ≡ length origins = numbers_same count.1 (copies_counted sides opened) in
      let same : length dual.faces ≡ face_count mesh = tree_length surface dual.faces tree dual.grows dual.every_face in
      omega (arith, count.2)
