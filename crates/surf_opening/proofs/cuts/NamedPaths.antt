-- A full cut has a path with the name: its edges hang together, and a way along them can be made a path.
use Rattle.surf_surfaces.proofs.Common.{◌≡◌, ℕ, zero, suc, ◌+◌, ◌-◌, ◌<◌, ◌≤◌, ◌⊎◌, inl, inr, sym, refl, subst, ap, ◌∙◌, List, arith, cases_eq, Joined, here, over, Mesh, IsSurface}
use Rattle.surf_opening.specs.Laws.{NamedPathsExist}
use Rattle.surf_opening.specs.Named.{IsCutPath, IsNamed}
use Rattle.surf_opening.proofs.gluing.RimWords as rim
use Rattle.surf_opening.proofs.gluing.RimWords.{Reaches}
use Rattle.surf_opening.specs.Side.{Side}
use Rattle.surf_opening.specs.Uncut.{Copy, CutSide, CutEdge, IsDualTree, whole}
use Rattle.surf_opening.proofs.sides.SideWords.{IsSides}
use Rattle.surf_opening.proofs.cuts.Ends.{three_vertices}
use Rattle.surf_opening.proofs.gluing.Gluing.{uncut_turned}
use Rattle.surf_opening.proofs.cuts.NamedEdges.{search_below, edge_cut}
use Rattle.surf_opening.proofs.cuts.NamedLaw.{vertex_side}
use Rattle.surf_opening.proofs.openings.OpeningLaw.{surface_sides}
use Rattle.surf_opening.proofs.cuts.Sphere.{taken_or_cut}
use Rattle.surf_opening.proofs.gluing.Trim.{trimmed_is_open}

-- a path of related things from u to w, none twice
pub record IsPath (R : ℕ → ℕ → Type 0) (u w k : ℕ) (at : ℕ → ℕ) : Type 0 where
  pub begins : at 0 ≡ u
  pub ends : at k ≡ w
  pub steps : (i : ℕ) → i < k → R (at i) (at (suc i))
  pub distinct : (i j : ℕ) → i ≤ k → j ≤ k → at i ≡ at j → i ≡ j

abbrev pub put : ℕ → (ℕ → ℕ) → ℕ → ℕ
put u at zero = u
put u at (suc i) = at i

-- whether a path meets a vertex
pub meets : (k : ℕ) (at : ℕ → ℕ) (u : ℕ) → ((j : ℕ) × (j ≤ k) × (at j ≡ u)) ⊎ ((i : ℕ) → i ≤ k → at i ≡ u → ⊥)
meets k at u = elim (search_below (suc k) (λ i. at i ≡ u) (λ i. cases_eq (at i) u)) [
  | inl f ↦ let h : f.0 < suc k = f.1 in inl (f.0, omega arith, f.2)
  | inr none ↦ inr (λ i h e. none i (omega arith) e)
]

module _ {R : ℕ → ℕ → Type 0} where
  -- the rest of a path from a place on
  pub later : {u w k : ℕ} {at : ℕ → ℕ} → IsPath R u w k at → (j : ℕ) → j ≤ k →
      IsPath R (at j) w (k - j) (λ i. at (i + j))
  later {u} {w} {k} {at} path j h = record {
    begins = ap at (plus j);
    ends = ap at (minus k j h) ∙ path.ends;
    steps = λ i g. subst (λ m. R (at (i + j)) (at m)) (plus_suc i j) (path.steps (i + j) (omega arith));
    distinct = λ i l a b e. let s : i + j ≡ l + j = path.distinct (i + j) (l + j) (omega arith) (omega arith) e in
        omega arith;
  }
    where
      plus : (j : ℕ) → 0 + j ≡ j
      plus j = omega arith

      minus : (k j : ℕ) → j ≤ k → k - j + j ≡ k
      minus k j h = omega arith

      plus_suc : (i j : ℕ) → suc (i + j) ≡ suc i + j
      plus_suc i j = omega arith

  -- one more step in front
  pub longer : {u v w k : ℕ} {at : ℕ → ℕ} → R u v → IsPath R v w k at → ((i : ℕ) → i ≤ k → at i ≡ u → ⊥) →
      IsPath R u w (suc k) (put u at)
  longer {u} {v} {w} {k} {at} r path off = record {
    begins = refl;
    ends = path.ends;
    steps = first_step;
    distinct = apart;
  }
    where
      first_step : (i : ℕ) → i < suc k → R (put u at i) (put u at (suc i))
      first_step zero h = subst (λ v. R u v) (sym path.begins) r
      first_step (suc i) h = path.steps i (omega arith)

      apart : (i j : ℕ) → i ≤ suc k → j ≤ suc k → put u at i ≡ put u at j → i ≡ j
      apart zero zero a b e = refl
      apart zero (suc j) a b e = absurd (off j (omega arith) (sym e))
      apart (suc i) zero a b e = absurd (off i (omega arith) e)
      apart (suc i) (suc j) a b e = ap suc (path.distinct i j (omega arith) (omega arith) e)

  pub path_of : {u w : ℕ} → Joined R u w → (k : ℕ) × (at : ℕ → ℕ) × IsPath R u w k at
  path_of (here {a = u}) = (
    0,
    λ i. u,
    record {
      begins = refl;
      ends = refl;
      steps = λ i h. absurd (omega arith);
      distinct =
          λ i j a b e. omega arith;
    },
  )
  path_of {u} {w} (over {b = v} r rest) = front (path_of rest)
    where
      front : (k : ℕ) × (at : ℕ → ℕ) × IsPath R v w k at → (k : ℕ) × (at : ℕ → ℕ) × IsPath R u w k at
      front p = elim (meets p.0 p.1 u) [
        | inl j ↦ (
          p.0 - j.0,
          λ i. p.1 (i + j.0),
          subst (λ u. IsPath R u w (p.0 - j.0) (λ i. p.1 (i + j.0))) j.2
              (later p.2 j.0 j.1),
        )
        | inr off ↦ (suc p.0, put u p.1, longer r p.2 off)
      ]

-- along the rim, vertices are joined by cut edges
cut_joined : {Side : ℕ → ℕ → ℕ → Type 0} (uncut : List (ℕ × ℕ)) {g x y f v w : ℕ} →
    Reaches (CutSide Side uncut) (Copy Side uncut) g x y f v w → IsSides Side → Joined (CutEdge Side uncut) v x
cut_joined uncut rim.here sides = here
cut_joined uncut {f = f} {v = v} {w = w} (rim.turn r rest) sides =
    over (f, (sides.turned r.0, λ u. r.1 (uncut_turned sides uncut v w u))) (cut_joined uncut rest sides)
cut_joined uncut (rim.pass c r rest) sides = cut_joined uncut rest sides

module _ {mesh : Mesh} (surface : IsSurface mesh) {tree : List (ℕ × ℕ)} (dual : IsDualTree (Side mesh) tree) where
  abbrev sides : IsSides (Side mesh)
  sides = surface_sides surface

  abbrev Cut : ℕ → ℕ → Type 0
  Cut = CutEdge (Side mesh) tree

  cut_at : (v : ℕ) → v < mesh.vertices → (f : ℕ) × (w : ℕ) × CutSide (Side mesh) tree f v w
  cut_at v h =
      let s = vertex_side surface v h in
      elim (taken_or_cut sides dual s.0 v s.1 whole s.2) [ inl i ↦ elim i [ ] | inr c ↦ c ]

  pub cut_path : (u w : ℕ) → u < mesh.vertices → w < mesh.vertices → (k : ℕ) × (at : ℕ → ℕ) × IsPath Cut u w k at
  cut_path u w h g =
      let a = cut_at u h in
      let b = cut_at w g in
      let open' = trimmed_is_open sides dual whole in
      path_of (cut_joined tree (open'.one a.0 u a.1 b.0 w b.1 a.2 b.2) sides)

  abbrev Named : Type 0
  Named = (k : ℕ) × (at : ℕ → ℕ) × IsCutPath (Side mesh) tree k at × IsNamed k at

  is_cut_path : {u w k : ℕ} {at : ℕ → ℕ} → IsPath Cut u w k at → 2 ≤ k → IsCutPath (Side mesh) tree k at
  is_cut_path path h = record { long = h; cut = path.steps; distinct = path.distinct }

  turned : {v w : ℕ} → Cut v w → Cut w v
  turned {v} {w} c = (c.0, (sides.turned c.1.0, λ u. c.1.1 (uncut_turned sides tree w v u)))

  -- a cut path from 0 to 1
  abbrev pub Far : Type 0
  Far = (k : ℕ) × (at : ℕ → ℕ) × IsCutPath (Side mesh) tree k at × (at 0 ≡ 0) × (at k ≡ 1)

  -- a cut path that begins with 0 1, in either direction, and leads to 2
  abbrev pub Near : Type 0
  Near =
      (k : ℕ) × (at : ℕ → ℕ) × IsCutPath (Side mesh) tree k at
      × (((at 0 ≡ 0) × (at 1 ≡ 1)) ⊎ ((at 0 ≡ 1) × (at 1 ≡ 0))) × (at k ≡ 2)

  -- where 0 1 isn't cut
  from_far : {k : ℕ} {at : ℕ → ℕ} → IsPath Cut 0 1 k at → (Cut 0 1 → ⊥) → Far
  from_far {k} {at} path none = (k, at, is_cut_path path (long k path), path.begins, path.ends)
    where
      long : (k : ℕ) → IsPath Cut 0 1 k at → 2 ≤ k
      long zero path = let a : at 0 ≡ 0 = path.begins in let b : at 0 ≡ 1 = path.ends in absurd (omega arith)
      long (suc zero) path =
          absurd (none (subst (λ v. Cut v 1) path.begins
          (subst (λ w. Cut (at 0) w) path.ends (path.steps 0 (omega arith)))))
      long (suc (suc k)) path = omega arith

  -- where 0 1 is cut, by a path from 0 to 2
  from_near : {k : ℕ} {at : ℕ → ℕ} → IsPath Cut 0 2 k at → Cut 0 1 → Near
  from_near {k} {at} path c = elim (meets k at 1) [
    | inr off ↦
        let more = longer (turned c) path off in
        (suc k, put 1 at, is_cut_path more (some k path.begins path.ends), inr (refl, path.begins), path.ends)
    | inl j ↦
        let rest : IsPath Cut 1 2 (k - j.0) (λ i. at (i + j.0)) =
        subst (λ v. IsPath Cut v 2 (k - j.0) (λ i. at (i + j.0))) j.2 (later path j.0 j.1) in
        let more = longer c rest (λ i h e.
        let m : i + j.0 ≡ 0 = path.distinct (i + j.0) 0 (between i j.0 k h j.1) (omega arith) (e ∙ sym path.begins) in
        clash at j.0 (none i j.0 m) path.begins j.2) in (
          suc (k - j.0),
          put 0 (λ i. at (i + j.0)),
          is_cut_path more (rising (λ i. at (i + j.0)) (k - j.0) rest.begins rest.ends),
          inl (refl, rest.begins),
          rest.ends,
        )
  ]
    where
      some : (k : ℕ) → at 0 ≡ 0 → at k ≡ 2 → 2 ≤ suc k
      some zero a b = absurd (omega arith)
      some (suc k) a b = omega arith

      between : (i j k : ℕ) → i ≤ k - j → j ≤ k → i + j ≤ k
      between i j k h g = omega arith

      none : (i j : ℕ) → i + j ≡ 0 → j ≡ 0
      none i j e = omega arith

      clash : (at : ℕ → ℕ) (j : ℕ) → j ≡ 0 → at 0 ≡ 0 → at j ≡ 1 → ⊥
      clash at zero z a b = omega arith
      clash at (suc j) z a b = omega arith

      rising : (at : ℕ → ℕ) (k : ℕ) → at 0 ≡ 1 → at k ≡ 2 → 2 ≤ suc k
      rising at zero a b = absurd (omega arith)
      rising at (suc k) a b = omega arith

  pub near_or_far : (Near × Cut 0 1) ⊎ (Far × (Cut 0 1 → ⊥))
  near_or_far =
      let three : 3 ≤ mesh.vertices = three_vertices surface dual in
      elim (edge_cut surface tree 0 1) [
        | inl c ↦ let p = cut_path 0 2 (omega arith) (omega arith) in inl (from_near p.2 c, c)
        | inr none ↦ let p = cut_path 0 1 (omega arith) (omega arith) in inr (from_far p.2 none, none)
      ]

  pub named_path : Named
  named_path = elim near_or_far [
    | inl near ↦ let p = near.0 in (p.0, p.1, p.2, inr (p.3, p.4))
    | inr far ↦ let p = far.0 in (p.0, p.1, p.2, inl (p.3, p.4))
  ]

pub named_paths_exist : NamedPathsExist
named_paths_exist mesh tree surface dual = named_path surface dual
