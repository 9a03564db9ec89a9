-- Where the characteristic is 2, a cut in trimming has two leaves at least: no vertex s is the only one.
use Rattle.surf_surfaces.proofs.Common.{◌≡◌, ◌≢◌, ℕ, ◌+◌, ◌<◌, ◌≤◌, ◌⊎◌, inl, inr, sym, ◌∙◌, List, ◌∷◌, length, arith, cases_lt, cases_eq, Mesh, face_count, edge_count, face_at, IsSurface}
use Rattle.surf_opening.specs.Side.{Side, IsPlace}
use Rattle.surf_opening.specs.Numbers.{Numbers}
use Rattle.surf_opening.specs.Uncut.{IsDualTree, IsTrimmed, whole, leaf, In, CutSide, AreEdges, IsFaceTree, root, grown}
use Rattle.surf_opening.proofs.sides.SideWords.{SameCorner, IsOneFan, IsSides}
use Rattle.surf_opening.specs.Opening.{corner_of}
use Rattle.surf_opening.proofs.sides.MeshSides.{is_darts}
use Rattle.surf_opening.proofs.gluing.Gluing.{glues}
use Rattle.surf_opening.proofs.gluing.Tree.{glued_in}
use Rattle.surf_opening.proofs.gluing.Trim.{trimmed_is_open, leaf_closed}
use Rattle.surf_opening.proofs.counts.Count.{tree_copies, one_corner_less}
use Rattle.surf_opening.proofs.cuts.FullCut.{places_twice}
use Rattle.surf_opening.proofs.openings.OpeningLaw.{surface_sides, tree_length}
use Rattle.surf_opening.proofs.cuts.Sphere.{taken, crowd, second_at, crowd_more, HasNumber, three_copies}

tree_are : {Side : ℕ → ℕ → ℕ → Type 0} {faces : List ℕ} {tree : List (ℕ × ℕ)} → IsSides Side →
    IsFaceTree Side faces tree → AreEdges Side tree
tree_are sides (root f v w s) = tt
tree_are sides (grown a b p q tree in_a out_b at_a at_b) =
    ((a, at_a), (λ u. out_b (glued_in sides tree u at_b)), tree_are sides tree)

module _ {mesh : Mesh} (surface : IsSurface mesh) {tree : List (ℕ × ℕ)} (dual : IsDualTree (Side mesh) tree) where
  pub trimmed_are : {uncut : List (ℕ × ℕ)} → IsTrimmed (Side mesh) tree uncut → AreEdges (Side mesh) uncut
  trimmed_are whole = tree_are (surface_sides surface) dual.grows
  trimmed_are (leaf a p q trimmed r only more) = ((a, r.0), r.1, trimmed_are trimmed)

  abbrev CopiesOf : List (ℕ × ℕ) → ℕ → Type 0
  CopiesOf uncut n = Numbers (IsPlace mesh) (SameCorner (Side mesh) (λ x. x.0) (corner_of mesh.faces) uncut) n

  -- each leaf taken takes a copy
  pub trimmed_copies : {uncut : List (ℕ × ℕ)} (trimmed : IsTrimmed (Side mesh) tree uncut) →
      (n : ℕ) × CopiesOf uncut n
      × (n + (face_count mesh + face_count mesh) + length (taken (surface_sides surface) trimmed)
      ≡ edge_count mesh + edge_count mesh + 2)
  trimmed_copies whole =
      let count = tree_copies (surface_sides surface) (is_darts mesh surface.is_mesh) (places_twice surface) dual.grows
      in
      let same : length dual.faces ≡ face_count mesh = tree_length surface dual.faces tree dual.grows dual.every_face in
      (count.0, count.1, omega (arith, count.2))
  trimmed_copies (leaf {uncut = uncut} a p q trimmed r only more) =
      let sides = surface_sides surface in
      let before = trimmed_copies trimmed in
      let opened = trimmed_is_open sides dual trimmed in
      let other = leaf_closed sides opened r only in
      let glue = glues sides uncut r.0 other.1 other.2 r.1 in
      let less = one_corner_less sides (is_darts mesh surface.is_mesh) uncut r.0 other.1 r.1 glue other.3
      (λ c. other.2 (opened.is_rim.proper r (other.1, r.1) other.3 c)) before.1 in
      let e : before.0 ≡ less.0 + 1 = less.1 in
      (less.0, less.2, omega (arith, before.2))

  -- a corner at each vertex
  abbrev pick : (v : ℕ) → (v < mesh.vertices) ⊎ (mesh.vertices ≤ v) → ℕ × ℕ
  pick v (inl h) = let f = surface.no_isolated v h in (f.0, f.1.1.0)
  pick v (inr h) = (0, 0)

  pick_is : (v : ℕ) (c : (v < mesh.vertices) ⊎ (mesh.vertices ≤ v)) → v < mesh.vertices →
      IsPlace mesh (pick v c) × (corner_of mesh.faces (pick v c) ≡ v)
  pick_is v (inl h) g = let f = surface.no_isolated v h in
      ((f.1.0, f.1.1.1), Rattle.std.proofs.lemmas.List.get_or_default (face_at mesh f.0) f.1.1.0 0 v f.1.1.1 ∙ f.1.1.2)
  pick_is v (inr h) g = absurd (omega arith)

  abbrev chosen : ℕ → ℕ × ℕ
  chosen v = pick v (cases_lt v mesh.vertices)

  -- v has two different cut edges
  pub record IsFork (uncut : List (ℕ × ℕ)) (v : ℕ) : Type 0 where
    pub f : ℕ
    pub g : ℕ
    pub w : ℕ
    pub y : ℕ
    pub one : CutSide (Side mesh) uncut f v w
    pub two : CutSide (Side mesh) uncut g v y
    pub differ : w ≢ y

  pub two_leaves : {uncut : List (ℕ × ℕ)} (trimmed : IsTrimmed (Side mesh) tree uncut) →
      mesh.vertices + face_count mesh ≡ edge_count mesh + 2 → (s : ℕ) →
      ((v : ℕ) → v < mesh.vertices → IsOneFan (Side mesh) v) →
      ((v : ℕ) → v < mesh.vertices → In (s ∷ taken (surface_sides surface) trimmed) v ⊎ IsFork uncut v) → ⊥
  two_leaves {uncut} trimmed flat s fan each =
      let sides = surface_sides surface in
      let n = trimmed_copies trimmed in
      let l : List ℕ = s ∷ taken sides trimmed in
      let k : mesh.vertices + mesh.vertices ≤ n.0 + length l =
      crowd (IsPlace mesh) (corner_of mesh.faces) n.1.number mesh.vertices n.0 n.1.below
      (λ x y i j e. (n.1.tells x y i j e).0) chosen (λ v h. pick_is v (cases_lt v mesh.vertices) h) l
      (λ v h. elim (each v h) [
        | inl i ↦ inl i
        | inr k ↦ inr (second_at sides (is_darts mesh surface.is_mesh) uncut (trimmed_are trimmed) mesh.vertices n.0 n.1
            chosen (λ v h. pick_is v (cases_lt v mesh.vertices) h) l h (fan v h) k.one k.two k.differ)
      ]) in
      let e = n.2 in
      omega arith

  -- with two leaves, no vertex has three cut edges
  pub no_triple : {uncut : List (ℕ × ℕ)} (trimmed : IsTrimmed (Side mesh) tree uncut) →
      mesh.vertices + face_count mesh ≡ edge_count mesh + 2 → (s t : ℕ) →
      ((v : ℕ) → v < mesh.vertices → IsOneFan (Side mesh) v) →
      ((v : ℕ) → v < mesh.vertices → In (s ∷ t ∷ taken (surface_sides surface) trimmed) v ⊎ IsFork uncut v) →
      (r : ℕ) → r < mesh.vertices → {f g h w y z : ℕ} → CutSide (Side mesh) uncut f r w →
      CutSide (Side mesh) uncut g r y → CutSide (Side mesh) uncut h r z → w ≢ y → w ≢ z → y ≢ z → ⊥
  no_triple {uncut} trimmed flat s t fan each r r_below a b c wy wz yz =
      let three = three_copies sides (is_darts mesh surface.is_mesh) uncut (trimmed_are trimmed) n.0 n.1 r
      (fan r r_below) a b c wy wz yz in
      elim (cases_eq three.i (n.1.number (chosen r))) [
        | inl e ↦ full three.two three.three (λ k. three.one_two (e ∙ sym k)) (λ k. three.one_three (e ∙ sym k))
            three.two_three
        | inr ni ↦ elim (cases_eq three.j (n.1.number (chosen r))) [
          | inl e ↦ full three.one three.three ni (λ k. three.two_three (e ∙ sym k)) three.one_three
          | inr nj ↦ full three.one three.two ni nj three.one_two
        ]
      ]
    where
      sides : IsSides (Side mesh)
      sides = surface_sides surface

      n : (n : ℕ) × CopiesOf uncut n
          × (n + (face_count mesh + face_count mesh) + length (taken (surface_sides surface) trimmed)
          ≡ edge_count mesh + edge_count mesh + 2)
      n = trimmed_copies trimmed

      full : {f g i j : ℕ} → HasNumber sides (is_darts mesh surface.is_mesh) uncut (trimmed_are trimmed) n.0 n.1 r
          (fan r r_below) f i → HasNumber sides (is_darts mesh surface.is_mesh) uncut (trimmed_are trimmed) n.0 n.1 r
          (fan r r_below) g j →
          i ≢ n.1.number (chosen r) → j ≢ n.1.number (chosen r) → i ≢ j → ⊥
      full x y ni nj ij =
          let l : List ℕ = s ∷ t ∷ taken (surface_sides surface) trimmed in
          let k : mesh.vertices + mesh.vertices + 1 ≤ n.0 + length l =
          crowd_more (IsPlace mesh) (corner_of mesh.faces) n.1.number mesh.vertices n.0 n.1.below
          (λ x y i j e. (n.1.tells x y i j e).0) chosen (λ v h. pick_is v (cases_lt v mesh.vertices) h) l
          r r_below x.place y.place x.is y.is x.at_v y.at_v
          (λ e. ni (sym x.number ∙ e)) (λ e. nj (sym y.number ∙ e)) (λ e. ij (sym x.number ∙ e ∙ y.number))
          (λ v h nr. elim (each v h) [
            | inl i ↦ inl i
            | inr k ↦ inr (second_at sides (is_darts mesh surface.is_mesh) uncut (trimmed_are trimmed) mesh.vertices n.0
                n.1 chosen (λ v h. pick_is v (cases_lt v mesh.vertices) h) l h (fan v h) k.one k.two k.differ)
          ]) in
          let e = n.2 in
          omega arith
