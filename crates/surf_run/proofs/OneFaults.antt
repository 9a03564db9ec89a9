-- The first fault of a mesh that is no surface, or no disc, and that of evidence is one.
use Rattle.surf_answers.proofs.Common.{◌≡◌, ◌≢◌, ℕ, zero, suc, ◌+◌, ◌<◌, ◌≤◌, true, false, List, [], ◌∷◌, length, get_or, take, refl, sym, ap, ◌∙◌, subst, arith, inl, inr, ◌==◌, cases_Bool, cases_eq, true≢false, eqb-true, boundary, Joined, Mesh, pair_lt, pair_eq, among, edges, face_count, edge_count, ends, faces_with, HasCorner, Share, ShareAt, HasOneFan, IsConnected, Chain, IsBorderEdge, ShareOnBorder, is_listed, has_odd_sides, Evidence, null_faces, odd_pairs, among-contains, list_any_at, pair_eq-true, pair_lt-total}
use Rattle.surf_answers.proofs.Commands.{SurfaceFault}
use Rattle.surf_treecheck.specs.First.{HoldsBelow, FailsFirst}
use Rattle.surf_treecheck.proofs.FirstFault.{first_same}
use Rattle.surf_check.specs.Fault.{IsSurfaceFault}
use Rattle.surf_check.specs.declared.checking.SurfaceFault.TheVariants as surface
use Rattle.surf_class.specs.Faults.{IsClassFault}
use Rattle.surf_class.specs.declared.fault.ClassFault.{ClassFault}
use Rattle.surf_class.specs.declared.fault.ClassFault.TheVariants as class
use Rattle.surf_classes.specs.Faults.{IsNoFace, IsNoBoundary, IsNoPair, IsOddFace}
use Rattle.surf_disc.specs.Across.{NoneCrowded}
use Rattle.surf_disc.specs.Border.{IsLeastOnBorder, IsLeastOutside, HasOneBorder}
use Rattle.surf_disc.specs.Fault.{IsLeastCrowded, IsPatch, IsBorderFault, AllFans, IsDiscFault}
use Rattle.surf_disc.specs.declared.faults.BorderKind.{BorderKind}
use Rattle.surf_disc.specs.declared.faults.BorderKind.TheVariants.{Nothing, Two}
use Rattle.surf_disc.specs.declared.faults.DiscFault.{DiscFault}
use Rattle.surf_disc.specs.declared.faults.DiscFault.TheVariants as disc
use Rattle.surf_soup.specs.Apart.{IsLeastApart}
use Rattle.surf_soup.specs.Pairs.{degree, HasTwoFaces, IsLeastBorder, IsLeastCrowd}
use Rattle.surf_soup.specs.Ring.{IsPinch, IsLeastPinch}
use Rattle.surf_soup.specs.Vertices.{AllMet, IsLeastIsolated}

-- ---- the first condition that fails

none_below : (Holds : ℕ → Type 0) → HoldsBelow 0 Holds
none_below Holds k l = absurd (omega (arith, l))

below_more : (Holds : ℕ → Type 0) (n : ℕ) → HoldsBelow n Holds → Holds n → HoldsBelow (suc n) Holds
below_more Holds n before here k l = elim (cases_eq k n) [
  | inl last ↦ subst Holds (sym last) here
  | inr other ↦ before k (omega (arith, l, other))
]

-- ---- what is least at an edge, a vertex or a face

module _ (mesh : Mesh) where
  -- the ends of one edge are one pair
  ends_same : (e d : ℕ) (p q : ℕ × ℕ) → e ≡ d → ends mesh e ≡ p → ends mesh d ≡ q → p ≡ q
  ends_same e d p q same a b = sym a ∙ ap (ends mesh) same ∙ b

  degree_is : (e : ℕ) (p : ℕ × ℕ) → ends mesh e ≡ p → degree mesh e ≡ length (faces_with mesh p)
  degree_is e p is = ap (λ q. length (faces_with mesh q)) is

  isolated_first : (v : ℕ) → IsLeastIsolated mesh v → FailsFirst mesh.vertices (λ u. (f : ℕ) × HasCorner mesh f u) v
  isolated_first v is = record { below = is.is_vertex; fails = λ met. is.no_face met.0 met.1; before = is.met_before }

  apart_first : (f : ℕ) → IsLeastApart mesh f → FailsFirst (face_count mesh) (Joined (Share mesh) 0) f
  apart_first f is = record { below = is.is_face; fails = is.apart; before = is.joined_before }

  pinch_first : (v f g : ℕ) → IsLeastPinch mesh v f g → FailsFirst mesh.vertices (HasOneFan mesh) v
  pinch_first v f g is = record {
    below = is.is_vertex;
    fails = λ fan. is.pinch.apart (fan f g is.pinch.first is.pinch.second);
    before = is.none_before;
  }

  least_face : (v f g : ℕ) → IsPinch mesh v f g → FailsFirst (face_count mesh) (λ h. HasCorner mesh h v → ⊥) f
  least_face v f g is = record { below = is.first.0; fails = λ none. none is.first; before = is.none_less }

  least_other : (v f g : ℕ) → IsPinch mesh v f g →
      FailsFirst (face_count mesh) (λ h. HasCorner mesh h v → Joined (ShareAt mesh v) f h) g
  least_other v f g is = record {
    below = is.second.0;
    fails = λ joined. is.apart (joined is.second);
    before = is.joined_before;
  }

  pinch_same : {F : Type 0} (fault : ℕ → ℕ → ℕ → F) (v f g w h i : ℕ) → IsLeastPinch mesh v f g →
      IsLeastPinch mesh w h i →
      fault v f g ≡ fault w h i
  pinch_same fault v f g w h i a b =
      let vertex : v ≡ w = first_same mesh.vertices (HasOneFan mesh) v w (pinch_first v f g a) (pinch_first w h i b) in
      let there : IsPinch mesh w f g = subst (λ n. IsPinch mesh n f g) vertex a.pinch in
      let face : f ≡ h =
      first_same (face_count mesh) (λ k. HasCorner mesh k w → ⊥) f h (least_face w f g there)
      (least_face w h i b.pinch) in
      let beside : IsPinch mesh w h g = subst (λ n. IsPinch mesh w n g) face there in
      let other : g ≡ i =
      first_same (face_count mesh) (λ k. HasCorner mesh k w → Joined (ShareAt mesh w) h k) g i
      (least_other w h g beside) (least_other w h i b.pinch) in
      ap (λ n. fault n f g) vertex ∙ ap (λ n. fault w n g) face ∙ ap (fault w h) other

-- ---- surfaces

module _ (mesh : Mesh) where
  abbrev HasNoBorder : Type 0
  HasNoBorder = (d : ℕ) → d < edge_count mesh → degree mesh d ≢ 1

  -- the condition of each kind
  abbrev SurfaceHolds : ℕ → Type 0
  SurfaceHolds zero = 0 < face_count mesh
  SurfaceHolds (suc zero) = HasNoBorder
  SurfaceHolds (suc (suc zero)) = HasTwoFaces mesh
  SurfaceHolds (suc (suc (suc zero))) = AllMet mesh
  SurfaceHolds (suc (suc (suc (suc zero)))) = AllFans mesh
  SurfaceHolds (suc (suc (suc (suc (suc k))))) = IsConnected mesh

  two_no_border : HasTwoFaces mesh → HasNoBorder
  two_no_border two d l one = let here = two d l in absurd (omega (arith, here, one))

  to_border : 0 < face_count mesh → HoldsBelow 1 SurfaceHolds
  to_border some = below_more SurfaceHolds 0 (none_below SurfaceHolds) some

  to_crowd : 0 < face_count mesh → HasNoBorder → HoldsBelow 2 SurfaceHolds
  to_crowd some none = below_more SurfaceHolds 1 (to_border some) none

  to_isolated : 0 < face_count mesh → HasTwoFaces mesh → HoldsBelow 3 SurfaceHolds
  to_isolated some two = below_more SurfaceHolds 2 (to_crowd some (two_no_border two)) two

  to_pinch : 0 < face_count mesh → HasTwoFaces mesh → AllMet mesh → HoldsBelow 4 SurfaceHolds
  to_pinch some two met = below_more SurfaceHolds 3 (to_isolated some two) met

  to_apart : 0 < face_count mesh → HasTwoFaces mesh → AllMet mesh → AllFans mesh → HoldsBelow 5 SurfaceHolds
  to_apart some two met fans = below_more SurfaceHolds 4 (to_pinch some two met) fans

  abbrev surface_kind : SurfaceFault → ℕ
  surface_kind surface.Empty = 0
  surface_kind (surface.Border u v face) = 1
  surface_kind (surface.Crowded u v faces) = 2
  surface_kind (surface.Isolated v) = 3
  surface_kind (surface.Pinched v first second) = 4
  surface_kind (surface.Apart face) = 5
  surface_kind surface.Memory = 6

  border_degree : (u v face e : ℕ) → IsLeastBorder mesh (u, v) face e → degree mesh e ≡ 1
  border_degree u v face e is = ap length (ap (faces_with mesh) is.its_ends ∙ is.its_face)

  -- a fault fails the condition of its kind, and those before it hold
  surface_first : (fault : SurfaceFault) → fault ≢ surface.Memory → IsSurfaceFault mesh fault →
      FailsFirst 6 SurfaceHolds (surface_kind fault)
  surface_first surface.Empty ne is =
      record { below = omega arith; fails = λ some. absurd (omega (arith, is, some)); before = none_below SurfaceHolds }
  surface_first (surface.Border u v face) ne (some, (e, is)) = record {
    below = omega arith;
    fails = λ none. none e is.is_edge (border_degree u v face e is);
    before = to_border some;
  }
  surface_first (surface.Crowded u v faces) ne (some, (e, is)) = record {
    below = omega arith;
    fails = λ two.
        let here = two e is.is_edge in
        let same = degree_is mesh e (u, v) is.its_ends in
        let many = is.many in
        absurd (omega (arith, here, same, many));
    before = to_crowd some is.no_border;
  }
  surface_first (surface.Isolated v) ne (some, two, is) = record {
    below = omega arith;
    fails = λ met. let m = met v is.is_vertex in is.no_face m.0 m.1;
    before = to_isolated some two;
  }
  surface_first (surface.Pinched v f g) ne (some, two, met, is) = record {
    below = omega arith;
    fails = λ fans. is.pinch.apart (fans v is.is_vertex f g is.pinch.first is.pinch.second);
    before = to_pinch some two met;
  }
  surface_first (surface.Apart face) ne (some, two, met, fans, is) = record {
    below = omega arith;
    fails = λ connected. is.apart (connected 0 face some is.is_face);
    before = to_apart some two met fans;
  }
  surface_first surface.Memory ne is = absurd (ne refl)

  border_same : (u v face w z other e d : ℕ) → IsLeastBorder mesh (u, v) face e → IsLeastBorder mesh (w, z) other d →
      surface.Border u v face ≡ surface.Border w z other
  border_same u v face w z other e d a b =
      let same : e ≡ d = first_same (edge_count mesh) (λ c. degree mesh c ≢ 1) e d
      (record { below = a.is_edge; fails = λ none. none (border_degree u v face e a); before = a.none_before })
      (record { below = b.is_edge; fails = λ none. none (border_degree w z other d b); before = b.none_before }) in
      let pair : (u, v) ≡ (w, z) = ends_same mesh e d (u, v) (w, z) same a.its_ends b.its_ends in
      let row : face ∷ [] ≡ other ∷ [] = sym a.its_face ∙ ap (faces_with mesh) pair ∙ b.its_face in
      ap (λ (p : ℕ × ℕ). surface.Border p.0 p.1 face) pair
      ∙ ap (λ (xs : List ℕ). surface.Border w z (get_or xs 0 0)) row

  crowd_same : (p q : ℕ × ℕ) (faces others : List ℕ) (e d : ℕ) → IsLeastCrowd mesh p faces e →
      IsLeastCrowd mesh q others d →
      (p ≡ q) × (faces ≡ others)
  crowd_same p q faces others e d a b =
      let many_a : 3 ≤ degree mesh e =
      (let m = a.many in let same = degree_is mesh e p a.its_ends in omega (arith, m, same)) in
      let many_b : 3 ≤ degree mesh d =
      (let m = b.many in let same = degree_is mesh d q b.its_ends in omega (arith, m, same)) in
      let same : e ≡ d = first_same (edge_count mesh) (λ c. degree mesh c < 3) e d
      (record { below = a.is_edge; fails = λ few. absurd (omega (arith, few, many_a)); before = a.none_before })
      (record { below = b.is_edge; fails = λ few. absurd (omega (arith, few, many_b)); before = b.none_before }) in
      let pair : p ≡ q = ends_same mesh e d p q same a.its_ends b.its_ends in
      (pair, sym a.its_faces ∙ ap (λ r. take 3 (faces_with mesh r)) pair ∙ b.its_faces)

  surface_same : (a b : SurfaceFault) → surface_kind a ≡ surface_kind b → IsSurfaceFault mesh a →
      IsSurfaceFault mesh b → a ≡ b
  surface_same surface.Empty surface.Empty k a b = refl
  surface_same (surface.Border u v face) (surface.Border w z other) k (some, (e, a)) (more, (d, b)) =
      border_same u v face w z other e d a b
  surface_same (surface.Crowded u v faces) (surface.Crowded w z others) k (some, (e, a)) (more, (d, b)) =
      let same = crowd_same (u, v) (w, z) faces others e d a b in
      ap (λ (p : ℕ × ℕ). surface.Crowded p.0 p.1 faces) same.0 ∙ ap (λ (xs : List ℕ). surface.Crowded w z xs) same.1
  surface_same (surface.Isolated v) (surface.Isolated w) k (some, two, a) (more, too, b) =
      ap surface.Isolated
      (first_same mesh.vertices (λ u. (f : ℕ) × HasCorner mesh f u) v w (isolated_first mesh v a)
      (isolated_first mesh w b))
  surface_same (surface.Pinched v f g) (surface.Pinched w h i) k (some, two, met, a) (more, too, all, b) =
      pinch_same mesh (λ x y z. surface.Pinched x y z) v f g w h i a b
  surface_same (surface.Apart f) (surface.Apart g) k (some, two, met, fans, a) (more, too, all, rounds, b) =
      ap surface.Apart (first_same (face_count mesh) (Joined (Share mesh) 0) f g (apart_first mesh f a)
      (apart_first mesh g b))
  surface_same surface.Memory surface.Memory k a b = refl
  surface_same other another k a b = absurd (omega (arith, k))

  pub surface_faults_are_one : (a b : SurfaceFault) → a ≢ surface.Memory → b ≢ surface.Memory → IsSurfaceFault mesh a →
      IsSurfaceFault mesh b → a ≡ b
  surface_faults_are_one a b some_a some_b is_a is_b =
      surface_same a b
      (first_same 6 SurfaceHolds (surface_kind a) (surface_kind b) (surface_first a some_a is_a)
      (surface_first b some_b is_b)) is_a is_b

-- ---- discs

module _ (mesh : Mesh) where
  abbrev HasBorder : Type 0
  HasBorder = ((e : ℕ) × IsBorderEdge mesh e) × HasOneBorder mesh

  abbrev DiscHolds : ℕ → Type 0
  DiscHolds zero = NoneCrowded mesh
  DiscHolds (suc zero) = AllMet mesh
  DiscHolds (suc (suc zero)) = AllFans mesh
  DiscHolds (suc (suc (suc zero))) = IsConnected mesh
  DiscHolds (suc (suc (suc (suc zero)))) = HasBorder
  DiscHolds (suc (suc (suc (suc (suc k))))) = mesh.vertices + face_count mesh ≡ edge_count mesh + 1

  uncrowded : NoneCrowded mesh → HoldsBelow 1 DiscHolds
  uncrowded none = below_more DiscHolds 0 (none_below DiscHolds) none

  all_met : NoneCrowded mesh → AllMet mesh → HoldsBelow 2 DiscHolds
  all_met none met = below_more DiscHolds 1 (uncrowded none) met

  all_round : NoneCrowded mesh → AllMet mesh → AllFans mesh → HoldsBelow 3 DiscHolds
  all_round none met fans = below_more DiscHolds 2 (all_met none met) fans

  patch : IsPatch mesh → HoldsBelow 4 DiscHolds
  patch is = below_more DiscHolds 3 (all_round is.none_crowded is.all_met is.all_fans) is.connected

  bordered : IsPatch mesh → HasBorder → HoldsBelow 5 DiscHolds
  bordered is border = below_more DiscHolds 4 (patch is) border

  abbrev disc_kind : DiscFault → ℕ
  disc_kind (disc.Crowded u v faces) = 0
  disc_kind (disc.Isolated v) = 1
  disc_kind (disc.Pinched v first second) = 2
  disc_kind (disc.Apart face) = 3
  disc_kind (disc.Border kind) = 4
  disc_kind (disc.Count vertices edges faces) = 5
  disc_kind disc.Memory = 6

  crowded_first : (p : ℕ × ℕ) (faces : List ℕ) (e : ℕ) → IsLeastCrowded mesh p faces e →
      FailsFirst (edge_count mesh) (λ d. degree mesh d ≤ 2) e
  crowded_first p faces e is = record {
    below = is.is_edge;
    fails = λ few.
        let many = is.many in
        let same = degree_is mesh e p is.its_ends in
        absurd (omega (arith, few, many, same));
    before = is.none_before;
  }

  border_fails : (kind : BorderKind) → IsBorderFault mesh kind → HasBorder → ⊥
  border_fails Nothing is border = is border.0.0 border.0.1
  border_fails (Two u v s t) (e, h, on, off, one, two) border = off.outside (border.1 e h on.on_border off.on_border)

  disc_first : (fault : DiscFault) → fault ≢ disc.Memory → IsDiscFault mesh fault →
      FailsFirst 6 DiscHolds (disc_kind fault)
  disc_first (disc.Crowded u v faces) ne (e, is) = record {
    below = omega arith;
    fails = λ none. (crowded_first (u, v) faces e is).fails (none e is.is_edge);
    before = none_below DiscHolds;
  }
  disc_first (disc.Isolated v) ne (none, is) = record {
    below = omega arith;
    fails = λ met. let m = met v is.is_vertex in is.no_face m.0 m.1;
    before = uncrowded none;
  }
  disc_first (disc.Pinched v f g) ne (none, met, is) = record {
    below = omega arith;
    fails = λ fans. is.pinch.apart (fans v is.is_vertex f g is.pinch.first is.pinch.second);
    before = all_met none met;
  }
  disc_first (disc.Apart face) ne (none, met, fans, is) = record {
    below = omega arith;
    fails = λ connected. let inside = is.is_face in is.apart (connected 0 face (omega (arith, inside)) is.is_face);
    before = all_round none met fans;
  }
  disc_first (disc.Border kind) ne (is, wrong) =
      record { below = omega arith; fails = border_fails kind wrong; before = patch is }
  disc_first (disc.Count vertices edges faces) ne (is, some, one, vs, es, fs, wrong) = record {
    below = omega arith;
    fails = λ euler. wrong (ap (λ n. n + faces) vs ∙ ap (λ n. mesh.vertices + n) fs ∙ euler ∙ ap (λ n. n + 1) (sym es));
    before = bordered is (some, one);
  }
  disc_first disc.Memory ne is = absurd (ne refl)

  crowded_same : (p q : ℕ × ℕ) (faces others : List ℕ) (e d : ℕ) → IsLeastCrowded mesh p faces e →
      IsLeastCrowded mesh q others d →
      (p ≡ q) × (faces ≡ others)
  crowded_same p q faces others e d a b =
      let same : e ≡ d =
      first_same (edge_count mesh) (λ c. degree mesh c ≤ 2) e d (crowded_first p faces e a)
      (crowded_first q others d b) in
      let pair : p ≡ q = ends_same mesh e d p q same a.its_ends b.its_ends in
      (pair, sym a.its_faces ∙ ap (λ r. take 3 (faces_with mesh r)) pair ∙ b.its_faces)

  on_border_same : (e d : ℕ) → IsLeastOnBorder mesh e → IsLeastOnBorder mesh d → e ≡ d
  on_border_same e d a b =
      first_same (edge_count mesh) (λ c. IsBorderEdge mesh c → ⊥) e d
      (record { below = a.on_border.0; fails = λ none. none a.on_border; before = a.none_before })
      (record { below = b.on_border.0; fails = λ none. none b.on_border; before = b.none_before })

  outside_first : (e h : ℕ) → IsLeastOutside mesh e h →
      FailsFirst (edge_count mesh) (λ d. IsBorderEdge mesh d → Joined (ShareOnBorder mesh) e d) h
  outside_first e h is =
      record { below = is.on_border.0; fails = λ joined. is.outside (joined is.on_border); before = is.inside_before }

  border_kind_same : (a b : BorderKind) → IsBorderFault mesh a → IsBorderFault mesh b → a ≡ b
  border_kind_same Nothing Nothing a b = refl
  border_kind_same Nothing (Two u v s t) a (e, h, on, off, one, two) = absurd (a e on.on_border)
  border_kind_same (Two u v s t) Nothing (e, h, on, off, one, two) b = absurd (b e on.on_border)
  border_kind_same (Two u v s t) (Two w x y z) (e, h, on, off, one, two) (d, g, on_too, off_too, first, second) =
      let same : e ≡ d = on_border_same e d on on_too in
      let there : IsLeastOutside mesh d h = subst (λ c. IsLeastOutside mesh c h) same off in
      let other : h ≡ g =
      first_same (edge_count mesh) (λ c. IsBorderEdge mesh c → Joined (ShareOnBorder mesh) d c) h g
      (outside_first d h there) (outside_first d g off_too) in
      ap (λ (p : ℕ × ℕ). Two p.0 p.1 s t) (ends_same mesh e d (u, v) (w, x) same one first)
      ∙ ap (λ (p : ℕ × ℕ). Two w x p.0 p.1) (ends_same mesh h g (s, t) (y, z) other two second)

  disc_same : (a b : DiscFault) → disc_kind a ≡ disc_kind b → IsDiscFault mesh a → IsDiscFault mesh b → a ≡ b
  disc_same (disc.Crowded u v faces) (disc.Crowded w z others) k (e, a) (d, b) =
      let same = crowded_same (u, v) (w, z) faces others e d a b in
      ap (λ (p : ℕ × ℕ). disc.Crowded p.0 p.1 faces) same.0 ∙ ap (λ (xs : List ℕ). disc.Crowded w z xs) same.1
  disc_same (disc.Isolated v) (disc.Isolated w) k (none, a) (too, b) =
      ap disc.Isolated
      (first_same mesh.vertices (λ u. (f : ℕ) × HasCorner mesh f u) v w (isolated_first mesh v a)
      (isolated_first mesh w b))
  disc_same (disc.Pinched v f g) (disc.Pinched w h i) k (none, met, a) (too, all, b) =
      pinch_same mesh (λ x y z. disc.Pinched x y z) v f g w h i a b
  disc_same (disc.Apart f) (disc.Apart g) k (none, met, fans, a) (too, all, rounds, b) =
      ap disc.Apart (first_same (face_count mesh) (Joined (Share mesh) 0) f g (apart_first mesh f a)
      (apart_first mesh g b))
  disc_same (disc.Border kind) (disc.Border other) k (is, a) (too, b) = ap disc.Border (border_kind_same kind other a b)
  disc_same (disc.Count v e f) (disc.Count w d g) k (is, some, one, v_is, e_is, f_is, wrong)
      (too, more, single, w_is, d_is, g_is, none) =
      ap (λ n. disc.Count n e f) (v_is ∙ sym w_is) ∙ ap (λ n. disc.Count w n f) (e_is ∙ sym d_is)
      ∙ ap (λ n. disc.Count w d n) (f_is ∙ sym g_is)
  disc_same disc.Memory disc.Memory k a b = refl
  disc_same other another k a b = absurd (omega (arith, k))

  pub disc_faults_are_one : (a b : DiscFault) → a ≢ disc.Memory → b ≢ disc.Memory → IsDiscFault mesh a →
      IsDiscFault mesh b → a ≡ b
  disc_faults_are_one a b some_a some_b is_a is_b =
      disc_same a b (first_same 6 DiscHolds (disc_kind a) (disc_kind b) (disc_first a some_a is_a)
      (disc_first b some_b is_b)) is_a is_b

-- ---- evidence

module _ (mesh : Mesh) (chain : Chain) where
  -- ---- faces

  no_face_first : (faces : List ℕ) (f n : ℕ) → f < n → IsNoFace mesh faces f →
      FailsFirst n (λ g. is_listed faces g ≡ true → g < face_count mesh) f
  no_face_first faces f n l is = record {
    below = l;
    fails = λ inside. let in_f = inside is.listed in let out = is.outside in absurd (omega (arith, in_f, out));
    before = is.least;
  }

  no_face_same : (faces : List ℕ) (f g : ℕ) → IsNoFace mesh faces f → IsNoFace mesh faces g → f ≡ g
  no_face_same faces f g a b =
      first_same (suc (f + g)) (λ h. is_listed faces h ≡ true → h < face_count mesh) f g
      (no_face_first faces f (suc (f + g)) (omega arith) a) (no_face_first faces g (suc (f + g)) (omega arith) b)

  -- a listed face that is none, where all are faces
  no_face_wrong : (faces : List ℕ) (f u v : ℕ) → IsNoFace mesh faces f → IsNoBoundary mesh chain faces u v → ⊥
  no_face_wrong faces f u v a b =
      let (k, l, same) = list_any_at (λ x. f == x) faces 0 a.listed in
      let is : f ≡ get_or faces k 0 = eqb-true f (get_or faces k 0) same in
      let inside : get_or faces k 0 < face_count mesh = b.are_faces k 0 l in
      let outside = a.outside in
      absurd (omega (arith, is, inside, outside))

  boundary_same : (faces : List ℕ) (u v w z : ℕ) → IsNoBoundary mesh chain faces u v →
      IsNoBoundary mesh chain faces w z →
      class.Boundary u v ≡ class.Boundary w z
  boundary_same faces u v w z a b =
      let same : a.edge ≡ b.edge = first_same (edge_count mesh)
      (λ e. boundary mesh (is_listed faces) e ≡ chain e) a.edge b.edge
      (record { below = a.is_edge; fails = a.differs; before = a.least })
      (record { below = b.is_edge; fails = b.differs; before = b.least }) in
      ap (λ (p : ℕ × ℕ). class.Boundary p.0 p.1) (ends_same mesh a.edge b.edge (u, v) (w, z) same a.its_ends b.its_ends)

  null_same : (faces : List ℕ) (a b : ClassFault) → a ≢ class.Memory → b ≢ class.Memory →
      IsClassFault mesh chain (null_faces faces) a →
      IsClassFault mesh chain (null_faces faces) b → a ≡ b
  null_same faces (class.Face f) (class.Face g) m n a b = ap class.Face (no_face_same faces f g a b)
  null_same faces (class.Face f) (class.Boundary u v) m n a b = absurd (no_face_wrong faces f u v a b)
  null_same faces (class.Boundary u v) (class.Face f) m n a b = absurd (no_face_wrong faces f u v b a)
  null_same faces (class.Boundary u v) (class.Boundary w z) m n a b = boundary_same faces u v w z a b
  null_same faces (class.Pair u v) b m n is_a is_b = absurd is_a
  null_same faces (class.OddFace f) b m n is_a is_b = absurd is_a
  null_same faces class.Even b m n is_a is_b = absurd is_a
  null_same faces class.Memory b m n is_a is_b = absurd (m refl)
  null_same faces a (class.Pair u v) m n is_a is_b = absurd is_b
  null_same faces a (class.OddFace f) m n is_a is_b = absurd is_b
  null_same faces a class.Even m n is_a is_b = absurd is_b
  null_same faces a class.Memory m n is_a is_b = absurd (n refl)

  -- ---- pairs

  no_pair_wrong : (pairs : List (ℕ × ℕ)) (u v : ℕ) → IsNoPair mesh pairs u v →
      ((k : ℕ) (d : ℕ × ℕ) → k < length pairs → among (get_or pairs k d) (edges mesh) ≡ true) → ⊥
  no_pair_wrong pairs u v is all =
      let (k, l, same) = list_any_at (pair_eq (u, v)) pairs (0, 0) is.listed in
      let at : (u, v) ≡ get_or pairs k (0, 0) = pair_eq-true (u, v) (get_or pairs k (0, 0)) same in
      true≢false (sym (all k (0, 0) l) ∙ ap (λ p. among p (edges mesh)) (sym at) ∙ is.outside)

  no_pair_same : (pairs : List (ℕ × ℕ)) (u v w z : ℕ) → IsNoPair mesh pairs u v → IsNoPair mesh pairs w z →
      class.Pair u v ≡ class.Pair w z
  no_pair_same pairs u v w z a b = elim (cases_Bool (pair_eq (u, v) (w, z))) [
    | inl same ↦ ap (λ (p : ℕ × ℕ). class.Pair p.0 p.1) (pair_eq-true (u, v) (w, z) same)
    | inr differ ↦ elim (cases_Bool (pair_lt (u, v) (w, z))) [
      | inl less ↦ absurd (true≢false (sym (b.least (u, v) less a.listed) ∙ a.outside))
      | inr more ↦ absurd (true≢false (sym (a.least (w, z) (pair_lt-total (u, v) (w, z) more differ) b.listed)
          ∙ b.outside))
    ]
  ]

  odd_face_same : (pairs : List (ℕ × ℕ)) (f g : ℕ) → IsOddFace mesh pairs f → IsOddFace mesh pairs g → f ≡ g
  odd_face_same pairs f g a b = first_same (face_count mesh) (λ h. has_odd_sides mesh pairs h ≡ false) f g
      (record { below = a.is_face; fails = λ even. true≢false (sym a.odd_sides ∙ even); before = a.least })
      (record { below = b.is_face; fails = λ even. true≢false (sym b.odd_sides ∙ even); before = b.least })

  odd_same : (pairs : List (ℕ × ℕ)) (a b : ClassFault) → a ≢ class.Memory → b ≢ class.Memory →
      IsClassFault mesh chain (odd_pairs pairs) a →
      IsClassFault mesh chain (odd_pairs pairs) b → a ≡ b
  odd_same pairs (class.Pair u v) (class.Pair w z) m n a b = no_pair_same pairs u v w z a b
  odd_same pairs (class.Pair u v) (class.OddFace f) m n a b =
      absurd (no_pair_wrong pairs u v a (λ k d l. among-contains _ (edges mesh) (b.are_edges k d l)))
  odd_same pairs (class.Pair u v) class.Even m n a b =
      absurd (no_pair_wrong pairs u v a (λ k d l. among-contains _ (edges mesh) (b.are_edges k d l)))
  odd_same pairs (class.OddFace f) (class.Pair u v) m n a b =
      absurd (no_pair_wrong pairs u v b (λ k d l. among-contains _ (edges mesh) (a.are_edges k d l)))
  odd_same pairs (class.OddFace f) (class.OddFace g) m n a b = ap class.OddFace (odd_face_same pairs f g a b)
  odd_same pairs (class.OddFace f) class.Even m n a b = absurd (true≢false (sym a.odd_sides ∙ b.faces_even f a.is_face))
  odd_same pairs class.Even (class.Pair u v) m n a b =
      absurd (no_pair_wrong pairs u v b (λ k d l. among-contains _ (edges mesh) (a.are_edges k d l)))
  odd_same pairs class.Even (class.OddFace f) m n a b = absurd (true≢false (sym b.odd_sides ∙ a.faces_even f b.is_face))
  odd_same pairs class.Even class.Even m n a b = refl
  odd_same pairs (class.Face f) b m n is_a is_b = absurd is_a
  odd_same pairs (class.Boundary u v) b m n is_a is_b = absurd is_a
  odd_same pairs class.Memory b m n is_a is_b = absurd (m refl)
  odd_same pairs a (class.Face f) m n is_a is_b = absurd is_b
  odd_same pairs a (class.Boundary u v) m n is_a is_b = absurd is_b
  odd_same pairs a class.Memory m n is_a is_b = absurd (n refl)

  pub class_faults_are_one : (evidence : Evidence) (a b : ClassFault) → a ≢ class.Memory → b ≢ class.Memory →
      IsClassFault mesh chain evidence a → IsClassFault mesh chain evidence b → a ≡ b
  class_faults_are_one (null_faces faces) a b m n is_a is_b = null_same faces a b m n is_a is_b
  class_faults_are_one (odd_pairs pairs) a b m n is_a is_b = odd_same pairs a b m n is_a is_b
