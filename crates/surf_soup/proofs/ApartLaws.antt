-- The roots of faces tell which are joined by shared edges.
use Rattle.surf_surfaces.proofs.Common.{◌≡◌, ◌≢◌, ℕ, zero, suc, ◌+◌, ◌<◌, ◌≤◌, cond, eqb, min, max, List, [], ◌∷◌, ◌++◌, length, get_or, refl, sym, ap, subst, ◌∙◌, arith, inl, inr, range_with_len, cases_eq, cases_lt, eq-eqb, ne_eqb, length-map, get_or_push, get_or_append_left, length_push, length-range_with_len, get_or-range_with_len, Joined, here, over, Mesh, IsMesh, edges, face_count, face_at, faces_with, Share, IsConnected, side_count, pair_at, owners, sides_with, first_side, place_of, sum_by_push}
use Rattle.surf_soup.specs.Forest.{HasRoots, merged}
use Rattle.surf_soup.specs.Apart.{AreAcross, AreFaceRoots, IsLeastApart}
use Rattle.surf_surfaces.proofs.meshes.JoinedLaws.{joined_trans, joined_sym, joined_closed}
use Rattle.surf_soup.specs.Half.{AreAllMates}
use Rattle.surf_soup.specs.Pairs.{HasTwoFaces}
use Rattle.surf_soup.proofs.Owners.{faces_with-sides}
use Rattle.surf_soup.proofs.EdgeTables.{pair_at-edge}
use Rattle.surf_surfaces.proofs.meshes.EdgeLaws.{place_of-among}
use Rattle.surf_soup.proofs.HalfLaws.{face_of_side, spans}
use Rattle.surf_soup.proofs.SideNumbers.{across_shares, shares_across, one_face, mate_back}

share_sym : (mesh : Mesh) (f g : ℕ) → Share mesh f g → Share mesh g f
share_sym mesh f g h = (h.0, h.2, h.1)

pub all_joined : (mesh : Mesh) → ((g : ℕ) → g < face_count mesh → Joined (Share mesh) 0 g) → IsConnected mesh
all_joined mesh h f g a b = joined_trans (joined_sym (share_sym mesh) (h f a)) (h g b)

-- one row more
pub across_more : (mesh : Mesh) (mate : List ℕ) (k : ℕ) (rows : List (List ℕ)) (row : List ℕ) →
    AreAcross mesh mate k rows → k < face_count mesh → length row ≡ length (face_at mesh k) →
    ((m : ℕ) → m < length (face_at mesh k) →
    get_or row m 0 ≡ get_or (owners 0 mesh.faces) (get_or mate (first_side mesh k + m) 0) 0) →
    AreAcross mesh mate (k + 1) (rows ++ row ∷ [])
across_more mesh mate k rows row a lt size at =
    let n = a.size in
    let last : get_or (rows ++ row ∷ []) k [] ≡ row = get_or_push rows row [] k n in
    let early : (f : ℕ) → f < k → get_or (rows ++ row ∷ []) f [] ≡ get_or rows f [] =
    λ f below. get_or_append_left rows (row ∷ []) [] f (omega arith) in
    record {
      size = omega (arith, length_push rows row, n);
      row_len = λ f below. elim (cases_eq f k) [
        | inl e ↦ rw e (ap length last ∙ size)
        | inr ne ↦ ap length (early f (omega arith)) ∙ a.row_len f (omega arith)
      ];
      row_at = λ f m below in'. elim (cases_eq f k) [
        | inl e ↦
            let place : m < length (face_at mesh k) = omega (arith, ap (λ g. length (face_at mesh g)) e) in
            rw e (ap (λ (xs : List ℕ). get_or xs m 0) last ∙ at m place)
        | inr ne ↦ ap (λ (xs : List ℕ). get_or xs m 0) (early f (omega arith)) ∙ a.row_at f m (omega arith) in'
      ];
      total = omega (arith, sum_by_push {X = List ℕ} length rows row, a.total, size, (spans mesh.faces k lt).0);
    }

pub two_sides : (mesh : Mesh) → IsMesh mesh → HasTwoFaces mesh → (s : ℕ) → s < side_count mesh →
    length (sides_with mesh (pair_at mesh s)) ≡ 2
two_sides mesh is_mesh two s lt =
    let p = pair_at mesh s in
    let at = place_of-among p (edges mesh) (0, 0) (pair_at-edge mesh s lt) in
    let deg = two (place_of p (edges mesh)) at.0 in
    sym (ap length (faces_with-sides mesh is_mesh p)
    ∙ length-map (sides_with mesh p) (λ t. get_or (owners 0 mesh.faces) t 0))
    ∙ ap (λ q. length (faces_with mesh q)) (sym at.1) ∙ deg

-- the face of a side
abbrev face_of : Mesh → ℕ → ℕ
face_of mesh s = get_or (owners 0 mesh.faces) s 0

-- the faces of the first k sides and of their mates are joined
pub record JoinsUpto (mesh : Mesh) (mate : List ℕ) (k : ℕ) (parents : List ℕ) (root : ℕ → ℕ) : Type 0 where
  pub size : length parents ≡ face_count mesh
  pub roots : HasRoots parents root
  pub sound : (f : ℕ) → f < face_count mesh → Joined (Share mesh) (root f) f
  pub done : (s : ℕ) → s < k → get_or mate s 0 < s → root (face_of mesh s) ≡ root (face_of mesh (get_or mate s 0))

pub joins_none : (mesh : Mesh) (mate parents : List ℕ) → parents ≡ range_with_len 0 (face_count mesh) →
    JoinsUpto mesh mate 0 parents (λ f. f)
joins_none mesh mate parents lone =
    let size = length-range_with_len 0 (face_count mesh) in
    let long = ap length lone in
    let at : (f : ℕ) → f < length parents → get_or parents f 0 ≡ f = λ f lt. ap (λ (xs : List ℕ). get_or xs f 0) lone
    ∙ get_or-range_with_len 0 (face_count mesh) f 0 (omega arith) ∙ (let z : 0 + f ≡ f = omega arith in z) in
    record {
      size = long ∙ size;
      roots = record {
        falls = λ f lt. omega (arith, at f lt);
        low = λ f lt. omega arith;
        same = at;
        own = λ f lt is. refl;
      };
      sound = λ f lt. here;
      done = λ s lt. absurd (omega arith);
    }

module _ (mesh : Mesh) (mate : List ℕ) (mates : AreAllMates mesh mate) (k : ℕ) (lt : k < side_count mesh)
    (parents : List ℕ) (root : ℕ → ℕ) (so_far : JoinsUpto mesh mate k parents root) where
  pub joins_past : (get_or mate k 0 < k → ⊥) → JoinsUpto mesh mate (k + 1) parents root
  joins_past late = record {
    size = so_far.size;
    roots = so_far.roots;
    sound = so_far.sound;
    done = λ s below before. elim (cases_eq s k) [
      | inl e ↦ absurd (late (let same = ap (λ t. get_or mate t 0) e in omega arith))
      | inr ne ↦ so_far.done s (omega arith) before
    ];
  }

  -- the roots of the faces of a side and of its mate are joined
  roots_joined : Joined (Share mesh) (root (face_of mesh k)) (root (face_of mesh (get_or mate k 0)))
  roots_joined =
      let m = get_or mate k 0 in
      let is = mates.mates k lt in
      let f = face_of_side mesh (owners 0 mesh.faces) k 0 refl lt in
      let g = face_of_side mesh (owners 0 mesh.faces) m 0 refl is.is_side in
      joined_trans (so_far.sound (face_of mesh k) f.is_face)
      (joined_trans (over (across_shares mesh k m (face_of mesh k) (face_of mesh m) f is g) here)
      (joined_sym (share_sym mesh) (so_far.sound (face_of mesh m) g.is_face)))

  pub joins_next : (now : List ℕ) → length now ≡ length parents →
      HasRoots now (merged root (face_of mesh k) (face_of mesh (get_or mate k 0))) →
      JoinsUpto mesh mate (k + 1) now (merged root (face_of mesh k) (face_of mesh (get_or mate k 0)))
  joins_next now kept roots =
      let a = root (face_of mesh k) in
      let b = root (face_of mesh (get_or mate k 0)) in
      let to : ℕ → ℕ = λ r. cond (eqb r (max a b)) (min a b) r in
      let between : Joined (Share mesh) (min a b) (max a b) = elim (cases_lt a b) [
        | inl less ↦
            let low : a ≡ min a b = omega arith in
            let high : b ≡ max a b = omega arith in
            subst (λ h. Joined (Share mesh) (min a b) h) high (subst (λ l. Joined (Share mesh) l b) low roots_joined)
        | inr more ↦
            let low : b ≡ min a b = omega arith in
            let high : a ≡ max a b = omega arith in
            subst (λ h. Joined (Share mesh) (min a b) h) high
            (subst (λ l. Joined (Share mesh) l a) low (joined_sym (share_sym mesh) roots_joined))
      ] in
      let both : to a ≡ to b = elim (cases_lt a b) [
        | inl less ↦ rw (ne_eqb a (max a b) (λ e. omega arith), eq-eqb b (max a b) (omega arith)) (omega arith)
        | inr more ↦ elim (cases_eq a b) [
          | inl e ↦ ap to e
          | inr ne ↦ rw (eq-eqb a (max a b) (omega arith), ne_eqb b (max a b) (λ e. omega arith)) (omega arith)
        ]
      ] in
      record {
        size = kept ∙ so_far.size;
        roots = roots;
        sound = λ f in'. elim (cases_eq (root f) (max a b)) [
          | inl e ↦
              let old = so_far.sound f in' in
              rw (eq-eqb (root f) (max a b) e) (joined_trans between (subst (λ r. Joined (Share mesh) r f) e old))
          | inr ne ↦ rw (ne_eqb (root f) (max a b) ne) (so_far.sound f in')
        ];
        done = λ s below before. elim (cases_eq s k) [
          | inl e ↦ rw e both
          | inr ne ↦ ap to (so_far.done s (omega arith) before)
        ];
      }

pub joins_all : (mesh : Mesh) → IsMesh mesh → HasTwoFaces mesh → (mate : List ℕ) → AreAllMates mesh mate →
    (k : ℕ) (parents : List ℕ) (root : ℕ → ℕ) → JoinsUpto mesh mate k parents root → side_count mesh ≤ k →
    AreFaceRoots mesh parents root
joins_all mesh is_mesh two mate mates k parents root joins all = record {
  size = joins.size;
  roots = joins.roots;
  sound = joins.sound;
  complete = λ f g share. elim (cases_eq f g) [
    | inl e ↦ ap root e
    | inr ne ↦
        let sides = two_sides mesh is_mesh two in
        let r = shares_across mesh sides mate mates f g ne share in
        let s = r.0 in
        let m = get_or mate s 0 in
        let is = mates.mates s r.1 in
        let own : face_of mesh s ≡ f =
        one_face mesh s (face_of mesh s) f (face_of_side mesh (owners 0 mesh.faces) s 0 refl r.1) r.2 in
        let across : face_of mesh m ≡ g =
        one_face mesh m (face_of mesh m) g (face_of_side mesh (owners 0 mesh.faces) m 0 refl is.is_side) r.3 in
        let back : get_or mate m 0 ≡ s = mate_back mesh sides mate mates s r.1 in
        elim (cases_lt m s) [
          | inl before ↦ ap root (sym own) ∙ joins.done s (omega arith) before ∙ ap root across
          | inr later ↦
              let other = is.other in
              let first : get_or mate m 0 < m =
              elim (cases_eq m s) [ inl e ↦ absurd (other e) | inr differ ↦ omega arith ] in
              ap root (sym own) ∙ ap (λ t. root (face_of mesh t)) (sym back)
              ∙ sym (joins.done m (omega (arith, is.is_side)) first) ∙ ap root across
        ]
  ];
}

module _ (mesh : Mesh) (parents : List ℕ) (root : ℕ → ℕ) (are : AreFaceRoots mesh parents root) where
  -- numbers below all roots but 0 have the root 0
  first_root : (m n g : ℕ) → m ≤ length parents → ((h : ℕ) → 0 < h → h < m → get_or parents h 0 ≢ h) → g < n → g < m →
      root g ≡ 0
  first_root m zero g within none lt below = absurd (omega arith)
  first_root m (suc n) g within none lt below =
      let r = are.roots in
      let low = r.low g (omega arith) in
      let falls = r.falls g (omega arith) in
      elim (cases_eq g 0) [
        | inl e ↦ omega arith
        | inr some ↦
            let other = none g (omega arith) below in
            let p = get_or parents g 0 in
            let less : p < g = elim (cases_eq p g) [ inl e ↦ absurd (other e) | inr ne ↦ omega arith ] in
            sym (r.same g (omega arith)) ∙ first_root m n p within none (omega arith) (omega arith)
      ]

  joined_first : (m g : ℕ) → m ≤ length parents → ((h : ℕ) → 0 < h → h < m → get_or parents h 0 ≢ h) → g < m →
      Joined (Share mesh) 0 g
  joined_first m g within none below =
      let size = are.size in
      subst (λ r. Joined (Share mesh) r g) (first_root m (suc g) g within none (omega arith) below)
      (are.sound g (omega arith))

  pub none_apart : ((f : ℕ) → 0 < f → f < length parents → get_or parents f 0 ≢ f) → IsConnected mesh
  none_apart none = all_joined mesh
      (λ g lt. joined_first (length parents) g (omega arith) none (let n = are.size in omega arith))

  pub least_apart : (f : ℕ) → 0 < f → f < length parents → get_or parents f 0 ≡ f →
      ((g : ℕ) → 0 < g → g < f → get_or parents g 0 ≢ g) → IsLeastApart mesh f
  least_apart f some lt own before = record {
    is_face = let n = are.size in omega arith;
    apart = λ chain.
        let same : root 0 ≡ root f =
        joined_closed (λ x. root 0 ≡ root x) (λ x y share h. h ∙ are.complete x y share) chain refl in
        let r = are.roots in
        let low = r.low 0 (omega arith) in
        let here' = r.own f lt own in
        omega arith;
    joined_before = λ g below. joined_first f g (omega arith) before below;
  }
