-- Rows of the faces across the sides of each face lead where shared edges do.
use Rattle.surf_surfaces.proofs.Common.{◌≡◌, ◌≢◌, ℕ, ◌+◌, ◌-◌, ◌<◌, Bool, true, false, List, [], length, get_or, sym, ap, subst, ◌∙◌, arith, inl, inr, true≢false, cases_eq, cases_lt, get_or_default, get_or_past, Joined, here, over, Mesh, face_count, face_at, has_side, Share, IsConnected, first_side, IsFaceOf, side_count, pair_at}
use Rattle.std.specs.List.{All}
use Rattle.surf_surfaces.proofs.meshes.JoinedLaws.{joined_lift}
use Rattle.surf_soup.specs.Apart.{AreAcross, IsLeastApart}
use Rattle.surf_soup.specs.Reach.{Leads, marked, IsReach}
use Rattle.surf_soup.proofs.ApartLaws.{all_joined}
use Rattle.surf_soup.proofs.HalfLaws.{spans}
use Rattle.surf_soup.proofs.SideNumbers.{side_of_face, face_has_side, one_face}
use Rattle.surf_disc.specs.Across.{AreAcrossUpTo}
use Rattle.surf_disc.proofs.CornerLaws.{face_of, own_face}

module _ (mesh : Mesh) (across : List ℕ) (acrosses : AreAcrossUpTo mesh (side_count mesh) across)
    (links : List (List ℕ)) (are : AreAcross mesh across (face_count mesh) links) where
  leads_share : (f g : ℕ) → f < face_count mesh → Leads links f g → Share mesh f g
  leads_share f g lt h =
      let m = h.0 in
      let in' : m < length (face_at mesh f) = omega (arith, h.1, are.row_len f lt) in
      let s = first_side mesh f + m in
      let sp = spans mesh.faces f lt in
      let below : s < side_count mesh = omega (arith, sp.0, sp.1) in
      let is = acrosses.all s below in
      let t = get_or across s 0 in
      let own : IsFaceOf mesh s f = record { is_face = lt; from = omega arith; upto = omega arith } in
      let there = own_face mesh t is.is_side in
      let far = face_of mesh t in
      let P : ℕ → Type 0 = λ x. Share mesh f x in
      subst P (sym (are.row_at f m lt in') ∙ h.2) (
        pair_at mesh s,
        (lt, side_of_face mesh s f own),
        (there.is_face, ap (λ p. has_side p (face_at mesh far)) (sym is.same_edge) ∙ side_of_face mesh t far there),
      )

  share_leads : (f g : ℕ) → f ≢ g → Share mesh f g → Leads links f g
  share_leads f g differ h =
      let x = face_has_side mesh f h.0 h.1.0 h.1.1 in
      let y = face_has_side mesh g h.0 h.2.0 h.2.1 in
      let s = x.0 in
      let own = x.1.its_face in
      let lt : f < face_count mesh = h.1.0 in
      let m = s - first_side mesh f in
      let number : first_side mesh f + m ≡ s = omega (arith, own.from) in
      let in' : m < length (face_at mesh f) = omega (arith, own.from, own.upto) in
      let is = acrosses.all s x.1.is_side in
      let t = get_or across s 0 in
      let P : ℕ → Type 0 = λ z. IsFaceOf mesh z g in
      let other : y.0 ≡ t = is.no_third y.0 y.1.is_side (y.1.its_pair ∙ sym x.1.its_pair) (λ e. differ (one_face mesh s f g own (subst P e y.1.its_face))) in (
        m,
        omega (arith, are.row_len f lt),
        are.row_at f m lt in' ∙ ap (λ z. face_of mesh (get_or across z 0)) number
            ∙ one_face mesh t (face_of mesh t) g (own_face mesh t is.is_side) (subst P other y.1.its_face),
      )

  -- links lead from faces alone
  leads_face : (f g : ℕ) → Leads links f g → f < face_count mesh
  leads_face f g h = elim (cases_lt f (length links)) [
    | inl lt ↦ let n = are.size in omega arith
    | inr ge ↦ let e = ap length (get_or_past links f [] ge) in absurd (omega (arith, h.1))
  ]

  reach_shares : (g : ℕ) → Joined (Leads links) 0 g → Joined (Share mesh) 0 g
  reach_shares g h = joined_lift (λ x y l. over (leads_share x y (leads_face x y l) l) here) h

  shares_reach : (g : ℕ) → Joined (Share mesh) 0 g → Joined (Leads links) 0 g
  shares_reach g h = joined_lift (λ x y s. elim (cases_eq x y) [
    | inl e ↦ let P : ℕ → Type 0 = λ z. Joined (Leads links) x z in subst P e here
    | inr ne ↦ over (share_leads x y ne s) here
  ]) h

  pub over_inside : All (λ link. All (λ g. g < length links) link) links
  over_inside = λ f e lt m d in'.
      let n = are.size in
      let in_f : f < face_count mesh = omega arith in
      let same : get_or links f e ≡ get_or links f [] = get_or_default links f e [] lt in
      let l = ap length same in
      let place : m < length (face_at mesh f) = omega (arith, are.row_len f in_f) in
      let sp = spans mesh.faces f in_f in
      let is = acrosses.all (first_side mesh f + m) (omega (arith, sp.0, sp.1)) in
      let there = own_face mesh (get_or across (first_side mesh f + m) 0) is.is_side in
      let value : get_or (get_or links f e) m d ≡ face_of mesh
      (get_or across (first_side mesh f + m) 0) = get_or_default (get_or links f e) m d 0 in'
      ∙ ap (λ (xs : List ℕ). get_or xs m 0) same ∙ are.row_at f m in_f place in
      omega (arith, value, there.is_face)

  module _ (seen : List Bool) (r : IsReach links 0 seen) where
    seen_joined : (g : ℕ) → marked seen g ≡ true → Joined (Share mesh) 0 g
    seen_joined g h = reach_shares g (r.sound g h)

    pub none_apart : ((k : ℕ) → k < length seen → marked seen k ≡ true) → IsConnected mesh
    none_apart all = all_joined mesh (λ g lt. seen_joined g (all g (let n = are.size in let m = r.size in omega arith)))

    pub least_apart : (f : ℕ) → f < length seen → marked seen f ≡ false → ((j : ℕ) → j < f → marked seen j ≡ true) →
        IsLeastApart mesh f
    least_apart f lt unseen before = record {
      is_face = let n = are.size in let m = r.size in omega arith;
      apart = λ h. true≢false (sym (r.complete f (shares_reach f h)) ∙ unseen);
      joined_before = λ g below. seen_joined g (before g below);
    }
