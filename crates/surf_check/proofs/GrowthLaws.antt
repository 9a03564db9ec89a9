-- A tree of the faces that grows.
use Rattle.surf_surfaces.proofs.Common.{◌≡◌, ◌≢◌, ℕ, ◌<◌, Bool, true, false, List, [], ◌∷◌, ◌++◌, length, get_or, set, replicate, refl, sym, ap, subst, ◌∙◌, arith, inl, inr, true≢false, cases_eq, length_push, get_or_push, get_or_append_left, xor, joins, IsTree, dual, Mesh, face_count, edge_count, IsSurface, cells_of, IsFaceOf}
use Rattle.std.proofs.lemmas.List.{length-replicate, get_or-replicate, length-set, get_or-set_same, get_or-set_other}
use Rattle.surf_surfaces.proofs.meshes.JoinedLaws.{joined_closed}
use Rattle.surf_orientation.specs.Chains.{same_way, FollowTree}
use Rattle.surf_soup.specs.Reach.{marked}
use Rattle.surf_soup.proofs.ReachSteps.{marked-inside, unmarked-fresh, none_marked}
use Rattle.surf_soup.proofs.RoundSteps.{marks_one}
use Rattle.surf_check.specs.Growth.{flag_of, grown_tree, Hangs, Grows, GrowsOn, IsCrossed}
use Rattle.surf_check.proofs.SideWays.{crossed_closed}

pub grows_start : (mesh : Mesh) → 0 < face_count mesh → (parent up rank : List ℕ) (flags : List Bool) →
    length parent ≡ face_count mesh → length up ≡ face_count mesh → length flags ≡ face_count mesh →
    rank ≡ replicate (face_count mesh) 0 →
    Grows mesh parent up rank flags (set (replicate (face_count mesh) false) 0 true) (0 ∷ [])
grows_start mesh some parent up rank flags p u f r =
    let n = face_count mesh in
    let fresh = replicate n false in
    let size : length fresh ≡ n = length-replicate n false in
    let in' : 0 < length fresh = omega arith in
    let start : marked (set fresh 0 true) 0 ≡ true = get_or-set_same fresh 0 true false in' in
    let only : (j : ℕ) → marked (set fresh 0 true) j ≡ true → j ≡ 0 = λ j h. elim (cases_eq j 0) [
      | inl e ↦ e
      | inr ne ↦ absurd (none_marked n j (sym (get_or-set_other fresh 0 j true false ne) ∙ h))
    ] in
    record {
      parents = p;
      ups = u;
      ranks = ap length r ∙ length-replicate n 0;
      flag_count = f;
      seen_count = length-set fresh 0 true ∙ size;
      counted = let one = marks_one fresh 0 in' (get_or-replicate n 0 false false some) in
          let all = unmarked-fresh n in omega arith;
      root = start;
      listed_seen = λ i lt. let e : i ≡ 0 =
          omega arith in ap (λ k. marked (set fresh 0 true) (get_or (0 ∷ []) k 0)) e ∙ start;
      seen_listed = λ g h. (0, omega arith, sym (only g h));
      ranks_below = λ g h. let e = only g h in let z : get_or rank 0 0 ≡ 0 = ap (λ (xs : List ℕ). get_or xs 0 0) r
          ∙ get_or-replicate n 0 0 0 some in let q = ap (λ k. get_or rank k 0) e in omega arith;
      hangs = λ g h ne. absurd (ne (only g h));
    }

-- a mark stays when another is set
pub still_marked : (seen : List Bool) (g j : ℕ) → g < length seen → marked seen j ≡ true →
    marked (set seen g true) j ≡ true
still_marked seen g j lt h =
    elim (cases_eq j g) [
      | inl q ↦ ap (marked (set seen g true)) q
          ∙ get_or-set_same seen g true false lt
      | inr ne ↦ get_or-set_other seen g j true false ne ∙ h
    ]

-- one face more
module _ (mesh : Mesh) (parent up rank : List ℕ) (flags seen : List Bool) (listed : List ℕ)
    (t : Grows mesh parent up rank flags seen listed) (f g e : ℕ) (b : Bool) (f_seen : marked seen f ≡ true)
    (g_new : marked seen g ≡ false) (g_in : g < face_count mesh)
    (e_in : e < edge_count mesh) (between : joins (dual (cells_of mesh)) g f e ≡ true)
    (flag_is : b ≡ xor (same_way mesh e) (flag_of flags f))
  where
    g_seen : g < length seen
    g_seen = let n = t.seen_count in omega arith

    still : (j : ℕ) → marked seen j ≡ true → marked (set seen g true) j ≡ true
    still j h = still_marked seen g j g_seen h

    before : (j : ℕ) → j ≢ g → marked (set seen g true) j ≡ true → marked seen j ≡ true
    before j ne h = sym (get_or-set_other seen g j true false ne) ∙ h

    unlike : (j : ℕ) → marked seen j ≡ true → j ≢ g
    unlike j h q = true≢false (sym h ∙ ap (marked seen) q ∙ g_new)

    hangs_new : Hangs mesh (set parent g f) (set up g e) (set rank g (length listed)) (set flags g b)
        (set seen g true) g
    hangs_new =
        let p = t.parents in
        let u = t.ups in
        let r = t.ranks in
        let l = t.flag_count in
        let own : get_or (set parent g f) g 0 ≡ f = get_or-set_same parent g f 0 (omega arith) in
        let edge : get_or (set up g e) g 0 ≡ e = get_or-set_same up g e 0 (omega arith) in
        let place : get_or (set rank g (length listed)) g 0 ≡ length listed =
        get_or-set_same rank g (length listed) 0 (omega arith) in
        let flag : flag_of (set flags g b) g ≡ b = get_or-set_same flags g b false (omega arith) in
        let ne = unlike f f_seen in
        let D = dual (cells_of mesh) in
        record {
          parent_seen = ap (marked (set seen g true)) own ∙ still f f_seen;
          rank_falls = let below = t.ranks_below f f_seen in
              let old = get_or-set_other rank g f (length listed) 0 ne in
              let same = ap (λ k. get_or (set rank g (length listed)) k 0) own in omega (
                arith,
                below,
                old,
                place,
                same,
              );
          is_edge = omega (arith, edge, e_in);
          is_joined = ap (λ k. joins D g k (get_or (set up g e) g 0)) own ∙ ap (joins D g f) edge ∙ between;
          its_flag = flag ∙ flag_is
              ∙ sym (ap (λ k. xor (same_way mesh k) (flag_of (set flags g b) (get_or (set parent g f) g 0))) edge
              ∙ ap (λ k. xor (same_way mesh e) (flag_of (set flags g b) k)) own
              ∙ ap (xor (same_way mesh e)) (get_or-set_other flags g f b false ne));
        }

    hangs_old : (h : ℕ) → h ≢ g → Hangs mesh parent up rank flags seen h →
        Hangs mesh (set parent g f) (set up g e) (set rank g (length listed)) (set flags g b) (set seen g true) h
    hangs_old h ne old =
        let q = get_or parent h 0 in
        let own : get_or (set parent g f) h 0 ≡ q = get_or-set_other parent g h f 0 ne in
        let edge : get_or (set up g e) h 0 ≡ get_or up h 0 = get_or-set_other up g h e 0 ne in
        let place = get_or-set_other rank g h (length listed) 0 ne in
        let flag = get_or-set_other flags g h b false ne in
        let ne' = unlike q old.parent_seen in
        let r = get_or up h 0 in
        let D = dual (cells_of mesh) in
        record {
          parent_seen = ap (marked (set seen g true)) own ∙ still q old.parent_seen;
          rank_falls = let falls = old.rank_falls in let was = get_or-set_other rank g q (length listed) 0 ne' in
              let same = ap (λ k. get_or (set rank g (length listed)) k 0) own in omega (
                arith,
                falls,
                was,
                place,
                same,
              );
          is_edge = let k = old.is_edge in omega (arith, edge, k);
          is_joined = ap (λ k. joins D h k (get_or (set up g e) h 0)) own ∙ ap (joins D h q) edge ∙ old.is_joined;
          its_flag = flag ∙ old.its_flag
              ∙ sym (ap (λ k. xor (same_way mesh k) (flag_of (set flags g b) (get_or (set parent g f) h 0))) edge
              ∙ ap (λ k. xor (same_way mesh r) (flag_of (set flags g b) k)) own
              ∙ ap (xor (same_way mesh r)) (get_or-set_other flags g q b false ne'));
        }

    pub grows_more : Grows mesh (set parent g f) (set up g e) (set rank g (length listed)) (set flags g b)
        (set seen g true) (listed ++ g ∷ [])
    grows_more =
        let n = length_push listed g in
        let last : get_or (listed ++ g ∷ []) (length listed) 0 ≡ g = get_or_push listed g 0 (length listed) refl in
        record {
          parents = length-set parent g f ∙ t.parents;
          ups = length-set up g e ∙ t.ups;
          ranks = length-set rank g (length listed) ∙ t.ranks;
          flag_count = length-set flags g b ∙ t.flag_count;
          seen_count = length-set seen g true ∙ t.seen_count;
          counted = let one = marks_one seen g g_seen g_new in omega (arith, n, one, t.counted);
          root = still 0 t.root;
          listed_seen = λ i lt. elim (cases_eq i (length listed)) [
            | inl q ↦ ap (λ k. marked (set seen g true) (get_or (listed ++ g ∷ []) k 0)) q
                ∙ ap (marked (set seen g true)) last ∙ get_or-set_same seen g true false g_seen
            | inr ne ↦ let low : i < length listed =
                omega (arith, n) in ap (marked (set seen g true)) (get_or_append_left listed (g ∷ []) 0 i low)
                ∙ still (get_or listed i 0) (t.listed_seen i low)
          ];
          seen_listed = λ h m. elim (cases_eq h g) [
            | inl q ↦ (length listed, omega (arith, n), last ∙ sym q)
            | inr ne ↦ let o = t.seen_listed h (before h ne m) in (
              o.0,
              omega (arith, o.1, n),
              get_or_append_left listed (g ∷ []) 0 o.0 o.1 ∙ o.2,
            )
          ];
          ranks_below = λ h m. elim (cases_eq h g) [
            | inl q ↦ let r = t.ranks in let place = get_or-set_same rank g (length listed) 0 (omega arith) in
                let same = ap (λ k. get_or (set rank g (length listed)) k 0) q in omega (arith, n, place, same)
            | inr ne ↦ let old = get_or-set_other rank g h (length listed) 0 ne in
                let below = t.ranks_below h (before h ne m) in omega (arith, n, old, below)
          ];
          hangs = λ h m nz. elim (cases_eq h g) [
            | inl q ↦ let P : ℕ →
                Type 0 = Hangs mesh (set parent g f) (set up g e) (set rank g (length listed)) (set flags g b)
                (set seen g true) in subst P (sym q) hangs_new
            | inr ne ↦ hangs_old h ne (t.hangs h (before h ne m) nz)
          ];
        }

pub grows_on_more : (seen : List Bool) (listed : List ℕ) (g : ℕ) → g < length seen →
    GrowsOn seen (set seen g true) listed (listed ++ g ∷ [])
grows_on_more seen listed g lt = record {
  stay = λ f h. still_marked seen g f lt h;
  longer = let n = length_push listed g in omega arith;
  kept = λ i below. get_or_append_left listed (g ∷ []) 0 i below;
}

pub grows_on_same : (seen : List Bool) (listed : List ℕ) → GrowsOn seen seen listed listed
grows_on_same seen listed = record { stay = λ f h. h; longer = omega arith; kept = λ i lt. refl }

pub grows_on_both : (a b c : List Bool) (x y z : List ℕ) → GrowsOn a b x y → GrowsOn b c y z → GrowsOn a c x z
grows_on_both a b c x y z p q = record {
  stay = λ f h. q.stay f (p.stay f h);
  longer = let k = p.longer in let l = q.longer in omega arith;
  kept = λ i lt. let k = p.longer in q.kept i (omega arith) ∙ p.kept i lt;
}

pub crossed_still : (mesh : Mesh) (a b : List Bool) (x y : List ℕ) (s : ℕ) → GrowsOn a b x y → IsCrossed mesh a s →
    IsCrossed mesh b s
crossed_still mesh a b x y s on h e is = let c = h e is in (on.stay _ c.0, on.stay _ c.1)

-- at the end all faces are in the tree
module _ (mesh : Mesh) (surface : IsSurface mesh) (parent up rank : List ℕ) (flags seen : List Bool)
    (listed : List ℕ) (t : Grows mesh parent up rank flags seen listed)
    (done : (i : ℕ) → i < length listed → (s : ℕ) → IsFaceOf mesh s (get_or listed i 0) → IsCrossed mesh seen s)
  where
    pub all_marked : (f : ℕ) → f < face_count mesh → marked seen f ≡ true
    all_marked f lt = joined_closed (λ x. marked seen x ≡ true) (λ x y share h.
        let o = t.seen_listed x h in
        let P : ℕ → Type 0 = λ z. (s : ℕ) → IsFaceOf mesh s z → IsCrossed mesh seen s in
        crossed_closed mesh surface seen x y (subst P o.2 (done o.0 o.1)) share)
        (surface.connected 0 f surface.some_face lt) t.root

    pub whole_tree : IsTree (dual (cells_of mesh)) (grown_tree parent up rank)
    whole_tree = record {
      root_in = surface.some_face;
      parent_in = λ f lt ne. let n = t.seen_count in let h = t.hangs f (all_marked f lt) ne in
          let m = marked-inside seen (get_or parent f 0) h.parent_seen in omega arith;
      up_in = λ f lt ne. (t.hangs f (all_marked f lt) ne).is_edge;
      up_joins = λ f lt ne. (t.hangs f (all_marked f lt) ne).is_joined;
      rank_falls = λ f lt ne. (t.hangs f (all_marked f lt) ne).rank_falls;
    }

    pub flags_follow : FollowTree mesh (grown_tree parent up rank) (flag_of flags)
    flags_follow f lt ne = (t.hangs f (all_marked f lt) ne).its_flag
