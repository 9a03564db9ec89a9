-- The round of a vertex is its ring.
use Rattle.surf_surfaces.proofs.Common.{◌≡◌, ◌≢◌, ℕ, zero, suc, ◌+◌, ◌-◌, ◌<◌, ◌⊎◌, Bool, true, false, List, length, get_or, refl, sym, ap, subst, ◌∙◌, arith, inl, inr, true≢false, cases_eq, cases_lt, Joined, here, over, Mesh, IsMesh, after, before, face_count, edge_count, ends, touches, HasCorner, HasEdge, ShareAt, HasOneFan, side_count, pair_at, owners, sides_with, first_side, IsFaceOf}
use Rattle.surf_surfaces.proofs.meshes.JoinedLaws.{joined_trans, joined_sym, joined_closed}
use Rattle.surf_surfaces.proofs.meshes.FaceLaws.{touches_first}
use Rattle.surf_soup.specs.Half.{AreAllMates}
use Rattle.surf_soup.specs.EdgeTable.{AreEdgeNumbers}
use Rattle.surf_soup.specs.Pairs.{HasTwoFaces}
use Rattle.surf_soup.specs.Vertices.{all_corners, sides_at}
use Rattle.surf_soup.specs.Reach.{marked}
use Rattle.surf_soup.specs.Ring.{dart_corner, cross_of, turns, IsRound, IsTrail, AreTurned, BeginsAt, IsEdgeAt}
use Rattle.surf_soup.specs.Ring.{side_before, GoBetween, IsWholeRing, IsPinch, AllMarkedAt}
use Rattle.surf_soup.proofs.HalfLaws.{face_of_side}
use Rattle.surf_soup.proofs.Mates.{with_pair}
use Rattle.surf_soup.proofs.Paired.{side_below}
use Rattle.surf_soup.proofs.SideNumbers.{one_face, of_edge}
use Rattle.surf_soup.proofs.ApartLaws.{two_sides}
use Rattle.surf_soup.proofs.RoundSteps.{cross_in, corner_in, flip_corner, cross_vertex, walk_in, walk_vertex, AreDarts}
use Rattle.surf_soup.proofs.RoundSteps.{round_closed, round_differ, round_sides}
use Rattle.surf_soup.proofs.CornerSides.{face_placed, one_corner, corner_begins, begins_corner, at_begins, begins_at}
use Rattle.surf_soup.proofs.CornerSides.{at_faces}
use Rattle.surf_soup.proofs.TurnedSides.{turned_size}
use Rattle.surf_soup.proofs.DartLaws.{touched, one_edge, are_darts, dart_face, dart_edge, has_edge, dart_of}
use Rattle.surf_soup.proofs.DartLaws.{begin_corner, begin_in, begin_vertex, turn_shares, prev_place, pair_tails}

module _ (mesh : Mesh) (is_mesh : IsMesh mesh) (two : HasTwoFaces mesh) (mate : List ℕ) (mates : AreAllMates mesh mate)
    (next prev : List ℕ) (nexts : AreTurned after mesh (face_count mesh) next)
    (prevs : AreTurned before mesh (face_count mesh) prev) where
  abbrev tail : ℕ → ℕ
  tail s = get_or (all_corners mesh) s 0

  abbrev across : ℕ × Bool → ℕ × Bool
  across d = cross_of mate (all_corners mesh) d

  abbrev vertex : ℕ × Bool → ℕ
  vertex d = tail (dart_corner next d)

  abbrev darts : AreDarts next prev mate (all_corners mesh)
  darts = are_darts mesh is_mesh two mate mates next prev nexts prevs

  module _ (v : ℕ) (some : 0 < length (sides_at mesh v)) (from : ℕ)
      (from_is : from ≡ get_or prev (get_or (sides_at mesh v) 0 0) 0) (seen_before seen : List Bool) (ring : List ℕ)
      (fresh : (s : ℕ) → BeginsAt mesh v s → marked seen_before s ≡ false)
      (round : IsRound next prev mate (all_corners mesh) (from, true) seen_before seen ring)
    where
      abbrev start : ℕ × Bool
      start = (from, true)

      abbrev home : ℕ
      home = get_or (sides_at mesh v) 0 0

      sizes : length next ≡ side_count mesh
      sizes = turned_size after mesh next nexts

      start_corner : dart_corner next start ≡ home
      start_corner = begin_corner mesh is_mesh two mate mates next prev nexts prevs v some from from_is

      pub start_in : from < length next
      start_in = begin_in mesh is_mesh two mate mates next prev nexts prevs v some from from_is

      start_vertex : vertex start ≡ v
      start_vertex = begin_vertex mesh is_mesh two mate mates next prev nexts prevs v some from from_is

      abbrev dart : ℕ → ℕ × Bool
      dart k = turns next prev mate (all_corners mesh) k start

      dart_in : (k : ℕ) → (dart k).0 < length next
      dart_in k = walk_in next prev mate (all_corners mesh) darts k start start_in

      dart_vertex : (k : ℕ) → vertex (dart k) ≡ v
      dart_vertex k = walk_vertex next prev mate (all_corners mesh) darts k start start_in ∙ start_vertex

      pub entry_begins : (k : ℕ) → k < length ring → BeginsAt mesh v (get_or ring k 0)
      entry_begins k lt =
          let e = round.entries k lt in
          let z = sizes in
          let i = corner_in next prev mate (all_corners mesh) darts (dart k) (dart_in k) in
          (omega arith, ap tail e ∙ dart_vertex k)

      pub ring_first : get_or ring 0 0 ≡ home
      ring_first = round.entries 0 round.some ∙ start_corner

      share_next : (k f g : ℕ) → k < length ring → IsFaceOf mesh (get_or ring k 0) f →
          IsFaceOf mesh (dart_corner next (dart (suc k))) g → ShareAt mesh v f g
      share_next k f g lt p q =
          let P : ℕ → Type 0 = λ x. IsFaceOf mesh x f in
          let i = dart_in k in
          let z = sizes in
          turn_shares mesh is_mesh two mate mates next prev nexts prevs (dart k) v f g (omega arith) (dart_vertex k)
          (subst P (round.entries k lt) p) q

      next_entry : (k : ℕ) → k < length ring → dart_corner next (dart (suc k)) ≡ get_or ring (after (length ring) k) 0
      next_entry k lt = elim (cases_lt (k + 1) (length ring)) [
        | inl a ↦ rw (Rattle.std.proofs.lemmas.Bool.lt-ltb (k + 1) (length ring) a) (let e : suc k ≡ k + 1 =
            omega arith in ap (λ n. dart_corner next (dart n)) e ∙ sym (round.entries (k + 1) a))
        | inr a ↦ rw (Rattle.std.proofs.lemmas.Bool.le-ltb (k + 1) (length ring) a) (let e : suc k ≡ length ring =
            omega arith in ap (λ n. dart_corner next (dart n)) e ∙ ap (dart_corner next) round.closes
            ∙ sym (round.entries 0 round.some))
      ]

      pub ring_shares : (k f g : ℕ) → k < length ring → IsFaceOf mesh (get_or ring k 0) f →
          IsFaceOf mesh (get_or ring (after (length ring) k) 0) g → ShareAt mesh v f g
      ring_shares k f g lt p q = let P : ℕ → Type 0 = λ x. IsFaceOf mesh x g in
          share_next k f g lt p (subst P (sym (next_entry k lt)) q)

      abbrev Met : ℕ → Type 0
      Met s = (k : ℕ) × (k < length ring) × (get_or ring k 0 ≡ s)

      pub entry_joined : (k f g : ℕ) → k < length ring → IsFaceOf mesh home f → IsFaceOf mesh (get_or ring k 0) g →
          Joined (ShareAt mesh v) f g
      entry_joined zero f g lt p q =
          let P : ℕ → Type 0 = λ x. IsFaceOf mesh x g in
          let J : ℕ → Type 0 = λ x. Joined (ShareAt mesh v) f x in
          subst J (one_face mesh home f g p (subst P ring_first q)) here
      entry_joined (suc k) f g lt p q =
          let b : k < length ring = omega arith in
          let s = get_or ring k 0 in
          let own = face_of_side mesh (owners 0 mesh.faces) s 0 refl (entry_begins k b).0 in
          let h = get_or (owners 0 mesh.faces) s 0 in
          let P : ℕ → Type 0 = λ x. IsFaceOf mesh x g in
          joined_trans (entry_joined k f h b p own)
          (over (share_next k h g b own (subst P (round.entries (suc k) lt) q)) here)

      -- a face that shares an edge here with a face of the round is of the round
      met_closed : (f g : ℕ) → ShareAt mesh v f g → ((s : ℕ) → BeginsAt mesh v s → IsFaceOf mesh s f → Met s) →
          (t : ℕ) → BeginsAt mesh v t → IsFaceOf mesh t g → Met t
      met_closed f g share met t b q = elim (cases_eq f g) [
        | inl e ↦ let P : ℕ → Type 0 = λ x. IsFaceOf mesh t x in met t b (subst P (sym e) q)
        | inr ne ↦
            let w = share.0 in
            let r = dart_of mesh is_mesh two mate mates next prev nexts prevs v w f share.1 in
            let d = r.0 in
            let is = r.1 in
            let r' = dart_of mesh is_mesh two mate mates next prev nexts prevs v w g share.2 in
            let d' = r'.0 in
            let is' = r'.1 in
            let z = sizes in
            let in' : d.0 < length next = omega (arith, is.is_side) in
            let m = mates.mates d.0 is.is_side in
            let P : ℕ → Type 0 = λ x. IsFaceOf mesh x g in
            let differ : d.0 ≢ d'.0 = λ e. ne (one_face mesh d.0 f g is.its_face (subst P (sym e) is'.its_face)) in
            let other : get_or mate d.0 0 ≡ d'.0 =
            of_edge mesh (two_sides mesh is_mesh two) d.0 d'.0 (get_or mate d.0 0) is.is_side is'.is_side m.is_side
            (is'.its_pair ∙ sym is.its_pair) m.same_edge differ m.other in
            let c = dart_corner next d in
            let c_in : c < side_count mesh = let i = corner_in next prev mate (all_corners mesh) darts d in' in
            omega arith in
            let k = met c (c_in, is.its_vertex)
            (dart_face mesh is_mesh two mate mates next prev nexts prevs d f is.its_face) in
            let start_ok = start_in in
            let j = round_closed next prev mate (all_corners mesh) darts start seen_before seen ring start_ok round
            k.0 k.1 d in' (sym k.2) in
            let y = dart_corner next (across d) in
            let y_vertex : tail y ≡ v = cross_vertex next prev mate (all_corners mesh) darts d in' ∙ is.its_vertex in
            let y_face : IsFaceOf mesh y g = dart_face mesh is_mesh two mate mates next prev nexts prevs (across d) g
            (subst P (sym other) is'.its_face) in
            (j.0, j.1, j.2 ∙ one_corner mesh is_mesh y t g y_face q (y_vertex ∙ sym b.1))
      ]

      home_met : (f : ℕ) → IsFaceOf mesh home f → (s : ℕ) → BeginsAt mesh v s → IsFaceOf mesh s f → Met s
      home_met f p s b q =
          (0, round.some, ring_first ∙ one_corner mesh is_mesh home s f p q ((at_begins mesh v 0 some).1 ∙ sym b.1))

      pub joined_met : (f g : ℕ) → IsFaceOf mesh home f → Joined (ShareAt mesh v) f g → (t : ℕ) → BeginsAt mesh v t →
          IsFaceOf mesh t g → Met t
      joined_met f g p chain =
          joined_closed (λ h. (s : ℕ) → BeginsAt mesh v s → IsFaceOf mesh s h →
          Met s) (λ x y s met. met_closed x y s met) chain (home_met f p)

      marked_met : (s : ℕ) → BeginsAt mesh v s → marked seen s ≡ true → Met s
      marked_met s b h = elim (round.only s h) [ inl old ↦ absurd (true≢false (sym old ∙ fresh s b)) | inr m ↦ m ]

      marked_joined : (s f g : ℕ) → BeginsAt mesh v s → marked seen s ≡ true → IsFaceOf mesh home f →
          IsFaceOf mesh s g → Joined (ShareAt mesh v) f g
      marked_joined s f g b h p q =
          let m = marked_met s b h in
          let P : ℕ → Type 0 = λ x. IsFaceOf mesh x g in
          entry_joined m.0 f g m.1 p (subst P (sym m.2) q)

      pub home_face : IsFaceOf mesh home (get_or (owners 0 mesh.faces) home 0)
      home_face = face_of_side mesh (owners 0 mesh.faces) home 0 refl (at_begins mesh v 0 some).0

      pub whole_fan : AllMarkedAt mesh seen v → HasOneFan mesh v
      whole_fan all f g a b =
          let s = corner_begins mesh f v a in
          let t = corner_begins mesh g v b in
          let h = get_or (owners 0 mesh.faces) home 0 in
          joined_trans (joined_sym (λ x y q. (q.0, q.2, q.1))
          (marked_joined s.0 h f s.1.0 (all s.0 s.1.0) home_face s.1.1))
          (marked_joined t.0 h g t.1.0 (all t.0 t.1.0) home_face t.1.1)

      dart_side : (k : ℕ) → (dart k).0 < side_count mesh
      dart_side k = let i = dart_in k in let z = sizes in omega arith

      module _ (edge_of edges : List ℕ) (numbers : AreEdgeNumbers mesh edge_of)
          (trail : IsTrail next prev mate (all_corners mesh) edge_of start (length ring) edges) where
        between_is : (k : ℕ) → k < length ring → ends mesh (get_or edges k 0) ≡ pair_at mesh (dart k).0
        between_is k lt = ap (ends mesh) (trail.at k lt) ∙ numbers.same (dart k).0 (dart_side k)

        between_below : (k : ℕ) → k < length ring → get_or edges k 0 < edge_count mesh
        between_below k lt = let b = numbers.below (dart k).0 (dart_side k) in omega (arith, b, trail.at k lt)

        between_at : (k : ℕ) → k < length edges → IsEdgeAt mesh v (get_or edges k 0)
        between_at k lt =
            let n = trail.size in
            let below : k < length ring = omega arith in
            let w = dart_edge mesh is_mesh two mate mates next prev nexts prevs (dart k) v (dart_side k)
            (dart_vertex k) in
            (between_below k below, ap (touches v) (between_is k below ∙ w.1) ∙ touches_first v w.0)

        between_differ : (i k : ℕ) → i < k → k < length edges → get_or edges i 0 ≢ get_or edges k 0
        between_differ i k lt below e =
            let n = trail.size in
            let b : k < length ring = omega arith in
            let a : i < length ring = omega arith in
            let s = (dart i).0 in
            let t = (dart k).0 in
            let is = mates.mates s (dart_side i) in
            let p : pair_at mesh t ≡ pair_at mesh s = sym (between_is k b) ∙ ap (ends mesh) (sym e) ∙ between_is i a in
            round_differ next prev mate (all_corners mesh) darts start seen_before seen ring start_in round i k lt b
            (elim (cases_eq t s) [
              | inl q ↦ inl q
              | inr ne ↦ inr (sym (of_edge mesh (two_sides mesh is_mesh two) s t (get_or mate s 0) (dart_side i)
                  (dart_side k) is.is_side p is.same_edge (λ q. ne (sym q)) is.other))
            ])

        -- an edge with a dart at the vertex is listed
        dart_listed : ((s : ℕ) → BeginsAt mesh v s → Met s) → (e : ℕ) (d : ℕ × Bool) → e < edge_count mesh →
            d.0 < side_count mesh → vertex d ≡ v → pair_at mesh d.0 ≡ ends mesh e → (j : ℕ) × (j < length edges)
            × (get_or edges j 0 ≡ e)
        dart_listed met e d lt side at p =
            let z = sizes in
            let in' : d.0 < length next = omega arith in
            let c = dart_corner next d in
            let c_in : c < side_count mesh = let i = corner_in next prev mate (all_corners mesh) darts d in' in
            omega arith in
            let k = met c (c_in, at) in
            let j = round_sides next prev mate (all_corners mesh) darts start seen_before seen ring start_in round
            k.0 k.1 d in' (sym k.2) in
            let n = trail.size in
            let own : pair_at mesh d.0 ≡ pair_at mesh (dart j.0).0 =
            elim j.2 [
              | inl q ↦ ap (pair_at mesh) q
              | inr q ↦ ap (pair_at mesh) q
                  ∙ (mates.mates (dart j.0).0 (dart_side j.0)).same_edge
            ] in (
              j.0,
              omega (arith, j.1),
              one_edge mesh (get_or edges j.0 0) e (between_below j.0 j.1) lt (between_is j.0 j.1 ∙ sym own ∙ p),
            )

        between_all : ((s : ℕ) → BeginsAt mesh v s → Met s) → (e : ℕ) → IsEdgeAt mesh v e → (j : ℕ) × (j < length edges)
            × (get_or edges j 0 ≡ e)
        between_all met e at =
            let row = Rattle.surf_soup.proofs.Paired.row_some mesh e at.0 in
            let s = get_or (sides_with mesh (ends mesh e)) 0 0 in
            let lt = side_below mesh (ends mesh e) 0 0 row in
            let p : pair_at mesh s ≡ ends mesh e = with_pair mesh (ends mesh e) 0 row in
            elim (touched v (tail s) (tail (get_or next s 0))
            (ap (touches v) (sym (pair_tails mesh is_mesh two mate mates next prev nexts prevs s lt) ∙ p) ∙ at.1)) [
              | inl q ↦ dart_listed met e (s, false) at.0 lt q p
              | inr q ↦ dart_listed met e (s, true) at.0 lt q p
            ]

        between : GoBetween mesh ring edges
        between = record {
          size = trail.size;
          first = λ f p.
              let P : ℕ → Type 0 = λ x. IsFaceOf mesh x f in
              let q = prev_place mesh is_mesh two mate mates next prev nexts prevs home f (home - first_side mesh f)
              (face_placed mesh home f (subst P ring_first p)) in
              between_is 0 round.some
              ∙ ap (pair_at mesh) (from_is ∙ q.number ∙ ap (side_before mesh f) (sym ring_first));
          behind = λ k f lt p.
              let P : ℕ → Type 0 = λ x. IsFaceOf mesh x f in
              let F : ℕ × ℕ → Type 0 = HasEdge mesh f in
              subst F (sym (between_is k lt))
              (has_edge mesh is_mesh two mate mates next prev nexts prevs (dart k) f (dart_side k)
              (subst P (round.entries k lt) p));
          ahead = λ k g lt p.
              let P : ℕ → Type 0 = λ x. IsFaceOf mesh x g in
              let G : ℕ × ℕ → Type 0 = HasEdge mesh g in
              let is = mates.mates (dart k).0 (dart_side k) in
              let c = flip_corner next prev mate (all_corners mesh) darts (across (dart k))
              (cross_in next prev mate (all_corners mesh) darts (dart k) (dart_in k)) in
              subst G (is.same_edge
              ∙ sym (between_is k lt))
              (has_edge mesh is_mesh two mate mates next prev nexts prevs (across (dart k)) g is.is_side
              (subst P (sym (next_entry k lt) ∙ c) p));
        }

        pub whole_ring : AllMarkedAt mesh seen v → IsWholeRing mesh v ring edges
        whole_ring all =
            record {
              is_ring = record {
                some = round.some;
                first = ring_first;
                begin = entry_begins;
                differ = round.differ;
                all = met;
                share = ring_shares;
              };
              are_edges = record { at = between_at; differ = between_differ; all = between_all met };
              between = between;
              fan = whole_fan all;
            }
          where
            met : (s : ℕ) → BeginsAt mesh v s → Met s
            met s b = marked_met s b (all s b)

      pub ring_pinch : (k : ℕ) → k < length (sides_at mesh v) → marked seen (get_or (sides_at mesh v) k 0) ≡ false →
          ((j : ℕ) → j < k → marked seen (get_or (sides_at mesh v) j 0) ≡ true) →
          IsPinch mesh v (get_or (owners 0 mesh.faces) home 0)
          (get_or (owners 0 mesh.faces) (get_or (sides_at mesh v) k 0) 0)
      ring_pinch k lt new old =
          let f = get_or (owners 0 mesh.faces) home 0 in
          let s = get_or (sides_at mesh v) k 0 in
          let b = at_begins mesh v k lt in
          let g = get_or (owners 0 mesh.faces) s 0 in
          let own = face_of_side mesh (owners 0 mesh.faces) s 0 refl b.0 in
          let begin : (h : ℕ) → HasCorner mesh h v → (j : ℕ)
          × ((j < length (sides_at mesh v)) × IsFaceOf mesh (get_or (sides_at mesh v) j 0) h) = λ h c.
          let t = corner_begins mesh h v c in
          let r = begins_at mesh v t.0 t.1.0 in
          let P : ℕ → Type 0 = λ x. IsFaceOf mesh x h in
          (r.0, (r.1, subst P (sym r.2) t.1.1)) in
          record {
            first = begins_corner mesh f v home (at_begins mesh v 0 some) home_face;
            none_less = λ h below c. let j = begin h c in let less =
                at_faces mesh v j.0 0 h f j.1.0 some j.1.1 home_face below in omega arith;
            second = begins_corner mesh g v s b own;
            apart = λ chain. let m = joined_met f g home_face chain s b own in
                true≢false (sym (ap (marked seen) (sym m.2) ∙ round.are_marked m.0 m.1) ∙ new);
            joined_before = λ h below c. let j = begin h c in let less =
                at_faces mesh v j.0 k h g j.1.0 lt j.1.1 own below in
                marked_joined (get_or (sides_at mesh v) j.0 0) f h (at_begins mesh v j.0 j.1.0) (old j.0 less) home_face
                j.1.1;
          }

      pub ring_others : (s : ℕ) → marked seen s ≡ true → (marked seen_before s ≡ true) ⊎ BeginsAt mesh v s
      ring_others s h = elim (round.only s h) [
        | inl old ↦ inl old
        | inr m ↦ let P : ℕ → Type 0 = λ x. BeginsAt mesh v x in inr (subst P m.2 (entry_begins m.0 m.1))
      ]
