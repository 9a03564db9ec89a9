-- Rings of the first vertices by marks of sides.
use Rattle.surf_surfaces.proofs.Common.{◌≡◌, ◌≢◌, ℕ, ◌+◌, ◌<◌, ◌≤◌, Bool, true, false, List, [], ◌∷◌, ◌++◌, length, get_or, refl, sym, ap, subst, ◌∙◌, arith, inl, inr, true≢false, cases_eq, cases_Bool, get_or_push, get_or_append_left, length_push, length-append, Mesh, after, before, HasOneFan, side_count, owners}
use Rattle.surf_rows.specs.Rows.{cut, AreEnds}
use Rattle.surf_rows.proofs.Cuts.{ends_push, cut_push}
use Rattle.surf_soup.specs.Vertices.{all_corners, sides_at, AllMet}
use Rattle.surf_soup.specs.Reach.{marked, unmarked}
use Rattle.surf_soup.specs.EdgeTable.{AreEdgeNumbers}
use Rattle.surf_soup.specs.Ring.{nexts, befores, AreDartTables, dart_before, IsRound, IsTrail, IsRoundMarked}
use Rattle.surf_soup.specs.Ring.{IsRoundListed, BeginsAt, IsWholeRing, IsPinch, AreAllRings, AllMarkedAt, IsMarkedFan}
use Rattle.surf_soup.specs.Ring.{AreMarkedFans, AreMarkedRings}
use Rattle.surf_soup.specs.First.{AreFirstSides}
use Rattle.surf_soup.proofs.CornerSides.{at_begins, begins_at, at_rises, row_some}
use Rattle.surf_soup.proofs.RingLaws.{whole_ring, whole_fan, ring_pinch}
use Rattle.surf_soup.proofs.RingLaws.{ring_others}
use Rattle.surf_soup.proofs.FirstLaws.{first_at}
use Rattle.surf_soup.proofs.TurnedSides.{turned_len, turned_is}

-- the faces at a vertex that stay while sides of others are marked
fan_stays : (mesh : Mesh) (u : ℕ) (old now : List Bool) → IsMarkedFan mesh old u →
    ((s : ℕ) → BeginsAt mesh u s → marked old s ≡ marked now s) → IsMarkedFan mesh now u
fan_stays mesh u old now m same = record {
  fan = λ all. m.fan (λ s b. same s b ∙ all s b);
  pinch = λ s b new marks. m.pinch s b (same s b ∙ new) (λ t lt c. same t c ∙ marks t lt c);
}

-- one ring more
marked_more : (mesh : Mesh) (v : ℕ) (old now : List Bool) (rows lists : List (List ℕ)) (ring edges : List ℕ) →
    AreMarkedRings mesh old v rows lists → ((u s : ℕ) → u < v → BeginsAt mesh u s → marked old s ≡ marked now s) →
    (AllMarkedAt mesh now v → IsWholeRing mesh v ring edges) →
    AreMarkedRings mesh now (v + 1) (rows ++ ring ∷ []) (lists ++ edges ∷ [])
marked_more mesh v old now rows lists ring edges a same r =
    let n = a.size in
    let m = a.edges_size in
    let new_rows = rows ++ ring ∷ [] in
    let new_lists = lists ++ edges ∷ [] in
    let W : ℕ → List ℕ → List ℕ → Type 0 = λ u xs ys. AllMarkedAt mesh now u → IsWholeRing mesh u xs ys in
    let both : (u : ℕ) (xs ys xs' ys' : List ℕ) → xs' ≡ xs → ys' ≡ ys → W u xs ys → W u xs' ys' =
    λ u xs ys xs' ys' e f w. let P : List ℕ → Type 0 = λ zs. W u zs ys in let Q : List ℕ → Type 0 =
    λ zs. W u xs' zs in subst Q (sym f) (subst P (sym e) w) in
    record {
      size = omega (arith, length_push rows ring, n);
      edges_size = omega (arith, length_push lists edges, m);
      rings_are = λ u below. elim (cases_eq u v) [
        | inl e ↦ let P : ℕ → Type 0 = λ w. W w (get_or new_rows w []) (get_or new_lists w []) in
            subst P (sym e) (both v ring edges (get_or new_rows v []) (get_or new_lists v [])
            (get_or_push rows ring [] v n) (get_or_push lists edges [] v m) r)
        | inr ne ↦
            let lt : u < v = omega arith in
            both u (get_or rows u []) (get_or lists u []) (get_or new_rows u []) (get_or new_lists u [])
            (get_or_append_left rows (ring ∷ []) [] u (omega arith))
            (get_or_append_left lists (edges ∷ []) [] u (omega arith))
            (λ all. a.rings_are u lt (λ s b. same u s lt b ∙ all s b))
      ];
    }

-- the rounds of the first vertices, by the sides that they marked
pub record AreFansMarked (mesh : Mesh) (seen : List Bool) (v : ℕ) : Type 0 where
  pub fans : AreMarkedFans mesh seen v
  pub size : length seen ≡ side_count mesh
  pub fresh : (u s : ℕ) → v ≤ u → BeginsAt mesh u s → marked seen s ≡ false

pub fans_start : (mesh : Mesh) (seen : List Bool) → length seen ≡ side_count mesh → ((s : ℕ) → marked seen s ≡ false) →
    AreFansMarked mesh seen 0
fans_start mesh seen size none =
    record { fans = λ v lt. absurd (omega arith); size = size; fresh = λ u s le b. none s }

-- their rings are listed too, one after the other, with their ends
pub record AreRingsListed (mesh : Mesh) (seen : List Bool) (v : ℕ) (sides edges ends : List ℕ) : Type 0 where
  pub marks : AreFansMarked mesh seen v
  pub are_ends : AreEnds 0 ends (length sides)
  pub as_many : length edges ≡ length sides
  pub rings : AreMarkedRings mesh seen v (cut 0 ends sides) (cut 0 ends edges)
  pub counted : length sides + unmarked seen ≡ side_count mesh

module _ (mesh : Mesh) (mate edge_of : List ℕ) (tables : AreDartTables mesh mate) where
  module _ (v home : ℕ) (some : 0 < length (sides_at mesh v)) (is : home ≡ get_or (sides_at mesh v) 0 0)
      (old now : List Bool) (ring : List ℕ) (fresh : (s : ℕ) → BeginsAt mesh v s → marked old s ≡ false)
      (round : IsRound (nexts mesh) (befores mesh) mate (all_corners mesh) (dart_before mesh home) old now ring)
    where
      abbrev from : ℕ
      from = get_or (befores mesh) home 0

      from_is : from ≡ get_or (befores mesh) (get_or (sides_at mesh v) 0 0) 0
      from_is = ap (λ s. get_or (befores mesh) s 0) is

      marked_fan : IsMarkedFan mesh now v
      marked_fan = record {
        fan = whole_fan mesh tables.is_mesh tables.two mate tables.mates (nexts mesh) (befores mesh)
            (turned_is after mesh) (turned_is before mesh) v some from from_is old now ring fresh round;
        pinch = λ s b new marks.
            let r = begins_at mesh v s b in
            let k = r.0 in
            let at = r.2 in
            let P : ℕ → Type 0 =
            λ x. IsPinch mesh v (get_or (owners 0 mesh.faces) (get_or (sides_at mesh v) 0 0) 0)
            (get_or (owners 0 mesh.faces) x 0) in
            subst P at (ring_pinch mesh tables.is_mesh tables.two mate tables.mates (nexts mesh) (befores mesh)
            (turned_is after mesh) (turned_is before mesh) v some from from_is old now ring fresh round k r.1
            (ap (marked now) at ∙ new)
            (λ j below. let up = at_rises mesh v j k below r.1 in let lt = r.1 in
            marks (get_or (sides_at mesh v) j 0) (omega arith) (at_begins mesh v j (omega arith))));
      }

      marked_ring : AreEdgeNumbers mesh edge_of → (between : List ℕ) → IsTrail (nexts mesh) (befores mesh) mate (all_corners mesh) edge_of
          (dart_before mesh home) (length ring) between → AllMarkedAt mesh now v → IsWholeRing mesh v ring between
      marked_ring numbers between trail =
          whole_ring mesh tables.is_mesh tables.two mate tables.mates (nexts mesh) (befores mesh)
          (turned_is after mesh) (turned_is before mesh) v some from from_is old now ring fresh round edge_of between
          numbers trail

      others_stay : (u s : ℕ) → u ≢ v → BeginsAt mesh u s → marked old s ≡ marked now s
      others_stay u s ne b = elim (cases_Bool (marked old s)) [
        | inl is ↦ is ∙ sym (round.stay s is)
        | inr un ↦ elim (cases_Bool (marked now s)) [
          | inl met ↦ elim (ring_others mesh tables.is_mesh tables.two mate tables.mates (nexts mesh) (befores mesh)
              (turned_is after mesh) (turned_is before mesh) v some from from_is old now ring fresh round s met) [
                | inl was ↦ absurd (true≢false (sym was ∙ un))
                | inr at ↦ absurd (ne (sym b.1 ∙ at.1))
              ]
          | inr still ↦ un ∙ sym still
        ]
      ]

  -- a round more
  module _ (first : List ℕ) (v : ℕ) (old now : List Bool) (firsts : AreFirstSides mesh first) (met : AllMet mesh)
      (are : AreFansMarked mesh old v) (lt : v < mesh.vertices) (ring : List ℕ)
      (round : IsRound (nexts mesh) (befores mesh) mate (all_corners mesh) (dart_before mesh (get_or first v 0)) old now
      ring)
    where
      has_side : 0 < length (sides_at mesh v)
      has_side = let m = met v lt in row_some mesh v m.0 m.1

      is_first : get_or first v 0 ≡ get_or (sides_at mesh v) 0 0
      is_first = first_at mesh first firsts v lt has_side

      is_fresh : (s : ℕ) → BeginsAt mesh v s → marked old s ≡ false
      is_fresh s b = are.fresh v s (omega arith) b

      round_stays : (u s : ℕ) → u ≢ v → BeginsAt mesh u s → marked old s ≡ marked now s
      round_stays = others_stay v (get_or first v 0) has_side is_first old now ring is_fresh round

      round_ring : AreEdgeNumbers mesh edge_of → (between : List ℕ) → IsTrail (nexts mesh) (befores mesh) mate (all_corners mesh) edge_of
          (dart_before mesh (get_or first v 0)) (length ring) between → AllMarkedAt mesh now v →
          IsWholeRing mesh v ring between
      round_ring = marked_ring v (get_or first v 0) has_side is_first old now ring is_fresh round

      fans_more : AreFansMarked mesh now (v + 1)
      fans_more = record {
        fans = λ u below. elim (cases_eq u v) [
          | inl e ↦ let P : ℕ → Type 0 = IsMarkedFan mesh now in
              subst P (sym e) (marked_fan v (get_or first v 0) has_side is_first old now ring is_fresh round)
          | inr ne ↦ fan_stays mesh u old now (are.fans u (omega arith)) (λ s b. round_stays u s ne b)
        ];
        size = round.size ∙ turned_len after mesh;
        fresh = λ u s le b. sym (round_stays u s (omega arith) b) ∙ are.fresh u s (omega arith) b;
      }

  pub fans_next : (first : List ℕ) (v : ℕ) (old now : List Bool) → AreFirstSides mesh first → AllMet mesh →
      AreFansMarked mesh old v → v < mesh.vertices → IsRoundMarked mesh mate (get_or first v 0) old now →
      AreFansMarked mesh now (v + 1)
  fans_next first v old now firsts met are lt marks =
      fans_more first v old now firsts met are lt marks.ring marks.round

  pub rings_next : (first : List ℕ) (v : ℕ) (old now : List Bool) (sides sides' edges edges' ends : List ℕ) →
      AreEdgeNumbers mesh edge_of → AreFirstSides mesh first → AllMet mesh → AreRingsListed mesh old v sides edges ends → v < mesh.vertices →
      IsRoundListed mesh mate edge_of (get_or first v 0) old now sides sides' edges edges' →
      AreRingsListed mesh now (v + 1) sides' edges' (ends ++ length sides' ∷ [])
  rings_next first v old now sides sides' edges edges' ends numbers firsts met are lt listed =
      let ring = listed.ring in
      let between = listed.between in
      let long : length sides' ≡ length sides + length ring = ap length listed.sides_are ∙ length-append sides ring in
      let longer : length edges' ≡ length edges + length between = ap length listed.edges_are
      ∙ length-append edges between in
      let size = listed.trail.size in
      let many = are.as_many in
      let counted = are.counted in
      let ring_counted = listed.round.counted in
      let rows : cut 0 (ends ++ length sides' ∷ []) sides' ≡ cut 0 ends sides ++ ring ∷ [] =
      ap (λ n. cut 0 (ends ++ n ∷ []) sides') long
      ∙ ap (cut 0 (ends ++ (length sides + length ring) ∷ [])) listed.sides_are
      ∙ cut_push 0 ends (length sides) sides ring are.are_ends (omega arith) in
      let lists : cut 0 (ends ++ length sides' ∷ []) edges' ≡ cut 0 ends edges ++ between ∷ [] =
      ap (λ n. cut 0 (ends ++ n ∷ []) edges') (long ∙ ap (λ n. length sides + n) (sym size))
      ∙ ap (cut 0 (ends ++ (length sides + length between) ∷ [])) listed.edges_are
      ∙ cut_push 0 ends (length sides) edges between are.are_ends (omega arith) in
      let M : List (List ℕ) → List (List ℕ) → Type 0 = AreMarkedRings mesh now (v + 1) in
      let P : List (List ℕ) → Type 0 = λ rs. M rs (cut 0 ends edges ++ between ∷ []) in
      let Q : List (List ℕ) → Type 0 = λ es. M (cut 0 (ends ++ length sides' ∷ []) sides') es in
      let E : ℕ → Type 0 = λ n. AreEnds 0 (ends ++ n ∷ []) n in
      record {
        marks = fans_more first v old now firsts met are.marks lt ring listed.round;
        are_ends = subst E (sym long) (ends_push 0 ends (length sides) (length ring) are.are_ends);
        as_many = omega arith;
        rings = subst Q (sym lists)
            (subst P (sym rows) (marked_more mesh v old now (cut 0 ends sides) (cut 0 ends edges) ring between are.rings
            (λ u s below b. round_stays first v old now firsts met are.marks lt ring listed.round u s (omega arith) b)
            (round_ring first v old now firsts met are.marks lt ring listed.round numbers between listed.trail)));
        counted = omega arith;
      }

  pub first_side_at : (first : List ℕ) (v : ℕ) → AreFirstSides mesh first → AllMet mesh → v < mesh.vertices →
      BeginsAt mesh v (get_or first v 0)
  first_side_at first v firsts met lt =
      let m = met v lt in
      let some = row_some mesh v m.0 m.1 in
      let P : ℕ → Type 0 = BeginsAt mesh v in
      subst P (sym (first_at mesh first firsts v lt some)) (at_begins mesh v 0 some)

pub rings_start : (mesh : Mesh) (seen : List Bool) → length seen ≡ side_count mesh → ((s : ℕ) → marked seen s ≡ false) →
    unmarked seen ≡ side_count mesh → AreRingsListed mesh seen 0 [] [] []
rings_start mesh seen size none all = record {
  marks = fans_start mesh seen size none;
  are_ends = refl;
  as_many = refl;
  rings = record { size = refl; edges_size = refl; rings_are = λ v lt. absurd (omega arith) };
  counted = omega arith;
}

-- all sides are marked
pub all_rings : (mesh : Mesh) (seen : List Bool) (count : ℕ) (rings edges : List (List ℕ)) →
    AreMarkedRings mesh seen count rings edges → ((s : ℕ) → s < side_count mesh → marked seen s ≡ true) →
    AreAllRings mesh count rings edges
all_rings mesh seen count rings edges are all =
    let whole : (v : ℕ) → v < count → IsWholeRing mesh v (get_or rings v []) (get_or edges v []) =
    λ v lt. are.rings_are v lt (λ s b. all s b.0) in
    record { size = are.size; edges_size = are.edges_size; whole = whole; fans = λ v lt. (whole v lt).fan }

-- and then the faces at each vertex are one cycle
pub all_fans : (mesh : Mesh) (seen : List Bool) (count : ℕ) → AreMarkedFans mesh seen count →
    ((s : ℕ) → s < side_count mesh → marked seen s ≡ true) → (v : ℕ) → v < count → HasOneFan mesh v
all_fans mesh seen count are all v lt = (are v lt).fan (λ s b. all s b.0)
