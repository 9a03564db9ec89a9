-- How the laws meet: two stages, as a program would have them, and the law of few bases again.
use Rattle.surf_surfaces.proofs.Common.{◌≡◌, ℕ, ◌≤◌, Bool, true, ◌&&◌, List, length, map, All, Option, refl, arith, inl, inr, or_cases, or_left, or_right, and_from, nat_tests, IsInOrder, Split, IsSplit, Tree, Mesh, IsSurface, ArePositive, IsIndependent, IsLoopCount, cells_of, AreShortestTrees, Trees, AreChosen, Loop, IsChosenBasis, Place, Found, IsWithin, walks_found, comes_no_later, comes_sooner, every_place, MeetsAll, AreEnough, HasFound}
use Rattle.surf_firsts.specs.Near.{IsSoughtFromStart}
use Rattle.surf_caps.specs.Heights.{AreHeights}
use Rattle.surf_caps.specs.Caps.{Sought, up_to_caps, up_to_length, either, limited, everywhere, HaveAskedEnds, MeetsUpTo, IsFoundBy, AreEnoughFor, HaveAllPlaces}
use Rattle.surf_caps.specs.Stages.{behind, IsClassQuotient, AreImageHeights}
use Rattle.surf_caps.proofs.Covers.{enough_everywhere}
use Rattle.surf_caps.proofs.Grow.{caps_grow_enough}
use Rattle.surf_caps.proofs.Heights.{asked_ends_meet}
use Rattle.surf_caps.proofs.Images.{stages_meet, sets_meet, everywhere_meets, meets_fewer, image_ends_meet}
use Rattle.surf_caps.proofs.Places.{enough_have_places, full_count_has_places}
use Rattle.surf_caps.proofs.Starts.{start_law, found_are_walks}

sooner_is_short : (limit p : Place) (most : ℕ) → limit.0 ≤ most → comes_sooner limit p ≡ true →
    up_to_length most p ≡ true
sooner_is_short limit p most le h = grind (arith, nat_tests)

module _ (mesh : Mesh) (lengths : List ℕ) (surface : IsSurface mesh) (positive : ArePositive mesh lengths)
    (searched : ℕ → Tree) (shortest : AreShortestTrees mesh lengths searched) (d : Split)
    (split : IsSplit (cells_of mesh) d) (least most : ℕ) (limit : Place) (short : limit.0 ≤ most)
    -- the first stage: some loops, such as those kept at one vertex, and caps by the heights among them
    (some : List Found) (some_by : All (IsFoundBy mesh lengths) some) (some_order : IsInOrder comes_no_later some)
    (height : ℕ → Option ℕ) (heights : AreHeights mesh d (walks_found some) height)
    (set : ℕ → Bool) (cap : ℕ → ℕ)
    (ends : HaveAskedEnds mesh (map (λ k. k.size) some) height (up_to_length least) (up_to_caps set cap))
    -- what is final after it, and what isn't
    (final rest : List Found) (final_by : All (IsFoundBy mesh lengths) final) (rest_by : All (IsFoundBy mesh lengths) rest)
    (final_order : IsInOrder comes_no_later final) (rest_order : IsInOrder comes_no_later rest)
    (final_short : All (λ k. k.size ≤ least) final) (independent : IsIndependent mesh (walks_found final))
    (image : ℕ → ℕ) (q : IsClassQuotient mesh d image (walks_found final))
    -- the second stage: caps by the heights of images
    (height_there : ℕ → Option ℕ) (heights_there : AreImageHeights mesh d image (walks_found rest) height_there)
    (set_there : ℕ → Bool) (cap_there : ℕ → ℕ)
    (ends_there : HaveAskedEnds mesh (map (λ k. k.size) rest) height_there (behind (up_to_length least) (up_to_length most))
    (up_to_caps set_there cap_there)) where
  first_sought : Sought
  first_sought = limited (up_to_length least) (up_to_caps set cap)

  then_sought : Sought
  then_sought = limited (comes_sooner limit) (up_to_caps set_there cap_there)

  -- after the first stage what was found is enough everywhere up to its length
  first_ended : (found : List Found) → AreEnoughFor mesh lengths searched first_sought found →
      AreEnoughFor mesh lengths searched (everywhere (up_to_length least)) found
  unfolding first_sought
  first_ended found enough =
      let caps = up_to_caps set cap in
      let some_sized = (found_are_walks mesh lengths some surface positive some_by).sized some_order in
      let all = asked_ends_meet mesh lengths d (walks_found some) (map (λ k. k.size) some) height
      (up_to_length least) caps surface split some_sized heights ends in
      let meets = meets_fewer mesh lengths (up_to_length least) (up_to_length least) caps first_sought all
      (λ p h. h) (λ z p h k. and_from (caps z p) (up_to_length least p) k h) in
      enough_everywhere mesh lengths searched (up_to_length least) first_sought found surface positive shortest
      (start_law.lengths least)
      (start_law.limited (up_to_length least) caps (start_law.lengths least) (start_law.caps set cap)) meets enough

  -- so the second stage need only meet what is longer
  meet : MeetsUpTo mesh lengths (comes_sooner limit) (either (everywhere (up_to_length least)) then_sought)
  unfolding then_sought
  meet =
      let rest_sized = (found_are_walks mesh lengths rest surface positive rest_by).sized rest_order in
      let finals = found_are_walks mesh lengths final surface positive final_by in
      let caps_there = up_to_caps set_there cap_there in
      let low = everywhere (up_to_length least) in
      let then_all = image_ends_meet mesh lengths d image (walks_found final) (walks_found rest)
      (map (λ k. k.size) rest) height_there least (up_to_length most) caps_there surface split q
      (finals.sized final_order).closed (finals.up_to least final_short) rest_sized heights_there ends_there in
      let whole = stages_meet mesh lengths (up_to_length least) (up_to_length most) low caps_there
      (everywhere_meets mesh lengths (up_to_length least)) then_all in
      meets_fewer mesh lengths (up_to_length most) (comes_sooner limit) (either low caps_there)
      (either low then_sought) whole (λ p h. sooner_is_short limit p most short h)
      (λ z p h k. elim (or_cases (up_to_length least p) (caps_there z p) k) [
        | inl on ↦ or_left (up_to_length least p) (then_sought z p) on
        | inr on ↦ or_right (up_to_length least p) (then_sought z p) (and_from (caps_there z p) (comes_sooner limit p) on h)
      ])

  then_ended : (trees : ℕ → Trees) (found : List Found) (basis : List Loop) → AreChosen mesh lengths trees →
      AreEnoughFor mesh lengths searched (either (everywhere (up_to_length least)) then_sought) found →
      IsIndependent mesh (walks_found found) → IsLoopCount mesh (length found) → All (IsWithin limit) found →
      IsChosenBasis mesh lengths trees basis → HaveAllPlaces found basis
  unfolding then_sought
  then_ended trees found basis chosen enough free full within is =
      full_count_has_places mesh lengths trees searched limit (either (everywhere (up_to_length least)) then_sought) found
      basis surface positive chosen shortest
      (start_law.either (everywhere (up_to_length least)) then_sought
      (start_law.everywhere (up_to_length least) (start_law.lengths least))
      (start_law.limited (comes_sooner limit) (up_to_caps set_there cap_there) (start_law.places limit)
      (start_law.caps set_there cap_there)))
      meet enough free full within is

-- ---- what the laws of few bases said

module _ (mesh : Mesh) (lengths : List ℕ) (trees : ℕ → Trees) (searched : ℕ → Tree) (set : ℕ → Bool) (found : List Found)
    (basis : List Loop) (surface : IsSurface mesh) (positive : ArePositive mesh lengths)
    (chosen : AreChosen mesh lengths trees) (shortest : AreShortestTrees mesh lengths searched)
    (meets : MeetsAll mesh set) (enough : AreEnough mesh lengths searched set found)
    (is : IsChosenBasis mesh lengths trees basis) where
  enough_of_one : AreEnoughFor mesh lengths searched (λ z place. set z && every_place place) found
  enough_of_one = (caps_grow_enough mesh lengths searched surface positive shortest).of_one every_place set found (record {
    loops = enough.loops;
    depend = λ z e z_in in_set e_in any. enough.depend z e z_in in_set e_in;
  })

  every_start : IsSoughtFromStart every_place
  every_start p q h k = refl

  few_again : All (HasFound found) basis
  few_again j c l =
      (enough_have_places mesh lengths trees searched every_place (λ z place. set z && every_place place) found basis surface
      positive chosen shortest every_start (start_law.on_set set every_place every_start)
      (sets_meet mesh lengths set every_place meets) enough_of_one is).some j c l refl
