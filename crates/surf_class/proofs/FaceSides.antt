-- Sides of faces, along the tree.
use Rattle.surf_cert.proofs.Common.{◌≡◌, ◌≢◌, ℕ, ◌<◌, Bool, true, false, not, List, length, get_or, set, unwrap_or, Option, Some, None, IsSome, refl, sym, ap, ◌∙◌, subst, arith, rules, inl, inr, get_or-set_same, get_or-set_other, length-set, option_eq, cases_eq, true≢false, xor, Mesh, face_count}
use Rattle.surf_class.proofs.Common.{xors, xor_back, CotreeTables, IsParted, AreSidesOf, side_at}
use mathlib.Core.Bool.{beq}
use Rattle.surf_class.proofs.StepEdges.{differ_is}

-- whether a side is known and is the inside
pub inside_is : (o : Option Bool) → option_eq beq o (Some true) ≡ unwrap_or o false
inside_is None = refl
inside_is (Some true) = refl
inside_is (Some false) = refl

around : (a b c : Bool) → xor (xor a b) c ≡ xor a (xor c b)
around a b c = simp xors

module _ (mesh : Mesh) (t : CotreeTables) (flags : List Bool) (inside : ℕ → Bool) (parted : IsParted mesh t flags inside)
    (at parent edge place : ℕ) (within : at < face_count mesh) (above : at ≢ 0) (parent_is : parent ≡ get_or t.parents at 0)
    (edge_is : edge ≡ get_or t.ups at 0) (place_is : place ≡ edge) where
  one_up : inside at ≡ xor (inside parent) (get_or flags place false)
  one_up =
      parted.parts at within above ∙ ap (λ n. xor (inside n) (get_or flags (get_or t.ups at 0) false)) (sym parent_is)
      ∙ ap (λ n. xor (inside parent) (get_or flags n false)) (sym (place_is ∙ edge_is))

  -- one face up
  pub climbed : (side : Bool) → xor (not (beq side (get_or flags place false))) (inside parent) ≡ xor side (inside at)
  climbed side =
      ap (λ b. xor b (inside parent)) (differ_is side (get_or flags place false))
      ∙ around side (get_or flags place false) (inside parent) ∙ ap (xor side) (sym one_up)

  pub known_up : (side : Bool) → side ≡ inside at → not (beq side (get_or flags place false)) ≡ inside parent
  known_up side is =
      differ_is side (get_or flags place false) ∙ ap (λ b. xor b (get_or flags place false)) (is ∙ one_up)
      ∙ xor_back (inside parent) (get_or flags place false)

some_same : (a b : Bool) → Some a ≡ Some b → b ≡ a
some_same a b e = ap (λ (o : Option Bool). unwrap_or o b) (sym e)

-- a side is noted
pub noted : (inside : ℕ → Bool) (sides : List (Option Bool)) (place at : ℕ) (side : Bool) → place ≡ at → place < length sides →
    side ≡ inside at → AreSidesOf inside sides → AreSidesOf inside (set sides place (Some side))
noted inside sides place at side is l right are f s m so = elim (cases_eq f place) [
  | inl here ↦
      let same : get_or (set sides place (Some side)) f None ≡ Some side =
      ap (λ n. get_or (set sides place (Some side)) n None) here ∙ get_or-set_same sides place (Some side) None l in
      some_same side s (sym same ∙ so) ∙ right ∙ ap inside (sym (here ∙ is))
  | inr ne ↦
      let old : get_or (set sides place (Some side)) f None ≡ get_or sides f None =
      get_or-set_other sides place f (Some side) None ne in
      are f s (omega (arith, m, size)) (sym old ∙ so)
]
  where
    size : length (set sides place (Some side)) ≡ length sides
    size = length-set sides place (Some side)

some_is : (s : Bool) → IsSome (Some s)
some_is s = search rules

pub now_known : (sides : List (Option Bool)) (place at : ℕ) (side : Bool) → place ≡ at → place < length sides →
    IsSome (side_at (set sides place (Some side)) at)
now_known sides place at side is l =
    subst (λ (o : Option Bool). IsSome o)
    (sym (ap (λ n. get_or (set sides place (Some side)) n None) (sym is) ∙ get_or-set_same sides place (Some side) None l))
    (some_is side)

pub still_known : (sides : List (Option Bool)) (place : ℕ) (side : Bool) (f : ℕ) → place < length sides →
    IsSome (side_at sides f) → IsSome (side_at (set sides place (Some side)) f)
still_known sides place side f l known = elim (cases_eq f place) [
  | inl here ↦ now_known sides place f side (sym here) l
  | inr ne ↦ subst (λ (o : Option Bool). IsSome o) (sym (get_or-set_other sides place f (Some side) None ne)) known
]

-- what is known of a face is right
pub all_known : (inside : ℕ → Bool) (sides : List (Option Bool)) (f : ℕ) → AreSidesOf inside sides → f < length sides →
    IsSome (side_at sides f) → side_at sides f ≡ Some (inside f)
all_known inside sides f are l known = at (side_at sides f) refl known
  where
    at : (o : Option Bool) → side_at sides f ≡ o → IsSome o → side_at sides f ≡ Some (inside f)
    at None is h = absurd (true≢false (sym h))
    at (Some s) is h = is ∙ ap (λ (b : Bool). Some b) (are f s l is)
