-- Elimination, one class after the other.
use Rattle.surf_surfaces.proofs.Common.{◌≡◌, ℕ, ◌+◌, ◌<◌, ◌≤◌, ◌^◌, Bool, true, false, List, length, map, bit_xor, refl, sym, ap, ◌∙◌, subst, arith, All, length-map, slice_index, pow_below, xor_lt, has, has-xor, xor}
use Rattle.surf_signatures.specs.Tables.{Signed}
use Rattle.surf_paired.specs.Paired.{image, moved, ArePairedRows}
use Rattle.surf_paired.proofs.Rows.{images_move, image_small, next_has_own, pairs_stay, one_pair_more, has_one, has_other}
use Rattle.surf_sheetfind.specs.Pairs.{AreRows, CanPair, HasOwn}
use Rattle.surf_sheetfind.proofs.Tables.{moved_on}

-- as many rows as before
pub rows_moved : (count k other : ℕ) (old new : Signed) → AreRows count old → new.sets ≡ map (moved k other) old.sets →
    new.width ≡ old.width → AreRows count new
rows_moved count k other old new are sets width = record {
  width = width ∙ are.width;
  count_is = ap length sets ∙ length-map old.sets (moved k other) ∙ are.count_is;
}

module _ (classes rows : List ℕ) (n class : ℕ) (can : CanPair classes rows n class) where
  -- the image of the class
  image_is : (im : ℕ) → im ≡ image rows class → im ≡ image rows (slice_index classes n)
  image_is im is = is ∙ ap (image rows) (sym can.is)

  own_in : n < length rows
  own_in = let here = can.here in let many = can.as_many in omega (arith, here, many)

  pub own_there : (im : ℕ) → im ≡ image rows class → has im n ≡ true → HasOwn classes rows n
  own_there im is on = record { paired = can.paired; own = ap (λ x. has x n) (sym (image_is im is)) ∙ on }

  -- the image has some number that no class before it has
  pub none_left : (im : ℕ) → im ≡ image rows class → ((k : ℕ) → n ≤ k → k < length rows → has im k ≡ false) → ⊥
  none_left im is none =
      next_has_own classes rows n can.are.independent
      (subst (λ m. All (λ c. c < 2 ^ m) classes) (sym can.as_many) can.are.below) can.here can.paired
      (λ k past below. ap (λ x. has x k) (sym (image_is im is)) ∙ none k past below)

  -- its own number is given to the image, for another
  pub own_given : (im k : ℕ) (new : List ℕ) → im ≡ image rows class → has im n ≡ false → n ≤ k → has im k ≡ true →
      new ≡ map (moved k (2 ^ n)) rows → HasOwn classes new n
  own_given im k new is off past on new_is =
      let c = slice_index classes n in
      let apart : (k ≡ n → ⊥) = λ same. no (sym off ∙ ap (has im) (sym same) ∙ on) in
      let here : image (map (moved k (2 ^ n)) rows) c ≡ bit_xor im (2 ^ n) =
      images_move rows k (2 ^ n) c ∙ ap (moved k (2 ^ n)) (sym (image_is im is)) ∙ moved_on k (2 ^ n) im on in
      subst (λ xs. HasOwn classes xs n) (sym new_is) (record {
        paired = pairs_stay classes rows n k (2 ^ n) past (pow_below n (length rows) own_in) (has_other n k apart) can.paired;
        own = ap (λ x. has x n) here ∙ has-xor im (2 ^ n) n ∙ ap (λ b. xor b (has (2 ^ n) n)) off ∙ ap (xor false) (has_one n);
      })
    where
      no : false ≡ true → ⊥
      no e = cc

  -- the other numbers of the image are taken out
  pub others_taken : (im others : ℕ) (new : List ℕ) → im ≡ image rows class → others ≡ bit_xor im (2 ^ n) →
      HasOwn classes rows n → new ≡ map (moved n others) rows → ArePairedRows classes new (n + 1)
  others_taken im others new is others_are own new_is =
      let c = slice_index classes n in
      let whole : others ≡ bit_xor (image rows c) (2 ^ n) = others_are ∙ ap (λ x. bit_xor x (2 ^ n)) (image_is im is) in
      let m = length rows in
      let bound : image rows c < 2 ^ m = image_small rows c m can.paired.small in
      let few : others < 2 ^ m =
      subst (λ x. x < 2 ^ m) (sym whole) (xor_lt m (image rows c) (2 ^ n) bound (pow_below n m own_in)) in
      let at : (j : ℕ) → has others j ≡ xor (has (image rows c) j) (has (2 ^ n) j) =
      λ j. ap (λ x. has x j) whole ∙ has-xor (image rows c) (2 ^ n) j in
      subst (λ xs. ArePairedRows classes xs (n + 1)) (sym new_is)
      (one_pair_more classes rows n others few
      (at n ∙ ap (λ b. xor b (has (2 ^ n) n)) own.own ∙ ap (xor true) (has_one n)) own.own
      (λ j later. at j ∙ ap (xor (has (image rows c) j)) (has_other n j (λ same. omega (arith, same, later)))
      ∙ none (has (image rows c) j)) own.paired)
    where
      none : (b : Bool) → xor b false ≡ b
      none true = refl
      none false = refl

  -- they can still be paired
  pub can_still : (mid : List ℕ) → length mid ≡ length rows → ArePairedRows classes mid n → CanPair classes mid n class
  can_still mid same paired = record {
    are = can.are;
    as_many = same ∙ can.as_many;
    here = can.here;
    is = can.is;
    paired = paired;
  }
