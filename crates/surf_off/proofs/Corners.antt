-- The corners of a face, one after the other.
use Rattle.surf_surfaces.proofs.Common.{◌≡◌, ◌<◌, ◌≤◌, ◌+◌, ◌-◌, ℕ, suc, List, [], ◌∷◌, ◌++◌, take, Result, Ok, Err, refl, sym, ◌∙◌, ap, append_assoc, arith, append-nil}
use Rattle.surf_off.specs.declared.fault.OffFault.{OffFault}
use Rattle.surf_text.specs.Text.{whole, behind_word, behind_words}
use Rattle.surf_base.specs.Gives.{◌>>=◌}
use Rattle.surf_off.specs.Off.{corner_read, corners_at}

-- what was read before, and what is still read
abbrev pub with_front : List ℕ → Result (List ℕ) OffFault → Result (List ℕ) OffFault
with_front front read = read >>= λ us. Ok (front ++ us)

regroup : (front : List ℕ) (u : ℕ) (read : Result (List ℕ) OffFault) → with_front front (read >>= λ us. Ok (u ∷ us)) ≡ with_front (front ++ u ∷ []) read
regroup front u (Ok us) = ap (λ (xs : List ℕ). Ok xs) (simp append_assoc)
regroup front u (Err e) = refl

module _ (n v size : ℕ) (total : Result (List ℕ) OffFault) where
  pub corner_more : (front : List ℕ) (place : ℕ) (tokens : List (List ℕ)) (token : List ℕ) (rest : List (List ℕ)) (u : ℕ) → place < size → tokens ≡ token ∷ rest → corner_read n v place (whole token) ≡ Ok u
      → with_front front (corners_at n v place (take (size - place) tokens)) ≡ total → with_front (front ++ u ∷ []) (corners_at n v (place + 1) (take (size - (place + 1)) rest)) ≡ total
  unfolding corners_at
  corner_more front place tokens token rest u lt is good so_far =
      let k : size - place ≡ suc (size - (place + 1)) = omega arith in
      let one : with_front front (corners_at n v place (take (size - place) tokens)) ≡ with_front (front ++ u ∷ []) (corners_at n v (place + 1) (take (size - (place + 1)) rest)) =
      rw (k, is, good) (regroup front u (corners_at n v (place + 1) (take (size - (place + 1)) rest))) in
      sym one ∙ so_far

  pub corner_bad : (front : List ℕ) (place : ℕ) (tokens : List (List ℕ)) (token : List ℕ) (rest : List (List ℕ)) (e : OffFault) → place < size → tokens ≡ token ∷ rest → corner_read n v place (whole token) ≡ Err e
      → with_front front (corners_at n v place (take (size - place) tokens)) ≡ total → total ≡ Err e
  unfolding corners_at
  corner_bad front place tokens token rest e lt is bad so_far =
      let k : size - place ≡ suc (size - (place + 1)) = omega arith in
      let one : with_front front (corners_at n v place (take (size - place) tokens)) ≡ Err e = rw (k, is, bad) refl in
      sym so_far ∙ one

  pub corners_done : (front : List ℕ) (place : ℕ) (tokens : List (List ℕ)) → size ≤ place → with_front front (corners_at n v place (take (size - place) tokens)) ≡ total → total ≡ Ok front
  unfolding corners_at
  corners_done front place tokens le so_far =
      let k : size - place ≡ 0 = omega arith in
      let one : with_front front (corners_at n v place (take (size - place) tokens)) ≡ Ok front = rw k (ap (λ (xs : List ℕ). Ok xs) (append-nil front)) in
      sym so_far ∙ one

-- what stands behind the corners, where one more is read
pub rest_more : (size place : ℕ) (old new total : List ℕ) → place < size → new ≡ behind_word old → behind_words (size - place) old ≡ total → behind_words (size - (place + 1)) new ≡ total
rest_more size place old new total lt is so_far =
    let k : size - place ≡ suc (size - (place + 1)) = omega arith in
    ap (behind_words (size - (place + 1))) is ∙ ap (λ (n : ℕ). behind_words n old) (sym k) ∙ so_far
