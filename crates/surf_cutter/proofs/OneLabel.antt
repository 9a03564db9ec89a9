-- The sides that begin at a vertex have one label, which is numbered.
use Rattle.surf_slit.proofs.Common.{◌≡◌, ◌≢◌, ℕ, zero, suc, ◌+◌, ◌-◌, ◌<◌, ◌^◌, sym, subst, ap, ◌∙◌, List, ◌∷◌, [], ◌++◌, length, get_or, arith, Mesh, side_count, set, length-set, get_or-set_same, IsRing, at_begins, begins_at, at_rises}
use Rattle.surf_cutter.proofs.Common.{sides_at, nobody, label_at, HaveOneLabel, IsRowAt, AreNumberedTo}
use Rattle.surf_cutter.proofs.Numbered.{AreNumberedIn, numbered_start, numbered_done, numbered_again, numbered_new, place_few}

-- the sides that begin at a vertex, by number
row_at : (mesh : Mesh) (v : ℕ) → IsRowAt mesh v (sides_at mesh v)
row_at mesh v = record { begin = at_begins mesh v; all = begins_at mesh v; rises = at_rises mesh v }

module _ (mesh : Mesh) (v : ℕ) (ring labels : List ℕ) (is_ring : IsRing mesh v ring) (few : side_count mesh < 2 ^ 30) (some : 0 < length ring) (one : HaveOneLabel ring labels) where
  each : (k : ℕ) → k < length (sides_at mesh v) → label_at (sides_at mesh v) labels k ≡ label_at ring labels 0
  each k lt =
      let r = is_ring.all (get_or (sides_at mesh v) k 0) (at_begins mesh v k lt) in
      sym (ap (λ s. get_or labels s 0) r.2) ∙ one r.0 r.1

  any : 0 < length (sides_at mesh v)
  any = let r = begins_at mesh v (get_or ring 0 0) (is_ring.begin 0 some) in let lt = r.1 in omega (arith, lt)

  -- the label has a number, and the others of the sides are counted
  rest : (m n : ℕ) (numbers origins : List ℕ) → label_at ring labels 0 < length numbers → get_or numbers (label_at ring labels 0) 0 ≢ nobody → n + m ≡ length (sides_at mesh v) →
      AreNumberedIn mesh v (sides_at mesh v) n labels numbers origins → AreNumberedIn mesh v (sides_at mesh v) (n + m) labels numbers origins
  rest zero n numbers origins inside known all are =
      let same : n ≡ n + 0 = omega arith in
      subst (λ k. AreNumberedIn mesh v (sides_at mesh v) k labels numbers origins) same are
  rest (suc m) n numbers origins inside known all are =
      let lt : n < length (sides_at mesh v) = omega (arith, all) in
      let at = each n lt in
      let same : n + 1 + m ≡ n + suc m = omega arith in
      let next : n + 1 + m ≡ length (sides_at mesh v) = omega (arith, all) in
      let step = numbered_again mesh v n (sides_at mesh v) labels numbers origins (row_at mesh v) few lt (subst (λ k. k < length numbers) (sym at) inside) are (λ e. known (ap (λ k. get_or numbers k 0) (sym at) ∙ e)) in
      subst (λ k. AreNumberedIn mesh v (sides_at mesh v) k labels numbers origins) same (rest m (n + 1) numbers origins inside known next step)

  -- the label had its number before
  pub one_again : (numbers origins : List ℕ) → label_at ring labels 0 < length numbers → get_or numbers (label_at ring labels 0) 0 ≢ nobody → AreNumberedTo mesh v labels numbers origins → AreNumberedTo mesh (v + 1) labels numbers origins
  one_again numbers origins inside known so_far =
      let sides = sides_at mesh v in
      let all : 0 + length sides ≡ length sides = omega arith in
      numbered_done mesh v (0 + length sides) sides labels numbers origins (row_at mesh v) all
      (rest (length sides) 0 numbers origins inside known all (numbered_start mesh v sides labels numbers origins so_far))

  -- the label gets its number
  pub one_new : (numbers origins : List ℕ) → label_at ring labels 0 < length numbers → get_or numbers (label_at ring labels 0) 0 ≡ nobody → AreNumberedTo mesh v labels numbers origins →
      AreNumberedTo mesh (v + 1) labels (set numbers (label_at ring labels 0) (length origins)) (origins ++ v ∷ [])
  one_new numbers origins inside unknown so_far =
      let sides = sides_at mesh v in
      let label = label_at ring labels 0 in
      let table : List ℕ = set numbers label (length origins) in
      let are = numbered_start mesh v sides labels numbers origins so_far in
      let at = each 0 any in
      let step = numbered_new mesh v 0 sides labels numbers origins (row_at mesh v) few any (subst (λ k. k < length numbers) (sym at) inside) are (ap (λ k. get_or numbers k 0) at ∙ unknown) in
      let begun : AreNumberedIn mesh v sides 1 labels table (origins ++ v ∷ []) = subst (λ k. AreNumberedIn mesh v sides 1 labels (set numbers k (length origins)) (origins ++ v ∷ [])) at step in
      let mine : get_or table label 0 ≡ length origins = get_or-set_same numbers label (length origins) 0 inside in
      let place = place_few mesh v 0 are.0 sides are.1 (row_at mesh v) any in
      let within = are.2.few in
      let known : get_or table label 0 ≢ nobody = λ e. let z : length origins ≡ nobody = sym mine ∙ e in absurd (omega (arith, place, few, within, z)) in
      let size : label < length table = let s = length-set numbers label (length origins) in omega (arith, inside, s) in
      let lt = any in
      let all : 1 + (length sides - 1) ≡ length sides = omega (arith, lt) in
      numbered_done mesh v (1 + (length sides - 1)) sides labels table (origins ++ v ∷ []) (row_at mesh v) all
      (rest (length sides - 1) 1 table (origins ++ v ∷ []) size known all begun)
