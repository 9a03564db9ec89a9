-- Rows of a flat table by their starts.
use Rattle.std.proofs.Common.{◌≡◌, ◌<◌, ◌≤◌, ◌+◌, ◌-◌, ℕ, zero, suc, List, [], ◌∷◌, length, length-take, length-drop, get_or, take, drop, refl, sym, ◌∙◌, ap, arith}
use Rattle.std.specs.List.{zip, All}
use Rattle.std.proofs.lemmas.List.Elements.{All-nil, All-cons}
use Rattle.surf_rows.specs.Rows.{cut}
use Rattle.surf_rows.proofs.Cuts.{length-cut, span_at, get_or-cut}
use Rattle.surf_off.specs.Written.{AreStarts, rows_at, no_colours}

next_start : (first : ℕ) (ends : List ℕ) (f : ℕ) → get_or (first ∷ ends) (f + 1) 0 ≡ get_or ends f 0
next_start first ends f = let k : f + 1 ≡ suc f = omega arith in ap (λ (n : ℕ). get_or (first ∷ ends) n 0) k

pub row_span : (starts : List ℕ) (total f : ℕ) → AreStarts starts total → f + 1 < length starts → (get_or starts f 0 ≤ get_or starts (f + 1) 0) × (get_or starts (f + 1) 0 ≤ total)
row_span [] total f h lt = absurd h
row_span (first ∷ ends) total f h lt =
    let r = span_at 0 ends total f h.1 (omega arith) in
    let low : get_or (first ∷ ends) f 0 ≡ get_or (0 ∷ ends) f 0 = ap (λ (n : ℕ). get_or (n ∷ ends) f 0) h.0 in
    let high : get_or (first ∷ ends) (f + 1) 0 ≡ get_or ends f 0 = next_start first ends f in
    (omega (arith, r.ordered, low, high), omega (arith, r.inside, high))

pub row_is : (starts items : List ℕ) (f : ℕ) → AreStarts starts (length items) → f + 1 < length starts
    → take (get_or starts (f + 1) 0 - get_or starts f 0) (drop (get_or starts f 0) items) ≡ get_or (rows_at starts items) f []
row_is [] items f h lt = absurd h
row_is (first ∷ ends) items f h lt =
    let low : get_or (first ∷ ends) f 0 ≡ get_or (0 ∷ ends) f 0 = ap (λ (n : ℕ). get_or (n ∷ ends) f 0) h.0 in
    let high : get_or (first ∷ ends) (f + 1) 0 ≡ get_or ends f 0 = next_start first ends f in
    let none : get_or (0 ∷ ends) f 0 ≡ get_or (0 ∷ ends) f 0 - 0 = omega arith in
    ap (λ (n : ℕ). take (n - get_or (first ∷ ends) f 0) (drop (get_or (first ∷ ends) f 0) items)) high
    ∙ ap (λ (n : ℕ). take (get_or ends f 0 - n) (drop n items)) low
    ∙ ap (λ (n : ℕ). take (get_or ends f 0 - get_or (0 ∷ ends) f 0) (drop n items)) none
    ∙ sym (get_or-cut 0 ends (length items) items f h.1 (omega arith))

pub rows_length : (starts items : List ℕ) (total : ℕ) → AreStarts starts total → length (rows_at starts items) + 1 ≡ length starts
rows_length [] items total h = absurd h
rows_length (first ∷ ends) items total h = omega (arith, length-cut 0 ends items)

pub get_or-zip : (ks vs : List (List ℕ)) (i : ℕ) → i < length ks → i < length vs → get_or (zip ks vs) i ([], []) ≡ (get_or ks i [], get_or vs i [])
get_or-zip [] vs i low high = absurd (omega arith)
get_or-zip (k ∷ ks) [] i low high = absurd (omega arith)
get_or-zip (k ∷ ks) (v ∷ vs) zero low high = refl
get_or-zip (k ∷ ks) (v ∷ vs) (suc i) low high = get_or-zip ks vs i (omega arith) (omega arith)

-- Inside a list the default doesn't matter.
pub other_default : (xs : List ℕ) (i d e : ℕ) → i < length xs → get_or xs i d ≡ get_or xs i e
other_default [] i d e lt = absurd (omega arith)
other_default (x ∷ xs) zero d e lt = refl
other_default (x ∷ xs) (suc i) d e lt = other_default xs i d e (omega arith)

pub no_colour : (faces : List (List ℕ)) (f : ℕ) → get_or (no_colours faces) f [] ≡ []
no_colour [] f = refl
no_colour (face ∷ faces) zero = refl
no_colour (face ∷ faces) (suc f) = no_colour faces f

-- No row has more than all things.
short_cut : (from : ℕ) (ends items : List ℕ) (most : ℕ) → length items < most → All (λ f. length f < most) (cut from ends items)
short_cut from [] items most lt = All-nil (λ f. length f < most)
short_cut from (e ∷ ends) items most lt = All-cons (λ f. length f < most) (take (e - from) items) (cut e ends (drop (e - from) items)) (omega (arith, length-take {A = ℕ}, lt)) (short_cut e ends (drop (e - from) items) most (omega (arith, length-drop {A = ℕ}, lt)))

pub short_rows : (starts items : List ℕ) (most : ℕ) → length items < most → All (λ f. length f < most) (rows_at starts items)
short_rows [] items most lt = All-nil (λ f. length f < most)
short_rows (first ∷ ends) items most lt = short_cut 0 ends items most lt
