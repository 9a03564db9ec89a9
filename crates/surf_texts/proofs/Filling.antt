-- Texts of many parts, put on a page one after another.
use Rattle.std.proofs.Common.{◌≡◌, ℕ, zero, suc, ◌+◌, ◌<◌, ◌≤◌, List, [], ◌∷◌, ◌++◌, length, take, drop, get_or, refl, sym, ap, ◌∙◌, arith, length-append, append_assoc, append-nil, subst, Result, Ok, Err}
use Rattle.surf_surfaces.proofs.Common.{flat_map, range_with_len, length-range_with_len, get_or-range_with_len, flat_map-append, take_more, drop_more, take-append-drop}
use Rattle.surf_text.specs.Pages.{PageState, grown, Puts, Stops}
use Rattle.surf_text.specs.declared.page.PageFault.{PageFault}
use Rattle.surf_text.specs.declared.page.PageFault.TheVariants.{Full, Memory}
use Rattle.surf_text.proofs.Writing.{take_past, puts_stop}
use Rattle.surf_texts.specs.Fills.{Fills}

overfull : (old : PageState) (a b : List ℕ) (e : PageFault) → Stops (grown old a) b e → Stops old (a ++ b) e
overfull old a b Full full = omega (arith, full, length-append old.bytes a, length-append a b)
overfull old a b Memory full = tt

grown_twice : (old : PageState) (a b : List ℕ) → grown (grown old a) b ≡ grown old (a ++ b)
grown_twice old a b = ap (λ xs. record old { bytes = xs }) (append_assoc old.bytes a b)

-- A text behind one that is on the page whole stops where that of both does.
stopped_behind : (old mid new : PageState) (a b : List ℕ) (e : PageFault) → mid ≡ grown old a → Fills {A = Unit {0}} mid new b (Err e) → Fills {A = Unit {0}} old new (a ++ b) (Err e)
stopped_behind old mid new a b e is stops =
    let behind : Fills {A = Unit {0}} (grown old a) new b (Err e) = subst (λ (p : PageState). Fills {A = Unit {0}} p new b (Err e)) is stops in
    let n : ℕ = behind.0.0 in
    ((length a + n, behind.0.1 ∙ grown_twice old a (take n b) ∙ ap (grown old) (sym (take_past a b n))), overfull old a b e behind.1)

-- A text that stops stops one that goes on.
pub stopped_first : (old new : PageState) (a b : List ℕ) (e : PageFault) → Fills {A = Unit {0}} old new a (Err e) → Fills {A = Unit {0}} old new (a ++ b) (Err e)
stopped_first old new a b e stops = puts_stop {A = Unit {0}} {B = Unit {0}} old new a b (Err e) e (Err e) refl refl stops

-- where there is no memory for a text, nothing of it is put
pub none_put : (page : PageState) (text : List ℕ) → Fills {A = Unit {0}} page page text (Err Memory)
none_put page text = ((0, ap (λ xs. record page { bytes = xs }) (sym (append-nil page.bytes))), tt)

-- where a part of many stops, the whole does
pub stopped : {X : Type 0} (old mid new : PageState) (f : X → List ℕ) (xs : List X) (i : ℕ) (d : X) (e : PageFault) → i < length xs →
    mid ≡ grown old (flat_map f (take i xs)) → Fills {A = Unit {0}} mid new (f (get_or xs i d)) (Err e) → Fills {A = Unit {0}} old new (flat_map f xs) (Err e)
stopped {X} old mid new f xs i d e l is stops =
    let rest = flat_map f (drop (i + 1) xs) in
    let parts : flat_map f xs ≡ flat_map f (take i xs) ++ (f (get_or xs i d) ++ rest) =
    ap (flat_map f) (sym (take-append-drop i xs)) ∙ flat_map-append f (take i xs) (drop i xs)
    ∙ ap (λ (ys : List X). flat_map f (take i xs) ++ flat_map f ys) (drop_more xs i d l) in
    subst (λ (text : List ℕ). Fills {A = Unit {0}} old new text (Err e)) (sym parts)
    (stopped_behind old mid new (flat_map f (take i xs)) (f (get_or xs i d) ++ rest) e is (stopped_first mid new (f (get_or xs i d)) rest e stops))

-- ---- a part for each number below a bound

zero-plus : (n : ℕ) → 0 + n ≡ n
zero-plus n = omega arith

taken : (a n i : ℕ) → i ≤ n → take i (range_with_len a n) ≡ range_with_len a i
taken a n zero l = refl
taken a zero (suc i) l = absurd (omega (arith, l))
taken a (suc n) (suc i) l = ap (λ xs. a ∷ xs) (taken (a + 1) n i (omega (arith, l)))

one_more : (n : ℕ) → range_with_len 0 (n + 1) ≡ range_with_len 0 n ++ n ∷ []
one_more n =
    let long : length (range_with_len 0 (n + 1)) ≡ n + 1 = length-range_with_len 0 (n + 1) in
    let here : get_or (range_with_len 0 (n + 1)) n 0 ≡ n = get_or-range_with_len 0 (n + 1) n 0 (omega arith) ∙ zero-plus n in
    sym (taken 0 (n + 1) (n + 1) (omega arith)) ∙ take_more (range_with_len 0 (n + 1)) n 0 (omega (arith, long))
    ∙ ap (λ xs. xs ++ get_or (range_with_len 0 (n + 1)) n 0 ∷ []) (taken 0 (n + 1) n (omega arith))
    ∙ ap (λ k. range_with_len 0 n ++ k ∷ []) here

-- one part more is on the page
pub filled_more : (old mid new : PageState) (f : ℕ → List ℕ) (n : ℕ) → mid ≡ grown old (flat_map f (range_with_len 0 n)) →
    new ≡ grown mid (f n) → new ≡ grown old (flat_map f (range_with_len 0 (n + 1)))
filled_more old mid new f n is more =
    let sum : flat_map f (range_with_len 0 n ++ n ∷ []) ≡ flat_map f (range_with_len 0 n) ++ flat_map f (n ∷ []) =
    flat_map-append f (range_with_len 0 n) (n ∷ []) in
    let last : flat_map f (n ∷ []) ≡ f n = append-nil (f n) in
    more ∙ ap (λ (p : PageState). grown p (f n)) is ∙ grown_twice old (flat_map f (range_with_len 0 n)) (f n)
    ∙ ap (λ xs. grown old xs) (sym (rw (one_more n, sum, last) refl))

-- where the part for a number stops, the whole does
pub stopped_below : (old mid new : PageState) (f : ℕ → List ℕ) (n i : ℕ) (e : PageFault) → i < n →
    mid ≡ grown old (flat_map f (range_with_len 0 i)) → Fills {A = Unit {0}} mid new (f i) (Err e) → Fills {A = Unit {0}} old new (flat_map f (range_with_len 0 n)) (Err e)
stopped_below old mid new f n i e l is stops =
    let here : get_or (range_with_len 0 n) i 0 ≡ i = get_or-range_with_len 0 n i 0 l ∙ zero-plus i in
    stopped old mid new f (range_with_len 0 n) i 0 e (rw (length-range_with_len 0 n) l)
    (rw (taken 0 n i (omega (arith, l))) is) (rw here stops)

-- ---- two texts

-- the first is on the page, and the second comes behind it
pub fills_both : {T : Type 0} (old mid new : PageState) (a b : List ℕ) (r : Result T PageFault) → mid ≡ grown old a → Fills mid new b r → Fills old new (a ++ b) r
fills_both old mid new a b (Ok x) is more =
    more ∙ ap (λ (p : PageState). grown p b) is ∙ grown_twice old a b
fills_both old mid new a b (Err e) is stops = stopped_behind old mid new a b e is stops

pub fills_from_puts : {T : Type 0} (old new : PageState) (text : List ℕ) (r : Result T PageFault) → Puts old new text r → Fills old new text r
fills_from_puts old new text (Ok x) puts = puts.0
fills_from_puts old new text (Err e) puts = puts
