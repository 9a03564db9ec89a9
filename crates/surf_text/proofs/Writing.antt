-- Texts that are put on a page one after the other.
use Rattle.std.proofs.Common.{◌≡◌, ◌<◌, ◌≤◌, ◌+◌, ℕ, zero, suc, List, [], ◌∷◌, ◌++◌, length, get_or, take, drop, Result, Ok, Err, refl, sym, ◌∙◌, ap, subst, append_assoc, length-append, arith}
use Rattle.std.proofs.lemmas.List.{append-nil, take_more, take_all, drop_more, take-append-drop}
use Rattle.surf_text.specs.declared.page.PageFault.{PageFault}
use Rattle.surf_text.specs.declared.page.PageFault.TheVariants.{Full, Memory}
use Rattle.surf_text.specs.Pages.{PageState, grown, HasFront, Stops, Puts}

-- a first list whole, and then a front of the second
pub take_past : (xs ys : List ℕ) (n : ℕ) → take (length xs + n) (xs ++ ys) ≡ xs ++ take n ys
take_past [] ys n = let k : 0 + n ≡ n = omega arith in ap (λ (i : ℕ). take i ys) k
take_past (x ∷ xs) ys n = let k : length (x ∷ xs) + n ≡ suc (length xs + n) = omega arith in ap (λ (i : ℕ). take i (x ∷ (xs ++ ys))) k ∙ ap (λ (zs : List ℕ). x ∷ zs) (take_past xs ys n)

grown_twice : (page : PageState) (s t : List ℕ) → grown (grown page s) t ≡ grown page (s ++ t)
grown_twice page s t = ap (λ (bytes : List ℕ). record page { bytes = bytes }) (append_assoc page.bytes s t)

front_more : (a c : PageState) (s t : List ℕ) → HasFront (grown a s) c t → HasFront a c (s ++ t)
front_more a c s t front = (length s + front.0, front.1 ∙ grown_twice a s (take front.0 t) ∙ ap (grown a) (sym (take_past s t front.0)))

stops_more : (a : PageState) (s t : List ℕ) (fault : PageFault) → Stops (grown a s) t fault → Stops a (s ++ t) fault
stops_more a s t Full stops = omega (arith, length-append a.bytes s, length-append s t, stops)
stops_more a s t Memory stops = tt

puts_behind : {A : Type 0} (a c : PageState) (s t : List ℕ) (r : Result A PageFault) → Puts (grown a s) c t r → Puts a c (s ++ t) r
puts_behind a c s t (Ok x) puts = (puts.0 ∙ grown_twice a s t, omega (arith, length-append a.bytes s, length-append s t, puts.1))
puts_behind a c s t (Err fault) puts = (front_more a c s t puts.0, stops_more a s t fault puts.1)

-- A text that is on the page whole, and then what putting the next one did, is what putting both did.
pub puts_more : {A B : Type 0} (a b c : PageState) (s t : List ℕ) (first : Result A PageFault) (x : A) (second : Result B PageFault) → first ≡ Ok x → Puts a b s first → Puts b c t second → Puts a c (s ++ t) second
puts_more {A} {B} a b c s t first x second ok one two =
    let is : b ≡ grown a s = (subst (λ (r : Result A PageFault). Puts a b s r) ok one).0 in
    puts_behind a c s t second (subst (λ (page : PageState). Puts page c t second) is two)

front_longer : (a b : PageState) (s t : List ℕ) → HasFront a b s → HasFront a b (s ++ t)
front_longer a b s t front = at front.0 s front.1
  where
    at : (n : ℕ) (s : List ℕ) → b ≡ grown a (take n s) → HasFront a b (s ++ t)
    at n s is = (length (take n s), is ∙ ap (grown a) (sym (whole n s)))
      where
        whole : (n : ℕ) (s : List ℕ) → take (length (take n s)) (s ++ t) ≡ take n s
        whole zero s = refl
        whole (suc n) [] = refl
        whole (suc n) (x ∷ xs) = ap (λ (ys : List ℕ). x ∷ ys) (whole n xs)

stops_longer : (a : PageState) (s t : List ℕ) (fault : PageFault) → Stops a s fault → Stops a (s ++ t) fault
stops_longer a s t Full stops = omega (arith, length-append s t, stops)
stops_longer a s t Memory stops = tt

-- A text that was not put whole stops one that goes on.
pub puts_stop : {A B : Type 0} (a b : PageState) (s t : List ℕ) (first : Result A PageFault) (fault : PageFault) (second : Result B PageFault) → first ≡ Err fault → second ≡ Err fault → Puts a b s first → Puts a b (s ++ t) second
puts_stop {A} {B} a b s t first fault second failed fails one =
    let h : Puts {A = A} a b s (Err fault) = subst (λ (r : Result A PageFault). Puts a b s r) failed one in
    subst (λ (r : Result B PageFault). Puts a b (s ++ t) r) (sym fails) (front_longer a b s t h.0, stops_longer a s t fault h.1)

-- Nothing is put.
pub puts_none : {A : Type 0} (a : PageState) (x : A) → length a.bytes ≤ a.most → Puts {A = A} a a [] (Ok x)
puts_none a x fits = (ap (λ (bytes : List ℕ). record a { bytes = bytes }) (sym (append-nil a.bytes)), omega arith)

-- Texts that are put in a loop: those before, this one, and those to come.
module _ {X : Type 0} (text : List X → List ℕ) (piece : X → List ℕ) (empty : text [] ≡ []) (cons : (x : X) (xs : List X) → text (x ∷ xs) ≡ piece x ++ text xs) where
  pub text_append : (xs ys : List X) → text (xs ++ ys) ≡ text xs ++ text ys
  text_append [] ys = ap (λ (t : List ℕ). t ++ text ys) (sym empty)
  text_append (x ∷ xs) ys =
      cons x (xs ++ ys) ∙ ap (λ (t : List ℕ). piece x ++ t) (text_append xs ys) ∙ sym (append_assoc (piece x) (text xs) (text ys)) ∙ ap (λ (t : List ℕ). t ++ text ys) (sym (cons x xs))

  text_one : (x : X) → text (x ∷ []) ≡ piece x
  text_one x = cons x [] ∙ ap (λ (t : List ℕ). piece x ++ t) empty ∙ append-nil (piece x)

  text_more : (xs : List X) (i : ℕ) (d : X) → i < length xs → text (take (i + 1) xs) ≡ text (take i xs) ++ piece (get_or xs i d)
  text_more xs i d lt = ap text (take_more xs i d lt) ∙ text_append (take i xs) (get_or xs i d ∷ []) ∙ ap (λ (t : List ℕ). text (take i xs) ++ t) (text_one (get_or xs i d))

  module _ {A : Type 0} (xs : List X) (i : ℕ) (d : X) (lt : i < length xs) (a b c : PageState) (u : A) (so_far : Puts {A = A} a b (text (take i xs)) (Ok u)) where
    pub loop_more : {B : Type 0} (r : Result B PageFault) (y : B) → r ≡ Ok y → Puts b c (piece (get_or xs i d)) r → Puts {A = A} a c (text (take (i + 1) xs)) (Ok u)
    loop_more {B} r y good one =
        let h : Puts {A = B} b c (piece (get_or xs i d)) (Ok y) = subst (λ (s : Result B PageFault). Puts b c (piece (get_or xs i d)) s) good one in
        let all : Puts {A = B} a c (text (take i xs) ++ piece (get_or xs i d)) (Ok y) = puts_more a b c (text (take i xs)) (piece (get_or xs i d)) (Ok u) u (Ok y) refl so_far h in
        subst (λ (t : List ℕ). Puts {A = A} a c t (Ok u)) (sym (text_more xs i d lt)) (all.0, all.1)

    pub loop_stop : {B C : Type 0} (r : Result B PageFault) (fault : PageFault) (s : Result C PageFault) → r ≡ Err fault → s ≡ Err fault → Puts b c (piece (get_or xs i d)) r → Puts a c (text xs) s
    loop_stop {B} {C} r fault s failed fails one =
        let h : Puts {A = C} b c (piece (get_or xs i d) ++ text (drop (i + 1) xs)) s = puts_stop b c (piece (get_or xs i d)) (text (drop (i + 1) xs)) r fault s failed fails one in
        let all : Puts {A = C} a c (text (take i xs) ++ (piece (get_or xs i d) ++ text (drop (i + 1) xs))) s = puts_more a b c (text (take i xs)) (piece (get_or xs i d) ++ text (drop (i + 1) xs)) (Ok u) u s refl so_far h in
        let whole : text xs ≡ text (take i xs) ++ (piece (get_or xs i d) ++ text (drop (i + 1) xs)) =
        ap text (sym (take-append-drop i xs)) ∙ text_append (take i xs) (drop i xs) ∙ ap (λ (ys : List X). text (take i xs) ++ text ys) (drop_more xs i d lt) ∙ ap (λ (t : List ℕ). text (take i xs) ++ t) (cons (get_or xs i d) (drop (i + 1) xs)) in
        subst (λ (t : List ℕ). Puts a c t s) (sym whole) all

  pub loop_done : {A : Type 0} (xs : List X) (i : ℕ) (a b : PageState) (u : A) → length xs ≤ i → Puts {A = A} a b (text (take i xs)) (Ok u) → Puts {A = A} a b (text xs) (Ok u)
  loop_done {A} xs i a b u le so_far = subst (λ (ys : List X). Puts {A = A} a b (text ys) (Ok u)) (take_all i xs le) so_far
