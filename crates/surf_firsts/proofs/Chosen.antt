-- A list that is the greedy choice from another.
use Rattle.surf_surfaces.proofs.Common.{◌≡◌, zero, suc, Bool, true, false, not, List, [], ◌∷◌, ◌++◌, map, filter, Contains, Decides, refl, sym, ap, ◌∙◌, subst, arith, inl, inr, AllByRecursion, cases_Bool, false≢true, All-from_recursion, All-contains, Sorted, Space, spans, greedy_after, in_left, in_right, filter_none, InSpan, Free, zero_in, head_in, add_in, cancel}
use Rattle.std.proofs.lemmas.List.{append_assoc, append-nil}
use Rattle.surf_z2.proofs.Greedy.{spans_from_in, not_spans}

module _ {V : Type 0} (S : Space V) where
  -- of independent vectors none is a sum of those before it
  pub free_before : (xs : List V) (y : V) (ys : List V) → Free S (xs ++ y ∷ ys) → InSpan S xs y → ⊥
  free_before [] y ys f h = f.0 (subst (InSpan S ys) (sym h) (zero_in S ys))
  free_before (x ∷ xs) y ys f (inl h) = free_before xs y ys f.1 h
  free_before (x ∷ xs) y ys f (inr h) =
      f.0 (subst (InSpan S (xs ++ y ∷ ys)) (ap (S.add y) (S.comm x y) ∙ cancel S y x)
      (add_in S (xs ++ y ∷ ys) y (S.add x y) (in_right S xs (y ∷ ys) y (head_in S y ys))
      (in_left S xs (y ∷ ys) (S.add x y) h)))

later : {X : Type 0} (x : X) (xs : List X) (y : X) → Contains xs y → Contains (x ∷ xs) y
later x xs y (k, l, e) = (suc k, omega arith, e)

module _ {V : Type 0} (S : Space V) (is_zero : V → Bool) (right : (v : V) → Decides (is_zero v) (v ≡ S.zero))
    {C : Type 0} (vector : C → V) (comes_before : C → C → Bool)
    (transitive : (a b c : C) → comes_before a b ≡ true → comes_before b c ≡ true → comes_before a c ≡ true)
    (strict : (c : C) → comes_before c c ≡ false) where
  -- no member comes before one that stands before it
  abbrev pub Rises : List C → Type 0
  Rises [] = Unit {0}
  Rises (x ∷ xs) = ((y : C) → Contains xs y → comes_before y x ≡ false) × Rises xs

  abbrev pub no_later : C → C → Bool
  no_later x b = not (comes_before x b)

  -- after some vectors: the list bs is of independent members of xs, and each member of xs is a sum of those of bs that
  -- come no later
  pub record IsChoice (before : List V) (bs xs : List C) : Type 0 where
    pub rises : Rises xs
    pub sorted : Sorted comes_before bs
    pub among : (b : C) → Contains bs b → Contains xs b
    pub same : (x b : C) → Contains xs x → Contains bs b → comes_before x b ≡ false → comes_before b x ≡ false → x ≡ b
    pub free : Free S (before ++ map vector bs)
    pub spanned : (x : C) → Contains xs x → InSpan S (before ++ map vector (filter (no_later x) bs)) (vector x)

  -- what a member comes before isn't the member
  in_tail : (x : C) (xs : List C) (c : C) → comes_before x c ≡ true → Contains (x ∷ xs) c → Contains xs c
  in_tail x xs c before (zero, l, e) = absurd (false≢true (sym (strict x) ∙ ap (comes_before x) e ∙ before))
  in_tail x xs c before (suc k, l, e) = (k, omega arith, e)

  -- the head of a list in order comes before all others
  after_head : (b : C) (bs : List C) (c : C) → Sorted comes_before (b ∷ bs) → Contains bs c → comes_before b c ≡ true
  after_head b bs c s has =
      All-contains (λ d. comes_before b d ≡ true) bs c (All-from_recursion (λ d. comes_before b d ≡ true) bs s.0) has

  not_before : (x : C) (xs : List C) (b : C) → Rises (x ∷ xs) → Contains (x ∷ xs) b → comes_before b x ≡ false
  not_before x xs b r (zero, l, e) = subst (λ c. comes_before c x ≡ false) e (strict x)
  not_before x xs b r (suc k, l, e) = r.0 b (k, omega arith, e)

  -- the choice after a member that isn't kept
  pass : (before : List V) (bs : List C) (x : C) (xs : List C) → IsChoice before bs (x ∷ xs) →
      ((b : C) → Contains bs b → comes_before x b ≡ true) → IsChoice before bs xs
  pass before bs x xs h off = record {
    rises = h.rises.1;
    sorted = h.sorted;
    among = λ b has. in_tail x xs b (off b has) (h.among b has);
    same = λ y b y_in b_in. h.same y b (later x xs y y_in) b_in;
    free = h.free;
    spanned = λ y y_in. h.spanned y (later x xs y y_in);
  }

  -- and after one that is
  keep : (before : List V) (x : C) (bs xs : List C) → IsChoice before (x ∷ bs) (x ∷ xs) →
      IsChoice (before ++ vector x ∷ []) bs xs
  keep before x bs xs h = record {
    rises = h.rises.1;
    sorted = h.sorted.1;
    among = λ b has. in_tail x xs b (after_head x bs b h.sorted has) (h.among b (later x bs b has));
    same = λ y b y_in b_in. h.same y b (later x xs y y_in) (later x bs b b_in);
    free = subst (Free S) (sym (append_assoc before (vector x ∷ []) (map vector bs))) h.free;
    spanned = λ y y_in.
        (let on : no_later y x ≡ true = ap not (h.rises.0 y y_in) in
        let all : filter (no_later y) (x ∷ bs) ≡ x ∷ filter (no_later y) bs = rw on refl in
        subst (λ vs. InSpan S vs (vector y))
        (ap (λ cs. before ++ map vector cs) all
        ∙ sym (append_assoc before (vector x ∷ []) (map vector (filter (no_later y) bs))))
        (h.spanned y (later x xs y y_in)));
  }

  -- a member that comes before all of the list is a sum of what was before
  old : (before : List V) (bs : List C) (x : C) (xs : List C) → IsChoice before bs (x ∷ xs) →
      ((b : C) → Contains bs b → comes_before x b ≡ true) → spans S is_zero before (vector x) ≡ true
  old before bs x xs h off =
      let none : filter (no_later x) bs ≡ [] = filter_none (no_later x) bs (each bs off) in
      spans_from_in S is_zero right before (vector x)
      (subst (λ vs. InSpan S vs (vector x)) (ap (λ cs. before ++ map vector cs) none ∙ append-nil before)
      (h.spanned x (0, omega arith, refl)))
    where
      each : (cs : List C) → ((b : C) → Contains cs b → comes_before x b ≡ true) →
          AllByRecursion (λ b. no_later x b ≡ false) cs
      each [] g = tt
      each (c ∷ cs) g = (ap not (g c (0, omega arith, refl)), each cs (λ b has. g b (later c cs b has)))

  pub chosen_from : (before : List V) (bs xs : List C) → IsChoice before bs xs →
      greedy_after S is_zero vector before xs ≡ bs
  chosen_from before [] [] h = refl
  chosen_from before (b ∷ bs) [] h = absurd (omega (arith, (h.among b (0, omega arith, refl)).1))
  chosen_from before [] (x ∷ xs) h =
      let off : (b : C) → Contains [] b → comes_before x b ≡ true = λ b has. absurd (omega (arith, has.1)) in
      rw (old before [] x xs h off) (chosen_from before [] xs (pass before [] x xs h off))
  chosen_from before (b ∷ bs) (x ∷ xs) h = elim (cases_Bool (comes_before x b)) [
    | inl first ↦
        let off : (c : C) → Contains (b ∷ bs) c → comes_before x c ≡ true = λ c has. all_off first c has in
        rw (old before (b ∷ bs) x xs h off) (chosen_from before (b ∷ bs) xs (pass before (b ∷ bs) x xs h off))
    | inr not_first ↦
        let is : x ≡ b = h.same x b (0, omega arith, refl) (0, omega arith, refl) not_first
        (not_before x xs b h.rises (h.among b (0, omega arith, refl))) in
        let own : IsChoice before (x ∷ bs) (x ∷ xs) = subst (λ c. IsChoice before (c ∷ bs) (x ∷ xs)) (sym is) h in
        let new : spans S is_zero before (vector x) ≡ false =
        not_spans S is_zero right before (vector x) (free_before S before (vector x) (map vector bs) own.free) in
        rw new (ap (λ cs. x ∷ cs) (chosen_from (before ++ vector x ∷ []) bs xs (keep before x bs xs own)) ∙ ap (λ c. c ∷ bs) is)
  ]
    where
      all_off : comes_before x b ≡ true → (c : C) → Contains (b ∷ bs) c → comes_before x c ≡ true
      all_off first c (zero, l, e) = subst (λ d. comes_before x d ≡ true) e first
      all_off first c (suc k, l, e) = transitive x b c first (after_head b bs c h.sorted (k, omega arith, e))
