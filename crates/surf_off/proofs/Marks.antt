-- Marks of the vertices that were seen on a face.
use Rattle.std.proofs.Common.{◌≡◌, ◌<◌, ◌≤◌, ◌+◌, ℕ, Bool, true, false, List, [], ◌++◌, length, length-set, get_or, set, take, drop, refl, sym, ◌∙◌, ap, arith, inl, inr}
use Rattle.surf_surfaces.proofs.Common.{◌==◌, ◌||◌, list_any, cases_Bool, cases_eq, eqb-false, ne_eqb}
use Rattle.std.proofs.lemmas.List.{get_or-set_same, get_or-set_other, drop_all, append-nil, take_all}
use Rattle.std.proofs.lemmas.List.Folds.{list_any_more, list_any_at}

-- Marks are at most the stamp, and those of the vertices in a list are the stamp.
pub record Marked (marks : List ℕ) (stamp : ℕ) (seen : List ℕ) : Type 0 where
  pub most : (k : ℕ) → k < length marks → get_or marks k 0 ≤ stamp
  pub same : (k : ℕ) → k < length marks → (get_or marks k 0 == stamp) ≡ list_any (λ s. s == k) seen

same_stamp : (n : ℕ) → (n == n) ≡ true
same_stamp n = elim (cases_Bool (n == n)) [ inl good ↦ good | inr bad ↦ absurd (eqb-false n n bad refl) ]

or_true : (b : Bool) → (b || true) ≡ true
or_true true = refl
or_true false = refl

or_false : (b : Bool) → (b || false) ≡ b
or_false true = refl
or_false false = refl

-- No vertex was seen where all marks are below the stamp.
pub marked_start : (marks : List ℕ) (stamp : ℕ) → ((k : ℕ) → k < length marks → get_or marks k 0 < stamp) → Marked marks stamp []
marked_start marks stamp below = record {
  most = λ k lt. omega (arith, below k lt);
  same = λ k lt. ne_eqb _ _ (λ e. absurd (omega (arith, below k lt, e)));
}

module _ (marks : List ℕ) (stamp : ℕ) (us : List ℕ) (i u : ℕ) (inside : u < length marks) (lt : i < length us) (is : u ≡ get_or us i u) (so_far : Marked marks stamp (take i us)) where
  more : (k : ℕ) → list_any (λ s. s == k) (take (i + 1) us) ≡ (list_any (λ s. s == k) (take i us) || u == k)
  more k = list_any_more (λ s. s == k) us i u lt ∙ ap (λ (x : ℕ). list_any (λ s. s == k) (take i us) || x == k) (sym is)

  pub marked_more : Marked (set marks u stamp) stamp (take (i + 1) us)
  marked_more = record {
    most = λ k within. elim (cases_eq k u) [
      | inl e ↦ let at : get_or (set marks u stamp) k 0 ≡ stamp = ap (λ (j : ℕ). get_or (set marks u stamp) j 0) e ∙ get_or-set_same marks u stamp 0 inside in omega (arith, at)
      | inr ne ↦ let at = get_or-set_other marks u k stamp 0 ne in let old = so_far.most k (omega (arith, length-set {A = ℕ}, within)) in omega (arith, at, old)
    ];
    same = λ k within. elim (cases_eq k u) [
      | inl e ↦
          let at : get_or (set marks u stamp) k 0 ≡ stamp = ap (λ (j : ℕ). get_or (set marks u stamp) j 0) e ∙ get_or-set_same marks u stamp 0 inside in
          let here : (u == k) ≡ true = ap (λ (j : ℕ). u == j) e ∙ same_stamp u in
          ap (λ (m : ℕ). m == stamp) at ∙ same_stamp stamp ∙ sym (more k ∙ ap (λ (b : Bool). list_any (λ s. s == k) (take i us) || b) here ∙ or_true _)
      | inr ne ↦
          let at : get_or (set marks u stamp) k 0 ≡ get_or marks k 0 = get_or-set_other marks u k stamp 0 ne in
          let elsewhere : (u == k) ≡ false = ne_eqb u k (λ e. ne (sym e)) in
          ap (λ (m : ℕ). m == stamp) at ∙ so_far.same k (omega (arith, length-set {A = ℕ}, within)) ∙ sym (more k ∙ ap (λ (b : Bool). list_any (λ s. s == k) (take i us) || b) elsewhere ∙ or_false _)
    ];
  }

-- What isn't marked stands nowhere before.
pub not_before : (seen : List ℕ) (u : ℕ) → list_any (λ s. s == u) seen ≡ false → (k d : ℕ) → 0 ≤ k → k < length seen → get_or seen k d == u ≡ false
not_before seen u none k d low within = elim (cases_Bool (get_or seen k d == u)) [
  | inl good ↦ absurd (both (list_any_at (λ s. s == u) seen k d within good))
  | inr bad ↦ bad
]
  where
    both : list_any (λ s. s == u) seen ≡ true → ⊥
    both stands = let e : true ≡ false = sym stands ∙ none in cc

-- what a table is whose slice was changed in whole
pub written_back : (n : ℕ) (xs ys : List ℕ) → length xs ≡ length ys → length ys ≡ n → take n (xs ++ drop (length xs) ys) ≡ xs
written_back n xs ys same len =
    let none : drop (length xs) ys ≡ [] = drop_all (length xs) ys (omega arith) in
    let le : length xs ≤ n = omega arith in
    ap (λ (zs : List ℕ). take n (xs ++ zs)) none ∙ ap (take n) (append-nil xs) ∙ take_all n xs le
