-- Two lists in order, merged, and those of them that pass a test.
use Rattle.surf_basis.proofs.Common.{◌≡◌, Bool, true, false, List, [], ◌∷◌, filter, refl, sym, ap, ◌∙◌, inl, inr, AllByRecursion, cases_Bool, all_filtered}
use Rattle.surf_z2.specs.Order.{merge_from, merge}
use Rattle.surf_z2.proofs.Merge.{Sorted, merge_head}

module _ {C : Type 0} (comes_before : C → C → Bool) (transitive : (a b c : C) → comes_before a b ≡ true →
    comes_before b c ≡ true → comes_before a c ≡ true) (p : C → Bool) where
  -- the first of one list comes before all of the other
  takes_first : (c : C) (cs ds : List C) → AllByRecursion (λ d. comes_before c d ≡ true) ds →
      merge comes_before (c ∷ cs) ds ≡ c ∷ merge comes_before cs ds
  takes_first c cs [] h = refl
  takes_first c cs (d ∷ ds) h = rw h.0 refl

  all_after : (c d : C) (ds : List C) → comes_before c d ≡ true → AllByRecursion (λ e. comes_before d e ≡ true) ds →
      AllByRecursion (λ e. comes_before c e ≡ true) ds
  all_after c d [] b h = tt
  all_after c d (e ∷ es) b h = (transitive c d e b h.0, all_after c d es b h.1)

  passing_from : (c : C) (cs : List C) → Sorted comes_before (c ∷ cs) →
      ((ds : List C) → Sorted comes_before ds →
      filter p (merge comes_before cs ds) ≡ merge comes_before (filter p cs) (filter p ds)) → (ds : List C) →
      Sorted comes_before ds → filter p (merge_from comes_before c (merge comes_before cs) ds)
      ≡ merge comes_before (filter p (c ∷ cs)) (filter p ds)
  passing_from c cs s same [] t = elim (cases_Bool (p c)) [
    | inl is ↦ rw is (ap (λ es. c ∷ es) (same [] tt))
    | inr out ↦ rw out (same [] tt)
  ]
  passing_from c cs s same (d ∷ ds) t = elim (cases_Bool (comes_before c d)) [
    | inl first ↦
        let later = all_filtered p (λ e. comes_before c e ≡ true) (d ∷ ds) (first, all_after c d ds first t.0) in
        elim (cases_Bool (p c)) [
          | inl is ↦ rw (first, is)
              (ap (λ es. c ∷ es) (same (d ∷ ds) t) ∙ sym (takes_first c (filter p cs) (filter p (d ∷ ds)) later))
          | inr out ↦ rw (first, out) (same (d ∷ ds) t)
        ]
    | inr second ↦
        let rest = passing_from c cs s same ds t.1 in
        let after = all_filtered p (λ e. comes_before c e ≡ true) cs s.0 in
        elim (cases_Bool (p d)) [
          | inl is ↦ rw (second, is) (ap (λ es. d ∷ es) rest ∙ sym (gives_first c cs d ds second after))
          | inr out ↦ rw (second, out) rest
        ]
  ]
    where
      gives_first : (c : C) (cs : List C) (d : C) (ds : List C) → comes_before c d ≡ false →
          AllByRecursion (λ e. comes_before c e ≡ true) (filter p cs) →
          merge comes_before (filter p (c ∷ cs)) (d ∷ filter p ds) ≡ d ∷ merge comes_before (filter p (c ∷ cs)) (filter p ds)
      gives_first c cs d ds second after = elim (cases_Bool (p c)) [
        | inl is ↦ rw (is, second) refl
        | inr out ↦ rw out (merge_head comes_before transitive c d (filter p cs) (filter p ds) after second)
      ]

  -- those of the merged ones are those of each, merged
  pub filter_merged : (cs ds : List C) → Sorted comes_before cs → Sorted comes_before ds →
      filter p (merge comes_before cs ds) ≡ merge comes_before (filter p cs) (filter p ds)
  filter_merged [] ds s t = refl
  filter_merged (c ∷ cs) ds s t = passing_from c cs s (λ es u. filter_merged cs es s.1 u) ds t
