-- The line of a sheet, token by token.
use Rattle.surf_cert.proofs.Common.{◌≡◌, ℕ, true, false, not, List, [], ◌∷◌, Option, Some, None, refl, sym, ◌∙◌, ap, cert_number, whole}
use Rattle.surf_text.specs.Walks.{has_some}
use Rattle.surf_sheetcert.specs.Lines.{six_numbers, sheet_on}

no_margin : (f g w a b : Option ℕ) → six_numbers f g w a b None ≡ None
no_margin None g w a b = refl
no_margin (Some f) None w a b = refl
no_margin (Some f) (Some g) None a b = refl
no_margin (Some f) (Some g) (Some w) None b = refl
no_margin (Some f) (Some g) (Some w) (Some a) None = refl
no_margin (Some f) (Some g) (Some w) (Some a) (Some b) = refl

module _ (tokens r1 r2 r3 r4 r5 r6 : List (List ℕ)) (t1 t2 t3 t4 t5 t6 : List ℕ) (e1 : tokens ≡ t1 ∷ r1) (e2 : r1 ≡ t2 ∷ r2)
    (e3 : r2 ≡ t3 ∷ r3) (e4 : r3 ≡ t4 ∷ r4) (e5 : r4 ≡ t5 ∷ r5) (e6 : r5 ≡ t6 ∷ r6) where
  all : tokens ≡ t1 ∷ t2 ∷ t3 ∷ t4 ∷ t5 ∷ t6 ∷ r6
  all =
      e1 ∙ ap (λ (ts : List (List ℕ)). t1 ∷ ts) (e2 ∙ ap (λ (ts : List (List ℕ)). t2 ∷ ts) (e3 ∙ ap (λ (ts : List (List ℕ)). t3 ∷ ts)
      (e4 ∙ ap (λ (ts : List (List ℕ)). t4 ∷ ts) (e5 ∙ ap (λ (ts : List (List ℕ)). t5 ∷ ts) e6))))

  -- six values
  pub sheet_given : (f g w a b m : ℕ) → Some f ≡ cert_number t1 → Some g ≡ cert_number t2 → Some w ≡ cert_number t3 →
      Some a ≡ cert_number t4 → Some b ≡ cert_number t5 → Some m ≡ whole t6 → true ≡ not (has_some r6) →
      Some (record { from = f; to = g; walk = w; first = a; last = b; margin = m }) ≡ sheet_on tokens
  sheet_given f g w a b m n1 n2 n3 n4 n5 n6 end =
      sym (ap sheet_on all ∙ at r6 end)
    where
      at : (r : List (List ℕ)) → true ≡ not (has_some r) →
          sheet_on (t1 ∷ t2 ∷ t3 ∷ t4 ∷ t5 ∷ t6 ∷ r) ≡ Some (record { from = f; to = g; walk = w; first = a; last = b; margin = m })
      at [] e = rw (← n1, ← n2, ← n3, ← n4, ← n5, ← n6) refl
      at (t ∷ ts) e = absurd cc

  -- the last is no margin
  pub sheet_bad : None ≡ whole t6 → None ≡ sheet_on tokens
  sheet_bad none = sym (ap sheet_on all ∙ at r6)
    where
      at : (r : List (List ℕ)) → sheet_on (t1 ∷ t2 ∷ t3 ∷ t4 ∷ t5 ∷ t6 ∷ r) ≡ None
      at [] = rw (← none) (no_margin (cert_number t1) (cert_number t2) (cert_number t3) (cert_number t4) (cert_number t5))
      at (t ∷ ts) = refl

  -- more than six values
  pub sheet_long : false ≡ not (has_some r6) → None ≡ sheet_on tokens
  sheet_long more = sym (ap sheet_on all ∙ at r6 more)
    where
      at : (r : List (List ℕ)) → false ≡ not (has_some r) → sheet_on (t1 ∷ t2 ∷ t3 ∷ t4 ∷ t5 ∷ t6 ∷ r) ≡ None
      at [] e = absurd cc
      at (t ∷ ts) e = refl
