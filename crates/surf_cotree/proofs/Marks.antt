-- Marks on the edges that lead up in a tree, while it grows.
use Rattle.surf_cotree.proofs.Common.{ℕ, suc, ◌<◌, ◌≡◌, ◌≢◌, refl, sym, ap, ◌∙◌, inl, inr, List, length, set, Bool, true, false, not, ◌&&◌, ◌||◌, eqb, eq-eqb, ne_eqb, eqb-true, get_or-set_same, get_or-set_other, cases_eq, cases_Bool, and_parts, false≢true, any_below-found, any_below-from, any_below-same, nobody, at, flag, outside, Leaf, leaf_at, left_after, leads_up, AreMarked}

up_is : (up : List ℕ) (f e : ℕ) → (not (eqb (at up f) nobody) && eqb (at up f) e) ≡ true → (at up f ≢ nobody) × (at up f ≡ e)
up_is up f e h =
    let both = and_parts (not (eqb (at up f) nobody)) (eqb (at up f) e) h in
    (λ same. false≢true (sym (rw (eq-eqb (at up f) nobody same)) ∙ both.0), eqb-true (at up f) e both.1)

up_from : (up : List ℕ) (f e : ℕ) → at up f ≢ nobody → at up f ≡ e → (not (eqb (at up f) nobody) && eqb (at up f) e) ≡ true
up_from up f e some is = rw (ne_eqb (at up f) nobody some, eq-eqb (at up f) e is)

-- a node from which an edge leads up
pub up_found : (n : ℕ) (up : List ℕ) (e : ℕ) → leads_up n up e ≡ true → (f : ℕ) × (f < n) × (at up f ≢ nobody) × (at up f ≡ e)
up_found n up e on =
    let (f, l, is) = any_below-found n (λ f. not (eqb (at up f) nobody) && eqb (at up f) e) on in
    let both = up_is up f e is in
    (f, l, both.0, both.1)

up_none : (n : ℕ) (up : List ℕ) (e : ℕ) → ((f : ℕ) → f < n → at up f ≡ nobody) → leads_up n up e ≡ false
up_none n up e all = elim (cases_Bool (leads_up n up e)) [
  | inl on ↦ let (f, l, some, is) = up_found n up e on in absurd (some (all f l))
  | inr off ↦ off
]

or_true : (b : Bool) → (b || true) ≡ true
or_true true = refl
or_true false = refl

or_false : (b : Bool) → (b || false) ≡ b
or_false true = refl
or_false false = refl

-- one node more has an edge that leads up
module _ (n : ℕ) (up : List ℕ) (f x : ℕ) (lf : f < n) (lu : f < length up) (free : at up f ≡ nobody) (some : x ≢ nobody) where
  leads_set : (e : ℕ) → leads_up n (set up f x) e ≡ (leads_up n up e || eqb e x)
  leads_set e = elim (cases_eq e x) [
    | inl same ↦
        let here : at (set up f x) f ≡ x = get_or-set_same up f x 0 lu in
        any_below-from n (λ v. not (eqb (at (set up f x) v) nobody) && eqb (at (set up f x) v) e) f lf (up_from (set up f x) f e (λ is. some (sym here ∙ is)) (here ∙ sym same))
        ∙ sym (ap (λ b. leads_up n up e || b) (eq-eqb e x same) ∙ or_true (leads_up n up e))
    | inr ne ↦
        any_below-same n (λ v. not (eqb (at (set up f x) v) nobody) && eqb (at (set up f x) v) e) (λ v. not (eqb (at up v) nobody) && eqb (at up v) e) (λ v lv. elim (cases_eq v f) [
          | inl is ↦ rw (is, get_or-set_same up f x 0 lu, ne_eqb x nobody some, ne_eqb x e (λ s. ne (sym s)), eq-eqb (at up f) nobody free)
          | inr other ↦ rw (get_or-set_other up f v x 0 other)
        ])
        ∙ sym (ap (λ b. leads_up n up e || b) (ne_eqb e x ne) ∙ or_false (leads_up n up e))
  ]

  -- it is marked
  pub marks_set : (allowed : ℕ → Bool) (marks : List Bool) → x < length marks → AreMarked n allowed up marks → AreMarked n allowed (set up f x) (set marks x true)
  marks_set allowed marks lx m e = elim (cases_eq e x) [
    | inl same ↦
        ap (flag (set marks x true)) same ∙ (get_or-set_same marks x true false lx
        ∙ sym (ap (λ b. not (allowed e) || b) (leads_set e ∙ (ap (λ b. leads_up n up e || b) (eq-eqb e x same) ∙ or_true (leads_up n up e))) ∙ or_true (not (allowed e))))
    | inr ne ↦
        get_or-set_other marks x e true false ne ∙ (m e
        ∙ sym (ap (λ b. not (allowed e) || b) (leads_set e ∙ (ap (λ b. leads_up n up e || b) (ne_eqb e x ne) ∙ or_false (leads_up n up e)))))
  ]

  -- or it is that of a leaf, which is marked already
  pub marks_hung : (allowed : ℕ → Bool) (list : List Leaf) (k : ℕ) (marks : List Bool) → x ≡ (leaf_at list k).edge → AreMarked n (left_after allowed list (suc k)) up marks → AreMarked n (left_after allowed list k) (set up f x) marks
  marks_hung allowed list k marks is m e =
      m e ∙ (ap (λ y. not (left_after allowed list k e && not (eqb e y)) || leads_up n up e) (sym is)
      ∙ (turned (left_after allowed list k e) (eqb e x) (leads_up n up e) ∙ sym (ap (λ b. not (left_after allowed list k e) || b) (leads_set e))))
    where
      turned : (r t u : Bool) → (not (r && not t) || u) ≡ (not r || (u || t))
      turned true true u = sym (or_true u)
      turned true false u = sym (or_false u)
      turned false t u = refl

-- before an edge leads up
pub marks_first : (n : ℕ) (up : List ℕ) (marks : List Bool) → ((f : ℕ) → f < n → at up f ≡ nobody) → AreMarked n (outside marks) up marks
marks_first n up marks all e = whole (flag marks e) (leads_up n up e) (up_none n up e all)
  where
    whole : (b u : Bool) → u ≡ false → b ≡ (not (not b) || u)
    whole true u h = refl
    whole false u h = sym h

-- an edge without a mark is allowed, and an allowed one that leads nowhere up has no mark
pub unmarked_allowed : (n : ℕ) (allowed : ℕ → Bool) (up : List ℕ) (marks : List Bool) → AreMarked n allowed up marks → (e : ℕ) → outside marks e ≡ true → allowed e ≡ true
unmarked_allowed n allowed up marks m e h = opened (flag marks e) (allowed e) (leads_up n up e) (m e) h
  where
    opened : (b a u : Bool) → b ≡ (not a || u) → not b ≡ true → a ≡ true
    opened b true u is out = refl
    opened b false u is out = absurd (false≢true (sym (ap not is) ∙ out))

pub allowed_unmarked : (n : ℕ) (allowed : ℕ → Bool) (up : List ℕ) (marks : List Bool) → AreMarked n allowed up marks → (e : ℕ) → allowed e ≡ true → leads_up n up e ≡ false → outside marks e ≡ true
allowed_unmarked n allowed up marks m e al none = ap not (m e) ∙ rw (al, none)
