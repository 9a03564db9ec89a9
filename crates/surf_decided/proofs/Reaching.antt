-- What chains of links between finitely many numbers lead to: a set that is grown link by link.
use Rattle.surf_surfaces.proofs.Common.{◌≡◌, ◌<◌, ◌≤◌, ◌==◌, ℕ, zero, suc, Bool, true, false, not, refl, sym, ◌∙◌, subst, arith, inl, inr, cases_eq, cases_Bool, eqb-true, eq-eqb, true≢false, false≢true, or_right, Joined, here, over}
use Rattle.surf_z2.proofs.Common.{true_from_ne_false, count_below}
use Rattle.surf_graphs.specs.Growth.{with_node}
use Rattle.surf_graphs.proofs.Growth.{old_node, fewer_left, none_left}
use Rattle.surf_surfaces.proofs.meshes.JoinedLaws.{joined_trans, joined_closed}
use Rattle.surf_decided.proofs.Deciding.{Decided, when_true, both, some_below}

-- the set has what chains from a number lead to
pub record IsReach (R : ℕ → ℕ → Type 0) (a : ℕ) (set : ℕ → Bool) : Type 0 where
  pub sound : (b : ℕ) → set b ≡ true → Joined R a b
  pub complete : (b : ℕ) → Joined R a b → set b ≡ true

-- it is told of a number whether chains lead to it
pub joined_or_not : (R : ℕ → ℕ → Type 0) (a : ℕ) (set : ℕ → Bool) → IsReach R a set → (b : ℕ) → Decided (Joined R a b)
joined_or_not R a set is b = elim (cases_Bool (set b)) [
  | inl on ↦ inl (is.sound b on)
  | inr out ↦ inr (λ joined. false≢true (sym out ∙ is.complete b joined))
]

module _ (n : ℕ) (R : ℕ → ℕ → Type 0) (inside : (x y : ℕ) → R x y → (x < n) × (y < n))
    (decide : (x y : ℕ) → x < n → y < n → Decided (R x y)) where
  -- a link leads from the set to a number outside it
  abbrev LeadsOut : (ℕ → Bool) → ℕ → Type 0
  LeadsOut set y = ((set y ≡ false) × ((x : ℕ) × (x < n) × ((set x ≡ true) × R x y)))

  leads_out : (set : ℕ → Bool) (y : ℕ) → y < n → Decided (LeadsOut set y)
  leads_out set y l = both (when_false (set y))
      (some_below n (λ x. (set x ≡ true) × R x y) (λ x m. both (when_true (set x)) (decide x y m l)))
    where
      when_false : (b : Bool) → Decided (b ≡ false)
      when_false false = inl refl
      when_false true = inr true≢false

  grown : (a m : ℕ) (set : ℕ → Bool) → set a ≡ true → ((b : ℕ) → set b ≡ true → Joined R a b) →
      count_below n (λ k. not (set k)) ≤ m → (reach : ℕ → Bool) × IsReach R a reach
  grown a zero set at sound few = (
    set,
    record {
      sound = sound;
      complete = λ b joined. joined_closed (λ c. set c ≡ true) (λ x y r _. none_left n set few y (inside x y r).1)
          joined at;
    },
  )
  grown a (suc m) set at sound few = elim (some_below n (LeadsOut set) (leads_out set)) [
    | inl out ↦
        let y : ℕ = out.0 in
        let x : ℕ = out.2.1.0 in
        let fewer = fewer_left n set y out.1 out.2.0 in
        grown a m (with_node set y) (or_right (a == y) (set a) at)
        (λ b on. elim (cases_eq b y) [
          | inl same ↦ subst (Joined R a) (sym same)
              (joined_trans (sound x out.2.1.2.0) (over out.2.1.2.1 here))
          | inr other ↦ sound b (old_node set y b other on)
        ])
        (omega (arith, fewer, few))
    | inr none ↦ (
      set,
      record {
        sound = sound;
        complete = λ b joined. joined_closed (λ c. set c ≡ true)
            (λ x y r on. let ends = inside x y r in
            true_from_ne_false (set y) (λ out. none (y, ends.1, (out, (x, ends.0, (on, r)))))) joined at;
      },
    )
  ]

  -- the set of what chains from a number lead to
  pub reach : (a : ℕ) → (set : ℕ → Bool) × IsReach R a set
  reach a = grown a (count_below n (λ k. not (k == a))) (λ k. k == a) (eq-eqb a a refl)
      (λ b on. subst (Joined R a) (sym (eqb-true b a on)) here) (omega arith)

  -- whether chains from a number lead to another
  pub joined_decided : (a b : ℕ) → Decided (Joined R a b)
  joined_decided a b = let r = reach a in joined_or_not R a r.0 r.1 b
