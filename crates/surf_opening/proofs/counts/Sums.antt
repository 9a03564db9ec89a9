-- All copies are those of each vertex, summed up: the sum over the vertices of the greater of 1 and the number of cut
-- edges there.
use Rattle.std.proofs.Common.{◌≡◌, ◌≢◌, ℕ, zero, suc, ◌+◌, ◌<◌, ◌≤◌, max, ◌⊎◌, inl, inr, sym, refl, subst, ap, ◌∙◌, cond, eqb, List, arith, eq-eqb, ne_eqb}
use Rattle.surf_surfaces.proofs.Common.{cases_eq, cases_lt, cond-true, cond-false, sum_below}
use Rattle.surf_opening.specs.Numbers.{Numbers}
use Rattle.surf_opening.specs.Uncut.{Copy, CutEdge, AreEdges}
use Rattle.surf_opening.proofs.sides.SideWords.{IsSides, IsDarts, SameCorner, IsOneFan}
use Rattle.surf_opening.proofs.openings.Slits.{copies_at, AtV, SameCopy}

-- the sum over the numbers below n
abbrev pub total_below : (ℕ → ℕ) → ℕ → ℕ
total_below g n = sum_below n g

-- how many of the first n are at v
abbrev pub count : (ℕ → ℕ) → ℕ → ℕ → ℕ
count o zero v = 0
count o (suc n) v = cond (eqb (o n) v) 1 0 + count o n v

pub count_at : (o : ℕ → ℕ) (n v : ℕ) → o n ≡ v → count o (suc n) v ≡ suc (count o n v)
count_at o n v e = let h : cond {A = ℕ} (eqb (o n) v) 1 0 ≡ 1 =
    cond-true {A = ℕ} (eqb (o n) v) 1 0 (eq-eqb (o n) v e) in omega arith

pub count_off : (o : ℕ → ℕ) (n v : ℕ) → o n ≢ v → count o (suc n) v ≡ count o n v
count_off o n v ne = let h : cond {A = ℕ} (eqb (o n) v) 1 0 ≡ 0 =
    cond-false {A = ℕ} (eqb (o n) v) 1 0 (ne_eqb (o n) v ne) in omega arith

count_up : (o : ℕ → ℕ) (k n v : ℕ) → k < n → o k ≡ v → count o k v < count o n v
count_up o k zero v h e = absurd (omega arith)
count_up o k (suc n) v h e = elim (cases_eq k n) [
  | inl i ↦ let c = count_at o n v (ap o (sym i) ∙ e) in let d : count o k v ≡ count o n v = ap (λ k. count o k v) i in
      omega arith
  | inr ni ↦
      let c : count o k v < count o n v = count_up o k n v (omega arith) e in
      elim (cases_eq (o n) v) [
        | inl i ↦ let d = count_at o n v i in omega arith
        | inr i ↦ let d = count_off o n v i in
            omega arith
      ]
]

count_one : (o : ℕ → ℕ) (k l v : ℕ) → o k ≡ v → o l ≡ v → count o k v ≡ count o l v → k ≡ l
count_one o k l v e h same = elim (cases_lt k l) [
  | inl a ↦ let c = count_up o k l v a e in absurd (omega arith)
  | inr a ↦ elim (cases_lt l k) [
    | inl b ↦ let c = count_up o l k v b h in absurd (omega arith)
    | inr b ↦ omega arith
  ]
]

count_onto : (o : ℕ → ℕ) (n v t : ℕ) → t < count o n v → (k : ℕ) × (k < n) × (o k ≡ v) × (count o k v ≡ t)
count_onto o zero v t h = absurd (omega arith)
count_onto o (suc n) v t h = elim (cases_lt t (count o n v)) [
  | inl a ↦ let i = count_onto o n v t a in let g : i.0 < n = i.1 in (i.0, omega arith, i.2, i.3)
  | inr a ↦ elim (cases_eq (o n) v) [
    | inl e ↦ let c = count_at o n v e in (n, omega arith, e, omega arith)
    | inr ne ↦ let c = count_off o n v ne in absurd (omega arith)
  ]
]

total_same : (g h : ℕ → ℕ) (V : ℕ) → ((v : ℕ) → v < V → g v ≡ h v) → total_below g V ≡ total_below h V
total_same g h zero e = refl
total_same g h (suc V) e =
    let a : g V ≡ h V = e V (omega arith) in
    let b : total_below g V ≡ total_below h V = total_same g h V (λ v i. e v (omega arith)) in
    omega arith

-- one more thing, at a vertex below V
total_more : (o : ℕ → ℕ) (n V : ℕ) → o n < V → total_below (count o (suc n)) V ≡ suc (total_below (count o n) V)
total_more o n zero h = absurd (omega arith)
total_more o n (suc V) h = elim (cases_eq (o n) V) [
  | inl e ↦
      let a = count_at o n V e in
      let b : total_below (count o (suc n)) V ≡ total_below (count o n) V =
      total_same (count o (suc n)) (count o n) V (λ v i. count_off o n v (λ k. less v V (sym k ∙ e) i)) in
      omega arith
  | inr ne ↦
      let a = count_off o n V ne in
      let b : total_below (count o (suc n)) V ≡ suc (total_below (count o n) V) = total_more o n V (omega arith) in
      omega arith
]
  where
    less : (v V : ℕ) → v ≡ V → v < V → ⊥
    less v V e h = omega arith

total_none : (o : ℕ → ℕ) (V : ℕ) → total_below (count o 0) V ≡ 0
total_none o zero = refl
total_none o (suc V) = let a = total_none o V in omega arith

total_counts : (o : ℕ → ℕ) (n V : ℕ) → ((k : ℕ) → k < n → o k < V) → total_below (count o n) V ≡ n
total_counts o zero V below = total_none o V
total_counts o (suc n) V below =
    let a : total_below (count o n) V ≡ n = total_counts o n V (λ k h. below k (omega arith)) in
    let b = total_more o n V (below n (omega arith)) in
    omega arith

module _ {Side : ℕ → ℕ → ℕ → Type 0} (sides : IsSides Side) {X : Type 0} {Is : X → Type 0} {face first second : X → ℕ}
    (darts : IsDarts Side Is face first second)
    (uncut : List (ℕ × ℕ)) (n : ℕ) (copies : Numbers Is (SameCorner Side face first uncut) n) where
  abbrev pub pick : (k : ℕ) → (k < n) ⊎ (n ≤ k) → ℕ
  pick k (inl h) = first (copies.onto k h).0
  pick k (inr h) = 0

  abbrev pub vertex : ℕ → ℕ
  vertex k = pick k (cases_lt k n)

  pick_is : (x : X) (k : ℕ) (c : (k < n) ⊎ (n ≤ k)) → Is x → copies.number x ≡ k → pick k c ≡ first x
  pick_is x k (inl h) is e = let y = copies.onto k h in (copies.tells y.0 x y.1 is (y.2 ∙ sym e)).0
  pick_is x k (inr h) is e = let g : copies.number x < n = copies.below x is in absurd (omega arith)

  pub vertex_is : (x : X) → Is x → vertex (copies.number x) ≡ first x
  vertex_is x is = pick_is x (copies.number x) (cases_lt (copies.number x) n) is refl

  -- the copies of one vertex
  pub copies_of : (v : ℕ) → Numbers (AtV sides darts v) (SameCopy sides darts v uncut) (count vertex n v)
  copies_of v = record {
    number = λ x. count vertex (copies.number x) v;
    below = λ x h. count_up vertex (copies.number x) n v (copies.below x h.0) (vertex_is x h.0 ∙ h.1);
    onto = λ t h.
        let k = count_onto vertex n v t h in
        let x = copies.onto k.0 k.1 in
        (x.0, (x.1, sym (vertex_is x.0 x.1) ∙ ap vertex x.2 ∙ k.2), ap (λ k. count vertex k v) x.2 ∙ k.3);
    tells = λ x y h g e. subst (λ v. Copy Side uncut v (face x) (face y)) h.1
        (copies.tells x y h.0 g.0
        (count_one vertex (copies.number x) (copies.number y) v (vertex_is x h.0 ∙ h.1) (vertex_is y g.0 ∙ g.1) e)).1;
    agrees = λ x y h g c. ap (λ k. count vertex k v)
        (copies.agrees x y h.0 g.0 (h.1 ∙ sym g.1, subst (λ v. Copy Side uncut v (face x) (face y)) (sym h.1) c));
  }

  -- with one fan at each vertex, and c v cut edges there
  pub labels_sum : AreEdges Side uncut → (V : ℕ) (c : ℕ → ℕ) → ((x : X) → Is x → first x < V) →
      ((v : ℕ) → v < V → (x : X) × Is x × (first x ≡ v)) → ((v : ℕ) → v < V → IsOneFan Side v) →
      ((v : ℕ) → v < V → Numbers (CutEdge Side uncut v) (λ (w : ℕ) (y : ℕ). w ≡ y) (c v)) →
      n ≡ total_below (λ v. max 1 (c v)) V
  labels_sum are V c below corner fan cuts =
      sym (total_counts vertex n V (λ k h. let x = copies.onto k h in
      subst (λ v. v < V) (sym (vertex_is x.0 x.1) ∙ ap vertex x.2) (below x.0 x.1)))
      ∙ total_same (count vertex n) (λ v. max 1 (c v)) V (λ v h.
      let x = corner v h in
      copies_at sides darts v (fan v h) (c v) (count vertex n v) uncut are x.0 (x.1, x.2) (cuts v h) (copies_of v))
