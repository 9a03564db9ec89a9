-- A walk whose signature has a number runs an edge whose signature has it.
use Rattle.surf_surfaces.proofs.Common.{◌≡◌, ℕ, ◌+◌, ◌-◌, ◌<◌, ◌≤◌, true, false, eqb, List, [], ◌∷◌, bit_xor, refl, sym, ap, ◌∙◌, arith, inl, inr, cases_Bool, false≢true, xor, has, numbers, Graph, edge_between, edge_between_is, one_of, bit_at-zero, has-xor, add_zero}
use Rattle.surf_classes.proofs.SignedWalks.{Goes, goes_over, after, xor_on}

module _ (g : Graph) (len sig : ℕ → ℕ) (k : ℕ) where
  -- an edge whose signature has the number begins at the node
  abbrev pub Begins : ℕ → Type 0
  Begins m = (e : ℕ) × (e < g.edges) × (g.from e ≡ m) × (has (sig e) k ≡ true)

  -- a walk from a to b by way of such a node
  pub record Passes (a b n s : ℕ) : Type 0 where
    pub at : ℕ
    pub begins : Begins at
    pub there : List ℕ
    pub first_size : ℕ
    pub first_sum : ℕ
    pub goes_there : Goes g len sig a there at first_size first_sum
    pub onward : List ℕ
    pub last_size : ℕ
    pub last_sum : ℕ
    pub goes_on : Goes g len sig at onward b last_size last_sum
    pub size : first_size + last_size ≡ n
    pub sum : bit_xor first_sum last_sum ≡ s

  pub passes : (a : ℕ) (w : List ℕ) (b n s : ℕ) → Goes g len sig a w b n s → has s k ≡ true → Passes a b n s
  passes a [] b n s h on =
      let sum : 0 ≡ s = h.sum in
      absurd (false≢true (sym (ap (λ b. eqb b 1) (bit_at-zero k)) ∙ ap (λ x. has x k) sum ∙ on))
  passes a (c ∷ w) b n s h on =
      let e = edge_between g a c in
      let is = edge_between_is g a c h.walk.0 in
      let next = after g len sig a c w b n s h in
      let fits : len e ≤ n = next.fits in
      let none_at : (x : ℕ) → Goes g len sig x [] x 0 0 = λ x. record { walk = refl; size = refl; sum = refl } in
      elim (cases_Bool (has (sig e) k)) [
        | inl crossed ↦ elim (one_of g a c e is.1) [
          | inl same ↦ record {
            at = a;
            begins = (e, is.0, same.0, crossed);
            there = [];
            first_size = 0;
            first_sum = 0;
            goes_there = none_at a;
            onward = c ∷ w;
            last_size = n;
            last_sum = s;
            goes_on = h;
            size = omega arith;
            sum = numbers.unit s;
          }
          | inr same ↦ record {
            at = c;
            begins = (e, is.0, same.0, crossed);
            there = c ∷ [];
            first_size = len e + 0;
            first_sum = bit_xor (sig e) 0;
            goes_there = goes_over g len sig a c [] c 0 0 next.joined (none_at c);
            onward = w;
            last_size = n - len e;
            last_sum = bit_xor s (sig e);
            goes_on = next.rest;
            size = omega arith;
            sum = ap (λ x. bit_xor x (bit_xor s (sig e))) (add_zero numbers (sig e)) ∙ xor_on (sig e) s;
          }
        ]
        | inr out ↦
            let still : has (bit_xor s (sig e)) k ≡ true =
            has-xor s (sig e) k ∙ ap (λ x. xor (has s k) x) out ∙ ap (λ x. xor x false) on in
            let r = passes c w b (n - len e) (bit_xor s (sig e)) next.rest still in
            let parts : r.first_size + r.last_size ≡ n - len e = r.size in
            record {
              at = r.at;
              begins = r.begins;
              there = c ∷ r.there;
              first_size = len e + r.first_size;
              first_sum = bit_xor (sig e) r.first_sum;
              goes_there = goes_over g len sig a c r.there r.at r.first_size r.first_sum next.joined r.goes_there;
              onward = r.onward;
              last_size = r.last_size;
              last_sum = r.last_sum;
              goes_on = r.goes_on;
              size = omega arith;
              sum = numbers.assoc (sig e) r.first_sum r.last_sum ∙ ap (bit_xor (sig e)) r.sum ∙ xor_on (sig e) s;
            }
      ]
