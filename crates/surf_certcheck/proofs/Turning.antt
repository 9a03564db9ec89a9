-- Coordinates after a set was added where the sets of edges have a place.
use Rattle.surf_treecheck.proofs.Common.{◌≡◌, ◌≢◌, ℕ, ◌<◌, ◌^◌, Bool, true, false, List, length, map, slice_index, bit_xor, refl, sym, ap, ◌∙◌, arith, inl, inr, cases_Bool, get_or-map, xor_lt, has, Split, Mesh, edge_count, xor_zero_r, xor_self, numbers, IsLinear, has-xor}
use Rattle.surf_certcheck.proofs.Common.{added_where, AreTaken}
use Rattle.surf_z2.proofs.Span.{four}
use Rattle.surf_certcheck.proofs.Placing.{has_other, has_none}

-- the sets of edges are what a map that takes sums to sums makes of their signatures, and another map undoes it
pub record AreCoordinates (mesh : Mesh) (d : Split) (sets : List ℕ) (to back : ℕ → ℕ) : Type 0 where
  pub taken : AreTaken mesh d to sets
  pub back_linear : IsLinear numbers numbers back
  pub undone : (v : ℕ) → back (to v) ≡ v
  pub within : (v : ℕ) → v < 2 ^ length d.left → to v < 2 ^ length d.left

module _ (k rest : ℕ) (off : has rest k ≡ false) where
  moved_linear : IsLinear numbers numbers (added_where k rest)
  moved_linear = record { zero = rw (has_none k) refl; add = λ x y. both x y (has x k) (has y k) refl refl }
    where
      both : (x y : ℕ) (a b : Bool) → has x k ≡ a → has y k ≡ b →
          added_where k rest (bit_xor x y) ≡ bit_xor (added_where k rest x) (added_where k rest y)
      both x y true true on_x on_y = rw (has-xor x y k, on_x, on_y)
          (sym (four numbers x rest y rest ∙ ap (bit_xor (bit_xor x y)) (xor_self rest) ∙ xor_zero_r (bit_xor x y)))
      both x y true false on_x on_y = rw (has-xor x y k, on_x, on_y)
          (sym (ap (bit_xor (bit_xor x rest)) (sym (xor_zero_r y)) ∙ four numbers x rest y 0
          ∙ ap (bit_xor (bit_xor x y)) (xor_zero_r rest)))
      both x y false true on_x on_y = rw (has-xor x y k, on_x, on_y) (numbers.assoc x y rest)
      both x y false false on_x on_y = rw (has-xor x y k, on_x, on_y) refl

  moved_twice : (x : ℕ) → added_where k rest (added_where k rest x) ≡ x
  moved_twice x = elim (cases_Bool (has x k)) [
    | inl on ↦
        let on_both : has (bit_xor x rest) k ≡ true = has-xor x rest k ∙ rw (on, off) refl in
        rw (on, on_both) (numbers.assoc x rest rest ∙ ap (bit_xor x) (xor_self rest) ∙ xor_zero_r x)
    | inr none ↦ rw (none, none) refl
  ]

  pub moved_other : (j : ℕ) → k ≢ j → added_where k rest (2 ^ j) ≡ 2 ^ j
  moved_other j ne = rw (has_other j k ne) refl

  moved_small : (n x : ℕ) → rest < 2 ^ n → x < 2 ^ n → added_where k rest x < 2 ^ n
  moved_small n x small_rest small_x = elim (cases_Bool (has x k)) [
    | inl on ↦ rw on (xor_lt n x rest small_x small_rest)
    | inr none ↦ rw none small_x
  ]

  pub moved_coordinates : (mesh : Mesh) (d : Split) (sets new : List ℕ) (to back : ℕ → ℕ) → rest < 2 ^ length d.left →
      length sets ≡ edge_count mesh → new ≡ map (added_where k rest) sets → AreCoordinates mesh d sets to back →
      AreCoordinates mesh d new (λ v. added_where k rest (to v)) (λ v. back (added_where k rest v))
  moved_coordinates mesh d sets new to back small count new_is c = record {
    taken = record {
      linear = record {
        zero = ap (added_where k rest) c.taken.linear.zero ∙ moved_linear.zero;
        add = λ u v. ap (added_where k rest) (c.taken.linear.add u v) ∙ moved_linear.add (to u) (to v);
      };
      each = λ e l.
          ap (λ xs. slice_index xs e) new_is ∙ get_or-map (added_where k rest) sets e 0 0 (omega (arith, l, count))
          ∙ ap (added_where k rest) (c.taken.each e l);
    };
    back_linear = record {
      zero = ap back moved_linear.zero ∙ c.back_linear.zero;
      add = λ u v. ap back (moved_linear.add u v) ∙ c.back_linear.add (added_where k rest u) (added_where k rest v);
    };
    undone = λ v. ap back (moved_twice (to v)) ∙ c.undone v;
    within = λ v l. moved_small (length d.left) (to v) small (c.within v l);
  }
