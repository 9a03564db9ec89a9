-- Tables that are written row by row.
use Rattle.surf_surfaces.proofs.Common.{◌≡◌, ℕ, ◌+◌, ◌<◌, ◌≤◌, true, false, cond, eqb, List, length, get_or-map, length-map, map, bit_xor, sym, ap, ◌∙◌, arith, inl, inr, cases_eq, eq-eqb, ne_eqb, has, same_number_lists}
use Rattle.surf_base.specs.Tables.{at}
use Rattle.surf_paired.specs.Paired.{moved}

-- a row that has the number, or hasn't got it
pub moved_on : (k other x : ℕ) → has x k ≡ true → moved k other x ≡ bit_xor x other
moved_on k other x on = ap (λ b. cond b (bit_xor x other) x) on

pub moved_off : (k other x : ℕ) → has x k ≡ false → moved k other x ≡ x
moved_off k other x off = ap (λ b. cond b (bit_xor x other) x) off

-- the first n rows are moved, and the others are as they were
pub record AreMovedTo (k other : ℕ) (old : List ℕ) (n : ℕ) (new : List ℕ) : Type 0 where
  pub count : length new ≡ length old
  pub done : (j : ℕ) → j < n → at new j ≡ moved k other (at old j)
  pub rest : (j : ℕ) → n ≤ j → at new j ≡ at old j

-- one row more
pub moved_more : (k other : ℕ) (old mid new : List ℕ) (n : ℕ) → AreMovedTo k other old n mid → length new ≡ length mid →
    ((j : ℕ) → at new j ≡ cond (eqb n j) (moved k other (at mid j)) (at mid j)) → AreMovedTo k other old (n + 1) new
moved_more k other old mid new n was count each = record {
  count = count ∙ was.count;
  done = λ j l. elim (cases_eq n j) [
    | inl same ↦
        each j ∙ ap (λ b. cond b (moved k other (at mid j)) (at mid j)) (eq-eqb n j same)
        ∙ ap (moved k other) (was.rest j (omega (arith, same)))
    | inr ne ↦
        each j ∙ ap (λ b. cond b (moved k other (at mid j)) (at mid j)) (ne_eqb n j ne)
        ∙ was.done j (omega (arith, l, ne))
  ];
  rest = λ j l.
      each j ∙ ap (λ b. cond b (moved k other (at mid j)) (at mid j)) (ne_eqb n j (λ same. omega (arith, same, l)))
      ∙ was.rest j (omega (arith, l));
}

-- all of them
pub all_moved : (k other : ℕ) (old new : List ℕ) (n : ℕ) → length old ≤ n → AreMovedTo k other old n new →
    new ≡ map (moved k other) old
all_moved k other old new n all was =
    let size = length-map old (moved k other) in
    let count = was.count in
    same_number_lists new (map (moved k other) old) (omega (arith, count, size)) (λ j l.
    let j_in : j < length old = omega (arith, l, count) in
    was.done j (omega (arith, j_in, all)) ∙ sym (get_or-map (moved k other) old j 0 0 j_in))
