-- The border of a disc is connected.
use Rattle.std.proofs.Common.{◌≡◌, ◌≢◌, ℕ, ◌+◌, ◌<◌, Bool, true, false, ◌&&◌, eqb, refl, sym, ◌∙◌, ap, arith, inl, inr, length, eqb-true}
use Rattle.surf_z2.proofs.Common.{cases_Bool, and_parts, false≢true, eqb-false, not-true, xor, any_below}
use Rattle.surf_graphs.specs.Graphs.{leaves, graph_touches, IsEven}
use Rattle.surf_graphs.specs.Cells.{Cells, primal, dual, IsCellComplex}
use Rattle.surf_z2.proofs.ParityLaws.{xor_comm, and-false, odd_below-same, odd_below-none, odd_below-and, any_below-found, any_below-none}
use Rattle.surf_graphs.proofs.CellLaws.{signature_null}
use Rattle.surf_graphs.proofs.Counting.{left_edges}
use Rattle.surf_graphs.proofs.Existence.{split_exists}

take_out : (b p t x : Bool) → (b ≡ true → t ≡ true → p ≡ x) → ((b && p) && t) ≡ (x && (t && b))
take_out true p true x h = rw (h refl refl)
take_out true p false x h = rw (and-false p) (sym (and-false x))
take_out false p true x h = sym (and-false x)
take_out false p false x h = sym (and-false x)

leave_out : (b p t : Bool) → (b && t) ≡ false → ((b && p) && t) ≡ false
leave_out true p true h = absurd (false≢true (sym h))
leave_out true p false h = and-false p
leave_out false p t h = refl

-- a chain of a face's edges that has all or none of those at each vertex is even
face_part_even : (s : Cells) → IsCellComplex s → (o : ℕ) → o < s.faces → (p : ℕ → Bool) →
    ((v e f : ℕ) → v < s.vertices → e < s.edges → f < s.edges → graph_touches (dual s) o e ≡ true →
    graph_touches (dual s) o f ≡ true → graph_touches (primal s) v e ≡ true → graph_touches (primal s) v f ≡ true → p e ≡ p f) →
    IsEven (primal s) (λ e. graph_touches (dual s) o e && p e)
face_part_even s ok o lo p meet v lv =
    let border : ℕ → Bool = λ e. graph_touches (dual s) o e in
    let at_v : ℕ → Bool = λ e. graph_touches (primal s) v e in
    elim (cases_Bool (any_below s.edges (λ e. border e && at_v e))) [
      | inl some ↦
          let (f, lf, both) = any_below-found s.edges (λ e. border e && at_v e) some in
          let on : (border f ≡ true) × (at_v f ≡ true) = and_parts (border f) (at_v f) both in
          odd_below-same s.edges (λ e. (border e && p e) && at_v e) (λ e. p f && (at_v e && border e))
          (λ e le. take_out (border e) (p e) (at_v e) (p f) (λ be ae. meet v e f lv le lf be on.0 ae on.1))
          ∙ (odd_below-and s.edges (p f) (λ e. at_v e && border e) ∙ rw (ok.corners_even v o lv lo) (and-false (p f)))
      | inr none ↦ odd_below-none s.edges (λ e. (border e && p e) && at_v e)
          (λ e le. leave_out (border e) (p e) (at_v e) (any_below-none s.edges (λ x. border x && at_v x) none e le))
    ]

-- the face on the other side of one of a face's edges
across : (s : Cells) → IsCellComplex s → (o : ℕ) (set : ℕ → Bool) (e : ℕ) → e < s.edges → graph_touches (dual s) o e ≡ true →
    (f : ℕ) × (f < s.faces) × (f ≢ o) × (leaves (dual s) set e ≡ xor (set f) (set o))
across s ok o set e l on =
    let ends = ok.dual_ends e l in
    elim (cases_Bool (eqb (s.near e) o)) [
      | inl near_o ↦
          let far_out : eqb (s.far e) o ≡ false = not-true (eqb (s.far e) o) (rw near_o at on) in (
            s.far e,
            ends.1,
            eqb-false (s.far e) o far_out,
            rw (eqb-true (s.near e) o near_o)
                (xor_comm (set o) (set (s.far e))),
          )
      | inr near_out ↦
          let far_o : eqb (s.far e) o ≡ true = rw near_out at on in
          (s.near e, ends.0, eqb-false (s.near e) o near_out, rw (eqb-true (s.far e) o far_o))
    ]

of_part : (b p l x : Bool) → b ≡ true → (b && p) ≡ l → l ≡ x → p ≡ x
of_part true p l x h is at = is ∙ at
of_part false p l x h is at = absurd (false≢true h)

meet_at : (p q x y o : Bool) → p ≡ xor x o → q ≡ xor y o → x ≡ y → p ≡ q
meet_at p q x y o one two same = one ∙ (ap (λ z. xor z o) same ∙ sym two)

-- where a cells has χ 2, and its faces but one are connected by edges that are not that one's, the edges of that one
-- are joined at vertices
pub border_connected : (s : Cells) → IsCellComplex s → 0 < s.vertices → s.vertices + s.faces ≡ s.edges + 2 → (o : ℕ) →
    o < s.faces →
    ((set : ℕ → Bool) → ((e : ℕ) → e < s.edges → graph_touches (dual s) o e ≡ false → leaves (dual s) set e ≡ false) →
    (a b : ℕ) → a < s.faces → b < s.faces → a ≢ o → b ≢ o → set a ≡ set b) →
    (p : ℕ → Bool) →
    ((v e f : ℕ) → v < s.vertices → e < s.edges → f < s.edges → graph_touches (dual s) o e ≡ true →
    graph_touches (dual s) o f ≡ true → graph_touches (primal s) v e ≡ true → graph_touches (primal s) v f ≡ true → p e ≡ p f) →
    (e f : ℕ) → e < s.edges → f < s.edges → graph_touches (dual s) o e ≡ true → graph_touches (dual s) o f ≡ true → p e ≡ p f
border_connected s ok lv chi o lo inner p meet e f le lf oe of =
    let border : ℕ → Bool = λ x. graph_touches (dual s) o x in
    let (d, ds) = split_exists s ok lv (omega arith) in
    let counted : length d.left + (s.vertices + s.faces) ≡ s.edges + 2 = left_edges s d ds in
    let q : ℕ → Bool = λ x. border x && p x in
    let (set, is) = signature_null s d ok ds q (face_part_even s ok o lo p meet) (λ k lk. absurd (omega arith)) in
    let same : (a b : ℕ) → a < s.faces → b < s.faces → a ≢ o → b ≢ o → set a ≡ set b =
    inner set (λ x lx out. sym (is x lx) ∙ rw out) in
    let (a, la, na, at_e) = across s ok o set e le oe in
    let (b, lb, nb, at_f) = across s ok o set f lf of in
    let one : p e ≡ xor (set a) (set o) = of_part (border e) (p e) (leaves (dual s) set e) (xor (set a) (set o)) oe
    (is e le) at_e in
    let two : p f ≡ xor (set b) (set o) = of_part (border f) (p f) (leaves (dual s) set f) (xor (set b) (set o)) of
    (is f lf) at_f in
    meet_at (p e) (p f) (set a) (set b) (set o) one two (same a b la lb na nb)
