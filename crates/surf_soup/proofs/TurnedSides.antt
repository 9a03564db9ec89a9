-- The sides before and after each side of a face, and darts turned by tables.
use Rattle.surf_surfaces.proofs.Common.{◌≡◌, ◌≢◌, ℕ, ◌+◌, ◌-◌, ◌<◌, ◌≤◌, Bool, not, cond, eqb, true, false, List, length, get_or, inl, inr, refl, sym, ap, ◌∙◌, arith, sum_by, true≢false, lt-ltb, le-ltb, ne_eqb, eq-eqb, cases_eq, get_or_read, length-map-range_with_len, get_or-map-range_with_len, Mesh, after, before, face_count, face_at, side_count, owners, first_side, IsFaceOf, take-length}
use Rattle.std.proofs.Math.Bool.{beq}
use Rattle.surf_soup.specs.Ring.{turned, nexts, befores, flip_of, turn_of, AreDartTables, AreTurned}
use Rattle.surf_soup.proofs.HalfLaws.{face_of_side, spans}
use Rattle.surf_soup.proofs.SideNumbers.{one_face, first_mono}
use Rattle.surf_soup.proofs.VertexLaws.{IsPlaced}
use Rattle.surf_soup.proofs.CornerSides.{placed_face}

-- the table of the sides at another place of their faces, with one face more
pub turned_more : (turn : ℕ → ℕ → ℕ) (mesh : Mesh) (f count : ℕ) (old now : List ℕ) → AreTurned turn mesh f old →
    f < face_count mesh → count ≡ length (face_at mesh f) → length now ≡ length old + count →
    ((s : ℕ) → s < length old → get_or now s 0 ≡ get_or old s 0) →
    ((k : ℕ) → k < count → get_or now (length old + k) 0 ≡ first_side mesh f + turn count k) →
    AreTurned turn mesh (f + 1) now
turned_more turn mesh f count old now t lt own size kept here' =
    let n = t.size in
    let sp = spans mesh.faces f lt in
    record {
      size = omega (arith, size, n, own, sp.0);
      at = λ g k below in'. elim (cases_eq g f) [
        | inl e ↦
            let same = ap (λ h. length (face_at mesh h)) e in
            let one : first_side mesh g ≡ length old = ap (first_side mesh) e ∙ sym n in
            ap (λ m. get_or now (m + k) 0) one ∙ here' k (omega (arith, own, same))
            ∙ ap (λ m. m + turn count k) (ap (first_side mesh) (sym e))
            ∙ ap (λ m. first_side mesh g + turn m k) (own ∙ sym same)
        | inr ne ↦
            let b : g < f = omega arith in
            let sg = spans mesh.faces g (omega arith) in
            let mono = first_mono mesh (g + 1) f (omega arith) in
            kept (first_side mesh g + k) (omega (arith, sg.0, mono, n)) ∙ t.at g k b in'
      ];
    }

pub turned_size : (turn : ℕ → ℕ → ℕ) (mesh : Mesh) (table : List ℕ) → AreTurned turn mesh (face_count mesh) table →
    length table ≡ side_count mesh
turned_size turn mesh table t = t.size ∙ ap (sum_by length) (take-length mesh.faces)

-- the side at another place of its face, for each side
pub turned_at : (turn : ℕ → ℕ → ℕ) (mesh : Mesh) (s f : ℕ) → IsFaceOf mesh s f →
    get_or (turned turn mesh) s 0 ≡ first_side mesh f + turn (length (face_at mesh f)) (s - first_side mesh f)
turned_at turn mesh s f h =
    let sp = spans mesh.faces f h.is_face in
    let lt : s < side_count mesh = omega (arith, sp.0, sp.1, h.upto) in
    let own = face_of_side mesh (owners 0 mesh.faces) s 0 refl lt in
    let same = one_face mesh s (get_or (owners 0 mesh.faces) s 0) f own h in
    let z : 0 + s ≡ s = omega arith in
    get_or-map-range_with_len
    (λ t. first_side mesh (get_or (owners 0 mesh.faces) t 0) + turn
    (length (face_at mesh (get_or (owners 0 mesh.faces) t 0)))
    (t - first_side mesh (get_or (owners 0 mesh.faces) t 0))) 0 (side_count mesh) s s 0 lt z
    ∙ ap (λ g. first_side mesh g + turn (length (face_at mesh g)) (s - first_side mesh g)) same

pub turned_len : (turn : ℕ → ℕ → ℕ) (mesh : Mesh) → length (turned turn mesh) ≡ side_count mesh
turned_len turn mesh =
    length-map-range_with_len
    (λ t. first_side mesh (get_or (owners 0 mesh.faces) t 0) + turn
    (length (face_at mesh (get_or (owners 0 mesh.faces) t 0))) (t - first_side mesh (get_or (owners 0 mesh.faces) t 0)))
    0 (side_count mesh)

pub turned_is : (turn : ℕ → ℕ → ℕ) (mesh : Mesh) → AreTurned turn mesh (face_count mesh) (turned turn mesh)
turned_is turn mesh = record {
  size = turned_len turn mesh ∙ sym (ap (sum_by length) (take-length mesh.faces));
  at = λ f k lt in'.
      let s = first_side mesh f + k in
      let p : IsPlaced mesh s f k = record { is_face = lt; is_place = in'; number = refl } in
      let e : s - first_side mesh f ≡ k = omega arith in
      turned_at turn mesh s f (placed_face mesh s f k p)
      ∙ ap (λ j. first_side mesh f + turn (length (face_at mesh f)) j) e;
}

-- the mate that is read at a side
pub mate_read : {mesh : Mesh} {mate : List ℕ} {s at x : ℕ} → AreDartTables mesh mate →
    s < side_count mesh → at ≡ s → x ≡ get_or mate at x →
    (get_or mate at x ≡ get_or mate s 0) × (get_or mate at x < side_count mesh)
mate_read {mesh} {mate = mate} {s} {at} {x} tables lt is read =
    let e : get_or mate at x ≡ get_or mate s 0 =
    sym read ∙ get_or_read mate at x (omega (arith, tables.mates.size)) read 0 ∙ ap (λ i. get_or mate i 0) is in
    (e, omega (arith, e, (tables.mates.mates s lt).is_side))

-- the next side around a face, and the one before
pub next_in : (mesh : Mesh) (s f : ℕ) → IsFaceOf mesh s f → s + 1 < first_side mesh (f + 1) →
    get_or (nexts mesh) s 0 ≡ s + 1
next_in mesh s f h lt =
    let sp = spans mesh.faces f h.is_face in
    let from = h.from in
    let n = length (face_at mesh f) in
    let k = s - first_side mesh f in
    let below : k + 1 < n = omega (arith, sp.0) in
    let step : after n k ≡ k + 1 = rw (lt-ltb (k + 1) n below) refl in
    turned_at after mesh s f h ∙ ap (λ j. first_side mesh f + j) step
    ∙ (let e : first_side mesh f + (k + 1) ≡ s + 1 = omega arith in e)

pub next_first : (mesh : Mesh) (s f : ℕ) → IsFaceOf mesh s f → first_side mesh (f + 1) ≤ s + 1 →
    get_or (nexts mesh) s 0 ≡ first_side mesh f
next_first mesh s f h le =
    let sp = spans mesh.faces f h.is_face in
    let from = h.from in
    let n = length (face_at mesh f) in
    let k = s - first_side mesh f in
    let above : n ≤ k + 1 = omega (arith, sp.0) in
    let step : after n k ≡ 0 = rw (le-ltb (k + 1) n above) refl in
    turned_at after mesh s f h ∙ ap (λ j. first_side mesh f + j) step
    ∙ (let e : first_side mesh f + 0 ≡ first_side mesh f = omega arith in e)

pub before_in : (mesh : Mesh) (s f : ℕ) → IsFaceOf mesh s f → s ≢ first_side mesh f → get_or (befores mesh) s 0 ≡ s - 1
before_in mesh s f h ne =
    let from = h.from in
    let n = length (face_at mesh f) in
    let k = s - first_side mesh f in
    let some : k ≢ 0 = λ e. ne (omega arith) in
    let step : before n k ≡ k - 1 = rw (ne_eqb k 0 some) refl in
    turned_at before mesh s f h ∙ ap (λ j. first_side mesh f + j) step
    ∙ (let e : first_side mesh f + (k - 1) ≡ s - 1 = omega arith in e)

pub before_last : (mesh : Mesh) (s f : ℕ) → IsFaceOf mesh s f → s ≡ first_side mesh f →
    get_or (befores mesh) s 0 ≡ first_side mesh (f + 1) - 1
before_last mesh s f h is =
    let sp = spans mesh.faces f h.is_face in
    let upto = h.upto in
    let n = length (face_at mesh f) in
    let k = s - first_side mesh f in
    let none : k ≡ 0 = omega arith in
    let step : before n k ≡ n - 1 = rw (eq-eqb k 0 none) refl in
    turned_at before mesh s f h ∙ ap (λ j. first_side mesh f + j) step
    ∙ (let e : first_side mesh f + (n - 1) ≡ first_side mesh (f + 1) - 1 = omega (arith, sp.0) in e)

-- a dart turned, by whether its side and the mate begin at one vertex
flag_same : (same head : Bool) → beq same head ≡ true → cond same head (not head) ≡ true
flag_same true true e = refl
flag_same false false e = refl
flag_same true false e = absurd (true≢false (sym e))
flag_same false true e = absurd (true≢false (sym e))

flag_other : (same head : Bool) → beq same head ≡ false → cond same head (not head) ≡ false
flag_other true true e = absurd (true≢false e)
flag_other false false e = absurd (true≢false e)
flag_other true false e = refl
flag_other false true e = refl

pub turn_same : (next prev mate tails : List ℕ) (s m x : ℕ) (same head : Bool) → m ≡ get_or mate s 0 →
    same ≡ eqb (get_or tails m 0) (get_or tails s 0) → beq same head ≡ true → x ≡ get_or next m 0 →
    (x, false) ≡ turn_of next prev mate tails (s, head)
turn_same next prev mate tails s m x same head m_is same_is is x_is =
    let test : same ≡ eqb (get_or tails (get_or mate s 0) 0) (get_or tails s 0) = same_is
    ∙ ap (λ t. eqb (get_or tails t 0) (get_or tails s 0)) m_is in
    let flag = flag_same (eqb (get_or tails (get_or mate s 0) 0) (get_or tails s 0)) head
    (ap (λ b. beq b head) (sym test) ∙ is) in
    ap (λ (t : ℕ). (t, false)) (x_is ∙ ap (λ t. get_or next t 0) m_is)
    ∙ ap (λ b. flip_of next prev (get_or mate s 0, b)) (sym flag)

pub turn_other : (next prev mate tails : List ℕ) (s m x : ℕ) (same head : Bool) → m ≡ get_or mate s 0 →
    same ≡ eqb (get_or tails m 0) (get_or tails s 0) → beq same head ≡ false → x ≡ get_or prev m 0 →
    (x, true) ≡ turn_of next prev mate tails (s, head)
turn_other next prev mate tails s m x same head m_is same_is isnt x_is =
    let test : same ≡ eqb (get_or tails (get_or mate s 0) 0) (get_or tails s 0) = same_is
    ∙ ap (λ t. eqb (get_or tails t 0) (get_or tails s 0)) m_is in
    let flag = flag_other (eqb (get_or tails (get_or mate s 0) 0) (get_or tails s 0)) head
    (ap (λ b. beq b head) (sym test) ∙ isnt) in
    ap (λ (t : ℕ). (t, true)) (x_is ∙ ap (λ t. get_or prev t 0) m_is)
    ∙ ap (λ b. flip_of next prev (get_or mate s 0, b)) (sym flag)
