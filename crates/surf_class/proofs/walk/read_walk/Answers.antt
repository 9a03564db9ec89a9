use Rattle.surf_cert.proofs.Common.{◌≡◌, ◌∷◌, length, List, ℕ, sym, ap, ◌∙◌, subst, arith, Option, Ok, None, true, false, nat_le, not, eqb, position, Mesh, pair_of, among, steps, edges, first, last, IsClosed, lines_of, tokens_of, TokenWalk, text_line}
use Rattle.surf_class.proofs.Common.{numbers_from}
use Rattle.surf_class.proofs.LineSizes.{few_tokens}
use Rattle.surf_class.proofs.WalkLines.{gap, unclosed, trailing, alone, closed}
use Rattle.surf_class.proofs.walk.read_walk.Goals as goal
use Rattle.surf_class.proofs.walk.read_walk.Goals.{After-first_gap, After-is_round}

-- where the first step of a list is that is along no edge
abbrev first_off : Mesh → List ℕ → Option ℕ
first_off mesh list = position (λ s. not (among (pair_of s) (edges mesh))) (steps list)

-- the only line is read as a list of vertices
its_line : (c : After-first_gap) → (lines_of c.args.text.now ≡ text_line c.in-Some.line ∷ c.next_line.new.self) × (numbers_from 0 (tokens_of (text_line c.in-Some.line).bytes) ≡ Ok c.in_ok-numbers.numbers.items)
    × (position (λ v. nat_le c.args.mesh.now.vertices v) c.in_ok-numbers.numbers.items ≡ None) × (c.in_ok-vertices.vertices.items ≡ c.in_ok-numbers.numbers.items)
its_line c = (
  sym c.over-lines.ensures.lines ∙ c.in-Some.ensures.next,
  ap (λ (w : TokenWalk). numbers_from 0 w.tokens) (sym c.over.ensures.tokens) ∙ c.in_ok-numbers.ensures.numbers,
  ap (position (λ v. nat_le c.args.mesh.now.vertices v)) (sym c.deref.ensures.value) ∙ sym c.in_default-first_stranger.ensures.place,
  c.in_ok-vertices.ensures.vertices ∙ c.deref-2.ensures.value,
)

-- and each of its steps is along an edge
its_steps : (c : After-is_round) (list : List ℕ) → c.in_ok-vertices.vertices.items ≡ list → (first_off c.args.mesh.now list ≡ None) × (c.deref-4.result.now ≡ list)
its_steps c list same = (ap (first_off c.args.mesh.now) (sym (c.deref-3.ensures.value ∙ same)) ∙ sym c.in_default-first_gap.ensures.place, c.deref-4.ensures.value ∙ same)

pub read_numbers-requires : goal.read_numbers-requires
read_numbers-requires c =
    let is : lines_of c.args.text.now ≡ text_line c.in-Some.line ∷ c.next_line.new.self = sym c.over-lines.ensures.lines ∙ c.in-Some.ensures.next in
    let few = few_tokens c.args.text.now (text_line c.in-Some.line) c.next_line.new.self is in
    let same = ap (λ (w : TokenWalk). length w.tokens) c.over.ensures.tokens in
    record { few = omega (arith, few, same, c.requires.short) }

pub returns-in-Some-first_gap-clause-walk : goal.returns-in-Some-first_gap-clause-walk
returns-in-Some-first_gap-clause-walk c = λ other.
    let (is, read, vertices, same) = its_line (goal.at.returns-in-Some-first_gap-clause-walk c).After-first_gap in
    gap c.args.mesh.now c.args.text.now _ _ is _ read vertices c.in-Some-first_gap.place (ap (first_off c.args.mesh.now) (sym (c.deref-3.ensures.value ∙ same)) ∙ sym c.in-Some-first_gap.ensures.place)

pub returns-then-not-is_round-clause-walk : goal.returns-then-not-is_round-clause-walk
returns-then-not-is_round-clause-walk c = λ other.
    let at = goal.at.returns-then-not-is_round-clause-walk c in
    let (is, read, vertices, same) = its_line at.After-first_gap in
    let (joined, seen) = its_steps at.After-is_round c.in_ok-numbers.numbers.items same in
    let round : eqb (first c.in_ok-numbers.numbers.items) (last c.in_ok-numbers.numbers.items) ≡ false = ap (λ (xs : List ℕ). eqb (first xs) (last xs)) (sym seen) ∙ sym c.if-not-is_round.ensures.round in
    unclosed c.args.mesh.now c.args.text.now _ _ is _ read vertices joined round

pub returns-in-Some-next_line-clause-walk : goal.returns-in-Some-next_line-clause-walk
returns-in-Some-next_line-clause-walk c = λ other.
    let at = goal.at.returns-in-Some-next_line-clause-walk c in
    let (is, read, vertices, same) = its_line at.After-first_gap in
    let (joined, seen) = its_steps at.After-is_round c.in_ok-numbers.numbers.items same in
    let round : eqb (first c.in_ok-numbers.numbers.items) (last c.in_ok-numbers.numbers.items) ≡ true = ap (λ (xs : List ℕ). eqb (first xs) (last xs)) (sym seen) ∙ sym c.if-not-is_round.ensures.round in
    trailing c.args.mesh.now c.args.text.now _ _ is _ read vertices joined round (text_line c.in-Some-next_line.line) c.next_line-2.new.self c.in-Some-next_line.ensures.next

pub returns-clause-walk : goal.returns-clause-walk
returns-clause-walk c =
    let at = goal.at.returns-clause-walk c in
    let (is, read, vertices, same) = its_line at.After-first_gap in
    let (joined, seen) = its_steps at.After-is_round c.in_ok-numbers.numbers.items same in
    let round : eqb (first c.in_ok-numbers.numbers.items) (last c.in_ok-numbers.numbers.items) ≡ true = ap (λ (xs : List ℕ). eqb (first xs) (last xs)) (sym seen) ∙ sym c.if-not-is_round.ensures.round in
    alone c.args.mesh.now c.args.text.now _ _ is _ read vertices joined round c.in-None.ensures.next.0 ∙ ap (λ (xs : List ℕ). Ok xs) (sym (c.from_vertices.ensures ∙ same))

pub returns-clause-closed : goal.returns-clause-closed
returns-clause-closed c =
    let at = goal.at.returns-clause-closed c in
    let (is, read, vertices, same) = its_line at.After-first_gap in
    let (joined, seen) = its_steps at.After-is_round c.in_ok-numbers.numbers.items same in
    let round : eqb (first c.in_ok-numbers.numbers.items) (last c.in_ok-numbers.numbers.items) ≡ true = ap (λ (xs : List ℕ). eqb (first xs) (last xs)) (sym seen) ∙ sym c.if-not-is_round.ensures.round in
    subst (λ (xs : List ℕ). IsClosed c.args.mesh.now xs) (sym (c.from_vertices.ensures ∙ same)) (closed c.args.mesh.now c.args.text.now _ _ is _ read vertices joined round)
