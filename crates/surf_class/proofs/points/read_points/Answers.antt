use Rattle.surf_cert.proofs.Common.{◌≡◌, ◌<◌, ◌∷◌, length, List, ℕ, sym, ap, ◌∙◌, subst, arith, Ok, None, nat_le, All, position, lines_of, tokens_of, TokenWalk, text_line}
use Rattle.surf_class.proofs.Common.{numbers_from}
use Rattle.surf_class.proofs.LineSizes.{few_tokens}
use Rattle.surf_class.proofs.PointLines.{trailing, alone, inside}
use Rattle.surf_class.proofs.points.read_points.Goals as goal
use Rattle.surf_class.proofs.points.read_points.Goals.{After-branch-points}

-- the first line is read as a list of vertices
its_line : (c : After-branch-points) → (lines_of c.args.text.now ≡ text_line c.in-Some.line ∷ c.next_line.new.self) × (numbers_from 0 (tokens_of (text_line c.in-Some.line).bytes) ≡ Ok c.in_ok-numbers.numbers.items)
    × (position (λ v. nat_le c.args.mesh.now.vertices v) c.in_ok-numbers.numbers.items ≡ None)
its_line c = (
  sym c.over-lines.ensures.lines ∙ c.in-Some.ensures.next,
  ap (λ (w : TokenWalk). numbers_from 0 w.tokens) (sym c.over.ensures.tokens) ∙ c.in_ok-numbers.ensures.numbers,
  ap (position (λ v. nat_le c.args.mesh.now.vertices v)) (sym c.deref.ensures.value) ∙ sym c.in_default-first_stranger.ensures.place,
)

pub read_numbers-requires : goal.read_numbers-requires
read_numbers-requires c =
    let is : lines_of c.args.text.now ≡ text_line c.in-Some.line ∷ c.next_line.new.self = sym c.over-lines.ensures.lines ∙ c.in-Some.ensures.next in
    let few = few_tokens c.args.text.now (text_line c.in-Some.line) c.next_line.new.self is in
    let same = ap (λ (w : TokenWalk). length w.tokens) c.over.ensures.tokens in
    record { few = omega (arith, few, same, c.requires.short) }

pub returns-in-Some-next_line-clause-points : goal.returns-in-Some-next_line-clause-points
returns-in-Some-next_line-clause-points c = λ other.
    let (is, read, vertices) = its_line (goal.at.returns-in-Some-next_line-clause-points c).After-branch-points in
    trailing c.args.mesh.now c.args.text.now _ _ is _ read vertices (text_line c.in-Some-next_line.line) c.next_line-2.new.self c.in-Some-next_line.ensures.next

pub returns-clause-points : goal.returns-clause-points
returns-clause-points c =
    let (is, read, vertices) = its_line (goal.at.returns-clause-points c).After-branch-points in
    alone c.args.mesh.now c.args.text.now _ _ is _ read vertices c.in-None.ensures.next.0 ∙ ap (λ (xs : List ℕ). Ok xs) (sym (c.in_ok-points.ensures.vertices ∙ c.deref-2.ensures.value))

pub returns-clause-inside : goal.returns-clause-inside
returns-clause-inside c =
    let (is, read, vertices) = its_line (goal.at.returns-clause-inside c).After-branch-points in
    subst (λ (xs : List ℕ). All (λ v. v < c.args.mesh.now.vertices) xs) (sym (c.in_ok-points.ensures.vertices ∙ c.deref-2.ensures.value))
    (inside c.args.mesh.now c.args.text.now _ _ is _ read vertices)
