use Rattle.surf_surfaces.proofs.Common.{◌≡◌, ◌∙◌, ◌<◌, ℕ, List, get_or, length, sym, ap, subst, arith, inl, inr, cases_eq, eqb-true, eq-eqb, true≢false, get_or_read, Mesh, side_count}
use Rattle.surf_soup.specs.Half.{AreAllMates}
use Rattle.surf_soup.specs.Vertices.{all_corners}
use Rattle.surf_soup.proofs.VertexLaws.{corners_len, corner_read}
use Rattle.surf_check.specs.Kinds.{BeginsWithMate}
use Rattle.surf_check.proofs.one_way.begin_apart.Goals as goal

-- the mate that is read of a side
mate_read : {mesh : Mesh} {mate : List ℕ} {side m : ℕ} → AreAllMates mesh mate → side < length mate →
    m ≡ get_or mate side m → (m ≡ get_or mate side 0) × (m < side_count mesh)
mate_read {mate = mate} {side} {m} mates in_mate is =
    let read = get_or_read mate side m in_mate is 0 in
    (read, omega (arith, read, (mates.mates side (omega (arith, mates.size))).is_side))

-- what is read of the two
tails_read : {mesh : Mesh} {tails mate : List ℕ} {side m i a b : ℕ} → AreAllMates mesh mate →
    tails ≡ all_corners mesh → side < length mate → m ≡ get_or mate side m → i ≡ m → a ≡ get_or tails i a →
    b ≡ get_or tails side b →
    (a ≡ get_or (all_corners mesh) (get_or mate side 0) 0) × (b ≡ get_or (all_corners mesh) side 0)
tails_read {mesh} {tails} {side = side} {m} {i} {a} {b} mates are in_mate m_is i_is a_is b_is =
    let across = mate_read mates in_mate m_is in (
      corner_read mesh tails i a are (omega (arith, across.1)) a_is
          ∙ ap (λ j. get_or (all_corners mesh) j 0) (i_is ∙ across.0),
      corner_read mesh tails side b are (omega (arith, mates.size)) b_is,
    )

pub bounds-tails-index : goal.bounds-tails-index
bounds-tails-index c =
    let across = mate_read c.requires.mates c.loop-side-test.true c.index-mate-side.is in
    omega (arith, across.1, c.index.ensures, ap length c.corners-tails.ensures, corners_len c.args.soup.now)

pub bounds-tails-side : goal.bounds-tails-side
bounds-tails-side c = omega (
  arith,
  c.requires.mates.size,
  c.loop-side-test.true,
  ap length c.corners-tails.ensures,
  corners_len c.args.soup.now,
)

pub returns-then-eq : goal.returns-then-eq
returns-then-eq c =
    let read = tails_read c.requires.mates c.corners-tails.ensures c.loop-side-test.true c.index-mate-side.is
    c.index.ensures c.index-tails-index.is c.index-tails-side.is in
    let same = eqb-true c.index-tails-index.result c.index-tails-side.result (sym c.if-eq.ensures) in
    (c.loop-side.side, omega (arith, c.requires.mates.size, c.loop-side-test.true), sym read.0 ∙ same ∙ read.1)

pub loop-side-preserved : goal.loop-side-preserved
loop-side-preserved c = λ s below with_mate.
    let read = tails_read c.requires.mates c.corners-tails.ensures c.loop-side-test.true c.index-mate-side.is
    c.index.ensures c.index-tails-index.is c.index-tails-side.is in
    elim (cases_eq s c.loop-side.side) [
      | inl is ↦
          let here = subst (BeginsWithMate c.args.soup.now c.args.mate.now) is with_mate in
          true≢false (sym (c.if-eq.ensures ∙ eq-eqb c.index-tails-index.result c.index-tails-side.result
          (read.0 ∙ here ∙ sym read.1)))
      | inr ne ↦ c.loop-side.invariant s (omega arith) with_mate
    ]
