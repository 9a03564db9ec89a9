use Rattle.surf_surfaces.proofs.Common.{◌≤◌, ◌<◌, ◌*◌, ◌^◌, ◌≡◌, ◌∙◌, [], refl, lit<, sym, subst, arith, pow-le-pow_right, eqb-true, vec_len, nil_from_length}
use Rattle.surf_signatures.specs.Tables.{Signed, words_for}
use Rattle.surf_signatures.proofs.Rewritten.{rows_empty}
use Rattle.surf_signatures.proofs.signs.Signs.add_where.Goals as goal

pub returns-then-is_empty : goal.returns-then-is_empty
returns-then-is_empty c =
    let s = c.self.inside in
    let none : vec_len s.table ≡ 0 = eqb-true (vec_len s.table) 0 (sym c.is_empty.ensures ∙ c.if-is_empty.true) in
    let empty : s.table.items ≡ [] = nil_from_length s.table.items (omega (arith, none)) in
    record {
      sets = rw (← c.self.view_is, empty) (rows_empty (words_for s.width) c.args.k c.args.other.now s.edges);
      width = refl;
    }

pub add_to_rows-requires-clause-fits : goal.add_to_rows-requires-clause-fits
add_to_rows-requires-clause-fits c =
    let width = c.self.inside.width in
    let fits : c.args.other.now < 2 ^ width =
    subst (λ (t : Signed). c.args.other.now < 2 ^ t.width) (sym c.self.view_is) c.requires.fits in
    let enough : width ≤ 64 * c.words_of-words.result = omega (arith, c.words_of-words.ensures.words) in
    let more : 2 ^ width ≤ 2 ^ (64 * c.words_of-words.result) = pow-le-pow_right (lit< tt) enough in
    omega (arith, fits, more)
