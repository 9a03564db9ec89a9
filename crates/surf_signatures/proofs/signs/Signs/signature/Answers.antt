use Rattle.surf_surfaces.proofs.Common.{◌≡◌, ◌≢◌, ◌<◌, ◌*◌, ◌^◌, ◌∙◌, ℕ, [], lit<, sym, ap, subst, arith, length, take, drop, get_or, vec_len, eqb-true, eqb-false, nil_from_length}
use Rattle.std.proofs.Math.Seq.{take-nil, drop-nil}
use Rattle.surf_signatures.specs.Tables.{words_for}
use Rattle.surf_signatures.proofs.Written.{row_room, row_lent}
use Rattle.surf_signatures.proofs.signs.Signs.signature.Goals as goal

pub returns-then-is_empty : goal.returns-then-is_empty
returns-then-is_empty c =
    let s = c.self.inside in
    let w = words_for s.width in
    let none : vec_len s.table ≡ 0 = eqb-true (vec_len s.table) 0 (sym c.is_empty.ensures ∙ c.if-is_empty.true) in
    let empty : s.table.items ≡ [] = nil_from_length s.table.items (omega (arith, none)) in
    let row : c.deref.result.now ≡ take w (drop (c.args.e * w) s.table.items) = rw (c.deref.ensures.value, empty) (sym (take-nil w) ∙ ap (take w) (sym (drop-nil (c.args.e * w)))) in
    let fit : (k : ℕ) → get_or c.deref.result.now k 0 < 2 ^ 64 = λ k. rw (c.deref.ensures.value, empty) (lit< tt) in
    let lent = row_lent c.args.self.now s.width s.edges c.args.e s.table.items c.self.view_is c.requires.edge c.deref.result.now row fit in
    record {
      set = c.over.ensures ∙ lent.0;
      within = subst (λ n. n < 2 ^ (64 * words_for c.args.self.now.width)) (sym c.over.ensures) lent.1;
    }

pub words_at-requires : goal.words_at-requires
words_at-requires c =
    let s = c.self.inside in
    let filled : vec_len s.table ≢ 0 = eqb-false (vec_len s.table) 0 (sym c.is_empty.ensures ∙ c.if-is_empty.false) in
    let some : 0 < length s.table.items = omega (arith, filled) in
    let room = row_room c.args.self.now s.width s.edges c.args.e s.table.items c.self.view_is c.requires.edge (c.self.invariant.1 some) in
    record { room = rw (c.index.ensures, c.words_of-words.ensures.words, c.deref-2.ensures.value) room }

pub returns : goal.returns
returns c =
    let s = c.self.inside in
    let w = words_for s.width in
    let row : c.words_at.result.now ≡ take w (drop (c.args.e * w) s.table.items) =
    c.words_at.ensures.words ∙ rw (c.index.ensures, c.words_of-words.ensures.words, c.deref-2.ensures.value) in
    let lent = row_lent c.args.self.now s.width s.edges c.args.e s.table.items c.self.view_is c.requires.edge c.words_at.result.now row c.words_at.ensures.fit in
    record {
      set = c.over-2.ensures ∙ lent.0;
      within = subst (λ n. n < 2 ^ (64 * words_for c.args.self.now.width)) (sym c.over-2.ensures) lent.1;
    }
