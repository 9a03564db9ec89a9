use Rattle.surf_surfaces.proofs.Common.{inl, inr, ◌≡◌, ◌≤◌, ◌∙◌, ap, sym, subst, length, arith, cases_lt, edge_count, with_items_is, with_items}
use Rattle.surf_signatures.specs.Tables.{Signed, words_for}
use Rattle.surf_signatures.proofs.Written.{rows-length, signatures_written}
use Rattle.surf_signatures.proofs.signs.Signs.write.Goals as goal

pub fill_up-requires : goal.fill_up-requires
fill_up-requires c =
    let s = c.self.inside in
    let is : c.words_of-words.result ≡ words_for s.width = c.words_of-words.ensures.words in
    record {
      room = rw is c.self.invariant.2;
      few = rw is (elim (cases_lt 0 (length s.table.items)) [
        | inl some ↦ let whole = c.self.invariant.1 some in omega (arith, whole)
        | inr none ↦ omega (arith, none)
      ]);
    }

pub write_signs-requires-clause-room : goal.write_signs-requires-clause-room
write_signs-requires-clause-room c =
    let s = c.self.inside in
    let count : s.edges ≡ edge_count c.args.mesh.now =
    sym (rows-length (words_for s.width) s.edges s.table.items)
    ∙ ap (λ (t : Signed). length t.sets) c.self.view_is ∙ c.requires.room in
    rw (c.deref_mut.ensures.value, ← count) c.fill_up.ensures.filled

pub returns-clause-signed : goal.returns-clause-signed
returns-clause-signed c = λ d split hangs same.
    let mesh = c.args.mesh.now in
    let s = c.self.inside in
    let w = words_for s.width in
    let signs = c.write_signs.new.signs in
    let left = c.args.left.now in
    let is : c.words_of-words.result ≡ w = c.words_of-words.ensures.words in
    let count : s.edges ≡ edge_count mesh =
    sym (rows-length w s.edges s.table.items) ∙ ap (λ (t : Signed). length t.sets) c.self.view_is ∙ c.requires.room in
    let few : length left ≤ s.width = subst (λ (t : Signed). length left ≤ t.width) (sym c.self.view_is) c.requires.few in
    let kept : (with_items c.fill_up.new.table signs).items ≡ signs =
    with_items_is c.fill_up.new.table signs (omega (arith, c.deref_mut.ensures.len)) in
    rw (kept, count) (signatures_written mesh c.args.parent.now c.args.up.now c.args.depth.now left w signs (record {
      surface = c.law_of_surface.ensures.surface;
      tree = c.requires.tree;
      enough = omega (arith, few);
      fit = c.write_signs.ensures.fit;
      rest = rw is at c.write_signs.ensures.rest;
      signed = rw is at c.write_signs.ensures.signature;
    }) d split hangs same)
