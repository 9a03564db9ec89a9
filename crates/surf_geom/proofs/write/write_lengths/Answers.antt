use Rattle.surf_surfaces.proofs.Common.{◌≡◌, ◌<◌, ℕ, List, length, get_or, refl, subst, arith, slice_index, zip, err_from_is_err_and, edges, ends}
use Rattle.std.proofs.lemmas.Slice.Zip.{length-zip, get_or-zip}
use Rattle.surf_text.specs.Pages.{Puts}
use Rattle.surf_text.proofs.Writing.{loop_more, loop_stop, loop_done}
use Rattle.surf_geom.specs.Texts.{entry_text}
use Rattle.surf_geom.proofs.Entries.{entries_text}
use Rattle.surf_geom.proofs.Reread.{reread}
use Rattle.surf_geom.proofs.write.write_lengths.Goals as goal

pub returns-in_err-write_entry-clause-reread : goal.returns-in_err-write_entry-clause-reread
returns-in_err-write_entry-clause-reread c =
    let vertices = c.law_of_surface.ensures.vertices in
    reread c.args.mesh.now c.args.lengths.now c.law_of_surface.ensures.surface.is_mesh (omega arith) c.law_of_lengths.ensures.lengths c.requires.count

pub returns-in_err-write_entry-clause-puts : goal.returns-in_err-write_entry-clause-puts
returns-in_err-write_entry-clause-puts c =
    let mesh = c.args.mesh.now in
    let lengths = c.args.lengths.now in
    let xs = zip (edges mesh) lengths in
    let e = c.loop-e.e in
    let piece : (ℕ × ℕ) × ℕ → List ℕ = λ entry. entry_text entry.0 entry.1 in
    let lt : e < length xs = omega (arith, length-zip (edges mesh) lengths) in
    let at : get_or xs e ((0, 0), 0) ≡ (ends mesh e, slice_index lengths e) = get_or-zip (edges mesh) lengths e ((0, 0), 0) (omega arith) (omega arith) in
    let put = subst (λ (k : ℕ). Puts c.loop-e.page c.write_entry.new.page (entry_text (ends mesh k) (slice_index lengths k)) c.write_entry.result) c.new.ensures c.write_entry.ensures.puts in
    let one : Puts c.loop-e.page c.write_entry.new.page (piece (get_or xs e ((0, 0), 0))) c.write_entry.result = rw at put in
    let p = err_from_is_err_and c.from_residual.result c.from_residual.ensures.1 in
    loop_stop entries_text piece refl (λ x xs. refl) xs e ((0, 0), 0) lt c.args.page.now c.loop-e.page c.write_entry.new.page (tt {0}) c.loop-e.invariant.puts c.write_entry.result c.in_err-write_entry.field-0.0 c.from_residual.result c.in_err-write_entry.was (rw (p.1, p.2) refl) one

pub loop-e-preserved : goal.loop-e-preserved
loop-e-preserved c =
    let mesh = c.args.mesh.now in
    let lengths = c.args.lengths.now in
    let xs = zip (edges mesh) lengths in
    let e = c.loop-e.e in
    let piece : (ℕ × ℕ) × ℕ → List ℕ = λ entry. entry_text entry.0 entry.1 in
    let lt : e < length xs = omega (arith, length-zip (edges mesh) lengths) in
    let at : get_or xs e ((0, 0), 0) ≡ (ends mesh e, slice_index lengths e) = get_or-zip (edges mesh) lengths e ((0, 0), 0) (omega arith) (omega arith) in
    let put = subst (λ (k : ℕ). Puts c.loop-e.page c.write_entry.new.page (entry_text (ends mesh k) (slice_index lengths k)) c.write_entry.result) c.new.ensures c.write_entry.ensures.puts in
    let one : Puts c.loop-e.page c.write_entry.new.page (piece (get_or xs e ((0, 0), 0))) c.write_entry.result = rw at put in
    record { puts = loop_more entries_text piece refl (λ x xs. refl) xs e ((0, 0), 0) lt c.args.page.now c.loop-e.page c.write_entry.new.page (tt {0}) c.loop-e.invariant.puts c.write_entry.result c.in_ok-write_entry.field-0 c.in_ok-write_entry.was one }

pub returns : goal.returns
returns c =
    let mesh = c.args.mesh.now in
    let lengths = c.args.lengths.now in
    let xs = zip (edges mesh) lengths in
    let piece : (ℕ × ℕ) × ℕ → List ℕ = λ entry. entry_text entry.0 entry.1 in
    let vertices = c.law_of_surface.ensures.vertices in
    record {
      puts = loop_done entries_text piece refl (λ x xs. refl) xs c.loop-e.e c.args.page.now c.loop-e.page (tt {0}) (omega (arith, length-zip (edges mesh) lengths)) c.loop-e.invariant.puts;
      reread = reread mesh lengths c.law_of_surface.ensures.surface.is_mesh (omega arith) c.law_of_lengths.ensures.lengths c.requires.count;
    }
