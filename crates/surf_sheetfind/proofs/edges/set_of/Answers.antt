use Rattle.surf_surfaces.proofs.Common.{◌<◌, ℕ, length, slice_index, bit_xor, numbers, sym, ap, ◌∙◌, subst, arith, ends}
use Rattle.surf_surfaces.proofs.meshes.CellLaws.{ends_in}
use Rattle.surf_paired.specs.Paired.{image}
use Rattle.surf_sheetfind.proofs.edges.set_of.Goals as goal

pub of-requires : goal.of-requires
of-requires c =
    let inside = ends_in c.args.sets.now.mesh.now c.law_of_surface.ensures.surface c.args.edge c.requires.edge in
    let many = c.requires.sets.labels in
    record {
      vertex = subst (λ (p : ℕ × ℕ). p.0 < length c.args.sets.now.labels.now.sets) (sym c.ends-u.ensures)
          (omega (arith, inside.0, many));
    }

pub of-requires-2 : goal.of-requires-2
of-requires-2 c =
    let inside = ends_in c.args.sets.now.mesh.now c.law_of_surface.ensures.surface c.args.edge c.requires.edge in
    let many = c.requires.sets.labels in
    record {
      vertex = subst (λ (p : ℕ × ℕ). p.1 < length c.args.sets.now.labels.now.sets) (sym c.ends-u.ensures)
          (omega (arith, inside.1, many));
    }

pub returns : goal.returns
returns c =
    let rows = c.args.sets.now.rows.now.sets in
    let labels = c.args.sets.now.labels.now.sets in
    let im = c.image_of-set.result in
    record {
      set = c.add-2.ensures ∙ ap (λ x. bit_xor x c.of-2.result) c.add.ensures
          ∙ numbers.assoc im c.of.result c.of-2.result
          ∙ ap (λ x. bit_xor x (bit_xor c.of.result c.of-2.result))
          (c.image_of-set.ensures.image ∙ ap (image rows) c.signature.ensures.signature)
          ∙ ap (λ x. bit_xor (image rows (slice_index c.args.sets.now.signatures.now.signatures c.args.edge)) (bit_xor x c.of-2.result))
          (c.of.ensures.set ∙ ap (λ (p : ℕ × ℕ). slice_index labels p.0) c.ends-u.ensures)
          ∙ ap (λ x. bit_xor (image rows (slice_index c.args.sets.now.signatures.now.signatures c.args.edge))
          (bit_xor (slice_index labels (ends c.args.sets.now.mesh.now c.args.edge).0) x))
          (c.of-2.ensures.set ∙ ap (λ (p : ℕ × ℕ). slice_index labels p.1) c.ends-u.ensures);
    }
