use Rattle.surf_surfaces.proofs.Common.{rules, ◌≡◌, edge_count, ◌<◌, ◌^◌, ℕ, List, length, slice_index, get_or-replicate, sym, ap, ◌∙◌, subst, arith, pow_pos}
use Rattle.surf_signatures.specs.Tables.{Signed}
use Rattle.surf_paired.specs.Paired.{ArePairedRows}
use Rattle.surf_sheetfind.specs.Pairs.{classes_of}
use Rattle.surf_sheetfind.specs.Listed.{edge_image, AreEdgeRows, AreVertexRows, IsVertexCert}
use Rattle.surf_sheetfind.proofs.vertices.cert_from.Goals as goal

pub returns-clause-made : goal.returns-clause-made
returns-clause-made c =
    let mesh = c.args.mesh.now in
    let count : c.len-count.result ≡ length c.args.cycles.items = search rules in
    subst (IsVertexCert c.args.mesh.now c.args.signatures.now.signatures) (sym c.make-2.ensures.parts) (record {
      vertices = c.vertices-2.ensures.count;
      faces = c.faces.ensures.count;
      rows = c.in_ok-rows.rows.sets;
      as_many = c.in_ok-rows.ensures.rows.count_is ∙ ap length c.deref.ensures.value;
      paired =
          subst (λ (ws : List (List ℕ)). ArePairedRows (classes_of c.args.mesh.now c.args.signatures.now.signatures ws)
          c.in_ok-rows.rows.sets (length ws)) c.deref.ensures.value c.in_ok-rows.ensures.paired;
      labels = c.in_ok-labels.labels.sets;
      labels_small = λ v l.
          subst (λ x. x < 2 ^ length c.in_ok-rows.rows.sets)
          (sym (ap (λ (s : Signed). slice_index s.sets v) c.in_ok-labels.ensures.made
          ∙ get_or-replicate c.vertices.result v 0 0 (omega (arith, l, c.vertices.ensures.count))))
          (pow_pos (length c.in_ok-rows.rows.sets));
      edges =
          subst (λ n. AreEdgeRows mesh
          (edge_image mesh c.in_ok-rows.rows.sets c.args.signatures.now.signatures c.in_ok-labels.labels.sets) n
          (edge_count mesh) c.in_ok-listed.listed.edges.items c.in_ok-listed.listed.numbers) count
          c.in_ok-listed.ensures.listed;
      sheets =
          subst (λ n. AreVertexRows n c.in_ok-listed.listed.edges.items (length c.in_ok-listed.listed.edges.items)
          c.in_ok-sheets.sheets.items) count
          (subst (λ (ps : List (ℕ × ℕ)). AreVertexRows c.len-count.result ps (length ps) c.in_ok-sheets.sheets.items)
          c.deref-2.ensures.value c.in_ok-sheets.ensures.sheets);
    })
