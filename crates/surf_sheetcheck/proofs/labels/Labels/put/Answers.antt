use Rattle.surf_surfaces.proofs.Common.{rules, ◌≡◌, ◌≢◌, ◌++◌, ◌∷◌, ℕ, [], Some, length, map, set, ap, ◌∙◌, arith, Option, List}
use Rattle.surf_base.specs.Tables.{nobody}
use Rattle.surf_sheetcheck.specs.Labels.{shared_label}
use Rattle.surf_sheetcheck.proofs.Sharing.{put_is}
use Rattle.surf_sheetcheck.proofs.labels.Labels.put.Goals as goal

pub returns : goal.returns
returns c =
    let s = c.self.inside in
    let ids = s.ids.items in
    let rows = s.rows.items in
    let id : c.len-id.result ≡ length rows = search rules in
    let few : length rows ≢ nobody = omega (arith, id, c.if-id.false) in
    let items : c.push.new.self.items ≡ rows ++ c.args.label ∷ [] = search rules in
    record {
      put = ap (λ ys. map (shared_label ys) (set ids c.args.v c.len-id.result)) items
          ∙ ap (λ n. map (shared_label (rows ++ c.args.label ∷ [])) (set ids c.args.v n)) id
          ∙ put_is ids rows c.args.v c.args.label c.self.invariant few
          ∙ ap (λ (xs : List (Option ℕ)). set xs c.args.v (Some c.args.label)) c.self.view_is;
    }
