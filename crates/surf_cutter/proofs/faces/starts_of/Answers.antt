use Rattle.surf_slit.proofs.Common.{◌≡◌, ◌+◌, ◌<◌, ◌∷◌, ◌++◌, [], ℕ, length, ap, sym, subst, ◌∙◌, arith, rules, face_count, face_at, first_side, spans}
use Rattle.surf_cutter.proofs.Common.{AreStartsTo}
use Rattle.surf_cutter.proofs.FaceTables.{starts_more}
use Rattle.surf_cutter.proofs.faces.starts_of.Goals as goal

pub loop-f-preserved : goal.loop-f-preserved
loop-f-preserved c =
    let mesh = c.args.mesh.now in
    let f = c.loop-f.f in
    let starts = c.loop-f.starts.items in
    let end : ℕ = c.loop-f.end + length c.face.result.now in
    let lt : f < face_count mesh = omega (arith, c.loop-f-test.true, c.faces-count.ensures.count) in
    let size : length c.face.result.now ≡ length (face_at mesh f) = ap length c.face.ensures.corners ∙ ap (λ (g : ℕ). length (face_at mesh g)) c.new.ensures in
    let is : end ≡ first_side mesh f + length (face_at mesh f) = omega (arith, c.loop-f.invariant.end, size) in
    let items : c.push-in-loop-f.new.self.items ≡ starts ++ end ∷ [] = search rules in
    let sp = spans mesh.faces f lt in
    record {
      starts = subst (AreStartsTo mesh (f + 1)) (sym items) (starts_more mesh f end starts lt c.loop-f.invariant.starts is);
      end = omega (arith, is, sp.0);
    }
