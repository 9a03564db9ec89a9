use Rattle.surf_surfaces.proofs.Common.{◌≡◌, ◌∷◌, [], replicate, length, false, ap, ◌∙◌, rules, face_count}
use Rattle.surf_check.proofs.GrowthLaws.{grows_start}
use Rattle.surf_check.proofs.growth.start.Goals as goal

pub returns : goal.returns
returns c =
    let mesh = c.args.mesh.now in
    let n = c.faces-count.ensures.count in
    let seen : c.in_ok-seen.seen.items ≡ replicate (face_count mesh) false =
    (let own : c.in_ok-seen.seen.items ≡ replicate c.faces-count.result false = search rules in own)
    ∙ ap (λ k. replicate k false) n in
    let rank : c.in_ok-vec-3.field-0.items ≡ replicate (face_count mesh) 0 =
    (let own : c.in_ok-vec-3.field-0.items ≡ replicate c.faces-count.result 0 = search rules in own)
    ∙ ap (λ k. replicate k 0) n in
    let parents : length c.in_ok-vec.field-0.items ≡ c.faces-count.result = search rules in
    let ups : length c.in_ok-vec-2.field-0.items ≡ c.faces-count.result = search rules in
    let flags : length c.in_ok-vec-4.field-0.items ≡ c.faces-count.result = search rules in
    let listed : c.push.new.self.items ≡ 0 ∷ [] = search rules in (
      rw (seen, listed) (grows_start mesh c.faces-count.ensures.surface.some_face c.in_ok-vec.field-0.items
          c.in_ok-vec-2.field-0.items c.in_ok-vec-3.field-0.items c.in_ok-vec-4.field-0.items
          (parents ∙ n) (ups ∙ n) (flags ∙ n) rank),
      listed,
    )
