use Rattle.std.proofs.Common.{◌≤◌, ap, ◌∙◌, subst, arith}
use Rattle.surf_off.specs.Places.{Places, EndWithin}
use Rattle.surf_off.proofs.Fronts.{front_same, wider}
use Rattle.surf_off.proofs.off_places.OffPlaces.front.Goals as goal

pub returns-clause-same : goal.returns-clause-same
returns-clause-same c text _ =
    let places = c.args.self.now in
    let lines : EndWithin c.front_of.result places.vertex_lines =
    subst (EndWithin c.front_of.result) (c.deref.ensures.value ∙ ap (λ (p : Places). p.vertex_lines) c.self.view_is) c.front_of.ensures.within in
    let colours : EndWithin c.front_of-2.result places.colours =
    subst (EndWithin c.front_of-2.result) (c.deref-2.ensures.value ∙ ap (λ (p : Places). p.colours) c.self.view_is) c.front_of-2.ensures.within in
    let most = c.max.ensures in
    let left : c.front_of.result ≤ c.max.result = omega (arith, most) in
    let right : c.front_of-2.result ≤ c.max.result = omega (arith, most) in
    front_same text c.max.result places (record {
      vertex_lines = wider c.front_of.result c.max.result places.vertex_lines left lines;
      colours = wider c.front_of-2.result c.max.result places.colours right colours;
    })
