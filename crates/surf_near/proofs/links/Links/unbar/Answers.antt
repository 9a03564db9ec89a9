use Rattle.surf_near.proofs.Common.{◌≡◌, false, replicate, length, length-replicate, ap, ◌∙◌, arith, LinkTables, barred_lengths}
use Rattle.std.specs.Prelude.{vec_len}
use Rattle.surf_near.proofs.Barring.{none_barred}
use Rattle.surf_near.proofs.links.Links.unbar.Goals as goal

pub invariant_of-self : goal.invariant_of-self
invariant_of-self c =
    let inside = c.self.inside in
    let kept = c.self.invariant in
    let many = vec_len inside.barred in
    let is : c.fill.new.self.items ≡ replicate many false = c.fill.ensures.items (λ y same. same) in
    record {
      links = kept.links;
      flags = omega (arith, ap length is, length-replicate many false, kept.flags);
      even_is = kept.even_is;
      sizes_are = kept.sizes_are;
      none = λ no. rw is (none_barred inside.mesh.now inside.lengths.now many);
    }

pub returns-clause-lengths : goal.returns-clause-lengths
returns-clause-lengths c =
    let inside = c.self.inside in
    let many = vec_len inside.barred in
    let is : c.fill.new.self.items ≡ replicate many false = c.fill.ensures.items (λ y same. same) in
    ap (λ flags. barred_lengths inside.mesh.now flags inside.lengths.now) is
    ∙ none_barred inside.mesh.now inside.lengths.now many ∙ ap (λ (t : LinkTables). t.given) c.self.view_is
