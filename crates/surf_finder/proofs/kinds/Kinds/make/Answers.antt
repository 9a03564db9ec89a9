use Rattle.surf_finder.proofs.Common.{◌≡◌, slice_index, ap, ◌∙◌, signs_of}
use Rattle.surf_finder.proofs.Kinded.{kinds_more}
use Rattle.surf_finder.proofs.kinds.Kinds.make.Goals as goal

pub loop-e-preserved : goal.loop-e-preserved
loop-e-preserved c =
    let s = signs_of c.args.cotree.now in
    let own : c.signature.result ≡ slice_index s.signatures c.loop-e.e = c.signature.ensures.signature ∙ ap (slice_index s.signatures) c.new.ensures in
    let kind = c.in_ok-kind.ensures.kind in
    kinds_more s c.loop-e.e c.in_ok-kind.kind c.loop-e.of.items c.push.new.self.items c.loop-e.list c.kind_of.new.list c.loop-e.invariant
    c.in_ok-push.ensures.items kind.0 (kind.1 ∙ own) (λ none. c.in_ok-kind.ensures.plain (own ∙ none))
    c.in_ok-kind.ensures.more c.in_ok-kind.ensures.one c.in_ok-kind.ensures.same
