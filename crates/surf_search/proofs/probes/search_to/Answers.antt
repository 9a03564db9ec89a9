use Rattle.surf_search.proofs.Common.{Option, subst, on_ok_weaker, Candidate, limit_of, IsCapped}
use Rattle.surf_search.proofs.Rounded.{probed}
use Rattle.surf_search.proofs.probes.search_to.Goals as goal

pub returns-clause-kept : goal.returns-clause-kept
returns-clause-kept c =
    let f = c.args.finder.now in
    let old = c.args.choice.now in
    let limit = c.capped-limit.result in
    let capped : IsCapped (limit_of old) c.args.most limit =
    subst (λ (o : Option Candidate). IsCapped o c.args.most limit) c.limit.ensures.limit c.capped-limit.ensures.capped in
    on_ok_weaker c.keep_at.result
    (λ next. probed f c.args.base c.args.most old c.keep_at.new.choice limit c.law_of_finder.ensures.surface
    c.law_of_finder.ensures.positive c.requires.few.0 c.requires.few.1 c.requires.base capped next) c.keep_at.ensures.kept
