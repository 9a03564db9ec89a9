use Rattle.surf_search.proofs.Common.{Option, subst, arith, Candidate, limit_of, IsKeptAt}
use Rattle.surf_search.proofs.Rounded.{begun_at}
use Rattle.surf_search.proofs.Capping.{capped_all}
use Rattle.surf_search.proofs.rounds.begin.Goals as goal

pub returns-clause-kept : goal.returns-clause-kept
returns-clause-kept c =
    let f = c.args.finder.now in
    let old = c.args.choice.now in
    let new = c.keep_at.new.choice in
    let next = subst (λ (o : Option Candidate). IsKeptAt f c.new.result o old new) c.limit-limit.ensures.limit c.in_ok-keep_at.ensures.kept in
    begun_at f c.args.reached.now c.new.result old new (limit_of old) c.law_of_finder.ensures.surface c.law_of_finder.ensures.positive
    c.requires.few.0 c.requires.few.1 (omega (arith, c.new.ensures)) c.requires.base (omega (arith, c.requires.base, c.requires.reached))
    (capped_all (limit_of old) 18446744073709551615 (omega arith)) next c.requires.kept
