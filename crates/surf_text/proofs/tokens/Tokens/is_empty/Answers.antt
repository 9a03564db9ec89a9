use Rattle.std.proofs.Common.{◌∙◌, ap, not}
use Rattle.surf_text.specs.Walks.{TokenWalk, has_some}
use Rattle.surf_text.proofs.Words.{empty_is}
use Rattle.surf_text.proofs.tokens.Tokens.is_empty.Goals as goal

pub returns : goal.returns
returns c = record { empty = c.is_empty.ensures ∙ empty_is c.self.inside.rest.now c.self.invariant ∙ ap (λ (w : TokenWalk). not (has_some w.tokens)) c.self.view_is }
