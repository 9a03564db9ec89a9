use Rattle.surf_choice.proofs.Common.{◌≡◌, ◌<◌, ◌-◌, true, List, length, get_or, Some, sym, ap, ◌∙◌, subst, arith, nat_le, le-leb, Signed, Chosen, limit_of}
use Rattle.surf_choice.proofs.Limits.{limit_last, last_at}
use Rattle.surf_choice.proofs.choosing.Choice.limit.Goals as goal

pub returns : goal.returns
returns c =
    let inside = c.self.inside in
    let kept = inside.kept.items in
    let last = c.last-item.result in
    let same : c.as_slice.result.now ≡ kept = c.as_slice.ensures.value in
    let some : 0 < length kept = omega (arith, ap (λ (xs : List Signed). length xs) same, c.in-len1-up.len_at_least) in
    let full : nat_le inside.width (length kept) ≡ true = le-leb inside.width (length kept) (omega (arith, c.if-len-self.false, inside.kept.ok.0)) in
    let is : last ≡ get_or kept (length kept - 1) last = subst (λ (xs : List Signed). last ≡ get_or xs (length xs - 1) last) same c.last-item.is in
    record {
      limit = sym (subst (λ (k : Chosen). limit_of k ≡ Some last.candidate) c.self.view_is
          (limit_last inside.width kept full ∙ last_at kept last some ∙ ap (λ (x : Signed). Some x.candidate) (sym is)));
    }
