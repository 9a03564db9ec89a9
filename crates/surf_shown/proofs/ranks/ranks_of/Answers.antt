use Rattle.surf_surfaces.proofs.Common.{◌≡◌, ◌<◌, ◌^◌, ◌∙◌, List, [], All, ap, sym, subst}
use Rattle.surf_z2.specs.Order.{merge}
use Rattle.surf_choice.specs.Candidates.{Chosen, independent_of, signed_earlier}
use Rattle.surf_choice.specs.declared.candidate.Signed.{Signed}
use Rattle.surf_shown.specs.Shown.{AreRanks}
use Rattle.surf_shown.proofs.RankLaws.{ranks_kept, ranks_small}
use Rattle.surf_shown.proofs.ranks.ranks_of.Goals as goal

pub keep-requires : goal.keep-requires
keep-requires c = record {
  small =
      subst (λ w. All (λ s. s.signature < 2 ^ w) c.deref.result.now) (sym (ap (λ (k : Chosen). k.width) c.in_ok-ranks.ensures))
      (subst (λ (list : List Signed). All (λ s. s.signature < 2 ^ c.args.width) list) (sym c.deref.ensures.value)
      (ranks_small c.args.loops.now c.in_ok-list.list.items c.args.width c.in_ok-list.ensures.ranks c.requires.small));
}

pub returns-clause-ranks : goal.returns-clause-ranks
returns-clause-ranks c =
    let loops = c.args.loops.now in
    let list = c.in_ok-list.list.items in
    let same : c.keep.new.self.kept ≡ list =
    ap (λ (k : Chosen). k.kept) c.in_ok-keep.ensures.kept
    ∙ ap (λ (k : Chosen). independent_of (merge signed_earlier k.kept c.deref.result.now)) c.in_ok-ranks.ensures
    ∙ ap (λ (xs : List Signed). independent_of (merge signed_earlier [] xs)) c.deref.ensures.value
    ∙ ranks_kept loops list c.in_ok-list.ensures.ranks c.requires.independent in
    subst (AreRanks loops) (sym same) c.in_ok-list.ensures.ranks
