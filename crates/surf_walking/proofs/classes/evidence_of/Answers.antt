use Rattle.surf_answers.proofs.Common.{sym, subst, Result, Ok, Err, IfOk, option_copied, IsChosen, IsClassEvidence}
use Rattle.surf_answers.proofs.Common.{joint_parity, seen}
use Rattle.surf_cotree.specs.Tables.{CotreeTables, split_with}
use Rattle.surf_walking.specs.ChosenDesks.{IsChosenDesk}
use Rattle.surf_walking.proofs.ChosenLaws.{class_evidence}
use Rattle.surf_walking.proofs.classes.evidence_of.Goals as goal

-- what follows of an answer holds of it too
so_too : {X E : Type 0} (r : Result X E) (P Q : X → Type 0) → ((x : X) → P x → Q x) → IfOk r P → IfOk r Q
so_too (Ok x) P Q then h = then x h
so_too (Err e) P Q then h = tt

pub returns-clause-chosen : goal.returns-clause-chosen
returns-clause-chosen c =
    let mesh = c.args.mesh.now in
    let lengths = c.in_ok-lengths.lengths in
    let chain = joint_parity mesh c.args.first.now (option_copied c.args.second) in
    let t = c.cotree.result.now in
    let desk : IsChosenDesk mesh lengths t =
    subst (λ (x : CotreeTables). IsChosenDesk mesh lengths x) (sym c.cotree.ensures.cotree) c.in_ok-desk.ensures.chosen in
    so_too c.classify.result (λ e. IsChosen mesh (split_with desk.trees.tree t) chain (seen e))
    (λ e. IsClassEvidence mesh chain (seen e))
    (λ e h. class_evidence mesh lengths t chain (seen e) desk c.in_ok-lengths.ensures.ones h)
    (c.classify.ensures.chosen desk.trees.tree desk.split)
