use Rattle.surf_cert.proofs.Common.{◌≡◌, ◌+◌, ◌-◌, ◌++◌, ℕ, List, length, take, drop, replicate, sym, ◌∙◌, ap, copy_within}
use Rattle.surf_cert.proofs.BlankLines.{put_back, moved_up}
use Rattle.surf_cert.proofs.blank.blank_front.Goals as goal

pub returns : goal.returns
returns c =
    let text = c.args.text.now.items in
    let front = c.put_ends.new.text in
    let at = c.args.at in
    let lines = c.args.lines in
    let ends : front ≡ replicate lines 10 ++ drop lines text = c.put_ends.ensures.ends ∙ ap (λ (t : List ℕ). replicate lines 10 ++ drop lines t) c.deref_mut.ensures.value in
    let size = sym c.deref_mut.ensures.len ∙ ap length c.deref_mut.ensures.value in
    let all = c.len-end.ensures ∙ size in
    let back = put_back text front at lines c.requires.few c.requires.inside ends _ size in
    record { blank = c.shrink_to_fit.ensures.items ∙ c.truncate.ensures.items ∙ ap (take (lines + (c.len-end.result - at))) (c.copy_within.ensures.items ∙ ap (λ (t : List ℕ). copy_within t at c.len-end.result lines) back) ∙ moved_up text front at lines c.requires.few c.requires.inside ends c.len-end.result all }
