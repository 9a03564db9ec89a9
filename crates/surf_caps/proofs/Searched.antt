-- One search of a stage.
use Rattle.surf_surfaces.proofs.Common.{not, ◌++◌, ap, inl, inr, loop_walk, place_at, cases_Bool, and_parts, and_from, not-true, leb-false, All-append}
use Rattle.surf_surfaces.proofs.bases.FirstFoundLaws.{loop_closed}
use Rattle.surf_caps.specs.Barred.{next_choice, StageSearchesKeep}
use Rattle.surf_caps.specs.Caps.{IsFoundBy, up_to_length, everywhere}
use Rattle.surf_caps.specs.Stages.{behind}
use Rattle.surf_caps.proofs.Barring.{barred_searches_suffice}
use Rattle.surf_caps.proofs.Covers.{loops_depend_on_enough}
use Rattle.surf_caps.proofs.Grow.{caps_grow_enough}
use Rattle.surf_caps.proofs.Images.{everywhere_meets, meets_fewer, images_choose_next, found_by_image_depend}
use Rattle.surf_caps.proofs.Starts.{lengths_start, found_are_walks}

pub stage_searches_keep : StageSearchesKeep
stage_searches_keep mesh lengths trees d image least other others sought set z here final kept loops all surface positive
    split shortest finals barred z_in starts start low enough are =
    let law = caps_grow_enough mesh lengths trees surface positive shortest in
    let closed = (found_are_walks mesh lengths final surface positive finals.found).closed in
    let closed_kept = (found_are_walks mesh lengths kept surface positive are.kept_found).closed in
    let closed_loops = (found_are_walks mesh lengths loops surface positive are.loops_found).closed in
    let next = next_choice mesh d image final all in
    let choice = images_choose_next mesh d image least final kept loops all surface split finals.quotient closed
    closed_kept closed_loops finals.independent finals.order finals.short are.order are.longer are.same_members in
    let keeps = law.choose (final ++ kept) loops next
    (All-append (IsFoundBy mesh lengths) final kept finals.found are.kept_found) are.loops_found choice in
    let still = law.keep sought (final ++ kept) loops next enough keeps in
    let meets = meets_fewer mesh lengths (up_to_length least) (up_to_length least) (everywhere (up_to_length least))
    sought (everywhere_meets mesh lengths (up_to_length least)) (λ p h. h) (λ n p h k. low n p h) in (
      barred_searches_suffice mesh lengths other trees others sought set z here next surface positive barred.positive
          shortest barred.shortest barred.agree z_in still starts start barred.as_far (λ e e_in is_here.
          let place = place_at mesh other others z e in
          elim (cases_Bool (up_to_length least place)) [
            | inl short ↦ loops_depend_on_enough mesh lengths trees (up_to_length least) sought next other others z e
                surface positive shortest (lengths_start least) starts meets still barred.no_less barred.shortest z_in e_in
                short
            | inr long ↦ keeps.depend (loop_walk mesh (others z) e) place
                (loop_closed mesh other others surface barred.shortest z e z_in e_in)
                (found_by_image_depend mesh d image other others z least (behind (up_to_length least) here) final kept
                loops surface split barred.shortest z_in finals.quotient closed closed_kept closed_loops finals.short
                (λ p h. leb-false p.0 least
                (not-true (up_to_length least p) (and_parts (here p) (not (up_to_length least p)) h).1)) are.by_image e
                e_in (and_from (here place) (not (up_to_length least place)) is_here (ap not long)))
          ]),
      keeps,
    )
