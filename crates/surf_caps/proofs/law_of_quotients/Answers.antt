use Rattle.surf_surfaces.proofs.Common.{ℕ, Weighed, numbers, is_nothing, Decides-is_nothing, has-xor}
use Rattle.surf_z2.specs.Sieve.{Row, has}
use Rattle.surf_caps.proofs.Images.{images_meet, image_heights_are_heights, image_ends_meet, images_choose, images_choose_next, found_by_image_depend}
use Rattle.surf_caps.proofs.Quotients.{quotient_law, quotient_choice, sieves_are_quotients}
use Rattle.surf_caps.proofs.law_of_quotients.Goals as goal

pub returns : goal.returns
returns c = record {
  images = images_meet;
  heights = image_heights_are_heights;
  meet = image_ends_meet;
  depend = found_by_image_depend;
  choose = images_choose;
  next = images_choose_next;
  numbers = λ image. quotient_law numbers numbers image;
  choice = λ image. quotient_choice numbers numbers image is_nothing Decides-is_nothing is_nothing Decides-is_nothing
      (λ (c : Weighed ℕ). c.vector);
  sieves = sieves_are_quotients numbers has has-xor (λ (r : Row ℕ). r.pivot) (λ (r : Row ℕ). r.reduced)
      (λ (r : Row ℕ). r.original);
}
