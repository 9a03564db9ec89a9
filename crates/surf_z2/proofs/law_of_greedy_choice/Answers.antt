use Rattle.surf_z2.proofs.Common.{ℕ, numbers, is_nothing, Weighed}
use Rattle.surf_z2.proofs.Numbers.{Decides-is_nothing}
use Rattle.surf_z2.proofs.Greedy as Greedy
use Rattle.surf_z2.proofs.law_of_greedy_choice.Goals as goal

pub returns : goal.returns
returns c = record {
  test = Greedy.spans_law numbers is_nothing Decides-is_nothing;
  vectors = Greedy.greedy_law numbers is_nothing Decides-is_nothing (λ (x : ℕ). x);
  candidates = Greedy.greedy_law numbers is_nothing Decides-is_nothing (λ (c : Weighed ℕ). c.vector);
}
