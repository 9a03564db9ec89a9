-- What proofs about sums and graphs cite most, by one import: words and lemmas of lists and numbers, and the words
-- of sums modulo two.
pub use Rattle.std.proofs.Common.{All, Bool, Contains, Decides, IsTrue, List, MatchBool, MatchOption, None, Option}
pub use Rattle.std.proofs.Common.{Some, [], ap, arith, bit_xor, cond, drop, eq-eqb, eqb, false, filter, get_or}
pub use Rattle.std.proofs.Common.{get_or-set_other, get_or-set_same, if◌then◌else◌, inl, inr, leb, length, lt-ltb}
pub use Rattle.std.proofs.Common.{ltb, map, ne_eqb, not, refl, replicate, set, subst, suc, sum, sym, take, true}
pub use Rattle.std.proofs.Common.{zero, ℕ, ◌%◌, ◌&&◌, ◌*◌, ◌++◌, ◌+◌, ◌-◌, ◌/◌, ◌<◌, ◌^◌, ◌||◌, ◌↔◌, ◌∙◌, ◌∷◌, ◌≡◌}
pub use Rattle.std.proofs.Common.{◌≢◌, ◌≤◌, ◌⊎◌}
pub use Rattle.std.proofs.Math.ListN.{length-replicate, length-set}
pub use Rattle.std.proofs.lemmas.Bool.{and_from, and_parts, cases_Bool, cases_eq, cases_lt, eqb-false, eqb-true}
pub use Rattle.std.proofs.lemmas.Bool.{false_from_ne_true, false≢true, le-leb, le-ltb, leb-true, not-true, or_cases}
pub use Rattle.std.proofs.lemmas.Bool.{true_from_ne_false}
pub use Rattle.std.proofs.lemmas.List.{append_assoc, get_or-replicate, get_or_default, get_or_past, length-append}
pub use Rattle.std.proofs.lemmas.List.{length-map, map-append, same_lists, with_items_is}
pub use Rattle.std.proofs.lemmas.List.Elements.{All-from_recursion, recursion_from_All}
pub use Rattle.std.proofs.lemmas.List.FromFn.{get_or-map-range_with_len, length-map-range_with_len}
pub use Rattle.std.proofs.lemmas.Nat.Bits.{bit_at-zero}
pub use Rattle.std.specs.Int.{bit_at}
pub use Rattle.std.specs.List.{AllByRecursion}
pub use Rattle.std.specs.Vec.{with_items}
pub use Rattle.surf_z2.specs.Greedy.{greedy_after, spans}
pub use Rattle.surf_z2.specs.Order.{is_lighter, merge, merge_from}
pub use Rattle.surf_z2.specs.Parity.{any_below, count_below, odd_below, xor}
pub use Rattle.surf_z2.specs.Sieve.{has}
pub use Rattle.surf_z2.specs.Space.{Independent, Space, Spanned, SpannedUpToWeight, Weighed, chosen, is_nothing}
pub use Rattle.surf_z2.specs.Space.{numbers, sum_of, up_to, vectors, weights}
pub use Rattle.surf_z2.specs.Words.{number}
