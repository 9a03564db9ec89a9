-- What the proofs of this crate cite most, by one import.
pub use Rattle.std.proofs.Common.{MatchBool, MatchOption, None, Option, is_some, lit<, not, set, vec_capacity, vec_len}
pub use Rattle.std.specs.Int.Bits.{xor_assoc, xor_block, xor_comm, xor_self, xor_zero_r}
pub use Rattle.surf_choice.specs.Candidates.{Chosen, IsChange, IsSumOfLength, candidates, earlier, has_next, independent_of, kept_after, signatures, signed_earlier}
pub use Rattle.surf_choice.specs.Echelons.{AreLed, ArePlaced, AreRowsAfter, AreRowsOf, IsAdmitted, IsEchelon, IsGreatest, Rows}
pub use Rattle.surf_choice.specs.Places.{is_sought, last_of, limit_of, order_of, place_of, stands_before}
pub use Rattle.surf_choice.specs.declared.candidate.Signed.{Signed}
pub use Rattle.surf_surfaces.proofs.Common.{All, All-append, All-contains, All-from_recursion, All-permutation, All-push, AllByRecursion, AllInSpan, Bool, Contains, Decides-is_nothing, IfSome, Independent, IsInOrder, IsNonDecreasingBy, IsTrue, List, Place, Some, Sorted, Spanned, [], add_in, ap, append-nil, append_assoc, arith, at_drop_all, at_drop_more, bit_xor, cases_Bool, cases_eq, cases_lt, chosen, comes_sooner, drop, drop_more, false, false≢true, free_from_independent, get_or, get_or-drop, get_or-take, get_or_default, greedy_after, head_in, in_from_spanned, inl, inr, is_no_later, is_nothing, le-leb, leading_zeros, length, length-append, length-drop, length-map, length-set, length-take, length-take-le, map, map-append, nat_le, nat_tests, number, number_zero, numbers, pow-add, pow-le-pow_right, recursion_from_All, refl, rest_in, same_members, slice_index, sorted_from_order, spanned_from_in, spans, subst, suc, sym, take, take-append-drop, take-map, take_all, take_more, trans_in, true, w64, xor_lt, xor_zero_l, zero, zero_in, ℕ, ◌*◌, ◌++◌, ◌+◌, ◌-◌, ◌<◌, ◌^◌, ◌↔◌, ◌∙◌, ◌∷◌, ◌≡◌, ◌≢◌, ◌≤◌, ◌⊎◌}
