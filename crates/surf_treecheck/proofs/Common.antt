-- What the proofs of the two crates that check certificates cite most, by one import: words of trees and of what is
-- checked, and their lemmas.
pub use Rattle.std.proofs.lemmas.Nat.{le-div, leading_top}
pub use Rattle.surf_surfaces.proofs.Common.{All, All-permutation, All-push, AllByRecursion, ArePositive, Bool, Contains}
pub use Rattle.surf_surfaces.proofs.Common.{Contains-append_left, Contains-permutation, Err, Graph, IfErr, IfOk, InSpan}
pub use Rattle.surf_surfaces.proofs.Common.{IsLeastLoopSystem, IsLinear, IsLoopCount}
pub use Rattle.surf_surfaces.proofs.Common.{IsNonDecreasingBy-from_sort_by_key, IsPermutation, IsPermutation-trans}
pub use Rattle.surf_surfaces.proofs.Common.{IsSurface, IsTree, List, MatchBool, MatchOption, Mesh, None, Ok, Option}
pub use Rattle.surf_surfaces.proofs.Common.{Result, Some, Spanned, SpannedUpToWeight, Split, Tree, Weighed, [], among}
pub use Rattle.surf_surfaces.proofs.Common.{any_below, ap, arith, between, bit_at, bit_at-zero, bit_at_above, bit_xor}
pub use Rattle.surf_surfaces.proofs.Common.{cancel, cases_Bool, cases_eq, cases_lt, cells_of, cond, cotree_edges}
pub use Rattle.surf_surfaces.proofs.Common.{div_below, dual, edge_count, edge_number, edge_signature, edges, ends}
pub use Rattle.surf_surfaces.proofs.Common.{eq-eqb, eqb, eqb-true, face_at, face_count, faces_of, false}
pub use Rattle.surf_surfaces.proofs.Common.{false_from_ne_true, false≢true, filter, first, get_or, get_or-map}
pub use Rattle.surf_surfaces.proofs.Common.{get_or-map-range_with_len, get_or-range_with_len, get_or-set_other}
pub use Rattle.surf_surfaces.proofs.Common.{get_or-set_same, get_or_append_left, get_or_default, get_or_past, has}
pub use Rattle.surf_surfaces.proofs.Common.{has-xor, has_side, in_from_spanned, inl, inr, is_left, joined_below, last}
pub use Rattle.surf_surfaces.proofs.Common.{last_from, le-leb, leading_zeros, leb-true, length, length-append}
pub use Rattle.surf_surfaces.proofs.Common.{length-map, length-map-range_with_len, length-range_with_len, length-set}
pub use Rattle.surf_surfaces.proofs.Common.{loop_walk, lt-ltb, ltb, ltb-true, map, map-append, map-map, nat_le}
pub use Rattle.surf_surfaces.proofs.Common.{nat_tests, ne_eqb, not, number, number_zero, numbers, on_path, or_cases}
pub use Rattle.surf_surfaces.proofs.Common.{or_left, or_right, pair, pair_eq, pair_lt, pair_of, place_of, pow-add}
pub use Rattle.surf_surfaces.proofs.Common.{pow_below, pow_pos, primal, range_with_len, recursion_from_All, refl, rules}
pub use Rattle.surf_surfaces.proofs.Common.{set, signature, slice_index, small, spanned_from_in, steps, steps_from}
pub use Rattle.surf_surfaces.proofs.Common.{subst, suc, sum, sum_by_more, sum_of, sym, take, take-length, take-map}
pub use Rattle.surf_surfaces.proofs.Common.{take-suc, take_all, total, tree_edges, true, true≢false, unwrap_or, vectors}
pub use Rattle.surf_surfaces.proofs.Common.{w64, walk_length, walk_signature, xor, xor_assoc, xor_comm, xor_lt}
pub use Rattle.surf_surfaces.proofs.Common.{xor_self, xor_zero_l, xor_zero_r, zero, ℕ, ◌%◌, ◌&&◌, ◌*◌, ◌++◌, ◌+◌, ◌-◌}
pub use Rattle.surf_surfaces.proofs.Common.{◌/◌, ◌<◌, ◌^◌, ◌||◌, ◌∙◌, ◌∷◌, ◌≡◌, ◌≢◌, ◌≤◌, ◌⊎◌}
pub use Rattle.surf_surfaces.proofs.classes.ClassLaws.{runs_loop, some_vertex}
pub use Rattle.surf_surfaces.proofs.meshes.CellLaws.{ends_below, surfaces_are_cells}
pub use Rattle.surf_surfaces.proofs.meshes.EdgeLaws.{among-contains, among-edges, contains_from_among, edges-rise}
pub use Rattle.surf_surfaces.proofs.meshes.EdgeLaws.{ends-eq, list_any-append, list_any_at, list_any_from}
pub use Rattle.surf_surfaces.proofs.meshes.EdgeLaws.{place_of-ends, rising_at}
pub use Rattle.surf_surfaces.proofs.meshes.PairLaws.{pair_eq-same, pair_eq-true, pair_lt-irreflexive, pair_lt-total}
pub use Rattle.surf_surfaces.proofs.meshes.PairLaws.{pair_lt-trans}
pub use Rattle.surf_treecheck.specs.Between.{IsEdgeBetween, IsEdgeUp}
pub use Rattle.surf_treecheck.specs.First.{FailsFirst, FindsFirst, HoldsBelow}
pub use Rattle.surf_treecheck.specs.Paths.{AreLinks, HasLink, IsLinkOver, IsStepUp}
pub use Rattle.surf_treecheck.specs.Rows.{HasDistance, HasDual, HasParent}
pub use Rattle.surf_treecheck.specs.Shapes.{FirstPart, HasBase, IsBasisShapeFault, IsShapeFault}
pub use Rattle.surf_treecheck.specs.Split.{AreFlags, AreMarks, AreOne, IsBadPair, IsInOne, IsLeastBadPair, IsLeastStray}
pub use Rattle.surf_treecheck.specs.Split.{IsStray, IsUndivided, is_flagged, is_named, least_with, lesser_of}
pub use Rattle.surf_treecheck.specs.TreeFaults.{AreTreesValid, HasDistanceAt, HasDistances, HasParentAt, HasParents}
pub use Rattle.surf_treecheck.specs.TreeFaults.{IsFirstAt, IsNoShortCutAt}
pub use Rattle.surf_treecheck.specs.declared.fault.CertFault.{CertFault}
pub use Rattle.surf_treecheck.specs.declared.fault.CertFault.TheVariants.{Dependent, Distance, Dual, Heavier, Memory}
pub use Rattle.surf_treecheck.specs.declared.fault.CertFault.TheVariants.{NotClosed, Parent, Shape, Slack, Uncovered}
pub use Rattle.surf_treecheck.specs.declared.fault.CertPart.{CertPart}
pub use Rattle.surf_treecheck.specs.declared.fault.CertPart.TheVariants.{Base, Faces, Loops, Vertices}
pub use Rattle.surf_validity.proofs.DualLaws.{dual_rows_are_tree, dual_rows_in_tree, row_falls}
pub use Rattle.surf_validity.specs.Bases.{HasBasisShape, HasCounts, HasTrees, IsClosedList, IsCovered, IsDependent}
pub use Rattle.surf_validity.specs.Bases.{IsValidBasis, basis_total, signatures, split_in, tree_at, weighed_cycle}
pub use Rattle.surf_validity.specs.Rows.{BasisCert, DualRows, LoopCert, TreeRows}
pub use Rattle.surf_validity.specs.Valid.{HasDualRows, HasNoShorter, HasShape, HasTreeRows, IsDivided, IsDualRow}
pub use Rattle.surf_validity.specs.Valid.{IsDualValid, IsNoShortCut, IsNotHeavier, IsParent, IsValidLoops}
pub use Rattle.surf_validity.specs.Valid.{certified_loops, certified_tree, depth_at, distance_at, dual_tree, is_listed}
pub use Rattle.surf_validity.specs.Valid.{is_side, just_one, leads_up, loop_size, loops_total, parent_at, side_at}
