-- What the proofs of dual trees and of the cover cite most, by one import: words of trees, of classes and of tables, and
-- their lemmas.
pub use Rattle.std.proofs.lemmas.Option.{none-some, same_Some}
pub use Rattle.surf_base.specs.Tables.{at, nobody}
pub use Rattle.surf_cotree.specs.Grown.{AreLoopLengths, HasGrown, IsGrown, IsGrownOn, IsMarked, MarkTree}
pub use Rattle.surf_cotree.specs.Marking.{AreMarked, HasMarking, IsMarking, leads_up}
pub use Rattle.surf_cotree.specs.Peeling.{IsHung, IsHungBy, IsLeaf, IsOnlyEdge, IsPeeled, IsPeeledBy, IsPeeledTo, Leaf}
pub use Rattle.surf_cotree.specs.Peeling.{leaf_at, left_after}
pub use Rattle.surf_cotree.specs.Searches.{HasPair, IsBridge, IsHeaviestTree, IsOffered, IsPairUpTo, IsPrim, IsWaiting}
pub use Rattle.surf_cotree.specs.Searches.{flag, heaviest, is_unmarked, lighter, outside, reached, spanned_tree}
pub use Rattle.surf_cotree.specs.Tables.{AreCotreeTables, CotreeTables, cotree_of, parent_edge_of, split_with}
pub use Rattle.surf_cotree.specs.Tables.{width_for}
pub use Rattle.surf_graphs.specs.Growth.{Grown, IsHeavy, between, inner_end, with_edge, with_node}
pub use Rattle.surf_heap.specs.Entries.{Entries, IsEmpty, IsLeastEntry, IsUpTo, entry_of, lesser, precedes}
pub use Rattle.surf_mesh.proofs.LinkLaws.{side_edge_is, side_row}
pub use Rattle.surf_mesh.specs.Links.{IsRow, edge_link, link_at, other_of, side_link}
pub use Rattle.surf_signatures.proofs.Passing.{passing_few, passing_left, passing_same, passing_taken}
pub use Rattle.surf_surfaces.proofs.Common.{All, ArePositive, Bool, Contains, Graph, IfSome, IsClosed, IsConnectedGraph}
pub use Rattle.surf_surfaces.proofs.Common.{IsGraph, IsJoined, IsSplit, IsSurface, IsTree, List, MatchOption, Mesh}
pub use Rattle.surf_surfaces.proofs.Common.{None, Option, Some, Split, Tree, [], add-zero, add_zero, and_parts}
pub use Rattle.surf_surfaces.proofs.Common.{any_below, any_below-found, any_below-from, any_below-same, ap, arith}
pub use Rattle.surf_surfaces.proofs.Common.{bit_xor, cases_Bool, cases_eq, cases_lt, cells_of, cond, count_below}
pub use Rattle.surf_surfaces.proofs.Common.{count_below-all, count_below-same, count_below-without, div-add-mod'}
pub use Rattle.surf_surfaces.proofs.Common.{div-mul-add, div_below, drop, drop-cons, drop_all, dual, edge_between}
pub use Rattle.surf_surfaces.proofs.Common.{edge_between_is, edge_count, edge_length, edge_number, edge_signature}
pub use Rattle.surf_surfaces.proofs.Common.{edges, ends, eq-eqb, eqb, eqb-true, face_at, face_count, faces_of, false}
pub use Rattle.surf_surfaces.proofs.Common.{false≢true, filter, first_side, get_or, get_or-map}
pub use Rattle.surf_surfaces.proofs.Common.{get_or-map-range_with_len, get_or-replicate, get_or-set_other}
pub use Rattle.surf_surfaces.proofs.Common.{get_or-set_same, get_or_append_left, get_or_default, get_or_past}
pub use Rattle.surf_surfaces.proofs.Common.{get_or_push, has, in_tree, inl, inr, is_some, joined_in, joins, joins_ends}
pub use Rattle.surf_surfaces.proofs.Common.{joins_turned, le-leb, le-ltb, leaves, leb, leb-true, left_edges, length}
pub use Rattle.surf_surfaces.proofs.Common.{length-append, length-map, length-map-range_with_len, length-replicate}
pub use Rattle.surf_surfaces.proofs.Common.{length-set, length_push, loop_count, loop_length, lt-ltb, ltb, ltb-true}
pub use Rattle.surf_surfaces.proofs.Common.{map, map-map, mod-mul-add, mod_below, nat_tests, ne_eqb, not, not-true}
pub use Rattle.surf_surfaces.proofs.Common.{number_of-none, numbers, on_path, one_of, or_cases, pair, pair_of}
pub use Rattle.surf_surfaces.proofs.Common.{path_inside, pow-le-pow_right, primal, range_with_len, refl, replicate}
pub use Rattle.surf_surfaces.proofs.Common.{reverse, row_fits, same_from, same_from_place, set, side_count, slice_index}
pub use Rattle.surf_surfaces.proofs.Common.{slice_index_or, steps, subst, suc, sum_of, sym, tree_edge, true}
pub use Rattle.surf_surfaces.proofs.Common.{vec_capacity, walk_length, walk_signature, with_items, with_items_is, xor}
pub use Rattle.surf_surfaces.proofs.Common.{xor-same, xor_zero_r, zero, ℕ, ◌%◌, ◌&&◌, ◌*◌, ◌++◌, ◌+◌, ◌-◌, ◌/◌, ◌<◌}
pub use Rattle.surf_surfaces.proofs.Common.{◌^◌, ◌||◌, ◌∙◌, ◌∷◌, ◌≡◌, ◌≢◌, ◌≤◌, ◌⊎◌}
pub use Rattle.surf_surfaces.proofs.classes.ClassLaws.{some_vertex}
pub use Rattle.surf_surfaces.proofs.meshes.CellLaws.{ends_below, surfaces_are_cells}
