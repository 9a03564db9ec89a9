-- What the proofs of slits and of cuts cite most, by one import: words of sides and of openings, and their lemmas.
pub use Rattle.surf_opening.proofs.counts.Counting.{pigeons}
pub use Rattle.surf_opening.proofs.gluing.Cotrees.{ends_pair}
pub use Rattle.surf_opening.proofs.sides.Edges.{edge_of, edge_one, face_of}
pub use Rattle.surf_opening.proofs.sides.MeshSides.{from_face, is_darts, no_third_face, same_face}
pub use Rattle.surf_opening.proofs.sides.Polygons.{after_cases, among_pair, pair_among, pair_is, same_pair}
pub use Rattle.surf_opening.specs.Opening.{IsOpenedBy, ShareUncutAt, corner_of}
pub use Rattle.surf_opening.specs.Side.{IsPlace, Side}
pub use Rattle.surf_slit.specs.Labels.{AgreeAt, AreLabels, AreNumbers, IsLabelledAt, IsUncut, corner_at}
pub use Rattle.surf_slit.specs.Link.{run_of}
pub use Rattle.surf_slit.specs.Place.{IsNextCut, NoneCut, cut_behind, place}
pub use Rattle.surf_soup.proofs.CornerSides.{at_begins, at_rises, begins_at, begins_corner, corner_begins, one_corner}
pub use Rattle.surf_soup.proofs.HalfLaws.{edges_few, face_of_side, spans}
pub use Rattle.surf_soup.proofs.SideNumbers.{face_has_side, first_mono, one_face, pair_at_place, side_of_face}
pub use Rattle.surf_soup.proofs.VertexLaws.{IsPlaced, corner_at_place, corners_below, corners_len, placed}
pub use Rattle.surf_soup.specs.Ring.{AreEdgesAt, BeginsAt, GoBetween, IsEdgeAt, IsRing}
pub use Rattle.surf_surfaces.proofs.Common.{All, All-contains, All-from_get_or, All-permutation, Bool, Chain, Contains}
pub use Rattle.surf_surfaces.proofs.Common.{Contains-permutation, HasEdge, IfErr, IfOk, IfOk-weaker, IsBorderEdge}
pub use Rattle.surf_surfaces.proofs.Common.{IsDisc, IsEdgeOf, IsFaceOf, IsMesh, IsOpening, IsPermutation, IsSurface}
pub use Rattle.surf_surfaces.proofs.Common.{IsTrue, Joined, List, Mesh, Result, ShareAt, ShareOnBorder, Tree, [], after}
pub use Rattle.surf_surfaces.proofs.Common.{and_from, and_parts, ap, append-nil, arith, both_ways, cases_Bool, cases_eq}
pub use Rattle.surf_surfaces.proofs.Common.{cases_lt, cases_order, cond, cotree_edges, count_below, count_below-same}
pub use Rattle.surf_surfaces.proofs.Common.{count_below-without, count_few, count_found, drop, drop_all, edge_count}
pub use Rattle.surf_surfaces.proofs.Common.{ends, eq-eqb, eqb, eqb-false, eqb-true, eqb_comm, face_at, face_count}
pub use Rattle.surf_surfaces.proofs.Common.{faces_with, false, false≢true, first_side, flat_map, get_or}
pub use Rattle.surf_surfaces.proofs.Common.{get_or-append-add, get_or-drop, get_or-flat_map, get_or-map}
pub use Rattle.surf_surfaces.proofs.Common.{get_or-replicate, get_or-set_other, get_or-set_same, get_or-take}
pub use Rattle.surf_surfaces.proofs.Common.{get_or_append_left, get_or_default, get_or_push, get_or_read, here, inl}
pub use Rattle.surf_surfaces.proofs.Common.{inr, le-leb, le-ltb, length, length-append, length-drop, length-flat_map}
pub use Rattle.surf_surfaces.proofs.Common.{length-le_from_distinct_below, length-map, length-replicate, length-set}
pub use Rattle.surf_surfaces.proofs.Common.{length-take, length_push, lt-leb, lt-ltb, map, max, nat_cmp, nat_tests}
pub use Rattle.surf_surfaces.proofs.Common.{ne_eqb, not, on_ok_weaker, or_cases, or_left, or_right, over, owners, pair}
pub use Rattle.surf_surfaces.proofs.Common.{pair_at, pair_of, recursion_from_All, refl, replicate, rules, same_lists}
pub use Rattle.surf_surfaces.proofs.Common.{set, side_count, sides, slice_index, slice_index_or, subst, suc, sum_by}
pub use Rattle.surf_surfaces.proofs.Common.{sum_by_more, sym, take, take-length, take_all, touches, true, true≢false}
pub use Rattle.surf_surfaces.proofs.Common.{with_items, with_items_is, zero, ℕ, ◌&&◌, ◌++◌, ◌+◌, ◌-◌, ◌<◌, ◌^◌, ◌||◌}
pub use Rattle.surf_surfaces.proofs.Common.{◌↔◌, ◌∙◌, ◌∷◌, ◌≡◌, ◌≢◌, ◌≤◌, ◌⊎◌}
pub use Rattle.surf_surfaces.proofs.meshes.CellLaws.{ends_below}
pub use Rattle.surf_surfaces.proofs.meshes.DegreeLaws.{degree_few, degrees_more, degrees_none, touches_end, touches_no}
pub use Rattle.surf_surfaces.proofs.meshes.EdgeLaws.{list_any_at}
pub use Rattle.surf_surfaces.proofs.meshes.FaceLaws.{pair_comm, touches_first}
pub use Rattle.surf_surfaces.proofs.meshes.JoinedLaws.{joined_lift, joined_sym, joined_trans}
pub use Rattle.surf_surfaces.proofs.meshes.SideLaws.{after-below, side_place, sides_are_by_place}
pub use Rattle.surf_surfaces.specs.Degrees.{degree_in, is_in_at}
