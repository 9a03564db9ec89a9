-- What the proofs of cuts cite most besides, by one import: words of trees, of borders and of copies.
pub use Rattle.surf_base.specs.Tables.{nobody}
pub use Rattle.surf_cutter.specs.Boundary.{AreBorderSides, AreCutSides, HasCopy, HasPairedBorder, IsBorderSide}
pub use Rattle.surf_cutter.specs.Boundary.{IsBoundary, IsCutSide, IsLeastBorderSide, IsOnward, IsOtherAt, OpensToDisc}
pub use Rattle.surf_cutter.specs.Boundary.{corners_of}
pub use Rattle.surf_cutter.specs.Copies.{AreCounted, AreNumberedTo, AreSortedTo, HaveOneLabel, IsBefore, IsRowAt}
pub use Rattle.surf_cutter.specs.Copies.{label_at}
pub use Rattle.surf_cutter.specs.Faces.{AreBounds, AreRenumberedTo, AreRowsOf, AreStartsTo, rows_from}
pub use Rattle.surf_cutter.specs.Kinds.{HaveCopiesOnBorder, IsOpeningOf, Kind, full, is_point, kind_of, points_of}
pub use Rattle.surf_cutter.specs.Kinds.{through, trimmed}
pub use Rattle.surf_cutter.specs.Opened.{AreStarts, AreTurnedOver, IsChosenCut, IsChosenFor, IsHeld, IsNearFor}
pub use Rattle.surf_cutter.specs.Opened.{IsOpenedInOrder, MarkedMesh, MarksCotree, OpenMesh, mesh_of}
pub use Rattle.surf_cutter.specs.Rims.{AreReaches, AreRims, HaveSameSizes, IsOneOf, LeadsFrom, other_reach, sides_of}
pub use Rattle.surf_cutter.specs.Rims.{with_reach}
pub use Rattle.surf_cutter.specs.Trimming.{AreDegrees, HasEndedBy, HasMarkedEnds, HasNoLeafFrom, HasNoLooseBelow}
pub use Rattle.surf_cutter.specs.Trimming.{IsTakenBack, IsTakenFrom, IsTakenTo, IsTrimmedFrom, is_cut, is_marked}
pub use Rattle.surf_cutter.specs.declared.kind.CutFault.TheVariants.{Near}
pub use Rattle.surf_opening.proofs.counts.CutCounts.{full_told, trimming_by_greatest_goes_on}
pub use Rattle.surf_opening.proofs.openings.ChosenOpenings.{chosen_are_openings, full_cuts_are_chosen}
pub use Rattle.surf_opening.proofs.openings.ChosenOpenings.{full_openings_are_counted, some_list}
pub use Rattle.surf_opening.proofs.openings.ChosenOpenings.{trimmed_cuts_are_chosen}
pub use Rattle.surf_opening.specs.ChosenCut.{AreDivided, AreInOrder, full_cut}
pub use Rattle.surf_opening.specs.Laws.{TellsCut, cut_count, without}
pub use Rattle.surf_opening.specs.Uncut.{Copy, CutSide, IsDualTree, IsTrimmed, Uncut}
pub use Rattle.surf_seams.proofs.Openings.{openings_through_are_openings, points_are_on_border, taken_back_are_trimmed}
pub use Rattle.surf_soup.specs.Vertices.{all_corners, sides_at}
