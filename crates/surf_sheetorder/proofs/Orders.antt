-- Sheets that show more and more vertices, and cocycles whose edges have ends that are shown.
use Rattle.surf_surfaces.proofs.Common.{ℕ, zero, suc, ◌<◌, ◌&&◌, List, [], ◌∷◌, length, sym, ◌∙◌, arith, inl, inr, cases_lt, and_parts, Chain, walk_chain, primal, cells_of, Mesh, edge_count, ends, IsSurface}
use Rattle.surf_z2.proofs.ParityLaws.{odd_below-found}
use Rattle.surf_graphs.proofs.Walks.{walk_has_ends}
use Rattle.surf_surfaces.proofs.walks.GraphWalkLaws.{graph_walk}
use Rattle.surf_sheets.proofs.Oddness.{odd_graph_walk}
use Rattle.surf_sheetorder.specs.Off.{place_at_number, ComesFirstAt, OffSheet, IsPlacedSheetOff, IsServedBefore, AreInOrder}
use Rattle.surf_sheetorder.specs.Laws.{OrderedSheetsShow, ServedSetsShow, OrderedSheetsComeFirst}
use Rattle.surf_sheetorder.proofs.OffWalks.{sheets_show_more}

module _ (mesh : Mesh) (lengths : List ℕ) (walks : List (List ℕ)) (cocycles : ℕ → Chain) (sheets : ℕ → OffSheet)
    (count : ℕ) (surface : IsSurface mesh)
    (each : (t : ℕ) → t < count → IsPlacedSheetOff mesh lengths walks cocycles (sheets t))
    (order : AreInOrder mesh sheets count) (i : ℕ) (i_in : i < length walks) where
  -- what the first sheets serve is shown
  shown_before : (t : ℕ) (x : ℕ) → t < suc count → IsServedBefore sheets t i x →
      ComesFirstAt mesh lengths (cocycles i) (place_at_number mesh lengths walks i) x
  shown_before zero x t_in (r, less, serves) = absurd (omega (arith, less))
  shown_before (suc t) x t_in (r, less, serves) = elim (cases_lt r t) [
    | inl sooner ↦ shown_before t x (omega (arith, t_in)) (r, sooner, serves)
    | inr last ↦
        let r_in : r < count = omega (arith, less, t_in) in
        sheets_show_more mesh lengths walks cocycles (sheets r) surface (each r r_in) i serves.in_range i_in
        (λ y y_in left.
        let (q, q_less, q_serves) = order r y i r_in y_in left serves.in_range in
        shown_before t y (omega (arith, t_in)) (q, omega (arith, q_less, less), q_serves))
        x serves.near
  ]

pub ordered_sheets_show : OrderedSheetsShow
ordered_sheets_show mesh lengths walks cocycles sheets count surface each order i x i_in served =
    shown_before mesh lengths walks cocycles sheets count surface each order i i_in count x (omega arith) served

pub served_sets_show : ServedSetsShow
served_sets_show mesh lengths set place surface each [] closed on = absurd (omega (arith, closed.is_walk.begins))
served_sets_show mesh lengths set place surface each (u ∷ rest) closed on =
    let g = primal (cells_of mesh) in
    let w = graph_walk mesh surface lengths (u ∷ rest) closed in
    let (e, e_in, both) = odd_below-found (edge_count mesh) (λ e. walk_chain g u rest e && set e)
    (sym (odd_graph_walk mesh surface set u rest closed) ∙ on) in
    let parts = and_parts (walk_chain g u rest e) (set e) both in
    let over = walk_has_ends g u rest u e w.closed parts.0 in
    elim (each e e_in parts.1) [
      | inl shown ↦ shown (u ∷ rest) closed over.0 on
      | inr shown ↦ shown (u ∷ rest) closed over.1 on
    ]

pub ordered_sheets_come_first : OrderedSheetsComeFirst
ordered_sheets_come_first mesh lengths walks cocycles sheets count surface each order i i_in served =
    served_sets_show mesh lengths (cocycles i) (place_at_number mesh lengths walks i) surface
    (λ e e_in on. elim (served e e_in on) [
      | inl one ↦
          inl (ordered_sheets_show mesh lengths walks cocycles sheets count surface each order i (ends mesh e).0 i_in one)
      | inr other ↦
          inr (ordered_sheets_show mesh lengths walks cocycles sheets count surface each order i (ends mesh e).1 i_in other)
    ])
