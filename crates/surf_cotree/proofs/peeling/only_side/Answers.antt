use Rattle.surf_cotree.proofs.Common.{◌≡◌, ◌<◌, ◌∙◌, ◌+◌, ◌-◌, ℕ, true, false, length, arith, sym, ap, dual, cells_of, side_count, link_at, side_link, outside}
use Rattle.surf_cotree.proofs.Passing.{links, links_many, links_row, link_is}
use Rattle.surf_cotree.proofs.Leaves.{only_skip, only_second, found_only}
use Rattle.surf_cotree.proofs.peeling.only_side.Goals as goal
use Rattle.surf_cotree.proofs.peeling.only_side.Goals.{then-is_bare+else-is_some, else-is_bare}

pub loop-s-preserved : goal.loop-s-preserved
loop-s-preserved c =
    let mesh = c.args.network.now.mesh.now in
    let start = c.side_span-start.result.0 in
    let end = c.side_span-start.result.1 in
    let n = c.loop-s.s - start in
    let from = c.loop-s.invariant.from in
    let side = c.new-side.result in
    let link : ℕ → ℕ × ℕ = link_at (links mesh start end) in
    let rest = outside c.args.network.now.marks.now in
    let next : n + 1 ≡ c.loop-s.s + 1 - start = omega (arith, from) in
    let is : link n ≡ side_link mesh side = link_is mesh start end c.loop-s.s side from c.loop-s-test.true c.new-side.ensures in
    let inside : side < side_count mesh = omega (arith, c.new-side.ensures, c.loop-s-test.true, c.side_span-start.ensures.inside) in
    elim c.if-is_bare.branch [
      | then-is_bare+else-is_some w ↦
          let free : rest (side_link mesh side).1 ≡ true = sym c.is_bare.ensures.bare ∙ w.if-is_bare.true in
          rw (w.found-is, sym next) (record { from = omega (arith, from); inside = inside; only = only_second rest link (side_link mesh) n side c.loop-s.found w.if-is_some.ensures is free c.loop-s.invariant.only })
      | else-is_bare w ↦
          let shut : rest (link n).1 ≡ false = ap (λ (p : ℕ × ℕ). rest p.1) is ∙ (sym c.is_bare.ensures.bare ∙ w.if-is_bare.false) in
          rw (w.found-is, sym next) (record { from = omega (arith, from); inside = c.loop-s.invariant.inside; only = only_skip rest link (side_link mesh) n c.loop-s.found shut c.loop-s.invariant.only })
    ]

pub returns-clause-only : goal.returns-clause-only
returns-clause-only c =
    let mesh = c.args.network.now.mesh.now in
    let start = c.side_span-start.result.0 in
    let end = c.side_span-start.result.1 in
    let from = c.loop-s.invariant.from in
    let long : length (links mesh start end) ≡ end - start = links_many mesh start end in
    let its_row = links_row mesh c.law_of_surface.ensures.surface c.args.face start end c.requires.face c.side_span-start.ensures.start c.side_span-start.ensures.end in
    let ended : c.loop-s.s - start ≡ end - start = omega (arith, from, c.loop-s-test.false, c.loop-s.auto.s-end) in
    found_only (dual (cells_of mesh)) (outside c.args.network.now.marks.now) (side_link mesh) c.args.face (links mesh start end) (c.loop-s.s - start) c.loop-s.found its_row (long ∙ sym ended) c.loop-s.invariant.only
