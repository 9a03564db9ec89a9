use Rattle.surf_sew.proofs.Common.{◌≡◌, ℕ, List, [], length, get_or, not, sym, ◌∙◌, ap, arith, inl, inr, slice_index_or, bytes_eq, cases_lt, length-map-range_with_len, other_default, first_copy, first_like}
use Rattle.surf_sew.proofs.Gaps.{entry}
use Rattle.surf_sew.proofs.Firsts.{like_few}
use Rattle.surf_sew.proofs.Faults.{differs, line_here, no_line}
use Rattle.surf_sew.proofs.sewing.compare_lines.Goals as goal

pub bounds-first-index : goal.bounds-first-index
bounds-first-index c =
    let vs = c.args.origins.now in
    let h = c.requires.within c.loop-c.c c.index-origins-c.result c.loop-c-test.true in
    let many : length c.args.first.now ≡ length vs = ap length c.requires.first ∙ length-map-range_with_len (first_copy vs) 0 (length vs) in
    omega (arith, h, c.index.ensures, c.index-origins-c.is, many)

pub vertex_line-requires-in-loop-c : goal.vertex_line-requires-in-loop-c
vertex_line-requires-in-loop-c c =
    let vs = c.args.origins.now in
    let lines = c.args.text.now.vertex_lines in
    let i = c.loop-c.c in
    let h = c.requires.within i c.index-origins-c.result c.loop-c-test.true in
    let v : c.index.result ≡ get_or vs i 0 = c.index.ensures ∙ c.index-origins-c.is ∙ other_default vs i c.index-origins-c.result 0 c.loop-c-test.true in
    let read : c.new-earlier.result ≡ get_or c.args.first.now c.index.result 0 = c.new-earlier.ensures in
    let earlier : c.new-earlier.result ≡ first_like vs i = read ∙ ap (λ (k : ℕ). get_or c.args.first.now k 0) v ∙ entry vs c.args.first.now c.requires.first (get_or vs i 0) 0 (c.requires.within i 0 c.loop-c-test.true) in
    let few = like_few vs i c.loop-c-test.true in
    record { within = omega (arith, earlier, few, c.requires.lines) }

pub returns-then-ne : goal.returns-then-ne
returns-then-ne c =
    let vs = c.args.origins.now in
    let lines = c.args.text.now.vertex_lines in
    let i = c.loop-c.c in
    let h = c.requires.within i c.index-origins-c.result c.loop-c-test.true in
    let v : c.index.result ≡ get_or vs i 0 = c.index.ensures ∙ c.index-origins-c.is ∙ other_default vs i c.index-origins-c.result 0 c.loop-c-test.true in
    let read : c.new-earlier.result ≡ get_or c.args.first.now c.index.result 0 = c.new-earlier.ensures in
    let earlier : c.new-earlier.result ≡ first_like vs i = read ∙ ap (λ (k : ℕ). get_or c.args.first.now k 0) v ∙ entry vs c.args.first.now c.requires.first (get_or vs i 0) 0 (c.requires.within i 0 c.loop-c-test.true) in
    let a : c.vertex_line.result.now ≡ slice_index_or lines i [] = c.vertex_line.ensures.line ∙ ap (λ (k : ℕ). slice_index_or lines k []) c.new-copy.ensures in
    let b : c.vertex_line-in-loop-c.result.now ≡ slice_index_or lines (first_like vs i) [] = c.vertex_line-in-loop-c.ensures.line ∙ ap (λ (k : ℕ). slice_index_or lines k []) earlier in
    let is : c.ne.result ≡ differs lines vs i = c.ne.ensures ∙ ap (λ (l : List ℕ). not (bytes_eq l c.vertex_line-in-loop-c.result.now)) a ∙ ap (λ (l : List ℕ). not (bytes_eq (slice_index_or lines i []) l)) b in
    let first : c.new.result ≡ i = c.new.ensures ∙ c.number.ensures ∙ c.new-copy.ensures in
    let second : c.new-then-ne.result ≡ first_like vs i = c.new-then-ne.ensures ∙ c.number-then-ne.ensures ∙ earlier in
    record { lines = rw (first, second) (line_here lines vs i c.loop-c.invariant c.loop-c-test.true (sym is ∙ c.if-ne.true)) }

pub loop-c-preserved : goal.loop-c-preserved
loop-c-preserved c =
    let vs = c.args.origins.now in
    let lines = c.args.text.now.vertex_lines in
    let i = c.loop-c.c in
    let h = c.requires.within i c.index-origins-c.result c.loop-c-test.true in
    let v : c.index.result ≡ get_or vs i 0 = c.index.ensures ∙ c.index-origins-c.is ∙ other_default vs i c.index-origins-c.result 0 c.loop-c-test.true in
    let read : c.new-earlier.result ≡ get_or c.args.first.now c.index.result 0 = c.new-earlier.ensures in
    let earlier : c.new-earlier.result ≡ first_like vs i = read ∙ ap (λ (k : ℕ). get_or c.args.first.now k 0) v ∙ entry vs c.args.first.now c.requires.first (get_or vs i 0) 0 (c.requires.within i 0 c.loop-c-test.true) in
    let a : c.vertex_line.result.now ≡ slice_index_or lines i [] = c.vertex_line.ensures.line ∙ ap (λ (k : ℕ). slice_index_or lines k []) c.new-copy.ensures in
    let b : c.vertex_line-in-loop-c.result.now ≡ slice_index_or lines (first_like vs i) [] = c.vertex_line-in-loop-c.ensures.line ∙ ap (λ (k : ℕ). slice_index_or lines k []) earlier in
    let is : c.ne.result ≡ differs lines vs i = c.ne.ensures ∙ ap (λ (l : List ℕ). not (bytes_eq l c.vertex_line-in-loop-c.result.now)) a ∙ ap (λ (l : List ℕ). not (bytes_eq (slice_index_or lines i []) l)) b in
    λ k lt. elim (cases_lt k i) [
      | inl before ↦ c.loop-c.invariant k before
      | inr after ↦ let here : k ≡ i = omega arith in ap (differs lines vs) here ∙ sym is ∙ c.if-ne.false
    ]

pub returns : goal.returns
returns c = record { lines = no_line c.args.text.now.vertex_lines c.args.origins.now c.loop-c.c c.loop-c.invariant c.loop-c-test.false }
