use Rattle.surf_sew.proofs.Common.{◌≡◌, ◌+◌, ℕ, List, [], ◌∷◌, ◌++◌, length, Some, None, Ok, Err, sym, ◌∙◌, ap, arith, cond, ◌==◌, true, false, Bool, eq-eqb, ne_eqb, length_push, length-slice_split, count_by-le-length, is_line_end, words_of, parts_of, CopyCount, ◌>>=◌, WordLine, word_lines_from, copies_among, copy_lines, origins_from, is_copy, origin_of, counted}
use Rattle.surf_sew.proofs.CopyLines.{with_origins, with_none, copy_line, bad_line, no_line}
use Rattle.surf_sew.proofs.copies.read_copies.Goals as goal

pub loop-marked-init : goal.loop-marked-init
loop-marked-init c =
    let none : c.new-origins.result.items ≡ [] = c.new-origins.ensures.items in
    let text = c.args.text.now in
    record {
      fits = omega (arith, length-slice_split is_line_end text, count_by-le-length is_line_end text, c.requires.short);
      few = omega (arith, ap length none);
      so_far = rw none (with_none (origins_from 0 (copy_lines text)));
    }

pub returns-in_default-read_origin-clause-copies : goal.returns-in_default-read_origin-clause-copies
returns-in_default-read_origin-clause-copies c =
    let front = c.loop-marked.origins.items in
    let n : ℕ = c.loop-marked.number + (c.in-Some.marked.skipped + 1) in
    let line = c.in-Some.marked.line.now in
    let parts = parts_of is_line_end c.in-Some.marked.behind in
    let at : c.loop-marked.number + 1 + c.in-Some.marked.skipped ≡ n = omega arith in
    let left = c.in-Some.ensures.copies (c.loop-marked.number + 1) ∙ ap (λ (k : ℕ). copies_among (word_lines_from k (line ∷ parts))) at in
    let copy : is_copy (words_of line) ≡ true = sym c.is_copy_line.ensures.copy ∙ c.if-is_copy_line.true in
    let place : c.len.result ≡ length front = omega (arith, c.len.ensures, c.loop-marked.origins.ok.0) in
    let origin : origin_of (length front) (words_of line) ≡ None = ap (λ (k : ℕ). origin_of k (words_of line)) (sym place) ∙ sym c.read_origin.ensures.origin ∙ c.in_default-read_origin.is in
    let bad = sym c.loop-marked.invariant.so_far ∙ ap (λ (ls : List WordLine). with_origins front (origins_from (length front) ls)) left ∙ bad_line n front line parts copy origin in
    λ other. ap (λ r. r >>= counted c.args.count) bad

pub loop-marked-preserved-in-Continue-1 : goal.loop-marked-preserved-in-Continue-1
loop-marked-preserved-in-Continue-1 c =
    let front = c.loop-marked.origins.items in
    let n : ℕ = c.loop-marked.number + (c.in-Some.marked.skipped + 1) in
    let v : ℕ = c.in-Some-read_origin.origin in
    let line = c.in-Some.marked.line.now in
    let parts = parts_of is_line_end c.in-Some.marked.behind in
    let at : c.loop-marked.number + 1 + c.in-Some.marked.skipped ≡ n = omega arith in
    let left = c.in-Some.ensures.copies (c.loop-marked.number + 1) ∙ ap (λ (k : ℕ). copies_among (word_lines_from k (line ∷ parts))) at in
    let copy : is_copy (words_of line) ≡ true = sym c.is_copy_line.ensures.copy ∙ c.if-is_copy_line.true in
    let place : c.len.result ≡ length front = omega (arith, c.len.ensures, c.loop-marked.origins.ok.0) in
    let origin : origin_of (length front) (words_of line) ≡ Some v = ap (λ (k : ℕ). origin_of k (words_of line)) (sym place) ∙ sym c.read_origin.ensures.origin ∙ c.in-Some-read_origin.is in
    let more = sym (ap (λ (ls : List WordLine). with_origins front (origins_from (length front) ls)) left ∙ copy_line n front line parts v copy origin) ∙ c.loop-marked.invariant.so_far in
    let items : c.push.new.self.items ≡ front ++ v ∷ [] = c.in_ok-push.ensures.items in
    let count : length (front ++ v ∷ []) ≡ length front + 1 = length_push front v in
    record {
      fits = omega (arith, c.in-Some.ensures.lines, c.loop-marked.invariant.fits);
      few = omega (arith, ap length items, count, c.loop-marked.invariant.few);
      so_far = rw (items, count) more;
    }

pub returns-then-len-count-clause-copies : goal.returns-then-len-count-clause-copies
returns-then-len-count-clause-copies c =
    let front = c.loop-marked.origins.items in
    let n = c.loop-marked.number + 1 in
    let all = sym c.loop-marked.invariant.so_far ∙ ap (λ (ls : List WordLine). with_origins front (origins_from (length front) ls)) (c.in_default.ensures.copies n) ∙ no_line n front in
    let place : c.len-2.result ≡ length front = omega (arith, c.len-2.ensures, c.loop-marked.origins.ok.0) in
    let have : c.len-then-len-count.result ≡ length front = omega (arith, c.len-then-len-count.ensures, c.loop-marked.origins.ok.0) in
    let other : (length front == c.args.count) ≡ false = ne_eqb _ _ (λ e. c.if-len-count.true (place ∙ e)) in
    λ m. ap (λ r. r >>= counted c.args.count) all ∙ ap (λ (b : Bool). cond b (Ok front) (Err (CopyCount (length front)))) other ∙ ap (λ (k : ℕ). Err (CopyCount k)) (sym have)

pub returns-clause-copies : goal.returns-clause-copies
returns-clause-copies c =
    let front = c.loop-marked.origins.items in
    let n = c.loop-marked.number + 1 in
    let all = sym c.loop-marked.invariant.so_far ∙ ap (λ (ls : List WordLine). with_origins front (origins_from (length front) ls)) (c.in_default.ensures.copies n) ∙ no_line n front in
    let place : c.len-2.result ≡ length front = omega (arith, c.len-2.ensures, c.loop-marked.origins.ok.0) in
    let same : (length front == c.args.count) ≡ true = eq-eqb _ _ (omega (arith, place, c.if-len-count.false)) in
    ap (λ r. r >>= counted c.args.count) all ∙ ap (λ (b : Bool). cond b (Ok front) (Err (CopyCount (length front)))) same
