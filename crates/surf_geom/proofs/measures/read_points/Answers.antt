use Rattle.std.proofs.Common.{◌≡◌, ℕ, ◌<◌, List, [], length, get_or, Ok, ap, sym, ◌∙◌, zero-add, arith}
use Rattle.surf_surfaces.proofs.Common.{range_with_len, err_from_is_err_and, get_or-range_with_len, length-range_with_len}
use Rattle.surf_text.specs.Text.{tokens_of}
use Rattle.surf_geom.specs.declared.points.Point.{Point}
use Rattle.surf_geom.specs.Points.{point_of, point_in}
use Rattle.surf_geom.proofs.EachLaws.{each_none, each_more, each_stop, each_done, each_length}
use Rattle.surf_geom.proofs.measures.read_points.Goals as goal

pub loop-v-init : goal.loop-v-init
loop-v-init c = record { so_far = each_none (point_in c.args.text.now.vertex_lines) ∙ ap (λ (ps : List Point). Ok ps) (sym c.in_ok-points.ensures.items) }

-- what reading the line of a vertex gives, at its place among all vertices
placed : (lines : List (List ℕ)) (v w : ℕ) (line : List ℕ) → v < length lines → w ≡ v → line ≡ get_or lines w [] →
    point_in lines (get_or (range_with_len 0 (length lines)) v 0) ≡ point_of w (tokens_of line)
placed lines v w line lt same is =
    ap (point_in lines) (get_or-range_with_len 0 (length lines) v 0 lt ∙ zero-add v ∙ sym same) ∙ ap (λ (l : List ℕ). point_of w (tokens_of l)) (sym is)

pub returns-in_err-read_point-clause-points : goal.returns-in_err-read_point-clause-points
returns-in_err-read_point-clause-points c =
    let lines = c.args.text.now.vertex_lines in
    let v = c.loop-v.v in
    let e = c.in_err-read_point.field-0.0 in
    let all = range_with_len 0 (length lines) in
    let here = placed lines v c.new-vertex.result c.vertex_line.result.now (omega arith) c.new-vertex.ensures c.vertex_line.ensures.line ∙ sym c.in_err-read_point.ensures.point in
    let stop = each_stop (point_in lines) all v 0 c.loop-v.points.items e (omega (arith, length-range_with_len 0 (length lines))) c.loop-v.invariant.so_far here in
    let p = err_from_is_err_and c.from_residual-in_err-read_point.result c.from_residual-in_err-read_point.ensures.1 in
    rw (p.1, p.2) (λ other. stop)

pub loop-v-preserved : goal.loop-v-preserved
loop-v-preserved c =
    let lines = c.args.text.now.vertex_lines in
    let v = c.loop-v.v in
    let point = c.in_ok-read_point.field-0 in
    let all = range_with_len 0 (length lines) in
    let here = placed lines v c.new-vertex.result c.vertex_line.result.now (omega arith) c.new-vertex.ensures c.vertex_line.ensures.line ∙ sym c.in_ok-read_point.ensures.point in
    let more = each_more (point_in lines) all v 0 c.loop-v.points.items point (omega (arith, length-range_with_len 0 (length lines))) c.loop-v.invariant.so_far here in
    let items = rw c.in_ok-push.was at c.push.ensures.items in
    record { so_far = more ∙ ap (λ (ps : List Point). Ok ps) (sym items) }

pub returns-clause-points : goal.returns-clause-points
returns-clause-points c =
    let lines = c.args.text.now.vertex_lines in
    each_done (point_in lines) (range_with_len 0 (length lines)) c.loop-v.v c.loop-v.points.items (omega (arith, length-range_with_len 0 (length lines))) c.loop-v.invariant.so_far

pub returns-clause-count : goal.returns-clause-count
returns-clause-count c =
    let lines = c.args.text.now.vertex_lines in
    let done = each_done (point_in lines) (range_with_len 0 (length lines)) c.loop-v.v c.loop-v.points.items (omega (arith, length-range_with_len 0 (length lines))) c.loop-v.invariant.so_far in
    each_length (point_in lines) (range_with_len 0 (length lines)) c.loop-v.points.items done ∙ length-range_with_len 0 (length lines) ∙ c.requires.lines
