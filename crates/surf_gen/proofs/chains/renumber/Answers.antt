use Rattle.surf_surfaces.proofs.Common.{◌≡◌, ℕ, ◌+◌, ◌*◌, ◌^◌, ◌<◌, List, [], ◌∷◌, length, slice_index, rules, ap, ◌∙◌, arith, get_or_default}
use Rattle.std.proofs.lemmas.List.FromFn.{fill_by_all}
use Rattle.surf_tori.specs.ConnectedSum.{sum_name}
use Rattle.surf_gen.proofs.ChainLaws.{others_below}
use Rattle.surf_gen.proofs.chains.renumber.Goals as goal

pub overflow_add-next : goal.overflow_add-next
overflow_add-next c =
    let b = c.args.columns in
    let few = others_below (0 ∷ b ∷ (b + 1) ∷ []) c.loop-v.v in
    let next = c.loop-v.invariant.next in
    let size = c.loop-v.invariant.sized in
    let below = c.loop-v-test.true in
    let fits : c.loop-v.next + 1 < 2 ^ 32 = omega (arith, few, next, size, below, c.requires.few) in
    search (rules, fits)

pub returns : goal.returns
returns c =
    let now = c.args.numbers.now in
    let b = c.args.columns in
    let n = length now in
    let first : c.index-numbers-columns.result ≡ slice_index now (2 * b + 2) =
    c.index-numbers-columns.is ∙ get_or_default now (2 * b + 2) c.index-numbers-columns.result 0
    (omega (arith, c.requires.corners)) in
    let second : c.index-numbers-columns-2.result ≡ slice_index now (3 * b + 2) =
    c.index-numbers-columns-2.is ∙ get_or_default now (3 * b + 2) c.index-numbers-columns-2.result 0
    (omega (arith, c.requires.corners)) in
    let third : c.index-numbers-columns-3.result ≡ slice_index now (3 * b + 3) =
    c.index-numbers-columns-3.is ∙ get_or_default now (3 * b + 3) c.index-numbers-columns-3.result 0
    (omega (arith, c.requires.corners)) in
    let corners : ◌≡◌ {A = List ℕ}
    (c.index-numbers-columns.result ∷ c.index-numbers-columns-2.result ∷ c.index-numbers-columns-3.result ∷ [])
    (slice_index now (2 * b + 2) ∷ slice_index now (3 * b + 2) ∷ slice_index now (3 * b + 3) ∷ []) =
    cc (first, second, third) in
    let over = c.loop-v-test.false in
    let size = c.loop-v.invariant.sized in
    record {
      numbers = fill_by_all (sum_name c.args.start
          (slice_index now (2 * b + 2) ∷ slice_index now (3 * b + 2) ∷ slice_index now (3 * b + 3) ∷ [])
          (0 ∷ b ∷ (b + 1) ∷ [])) c.loop-v.numbers n 0 size
          (λ k h. c.loop-v.invariant.done k (omega (arith, h, over, size))
          ∙ ap (λ (out : List ℕ). sum_name c.args.start out (0 ∷ b ∷ (b + 1) ∷ []) k) corners);
    }
