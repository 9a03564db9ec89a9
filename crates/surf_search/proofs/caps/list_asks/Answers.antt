use Rattle.surf_search.proofs.Common.{◌≡◌, ◌<◌, ◌^◌, All, List, min, slice_index, inl, inr, sym, ap, ◌∙◌, subst, arith, cases_eq, nat_tests, edge_count, All-push, IsSumOfLength, Ask, IsAsked}
use Rattle.surf_search.proofs.Asked.{sign_small}
use Rattle.surf_search.proofs.Capping.{asks_same, asks_more}
use Rattle.surf_finder.proofs.Signed.{signed_none, signs_long}
use Rattle.surf_search.proofs.caps.list_asks.Goals as goal
use Rattle.surf_search.proofs.caps.list_asks.Goals.{then-is_signed+in_ok-push, else-is_signed}

pub is_signed-requires : goal.is_signed-requires
is_signed-requires c =
    let n = signs_long c.args.surface.now.mesh.now c.args.surface.now.signatures.now c.args.choice.now.width c.requires.signed in
    record { edge = omega (arith, n, c.new-edge.ensures, c.loop-e-test.true, c.edges-e-end.ensures.count) }

pub signature-signature-requires : goal.signature-signature-requires
signature-signature-requires c =
    let n = signs_long c.args.surface.now.mesh.now c.args.surface.now.signatures.now c.args.choice.now.width c.requires.signed in
    record { edge = omega (arith, n, c.new-edge.ensures, c.loop-e-test.true, c.edges-e-end.ensures.count) }

pub sum_length-requires : goal.sum_length-requires
sum_length-requires c =
    let mesh = c.args.surface.now.mesh.now in
    let width = c.args.choice.now.width in
    let e_in : c.new-edge.result < edge_count mesh = omega (arith, c.new-edge.ensures, c.loop-e-test.true, c.edges-e-end.ensures.count) in
    record {
      small = subst (λ n. n < 2 ^ width) (sym c.signature-signature.ensures.signature)
          (sign_small mesh c.args.surface.now.signatures.now width c.new-edge.result c.requires.signed e_in);
    }

pub loop-e-preserved : goal.loop-e-preserved
loop-e-preserved c =
    let s = c.args.surface.now.signatures.now in
    let kept = c.args.choice.now.kept in
    let old = c.loop-e.asks.items in
    let at : c.new-edge.result ≡ c.loop-e.e = c.new-edge.ensures in
    elim c.if-is_signed.branch [
      | then-is_signed+in_ok-push w ↦
          let a : Ask = record { length = w.min-length.result; edge = c.new-edge.result } in
          let ask = w.sum_length.result in
          let sign : w.signature-signature.result ≡ slice_index s.signatures c.loop-e.e =
          w.signature-signature.ensures.signature ∙ ap (slice_index s.signatures) at in
          let asked : IsAsked kept ask (slice_index s.signatures c.loop-e.e) = elim (cases_eq ask 18446744073709551615) [
            | inl all ↦ inl all
            | inr some ↦ inr (subst (IsSumOfLength kept ask) sign (w.sum_length.ensures.sum some))
          ] in
          let size : w.min-length.result ≡ min ask c.args.most = omega (arith, w.min-length.ensures) in
          let e_in : c.new-edge.result < edge_count c.args.surface.now.mesh.now =
          omega (arith, c.new-edge.ensures, c.loop-e-test.true, c.edges-e-end.ensures.count) in
          rw w.asks-is (record {
            asks = asks_more s kept c.args.most c.loop-e.e ask a old w.push.new.self.items c.loop-e.invariant.asks
                w.in_ok-push.ensures.items at asked size;
            inside = subst (λ (xs : List Ask). All (λ b. b.edge < edge_count c.args.surface.now.mesh.now) xs)
                (sym w.in_ok-push.ensures.items)
                (All-push (λ (b : Ask). b.edge < edge_count c.args.surface.now.mesh.now) old a c.loop-e.invariant.inside e_in);
          })
      | else-is_signed w ↦
          let zero : slice_index s.signatures c.loop-e.e ≡ 0 =
          ap (slice_index s.signatures) (sym at)
          ∙ signed_none s c.new-edge.result (sym c.is_signed.ensures.signed ∙ w.if-is_signed.false) in
          rw w.asks-is (record { asks = asks_same s kept c.args.most c.loop-e.e old c.loop-e.invariant.asks zero; inside = c.loop-e.invariant.inside })
    ]
