use Rattle.surf_cert.proofs.Common.{◌∙◌, sym, ap, ℕ, List, Option, ok_or, numbers_of}
use Rattle.surf_cert.specs.declared.fault.CertText.TheVariants.{Form}
use Rattle.surf_cert.proofs.Numbers.{with_numbers, number_more, number_bad, numbers_done}
use Rattle.surf_sheetcert.proofs.next.read_numbers.Goals as goal

pub returns-in_default-read_number : goal.returns-in_default-read_number
returns-in_default-read_number c =
    let none = number_bad c.loop-token.numbers.items c.loop-token.tokens.tokens _ c.loop-token.invariant c.in-Some.token.now c.next_token.new.self.tokens c.in-Some.ensures.next (sym c.read_number.ensures.number ∙ c.in_default-read_number.is) in
    record { numbers = λ other. ap (λ (ns : Option (List ℕ)). ok_or ns (Form c.args.line.now.number)) none }

pub loop-token-preserved : goal.loop-token-preserved
loop-token-preserved c =
    let more = number_more c.loop-token.numbers.items c.loop-token.tokens.tokens _ c.loop-token.invariant c.in-Some.token.now c.next_token.new.self.tokens _ c.in-Some.ensures.next (sym c.read_number.ensures.number ∙ c.in-Some-read_number.is) in
    ap (λ (ns : List ℕ). with_numbers ns (numbers_of c.next_token.new.self.tokens)) c.in_ok-push.ensures.items ∙ more

pub returns : goal.returns
returns c =
    let all = numbers_done c.loop-token.numbers.items c.loop-token.tokens.tokens _ c.loop-token.invariant c.in_default.ensures.next.0 in
    record { numbers = ap (λ (ns : Option (List ℕ)). ok_or ns (Form c.args.line.now.number)) all }
