-- The sum of vertices, edges and faces whose counts are known to differ by so many.
use Rattle.std.proofs.Common.{◌≡◌, ℕ, ◌+◌, sym, ap, ◌∙◌, arith}
use Rattle.std.specs.Prelude.{pos, ◌+ℤ◌, ◌-ℤ◌}
use Rattle.std.proofs.Math.IntN.{neg_ℤ, +ℤ_assoc, +ℤ_comm, pos-+ℤ-pos, +ℤ-neg_ℤ_cancel}

-- vertices less edges and more faces, where these are d less than edges and 2
pub less_two : (v e f d : ℕ) → d + (v + f) ≡ e + 2 → ((pos v -ℤ pos e) +ℤ pos f) +ℤ pos d ≡ pos 2
less_two v e f d count =
    let all : v + (f + d) ≡ 2 + e = omega arith in
    +ℤ_assoc (pos v -ℤ pos e) (pos f) (pos d)
    ∙ ap (λ x. (pos v -ℤ pos e) +ℤ x) (pos-+ℤ-pos f d)
    ∙ +ℤ_assoc (pos v) (neg_ℤ (pos e)) (pos (f + d))
    ∙ ap (λ x. pos v +ℤ x) (+ℤ_comm (neg_ℤ (pos e)) (pos (f + d)))
    ∙ sym (+ℤ_assoc (pos v) (pos (f + d)) (neg_ℤ (pos e)))
    ∙ ap (λ x. x -ℤ pos e) (pos-+ℤ-pos v (f + d) ∙ ap pos all ∙ sym (pos-+ℤ-pos 2 e))
    ∙ +ℤ-neg_ℤ_cancel (pos 2) (pos e)
