-- Vertex lines, one after the other.
use Rattle.surf_surfaces.proofs.Common.{◌≡◌, ◌<◌, ◌≤◌, ◌+◌, ◌-◌, ℕ, suc, true, false, List, [], ◌∷◌, ◌++◌, length, Result, Ok, Err, refl, sym, ◌∙◌, ap, append_assoc, arith, nat_le, append-nil}
use Rattle.surf_text.specs.Text.{TextLine, tokens_of}
use Rattle.surf_off.specs.declared.fault.OffFault.{OffFault}
use Rattle.surf_off.specs.declared.fault.OffFault.TheVariants.{VertexLine, Early}
use Rattle.surf_off.specs.Gives.{with_line}
use Rattle.surf_off.specs.Off.{vertices_at}

abbrev pub Read : Type 0
Read = Result (List (List ℕ) × List TextLine) OffFault

-- the lines that were read before, and those that are still read
abbrev pub with_lines : List (List ℕ) → Result (List (List ℕ) × List TextLine) OffFault → Result (List (List ℕ) × List TextLine) OffFault
with_lines front (Ok read) = Ok (front ++ read.0, read.1)
with_lines front (Err e) = Err e

regroup : (front : List (List ℕ)) (text : List ℕ) (read : Read) → with_lines front (with_line text read) ≡ with_lines (front ++ text ∷ []) read
regroup front text (Ok read) = ap (λ (texts : List (List ℕ)). Ok (texts, read.1)) (simp append_assoc)
regroup front text (Err e) = refl

-- the first line, if there is one that has three tokens
module _ (v f : ℕ) (some : 0 < v) (lines : List TextLine) where
  pub first_early : lines ≡ [] → vertices_at v f lines ≡ Err (Early (v + f))
  unfolding vertices_at
  first_early none = let k : v ≡ suc (v - 1) = omega arith in rw (k, none) refl

  module _ (line : TextLine) (rest : List TextLine) (is : lines ≡ line ∷ rest) where
    pub first_long : nat_le 3 (length (tokens_of line.bytes)) ≡ true → vertices_at v f lines ≡ with_line line.bytes (vertices_at (v - 1) f rest)
    unfolding vertices_at
    first_long long =
        let k : v ≡ suc (v - 1) = omega arith in
        ap (λ (n : ℕ). vertices_at n f lines) k ∙ first
      where
        first : vertices_at (suc (v - 1)) f lines ≡ with_line line.bytes (vertices_at (v - 1) f rest)
        first = rw (is, long) refl

    pub first_short : nat_le 3 (length (tokens_of line.bytes)) ≡ false → vertices_at v f lines ≡ Err (VertexLine line.number)
    unfolding vertices_at
    first_short short = let k : v ≡ suc (v - 1) = omega arith in rw (k, is, short) refl

module _ (v f done : ℕ) (front : List (List ℕ)) (lines : List TextLine) (total : Read) (so_far : with_lines front (vertices_at (v - done) f lines) ≡ total) where
  pub vertex_more : (text : List ℕ) (rest : List TextLine) → vertices_at (v - done) f lines ≡ with_line text (vertices_at (v - done - 1) f rest) → with_lines (front ++ text ∷ []) (vertices_at (v - (done + 1)) f rest) ≡ total
  vertex_more text rest is =
      let k : v - done - 1 ≡ v - (done + 1) = omega arith in
      sym (regroup front text (vertices_at (v - (done + 1)) f rest))
      ∙ ap (λ (n : ℕ). with_lines front (with_line text (vertices_at n f rest))) (sym k) ∙ ap (with_lines front) (sym is) ∙ so_far

  pub vertices_done : v ≤ done → total ≡ Ok (front, lines)
  unfolding vertices_at
  vertices_done le =
      let k : v - done ≡ 0 = omega arith in
      let one : with_lines front (vertices_at (v - done) f lines) ≡ Ok (front, lines) = rw k (ap (λ (texts : List (List ℕ)). Ok (texts, lines)) (append-nil front)) in
      sym so_far ∙ one
