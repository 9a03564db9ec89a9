-- What a walk file says, stage by stage.
use Rattle.surf_cert.proofs.Common.{◌≡◌, ℕ, suc, ◌<◌, ◌+◌, Bool, true, false, not, nat_le, eqb, List, [], ◌∷◌, length, get_or, Option, Some, None, Result, Ok, Err, refl, sym, ap, ◌∙◌, subst, arith, position, get_or_default, Mesh, pair_of, among, steps, edges, leb-false, eqb-true, first, last, IsClosed, TextLine, tokens_of, lines_of, contains_from_among, cert_number, ◌>>=◌}
use Rattle.surf_class.proofs.Common.{onto_numbers, NumberFault}
use Rattle.surf_class.specs.Numbers.{numbers_from}
use Rattle.surf_class.specs.Walks.{walk_of, walk_in, if_joined, if_closed, if_alone}
use Rattle.surf_class.specs.declared.fault.WalkFault.TheVariants.{NotEdge, Unclosed, Trailing}
use Rattle.surf_class.proofs.Lists.{none_passes}
use Rattle.surf_class.proofs.LineSizes.{some_token}

size : Result (List ℕ) NumberFault → ℕ
size (Ok ns) = length ns
size (Err fault) = 0

onto_size : (place : ℕ) (n : Option ℕ) (read : Result (List ℕ) NumberFault) (ns : List ℕ) → onto_numbers place n read ≡ Ok ns →
    (ms : List ℕ) × (read ≡ Ok ms) × (length ns ≡ suc (length ms))
unfolding size
onto_size place None read ns is = absurd cc
onto_size place (Some n) (Ok ms) ns is = (ms, refl, sym (ap size is))
onto_size place (Some n) (Err fault) ns is = absurd cc

-- each token is a number
numbers_length : (place : ℕ) (tokens : List (List ℕ)) (ns : List ℕ) → numbers_from place tokens ≡ Ok ns → length ns ≡ length tokens
unfolding numbers_from size
numbers_length place [] ns is = sym (ap size is)
numbers_length place (token ∷ tokens) ns is =
    let (ms, read, more) = onto_size place (cert_number token) (numbers_from (place + 1) tokens) ns is in
    more ∙ ap suc (numbers_length (place + 1) tokens ms read)

module _ (mesh : Mesh) (text : List ℕ) (line : TextLine) (lines : List TextLine) (is : lines_of text ≡ line ∷ lines)
    (list : List ℕ) (read : numbers_from 0 (tokens_of line.bytes) ≡ Ok list)
    (vertices : position (λ v. nat_le mesh.vertices v) list ≡ None) where
  begun : walk_in mesh text ≡ ((if_joined mesh list >>= if_closed) >>= if_alone lines)
  begun = ap (walk_of mesh) is ∙ rw (read, vertices) refl

  pub gap : (place : ℕ) → position (λ s. not (among (pair_of s) (edges mesh))) (steps list) ≡ Some place →
      walk_in mesh text ≡ Err (NotEdge place)
  gap place at = begun ∙ rw at refl

  module _ (joined : position (λ s. not (among (pair_of s) (edges mesh))) (steps list) ≡ None) where
    pub unclosed : eqb (first list) (last list) ≡ false → walk_in mesh text ≡ Err Unclosed
    unclosed off = begun ∙ rw (joined, off) refl

    module _ (round : eqb (first list) (last list) ≡ true) where
      pub trailing : (l : TextLine) (ls : List TextLine) → lines ≡ l ∷ ls → walk_in mesh text ≡ Err (Trailing l.number)
      trailing l ls more = begun ∙ rw (joined, round, more) refl

      pub alone : lines ≡ [] → walk_in mesh text ≡ Ok list
      alone none = begun ∙ rw (joined, round, none) refl

      pub closed : IsClosed mesh list
      closed = record {
        is_walk = record {
          begins = (let some = some_token text line lines is in
              let count = numbers_length 0 (tokens_of line.bytes) list read in omega (arith, some, count));
          vertices = λ k d l. subst (λ (v : ℕ). v < mesh.vertices) (sym (get_or_default list k d 0 l))
              (leb-false mesh.vertices (get_or list k 0) (none_passes (λ v. nat_le mesh.vertices v) list 0 vertices k l));
          along_edges = λ k d l. contains_from_among (pair_of (get_or (steps list) k d)) (edges mesh)
              (not_off (among (pair_of (get_or (steps list) k d)) (edges mesh))
              (none_passes (λ s. not (among (pair_of s) (edges mesh))) (steps list) d joined k l));
        };
        returns = eqb-true (first list) (last list) round;
      }
        where
          not_off : (b : Bool) → not b ≡ false → b ≡ true
          not_off true h = refl
          not_off false h = absurd cc
