-- Words read one after the other.
use Rattle.std.proofs.Common.{◌≡◌, ℕ, List, [], ◌∷◌, ◌++◌, String, sym, ◌∙◌, append_assoc, append-nil, string_bytes, All}
use Rattle.std.proofs.lemmas.List.Elements.{recursion_from_All}
use Rattle.std.proofs.lemmas.List.{map-append}
use Rattle.std.specs.List.{AllByRecursion}
use Rattle.std.specs.Str.{IsUtf8}
use Rattle.std.specs.declared.alloc.Global.{Global}
use Rattle.surf_words.specs.Words.{texts}

module _ (words : List (String Global)) (tokens all : List (List ℕ)) (so_far : texts words ++ tokens ≡ all) where
  pub word_more : (word : String Global) (token : List ℕ) (rest : List (List ℕ)) → tokens ≡ token ∷ rest → string_bytes word ≡ token →
      texts (words ++ word ∷ []) ++ rest ≡ all
  word_more word token rest is same =
      let more : texts (words ++ word ∷ []) ≡ texts words ++ string_bytes word ∷ [] = map-append string_bytes words (word ∷ []) in
      let regroup : (texts words ++ token ∷ []) ++ rest ≡ texts words ++ token ∷ rest = append_assoc (texts words) (token ∷ []) rest in
      rw (more, same, regroup, sym is) so_far

  pub words_done : tokens ≡ [] → texts words ≡ all
  words_done none = sym (append-nil (texts words)) ∙ (rw (sym none) so_far)

at_token : (front : List (List ℕ)) (token : List ℕ) (rest : List (List ℕ)) → AllByRecursion IsUtf8 (front ++ token ∷ rest) → IsUtf8 token
at_token [] token rest h = h.0
at_token (x ∷ xs) token rest h = at_token xs token rest h.1

pub bad_word : (front tokens all : List (List ℕ)) (token : List ℕ) (rest : List (List ℕ)) → front ++ tokens ≡ all →
    tokens ≡ token ∷ rest → ¬ IsUtf8 token → ¬ All IsUtf8 all
bad_word front tokens all token rest so_far is bad good =
    let whole : front ++ token ∷ rest ≡ all = rw (sym is) so_far in
    bad (at_token front token rest (recursion_from_All IsUtf8 (front ++ token ∷ rest) (rw whole good)))
