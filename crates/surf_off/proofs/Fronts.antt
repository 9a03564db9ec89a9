-- The parts of a text stand in each front of it that they end within.
use Rattle.std.proofs.Common.{◌≡◌, ◌≤◌, ◌+◌, ◌-◌, ℕ, suc, List, [], ◌∷◌, ◌++◌, map, replicate, take, drop, refl, ap, ◌∙◌, sym, arith}
use Rattle.std.proofs.lemmas.List.{drop-take, take-take}
use Rattle.surf_off.specs.Seen.{part_of}
use Rattle.surf_off.specs.Places.{Places, EndWithin, AreWithin, parts_at}
use Rattle.surf_off.specs.declared.parts.Span.{Span}

front_part : (text : List ℕ) (n : ℕ) (span : Span) → span.start + span.len ≤ n → part_of (take n text) span ≡ part_of text span
front_part text n span le =
    let m : span.start + (n - span.start) ≡ n = omega arith in
    let short : span.len ≤ n - span.start = omega arith in
    let cut : drop span.start (take n text) ≡ take (n - span.start) (drop span.start text) =
    ap (λ (k : ℕ). drop span.start (take k text)) (sym m) ∙ drop-take span.start (n - span.start) text in
    ap (take span.len) cut ∙ take-take span.len (n - span.start) (drop span.start text) short

front_parts : (text : List ℕ) (n : ℕ) (spans : List Span) → EndWithin n spans → map (part_of (take n text)) spans ≡ map (part_of text) spans
front_parts text n [] within = refl
front_parts text n (span ∷ spans) within =
    ap (λ (part : List ℕ). part ∷ map (part_of (take n text)) spans) (front_part text n span (within 0 span (omega arith)))
    ∙ ap (λ (parts : List (List ℕ)). part_of text span ∷ parts) (front_parts text n spans (λ k d h. within (suc k) d (omega arith)))

pub front_same : (text : List ℕ) (n : ℕ) (places : Places) → AreWithin n places → parts_at (take n text) places ≡ parts_at text places
front_same text n places within =
    ap (λ (lines : List (List ℕ)). record { header = places.header; vertex_lines = lines; colours = replicate places.before [] ++ map (part_of (take n text)) places.colours }) (front_parts text n places.vertex_lines within.vertex_lines)
    ∙ ap (λ (colours : List (List ℕ)). record { header = places.header; vertex_lines = map (part_of text) places.vertex_lines; colours = replicate places.before [] ++ colours }) (front_parts text n places.colours within.colours)

pub wider : (n m : ℕ) (spans : List Span) → n ≤ m → EndWithin n spans → EndWithin m spans
wider n m spans le within = λ k d h. let w = within k d h in omega arith
