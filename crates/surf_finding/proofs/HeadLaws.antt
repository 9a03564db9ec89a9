-- The text of a desk's loops is that of the loops that are chosen.
use Rattle.surf_answers.proofs.Common.{◌≡◌, ℕ, ◌<◌, List, [], ◌∷◌, ◌++◌, length, map, refl, sym, ap, ◌∙◌, subst}
use Rattle.surf_answers.proofs.Common.{arith, All, sum, AllByRecursion, flat_map, All-from_recursion, Mesh}
use Rattle.surf_answers.proofs.Common.{edge_count, Loop, loops_at, measured_line, total_lines, measured_text}
use Rattle.surf_answers.proofs.Common.{GivesLoops, Says, total_size, Outcome}
use Rattle.surf_finding.specs.HeadTexts.{head_line, heads_text}
use Rattle.surf_loops.specs.Loops.{LoopTables, IsGreedy, loop_of, trees_of}
use Rattle.surf_loops.specs.declared.head.LoopHead.{LoopHead}
use Rattle.surf_surfaces.proofs.bases.LoopsAtLaws.{IsLoopAt, loops_each}

module _ (mesh : Mesh) (t : LoopTables) where
  as_many : (heads : List LoopHead) → length (map (loop_of mesh t) heads) ≡ length heads
  as_many [] = refl
  as_many (h ∷ heads) = let rest = as_many heads in omega (arith, rest)

  as_long : (heads : List LoopHead) → map (λ c. c.size) (map (loop_of mesh t) heads) ≡ map (λ h. h.length) heads
  as_long [] = refl
  as_long (h ∷ heads) = ap (λ xs. h.length ∷ xs) (as_long heads)

  same_lines : (heads : List LoopHead) → flat_map (λ c. measured_line "loop " c.size c.walk) (map (loop_of mesh t) heads) ≡ flat_map (head_line mesh t.tree) heads
  same_lines [] = refl
  same_lines (h ∷ heads) = ap (λ xs. head_line mesh t.tree h ++ xs) (same_lines heads)

  text_of_heads : (measured_text "loops " "loop ") (map (loop_of mesh t) t.heads) ≡ heads_text mesh t.tree t.heads
  text_of_heads =
      ap (λ n. total_lines "loops " n (sum (map (λ c. c.size) (map (loop_of mesh t) t.heads))) ++ flat_map (λ c. measured_line "loop " c.size c.walk) (map (loop_of mesh t) t.heads)) (as_many t.heads)
      ∙ ap (λ xs. total_lines "loops " (length t.heads) (sum xs) ++ flat_map (λ c. measured_line "loop " c.size c.walk) (map (loop_of mesh t) t.heads)) (as_long t.heads)
      ∙ ap (λ xs. total_lines "loops " (length t.heads) (sum (map (λ h. h.length) t.heads)) ++ xs) (same_lines t.heads)

  edges_of : (heads : List LoopHead) → AllByRecursion (λ c. c.edge < edge_count mesh) (map (loop_of mesh t) heads) → AllByRecursion (λ h. h.edge < edge_count mesh) heads
  edges_of [] all = tt
  edges_of (h ∷ heads) all = (all.0, edges_of heads all.1)

weaker : (P Q : Loop → Type 0) (xs : List Loop) → ((c : Loop) → P c → Q c) → AllByRecursion P xs → AllByRecursion Q xs
weaker P Q [] f all = tt
weaker P Q (x ∷ xs) f all = (f x all.0, weaker P Q xs f all.1)

module _ (mesh : Mesh) (lengths : List ℕ) (base : ℕ) (t : LoopTables) (greedy : IsGreedy mesh lengths base t) where
  heads_are_loops : heads_text mesh t.tree t.heads ≡ measured_text "loops " "loop " (loops_at mesh lengths base (trees_of t))
  heads_are_loops = sym (text_of_heads mesh t) ∙ ap (measured_text "loops " "loop ") greedy.heads

  pub gives_loops : (o : Outcome) → Says (heads_text mesh t.tree t.heads) o → GivesLoops mesh lengths base o
  gives_loops o says = record {
    found = record { trees = trees_of t; chosen = greedy.chosen; least = greedy.least };
    says = subst (λ (text : List ℕ). Says text o) heads_are_loops says;
  }

  pub heads_total : sum (map (λ h. h.length) t.heads) ≡ total_size (loops_at mesh lengths base (trees_of t))
  heads_total = ap sum (sym (as_long mesh t t.heads)) ∙ ap total_size greedy.heads

  pub heads_inside : All (λ h. h.edge < edge_count mesh) t.heads
  heads_inside = All-from_recursion (λ h. h.edge < edge_count mesh) t.heads (edges_of mesh t t.heads
      (subst (λ (xs : List Loop). AllByRecursion (λ c. c.edge < edge_count mesh) xs) (sym greedy.heads)
      (weaker (IsLoopAt mesh lengths base (trees_of t)) (λ c. c.edge < edge_count mesh) (loops_at mesh lengths base (trees_of t)) (λ c is. is.edge_in)
      (loops_each mesh lengths base (trees_of t)))))
