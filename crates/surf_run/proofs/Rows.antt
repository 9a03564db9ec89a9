-- What comes of each row of the command table: one outcome, which depends on the files alone that the row names.
use Rattle.surf_answers.proofs.Common.{◌++◌, ◌∷◌, ℕ, List, [], Option, Some, None, refl, edge_count, AllByRecursion, geom_cause, soup_text, refused_by, cut_text, lengths_positive}
use Rattle.surf_answers.proofs.Commands.{Files, mesh_of, made_values, cert_cause, copy_cause, sew_cause, First}
use Rattle.surf_answers.proofs.Commands.{Second, OnRequest, named, point_file, length_file, Request, help, version}
use Rattle.surf_answers.proofs.Commands.{info, dist, loops, basis, cycle, cut, sew, disc, class, same, confirm}
use Rattle.surf_answers.proofs.Commands.{shortest, certify_loops, certify_basis, check, lengths, gen_shape, try_shape}
use Rattle.surf_words.specs.Words.{large_basis, large_cycle, large_shortest}
use Rattle.surf_answers.specs.ShortestWalk.{GivesShortestWalk}
use Rattle.surf_answers.specs.Fronts.{OnCovered}
use Rattle.surf_geom.specs.Measures.{measures_in}
use Rattle.surf_geom.specs.Texts.{lengths_text}
use Rattle.surf_cert.specs.Grammar.{parsed_cert}
use Rattle.surf_run.proofs.ShapeWords.{IsWellShaped, shape_is_surface, made_are_positive}
use Rattle.surf_base.specs.declared.limits.LimitKind.TheVariants as limits
use Rattle.surf_sew.specs.Copies.{copies_in}
use Rattle.surf_sew.specs.Sewing.{sewn_of}
use Rattle.surf_run.proofs.OneCut.{one_cut}
use Rattle.surf_run.proofs.StepLaws.{IsSettled, Same, followed, settled, steady, within, reading, walked, told_kind, of_surface, one_base, one_mesh_text, one_outcome, one_result, has_lengths}
use Rattle.surf_run.proofs.OneOutcomes.{one_info, one_judgement, says_same, one_distances, one_system, one_loop_cert, one_basis, one_cycle, one_basis_cert, one_verdict, one_sewing, one_class, one_evidence_text, one_judged_evidence, one_shortest, one_summary}

-- ---- the rows

-- what is so of all files of two lists is so of those of each
parted : (P : List ℕ → Type 0) (xs ys : List (List ℕ)) → AllByRecursion P (xs ++ ys) → AllByRecursion P xs × AllByRecursion P ys
parted P [] ys all = (tt, all)
parted P (x ∷ xs) ys all = let (first, second) = parted P xs ys all.1 in ((all.0, first), second)

module _ (here there : Files) where
  -- a walk that is sought within limits on the cover
  covered_is_settled : (most_loops most_nodes : ℕ) (mesh word walk : List ℕ) →
      AllByRecursion (Same here there) (named (Some (shortest mesh word walk))) →
      IsSettled (OnCovered most_loops most_nodes mesh word walk here (λ read. GivesShortestWalk read.1))
      (OnCovered most_loops most_nodes mesh word walk there (λ read. GivesShortestWalk read.1))
  covered_is_settled most_loops most_nodes mesh word walk agree =
      of_surface here there mesh agree.0 (λ read is.
      within limits.Loops _ _ (within limits.CoverLoops _ _ (within limits.CoverNodes _ _
      (followed (has_lengths here there word read.1 agree.1.1) (λ values given.
      followed (walked here there First walk read.1 agree.1.0) (λ closed has.
      settled (one_shortest read.1 values closed is (lengths_positive read.1 values given.1 given.2) has.1)))))))

  pub rows_are_settled : (r : Option Request) → AllByRecursion (Same here there) (named r) → IsWellShaped r →
      IsSettled (OnRequest r here) (OnRequest r there)
  rows_are_settled None agree shaped = settled (one_outcome _)
  rows_are_settled (Some help) agree shaped = settled (one_outcome _)
  rows_are_settled (Some version) agree shaped = settled (one_outcome _)
  rows_are_settled (Some (info mesh)) agree shaped =
      of_surface here there mesh agree.0 (λ read _. settled (one_info read.1))
  rows_are_settled (Some (dist mesh word base)) agree shaped =
      of_surface here there mesh agree.0 (λ read is.
      followed (has_lengths here there word read.1 agree.1) (λ values given.
      followed (steady (one_base base read.1)) (λ vertex _.
      settled (one_distances read.1 values is (lengths_positive read.1 values given.1 given.2) vertex))))
  rows_are_settled (Some (loops mesh word base)) agree shaped =
      of_surface here there mesh agree.0 (λ read is. within limits.Loops _ _
      (followed (has_lengths here there word read.1 agree.1) (λ values given.
      followed (steady (one_base base read.1)) (λ vertex _.
      settled (one_system read.1 values is (lengths_positive read.1 values given.1 given.2) vertex)))))
  rows_are_settled (Some (basis mesh word)) agree shaped =
      of_surface here there mesh agree.0 (λ read is. within limits.Loops _ _ (within limits.BasisVertices _ _
      (followed (has_lengths here there word read.1 agree.1) (λ values given.
      settled (one_basis read.1 values is (lengths_positive read.1 values given.1 given.2))))))
  rows_are_settled (Some (cycle mesh word)) agree shaped =
      of_surface here there mesh agree.0 (λ read is. within limits.Loops _ _ (within limits.BasisVertices _ _
      (followed (has_lengths here there word read.1 agree.1) (λ values given.
      settled (one_cycle read.1 values is (lengths_positive read.1 values given.1 given.2))))))
  rows_are_settled (Some (large_basis mesh word)) agree shaped =
      of_surface here there mesh agree.0 (λ read is. within limits.Loops _ _
      (followed (has_lengths here there word read.1 agree.1) (λ values given.
      settled (one_basis read.1 values is (lengths_positive read.1 values given.1 given.2)))))
  rows_are_settled (Some (large_cycle mesh word)) agree shaped =
      of_surface here there mesh agree.0 (λ read is. within limits.Loops _ _
      (followed (has_lengths here there word read.1 agree.1) (λ values given.
      settled (one_cycle read.1 values is (lengths_positive read.1 values given.1 given.2)))))
  rows_are_settled (Some (cut extent mesh word base)) agree shaped =
      let (points, of_word) = parted (Same here there) (point_file extent) (length_file word) agree.1 in
      of_surface here there mesh agree.0 (λ read is. within limits.Loops _ _
      (followed (has_lengths here there word read.1 of_word) (λ values given.
      followed (steady (one_base base read.1)) (λ vertex _.
      followed (told_kind here there extent read.1 points) (λ kind _.
      followed (steady (one_cut read.1 values vertex is (lengths_positive read.1 values given.1 given.2) kind)) (λ opened _.
      settled (λ o p x y. says_same (cut_text read.0 opened.origins opened.faces) (cut_text read.0 opened.origins opened.faces) o p refl x.says y.says)))))))
  rows_are_settled (Some (sew mesh)) agree shaped =
      followed (reading here there mesh agree.0) (λ bytes _. followed (steady (one_mesh_text bytes)) (λ read _.
      followed (steady (one_result (refused_by (copy_cause read.1.vertices) (copies_in bytes read.1.vertices)))) (λ origins _.
      followed (steady (one_result (refused_by sew_cause (sewn_of read.0.vertex_lines read.1 origins)))) (λ faces _.
      settled (one_sewing read origins faces)))))
  rows_are_settled (Some (disc mesh)) agree shaped =
      followed (reading here there mesh agree.0) (λ bytes _. followed (steady (one_mesh_text bytes)) (λ read _.
      settled (one_judgement read.1)))
  rows_are_settled (Some (class mesh walk)) agree shaped =
      of_surface here there mesh agree.0 (λ read is. within limits.Loops _ _
      (followed (walked here there First walk read.1 agree.1.0) (λ closed has.
      settled (one_class read.1 closed None is has.1))))
  rows_are_settled (Some (same mesh first second)) agree shaped =
      of_surface here there mesh agree.0 (λ read is. within limits.Loops _ _
      (followed (walked here there First first read.1 agree.1.0) (λ closed has.
      followed (walked here there Second second read.1 agree.1.1.0) (λ other too.
      settled (one_class read.1 closed (Some other) is (has.1, too.1))))))
  rows_are_settled (Some (confirm mesh walk cert)) agree shaped =
      of_surface here there mesh agree.0 (λ read _.
      followed (walked here there First walk read.1 agree.1.0) (λ closed _.
      followed (reading here there cert agree.1.1.0) (λ text _.
      followed (steady (one_evidence_text text)) (λ evidence _.
      settled (one_judged_evidence read.1 closed evidence)))))
  rows_are_settled (Some (shortest mesh word walk)) agree shaped = covered_is_settled _ _ mesh word walk agree
  rows_are_settled (Some (large_shortest mesh word walk)) agree shaped = covered_is_settled _ _ mesh word walk agree
  rows_are_settled (Some (certify_loops mesh word base)) agree shaped =
      of_surface here there mesh agree.0 (λ read is. within limits.Loops _ _
      (followed (has_lengths here there word read.1 agree.1) (λ values given.
      followed (steady (one_base base read.1)) (λ vertex _.
      settled (one_loop_cert read.1 values is (lengths_positive read.1 values given.1 given.2) vertex)))))
  rows_are_settled (Some (certify_basis mesh word)) agree shaped =
      of_surface here there mesh agree.0 (λ read is. within limits.Loops _ _ (within limits.CertificateVertices _ _
      (followed (has_lengths here there word read.1 agree.1) (λ values given.
      settled (one_basis_cert read.1 values is (lengths_positive read.1 values given.1 given.2))))))
  rows_are_settled (Some (check mesh word cert)) agree shaped =
      of_surface here there mesh agree.0 (λ read _. within limits.Loops _ _
      (followed (has_lengths here there word read.1 agree.1.1) (λ values _.
      followed (reading here there cert agree.1.0) (λ text _.
      followed (steady (one_result (refused_by cert_cause (parsed_cert text)))) (λ certificate _.
      within limits.CertificateVertices _ _ (settled (one_verdict read.1 values certificate)))))))
  rows_are_settled (Some (lengths mesh decimals)) agree shaped =
      of_surface here there mesh agree.0 (λ read _.
      followed (steady (one_result (refused_by geom_cause (measures_in read.1 read.0.vertex_lines decimals)))) (λ values _.
      settled (λ o p x y. says_same (lengths_text read.1 values) (lengths_text read.1 values) o p refl x.says y.says)))
  rows_are_settled (Some (gen_shape shape)) agree shaped =
      let mesh = mesh_of shape in
      within limits.Vertices _ _ (within limits.Faces _ _ (settled (λ o p x y.
      says_same (soup_text mesh (edge_count mesh)) (soup_text mesh (edge_count mesh)) o p refl x.says y.says)))
  rows_are_settled (Some (try_shape shape scatter)) agree shaped =
      within limits.Vertices _ _ (within limits.Faces _ _ (within limits.Loops _ _ (within limits.BasisVertices _ _
      (settled (one_summary (mesh_of shape) (made_values (mesh_of shape) scatter) (shape_is_surface shape shaped)
      (made_are_positive (mesh_of shape) scatter))))))
