-- What is answered of a surface, a mesh or a certificate is one outcome.
use Rattle.surf_answers.proofs.Common.{◌≡◌, inl, inr, ℕ, ◌++◌, List, [], Option, refl, sym, ◌∙◌, ap, arith, length, nat_lt, if◌then◌else◌, codes, IsSurface, ArePositive, IsClosed, parity, walk_length, Loop, loops_at, Mesh, characteristic, Outcome, answers, refuses, misses, GivesSummary, refused_by, Informs, Says, beyond, loop_text, basis_text, chosen_cert, basis_cert_of, measured_line, measured_text, texts_same, evidence_text, Evidence, AreClosed, evidence_words, GivesClass, GivesDistances, GivesLoops, GivesBasis, GivesCycle, GivesLoopCert, GivesBasisCert}
use Rattle.surf_answers.proofs.Commands.{IsEvidenceText, OffParts, JudgesCert, OnSewnMesh, evidence_in}
use Rattle.surf_answers.proofs.Commands.{evidence_cause}
use Rattle.surf_run.proofs.Common.{bases_are_one, chosen_basis_certs_are_one}
use Rattle.surf_texts.specs.SummaryTexts.{measures_text, mesh_counts, kind_text}
use Rattle.surf_answers.specs.Summaries.{LoopsTotal, BasisTotals, CycleMeasures, total_size}
use Rattle.surf_disc.proofs.FaultLaws.{fault_only as disc_fault_only}
use Rattle.surf_answers.specs.Discs.{JudgesDisc, SaysNoDisc}
use Rattle.surf_records.specs.declared.cert.Cert.{Cert}
use Rattle.surf_records.specs.declared.cert.Cert.TheVariants.{Loops}
use Rattle.surf_records.specs.declared.cert.Cert.TheVariants as certs
use Rattle.surf_certcheck.proofs.LoopFaults.{no_loop_fault}
use Rattle.surf_certcheck.proofs.OneBasisFault.{one_basis_fault, no_basis_fault}
use Rattle.surf_certcheck.proofs.OneFault.{one_loop_fault}
use Rattle.surf_run.proofs.CycleLaws.{firsts_are_one}
use Rattle.surf_run.proofs.OneFaults.{disc_faults_are_one, class_faults_are_one}
use Rattle.surf_base.specs.declared.limits.LimitKind.TheVariants as limits
use Rattle.surf_validity.proofs.OneCert.{chosen_certs_are_one}
use Rattle.surf_surfaces.proofs.walks.ShortestTreeLaws.{shortest_trees_are_one}
use Rattle.surf_surfaces.proofs.bases.LoopsOne.{loops_are_one}
use Rattle.surf_texts.specs.DistanceTexts.{distances_text}
use Rattle.surf_sew.specs.Texts.{sewn_text}
use Rattle.surf_classes.proofs.ChosenEvidence.{class_evidence_is_one}
use Rattle.surf_answers.specs.Confirming.{JudgesEvidence}
use Rattle.surf_texts.specs.EvidenceLines.{wrong_line}
use Rattle.surf_classes.proofs.ChosenWalks.{chosen_walk_is_one}
use Rattle.surf_answers.specs.ShortestWalk.{GivesShortestWalk}
use Rattle.surf_run.proofs.StepLaws.{HasOneOutcome, IsOne, one_told, one_end, one_result, one_surface_of}

-- ---- what is answered

-- a surface is of one genus, or of one number of crosscaps
pub one_info : (mesh : Mesh) → HasOneOutcome (Informs mesh)
one_info mesh o p (inl x) (inl y) =
    let same : x.genus ≡ y.genus = omega (arith, x.twice, y.twice) in
    x.text ∙ ap (λ n. answers 0 (mesh_counts mesh ++ kind_text "\ngenus " (characteristic mesh) n)) same ∙ sym y.text
one_info mesh o p (inl x) (inr y) = absurd (y.one_sided x.two_sided)
one_info mesh o p (inr x) (inl y) = absurd (x.one_sided y.two_sided)
one_info mesh o p (inr x) (inr y) =
    let same : x.crosscaps ≡ y.crosscaps = omega (arith, x.count, y.count) in
    x.text ∙ ap (λ n. answers 0 (mesh_counts mesh ++ kind_text "\ncrosscaps " (characteristic mesh) n)) same ∙ sym y.text

-- a mesh that is no disc has one first fault
one_no_disc : (mesh : Mesh) → HasOneOutcome (SaysNoDisc mesh)
one_no_disc mesh = one_told (disc_faults_are_one mesh)

-- a disc has no fault
pub one_judgement : (mesh : Mesh) → HasOneOutcome (JudgesDisc mesh)
one_judgement mesh o p (inl x) (inl y) = x.1 ∙ sym y.1
one_judgement mesh o p (inl x) (inr y) = absurd (y.isnt_memory (disc_fault_only mesh y.fault y.is_fault x.0))
one_judgement mesh o p (inr x) (inl y) = absurd (x.isnt_memory (disc_fault_only mesh x.fault x.is_fault y.0))
one_judgement mesh o p (inr x) (inr y) = one_no_disc mesh o p x y

-- one text is said in one way
pub says_same : (t u : List ℕ) (o p : Outcome) → t ≡ u → Says t o → Says u p → o ≡ p
says_same t u o p same x y = x ∙ ap (λ s. if nat_lt 1073741824 (length s) then beyond limits.Answer else answers 0 s) same ∙ sym y

-- ---- of a surface with lengths

module _ (mesh : Mesh) (lengths : List ℕ) (surface : IsSurface mesh) (long : ArePositive mesh lengths) where
  pub one_distances : (base : ℕ) → HasOneOutcome (GivesDistances mesh lengths base)
  one_distances base o p x y =
      says_same (distances_text mesh.vertices x.tree) (distances_text mesh.vertices y.tree) o p
      (texts_same mesh base x.tree y.tree (shortest_trees_are_one mesh lengths base x.tree y.tree surface long x.shortest y.shortest) x.shortest.root y.shortest.root)
      x.says y.says

  pub one_system : (base : ℕ) → HasOneOutcome (GivesLoops mesh lengths base)
  one_system base o p x y =
      says_same (measured_text "loops " "loop " (loops_at mesh lengths base x.found.trees)) (measured_text "loops " "loop " (loops_at mesh lengths base y.found.trees)) o p
      (ap (measured_text "loops " "loop ") (loops_are_one mesh lengths base x.found.trees y.found.trees surface long x.found.chosen y.found.chosen)) x.says y.says

  pub one_loop_cert : (base : ℕ) → HasOneOutcome (GivesLoopCert mesh lengths base)
  one_loop_cert base o p x y =
      says_same (loop_text (chosen_cert mesh x.found.trees)) (loop_text (chosen_cert mesh y.found.trees)) o p
      (ap loop_text (chosen_certs_are_one mesh lengths base x.found.trees y.found.trees surface long x.found.chosen y.found.chosen)) x.says y.says

  pub one_basis : HasOneOutcome (GivesBasis mesh lengths)
  one_basis o p x y =
      says_same (measured_text "cycles " "cycle " x.found.basis) (measured_text "cycles " "cycle " y.found.basis) o p
      (ap (measured_text "cycles " "cycle ") (bases_are_one mesh lengths x.found.trees y.found.trees surface long x.found.chosen y.found.chosen x.found.basis y.found.basis x.found.is_basis y.found.is_basis)) x.says y.says

  pub one_cycle : HasOneOutcome (GivesCycle mesh lengths)
  one_cycle o p (inl x) (inl y) =
      says_same (measured_line "cycle " x.found.first.size x.found.first.walk) (measured_line "cycle " y.found.first.size y.found.first.walk) o p
      (ap (λ (c : Loop). measured_line "cycle " c.size c.walk) (firsts_are_one mesh lengths x.found.trees y.found.trees surface long x.found.chosen y.found.chosen x.found.first y.found.first x.found.rest y.found.rest x.found.is_first y.found.is_first))
      x.says y.says
  one_cycle o p (inl x) (inr y) =
      absurd (x.found.shortest.nonseparating.separates_not (y.separate x.found.first.walk x.found.shortest.nonseparating.simple))
  one_cycle o p (inr x) (inl y) =
      absurd (y.found.shortest.nonseparating.separates_not (x.separate y.found.first.walk y.found.shortest.nonseparating.simple))
  one_cycle o p (inr x) (inr y) = says_same (codes "none\n") (codes "none\n") o p refl x.says y.says

  pub one_basis_cert : HasOneOutcome (GivesBasisCert mesh lengths)
  one_basis_cert o p x y =
      says_same (basis_text (basis_cert_of mesh x.found.trees x.found.basis)) (basis_text (basis_cert_of mesh y.found.trees y.found.basis)) o p
      (ap basis_text (chosen_basis_certs_are_one mesh lengths x.found.trees y.found.trees x.found.basis y.found.basis surface long x.found.chosen y.found.chosen x.found.is_basis y.found.is_basis)) x.says y.says

-- ---- verdicts, sewn meshes, classes

-- no certificate is valid and has a fault
pub one_verdict : (mesh : Mesh) (lengths : List ℕ) (cert : Cert) → HasOneOutcome (JudgesCert mesh lengths cert)
one_verdict mesh lengths (Loops cert) o p (inl x) (inl y) = x.text ∙ sym y.text
one_verdict mesh lengths (Loops cert) o p (inl x) (inr y) = absurd (no_loop_fault mesh lengths cert x.valid y.fault y.isnt_memory y.is_fault)
one_verdict mesh lengths (Loops cert) o p (inr x) (inl y) = absurd (no_loop_fault mesh lengths cert y.valid x.fault x.isnt_memory x.is_fault)
one_verdict mesh lengths (Loops cert) o p (inr x) (inr y) =
    one_told (λ a b some other is too. one_loop_fault mesh lengths cert a b is too some other) o p x y
one_verdict mesh lengths (certs.Basis cert) o p (inl x) (inl y) = x.text ∙ sym y.text
one_verdict mesh lengths (certs.Basis cert) o p (inl x) (inr y) = absurd (no_basis_fault mesh lengths cert x.valid y.fault y.isnt_memory y.is_fault)
one_verdict mesh lengths (certs.Basis cert) o p (inr x) (inl y) = absurd (no_basis_fault mesh lengths cert y.valid x.fault x.isnt_memory x.is_fault)
one_verdict mesh lengths (certs.Basis cert) o p (inr x) (inr y) =
    one_told (λ a b some other is too. one_basis_fault mesh lengths cert a b is too some other) o p x y

-- a disc has no fault, and neither has a surface
pub one_sewing : (read : OffParts × Mesh) (origins : List ℕ) (mesh : Mesh) → HasOneOutcome (OnSewnMesh read origins mesh)
one_sewing read origins mesh o p (inl x) (inl y) = one_no_disc read.1 o p x y
one_sewing read origins mesh o p (inl x) (inr y) = absurd (x.isnt_memory (disc_fault_only read.1 x.fault x.is_fault y.0))
one_sewing read origins mesh o p (inr x) (inl y) = absurd (y.isnt_memory (disc_fault_only read.1 y.fault y.is_fault x.0))
one_sewing read origins mesh o p (inr x) (inr y) = one_end (one_surface_of mesh)
    (λ sewn _ s t a b. says_same (sewn_text read.0 origins sewn) (sewn_text read.0 origins sewn) s t refl a.says b.says) o p x.1 y.1

-- there is one evidence that is chosen
pub one_class : (mesh : Mesh) (walk : List ℕ) (other : Option (List ℕ)) → IsSurface mesh → AreClosed mesh walk other →
    HasOneOutcome (GivesClass mesh walk other)
one_class mesh walk other surface closed o p x y =
    let one = class_evidence_is_one mesh surface walk other closed in
    says_same (evidence_text (evidence_words other).0 (evidence_words other).1 x.evidence) (evidence_text (evidence_words other).0 (evidence_words other).1 y.evidence) o p
    (ap (evidence_text (evidence_words other).0 (evidence_words other).1) (one.2 x.evidence x.chosen ∙ sym (one.2 y.evidence y.chosen))) x.says y.says

pub one_evidence_text : (bytes : List ℕ) → IsOne (IsEvidenceText bytes)
one_evidence_text bytes = one_result (refused_by evidence_cause (evidence_in bytes))

-- right evidence has no fault
pub one_judged_evidence : (mesh : Mesh) (walk : List ℕ) (evidence : Evidence) → HasOneOutcome (JudgesEvidence mesh walk evidence)
one_judged_evidence mesh walk evidence o p (inl x) (inl y) = x.1 ∙ sym y.1
one_judged_evidence mesh walk evidence o p (inl x) (inr y) = absurd (y.excludes x.0)
one_judged_evidence mesh walk evidence o p (inr x) (inl y) = absurd (x.excludes y.0)
one_judged_evidence mesh walk evidence o p (inr x) (inr y) =
    x.text
    ∙ ap (λ fault. answers 1 (wrong_line fault))
    (class_faults_are_one mesh (parity mesh walk) evidence x.fault y.fault x.isnt_memory y.isnt_memory x.is_fault y.is_fault)
    ∙ sym y.text

-- there is one walk that is chosen
pub one_shortest : (mesh : Mesh) (lengths walk : List ℕ) → IsSurface mesh → ArePositive mesh lengths → IsClosed mesh walk →
    HasOneOutcome (GivesShortestWalk mesh lengths walk)
one_shortest mesh lengths walk surface positive closed o p x y =
    let one = chosen_walk_is_one mesh lengths walk surface positive closed in
    says_same (measured_line "shortest " (walk_length mesh lengths x.found) x.found) (measured_line "shortest " (walk_length mesh lengths y.found) y.found) o p
    (ap (λ (w : List ℕ). measured_line "shortest " (walk_length mesh lengths w) w) (one.2 x.found x.chosen ∙ sym (one.2 y.found y.chosen))) x.says y.says

-- ---- what is found on a surface that is made

abbrev text_in : Outcome → List ℕ
text_in (answers s t) = t
text_in (refuses s l) = l
text_in misses = []

one_loops_total : (mesh : Mesh) (lengths : List ℕ) (n m : ℕ) → IsSurface mesh → ArePositive mesh lengths → LoopsTotal mesh lengths n →
    LoopsTotal mesh lengths m → n ≡ m
one_loops_total mesh lengths n m surface long x y =
    x.is ∙ ap total_size (loops_are_one mesh lengths 0 x.found.trees y.found.trees surface long x.found.chosen y.found.chosen) ∙ sym y.is

one_basis_total : (mesh : Mesh) (lengths : List ℕ) (n m : ℕ) → IsSurface mesh → ArePositive mesh lengths → BasisTotals mesh lengths n →
    BasisTotals mesh lengths m → n ≡ m
one_basis_total mesh lengths n m surface long x y =
    x.is ∙ ap total_size (bases_are_one mesh lengths x.found.trees y.found.trees surface long x.found.chosen y.found.chosen x.found.basis y.found.basis x.found.is_basis y.found.is_basis) ∙ sym y.is

one_cycle_measure : (mesh : Mesh) (lengths : List ℕ) (n m : ℕ) → IsSurface mesh → ArePositive mesh lengths → CycleMeasures mesh lengths n →
    CycleMeasures mesh lengths m → n ≡ m
one_cycle_measure mesh lengths n m surface long x y =
    x.is
    ∙ ap (λ (c : Loop). walk_length mesh lengths c.walk)
    (firsts_are_one mesh lengths x.found.trees y.found.trees surface long x.found.chosen y.found.chosen x.found.first y.found.first x.found.rest y.found.rest x.found.is_first y.found.is_first)
    ∙ sym y.is

pub one_summary : (mesh : Mesh) (lengths : List ℕ) → IsSurface mesh → ArePositive mesh lengths → HasOneOutcome (GivesSummary mesh lengths)
one_summary mesh lengths surface long o p x y =
    let facts : x.facts ≡ y.facts = ap text_in (one_info mesh (answers 0 x.facts) (answers 0 y.facts) x.informs y.informs) in
    x.text
    ∙ ap (λ (t : List ℕ). answers 0 (t ++ measures_text x.loops x.basis x.cycle)) facts
    ∙ ap (λ n. answers 0 (y.facts ++ measures_text n x.basis x.cycle)) (one_loops_total mesh lengths x.loops y.loops surface long x.loops_total y.loops_total)
    ∙ ap (λ n. answers 0 (y.facts ++ measures_text y.loops n x.cycle)) (one_basis_total mesh lengths x.basis y.basis surface long x.basis_totals y.basis_totals)
    ∙ ap (λ n. answers 0 (y.facts ++ measures_text y.loops y.basis n)) (one_cycle_measure mesh lengths x.cycle y.cycle surface long x.cycle_measures y.cycle_measures)
    ∙ sym y.text
