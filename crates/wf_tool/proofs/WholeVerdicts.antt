-- Every package has a verdict: its files are read or refused; one refusal decides of names, or none; one of types, or none;
-- bounds refuse it, or they don't; and one refusal decides of points, or none.
use Rattle.std.proofs.Common.{◌≡◌, ◌⊎◌, inl, inr, ℕ, List, Option, None, Some, refl}
use Rattle.wf_text.specs.declared.rules.Refusal.{Refusal}
use Rattle.wf_text.specs.Precedence.{Decides}
use Rattle.wf_ast.specs.ParsedParts.{Parsed}
use Rattle.wf_ast.specs.ReadPackage.{decls_of}
use Rattle.wf_parse.specs.Parsing.{IsParsed}
use Rattle.wf_parse_laws.specs.ReadingLaws.{IsReadOrRefused}
use Rattle.wf_parse_laws.proofs.Files.{read-or-refused}
use Rattle.wf_names_rules.specs.Declarations.{declared}
use Rattle.wf_names_verdicts.proofs.Names.{names-are-decided}
use Rattle.wf_types_rules.specs.FirstBreak.{deciding}
use Rattle.wf_types_rules.proofs.FirstBreakLaws.{deciding-decides}
use Rattle.wf_bounds_laws.proofs.DecidedPoints.{points_are_decided}
use Rattle.wf_tool.specs.Sizes.{too_large}
use Rattle.wf_tool.specs.Verdict.{BreaksNames, KeepsNames, resolved, BreaksTypes, KeepsTypes, out_of_bounds_at, BreaksPoints, method_count, IsAccepted, IsRefused, VerdictsExist, large, misread, misnamed, mistyped, out_of_bounds, has_too_many_points}

module _ (name : List ℕ) (files : List (List ℕ)) (read : Parsed) (sized : too_large files ≡ None) (parsed : IsParsed name files read) (names : KeepsNames read) where
  abbrev Answer : Type 0
  Answer = IsAccepted name files (method_count read) ⊎ ((refusal : Refusal) × IsRefused name files refusal)

  by-points : KeepsTypes read → out_of_bounds_at read ≡ None → (found : Option Refusal) → Decides (BreaksPoints read) found → Answer
  by-points types bounds None h = inl (record { sized = sized; read = read; parsed = parsed; names = names; types = types; bounds = bounds; points = h; counted = refl })
  by-points types bounds (Some refusal) h =
      inr (refusal, has_too_many_points (record { sized = sized; read = read; parsed = parsed; names = names; types = types; bounds = bounds; decides = h }))

  by-bounds : KeepsTypes read → (found : Option Refusal) → out_of_bounds_at read ≡ found → Answer
  by-bounds types None h = let d = points_are_decided (resolved read) in by-points types h d.0 d.1
  by-bounds types (Some refusal) h = inr (refusal, out_of_bounds (record { sized = sized; read = read; parsed = parsed; names = names; types = types; first = h }))

  by-types : (found : Option Refusal) → Decides (BreaksTypes read) found → Answer
  by-types None h = by-bounds h (out_of_bounds_at read) refl
  by-types (Some refusal) h = inr (refusal, mistyped (record { sized = sized; read = read; parsed = parsed; names = names; decides = h }))

-- One refusal decides of names, or none; the files are read, or refused.
module _ (name : List ℕ) (files : List (List ℕ)) where
  abbrev Verdict : Type 0
  Verdict = ((methods : ℕ) × IsAccepted name files methods) ⊎ ((refusal : Refusal) × IsRefused name files refusal)

  told : (read : Parsed) → IsAccepted name files (method_count read) ⊎ ((refusal : Refusal) × IsRefused name files refusal) → Verdict
  told read (inl a) = inl (method_count read, a)
  told read (inr r) = inr r

  by-names : too_large files ≡ None → (read : Parsed) → IsParsed name files read → (found : Option Refusal) → Decides (BreaksNames read) found → Verdict
  by-names sized read parsed None h = told read (by-types name files read sized parsed h (deciding (resolved read)) (deciding-decides (resolved read)))
  by-names sized read parsed (Some refusal) h = inr (refusal, misnamed (record { sized = sized; read = read; parsed = parsed; decides = h }))

  by-reading : too_large files ≡ None → IsReadOrRefused name files → Verdict
  by-reading sized (inl r) = let n = names-are-decided (declared r.0.texts (decls_of r.0)) in by-names sized r.0 r.1 n.0 n.1
  by-reading sized (inr r) = inr (r.0, misread (record { sized = sized; misread = r.1 }))

  by-size : (found : Option Refusal) → too_large files ≡ found → Verdict
  by-size None h = by-reading h (read-or-refused name files)
  by-size (Some refusal) h = inr (refusal, large h)

pub verdicts_exist : VerdictsExist
verdicts_exist name files = by-size name files (too_large files) refl
