-- The texts of a typed package's statuses, as a caller sees them.
use Rattle.std.specs.Prelude.{◌≡◌, ℕ, Bool, true, not, ◌&&◌, List, []}
use Rattle.std.specs.List.{list_all}
use Rattle.wf_text.specs.declared.rules.Refusal.{Refusal}
use Rattle.wf_ast.specs.ParsedParts.{Parsed}
use Rattle.wf_tokens.specs.Runs.{is_run, is_text_byte}
use Rattle.wf_ast.specs.ReadPackage.{decls_of}
use Rattle.wf_parse.specs.Parsing.{IsParsed}
use Rattle.wf_names_resolve.specs.Package.{resolved_package}
use Rattle.wf_types_rules.specs.TypeRules.{Breaks}
use Rattle.wf_types_rules.specs.Judgements.{two_questions}
use Rattle.wf_typed_tree.specs.ElaboratedPackage.{typed_package}

-- Bytes that may stand between quotes, with no two `?` in a row.
abbrev pub is_plain_text : List ℕ → Bool
is_plain_text text = list_all is_text_byte text && not (two_questions text)

-- So is each of them in a package that is read under a name of letters, digits and `_`, and keeps the rules of types, in whatever
-- order its methods stand.
abbrev pub ReadStatusesArePlain : Type 0
ReadStatusesArePlain =
    (name : List ℕ) (files : List (List ℕ)) (read : Parsed) → IsParsed name files read → list_all is_run name ≡ true
    → ((refusal : Refusal) → Breaks (resolved_package read.name read.texts (decls_of read) [] []) refusal → ⊥)
    → (order struct_order : List ℕ) → list_all is_plain_text (typed_package (resolved_package read.name read.texts (decls_of read) order struct_order)).statuses ≡ true
