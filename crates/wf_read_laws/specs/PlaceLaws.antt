-- The laws of places: in which files the parts of a package stand, and what it breaks of the rules of names.
use Rattle.std.specs.Prelude.{◌<◌, ℕ, List, length}
use Rattle.std.specs.List.{AllByRecursion}
use Rattle.wf_text.specs.declared.rules.Refusal.{Refusal}
use Rattle.wf_ast.specs.ParsedParts.{Parsed}
use Rattle.wf_ast.specs.ParsedTree.{DeclTree}
use Rattle.wf_ast.specs.ReadPackage.{decls_of}
use Rattle.wf_parse.specs.OneReading.{IsOfFile, IsOfFiles}
use Rattle.wf_parse.specs.Parsing.{IsParsed}
use Rattle.wf_names_rules.specs.Declarations.{declared}
use Rattle.wf_names_rules.specs.NameRules.{Breaks}
use Rattle.wf_read_laws.specs.Places.{AreIn}

-- A declaration whose tokens all stand in a file has all its names and places there.
abbrev pub DeclsAreInFiles : Type 0
DeclsAreInFiles = (file : ℕ) (decl : DeclTree) → IsOfFile file decl → AreIn file decl

-- What declarations of so many files break of the rules of names stands in one of these files.
abbrev pub BreaksHaveFiles : Type 0
BreaksHaveFiles = (count : ℕ) (texts : List (List ℕ)) (decls : List DeclTree) → AllByRecursion (IsOfFiles count) decls → (s : Refusal) → Breaks (declared texts decls) s → s.at.file < count

-- And so does what a package breaks that is read from files.
abbrev pub PackagesBreakInFiles : Type 0
PackagesBreakInFiles = (name : List ℕ) (files : List (List ℕ)) (p : Parsed) → IsParsed name files p → (s : Refusal) → Breaks (declared p.texts (decls_of p)) s → s.at.file < length files
