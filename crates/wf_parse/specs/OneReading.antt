-- The laws of reading: that it gives one answer, and in which files its refusals and its declarations stand.
use Rattle.std.specs.Prelude.{◌≡◌, ◌<◌, ℕ, List, [], length}
use Rattle.std.specs.List.{AllByRecursion}
use Rattle.wf_text.specs.declared.rules.Refusal.{Refusal}
use Rattle.wf_ast.specs.ParsedParts.{Parsed, AreDistinct}
use Rattle.wf_ast.specs.ParsedTree.{DeclTree}
use Rattle.wf_ast.specs.ReadPackage.{decls_of}
use Rattle.wf_parse_grammar.specs.Grammar.{DeclForm, decl_before}
use Rattle.wf_parse_grammar.specs.Meaning.{decl_tree}
use Rattle.wf_parse.specs.Parsing.{IsParsed, IsRefusedBy}

-- Two packages are one tree.
pub record IsSameTree (p q : Parsed) : Type 0 where
  pub name : p.name ≡ q.name
  pub texts : p.texts ≡ q.texts
  pub decls : decls_of p ≡ decls_of q

-- Files are read to at most one tree.
abbrev pub TreesAreUnique : Type 0
TreesAreUnique = (name : List ℕ) (files : List (List ℕ)) (p q : Parsed) → IsParsed name files p → IsParsed name files q → IsSameTree p q

-- They are refused by at most one rule at one place.
abbrev pub RefusalsAreUnique : Type 0
RefusalsAreUnique = (files : List (List ℕ)) (refusal other : Refusal) → IsRefusedBy files refusal → IsRefusedBy files other → refusal ≡ other

-- Files that are read aren't refused.
abbrev pub NeverBoth : Type 0
NeverBoth = (name : List ℕ) (files : List (List ℕ)) (p : Parsed) (refusal : Refusal) → IsParsed name files p → IsRefusedBy files refusal → ⊥

-- Equal texts of a package that is read have equal numbers.
abbrev pub TextsAreDistinct : Type 0
TextsAreDistinct = (name : List ℕ) (files : List (List ℕ)) (p : Parsed) → IsParsed name files p → AreDistinct p.texts

-- A refusal stands in one of the files.
abbrev pub RefusalsHaveFiles : Type 0
RefusalsHaveFiles = (files : List (List ℕ)) (refusal : Refusal) → IsRefusedBy files refusal → refusal.at.file < length files

-- A declaration is what a form of the grammar means whose tokens all stand in this file.
pub record IsOfFile (file : ℕ) (decl : DeclTree) : Type 0 where
  pub form : DeclForm
  pub means : decl ≡ decl_tree form
  pub there : AllByRecursion (λ t. t.at.file ≡ file) (decl_before form [])

-- The same of one of so many files.
pub record IsOfFiles (count : ℕ) (decl : DeclTree) : Type 0 where
  pub file : ℕ
  pub below : file < count
  pub of : IsOfFile file decl

-- Each declaration of a package that is read stands in one of the files.
abbrev pub DeclsHaveFiles : Type 0
DeclsHaveFiles = (name : List ℕ) (files : List (List ℕ)) (p : Parsed) → IsParsed name files p → AllByRecursion (IsOfFiles (length files)) (decls_of p)
