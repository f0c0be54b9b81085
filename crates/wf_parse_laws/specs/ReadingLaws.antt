-- That reading has an answer, for every file and every package.
use Rattle.std.specs.Prelude.{◌≡◌, ◌⊎◌, ℕ, List}
use Rattle.wf_text.specs.declared.rules.Refusal.{Refusal}
use Rattle.wf_ast.specs.ParsedParts.{Parsed}
use Rattle.wf_ast.specs.ParsedTree.{DeclTree}
use Rattle.wf_tokens.specs.Spelling.{Item, IsTokensOf, StopsAt}
use Rattle.wf_ast.specs.ReadPackage.{decls_of}
use Rattle.wf_parse.specs.Parsing.{IsParsed, IsRefusedBy}

-- All bytes of a file are tokens, or there is a first place at which none can be read.
abbrev pub BytesHaveTokens : Type 0
BytesHaveTokens = (file : ℕ) (bytes : List ℕ) → ((items : List Item) × IsTokensOf file bytes items) ⊎ ((items : List Item) × (refusal : Refusal) × StopsAt file bytes items refusal)

-- Each list of declarations is that of a package, under any name and with any texts.
abbrev pub TreesHaveNodes : Type 0
TreesHaveNodes = (name : List ℕ) (texts : List (List ℕ)) (decls : List DeclTree) → (p : Parsed) × (p.name ≡ name) × (p.texts ≡ texts) × (decls_of p ≡ decls)

-- The files are read to a package of this name, or refused.
abbrev pub IsReadOrRefused : (name : List ℕ) → (files : List (List ℕ)) → Type 0
IsReadOrRefused name files = ((p : Parsed) × IsParsed name files p) ⊎ ((refusal : Refusal) × IsRefusedBy files refusal)

-- So are all files, of whatever number and length.
abbrev pub FilesAreReadOrRefused : Type 0
FilesAreReadOrRefused = (name : List ℕ) (files : List (List ℕ)) → IsReadOrRefused name files
