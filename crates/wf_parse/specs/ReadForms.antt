-- The laws of what is read: it is as the grammar gives, its statements stand in order of place, and its declarations are few.
use Rattle.std.specs.Prelude.{◌≡◌, ◌≤◌, ℕ, true, List, [], length, map}
use Rattle.std.specs.List.{list_all}
use Rattle.wf_ast.specs.ParsedParts.{Parsed}
use Rattle.wf_tokens.specs.Spelling.{Item, IsTokensOf}
use Rattle.wf_ast.specs.ReadPackage.{IsRead, decls_of}
use Rattle.wf_ast.specs.StatementPlaces.{rise, bodies_rise}
use Rattle.wf_ast.specs.WellFormed.{well_formed}
use Rattle.wf_parse_grammar.specs.declared.tokens.Token.{Token}
use Rattle.wf_parse_grammar.specs.Grammar.{DeclForm, decl_before}
use Rattle.wf_parse_grammar.specs.Meaning.{decl_tree}
use Rattle.wf_parse.specs.Lexing.{IsWholeFile}
use Rattle.wf_parse.specs.Parsing.{IsParsed}
use Rattle.wf_parse.specs.TokenForms.{AreFormed}

-- The tokens of a file have what spelling gives.
abbrev pub TokensAreFormed : Type 0
TokensAreFormed = (file : ℕ) (bytes : List ℕ) (known texts : List (List ℕ)) (tokens : List Token) → IsWholeFile file bytes known texts tokens → AreFormed tokens

-- Of such tokens the grammar makes well formed declarations.
abbrev pub FormsAreWellFormed : Type 0
FormsAreWellFormed = (form : DeclForm) → AreFormed (decl_before form []) → well_formed (decl_tree form) ≡ true

-- All declarations of a package that is read are well formed.
abbrev pub PackagesAreWellFormed : Type 0
PackagesAreWellFormed = (name : List ℕ) (files : List (List ℕ)) (p : Parsed) → IsParsed name files p → list_all well_formed (decls_of p) ≡ true

-- Each token of a file stands before those that follow it.
abbrev pub TokensRise : Type 0
TokensRise = (file : ℕ) (bytes : List ℕ) (items : List Item) → IsTokensOf file bytes items → rise (map (λ item. item.at) items) ≡ true

-- The statements of a package that is read stand in order in its parsed tree.
abbrev pub ReadingRises : Type 0
ReadingRises = (name : List ℕ) (files : List (List ℕ)) (p : Parsed) → IsParsed name files p → bodies_rise (decls_of p) ≡ true

-- A package that is read has at most 65,536 declarations: of its at most 262,144 tokens each takes four or more.
abbrev pub DeclsAreFew : Type 0
DeclsAreFew = (name : List ℕ) (files : List (List ℕ)) (p : Parsed) → IsParsed name files p → length p.decls ≤ 65536

-- So all holds of it that a package of wf_ast keeps.
abbrev pub ParsedIsRead : Type 0
ParsedIsRead = (name : List ℕ) (files : List (List ℕ)) (p : Parsed) → IsParsed name files p → IsRead p
