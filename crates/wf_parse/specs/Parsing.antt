-- What it means that the files of a package are read to its tree, and that they are refused.
use Rattle.std.specs.Prelude.{◌≡◌, ◌<◌, ◌≤◌, ◌+◌, ◌-◌, ◌⊎◌, ℕ, suc, ⊤, Result, Ok, Err, Option, None, Some, List, [], ◌∷◌, ◌++◌, length, slice_get, nat_eq, if◌then◌else◌}
use Rattle.std.specs.Option.{option_map_or}
use Rattle.wf_text.specs.declared.faults.PhaseFault.{PhaseFault}
use Rattle.wf_text.specs.declared.faults.PhaseFault.TheVariants as phase
use Rattle.wf_text.specs.declared.place.Place.{Place}
use Rattle.wf_text.specs.declared.rules.Refusal.{Refusal}
use Rattle.wf_text.specs.declared.rules.Rule.{Rule}
use Rattle.wf_text.specs.declared.rules.Rule.TheVariants.{S5, S6, L3, L4, L5}
use Rattle.wf_ast.specs.ParsedParts.{Parsed}
use Rattle.wf_ast.specs.ParsedTree.{DeclTree}
use Rattle.wf_ast.specs.ReadPackage.{decls_of}
use Rattle.wf_parse_grammar.specs.declared.tokens.Token.{Token}
use Rattle.wf_parse_grammar.specs.Files.{IsLive}
use Rattle.wf_parse_grammar.specs.Refusals.{IsWithin, IsAccepted, IsRefused}
use Rattle.wf_tokens.specs.Places.{behind_bytes, first_place}
use Rattle.wf_parse.specs.Lexing.{IsWholeFile, AreTokensOf}

-- A file is read: its tokens, of which `most` may stand in the package, are those of a file of the grammar within
-- the limits, and these are the trees of its declarations. `known` are the package's texts before it, and `texts`
-- those after it.
pub record ReadsFile (number most : ℕ) (known : List (List ℕ)) (bytes : List ℕ) (texts : List (List ℕ)) (tokens : List Token) (trees : List DeclTree) : Type 0 where
  pub tokens_are : IsWholeFile number bytes known texts tokens
  pub accepted : IsAccepted tokens trees
  pub few : length tokens ≤ most

-- The token that passes the number of tokens: with it a file still begins, limits aside, and the tokens before it
-- are within the limits.
pub record IsPastTokens (most : ℕ) (tokens : List Token) (left : ℕ) : Type 0 where
  pub front : List Token
  pub t : Token
  pub back : List Token
  pub parts : tokens ≡ front ++ t ∷ back
  pub most_is : length front ≡ most
  pub place : left ≡ suc (length back)
  pub live : IsLive (front ++ t ∷ [])
  pub within : IsWithin front

-- Why the tokens are refused at the last `left` of them. At the token that passes the number of tokens one that can't
-- stand there is refused as such, and else the number refuses it, before brackets and statements.
abbrev pub IsWrong : (most : ℕ) → List Token → Rule → (left : ℕ) → Type 0
IsWrong most tokens S5 left = IsRefused tokens S5 left × (length tokens ≤ most + left)
IsWrong most tokens S6 left = IsRefused tokens S6 left × (length tokens ≤ most + left)
IsWrong most tokens L3 left = IsPastTokens most tokens left
IsWrong most tokens L4 left = IsRefused tokens L4 left × (length tokens < most + left)
IsWrong most tokens L5 left = IsRefused tokens L5 left × (length tokens < most + left)
IsWrong most tokens _ left = ⊥

-- The refusal at the token that has `left` tokens up to the file's end, itself counted; with none left it is the
-- file's end. Where the last token stands for bytes that are no token, these are refused by their own rule.
abbrev pub place_left : (end : Place) → List Token → (left : ℕ) → Place
place_left end tokens left = if nat_eq left 0 then end else option_map_or (λ t. t.at) (slice_get tokens (length tokens - left)) end

abbrev pub refusal_of : (end : Place) → List Token → (bytes_refused : Option Refusal) → Rule → (left : ℕ) → Refusal
refusal_of end tokens (Some refusal) rule left = if nat_eq left 1 then refusal else record { rule = rule; at = place_left end tokens left }
refusal_of end tokens None rule left = record { rule = rule; at = place_left end tokens left }

-- A file is refused, before which these texts are known.
pub record RefusesFile (number most : ℕ) (known : List (List ℕ)) (bytes : List ℕ) (refusal : Refusal) : Type 0 where
  pub texts : List (List ℕ)
  pub tokens : List Token
  pub bytes_refused : Option Refusal
  pub rule : Rule
  pub left : ℕ
  pub tokens_are : AreTokensOf number bytes known texts tokens bytes_refused
  pub wrong : IsWrong most tokens rule left
  pub is : refusal ≡ refusal_of (behind_bytes (first_place number) bytes) tokens bytes_refused rule left

-- Files in order, from the one with this number on, with the package's texts after them and the trees of their
-- declarations: `most` tokens are left for them, and `known` are the texts before them.
abbrev pub ReadsFiles : (number most : ℕ) → (known : List (List ℕ)) → (files : List (List ℕ)) → (texts : List (List ℕ)) → List DeclTree → Type 0
ReadsFiles number most known [] texts trees = (texts ≡ known) × (trees ≡ [])
ReadsFiles number most known (bytes ∷ files) texts trees =
    (between : List (List ℕ)) × (tokens : List Token) × (first others : List DeclTree)
    × ReadsFile number most known bytes between tokens first × ReadsFiles (number + 1) (most - length tokens) between files texts others × (trees ≡ first ++ others)

-- The first of them that is refused, with its refusal.
abbrev pub RefusesFiles : (number most : ℕ) → (known : List (List ℕ)) → (files : List (List ℕ)) → Refusal → Type 0
RefusesFiles number most known [] refusal = ⊥
RefusesFiles number most known (bytes ∷ files) refusal =
    RefusesFile number most known bytes refusal
    ⊎ ((between : List (List ℕ)) × (tokens : List Token) × (trees : List DeclTree)
    × ReadsFile number most known bytes between tokens trees × RefusesFiles (number + 1) (most - length tokens) between files refusal)

-- A package of this name, read from these files. Its texts are numbered in the order in which the files first have them.
pub record IsParsed (name : List ℕ) (files : List (List ℕ)) (p : Parsed) : Type 0 where
  pub named : p.name ≡ name
  pub read : ReadsFiles 0 262144 [] files p.texts (decls_of p)

-- The files are refused.
abbrev pub IsRefusedBy : (files : List (List ℕ)) → Refusal → Type 0
IsRefusedBy files refusal = RefusesFiles 0 262144 [] files refusal

abbrev pub AnswersParse : (name : List ℕ) → (files : List (List ℕ)) → Result Parsed PhaseFault → Type 0
AnswersParse name files (Ok p) = IsParsed name files p
AnswersParse name files (Err (phase.Refused refusal)) = IsRefusedBy files refusal
AnswersParse name files (Err phase.Memory) = ⊤
