-- The verdict on a package, by the bytes of its files in order.
use Rattle.std.specs.Prelude.{ℕ, List, [], Option, None, Some, length, ◌≡◌, ◌<◌, ◌⊎◌}
use Rattle.wf_text.specs.declared.rules.Refusal.{Refusal}
use Rattle.wf_text.specs.Precedence.{IsFirst}
use Rattle.wf_ast.specs.ParsedParts.{Parsed}
use Rattle.wf_ast.specs.ReadPackage.{decls_of}
use Rattle.wf_parse.specs.Parsing.{IsParsed, IsRefusedBy}
use Rattle.wf_names_rules.specs.Declarations.{declared, methods_of}
use Rattle.wf_names_rules.specs.NameRules as names
use Rattle.wf_named.specs.NamedTree.{NamedPackageTree}
use Rattle.wf_names_resolve.specs.Package.{resolved_package}
use Rattle.wf_types_rules.specs.TypeRules as types
use Rattle.wf_bounds_laws.specs.BoundsRules as bounds
use Rattle.wf_tool.specs.Sizes.{too_large}

-- What a package that is read breaks of the rules of names: N1 to N8, L6 and L7.
abbrev pub BreaksNames : Parsed → Refusal → Type 0
BreaksNames read = names.Breaks (declared read.texts (decls_of read))

-- It keeps them all.
abbrev pub KeepsNames : Parsed → Type 0
KeepsNames read = (refusal : Refusal) → BreaksNames read refusal → ⊥

-- The package with every name standing for what it names. No rule that comes after those of names asks in which order its
-- methods call one another, so none is told here.
abbrev pub resolved : Parsed → NamedPackageTree
resolved read = resolved_package read.name read.texts (decls_of read) [] []

-- What it breaks of the rules of types and effects: T1 to T5 and E1 to E5.
abbrev pub BreaksTypes : Parsed → Refusal → Type 0
BreaksTypes read = types.Breaks (resolved read)

-- It keeps them all.
abbrev pub KeepsTypes : Parsed → Type 0
KeepsTypes read = (refusal : Refusal) → BreaksTypes read refusal → ⊥

-- What is refused of it by the rules of bounds, B1 to B12 and L8: the first requirement that isn't met.
abbrev pub out_of_bounds_at : Parsed → Option Refusal
out_of_bounds_at read = bounds.bounds_refusal (resolved read)

-- What it breaks of the rule of suspension points, L9.
abbrev pub BreaksPoints : Parsed → Refusal → Type 0
BreaksPoints read = bounds.BreaksPoints (resolved read)

-- It keeps it.
abbrev pub KeepsPoints : Parsed → Type 0
KeepsPoints read = (refusal : Refusal) → BreaksPoints read refusal → ⊥

-- How many methods are declared.
abbrev pub method_count : Parsed → ℕ
method_count read = length (methods_of (decls_of read))

-- The files are within the limits and of the grammar, and they keep the rules of names, of types and effects, of bounds and of
-- suspension points. So many methods are declared.
pub record IsAccepted (name : List ℕ) (files : List (List ℕ)) (methods : ℕ) : Type 0 where
  pub sized : too_large files ≡ None
  pub read : Parsed
  pub parsed : IsParsed name files read
  pub names : KeepsNames read
  pub types : KeepsTypes read
  pub bounds : out_of_bounds_at read ≡ None
  pub points : KeepsPoints read
  pub counted : methods ≡ method_count read

-- S, L3, L4 and L5: the files can't be read.
pub record IsMisread (files : List (List ℕ)) (refusal : Refusal) : Type 0 where
  pub sized : too_large files ≡ None
  pub misread : IsRefusedBy files refusal

-- N1 to N8, L6 and L7: the files are read, and this is the first refusal of all that they break of the rules of names.
pub record IsMisnamed (name : List ℕ) (files : List (List ℕ)) (refusal : Refusal) : Type 0 where
  pub sized : too_large files ≡ None
  pub read : Parsed
  pub parsed : IsParsed name files read
  pub decides : IsFirst (BreaksNames read) refusal

-- T1 to T5 and E1 to E5: the files are read and keep the rules of names, and this is the first refusal of all that they break
-- of the rules of types and effects.
pub record IsMistyped (name : List ℕ) (files : List (List ℕ)) (refusal : Refusal) : Type 0 where
  pub sized : too_large files ≡ None
  pub read : Parsed
  pub parsed : IsParsed name files read
  pub names : KeepsNames read
  pub decides : IsFirst (BreaksTypes read) refusal

-- B1 to B12 and L8: the files are read and keep the rules of names, of types and of effects, and this is the first
-- requirement of bounds that isn't met.
pub record IsOutOfBounds (name : List ℕ) (files : List (List ℕ)) (refusal : Refusal) : Type 0 where
  pub sized : too_large files ≡ None
  pub read : Parsed
  pub parsed : IsParsed name files read
  pub names : KeepsNames read
  pub types : KeepsTypes read
  pub first : out_of_bounds_at read ≡ Some refusal

-- L9: the files are read and keep all rules but that of suspension points, and this is the first refusal of the methods that
-- have too many.
pub record HasTooManyPoints (name : List ℕ) (files : List (List ℕ)) (refusal : Refusal) : Type 0 where
  pub sized : too_large files ≡ None
  pub read : Parsed
  pub parsed : IsParsed name files read
  pub names : KeepsNames read
  pub types : KeepsTypes read
  pub bounds : out_of_bounds_at read ≡ None
  pub decides : IsFirst (BreaksPoints read) refusal

-- Why a package is refused.
pub data IsRefused (name : List ℕ) (files : List (List ℕ)) (refusal : Refusal) : Type 0 where
  large : too_large files ≡ Some refusal → IsRefused name files refusal
  misread : IsMisread files refusal → IsRefused name files refusal
  misnamed : IsMisnamed name files refusal → IsRefused name files refusal
  mistyped : IsMistyped name files refusal → IsRefused name files refusal
  out_of_bounds : IsOutOfBounds name files refusal → IsRefused name files refusal
  has_too_many_points : HasTooManyPoints name files refusal → IsRefused name files refusal

-- A package isn't both accepted and refused, it is accepted with one number of methods, and it is refused in one way only.
pub record VerdictsExclude : Type 0 where
  pub one_answer : (name : List ℕ) (files : List (List ℕ)) (methods : ℕ) (refusal : Refusal) → IsAccepted name files methods → IsRefused name files refusal → ⊥
  pub one_count : (name : List ℕ) (files : List (List ℕ)) (methods other : ℕ) → IsAccepted name files methods → IsAccepted name files other → methods ≡ other
  pub one_refusal : (name : List ℕ) (files : List (List ℕ)) (refusal other : Refusal) → IsRefused name files refusal → IsRefused name files other → refusal ≡ other

-- Every package is accepted or refused, whatever its name and its files.
abbrev pub VerdictsExist : Type 0
VerdictsExist = (name : List ℕ) (files : List (List ℕ)) → ((methods : ℕ) × IsAccepted name files methods) ⊎ ((refusal : Refusal) × IsRefused name files refusal)

-- A refusal stands in one of the package's files.
abbrev pub RefusalsHaveFiles : Type 0
RefusalsHaveFiles = (name : List ℕ) (files : List (List ℕ)) (refusal : Refusal) → IsRefused name files refusal → refusal.at.file < length files
