-- The two evaluators of constant expressions: that of the rules of types gives no value but that of the rules of names.
use Rattle.std.specs.Prelude.{◌≡◌, ◌<◌, ℕ, ◌^◌, true, List, map, Option, None, Some, option_map, slice_get}
use Rattle.std.specs.Bool.{⊤}
use Rattle.std.specs.List.{AllByRecursion}
use Rattle.wf_text.specs.declared.rules.Refusal.{Refusal}
use Rattle.wf_base.specs.declared.widths.Width.{Width}
use Rattle.wf_base.specs.BaseTable.{bits_of}
use Rattle.wf_ast.specs.ParsedParts.{Parsed}
use Rattle.wf_ast.specs.ParsedTree.{ExprTree}
use Rattle.wf_ast.specs.ReadPackage.{decls_of}
use Rattle.wf_ast.specs.WellFormed.{formed_expr}
use Rattle.wf_parse.specs.Parsing.{IsParsed}
use Rattle.wf_named.specs.NamedTree.{NamedPackageTree}
use Rattle.wf_names_rules.specs.Declarations.{Declared, declared, as_variable}
use Rattle.wf_names_rules.specs.NameRules.{Breaks}
use Rattle.wf_names_rules.specs.Meanings.{path_sort, known_at}
use Rattle.wf_names_rules.specs.Uses as uses
use Rattle.wf_names_rules.specs.Uses.{Use, Scope, uses_of}
use Rattle.wf_names_rules.specs.Sizes.{hidden_by}
use Rattle.wf_names_rules.specs.ConstantValues.{Sized, Valued, value_of, known_constants}
use Rattle.wf_names_resolve.specs.Package.{resolved_package}
use Rattle.wf_names_resolve.specs.Resolved.{resolved_expr}
use Rattle.wf_names_resolve.specs.Standing.{standing_at}
use Rattle.wf_types_rules.specs.declared.meanings.Meaning.{Meaning}
use Rattle.wf_types_rules.specs.declared.meanings.Meaning.TheVariants as meanings
use Rattle.wf_types_rules.specs.declared.meanings.Constant.{Constant}
use Rattle.wf_types_rules.specs.DeclaredTypes.{for_types, constants_of}
use Rattle.wf_types_rules.specs.ExprTypes.{meaning}
use Rattle.wf_types_rules.specs.Operands.{bits_in}

-- A number of a width, as the rules of names count it.
abbrev pub sized : Option Width → ℕ → Sized
sized width n = record { bits = option_map bits_of width; number = n }

-- Where an expression is a constant by the rules of types it has this value by the rules of names, which lies in its width.
abbrev pub HasValue : Option Sized → Option Meaning → Type 0
HasValue a None = ⊤
HasValue a (Some (meanings.Typed ty)) = ⊤
HasValue a (Some (meanings.Constant width n)) = (a ≡ Some (sized width n)) × (n < 2 ^ bits_in width)

-- The same of a declared constant.
abbrev pub HasConstant : Option Sized → Option Constant → Type 0
HasConstant a None = ⊤
HasConstant a (Some c) = (a ≡ Some (sized (Some c.width) c.value)) × (c.value < 2 ^ bits_of c.width)

-- A variable that is used stands for something.
abbrev pub IsKnown : Declared → Scope → Use → Type 0
IsKnown d scope (uses.variable path) = path_sort (known_at d scope) path ≡ None → ⊥
IsKnown d scope _ = ⊤

-- Of a package's constants, and of every expression as the grammar gives it whose names stand for something where all constants
-- are known. A local hides the constants of its name.
pub record HasOneValue (d : Declared) (p : NamedPackageTree) : Type 0 where
  pub constants : (i : ℕ) (c : Constant) → slice_get (constants_of p) i ≡ Some (Some c) → (v : Valued) × ((slice_get (known_constants d) i ≡ Some v) × HasConstant v.value (Some c))
  pub exprs : (scope : Scope) (e : ExprTree) → scope.constants ≡ map as_variable d.constants → formed_expr e ≡ true → AllByRecursion (IsKnown d scope) (uses_of e)
      → HasValue (value_of d (hidden_by scope.locals) (known_constants d) e) (meaning (for_types p) (resolved_expr (standing_at d scope) e))

-- So it is in a package that is read and keeps the rules of names.
abbrev pub ReadConstantsHaveOneValue : Type 0
ReadConstantsHaveOneValue =
    (name : List ℕ) (files : List (List ℕ)) (read : Parsed) → IsParsed name files read → ((refusal : Refusal) → Breaks (declared read.texts (decls_of read)) refusal → ⊥)
    → (order struct_order : List ℕ) → HasOneValue (declared read.texts (decls_of read)) (resolved_package read.name read.texts (decls_of read) order struct_order)
