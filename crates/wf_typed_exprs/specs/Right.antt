-- Expressions that break no rule.
use Rattle.std.specs.Prelude.{◌≡◌, ◌+◌, ℕ, ⊤, Bool, true, false, List, length, Option, Some, slice_get}
use Rattle.wf_ast.specs.declared.types.Ty.{Ty}
use Rattle.wf_ast.specs.declared.types.Ty.TheVariants as types
use Rattle.wf_ast.specs.WellTyped.{Context}
use Rattle.wf_named.specs.declared.nodes.NamedCall.{NamedCall}
use Rattle.wf_named.specs.declared.nodes.NamedPath.{NamedPath}
use Rattle.wf_named.specs.NamedTree.{NamedExprTree, answer, NamedPartTree, absent, present, NamedLinkTrees, no_link, link, NamedArgTrees, call}
use Rattle.wf_named.specs.WellNamed.{NamedScope, named_expr}
use Rattle.wf_named.specs.Grammar.{by_grammar}
use Rattle.wf_types_rules.specs.declared.meanings.Meaning.{Meaning}
use Rattle.wf_types_rules.specs.declared.meanings.Meaning.TheVariants as meanings
use Rattle.wf_types_rules.specs.declared.settings.Role.TheVariants as roles
use Rattle.wf_types_rules.specs.declared.settings.Role.{Role}
use Rattle.wf_types_rules.specs.declared.settings.Setting.{Setting}
use Rattle.wf_types_rules.specs.Meanings.{there, variable}
use Rattle.wf_types_rules.specs.ExprTypes.{meaning}
use Rattle.wf_types_rules.specs.DeclaredTypes.{may_be}
use Rattle.wf_typed_tree.specs.MeaningTrees.{Agree}

-- Each type in a list may stand there.
abbrev pub MayStand : Role → List (Option Ty) → Type 0
MayStand role tys = (n : ℕ) (ty : Ty) → there (slice_get tys n) ≡ Some ty → may_be role ty ≡ true

-- What stands round an expression in the body of a method: for its names, for its types, which are `s`, and in the typed
-- tree; `statuses` is the number of all statuses.
pub record Around (s : Setting) (statuses : ℕ) : Type 0 where
  pub names : NamedScope
  pub context : Context
  pub agree : Agree names s context
  pub fields : MayStand roles.Field s.fields
  pub args : MayStand roles.Arg s.args
  pub locals : MayStand roles.Local s.locals
  pub told : statuses ≡ 10 + length names.within.statuses

-- An expression that is by the grammar, keeps the rules of names, and means something.
pub record IsRight (s : Setting) (statuses : ℕ) (e : NamedExprTree) : Type 0 where
  pub around : Around s statuses
  pub grammar : by_grammar e ≡ true
  pub named : named_expr around.names e ≡ true
  pub of : Meaning
  pub means : meaning s e ≡ Some of

-- A path that stands for anything but a struct.
abbrev pub is_struct : Meaning → Bool
is_struct (meanings.Typed (types.Part part)) = true
is_struct m = false

pub record IsRightPath (s : Setting) (statuses : ℕ) (p : NamedPath) : Type 0 where
  pub around : Around s statuses
  pub of : Meaning
  pub means : variable s p.of ≡ Some of
  pub whole : is_struct of ≡ false

-- A call inside an expression, with some arguments.
pub record IsRightAnswer (s : Setting) (statuses : ℕ) (c : NamedCall) : Type 0 where
  pub args : NamedArgTrees
  pub right : IsRight s statuses (answer (call c.callee c.at c.mark args))

-- An end of a slice likewise, and the operands of a chain after its first.
abbrev pub IsRightEnd : Setting → ℕ → NamedPartTree → Type 0
IsRightEnd s statuses absent = ⊤
IsRightEnd s statuses (present e) = IsRight s statuses e

abbrev pub AreRight : Setting → ℕ → NamedLinkTrees → Type 0
AreRight s statuses no_link = ⊤
AreRight s statuses (link sign e others) = IsRight s statuses e × AreRight s statuses others
