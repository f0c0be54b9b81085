-- The right side of `=`: whether it is a call, and one that gives no value.
use Rattle.std.specs.Prelude.{Bool, false, Option, None, Some}
use Rattle.wf_named.specs.NamedTree.{NamedExprTree, answer, NamedCallTree, call}
use Rattle.wf_types_rules.specs.declared.settings.Setting.{Setting}
use Rattle.wf_types_rules.specs.Judgements.{gives_no_value}

-- The call that an expression is, if it is one.
abbrev pub call_in : NamedExprTree → Option NamedCallTree
call_in (answer c) = Some c
call_in e = None

abbrev pub call_lacks : Setting → NamedCallTree → Bool
call_lacks s (call callee at mark args) = gives_no_value s callee

abbrev pub lacks_value : Setting → NamedExprTree → Bool
lacks_value s (answer c) = call_lacks s c
lacks_value s e = false
