-- The lines that the program writes.
use Rattle.std.specs.Prelude.{ℕ, List, [], ◌∷◌, ◌++◌, codes, decimal}
use Rattle.wf_text.specs.RuleNames.{name_of}
use Rattle.wf_text.specs.declared.rules.Refusal.{Refusal}
use Rattle.wf_tool_runs.specs.declared.texts.TextFault.{TextFault}
use Rattle.wf_tool_runs.specs.declared.texts.TextFault.TheVariants.{TooLong, TooDeep, NotC, NoSuchForm}
use Rattle.wf_script_rules.specs.declared.rules.XRule.{XRule}
use Rattle.wf_script_rules.specs.declared.rules.XRule.TheVariants.{X1, X2, X3, X4, X5}

abbrev pub line_end : List ℕ
line_end = 10 ∷ []

abbrev pub usage_line : List ℕ
usage_line = codes "usage: wuffsc COMMAND PKG [SCRIPT] FILE" ++ line_end

-- `ok N methods`
unfoldable pub accepted_line : (methods : ℕ) → List ℕ
accepted_line methods = codes "ok " ++ (decimal methods ++ (codes " methods" ++ line_end))

-- `refused RULE FILE:LINE:COL`
unfoldable pub refused_line : (file : List ℕ) → Refusal → List ℕ
refused_line file refusal = codes "refused " ++ (name_of refusal.rule ++ (codes " " ++ (file ++ (codes ":" ++ (decimal refusal.at.line ++ (codes ":" ++ (decimal refusal.at.col ++ line_end)))))))

-- `input fault FILE`
abbrev pub fault_line : (file : List ℕ) → List ℕ
fault_line file = codes "input fault " ++ file ++ line_end

-- The name of a rule of scripts, as it is printed.
abbrev pub script_rule_name : XRule → List ℕ
script_rule_name X1 = codes "X1"
script_rule_name X2 = codes "X2"
script_rule_name X3 = codes "X3"
script_rule_name X4 = codes "X4"
script_rule_name X5 = codes "X5"

-- `script RULE line N`
unfoldable pub script_line : XRule → (line : ℕ) → List ℕ
script_line rule line = codes "script " ++ (script_rule_name rule ++ (codes " line " ++ (decimal line ++ line_end)))

-- `text long`, `text deep AT`, `text notc AT` or `text form ITEM`
unfoldable pub text_line : TextFault → List ℕ
text_line TooLong = codes "text long" ++ line_end
text_line (TooDeep at) = codes "text deep " ++ (decimal at ++ line_end)
text_line (NotC at) = codes "text notc " ++ (decimal at ++ line_end)
text_line (NoSuchForm item) = codes "text form " ++ (decimal item ++ line_end)
