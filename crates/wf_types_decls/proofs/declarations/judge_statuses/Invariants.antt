use Rattle.std.proofs.Common.{◌≡◌, drop, map}
use Rattle.wf_named.specs.NamedTrees.{word_at}
use Rattle.wf_types_rules.specs.declared.settings.Setting.{Setting}
use Rattle.wf_types_rules.specs.Parts.{status_declared}
use Rattle.wf_types_exprs.specs.Judged.{judged}
use Rattle.wf_types_decls.proofs.declarations.judge_statuses.Given as goal

abbrev pub invariant-loop-text : goal.invariant-loop-text
invariant-loop-text l =
    (s : Setting) → judged s l.found (map status_declared (map (word_at l.nodes.texts) (drop l.text-index l.nodes.statuses))) ≡ judged s l.fn.found (map status_declared (map (word_at l.nodes.texts) l.nodes.statuses))
