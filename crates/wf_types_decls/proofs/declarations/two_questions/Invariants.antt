use Rattle.std.proofs.Common.{◌≡◌, drop}
use Rattle.wf_types_rules.specs.Judgements.{two_questions}
use Rattle.wf_types_decls.specs.Packages.{questions_behind}
use Rattle.wf_types_decls.proofs.declarations.two_questions.Given as goal

abbrev pub invariant-loop-byte : goal.invariant-loop-byte
invariant-loop-byte l = questions_behind l.before (drop l.byte-index l.text) ≡ two_questions l.text
