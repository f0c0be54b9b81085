use Rattle.wf_script_rules.proofs.TextLaws.{word_taken, none_taken}
use Rattle.wf_script_rules.proofs.text.Words.take.Goals as goal

pub returns-in-Ok : goal.returns-in-Ok
returns-in-Ok c = word_taken _ _ _ c.in-Ok.ensures

pub returns-in-Err : goal.returns-in-Err
returns-in-Err c = none_taken _ _ c.in-Err.ensures
