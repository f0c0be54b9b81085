use Rattle.wf_script_drive.proofs.Scripts.{script_sound, script_lawful}
use Rattle.wf_script_drive.proofs.laws.scripts_are_lawful.Goals as goal

pub returns-clause-declared : goal.returns-clause-declared
returns-clause-declared c = λ surface script own is. (script_sound surface script own is).sound.receivers

pub returns-clause-lawful : goal.returns-clause-lawful
returns-clause-lawful c = λ surface script own is. script_lawful surface script own is
