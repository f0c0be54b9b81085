use Rattle.wf_script_drive.proofs.Numbers.{own_numbers}
use Rattle.wf_script_drive.proofs.laws.surfaces_have_own_numbers.Goals as goal

pub returns : goal.returns
returns c = own_numbers
