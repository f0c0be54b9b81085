-- What a call is of.
use Rattle.wf_script_rules.specs.Values.{Target as Of}
use Rattle.wf_script.specs.declared.declared.Target.{Target}

abbrev pub target_in : Target → Of
target_in target = record { receiver = target.receiver; method = target.method.now }
