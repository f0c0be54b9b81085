use Rattle.std.proofs.Common.{◌≡◌, ◌++◌, drop}
use Rattle.wf_names_decls.specs.Gathering.{field_names}
use Rattle.wf_names_decls.proofs.gathering.field_names.Given as goal

abbrev pub invariant-loop-field : goal.invariant-loop-field
invariant-loop-field l = l.names.items ++ field_names (drop l.field-index l.fields) ≡ field_names l.fields
