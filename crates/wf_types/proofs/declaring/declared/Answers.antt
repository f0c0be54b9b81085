use Rattle.std.proofs.Common.{◌∙◌, refl}
use Rattle.wf_types.specs.DeclaredNodes.{declared_nodes}
use Rattle.wf_types.proofs.declaring.declared.Goals as goal

pub nothing_declared-requires : goal.nothing_declared-requires
nothing_declared-requires c = c.as_slice.ensures ∙ c.requires.around.statuses

pub structs-requires : goal.structs-requires
structs-requires c = c.as_slice-2.ensures ∙ c.requires.fields

pub methods-requires : goal.methods-requires
methods-requires c = c.as_slice-3.ensures ∙ c.requires.heads

pub returns : goal.returns
unfolding declared_nodes
returns c = rw (c.in_ok-all.ensures, c.in_ok-all-2.ensures, c.in_ok-all-3.ensures) refl
