use Rattle.std.proofs.Common.{◌∙◌}
use Rattle.wf_types_decls.proofs.packages.judge_rest.Goals as goal

pub round_methods-requires-clause-heads : goal.round_methods-requires-clause-heads
round_methods-requires-clause-heads c = c.as_slice.ensures ∙ c.requires.heads

pub judge_bodies-requires-clause-fields : goal.judge_bodies-requires-clause-fields
judge_bodies-requires-clause-fields c = c.as_slice-2.ensures ∙ c.requires.fields

pub judge_bodies-requires-clause-heads : goal.judge_bodies-requires-clause-heads
judge_bodies-requires-clause-heads c = c.as_slice-3.ensures ∙ c.requires.heads
