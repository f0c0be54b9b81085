use Rattle.wf_exprs.proofs.Prefixes.{list_all-at}
use Rattle.wf_lower_stmts.specs.BodyNodes.{is_spelt_method}
use Rattle.wf_lower.proofs.entries.Entry.new.Goals as goal

pub invariant_of-result : goal.invariant_of-result
invariant_of-result c = record { words = c.requires.words; spelt = list_all-at (is_spelt_method c.args.t.now) c.args.t.now.methods c.args.m.0 _ c.requires.words.method_words c.method.ensures }
