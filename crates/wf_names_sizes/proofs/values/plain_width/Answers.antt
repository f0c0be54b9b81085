use Rattle.std.proofs.Common.{◌∙◌, sym}
use Rattle.wf_names_rules.specs.Declarations.{bytes_of}
use Rattle.wf_names_sizes.proofs.ValueLemmas.{plain_none, plain_some}
use Rattle.wf_names_sizes.proofs.values.plain_width.Goals as goal

pub returns-in-Some : goal.returns-in-Some
returns-in-Some c = rw c.in-Some.is (λ es. sym (plain_none (bytes_of c.args.parsed.now.texts) es c.args.of.now.prefixes c.args.of.now.core _))

pub returns-in-None : goal.returns-in-None
returns-in-None c = rw c.in-None.is (λ es. (rw c.in-None.is at c.numeric_width.ensures es) ∙ sym (plain_some (bytes_of c.args.parsed.now.texts) es c.args.of.now.prefixes c.args.of.now.core))
