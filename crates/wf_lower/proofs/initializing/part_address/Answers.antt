use Rattle.wf_exprs.proofs.Growing.{grows_on}
use Rattle.wf_exprs.proofs.Prefixes.{f_name}
use Rattle.wf_lower.proofs.initializing.part_address.Goals as goal

pub put_spelt-requires : goal.put_spelt-requires
put_spelt-requires c = f_name c.args.field.now c.requires

pub returns-clause-grows : goal.returns-clause-grows
returns-clause-grows c = grows_on (grows_on c.put_spelt.ensures.grows c.member_of_self.ensures.grows) c.address.ensures.grows
