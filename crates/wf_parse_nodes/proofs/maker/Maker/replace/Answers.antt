use Rattle.wf_parse_nodes.proofs.Performing.{misfit_performed}
use Rattle.wf_parse_nodes.proofs.maker.Maker.replace.Goals as goal

pub returns-then-not-fits-clause-made : goal.returns-then-not-fits-clause-made
returns-then-not-fits-clause-made c = misfit_performed c.args.self.now.package c.args.self.now.values c.clear.new.self c.args.action c.takes.result.now c.fits.result c.takes.ensures c.fits.ensures c.if-not-fits.true c.clear.ensures
